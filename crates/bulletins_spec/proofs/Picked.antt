-- What is picked from a list of places: the places that pass the test, in their order; and a list
-- of notices in an answer is read back as it was.
use mathlib.Core.Bool.{Bool, true, false, cond, false≢true}
use mathlib.Core.List.Memᴰ
use mathlib.Core.List.{List, [], ◌∷◌, ◌++◌, Memᴰ}
use mathlib.Core.Logic.{◌⊎◌, inl, inr}
use mathlib.Core.Path.{◌≡◌, refl, sym, ap, ◌∙◌, subst}
use Prim.Native.Nat.{ℕ, ◌-◌}
use lib.ListN.{length, replicate}
use lib.Seq.{take-append_seam}
use Rattle.bulletins_spec.specs.declared.Notice.{Notice}
use Rattle.bulletins_spec.specs.Order.{picked}
use Rattle.bulletins_spec.specs.Calls.{no_notice, shown_of, notices}
use Rattle.bulletins_spec.specs.Claim.{Before, Ascends, Ascends.none, Ascends.more}
use Rattle.bulletins_spec.proofs.Order.{Pairwise, Pairwise.empty, Pairwise.also}

module _ (test : ℕ → Bool) (show : ℕ → Notice) where
  pub picked_from : (b : Notice) (l : List ℕ) → Memᴰ b (picked test show l) → (s : ℕ) × Memᴰ s l × (test s ≡ true) × (b ≡ show s)
  unfolding picked
  picked_from b [] m = absurd (Memᴰ.not-nil m)
  picked_from b (s ∷ l) m = go (test s) refl m (λ k. picked_from b l k)
    where
      later : ((r : ℕ) × Memᴰ r l × (test r ≡ true) × (b ≡ show r)) → (r : ℕ) × Memᴰ r (s ∷ l) × (test r ≡ true) × (b ≡ show r)
      later x = (x.0, Memᴰ.tail x.1, x.2, x.3)

      go : (t : Bool) → test s ≡ t → Memᴰ b (cond t (show s ∷ []) [] ++ picked test show l)
          → (Memᴰ b (picked test show l) → (r : ℕ) × Memᴰ r l × (test r ≡ true) × (b ≡ show r))
          → (r : ℕ) × Memᴰ r (s ∷ l) × (test r ≡ true) × (b ≡ show r)
      go true e k rest =
          elim (Memᴰ.cases_cons k) [ inl q ↦ (s, Memᴰ.head refl, e, q) | inr j ↦ later (rest j) ]
      go false e k rest = later (rest k)

  pub picked_has : (b : Notice) (l : List ℕ) (s : ℕ) → Memᴰ s l → test s ≡ true → b ≡ show s → Memᴰ b (picked test show l)
  unfolding picked
  picked_has b [] s m t e = absurd (Memᴰ.not-nil m)
  picked_has b (r ∷ l) s m t e = go (test r) refl (Memᴰ.cases_cons m) (λ k. picked_has b l s k t e)
    where
      go : (c : Bool) → test r ≡ c → (s ≡ r) ⊎ Memᴰ s l → (Memᴰ s l → Memᴰ b (picked test show l))
          → Memᴰ b (cond c (show r ∷ []) [] ++ picked test show l)
      go true q (inl a) rest = Memᴰ.head (e ∙ ap show a)
      go true q (inr k) rest = Memᴰ.tail (rest k)
      go false q (inl a) rest = absurd (false≢true (sym q ∙ sym (ap test a) ∙ t))
      go false q (inr k) rest = rest k

  pub picked-ascends : (R : ℕ → ℕ → Type 0) (l : List ℕ) → Pairwise R l
      → ((s r : ℕ) → Memᴰ s l → Memᴰ r l → test s ≡ true → test r ≡ true → R s r → Before (show s) (show r))
      → Ascends (picked test show l)
  unfolding picked
  picked-ascends R l empty h = none
  picked-ascends R l (also {s = s} {l = rest} first p) h =
      go (test s) refl (picked-ascends R rest p (λ t r a b. h t r (Memᴰ.tail a) (Memᴰ.tail b)))
    where
      go : (t : Bool) → test s ≡ t → Ascends (picked test show rest) → Ascends (cond t (show s ∷ []) [] ++ picked test show rest)
      go true e k =
          more {a = show s} {l = picked test show rest}
          (λ b m.
          let x = picked_from b rest m in
          subst (λ (y : Notice). Before (show s) y) (sym x.3)
          (h s x.0 (Memᴰ.head refl) (Memᴰ.tail x.1) e x.2 (first x.0 x.1)))
          k
      go false e k = k

pub notices_shown : (l : List Notice) → notices (shown_of l) ≡ l
unfolding shown_of
notices_shown l = take-append_seam l (replicate (64 - length l) no_notice)
