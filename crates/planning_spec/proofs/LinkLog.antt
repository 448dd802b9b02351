-- What a log that is not refused has, and its hearings mask by mask. The tests of `log_refusal` are
-- taken one after the other; a log's mask of p in round u + 1 stands at place u × N + p, and its
-- bits are the hearings of the links.
use mathlib.Core.Bool.{Bool, true, false, cond, not, ◌&&◌, and-false}
use mathlib.Core.List.{List, []}
use mathlib.Core.Path.{◌≡◌, refl, sym, ap, ◌∙◌}
use Prim.Native.Nat.{ℕ, suc, ◌+◌, ◌*◌, ◌/◌, ◌%◌, ◌<◌, ◌≤◌}
use native.Mathlib.Decide.{ℕ_discrete, dec_le}
use native.Mathlib.Nat.{div-add-mod', suc-mul, mul-le-mul_right, mul-div_cancel, mul-mod_left}
use native.Mathlib.Omega.{arith}
use borrow.Author.Tests.{eq-eqb, ne_eqb, lt-ltb, le-ltb, le-leb, eqb-true, ltb-false, leb-true}
use lib.Dec.{eqb, ltb, leb}
use lib.ListN.{get_or, length, get_or-eq_default}
use Rattle.links.specs.Log.{bit, hears_in, masks_in, cut}
use Rattle.links.proofs.Log.{bit_zero, hears_in_own, hears_in-bit, hears_in_hearer, hears_in_silent, hears_past, cut_mask, cut-length}
use Rattle.planning_spec.specs.LinkLog.{rounds_of, links_of, log_refusal, mask_hears}

-- N is inside its limits, and so many masks are whole rounds, not too many.
pub record Accepted (n masks : ℕ) : Type 0 where
  pub some : 1 ≤ n
  pub few : n ≤ 16
  pub rounds : masks / n ≤ 2048
  pub whole : masks ≡ masks / n * n

pub accepted : (n masks : ℕ) → log_refusal n masks ≡ 0 → Accepted n masks
unfolding log_refusal
accepted n masks = go (leb 1 n) refl (leb n 16) refl (eqb (masks % n) 0) refl (ltb 2048 (masks / n)) refl
  where
    go : (a : Bool) → leb 1 n ≡ a → (b : Bool) → leb n 16 ≡ b → (d : Bool) → eqb (masks % n) 0 ≡ d → (e : Bool) → ltb 2048 (masks / n) ≡ e
        → ◌≡◌ {A = ℕ} (cond (not (a && b)) 1 (cond (not d) 12 (cond e 12 0))) 0 → Accepted n masks
    go false p b q d r e t h = absurd (omega arith)
    go true p false q d r e t h = absurd (omega arith)
    go true p true q false r e t h = absurd (omega arith)
    go true p true q true r true t h = absurd (omega arith)
    go true p true q true r false t h =
        record {
          some = leb-true 1 n p;
          few = leb-true n 16 q;
          rounds = ltb-false 2048 (masks / n) t;
          whole = let z : masks % n ≡ 0 = eqb-true (masks % n) 0 r in omega (arith, div-add-mod' masks n);
        }

-- The masks of a round stand inside the log.
pub round_inside : (u rounds n : ℕ) → u < rounds → u * n + n ≤ rounds * n
round_inside u rounds n h = let e : suc u * n ≡ u * n + n = suc-mul u n in omega (arith, mul-le-mul_right n h)

pub log_hears : (n : ℕ) (log : List ℕ) (u p j : ℕ) → u < rounds_of n log → p < n → j < n
    → mask_hears (get_or log (u * n + p) 0) p j ≡ (links_of n log).hears (suc u) p j
unfolding mask_hears
log_hears n log u p j h hp hj =
    elim (ℕ_discrete p j) [
      | yes e ↦ rw (eq-eqb p j e) (sym (hears_in_own n (masks_in (cut n (rounds_of n log) log) (suc u)) p j e))
      | no d ↦
          rw (ne_eqb p j d)
          (ap (λ (x : ℕ). bit x j) (sym (cut_mask n (rounds_of n log) log u p h hp))
          ∙ sym (hears_in-bit n (masks_in (cut n (rounds_of n log) log) (suc u)) p j hp hj d))
    ]

pub hears_in_mask : (n : ℕ) (masks : List ℕ) (p j x : ℕ) → p < n → get_or masks p 0 ≡ x
    → hears_in n masks p j ≡ (ltb j n && (not (eqb p j) && bit x j))
unfolding hears_in
hears_in_mask n masks p j x l e = rw (lt-ltb p n l, e)

-- A mask of 0 hears nobody.
pub no_bit : (n p j x : ℕ) → x ≡ 0 → (ltb j n && (not (eqb p j) && bit x j)) ≡ false
no_bit n p j x e = rw (e, bit_zero j, and-false (not (eqb p j)), and-false (ltb j n))

-- Who is heard in a log of whole rounds: the mask alone decides, and past the end of the log there
-- is none.
pub whole_hears : (n r : ℕ) (log : List ℕ) (u p j : ℕ) → length log ≡ r * n → p < n
    → (links_of n log).hears (suc u) p j ≡ (ltb j n && (not (eqb p j) && bit (get_or log (u * n + p) 0) j))
whole_hears n r log u p j e l =
    let q : length log / n ≡ r = ap (λ (k : ℕ). k / n) e ∙ mul-div_cancel r (omega arith) in
    elim (dec_le (suc u) r) [
      | yes h ↦
          hears_in_mask n (masks_in (cut n (length log / n) log) (suc u)) p j (get_or log (u * n + p) 0) l
          (cut_mask n (length log / n) log u p (omega arith) l)
      | no g ↦
          hears_past n (cut n (length log / n) log) (suc u) p j (omega (arith, cut-length n (length log / n) log))
          ∙ sym
          (no_bit n p j (get_or log (u * n + p) 0)
          (let w : r ≤ u = omega arith in get_or-eq_default log 0 (omega (arith, mul-le-mul_right n w))))
    ]

-- Nobody hears before round 1, and no station from n up hears.
pub hears_none : (n : ℕ) (log : List ℕ) (u p j : ℕ) → n ≤ p → (links_of n log).hears u p j ≡ false
hears_none n log u p j l = hears_in_hearer n (masks_in (cut n (rounds_of n log) log) u) p j l

pub hears_zero : (n : ℕ) (log : List ℕ) (p j : ℕ) → (links_of n log).hears 0 p j ≡ false
unfolding masks_in
hears_zero n log p j = hears_in_silent n [] p j refl

-- So many whole rounds are not refused.
pub whole_accepted : (n r : ℕ) → 1 ≤ n → n ≤ 16 → r ≤ 2048 → log_refusal n (r * n) ≡ 0
unfolding log_refusal
whole_accepted n r low high few =
    rw (le-leb 1 n low, le-leb n 16 high, mul-mod_left r n, mul-div_cancel r low, le-ltb 2048 r few)
