-- Lists, rows and columns that are changed place by place. Each record has a count of the places
-- done, and is the invariant of the loop that does them.
use mathlib.Core.Bool.{Bool, false, cond}
use mathlib.Core.List.{List}
use mathlib.Core.Path.{◌≡◌, refl, sym, ap, ◌∙◌}
use Prim.Native.Nat.{ℕ, suc, ◌+◌, ◌*◌, ◌<◌, ◌≤◌}
use native.Mathlib.Decide.{ℕ_discrete}
use native.Mathlib.Nat.{le_refl}
use native.Mathlib.Numerals.{add-one}
use native.Mathlib.Omega.{arith}
use lib.Bits.{bit_or}
use lib.ListN.{get_or, set, length, length-set}
use lib.Seq.{get_or-set_same, get_or-set_other}
use Rattle.lists.proofs.Later.{from_on}
use Rattle.planning.specs.Sets.{cell, FirstAre, RowIs, ColumnIs, united, with_receiver, learnt_set, Learnt}
use Rattle.links.specs.Log.{bit}

-- Two places are different.
apart : (p s q k : ℕ) → s < 16 → k < 16 → (q ≡ p → k ≡ s → ⊥) → 16 * q + k ≡ 16 * p + s → ⊥
apart p s q k a b d e = let x : q ≡ p = omega arith in let y : k ≡ s = omega arith in d x y

module _ (l : List ℕ) (p : ℕ) (f : ℕ → ℕ) where
  pub row_start : RowIs 0 l l p f
  row_start = record { size = refl; row = λ s h. absurd (omega arith); rest = λ q s h d. refl }

  pub row_more : (m : List ℕ) (s v : ℕ) → s < 16 → 16 * p + s < length l → RowIs s l m p f → v ≡ f s → RowIs (s + 1) l (set m (16 * p + s) v) p f
  row_more m s v h b r e =
      record {
        size = length-set m (16 * p + s) v ∙ r.size;
        row =
            λ k hk.
            elim (ℕ_discrete k s) [
              | yes q ↦ rw q (get_or-set_same m (16 * p + s) v 0 (omega (arith, r.size)) ∙ e)
              | no d ↦
                  get_or-set_other m (16 * p + s) (16 * p + k) v 0 (apart p s p k h (omega arith) (λ x y. d y)) ∙ r.row k (omega arith)
            ];
        rest =
            λ q k hk d.
            get_or-set_other m (16 * p + s) (16 * q + k) v 0 (apart p s q k h hk (λ x y. let z = d x in absurd (omega arith)))
            ∙ r.rest q k hk (λ x. let z = d x in omega arith);
      }

pub row_ext : (l m : List ℕ) (p : ℕ) (f g : ℕ → ℕ) → RowIs 16 l m p f → ((s : ℕ) → s < 16 → f s ≡ g s) → RowIs 16 l m p g
row_ext l m p f g a e = record { size = a.size; row = λ s i. a.row s i ∙ e s i; rest = a.rest }

-- A list that is changed place by place.
module _ (l : List ℕ) (f : ℕ → ℕ) where
  pub first_start : FirstAre 0 l l f
  first_start = record { size = refl; first = λ s h. absurd (omega arith); rest = λ s h. refl }

  pub first_next : (m : List ℕ) (s : ℕ) → FirstAre s l m f → get_or m s 0 ≡ get_or l s 0
  first_next m s r = r.rest s (le_refl s)

  pub first_more : (m : List ℕ) (s v : ℕ) → s < length l → FirstAre s l m f → v ≡ f s → FirstAre (s + 1) l (set m s v) f
  first_more m s v b r e =
      record {
        size = length-set m s v ∙ r.size;
        first =
            λ k hk.
            elim (ℕ_discrete k s) [
              | yes q ↦ rw q (get_or-set_same m s v 0 (omega (arith, r.size)) ∙ e)
              | no d ↦ get_or-set_other m s k v 0 d ∙ r.first k (omega arith)
            ];
        rest = λ k d. get_or-set_other m s k v 0 (λ x. absurd (omega arith)) ∙ r.rest k (omega arith);
      }

pub first_then : (l m k : List ℕ) (f g h : ℕ → ℕ) → FirstAre 16 l m f → FirstAre 16 m k g → ((s : ℕ) → s < 16 → g s ≡ h s) → FirstAre 16 l k h
first_then l m k f g h a b e =
    record { size = b.size ∙ a.size; first = λ s i. b.first s i ∙ e s i; rest = λ s d. b.rest s d ∙ a.rest s d }

pub first_ext : (l m : List ℕ) (f g : ℕ → ℕ) → FirstAre 16 l m f → ((s : ℕ) → s < 16 → f s ≡ g s) → FirstAre 16 l m g
first_ext l m f g a e = record { size = a.size; first = λ s i. a.first s i ∙ e s i; rest = a.rest }

pub first_same : (l : List ℕ) (f : ℕ → ℕ) → ((s : ℕ) → s < 16 → get_or l s 0 ≡ f s) → FirstAre 16 l l f
first_same l f e = record { size = refl; first = e; rest = λ s d. refl }

-- one more that is heard, or not
pub united_zero : (heard : ℕ → Bool) (f : ℕ → ℕ) (x : ℕ) → united 0 heard f x ≡ x
unfolding united
united_zero heard f x = refl

pub united_more : (heard : ℕ → Bool) (f : ℕ → ℕ) (x k : ℕ)
    → united (k + 1) heard f x ≡ cond (heard k) (bit_or (united k heard f x) (f k)) (united k heard f x)
unfolding united
united_more heard f x k = rw add-one

-- Where none is heard from k up to m, nothing is added.
pub united_silent : (heard : ℕ → Bool) (f : ℕ → ℕ) (x k m : ℕ) → k ≤ m → ((j : ℕ) → k ≤ j → j < m → heard j ≡ false)
    → united m heard f x ≡ united k heard f x
united_silent heard f x k m l none = from_on (λ i. i ≤ m → united i heard f x ≡ united k heard f x) k (λ h. refl) more m l (le_refl m)
  where
    more : (i : ℕ) → k ≤ i → (i ≤ m → united i heard f x ≡ united k heard f x) → suc i ≤ m → united (suc i) heard f x ≡ united k heard f x
    more i h before e =
        ap (λ (j : ℕ). united j heard f x) (sym (add-one i))
        ∙ united_more heard f x i
        ∙ ap (λ (b : Bool). cond b (bit_or (united i heard f x) (f i)) (united i heard f x)) (none i h (omega arith))
        ∙ before (omega arith)

-- Columns.
module _ (l : List ℕ) (s : ℕ) (f : ℕ → ℕ) where
  pub column_start : ColumnIs 0 l l s f
  column_start = record { size = refl; column = λ p h. absurd (omega arith); rest = λ p q h d. refl }

  pub column_more : (m : List ℕ) (p v : ℕ) → s < 16 → 16 * p + s < length l → ColumnIs p l m s f → v ≡ f p → ColumnIs (p + 1) l (set m (16 * p + s) v) s f
  column_more m p v h b r e =
      record {
        size = length-set m (16 * p + s) v ∙ r.size;
        column =
            λ k hk.
            elim (ℕ_discrete k p) [
              | yes q ↦ rw q (get_or-set_same m (16 * p + s) v 0 (omega (arith, r.size)) ∙ e)
              | no d ↦ get_or-set_other m (16 * p + s) (16 * k + s) v 0 (apart p s k s h h (λ x y. d x)) ∙ r.column k (omega arith)
            ];
        rest =
            λ k q hq d.
            get_or-set_other m (16 * p + s) (16 * k + q) v 0 (apart p s k q h hq (λ x y. let z = d y in absurd (omega arith)))
            ∙ r.rest k q hq (λ x. let z = d x in omega arith);
      }

-- Rows that a round makes.
module _ (n : ℕ) (mask : ℕ → ℕ) (l : List ℕ) where
  pub learnt_start : Learnt 0 n mask l l
  learnt_start = record { size = refl; sets = λ p s h i. absurd (omega arith); rest = λ p s h i. refl }

  pub learnt_more : (m k : List ℕ) (p : ℕ) → Learnt p n mask l m
      → RowIs 16 m k p (λ s. with_receiver p s (united n (bit (mask p)) (λ j. cell l j s) (cell l p s))) → Learnt (p + 1) n mask l k
  unfolding learnt_set
  learnt_more m k p a r =
      record {
        size = r.size ∙ a.size;
        sets =
            λ q s h i.
            elim (ℕ_discrete q p) [
              | yes e ↦
                  rw e (r.row s i)
              | no d ↦ r.rest q s i (λ e. absurd (d e)) ∙ a.sets q s (omega arith) i
            ];
        rest = λ q s h i. r.rest q s i (λ e. absurd (omega arith)) ∙ a.rest q s (omega arith) i;
      }
