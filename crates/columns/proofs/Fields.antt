-- What stands in the columns: its length, the minus set into blanks, and one digit more from the
-- right.
use mathlib.Core.Path.{◌≡◌, refl, ap, ◌∙◌}
use mathlib.Core.Bool.{Bool, true, false, cond}
use mathlib.Core.List.{List, [], ◌∷◌, ◌++◌, append_assoc}
use Prim.Native.Nat.{ℕ, zero, suc, ◌+◌, ◌-◌, ◌/◌, ◌%◌, ◌≤◌, ◌<◌}
use native.Mathlib.Omega.{arith}
use lib.Dec.{ltb}
use lib.ListN.{length, set, drop, replicate, length-append, length-replicate, length-set}
use lib.Seq.{drop-cons, get_or-set_same, drop-set-lt}
use borrow.Author.Tests.{lt-ltb, le-ltb}
use Rattle.columns.specs.Writing.{lead, columns}

pub length-lead : (minus : Bool) (w : ℕ) → length (lead minus w) ≡ w
unfolding lead
length-lead false w = length-replicate w 32
length-lead true zero = refl
length-lead true (suc w) = simp (length-append, length-replicate) (omega arith)

pub length-columns : (minus : Bool) (w v : ℕ) → length (columns minus w v) ≡ w
unfolding columns
length-columns minus zero v = refl
length-columns minus (suc w) v = simp length-append (go (ltb v 10) (length-columns minus w (v / 10)))
  where
    go : (t : Bool) → length (columns minus w (v / 10)) ≡ w → length (cond t (lead minus w) (columns minus w (v / 10))) + 1 ≡ suc w
    go true e = rw length-lead (omega arith)
    go false e = omega arith

set_last : (w : ℕ) → set {A = ℕ} (replicate (suc w) 32) w 45 ≡ replicate w 32 ++ (45 ∷ [])
set_last zero = refl
set_last (suc w) = ap (λ (l : List ℕ). 32 ∷ l) (set_last w)

-- the minus goes into the last of the blanks
pub lead_minus : (w : ℕ) → 0 < w → set (lead false w) (w - 1) 45 ≡ lead true w
unfolding lead
lead_minus zero h = absurd (omega arith)
lead_minus (suc w) h = let e : suc w - 1 ≡ w = omega arith in rw e (set_last w)

-- the columns from i up, once the digit d stands in column i
drop-set : (part : List ℕ) (i d : ℕ) → i < length part → drop i (set part i d) ≡ d ∷ drop (suc i) part
drop-set part i d h =
    drop-cons (set part i d) i 0 (rw length-set h)
    ∙ rw (get_or-set_same part i d 0 h, drop-set-lt (suc i) part i d (omega arith))

module _ (minus : Bool) (v : ℕ) (part : List ℕ) {i j : ℕ} (next : i ≡ suc j) (inside : j < length part) where
  -- the last digit of a longer number
  pub digit_more : 10 ≤ v → columns minus i v ++ drop i part ≡ columns minus j (v / 10) ++ drop j (set part j (48 + v % 10))
  unfolding columns
  digit_more h = rw (next, le-ltb v 10 h, drop-set part j (48 + v % 10) inside, append_assoc)

  -- the only digit that is left
  pub digit_last : v < 10 → columns minus i v ++ drop i part ≡ lead minus j ++ drop j (set part j (48 + v % 10))
  unfolding columns
  digit_last h = rw (next, lt-ltb v 10 h, drop-set part j (48 + v % 10) inside, append_assoc)

-- no column, nothing before the first digit
pub lead_none : (minus : Bool) (w : ℕ) → w ≤ 0 → lead false w ≡ lead minus w
unfolding lead
lead_none false w h = refl
lead_none true zero h = refl
lead_none true (suc w) h = absurd (omega arith)
