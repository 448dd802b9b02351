-- The frame check test by test: where one fails the definition's answer is known, and where all
-- hold they say what the later tests rest on.
use Rattle.std.specs.Prelude.{Result, Ok, Err, ⊤}
use mathlib.Core.Path.{◌≡◌, refl}
use mathlib.Core.Bool.{Bool, true, false, not, ◌&&◌, ◌||◌}
use mathlib.Core.List.{List}
use Prim.Native.Nat.{ℕ, ◌+◌, ◌*◌, ◌<◌, ◌≤◌}
use native.Mathlib.Omega.{arith}
use lib.Dec.{ltb, leb, eqb}
use lib.ListN.{get_or, length}
use borrow.Author.Tests.{leb-true, ltb-true, ltb-false, eqb-true, eqb-false, not-false, lt-ltb, le-ltb, le-leb, lt-leb, eq-eqb, ne_eqb}
use Rattle.bodies.specs.Refusals.{refuse}
use Rattle.bodies.specs.declared.refusals.Refusal.{Refusal}
use Rattle.bodies.specs.declared.refusals.Refusal.TheVariants.{BadNumber, BadShape, BadAddress, BadRecord, BadEdition}
use Rattle.bodies.specs.Limits.{is_edition}
use Rattle.lists.proofs.Laws.{and_left, and_right, or_left, or_right}
use Rattle.frame_spec.specs.Frame.{shape_wrong, address_wrong, records_inside, valid_number, frame_refusal, check_refusal}

-- the shape
module _ (s : List ℕ) where
  module _ (a : 4 ≤ length s) where
    module _ (b : get_or s 2 0 ≡ 0 → ⊥) where
      module _ (c : get_or s 2 0 ≤ 16) where
        pub by_length : get_or s 3 0 < 2 → not (eqb (length s) (4 + 16 * get_or s 2 0)) ≡ shape_wrong s
        unfolding shape_wrong
        by_length d = simp (le-ltb _ _ a, ne_eqb _ _ b, le-ltb _ _ c, lt-ltb _ _ d)

-- what a right shape says
pub record Shape (s : List ℕ) : Type 0 where
  pub some : 1 ≤ get_or s 2 0
  pub few : get_or s 2 0 ≤ 16
  pub known : get_or s 3 0 < 2
  pub long : length s ≡ 4 + 16 * get_or s 2 0

pub shape : (s : List ℕ) → shape_wrong s ≡ false → Shape s
unfolding shape_wrong
shape s h =
    let count = get_or s 2 0 in
    let a = ltb (length s) 4 || eqb count 0 in
    let b = a || ltb 16 count in
    let c = b || not (is_edition (get_or s 3 0)) in
    let h₃ = or_left c (not (eqb (length s) (4 + 16 * count))) h in
    let h₂ = or_left b (not (is_edition (get_or s 3 0))) h₃ in
    let h₁ = or_left a (ltb 16 count) h₂ in
    let none : count ≡ 0 → ⊥ = eqb-false _ _ (or_right (ltb (length s) 4) (eqb count 0) h₁) in
    record {
      some = omega arith;
      few = ltb-false _ _ (or_right a (ltb 16 count) h₂);
      known = ltb-true _ _ (not-false _ (or_right b (not (is_edition (get_or s 3 0))) h₃));
      long = eqb-true _ _ (not-false _ (or_right c (not (eqb (length s) (4 + 16 * count))) h));
    }

-- the address
not_below : (a b : ℕ) → leb b a ≡ not (ltb a b)
not_below a b = go (ltb a b) refl
  where
    go : (t : Bool) → ltb a b ≡ t → leb b a ≡ not t
    go true h = lt-leb b a (ltb-true a b h)
    go false h = le-leb b a (ltb-false a b h)

module _ (edition : ℕ) (s : List ℕ) (n own : ℕ) where
  module _ (e : get_or s 3 0 ≡ edition) where
    module _ (a : get_or s 0 0 ≡ n) where
      pub by_sender : (get_or s 1 0 ≡ own → ⊥) → leb n (get_or s 1 0) ≡ address_wrong edition s n own
      unfolding address_wrong
      by_sender b = simp (eq-eqb _ _ e, eq-eqb _ _ a, ne_eqb _ _ b) (not_below (get_or s 1 0) n)

-- what a right address says
pub record Address (edition : ℕ) (s : List ℕ) (n own : ℕ) : Type 0 where
  pub of_edition : get_or s 3 0 ≡ edition
  pub of_number : get_or s 0 0 ≡ n
  pub of_other : get_or s 1 0 ≡ own → ⊥
  pub of_station : get_or s 1 0 < n

pub address : (edition : ℕ) (s : List ℕ) (n own : ℕ) → address_wrong edition s n own ≡ false → Address edition s n own
unfolding address_wrong
address edition s n own h =
    let a = not (eqb (get_or s 3 0) edition) in
    let b = not (eqb (get_or s 0 0) n) in
    let c = eqb (get_or s 1 0) own in
    let d = not (ltb (get_or s 1 0) n) in
    let h₂ = or_left ((a || b) || c) d h in
    let h₁ = or_left (a || b) c h₂ in
    record {
      of_edition = eqb-true _ _ (not-false _ (or_left a b h₁));
      of_number = eqb-true _ _ (not-false _ (or_right a b h₁));
      of_other = eqb-false _ _ (or_right (a || b) c h₂);
      of_station = ltb-true _ _ (not-false _ (or_right ((a || b) || c) d h));
    }

-- the refusals in their order
module _ (edition : ℕ) (s : List ℕ) (n own : ℕ) where
  module _ (a : shape_wrong s ≡ false) where
    module _ (b : address_wrong edition s n own ≡ false) where
      pub accepted : records_inside edition s n ≡ true → Ok tt ≡ frame_refusal edition s n own
      unfolding frame_refusal
      accepted c = rw (a, b, c)

      pub refused_records : records_inside edition s n ≡ false → Err BadRecord ≡ frame_refusal edition s n own
      unfolding frame_refusal
      refused_records c = rw (a, b, c)

  module _ (a : valid_number n own ≡ true) where
    pub by_frame : is_edition edition ≡ true → frame_refusal edition s n own ≡ check_refusal edition s n own
    unfolding check_refusal
    by_frame e = rw (a, e)

-- what a valid number says
module _ (n own : ℕ) (v : valid_number n own ≡ true) where
  pub valid_few : n ≤ 16
  valid_few = leb-true n 16 (and_right (leb 1 n) (leb n 16) (and_left (leb 1 n && leb n 16) (ltb own n) v))

  pub valid_own : own < n
  valid_own = ltb-true own n (and_right (leb 1 n && leb n 16) (ltb own n) v)

-- what an accepted frame has
pub record Accepted (edition : ℕ) (s : List ℕ) (n own : ℕ) : Type 0 where
  pub shape_right : shape_wrong s ≡ false
  pub address_right : address_wrong edition s n own ≡ false
  pub records_right : records_inside edition s n ≡ true

chain :
    (a b c : Bool) →
    ◌≡◌ {A = Result ⊤ Refusal} (refuse a BadShape (refuse b BadAddress (refuse (not c) BadRecord (Ok tt)))) (Ok tt) →
    (a ≡ false) × (b ≡ false) × (c ≡ true)
chain true b c h = cc
chain false true c h = cc
chain false false true h = (refl, refl, refl)
chain false false false h = cc

pub accepted_frame : (edition : ℕ) (s : List ℕ) (n own : ℕ) → frame_refusal edition s n own ≡ Ok tt → Accepted edition s n own
unfolding frame_refusal
accepted_frame edition s n own h =
    let r = chain (shape_wrong s) (address_wrong edition s n own) (records_inside edition s n) h in
    record { shape_right = r.0; address_right = r.1; records_right = r.2 }

-- where the check accepts a frame, so does hearing, and the number and the edition are valid
pub record Passed (edition : ℕ) (s : List ℕ) (n own : ℕ) : Type 0 where
  pub number : valid_number n own ≡ true
  pub known : is_edition edition ≡ true
  pub heard : frame_refusal edition s n own ≡ Ok tt

valid :
    (v w : Bool) (rest : Result ⊤ Refusal) → refuse (not v) BadNumber (refuse (not w) BadEdition rest) ≡ Ok tt →
    (v ≡ true) × (w ≡ true) × (rest ≡ Ok tt)
valid true true rest h = (refl, refl, h)
valid true false rest h = cc
valid false w rest h = cc

module _ (edition : ℕ) (s : List ℕ) (n own : ℕ) (h : check_refusal edition s n own ≡ Ok tt) where
  pub check_passed : Passed edition s n own
  unfolding check_refusal
  check_passed =
      let r = valid (valid_number n own) (is_edition edition) (frame_refusal edition s n own) h in
      record { number = r.0; known = r.1; heard = r.2 }

  pub accepted_check : Accepted edition s n own
  accepted_check = accepted_frame edition s n own check_passed.heard

  pub frame_shape : Shape s
  frame_shape = shape s accepted_check.shape_right
