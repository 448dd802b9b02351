-- Sets of places as numbers: two numbers with the same bits are one, so a set is in another exactly
-- if their common part is the set itself; and the set of the places at which a bulletin stands, bit
-- by bit.
use mathlib.Core.Bool.{Bool, true, false, cond, not, ◌&&◌, ◌||◌, false≢true}
use mathlib.Core.Path.{◌≡◌, refl, sym, ap, ◌∙◌}
use Prim.Native.Nat.{ℕ, zero, suc, ◌+◌, ◌*◌, ◌/◌, ◌%◌, ◌^◌, ◌<◌, ◌≤◌}
use native.Mathlib.Decide.{ℕ_discrete, dec_le}
use native.Mathlib.Nat.{pow-suc, one-mul, mod-eq_of_lt}
use native.Mathlib.Numerals.{add-one}
use native.Mathlib.Omega.{arith}
use borrow.Author.Tests.{eq-eqb, ne_eqb, eqb-true, lt-ltb, le-ltb}
use lib.Bits.{bit_and, bit_or, and_le_l}
use lib.Dec.{eqb, ltb}
use lib.Pow.{pow-lt}
use Rattle.lists.specs.Below.{all_below}
use Rattle.lists.proofs.Laws.{all_below_at, all_below_not, all_below_ext}
use Rattle.links.specs.Log.{bit}
use Rattle.links.proofs.Log.{bit_zero, bit_high}
use Rattle.planning.proofs.Bits.{bit_or_lem, bit_and_lem, bit-pow}
use Rattle.planning.proofs.Lowest.{bit_first, bit_half}
use Rattle.bulletins_spec.specs.declared.Bulletins.{Bulletins}
use Rattle.bulletins_spec.specs.State.{issuer_of, holds, stands, held_inside}
use Rattle.bulletins.specs.Sets.{standing_below}

-- from 64 up a set has no bits
pub bit_outside : (x s : ℕ) → x < 2 ^ 64 → 64 ≤ s → bit x s ≡ false
bit_outside x s small l = bit_high x 64 s small l

-- nothing is lost of a shift at 64 bits
pub shifted64 : (s : ℕ) → s < 64 → (1 * 2 ^ s) % 18446744073709551616 ≡ 2 ^ s
shifted64 s h =
    let l : 2 ^ s < 2 ^ 64 = pow-lt h in
    ap (λ (x : ℕ). x % 18446744073709551616) (one-mul (2 ^ s)) ∙ mod-eq_of_lt l

same_digit : (x y : ℕ) → eqb (x % 2) 1 ≡ eqb (y % 2) 1 → x % 2 ≡ y % 2
same_digit x y e =
    elim (ℕ_discrete (x % 2) 1) [
      | yes a ↦ (let b = eqb-true (y % 2) 1 (sym e ∙ eq-eqb (x % 2) 1 a) in omega arith)
      | no a ↦
          elim (ℕ_discrete (y % 2) 1) [
            | yes b ↦ absurd (a (eqb-true (x % 2) 1 (e ∙ eq-eqb (y % 2) 1 b)))
            | no b ↦ omega arith
          ]
    ]

bit_ext : (k x y : ℕ) → x < 2 ^ k → y < 2 ^ k → ((s : ℕ) → s < k → bit x s ≡ bit y s) → x ≡ y
bit_ext zero x y hx hy e = omega (arith, hx, hy)
bit_ext (suc k) x y hx hy e =
    let p = pow-suc 2 k in
    let halves : x / 2 ≡ y / 2 =
    bit_ext k (x / 2) (y / 2) (omega (arith, hx, p)) (omega (arith, hy, p))
    (λ s l. sym (bit_half x s) ∙ e (suc s) (omega arith) ∙ bit_half y s) in
    let digits : x % 2 ≡ y % 2 = same_digit x y (sym (bit_first x) ∙ e 0 (omega arith) ∙ bit_first y) in
    omega (arith, halves, digits)

-- a set is in another exactly if each of its places is
pub within_bits : (x a : ℕ) → x < 2 ^ 64 → eqb (bit_and x a) x ≡ all_below 64 (λ s. not (bit x s) || bit a s)
within_bits x a h = go (all_below 64 (λ s. not (bit x s) || bit a s)) refl
  where
    kept : (b c : Bool) → (not b || c) ≡ true → (b && c) ≡ b
    kept true true e = refl
    kept true false e = absurd (false≢true e)
    kept false c e = refl

    lost : (b c : Bool) → (not b || c) ≡ false → (b && c) ≡ b → ⊥
    lost true true e f = false≢true (sym e)
    lost true false e f = false≢true f
    lost false c e f = false≢true (sym e)

    go : (t : Bool) → all_below 64 (λ s. not (bit x s) || bit a s) ≡ t → eqb (bit_and x a) x ≡ t
    go true e =
        eq-eqb (bit_and x a) x
        (bit_ext 64 (bit_and x a) x (omega (arith, and_le_l x a, h)) h
        (λ s l. bit_and_lem x a s ∙ kept (bit x s) (bit a s) (all_below_at 64 (λ r. not (bit x r) || bit a r) e s l)))
    go false e =
        let r = all_below_not 64 (λ s. not (bit x s) || bit a s) e in
        ne_eqb (bit_and x a) x
        (λ q. lost (bit x r.0) (bit a r.0) r.2 (sym (bit_and_lem x a r.0) ∙ ap (λ (z : ℕ). bit z r.0) q))

-- the set of the places at which a bulletin stands
pub standing_more : (B : Bulletins) (s : ℕ)
    → standing_below B (s + 1) ≡ cond (stands B s) (bit_or (standing_below B s) (2 ^ s)) (standing_below B s)
unfolding standing_below
standing_more B s = rw (add-one s)

pub standing_bit : (B : Bulletins) (m s : ℕ) → bit (standing_below B m) s ≡ (ltb s m && stands B s)
unfolding standing_below
standing_bit B zero s = bit_zero s ∙ sym (ap (λ (b : Bool). b && stands B s) (le-ltb s 0 (omega arith)))
standing_bit B (suc m) s =
    elim (ℕ_discrete s m) [
      | yes e ↦ here e (stands B m) refl (standing_bit B m s)
      | no d ↦ elsewhere d (stands B m) ∙ standing_bit B m s ∙ ap (λ (b : Bool). b && stands B s) (same d)
    ]
  where
    or_no : (b : Bool) → (b || false) ≡ b
    or_no true = refl
    or_no false = refl

    elsewhere : (s ≡ m → ⊥) → (t : Bool) → bit (cond t (bit_or (standing_below B m) (2 ^ m)) (standing_below B m)) s ≡ bit (standing_below B m) s
    elsewhere d true =
        bit_or_lem (standing_below B m) (2 ^ m) s
        ∙ ap (λ (b : Bool). bit (standing_below B m) s || b) (bit-pow m s ∙ ne_eqb m s (λ q. d (sym q)))
        ∙ or_no (bit (standing_below B m) s)
    elsewhere d false = refl

    same : (s ≡ m → ⊥) → ltb s m ≡ ltb s (suc m)
    same d =
        elim (dec_le (suc s) m) [
          | yes l ↦ lt-ltb s m l ∙ sym (lt-ltb s (suc m) (omega arith))
          | no l ↦ le-ltb s m (omega arith) ∙ sym (le-ltb s (suc m) (omega arith))
        ]

    or_yes : (b : Bool) → (b || true) ≡ true
    or_yes true = refl
    or_yes false = refl

    here : s ≡ m → (t : Bool) → stands B m ≡ t → bit (standing_below B m) s ≡ (ltb s m && stands B s)
        → bit (cond t (bit_or (standing_below B m) (2 ^ m)) (standing_below B m)) s ≡ (ltb s (suc m) && stands B s)
    here e true q below =
        bit_or_lem (standing_below B m) (2 ^ m) s
        ∙ ap (λ (b : Bool). bit (standing_below B m) s || b) (bit-pow m s ∙ eq-eqb m s (sym e))
        ∙ or_yes (bit (standing_below B m) s)
        ∙ sym (rw (lt-ltb s (suc m) (omega arith)) (ap (stands B) e ∙ q))
    here e false q below =
        below
        ∙ ap (λ (b : Bool). b && stands B s) (le-ltb s m (omega arith))
        ∙ sym (rw (lt-ltb s (suc m) (omega arith)) (ap (stands B) e ∙ q))

-- what a station holds is inside its limits exactly if it is in that set
pub held_judged : (B : Bulletins) (p all : ℕ) → all ≡ standing_below B (4 * B.n)
    → all_below 64 (λ s. not (holds B p s) || bit all s) ≡ all_below 64 (held_inside B p)
held_judged B p all e =
    ap (λ (x : ℕ). all_below 64 (λ s. not (holds B p s) || bit x s)) e
    ∙ all_below_ext 64 _ _
    (λ s l.
    ap (λ (b : Bool). not (holds B p s) || b)
    (standing_bit B (4 * B.n) s ∙ ap (λ (b : Bool). b && stands B s) (below s)))
  where
    below : (s : ℕ) → ltb s (4 * B.n) ≡ ltb (issuer_of s) B.n
    below s =
        elim (dec_le (suc s) (4 * B.n)) [
          | yes l ↦ lt-ltb s (4 * B.n) l ∙ sym (lt-ltb (issuer_of s) B.n (omega arith))
          | no l ↦ le-ltb s (4 * B.n) (omega arith) ∙ sym (le-ltb (issuer_of s) B.n (omega arith))
        ]
