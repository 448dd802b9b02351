-- Logs as lists: a mask that is not there hears nobody, so nothing is heard past the end of a log
-- and no relay arrives there; and the masks of a log that was cut from one list are found by
-- counting.
use mathlib.Core.Bool.{false, not, false≢true, and-false}
use mathlib.Core.List.{List, []}
use mathlib.Core.Path.{◌≡◌, refl, sym, ◌∙◌, ap}
use Prim.Native.Nat.{ℕ, zero, suc, ◌+◌, ◌*◌, ◌/◌, ◌^◌, ◌<◌, ◌≤◌}
use native.Mathlib.Decide.{dec_le}
use native.Mathlib.Nat.{zero-div, zero-mul, one-mul, suc-mul, zero-add, pow-le-pow_right, div-lt_iff_lt-mul}
use native.Mathlib.Omega.{arith}
use borrow.Author.Tests.{lt-ltb, le-ltb, eq-eqb, ne_eqb}
use lib.Dec.{eqb, ltb}
use lib.Pow.{pow_pos}
use lib.ListN.{length, get_or, drop, get_or-eq_default}
use lib.Seq.{get_or-take, get_or-drop}
use Rattle.links.specs.Log.{bit, hears_in, masks_in, cut}
use Rattle.links.specs.Relay.{Relay, of_log}
use Rattle.links.proofs.Relay.{relay_heard}

pub bit_zero : (j : ℕ) → bit 0 j ≡ false
unfolding bit
bit_zero j = rw (zero-div (2 ^ j))

-- Bits above a number's size are not set.
pub bit_high : (mask k j : ℕ) → mask < 2 ^ k → k ≤ j → bit mask j ≡ false
unfolding bit
bit_high mask k j h l =
    let p : 2 ^ k ≤ 2 ^ j = pow-le-pow_right (omega arith) l in
    let q : mask / (2 ^ j) < 1 = (div-lt_iff_lt-mul (pow_pos j)).1 (rw (one-mul (2 ^ j)) (omega arith)) in
    let z : mask / (2 ^ j) ≡ 0 = omega arith in
    rw z

-- The code's own tests: a mask of sixteen bits has none from 16 up, and there is no mask past the
-- sixteenth.
pub bit_past : (mask j : ℕ) → mask < 65_536 → 16 ≤ j → bit mask j ≡ false
bit_past mask j h l = bit_high mask 16 j h l

pub bit_none : (masks : List ℕ) (i j : ℕ) → length masks ≤ i → bit (get_or masks i 0) j ≡ false
bit_none masks i j l = rw (get_or-eq_default masks 0 l) (bit_zero j)

-- Between two stations below n it is the bit alone that decides.
pub hears_in-bit : (n : ℕ) (masks : List ℕ) (i j : ℕ) → i < n → j < n → (i ≡ j → ⊥) → hears_in n masks i j ≡ bit (get_or masks i 0) j
unfolding hears_in
hears_in-bit n masks i j li lj d = rw (lt-ltb i n li, lt-ltb j n lj, ne_eqb i j d)

-- Without its bit a station hears nobody, whatever the numbers.
pub hears_in_unset : (n : ℕ) (masks : List ℕ) (i j : ℕ) → bit (get_or masks i 0) j ≡ false → hears_in n masks i j ≡ false
unfolding hears_in
hears_in_unset n masks i j e = rw (e, and-false (not (eqb i j)), and-false (ltb j n), and-false (ltb i n))

-- Nobody hears itself, and from n up nobody hears or is heard.
pub hears_in_own : (n : ℕ) (masks : List ℕ) (i j : ℕ) → i ≡ j → hears_in n masks i j ≡ false
unfolding hears_in
hears_in_own n masks i j e = rw (eq-eqb i j e, and-false (ltb j n), and-false (ltb i n))

pub hears_in_hearer : (n : ℕ) (masks : List ℕ) (i j : ℕ) → n ≤ i → hears_in n masks i j ≡ false
unfolding hears_in
hears_in_hearer n masks i j l = rw (le-ltb i n l)

pub hears_in_heard : (n : ℕ) (masks : List ℕ) (i j : ℕ) → n ≤ j → hears_in n masks i j ≡ false
unfolding hears_in
hears_in_heard n masks i j l = rw (le-ltb j n l, and-false (ltb i n))

-- Without its mask a station hears nobody.
pub hears_in_silent : (n : ℕ) (masks : List ℕ) (i j : ℕ) → get_or masks i 0 ≡ 0 → hears_in n masks i j ≡ false
hears_in_silent n masks i j e = hears_in_unset n masks i j (rw e (bit_zero j))

masks_past : (log : List (List ℕ)) (u : ℕ) → length log < u → masks_in log u ≡ []
unfolding masks_in
masks_past log zero l = refl
masks_past log (suc u) l = get_or-eq_default log [] (omega arith)

pub hears_past : (n : ℕ) (log : List (List ℕ)) (u p j : ℕ) → length log < u → (of_log n log).hears u p j ≡ false
hears_past n log u p j l = hears_in_silent n (masks_in log u) p j (rw (masks_past log u l))

pub relay_in_log : (n : ℕ) (log : List (List ℕ)) {a t b k : ℕ} → Relay (of_log n log) a t b k → k ≤ length log
relay_in_log n log {b = b} {k = k} r =
    elim (dec_le k (length log)) [
      | yes l ↦ l
      | no l ↦ absurd (false≢true (sym (hears_past n log k b (relay_heard r).0 (omega arith)) ∙ (relay_heard r).1))
    ]

-- In a log cut from one list, the mask of station i in round u + 1 stands at place u × n + i.
pub cut_mask : (n rounds : ℕ) (masks : List ℕ) (u i : ℕ) → u < rounds → i < n
    → get_or (masks_in (cut n rounds masks) (suc u)) i 0 ≡ get_or masks (u * n + i) 0
unfolding cut masks_in
cut_mask n zero masks u i lu li = absurd (omega arith)
cut_mask n (suc rounds) masks zero i lu li = rw (zero-mul n, zero-add i) (get_or-take n masks i 0 li)
cut_mask n (suc rounds) masks (suc u) i lu li =
    cut_mask n rounds (drop n masks) u i (omega arith) li
    ∙ get_or-drop n masks (u * n + i) 0
    ∙ ap (λ (k : ℕ). get_or masks k 0) (let e : suc u * n ≡ u * n + n = suc-mul u n in omega arith)

pub cut-length : (n rounds : ℕ) (masks : List ℕ) → length (cut n rounds masks) ≡ rounds
unfolding cut
cut-length n zero masks = refl
cut-length n (suc rounds) masks = ap suc (cut-length n rounds (drop n masks))
