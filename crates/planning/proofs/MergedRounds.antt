-- Writing round after round fills the buffer: after the rounds before place `at`, one round more
-- fills it up to at + n. A place that is a multiple of n and inside a log of whole rounds has a
-- whole round before the log's end.
use mathlib.Core.List.{List}
use mathlib.Core.Path.{◌≡◌, refl, sym, ap, ◌∙◌}
use Prim.Native.Nat.{ℕ, zero, suc, ◌+◌, ◌*◌, ◌/◌, ◌%◌, ◌<◌, ◌≤◌}
use native.Mathlib.Decide.{dec_le}
use native.Mathlib.Nat.{div-add-mod', mod-add-mod, add-mod_right, mod-eq_of_lt, mul-le-mul_right, add-zero, zero-add}
use native.Mathlib.Numerals.{add-one}
use native.Mathlib.Omega.{arith}
use lib.ListN.{length, set, length-set}
use Rattle.lists.specs.Below.{set_below}
use Rattle.lists.proofs.Laws.{set_below_more}
use Rattle.planning_spec.proofs.LinkLog.{round_inside}
use Rattle.planning.specs.MergedRounds.{fill_from}

pub length_from : (at n : ℕ) (f : ℕ → ℕ) (l : List ℕ) → length (fill_from at n f l) ≡ length l
unfolding fill_from
length_from at zero f l = refl
length_from at (suc p) f l = length-set (fill_from at p f l) (at + p) (f p) ∙ length_from at p f l

-- one place more, as a loop's counter has it
pub from_more : (at p : ℕ) (f : ℕ → ℕ) (l : List ℕ) → set (fill_from at p f l) (at + p) (f p) ≡ fill_from at (p + 1) f l
unfolding fill_from
from_more at p f l = rw add-one

pub from_ext : (at n : ℕ) (f g : ℕ → ℕ) (l : List ℕ) → ((p : ℕ) → p < n → f p ≡ g p) → fill_from at n f l ≡ fill_from at n g l
unfolding fill_from
from_ext at zero f g l h = refl
from_ext at (suc p) f g l h = rw (from_ext at p f g l (λ q b. h q (omega arith)), h p (omega arith))

pub from_set_below : (at n : ℕ) (f : ℕ → ℕ) (l : List ℕ) → fill_from at n (λ p. f (at + p)) (set_below at f l) ≡ set_below (at + n) f l
unfolding fill_from
from_set_below at zero f l = ap (λ (k : ℕ). set_below k f l) (sym (add-zero at))
from_set_below at (suc p) f l =
    ap (λ (b : List ℕ). set b (at + p) (f (at + p))) (from_set_below at p f l)
    ∙ set_below_more (at + p) f l
    ∙ ap (λ (k : ℕ). set_below k f l) (let e : at + p + 1 ≡ at + suc p = omega arith in e)

pub round_fits : (n r at len : ℕ) → at % n ≡ 0 → len ≡ r * n → at < len → at + n ≤ len
round_fits n r at len z e h =
    let q : at / n * n ≡ at = omega (arith, div-add-mod' at n) in
    elim (dec_le (suc (at / n)) r) [
      | yes l ↦ omega (arith, round_inside (at / n) r n l)
      | no g ↦ (let l : r ≤ at / n = omega arith in absurd (omega (arith, mul-le-mul_right n l)))
    ]

-- where a round begins, the next one begins n places later
pub next_round : (n at : ℕ) → at % n ≡ 0 → (at + n) % n ≡ 0
next_round n at z = add-mod_right at n ∙ z

pub station_of : (n at p : ℕ) → at % n ≡ 0 → p < n → (at + p) % n ≡ p
station_of n at p z h =
    sym (mod-add-mod at n p) ∙ ap (λ (x : ℕ). (x + p) % n) z ∙ ap (λ (x : ℕ). x % n) (zero-add p) ∙ mod-eq_of_lt h
