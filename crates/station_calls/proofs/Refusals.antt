-- Refusals one after the other, and what a call leaves in a lent buffer: what is refused leaves all
-- of it, and what is written from the front on is the front.
use mathlib.Core.Path.{◌≡◌, ap, ◌∙◌}
use mathlib.Core.Bool.{Bool, true, false, not}
use mathlib.Core.List.{List, ◌++◌}
use Prim.Native.Nat.{ℕ, ◌<◌, ◌≤◌}
use native.Mathlib.Nat.{zero-add}
use native.Mathlib.Omega.{arith}
use lib.ListN.{length, drop}
use lib.Seq.{sets, sets-eq}
use borrow.Author.Tests.{eq-eqb, ne_eqb, lt-ltb, le-ltb}
use Rattle.bodies.specs.Refusals.{done, outside_limits, short_buffer, refuse_number}
use Rattle.planning_spec.specs.Merge.{front_written}
use Rattle.station_calls.specs.Station.{or_else, room_refusal}

-- ---- refusals

pub first_refused : (c x : ℕ) → (c ≡ done → ⊥) → c ≡ or_else c x
first_refused c x d = rw (ne_eqb c done d)

pub first_done : (c x : ℕ) → c ≡ done → x ≡ or_else c x
first_done c x e = rw (eq-eqb c done e)

pub state_refused : (judged : Bool) (x : ℕ) → judged ≡ false → outside_limits ≡ or_else (refuse_number (not judged) outside_limits done) x
state_refused judged x h = rw h

pub state_taken : (judged : Bool) (x : ℕ) → judged ≡ true → x ≡ or_else (refuse_number (not judged) outside_limits done) x
state_taken judged x h = rw h

module _ (n : ℕ) (l : List ℕ) where
  pub no_room : length l < n → short_buffer ≡ room_refusal n l
  no_room h = rw (lt-ltb (length l) n h)

  pub room : n ≤ length l → done ≡ room_refusal n l
  room h = rw (le-ltb (length l) n h)

pub refused_is_2 : outside_limits ≡ done → ⊥
refused_is_2 h = omega (arith, h)

pub short_is_9 : short_buffer ≡ done → ⊥
short_is_9 h = omega (arith, h)

-- ---- lent buffers

pub kept_whole : (r : ℕ) (xs l : List ℕ) → (r ≡ done → ⊥) → l ≡ front_written r xs l
unfolding front_written
kept_whole r xs l d = rw (ne_eqb r done d)

pub front_made : (xs l m : List ℕ) → length xs ≤ length l → m ≡ sets l 0 xs → m ≡ front_written done xs l
unfolding front_written
front_made xs l m h e = e ∙ sets-eq xs l 0 (omega arith) ∙ ap (λ (j : ℕ). xs ++ drop j l) (zero-add (length xs))
