-- A part of a list, replaced: it stands where it was put, the parts before it stay, and so does
-- what follows it.
use Prim.Native.Nat.{ℕ, ◌+◌, ◌≤◌}
use mathlib.Core.List.{List, ◌++◌}
use mathlib.Core.Path.{◌≡◌, sym, ap, ◌∙◌}
use native.Mathlib.Omega.{arith}
use lib.ListN.{take, drop, length, replicate, length-append, length-drop, length-replicate, replicate-append-replicate}
use lib.Seq.{length-take-le, take_at, drop_at, drop-drop}
use Rattle.rounds.proofs.WrittenFrames.{before_part}

-- the part of w entries from place a on
abbrev pub part : ℕ → ℕ → List ℕ → List ℕ
part w a l = take w (drop a l)

-- with another part in its place
abbrev pub with_part : ℕ → ℕ → List ℕ → List ℕ → List ℕ
with_part w a l made = take a l ++ (made ++ drop w (drop a l))

module _ (w a : ℕ) (l : List ℕ) (long : a + w ≤ length l) (made : List ℕ) (size : length made ≡ w) where
  front_long : length (take a l) ≡ a
  front_long = length-take-le a l (omega arith)

  rest_is : drop a (with_part w a l made) ≡ made ++ drop w (drop a l)
  rest_is = drop_at (take a l) (made ++ drop w (drop a l)) a front_long

  pub part_here : part w a (with_part w a l made) ≡ made
  part_here = ap (take w) rest_is ∙ take_at made (drop w (drop a l)) w size

  pub part_before : (m b : ℕ) → b + m ≤ a → part m b (with_part w a l made) ≡ part m b l
  part_before m b h = before_part m b a l (made ++ drop w (drop a l)) h (omega arith)

  pub part_after : drop (a + w) (with_part w a l made) ≡ drop (a + w) l
  part_after =
      sym (drop-drop w a (with_part w a l made)) ∙ ap (drop w) rest_is ∙ drop_at made (drop w (drop a l)) w size ∙ drop-drop w a l

  pub part_length : length (with_part w a l made) ≡ length l
  part_length =
      omega (
        arith,
        length-append (take a l) (made ++ drop w (drop a l)),
        length-append made (drop w (drop a l)),
        front_long,
        length-drop w (drop a l),
        length-drop a l,
      )

-- zeros
abbrev pub zeros_of : ℕ → List ℕ
zeros_of m = replicate m 0

module _ (w m : ℕ) where
  zeros_split : zeros_of (w + m) ≡ zeros_of w ++ zeros_of m
  zeros_split = sym (replicate-append-replicate {A = ℕ} w m 0)

  pub zeros_front : take w (zeros_of (w + m)) ≡ zeros_of w
  zeros_front = ap (take w) zeros_split ∙ take_at (zeros_of w) (zeros_of m) w (length-replicate {A = ℕ} w 0)

  pub zeros_rest : drop w (zeros_of (w + m)) ≡ zeros_of m
  zeros_rest = ap (drop w) zeros_split ∙ drop_at (zeros_of w) (zeros_of m) w (length-replicate {A = ℕ} w 0)
