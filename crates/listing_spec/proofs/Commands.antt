-- Which commands a line can be: before a size is known only an `N` line of 1 to 16, after that only
-- posts and rounds.
use Prim.Native.Nat.{ℕ, ◌≤◌}
use mathlib.Core.Path.{◌≡◌, refl}
use mathlib.Core.Bool.{Bool, true, false, cond, ◌&&◌}
use mathlib.Core.List.{List}
use native.Mathlib.Omega.{arith}
use lib.Dec.{leb, eqb}
use lib.ListN.{get_or}
use borrow.Author.Tests.{ne_eqb, leb-true}
use Rattle.lists.proofs.Laws.{and_left, and_right}
use Rattle.script.specs.declared.Command.{Command}
use Rattle.script.specs.declared.Command.TheVariants.{Size, Post, Round, Malformed}
use Rattle.script.specs.Line.{natural_of, field_of, shaped, size_line, post_shaped, post_line, masks_inside, round_line, command_of}

-- what is wanted after the size
abbrev pub Later : Command → Type 0
Later (Size n) = ⊥
Later (Post station kind event argument) = Unit {0}
Later Round = Unit {0}
Later Malformed = Unit {0}

-- what is wanted first
abbrev pub First : Command → Type 0
First (Size n) = (1 ≤ n) × (n ≤ 16)
First (Post station kind event argument) = ⊥
First Round = ⊥
First Malformed = Unit {0}

post_later : (l : List ℕ) → Later (post_line l)
unfolding post_line
post_later l = go (post_shaped l) _ tt
  where
    go : (t : Bool) (k : Command) → Later k → Later (cond t k Malformed)
    go true k h = h
    go false k h = tt

round_later : (n : ℕ) (l : List ℕ) → Later (round_line n l)
unfolding round_line
round_later n l = go (shaped l 82 n && masks_inside l n)
  where
    go : (t : Bool) → Later (cond t Round Malformed)
    go true = tt
    go false = tt

pub command_later : (n : ℕ) (l : List ℕ) → 1 ≤ n → Later (command_of n l)
unfolding command_of
command_later n l h = rw (ne_eqb n 0 (λ e. absurd (omega arith))) (go (eqb (get_or l 0 0) 80))
  where
    go : (t : Bool) → Later (cond t (post_line l) (round_line n l))
    go true = post_later l
    go false = round_later n l

size_first : (l : List ℕ) → First (size_line l)
unfolding size_line
size_first l = go (shaped l 78 1 && (leb 1 v && leb v 16)) refl
  where
    v : ℕ
    v = natural_of (field_of l 0)

    go : (t : Bool) → (shaped l 78 1 && (leb 1 v && leb v 16)) ≡ t → First (cond t (Size v) Malformed)
    go true e =
        let h = and_right (shaped l 78 1) (leb 1 v && leb v 16) e in
        (leb-true 1 v (and_left (leb 1 v) (leb v 16) h), leb-true v 16 (and_right (leb 1 v) (leb v 16) h))
    go false e = tt

pub command_first : (l : List ℕ) → First (command_of 0 l)
unfolding command_of
command_first l = size_first l
