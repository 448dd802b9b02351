-- A line of more than 145 bytes is malformed whatever its bytes, so two of them do the same; and so
-- do two ends of a script that break off in a line.
use mathlib.Core.Path.{◌≡◌}
use mathlib.Core.Bool.{and-false}
use mathlib.Core.List.{List}
use Prim.Native.Nat.{ℕ, ◌<◌}
use native.Mathlib.Omega.{arith}
use lib.ListN.{length}
use borrow.Author.Tests.{ne_eqb}
use Rattle.script.proofs.Rounds.{overlong}
use Rattle.listing_spec.specs.declared.Session.{Session}
use Rattle.listing_spec.specs.Listing.{after, printed, obeyed, answered, rest_text, closed}

module _ (s : Session) (l m : List ℕ) where
  pub printed_long : 145 < length l → 145 < length m → printed s l ≡ printed s m
  unfolding printed answered
  printed_long h k = rw (overlong s.n l h, overlong s.n m k)

  pub after_long : 145 < length l → 145 < length m → after s l ≡ after s m
  unfolding after obeyed
  after_long h k = rw (overlong s.n l h, overlong s.n m k)

  pub closed_some : 0 < length l → 0 < length m → closed s l ≡ closed s m
  unfolding rest_text
  closed_some h k =
      rw (ne_eqb (length l) 0 (λ e. absurd (omega arith)), ne_eqb (length m) 0 (λ e. absurd (omega arith)), and-false)
