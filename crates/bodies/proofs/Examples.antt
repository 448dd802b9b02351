-- The limits behind document 01's marked examples M9 and M10, for every event that the table
-- allows, and the channels of request A9. M10 is read with the numbers of request A6.
use Prim.Native.Nat.{ℕ, ◌≤◌}
use Rattle.std.specs.Prelude.{leb}
use mathlib.Core.Bool.{Bool, true, false, ◌&&◌, and-false}
use mathlib.Core.Path.{◌≡◌, refl, ap}
use native.Mathlib.Omega.{arith}
use lib.IntN.{pos, negsuc}
use borrow.Author.Tests.{le-leb}
use Rattle.bodies.specs.declared.Body.TheVariants.{Insert, Shift}
use Rattle.bodies.specs.Limits.{postable, inside_kind, numbers_inside, channel_inside, on_channel, body_inside}
use Rattle.bodies.proofs.LimitLaws.{argument_outside}

module _ (channel event : ℕ) (least : 1 ≤ event) (most : event ≤ 99_999_999) where
  -- inside the table's events only what is asked of the argument counts
  event_then : (argument : Bool) → ((leb 1 event && leb event 99_999_999) && argument) ≡ argument
  event_then argument = rw (le-leb 1 event least, le-leb event 99_999_999 most) refl

  -- a shift of -90,000 is an edit, one of -90,001 is not
  pub m9 : (postable (Shift channel event (negsuc 89_999)) ≡ true) × (postable (Shift channel event (negsuc 90_000)) ≡ false)
  unfolding postable inside_kind numbers_inside
  m9 = (event_then true, and-false (leb 1 event && leb event 99_999_999))

  -- a start of 2,699,999 is an edit's, 2,700,000 is not
  pub m10 : (postable (Insert channel event (pos 2_699_999)) ≡ true) × (postable (Insert channel event (pos 2_700_000)) ≡ false)
  unfolding postable inside_kind numbers_inside
  m10 = (event_then true, and-false (leb 1 event && leb event 99_999_999))

-- whatever the event, no body has a start of 2,700,000
pub m10_outside : (edition channel event : ℕ) → body_inside edition (Insert channel event (pos 2_700_000)) ≡ false
unfolding body_inside inside_kind
m10_outside edition channel event =
    ap (λ (t : Bool). t && on_channel edition (Insert channel event (pos 2_700_000))) (argument_outside 2 event (pos 2_700_000) refl)

-- an event up to 65,536 and a start of 16 bits are an insert's
pub insert_small : (event start : ℕ) → 1 ≤ event → event ≤ 65_536 → start ≤ 65_535 → numbers_inside 2 event (pos start) ≡ true
unfolding numbers_inside
insert_small event start least most h =
    rw (
      le-leb 1 event least,
      le-leb event 99_999_999 (omega arith),
      le-leb 0 start (omega arith),
      le-leb start 2_699_999 (omega arith),
    )

-- request A9: the channel of an edit is 1 to 200 in edition 1 and 0 in edition 0, that of another
-- body 0 in either
abbrev Channels : ℕ → Type 0
Channels channel = (channel_inside 1 2 channel ≡ true) × (channel_inside 0 2 channel ≡ false) × (channel_inside 1 1 channel ≡ false)

pub channels_edit : Channels 1 × Channels 200
unfolding channel_inside
channels_edit = ((refl, refl, refl), (refl, refl, refl))

pub channels_none :
    ((k : ℕ) → channel_inside 0 k 0 ≡ true) × (channel_inside 1 0 0 ≡ true) × (channel_inside 1 1 0 ≡ true) ×
    (channel_inside 1 2 0 ≡ false) × (channel_inside 1 2 201 ≡ false) × (channel_inside 0 2 201 ≡ false)
unfolding channel_inside
channels_none = ((λ k. refl), refl, refl, refl, refl, refl)
