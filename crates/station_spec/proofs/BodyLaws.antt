-- Which bodies may be put where: what may wait may be put into a lane, Neutral too, and Empty is
-- inside its limits though no lane holds it. How a station judges a body is known here only: what
-- it allows are the bodies inside their limits in its edition.
use mathlib.Core.Bool.{Bool, true, false, cond, not, ◌&&◌}
use mathlib.Core.Path.{◌≡◌, refl, ap}
use lib.Dec.{eqb}
use Rattle.bodies.specs.declared.Body.{Body}
use Rattle.bodies.specs.declared.Body.TheVariants.{Empty, Neutral}
use Rattle.bodies.specs.Body.{is_empty}
use Rattle.bodies.specs.Limits.{numbers_inside, channel_inside, on_channel, inside_kind, body_inside, postable, may_wait}
use Rattle.bodies.proofs.LimitLaws.{waiting_make, waiting_inside, waiting_not_empty}
use Rattle.lists.proofs.Laws.{and_both, and_right}
use Rattle.station_spec.specs.declared.Station.{Station}
use Rattle.station_spec.specs.Limits.{takeable, allowed}

pub waiting_takeable : (inside : Body → Bool) (b : Body) → may_wait inside b ≡ true → takeable inside b ≡ true
waiting_takeable inside b h = and_both (ap not (waiting_not_empty inside b h)) (waiting_inside inside b h)

pub takeable_inside : (inside : Body → Bool) (b : Body) → takeable inside b ≡ true → inside b ≡ true
takeable_inside inside b h = and_right (not (is_empty b)) (inside b) h

-- what a station allows: only these laws and computed runs open `allowed`

-- Empty and Neutral, which have no channel in either edition
no_channel : (t : Bool) → cond (t && false) false true ≡ true
no_channel true = refl
no_channel false = refl

pub empty-allowed : (s : Station) → allowed s Empty ≡ true
unfolding allowed body_inside inside_kind numbers_inside channel_inside
empty-allowed s = no_channel (eqb s.edition 1)

pub neutral-takeable : (s : Station) → takeable (allowed s) Neutral ≡ true
unfolding allowed body_inside inside_kind numbers_inside channel_inside
neutral-takeable s = no_channel (eqb s.edition 1)

-- what a post may bring, and what the frames of its edition may carry, there and back
pub post_allowed : (s : Station) (b : Body) → postable b ≡ true → on_channel s.edition b ≡ true → may_wait (allowed s) b ≡ true
unfolding allowed
post_allowed s b h on = waiting_make s.edition b h on

pub carried_allowed : (s : Station) (b : Body) → body_inside s.edition b ≡ true → allowed s b ≡ true
unfolding allowed
carried_allowed s b h = h

pub allowed_inside : (s : Station) (b : Body) → allowed s b ≡ true → body_inside s.edition b ≡ true
unfolding allowed
allowed_inside s b h = h

-- the same as another station of its edition
pub allowed_same : (s t : Station) → s.edition ≡ t.edition → allowed s ≡ allowed t
unfolding allowed
allowed_same s t e = ap body_inside e
