-- Worked examples, computed from the definition by plays.
use mathlib.Core.List.{[], ◌∷◌}
use mathlib.Core.Path.{◌≡◌, refl}
use Rattle.lists.specs.Below.{all_below, any_below}
use Rattle.links.specs.Log.{bit, hears_in, masks_in, cut}
use Rattle.links.specs.Inner.Clock.{latest, news}
use Rattle.links.specs.Inner.Number.{answers, full, start, ends, num}
use Rattle.contest.specs.Contest.{log_of}
use Rattle.contest.specs.Winner.{decided, still, lowest, won, keeper_wins, first_pick}
use Rattle.contest.specs.Answer.{Refused, Breaker, Keeper}
use Rattle.contest.specs.Answer.{contest_refusal, contest_call}

-- Two stations; set 0 is silent, in set 1 they hear each other. In three rounds the keeper has two
-- picks and needs no more.
pub three_rounds : contest_call 2 0 (0 ∷ 0 ∷ 2 ∷ 1 ∷ []) 3 ≡ Keeper 1
unfolding contest_call contest_refusal keeper_wins first_pick decided still lowest won log_of num ends full start answers news latest hears_in masks_in bit cut all_below any_below
three_rounds = refl

-- In two rounds the breaker has the last word.
pub two_rounds : contest_call 2 0 (0 ∷ 0 ∷ 2 ∷ 1 ∷ []) 2 ≡ Breaker
unfolding contest_call contest_refusal keeper_wins first_pick decided still lowest won log_of num ends full start answers news latest hears_in masks_in bit cut all_below any_below
two_rounds = refl

-- A station alone.
pub one_station : contest_call 1 0 (0 ∷ []) 1 ≡ Keeper 0
unfolding contest_call contest_refusal keeper_wins first_pick decided still lowest won log_of num ends full start answers news latest hears_in masks_in bit cut all_below any_below
one_station = refl

pub no_round : contest_call 1 0 (0 ∷ []) 0 ≡ Breaker
unfolding contest_call contest_refusal keeper_wins first_pick decided still lowest won log_of num ends full start answers news latest hears_in masks_in bit cut all_below any_below
no_round = refl

-- Refusals: 1 comes before 20.
pub not_a_station : contest_call 5 5 [] 9 ≡ Refused 1
unfolding contest_call contest_refusal
not_a_station = refl

pub too_many : contest_call 5 4 (0 ∷ 0 ∷ 0 ∷ 0 ∷ 0 ∷ []) 1 ≡ Refused 20
unfolding contest_call contest_refusal
too_many = refl
