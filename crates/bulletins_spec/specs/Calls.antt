-- Document 02, A12: fresh, issue and round, each with its refusals in their order.
use Rattle.std.specs.Prelude.{ℕ, zero, suc, ◌+◌, ◌*◌, ◌-◌, ◌^◌, Bool, if◌then◌else◌, not, ◌&&◌}
use Rattle.std.specs.Prelude.{◌||◌, List, [], ◌++◌, nat_le, nat_lt}
use Rattle.std.specs.Prelude.{◌==◌, length, replicate, set, take}
use Rattle.std.specs.Int.Bits.{bit_or}
use Rattle.bodies.specs.Refusals.{done, bad_number, outside_limits, not_an_edit, already_issued, refuse_number}
use Rattle.links.specs.Log.{bit, hears_in}
use Rattle.lists.specs.Below.{any_below, set_below}
use Rattle.planning.specs.Sets.{united}
use Rattle.station_spec.specs.declared.Station.{Station}
use Rattle.group_spec.specs.declared.RoundDone.{RoundDone}
use Rattle.group_spec.specs.State.{size_of}
use Rattle.group_spec.specs.Calls.{no_report, round_call}
use Rattle.bulletins_spec.specs.declared.Bulletins.{Bulletins}
use Rattle.bulletins_spec.specs.declared.Notice.{Notice}
use Rattle.bulletins_spec.specs.declared.Shown.{Shown}
use Rattle.bulletins_spec.specs.declared.BulletinsAnswer.{BulletinsAnswer}
use Rattle.bulletins_spec.specs.declared.IssueDone.{IssueDone}
use Rattle.bulletins_spec.specs.declared.BulletinsRound.{BulletinsRound}
use Rattle.bulletins_spec.specs.State.{quota, all_places, set_of, holds, stands, tag_at, notice_at}
use Rattle.bulletins_spec.specs.State.{event_inside, bulletins_inside, fresh_bulletins}
use Rattle.bulletins_spec.specs.Order.{in_order, picked}

-- fresh: 1; a refused call returns the fresh state of N = 1
unfoldable pub bulletins_fresh_refusal : ℕ → ℕ
bulletins_fresh_refusal n = refuse_number (not (nat_le 1 n && nat_le n 16)) bad_number done

unfoldable pub bulletins_fresh_call : ℕ → BulletinsAnswer
bulletins_fresh_call n =
    record {
      refusal = bulletins_fresh_refusal n;
      bulletins = fresh_bulletins (if bulletins_fresh_refusal n == done then n else 1);
    }

-- the first of so many places, from s on, at which no bulletin stands; one past them where each has
-- one
unfoldable pub free_from : Bulletins → ℕ → ℕ → ℕ
free_from B zero s = s
free_from B (suc more) s = if stands B s then free_from B more (suc s) else s

abbrev pub free_place : Bulletins → ℕ → ℕ
free_place B i = free_from B quota (quota * i)

-- a bulletin of i has that tag
unfoldable pub has_tag : Bulletins → ℕ → ℕ → Bool
has_tag B i tag = any_below quota (λ k. stands B (quota * i + k) && tag_at B (quota * i + k) == tag)

-- i has issued four
abbrev pub has_four : Bulletins → ℕ → Bool
has_four B i = free_place B i == quota * i + quota

-- issue: 2, 1, 4, 19
unfoldable pub issue_refusal : Bulletins → ℕ → ℕ → ℕ → ℕ
issue_refusal B i tag event =
    refuse_number (not (bulletins_inside B)) outside_limits
    (refuse_number (not (nat_lt i B.n)) bad_number
    (refuse_number (not (event_inside event)) not_an_edit
    (refuse_number (has_tag B i tag || has_four B i) already_issued done)))

-- the state after an issue that is not refused
unfoldable pub issued : Bulletins → ℕ → ℕ → ℕ → Bulletins
issued B i tag event =
    record {
      n = B.n;
      tags = set B.tags (free_place B i) tag;
      events = set B.events (free_place B i) event;
      held = set B.held i (bit_or (set_of B i) (2 ^ free_place B i));
    }

abbrev pub no_notice : Notice
no_notice = record { issuer = 0; tag = 0; event = 0 }

-- the issuer shows it at once
unfoldable pub issue_call : Bulletins → ℕ → ℕ → ℕ → IssueDone
issue_call B i tag event =
    let accepted = issue_refusal B i tag event == done in
    record {
      refusal = issue_refusal B i tag event;
      bulletins = if accepted then issued B i tag event else B;
      shown = if accepted then record { issuer = i; tag = tag; event = event } else no_notice;
    }

-- what p holds after a round: its own, and what those that it hears held before the round
unfoldable pub set_after : Bulletins → List ℕ → ℕ → ℕ
set_after B masks p = united B.n (λ j. hears_in B.n masks p j) (set_of B) (set_of B p)

unfoldable pub bulletins_after : Bulletins → List ℕ → Bulletins
bulletins_after B masks =
    record { n = B.n; tags = B.tags; events = B.events; held = set_below B.n (set_after B masks) B.held }

-- p holds the bulletin at place s after the round, and did not before
unfoldable pub gains : Bulletins → List ℕ → ℕ → ℕ → Bool
gains B masks p s = bit (set_after B masks p) s && not (holds B p s)

-- what p shows in the round: what it gains, by issuer and then by tag
unfoldable pub shown_by : Bulletins → List ℕ → ℕ → List Notice
shown_by B masks p = picked (gains B masks p) (notice_at B) (in_order (tag_at B) B.n)

unfoldable pub shown_of : List Notice → Shown
shown_of l = record { len = length l; notices = l ++ replicate (all_places - length l) no_notice }

abbrev pub notices : Shown → List Notice
notices x = take x.len x.notices

unfoldable pub none_shown : List Shown
none_shown = replicate 16 (shown_of [])

unfoldable pub all_shown : Bulletins → List ℕ → List Shown
all_shown B masks = set_below B.n (λ p. shown_of (shown_by B masks p)) none_shown

-- the bulletins are inside their limits and of this group: they have its N
abbrev pub fits : List Station → Bulletins → Bool
fits g B = bulletins_inside B && size_of g == B.n

-- the group's part of the answer: 2 where the bulletins do not fit the group, else what the group's
-- round gives (2, 10, then 14 or 8)
unfoldable pub round_part : List Station → Bulletins → List ℕ → RoundDone
round_part g B masks =
    if fits g B then round_call g masks
    else record { refusal = outside_limits; group = g; reports = replicate 16 no_report }

-- a round of the group and of its bulletins, on the same masks
unfoldable pub bulletins_round_call : List Station → Bulletins → List ℕ → BulletinsRound
bulletins_round_call g B masks =
    let accepted = (round_part g B masks).refusal == done in
    record {
      round = round_part g B masks;
      bulletins = if accepted then bulletins_after B masks else B;
      shown = if accepted then all_shown B masks else none_shown;
    }
