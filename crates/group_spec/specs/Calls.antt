-- Document 01, "A group and its rounds" and "Turned down": group fresh, group post and round, each
-- with its refusals in their order.
use Rattle.std.specs.Prelude.{ℕ, zero, suc, ◌-◌, cond, not, ◌&&◌, List, ◌++◌, set, replicate, length, leb, ltb, eqb}
use Rattle.bodies.specs.Refusals.{done, bad_number, bad_limit, bad_edition, outside_limits}
use Rattle.bodies.specs.Refusals.{count_too_high, refuse_number}
use Rattle.bodies.specs.Limits.{is_edition}
use Rattle.links.specs.Log.{hears_in}
use Rattle.lists.specs.Below.{any_below, set_below}
use Rattle.queues.specs.Waiting.{limit_inside}
use Rattle.station_spec.specs.declared.Setup.{Setup}
use Rattle.station_spec.specs.declared.Station.{Station}
use Rattle.station_spec.specs.State.{sent_records, alone_setup}
use Rattle.station_spec.specs.Hearing.{Hearing, initial_hearing, hear_frame}
pub use Rattle.station_spec.specs.Hearing.{no_taking}
use Rattle.station_spec.specs.Turn.{after_turn, turn_report}
use Rattle.station_spec.specs.Calls.{posted, post_refusal, own_count_inside, no_turn}
use Rattle.group_spec.specs.declared.Post.{Post}
use Rattle.group_spec.specs.declared.Report.{Report}
use Rattle.group_spec.specs.declared.GroupAnswer.{GroupAnswer}
use Rattle.group_spec.specs.declared.RoundDone.{RoundDone}
use Rattle.group_spec.specs.State.{station_at, size_of, group_inside, fresh_group}

-- group fresh: 1, 13, 17
unfoldable pub group_fresh_refusal : Setup → ℕ
group_fresh_refusal setup =
    refuse_number (not (leb 1 setup.n && leb setup.n 16)) bad_number
    (refuse_number (not (limit_inside setup.limit)) bad_limit
    (refuse_number (not (is_edition setup.edition)) bad_edition done))

-- a refused call returns the fresh group of N = 1
unfoldable pub group_fresh_call : Setup → GroupAnswer
group_fresh_call setup =
    cond (eqb (group_fresh_refusal setup) done)
    (record { refusal = done; group = fresh_group setup })
    (record { refusal = group_fresh_refusal setup; group = fresh_group alone_setup })

-- group post: 2, 1, 15, 4, 17, 3
unfoldable pub group_post_refusal : List Station → Post → ℕ
group_post_refusal g x =
    refuse_number (not (group_inside g)) outside_limits
    (refuse_number (not (ltb x.station (size_of g))) bad_number (post_refusal (station_at g x.station) x.desk x.body))

-- the group after a post that is not refused
abbrev pub after_post : List Station → Post → List Station
after_post g x = set g x.station (posted (station_at g x.station) x.desk x.body)

unfoldable pub group_post_call : List Station → Post → GroupAnswer
group_post_call g x =
    record { refusal = group_post_refusal g x; group = cond (eqb (group_post_refusal g x) done) (after_post g x) g }

-- station i once it has heard the frames of the senders below k of its mask, by ascending sender;
-- each frame is of the group before any hearing
unfoldable pub heard_below : List Station → List ℕ → ℕ → ℕ → Hearing
heard_below g masks i zero = initial_hearing (station_at g i)
heard_below g masks i (suc j) =
    cond (hears_in (size_of g) masks i j)
    (hear_frame (heard_below g masks i j) (sent_records (station_at g j)))
    (heard_below g masks i j)

-- station i once it has heard all of its mask
abbrev pub heard : List Station → List ℕ → ℕ → Hearing
heard g masks i = heard_below g masks i (size_of g)

-- what a round reports of a station that is not in it
unfoldable pub no_report : Report
no_report = record { takings_len = 0; takings = replicate 30 no_taking; turn = no_turn }

-- what a round reports of station i
unfoldable pub report_of : List Station → List ℕ → ℕ → Report
report_of g masks i =
    let h = heard g masks i in
    record {
      takings_len = length h.takings;
      takings = h.takings ++ replicate (30 - length h.takings) no_taking;
      turn = turn_report h.station;
    }

-- the refusal of the first station below n that has one
unfoldable pub first_refusal : ℕ → (ℕ → ℕ) → ℕ
first_refusal zero refusal = done
first_refusal (suc k) refusal =
    cond (eqb (first_refusal k refusal) done) (refusal k) (first_refusal k refusal)

-- 2, 10, then the first refused frame's: 14 or 8
unfoldable pub round_refusal : List Station → List ℕ → ℕ
round_refusal g masks =
    refuse_number (not (group_inside g)) outside_limits
    (refuse_number (any_below (size_of g) (λ k. not (own_count_inside (station_at g k)))) count_too_high
    (first_refusal (size_of g) (λ i. (heard g masks i).refusal)))

-- the group after a round that is not refused
unfoldable pub after_round : List Station → List ℕ → List Station
after_round g masks = set_below (size_of g) (λ i. after_turn (heard g masks i).station) g

unfoldable pub round_call : List Station → List ℕ → RoundDone
round_call g masks =
    cond (eqb (round_refusal g masks) done)
    (record {
      refusal = done;
      group = after_round g masks;
      reports = set_below (size_of g) (report_of g masks) (replicate 16 no_report);
    })
    (record { refusal = round_refusal g masks; group = g; reports = replicate 16 no_report })
