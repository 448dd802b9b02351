-- Runs of a station that are computed, so that a definition which does nothing, or too much, is
-- refused by what it gives. A station alone is M12, and with a full queue M11; with two desks they
-- take turns. Station 0 of two hears the frame of station 1, and records of it: a new one, one that
-- is not newer, one that conflicts, one that acknowledges, and one that comes while its own lane is
-- full.
use mathlib.Core.Bool.{true, false}
use mathlib.Core.List.{List, [], ◌∷◌}
use mathlib.Core.Path.{◌≡◌, refl}
use Prim.Native.Nat.{ℕ, zero, suc}
use lib.IntN.{pos}
use lib.ListN.{set, replicate}
use Rattle.bodies.specs.declared.Body.{Body}
use Rattle.bodies.specs.declared.Body.TheVariants.{Empty, Neutral, Insert, Drop, Shift}
use Rattle.bodies.specs.Refusals.{done, conflict, lane_full, queue_full, not_an_edit, bad_desk, bad_address, bad_edition, outside_limits}
use Rattle.labels.specs.Packing.{packed}
use Rattle.frame_spec.specs.declared.Record.{Record}
use Rattle.queues.specs.Lane.{bodies}
use Rattle.queues.specs.Queue.{queue_capacity, no_slot}
use Rattle.queues.specs.Waiting.{waiting_edits}
use Rattle.station_spec.specs.declared.Station.{Station}
use Rattle.station_spec.specs.declared.TurnReport.{TurnReport}
use Rattle.station_spec.specs.State.{sized, alone_setup, fresh_station, cell_of, label_of, acked_of, held_of, lane_at, with_entry, with_cell}
use Rattle.station_spec.specs.Hearing.{Hearing, initial_hearing, hear_record, hear_records, hear_frame}
use Rattle.station_spec.specs.Turn.{after_turn, turn_report}
use Rattle.station_spec.specs.Calls.{post_call, frame_of, hear_call}
use Rattle.station_spec.proofs.Computing.{station_runs, frame_runs}

abbrev edit : Body
edit = Insert 0 7 (pos 100)

abbrev other : Body
other = Drop 0 8

-- a station with an edit posted, by a desk or by desk 0
abbrev with_desk : Station → ℕ → Body → Station
with_desk s d b = (post_call s d b).station

abbrev with_edit : Station → Body → Station
with_edit s b = with_desk s 0 b

-- what a turn reports that airs nothing and ends a broadcast
abbrev ending : Body → Body → TurnReport
ending over next = record { aired = false; row = replicate 16 no_slot; ended = true; ended_body = over; started_body = next }

-- a station alone, with one edit posted: its first two turns
abbrev alone : Station
alone = with_edit (fresh_station alone_setup 0) edit

pub record Alone : Type 0 where
  pub starts : turn_report alone ≡ ending Empty edit
  pub airs_it :
      turn_report (after_turn alone)
      ≡ record { aired = true; row = set (replicate 16 no_slot) 0 (record { body = edit }); ended = true; ended_body = edit; started_body = Neutral }

-- a station alone, with so many edits posted
unfoldable pub posts : ℕ → Station
posts zero = fresh_station (record { n = 1; limit = queue_capacity; edition = 0 }) 0
posts (suc k) = with_edit (posts k) edit

pub record Posts : Type 0 where
  pub thirty_second : (post_call (posts 31) 0 edit).refusal ≡ done
  pub thirty_third : (post_call (posts queue_capacity) 0 edit).refusal ≡ queue_full

-- a station alone with two desks, after some turns
unfoldable pub turns : Station → ℕ → Station
turns s zero = s
turns s (suc k) = after_turn (turns s k)

-- what starts in the turn after so many
abbrev start_in : Station → ℕ → Body
start_in s k = (turn_report (turns s k)).started_body

abbrev third_edit : Body
third_edit = Drop 0 9

-- both desks wait on a fresh station, and desk 0 has two
abbrev both_wait : Station
both_wait = with_desk (with_desk (with_desk (fresh_station alone_setup 0) 1 other) 0 edit) 0 third_edit

-- desk 0 waited alone, its edit started, and then Neutral; now both wait
abbrev after_neutral : Station
after_neutral = with_desk (with_desk (turns alone 2) 0 third_edit) 1 other

-- one edit may wait at a desk, and desk 0 has it
abbrev one_each : Station
one_each = with_edit (fresh_station (record { n = 1; limit = 1; edition = 0 }) 0) edit

pub record Desks : Type 0 where
  -- a fresh station gives way to desk 0, and then the desks take turns
  pub fresh_zero : start_in both_wait 0 ≡ edit
  pub then_one : start_in both_wait 1 ≡ other
  pub then_zero : start_in both_wait 2 ≡ third_edit
  pub then_none : start_in both_wait 3 ≡ Neutral
  -- the desk that started the last edit alone gives way, and Neutral since then changes nothing
  pub neutral_between : start_in alone 1 ≡ Neutral
  pub gives_way : (start_in after_neutral 0 ≡ other) × (start_in after_neutral 1 ≡ third_edit)
  -- a full desk is refused, and the other is not
  pub own_full : (post_call one_each 0 edit).refusal ≡ queue_full
  pub other_not : (post_call one_each 1 edit).refusal ≡ done
  -- 15 comes before 4, and 4 before 3; there is no desk 2
  pub desk_first : (post_call one_each 2 Neutral).refusal ≡ bad_desk
  pub edit_next : (post_call one_each 0 Neutral).refusal ≡ not_an_edit

-- one edit may wait at a station of an edition, and the frame of station 1 of two in it
abbrev in_edition : ℕ → Station
in_edition edition = fresh_station (record { n = 1; limit = 1; edition = edition }) 0

abbrev frame_in : ℕ → List ℕ
frame_in edition = frame_of (fresh_station (record { n = 2; limit = 8; edition = edition }) 1)

abbrev hears_in : ℕ → ℕ → ℕ
hears_in edition sent = (hear_call (fresh_station (record { n = 2; limit = 8; edition = edition }) 0) (frame_in sent)).refusal

pub record Editions : Type 0 where
  -- in edition 1 an edit has a channel of 1 to 200, in edition 0 it has none
  pub least : (post_call (in_edition 1) 0 (Drop 1 8)).refusal ≡ done
  pub most : (post_call (in_edition 1) 0 (Drop 200 8)).refusal ≡ done
  pub none : (post_call (in_edition 1) 0 (Drop 0 8)).refusal ≡ bad_edition
  pub too_high : (post_call (in_edition 1) 0 (Drop 201 8)).refusal ≡ bad_edition
  pub zero_none : (post_call (in_edition 0) 0 (Drop 0 8)).refusal ≡ done
  pub zero_one : (post_call (in_edition 0) 0 (Drop 1 8)).refusal ≡ bad_edition
  -- 4 comes before 17, and 17 before 3
  pub edit_first : (post_call (in_edition 1) 0 (Drop 0 0)).refusal ≡ not_an_edit
  pub no_edit : (post_call (in_edition 1) 0 Neutral).refusal ≡ not_an_edit
  pub full_last : (post_call (with_edit (in_edition 1) (Drop 1 8)) 0 (Drop 0 8)).refusal ≡ bad_edition
  -- a station hears its own edition and gives 6 for the other
  pub own_edition : (hears_in 0 0 ≡ done) × (hears_in 1 1 ≡ done)
  pub other_edition : (hears_in 0 1 ≡ bad_address) × (hears_in 1 0 ≡ bad_address)
  -- there are no others: such a station is outside its limits
  pub no_edition : (post_call (in_edition 2) 0 (Drop 1 8)).refusal ≡ outside_limits

-- a frame that comes is heard
pub record Frame : Type 0 where
  pub is_heard : (hear_call (fresh_station (sized 2) 0) (frame_of (fresh_station (sized 2) 1))).refusal ≡ done
  pub shows : held_of (hear_call (fresh_station (sized 2) 0) (frame_of (fresh_station (sized 2) 1))).station 1 ≡ true

-- a record of station 1 with a count, a body, and its labels for station 0 and for itself
abbrev of_one : ℕ → Body → ℕ → ℕ → Record
of_one count b zero_label own_label = record { station = 1; count = count; body = b; labels = packed (zero_label ∷ own_label ∷ []) }

-- station 0 of two, with two edits posted, once it has heard the fresh station 1
abbrev first : Hearing
first = hear_record (initial_hearing (with_edit (with_edit (fresh_station (sized 2) 0) edit) other)) (of_one 0 Empty 0 1)

-- then a record that shows more, and acknowledges
abbrev second : Hearing
second = hear_record first (of_one 1 Empty 1 1)

-- its turn, and once it has heard an acknowledgement of what it started
abbrev third : Hearing
third = hear_record (initial_hearing (after_turn second.station)) (of_one 2 Empty 2 1)

-- then a body of station 1, whose label is 2
abbrev fourth : Hearing
fourth = hear_record third (of_one 0 Neutral 2 2)

-- or two bodies of station 1, before the turn
abbrev both : Hearing
both = hear_record fourth (of_one 0 other 2 0)

-- after the fourth, two turns later, the label after it, which is 0
abbrev fifth : Hearing
fifth = hear_record (initial_hearing (after_turn (after_turn fourth.station))) (of_one 0 other 0 0)

pub record Pair : Type 0 where
  -- the first record advances, counts and is held; it does not acknowledge, and its Empty is not
  -- taken
  pub heard : (held_of first.station 1 ≡ true) × (label_of first.station 1 ≡ 1) × (first.station.count ≡ 1) × (acked_of first.station 1 ≡ false) × (first.takings ≡ [])
  -- the same again, or an older one that acknowledges, does nothing
  pub again : hear_record first (of_one 0 Empty 0 1) ≡ first
  pub stale : hear_record first (of_one 2 Empty 1 0) ≡ first
  -- one with the same label and count that acknowledges conflicts: the frame is refused, and
  -- nothing else comes of it
  pub conflicts : hear_record first (of_one 0 Empty 1 1) ≡ record { station = first.station; takings = first.takings; refusal = conflict }
  -- a larger count acknowledges, and counts nothing where the label stays
  pub acknowledges : (acked_of second.station 1 ≡ true) × (second.station.count ≡ 1) × (label_of second.station 1 ≡ 1)
  -- all are acknowledged: the turn starts the first edit, and the other waits
  pub starts : turn_report second.station ≡ ending Empty edit
  pub waits : waiting_edits (after_turn second.station).waiting 0 ≡ other ∷ []
  -- that one ends while it stands in the own lane: Empty starts
  pub full : turn_report third.station ≡ ending edit Empty
  -- a body of station 1 is taken and fills the row
  pub takes : fourth.takings ≡ record { source = 1; body = Neutral } ∷ []
  pub row :
      turn_report fourth.station
      ≡ record {
        aired = true;
        row = set (set (replicate 16 no_slot) 0 (record { body = edit })) 1 (record { body = Neutral });
        ended = true;
        ended_body = edit;
        started_body = other;
      }
  -- of two bodies in a lane the second stays
  pub one_left : bodies (lane_at (after_turn both.station) 1) ≡ other ∷ []
  -- M3: 0 comes after 2
  pub wraps : fifth.takings ≡ record { source = 1; body = other } ∷ []

-- station 0 of three, once it has heard of station 1 a shift with label 1 and count 2
abbrev one_held : Record
one_held = record { station = 1; count = 2; body = Shift 0 9 (pos 5); labels = packed (2 ∷ 1 ∷ 0 ∷ []) }

abbrev holds_one : Hearing
holds_one = hear_record (initial_hearing (fresh_station (sized 3) 0)) one_held

-- the record with another body, other labels, or another station
abbrev with_body : Body → Record
with_body b = record { station = 1; count = 2; body = b; labels = one_held.labels }

abbrev with_labels : ℕ → ℕ → ℕ → Record
with_labels a b c = record { station = 1; count = 2; body = one_held.body; labels = packed (a ∷ b ∷ c ∷ []) }

-- what a conflict leaves
abbrev refused : Hearing → Hearing
refused h = record { station = h.station; takings = h.takings; refusal = conflict }

-- the same station where labels from N up stand in what it holds of station 1
abbrev above : Station
above = let s = holds_one.station in with_cell s 1 (with_entry (cell_of s 1) (record { station = 1; count = 2; body = one_held.body; labels = packed (2 ∷ 1 ∷ 0 ∷ 2 ∷ 1 ∷ []) }))

-- three bodies of station 2 one after the other: the third finds its lane full
abbrev of_two : ℕ → Body → ℕ → Record
of_two count b own_label = record { station = 2; count = count; body = b; labels = packed (0 ∷ 0 ∷ own_label ∷ []) }

abbrev full_lane : Hearing
full_lane = hear_record (hear_record holds_one (of_two 0 edit 1)) (of_two 0 edit 2)

pub record Conflicts : Type 0 where
  -- each other field changed alone
  pub kind : hear_record holds_one (with_body (Insert 0 9 (pos 5))) ≡ refused holds_one
  pub event : hear_record holds_one (with_body (Shift 0 10 (pos 5))) ≡ refused holds_one
  pub argument : hear_record holds_one (with_body (Shift 0 9 (pos 6))) ≡ refused holds_one
  pub channel : hear_record holds_one (with_body (Shift 1 9 (pos 5))) ≡ refused holds_one
  pub label_of_zero : hear_record holds_one (with_labels 1 1 0) ≡ refused holds_one
  pub label_of_two : hear_record holds_one (with_labels 2 1 1) ≡ refused holds_one
  -- the same, an older and a newer one with another body
  pub same : hear_record holds_one one_held ≡ holds_one
  pub older : hear_record holds_one (record { station = 1; count = 1; body = edit; labels = one_held.labels }) ≡ holds_one
  pub newer : (hear_record holds_one (record { station = 1; count = 3; body = edit; labels = one_held.labels })).refusal ≡ done
  -- labels from N up of the held record play no part, and the own record never conflicts
  pub from_n_up : hear_record (initial_hearing above) one_held ≡ initial_hearing above
  pub own : hear_record holds_one (record { station = 0; count = 0; body = edit; labels = packed (1 ∷ 0 ∷ 0 ∷ []) }) ≡ holds_one
  -- a full lane and a conflict in one frame, in either order; in two frames the first decides
  pub full : (hear_record full_lane (of_two 0 edit 0)).refusal ≡ lane_full
  pub full_first : (hear_records full_lane (of_two 0 edit 0 ∷ with_body edit ∷ [])).refusal ≡ conflict
  pub conflict_first : (hear_records full_lane (with_body edit ∷ of_two 0 edit 0 ∷ [])).refusal ≡ conflict
  pub full_frame : (hear_frame (hear_frame full_lane (of_two 0 edit 0 ∷ [])) (with_body edit ∷ [])).refusal ≡ lane_full
  pub conflict_frame : (hear_frame (hear_frame full_lane (with_body edit ∷ [])) (of_two 0 edit 0 ∷ [])).refusal ≡ conflict
  -- a conflict with a record that came in the frame before
  pub frame_before :
      (hear_frame (hear_frame (initial_hearing (fresh_station (sized 3) 0)) (one_held ∷ [])) (with_body edit ∷ [])).refusal ≡ conflict

-- by computation
pub alone_runs : Alone
unfolding station_runs
alone_runs = record { starts = refl; airs_it = refl }

pub posts_runs : Posts
unfolding posts station_runs
posts_runs = record { thirty_second = refl; thirty_third = refl }

pub desks_run : Desks
unfolding turns station_runs
desks_run =
    record {
      fresh_zero = refl;
      then_one = refl;
      then_zero = refl;
      then_none = refl;
      neutral_between = refl;
      gives_way = (refl, refl);
      own_full = refl;
      other_not = refl;
      desk_first = refl;
      edit_next = refl;
    }

pub editions_run : Editions
unfolding frame_runs
editions_run =
    record {
      least = refl;
      most = refl;
      none = refl;
      too_high = refl;
      zero_none = refl;
      zero_one = refl;
      edit_first = refl;
      no_edit = refl;
      full_last = refl;
      own_edition = (refl, refl);
      other_edition = (refl, refl);
      no_edition = refl;
    }

pub frame_runs_lem : Frame
unfolding frame_runs
frame_runs_lem = record { is_heard = refl; shows = refl }

pub pair_runs : Pair
unfolding station_runs
pair_runs =
    record {
      heard = (refl, refl, refl, refl, refl);
      again = refl;
      stale = refl;
      conflicts = refl;
      acknowledges = (refl, refl, refl);
      starts = refl;
      waits = refl;
      full = refl;
      takes = refl;
      row = refl;
      one_left = refl;
      wraps = refl;
    }

pub conflicts_run : Conflicts
unfolding station_runs
conflicts_run =
    record {
      kind = refl;
      event = refl;
      argument = refl;
      channel = refl;
      label_of_zero = refl;
      label_of_two = refl;
      same = refl;
      older = refl;
      newer = refl;
      from_n_up = refl;
      own = refl;
      full = refl;
      full_first = refl;
      conflict_first = refl;
      full_frame = refl;
      conflict_frame = refl;
      frame_before = refl;
    }
