-- Document 01, "Marked examples of the trade": M1 to M12 as one list of statements about the
-- definitions. M10 is read with the numbers of request A6, which asks of frames and states as well.
use Rattle.std.specs.Prelude.{Ok, Err}
use Prim.Native.Nat.{ℕ, ◌+◌, ◌≤◌, ◌<◌}
use mathlib.Core.Bool.{true, false}
use mathlib.Core.List.{List, [], ◌∷◌}
use mathlib.Core.Path.{◌≡◌}
use lib.IntN.{ℤ, pos, negsuc}
use lib.ListN.{get_or, length, replicate}
use Rattle.bodies.specs.declared.Body.{Body}
use Rattle.bodies.specs.declared.Body.TheVariants.{Empty, Neutral, Insert, Shift}
use Rattle.bodies.specs.Limits.{is_edition, channel_inside, on_channel, postable}
use Rattle.bodies.specs.Refusals.{done, outside_limits, queue_full, not_an_edit}
use Rattle.bodies.specs.declared.refusals.Refusal.TheVariants.{BadRecord}
use Rattle.labels.specs.Packing.{packed}
use Rattle.labels.specs.Newer.{is_newer}
use Rattle.frame_spec.specs.declared.Record.{Record}
use Rattle.frame_spec.specs.Words.{word_at, signed}
use Rattle.frame_spec.specs.Frame.{valid_number, part, shape_wrong, address_wrong, check_refusal, frame_bytes}
use Rattle.station_spec.specs.declared.Station.{Station}
use Rattle.station_spec.specs.declared.TurnReport.{TurnReport}
use Rattle.queues.specs.Queue.{no_slot}
use Rattle.queues.specs.Waiting.{is_desk, desk_count, waiting_count}
use Rattle.station_spec.specs.State.{alone_setup}
use Rattle.station_spec.specs.Limits.{station_inside}
use Rattle.station_spec.specs.Bodies.{Holds}
use Rattle.station_spec.specs.Calls.{post_call, write_call, hear_call, turn_call}
use Rattle.group_spec.specs.History.{History, post, round, no_round, history_of, report_in}

-- a group of one, one edit posted and two rounds with any masks
abbrev pub one_station : Body → List ℕ → List ℕ → History
one_station b masks₁ masks₂ = history_of alone_setup (post (record { station = 0; desk = 0; body = b }) ∷ round masks₁ ∷ round masks₂ ∷ [])

-- the turn that its only station reports in one of the two rounds
abbrev pub turn_in : History → ℕ → TurnReport
turn_in H u = (report_in (get_or H.rounds u no_round) 0).turn

-- the frame of an edition in which station 1 of two sends its own record alone, an insert of event
-- 1 with this channel and start
abbrev pub insert_frame : ℕ → ℕ → ℤ → List ℕ
insert_frame edition channel start =
    frame_bytes edition 2 1 (record { station = 1; count = 0; body = Insert channel 1 start; labels = 0 } ∷ [])

pub record Marked : Type 0 where
  -- M1, M2: at one label the count decides
  pub m1 : is_newer true 1 0 1 1 ≡ true
  pub m2 : is_newer true 1 0 1 0 ≡ false
  -- M3, M4: 0 comes after 2, whatever the counts
  pub m3 : (held seen : ℕ) → is_newer true 2 held 0 seen ≡ true
  pub m4 : (held seen : ℕ) → is_newer true 0 held 2 seen ≡ false
  -- M5 to M7: labels as words
  pub m5 : packed (1 ∷ 2 ∷ []) ≡ 9
  pub m6 : packed (2 ∷ 2 ∷ 1 ∷ []) ≡ 26
  pub m7 : packed (replicate 16 2) ≡ 0xAAAAAAAA
  -- M8: the length of a frame
  pub m8_one : (edition n sender : ℕ) (r : Record) → length (frame_bytes edition n sender (r ∷ [])) ≡ 20
  pub m8_all : (edition n sender : ℕ) (rs : List Record) → length rs ≡ 16 → length (frame_bytes edition n sender rs) ≡ 260
  -- M9: a station inside its limits with room at a desk takes a shift by -90,000 on a channel of
  -- its edition, and refuses -90,001
  pub m9 :
      (s : Station) (d : ℕ) → station_inside s ≡ true → is_desk d ≡ true → desk_count s.waiting d < s.waiting.limit →
      (channel event : ℕ) → channel_inside s.edition 4 channel ≡ true → 1 ≤ event → event ≤ 99_999_999 →
      ((post_call s d (Shift channel event (negsuc 89_999))).refusal ≡ done)
      × ((post_call s d (Shift channel event (negsuc 90_000))).refusal ≡ not_an_edit)
  -- M10, read with the numbers of request A6: it takes a start at 2,699,999 and refuses 2,700,000
  pub m10 :
      (s : Station) (d : ℕ) → station_inside s ≡ true → is_desk d ≡ true → desk_count s.waiting d < s.waiting.limit →
      (channel event : ℕ) → channel_inside s.edition 2 channel ≡ true → 1 ≤ event → event ≤ 99_999_999 →
      ((post_call s d (Insert channel event (pos 2_699_999))).refusal ≡ done)
      × ((post_call s d (Insert channel event (pos 2_700_000))).refusal ≡ not_an_edit)
  -- A6, in a frame: the check accepts a record with a start at 2,699,999; it gives 7 where any
  -- record of the frame has one at 2,700,000, unless the frame is refused earlier
  pub m10_framed :
      (edition channel : ℕ) → is_edition edition ≡ true → channel_inside edition 2 channel ≡ true →
      check_refusal edition (insert_frame edition channel (pos 2_699_999)) 2 0 ≡ Ok tt
  pub m10_frame :
      (edition : ℕ) (bytes : List ℕ) (n own k : ℕ) →
      valid_number n own ≡ true → is_edition edition ≡ true → shape_wrong bytes ≡ false → address_wrong edition bytes n own ≡ false →
      k < get_or bytes 2 0 → get_or (part bytes k) 2 0 ≡ 2 → signed (word_at (part bytes k) 8) ≡ pos 2_700_000 →
      check_refusal edition bytes n own ≡ Err BadRecord
  -- A6, in a state: on a station that holds a start at 2,700,000, wherever it stands, each call
  -- gives 2
  pub m10_held :
      (s : Station) (channel event : ℕ) → Holds s (Insert channel event (pos 2_700_000)) →
      ((d : ℕ) (b : Body) → (post_call s d b).refusal ≡ outside_limits)
      × ((room : ℕ) → (write_call s room).refusal ≡ outside_limits)
      × ((bytes : List ℕ) → (hear_call s bytes).refusal ≡ outside_limits)
      × ((turn_call s).refusal ≡ outside_limits)
  -- M11, where the limit is 32: as long as fewer than 32 of a desk wait, an edit is accepted and
  -- waits; where 32 wait, one more is refused
  pub m11_room :
      (s : Station) (d : ℕ) (b : Body) → station_inside s ≡ true → is_desk d ≡ true → s.waiting.limit ≡ 32 → desk_count s.waiting d < 32 → postable b ≡ true →
      on_channel s.edition b ≡ true →
      ((post_call s d b).refusal ≡ done) × (waiting_count (post_call s d b).station.waiting ≡ waiting_count s.waiting + 1)
  pub m11 :
      (s : Station) (d : ℕ) (b : Body) → station_inside s ≡ true → is_desk d ≡ true → s.waiting.limit ≡ 32 → desk_count s.waiting d ≡ 32 → postable b ≡ true →
      on_channel s.edition b ≡ true →
      (post_call s d b).refusal ≡ queue_full
  -- M12: one edit at a station alone: in round 1 it starts where Empty ends; in round 2 it is aired
  -- and ends, and Neutral starts
  pub m12_starts :
      (b : Body) (masks₁ masks₂ : List ℕ) → postable b ≡ true → on_channel 0 b ≡ true →
      let t = turn_in (one_station b masks₁ masks₂) 0 in
      (t.aired ≡ false) × (t.ended ≡ true) × (t.ended_body ≡ Empty) × (t.started_body ≡ b)
  pub m12_airs :
      (b : Body) (masks₁ masks₂ : List ℕ) → postable b ≡ true → on_channel 0 b ≡ true →
      let t = turn_in (one_station b masks₁ masks₂) 1 in
      (t.aired ≡ true) × ((get_or t.row 0 no_slot).body ≡ b) × (t.ended ≡ true) × (t.ended_body ≡ b) × (t.started_body ≡ Neutral)
