-- A station may listen to a frame that it accepts, beside its own frame; what it hears there is
-- what it hears of the frame alone.
use Prim.Native.Nat.{ℕ, ◌-◌, ◌≤◌, ◌<◌}
use native.Mathlib.Omega.{arith}
use mathlib.Core.Bool.{true, false}
use Rattle.std.specs.Prelude.{Ok}
use Rattle.bodies.specs.declared.refusals.Refusal.{Refusal}
use Rattle.bodies.specs.declared.refusals.Refusal.TheVariants.{BadNumber, OutsideLimits, QueueFull, NotAnEdit, BadShape, BadAddress, BadRecord, LaneFull, ShortBuffer, CountTooHigh, MalformedLine, BadLinkLog, BadLimit, Conflict, BadDesk, BadListing, BadEdition, BadQuestion, AlreadyIssued, BadContest}
use Rattle.bodies.specs.Refusals.{done, number, number_of}
use mathlib.Core.List.{List, ◌++◌, append_assoc}
use mathlib.Core.Path.{◌≡◌, sym, ap, subst, ◌∙◌}
use lib.ListN.{get_or, drop, length, replicate, length-append, get_or-append}
use lib.Seq.{drop_at}
use Rattle.lists.proofs.Laws.{and_left, all_below_at}
use Rattle.frame_spec.specs.Record.{record_from, record_bytes, bytes_inside}
use Rattle.frame_spec.specs.Frame.{part, records_of, records_inside, frame_refusal}
use Rattle.frame_spec.proofs.Limits.{bytes_open}
use Rattle.frame_spec.proofs.FrameTrip.{part_written}
use Rattle.frame_spec.proofs.Check.{Shape, accepted_frame, shape}
use Rattle.station_spec.specs.declared.Station.{Station}
use Rattle.station_spec.specs.Limits.{station_inside}
use Rattle.station_spec.specs.Hearing.{Hearing, initial_hearing, hear_frame}
use Rattle.station_spec.specs.Calls.{frame_of, sources_of, hear_call}
use Rattle.station_spec.proofs.CallSteps.{hear_stopped, hear_done}
use Rattle.station_spec.proofs.StationLimits.{Inside, inside_open}
use Rattle.hearing_spec.specs.declared.Ear.{Ear}
use Rattle.hearing_spec.specs.Buffer.{size_in}
use Rattle.hearing_spec.specs.Room.{FrameRoom}
use Rattle.listening.specs.Listened.{Listens}
use Rattle.listening.specs.Listening.{MayListen, frame_heard}
use Rattle.station.specs.Beside.{roomed, beside, HearsBeside}
use Rattle.station.proofs.OwnFrame.{own_shape, own_fits, own_first, own_read, own_stations, own_written, frame_records, frame_room}
use Rattle.station.proofs.Copied.{roomed-length}

module _ (s : Station) (inside : station_inside s ≡ true) (bytes : List ℕ) (accepted : frame_refusal s.edition bytes s.n s.own ≡ Ok tt) where
  c : Inside s
  c = inside_open s inside

  form : Shape bytes
  form = shape bytes (accepted_frame s.edition bytes s.n s.own accepted).shape_right

  pub heard_fits : length bytes ≤ 260
  heard_fits = omega (arith, form.long, form.few)

  abbrev own : List ℕ
  own = frame_of s

  abbrev both : List ℕ
  both = beside s bytes

  own-length : length (roomed own) ≡ 260
  own-length = roomed-length own (own_fits s c)

  both-length : length both ≡ 520
  both-length = omega (arith, length-append (roomed own) (roomed bytes), own-length, roomed-length bytes heard_fits)

  abbrev own_rest : List ℕ
  own_rest = replicate (260 - length own) 0 ++ roomed bytes

  own_here : drop 0 both ≡ own ++ own_rest
  own_here = append_assoc own (replicate (260 - length own) 0) (roomed bytes)

  heard_here : drop 260 both ≡ bytes ++ replicate (260 - length bytes) 0
  heard_here = drop_at (roomed own) (roomed bytes) 260 own-length

  size : s.n ≡ size_in both
  size =
      sym
      (ap (λ (b : List ℕ). get_or b 0 0) own_here
      ∙ get_or-append own own_rest 0 0 (omega (arith, own_shape s c))
      ∙ own_first s c)

  heard_station : (r : ℕ) → r < get_or bytes 2 0 → get_or (part bytes r) 0 0 < s.n
  unfolding records_inside
  heard_station r l =
      let a = accepted_frame s.edition bytes s.n s.own accepted in
      (bytes_open s.edition s.n (part bytes r)
      (and_left (bytes_inside s.edition s.n (part bytes r)) _ (all_below_at (get_or bytes 2 0) _ (and_left _ _ a.records_right) r l))
      ).station

  pub may_listen : MayListen s both 0
  may_listen =
      record {
        inside = inside;
        short = omega (arith, both-length);
        size = size;
        own_room = frame_room own own_rest (own_shape s c) both 0 own_here (λ r l. omega (arith, own_stations s c r l, size))
            (λ r l. subst (λ (n : ℕ). record_bytes n (record_from (part own r)) ≡ part own r) size (own_written s c r l));
        own_frame = frame_records own own_rest (own_shape s c) both 0 own_here ∙ own_read s c;
      }

  pub heard_room : ((i : ℕ) → get_or bytes i 0 < 256) → FrameRoom both 260
  heard_room small =
      frame_room bytes (replicate (260 - length bytes) 0) form.long both 260 heard_here (λ r l. omega (arith, heard_station r l, size))
      (λ r l.
      subst (λ (n : ℕ). record_bytes n (record_from (part bytes r)) ≡ part bytes r) size (part_written s.edition bytes s.n s.own accepted small r l))

  pub heard_is : frame_heard both 260 (initial_hearing s) ≡ hear_frame (initial_hearing s) (records_of bytes)
  heard_is = ap (hear_frame (initial_hearing s)) (frame_records bytes (replicate (260 - length bytes) 0) form.long both 260 heard_here)

  pub heard_size : s.n ≡ size_in both
  heard_size = size

  -- what is heard beside the own frame answers the call
  pub hears_beside :
      (l places taken : List ℕ) (e : Ear) → l ≡ both → Listens s l (frame_heard l 260) places taken e → HearsBeside s bytes l places taken e
  hears_beside l places taken e is h =
      let same : frame_heard l 260 (initial_hearing s) ≡ hear_frame (initial_hearing s) (records_of bytes) = ap (λ (b : List ℕ). frame_heard b 260 (initial_hearing s)) is ∙ heard_is in
      record {
        refused = λ d. hear_stopped s bytes inside (ap number_of accepted) _ (h.refusal ∙ ap (λ (x : Hearing). x.refusal) same) d;
        heard = λ fine.
            record {
              size = size ∙ ap size_in (sym is);
              readable = h.readable;
              answered =
                  hear_done s bytes inside (ap number_of accepted) _ _
                  (sym (h.refusal ∙ ap (λ (x : Hearing). x.refusal) same) ∙ fine)
                  (h.station fine ∙ ap (λ (x : Hearing). x.station) same)
                  (ap sources_of (h.takings fine ∙ ap (λ (x : Hearing). x.takings) same));
            };
      }

-- a refusal's number is none that is done
pub refused_some : (q : Refusal) → number q ≡ done → ⊥
refused_some BadNumber z = omega (arith, z)
refused_some OutsideLimits z = omega (arith, z)
refused_some QueueFull z = omega (arith, z)
refused_some NotAnEdit z = omega (arith, z)
refused_some BadShape z = omega (arith, z)
refused_some BadAddress z = omega (arith, z)
refused_some BadRecord z = omega (arith, z)
refused_some LaneFull z = omega (arith, z)
refused_some ShortBuffer z = omega (arith, z)
refused_some CountTooHigh z = omega (arith, z)
refused_some MalformedLine z = omega (arith, z)
refused_some BadLinkLog z = omega (arith, z)
refused_some BadLimit z = omega (arith, z)
refused_some Conflict z = omega (arith, z)
refused_some BadDesk z = omega (arith, z)
refused_some BadListing z = omega (arith, z)
refused_some BadEdition z = omega (arith, z)
refused_some BadQuestion z = omega (arith, z)
refused_some AlreadyIssued z = omega (arith, z)
refused_some BadContest z = omega (arith, z)

-- nothing is heard of a frame that is refused
pub hears_refused :
    (s : Station) (bytes l places taken : List ℕ) (e : Ear) (q : ℕ) → e.refusal ≡ q → (q ≡ done → ⊥) →
    record { refusal = q; station = s; taken = replicate 16 false } ≡ hear_call s bytes → HearsBeside s bytes l places taken e
hears_refused s bytes l places taken e q is ne answer =
    record {
      refused = λ d. ap (λ (x : ℕ). record { refusal = x; station = s; taken = replicate 16 false }) is ∙ answer;
      heard = λ z. absurd (ne (sym is ∙ z));
    }
