-- What a heard frame leaves of the bytes of a station: where they are written they are those of the
-- station that the call gives, and elsewhere they were so before, for accepted bytes are the
-- encoding of what they are decoded to.
use mathlib.Core.Path.{◌≡◌, refl, sym, ap, ◌∙◌}
use mathlib.Core.Bool.{Bool, true, false}
use mathlib.Core.List.{List}
use Prim.Native.Nat.{ℕ, ◌<◌, ◌≤◌}
use native.Mathlib.Omega.{arith}
use lib.Dec.{ltb}
use lib.ListN.{length, get_or-eq_default}
use lib.Seq.{sets}
use borrow.Author.Tests.{ltb-true, ltb-false}
use Rattle.bodies.specs.Refusals.{done, short_buffer}
use Rattle.planning_spec.specs.Merge.{front_written}
use Rattle.frame_spec.specs.Record.{no_record}
use Rattle.station_spec.specs.declared.Station.{Station}
use Rattle.station_spec.specs.declared.Heard.{Heard}
use Rattle.station_spec.specs.State.{cell_of, record_of}
use Rattle.station_spec.specs.Calls.{sources_of, hear_call}
use Rattle.station_spec.proofs.Setters.{Shaped}
use Rattle.hearing_spec.specs.declared.Ear.{Ear}
use Rattle.hearing_spec.specs.StandsFor.{acts_on}
use Rattle.listening.specs.Listened.{heard_notes, takings_at}
use Rattle.station_bytes_spec.specs.Station.{encode_station, decode_station, is_station}
use Rattle.station_bytes_spec.specs.Reports.{encode_flags}
use Rattle.station_bytes_spec.proofs.Bytes.{AllBytes}
use Rattle.station_bytes_spec.proofs.Station.{length_station, station_encoded}
use Rattle.station_bytes_spec.proofs.Reports.{length_flags}
use Rattle.station_bytes_spec.proofs.Decoded.{station_fitting, station_shaped}
use Rattle.station.specs.Beside.{Acts}
use Rattle.station_calls.specs.Changes.{ChangesOf}
use Rattle.station_calls.proofs.HeardChanges.{sets_over}
use Rattle.station_calls.specs.Station.{hear_answer, hear_returned}
use Rattle.station_calls.proofs.Refusals.{no_room, room}
use Rattle.station_calls.proofs.Returns.{both_short, both_done}
use Rattle.station_calls.proofs.Station.{station_long}

-- what is written of an answer
abbrev pub refusal : Heard → ℕ
refusal x = x.refusal

abbrev pub encoded : Heard → List ℕ
encoded x = encode_station x.station

abbrev pub flags : Heard → List ℕ
flags x = encode_flags x.taken

-- the answer of the station that was read is that of its bytes
pub hear_is : (b : List ℕ) (s : Station) → s ≡ decode_station b 0 → (frame : List ℕ) (k : Heard) → k ≡ hear_call s frame → k ≡ hear_answer b frame
hear_is b s read frame k call = call ∙ ap (λ (t : Station). hear_call t frame) read

module _ (b : List ℕ) (bytes : AllBytes b) (h : is_station b ≡ true) (s : Station) (read : s ≡ decode_station b 0) where
  -- the words of a decoded table have 32 bits
  words : (k : ℕ) → (record_of (decode_station b 0) k).labels < 4_294_967_296
  unfolding cell_of
  words k = go (ltb k 16) refl
    where
      go : (t : Bool) → ltb k 16 ≡ t → (record_of (decode_station b 0) k).labels < 4_294_967_296
      go true e = ((station_fitting b bytes 0).cells k (ltb-true k 16 e)).entry_fits.labels_fit
      go false e =
          rw (get_or-eq_default (decode_station b 0).table no_record {n = k} (omega (arith, (station_shaped b bytes 0).table, ltb-false k 16 e))) (omega arith)

  module _ (frame taken both places records : List ℕ) (e : Ear) (a : Acts s frame both places records e) where
    abbrev answer : Heard
    answer =
        record {
          refusal = done;
          station = acts_on s both (heard_notes places records e);
          taken = sources_of (takings_at both records e.len);
        }

    pub heard_short :
        length taken < 16 → (r : ℕ) → r ≡ short_buffer →
        (r ≡ hear_returned b frame taken) × (b ≡ front_written r (encode_station (hear_answer b frame).station) b)
        × (taken ≡ front_written r (encode_flags (hear_answer b frame).taken) taken)
    unfolding hear_returned
    heard_short few r nine = both_short refusal encoded answer _ (hear_is b s read frame answer a.answered) _ h b flags taken _ refl (no_room 16 taken few) r nine

    pub heard_done :
        16 ≤ length taken → (l m : List ℕ) → (sources : List Bool) → ChangesOf s.n b l (λ t. acts_on t both (heard_notes places records e)) →
        sources ≡ sources_of (takings_at both records e.len) → m ≡ sets taken 0 (encode_flags sources) →
        (done ≡ hear_returned b frame taken) × (l ≡ front_written done (encode_station (hear_answer b frame).station) b)
        × (m ≡ front_written done (encode_flags (hear_answer b frame).taken) taken)
    unfolding hear_returned
    heard_done enough l m sources change from told =
        let d = decode_station b 0 in
        let was : b ≡ encode_station s = sym (station_encoded b bytes h) ∙ ap encode_station (sym read) in
        let shape : Shaped s = rw read (station_shaped b bytes 0) in
        let small : (k : ℕ) → (record_of s k).labels < 4_294_967_296 = rw read words in
        let new : l ≡ encode_station answer.station = change.encoded s shape refl small was in
        let over : sets b 0 (encode_station answer.station) ≡ encode_station answer.station =
        sets_over (encode_station answer.station) b (length_station answer.station ∙ sym (station_long b h)) in
        both_done refusal encoded answer _ (hear_is b s read frame answer a.answered) _ h b flags taken _ refl (room 16 taken enough)
        (length_station _ ∙ sym (station_long b h)) (omega (arith, length_flags (hear_answer b frame).taken)) l m (new ∙ sym over)
        (told ∙ ap (λ (x : List Bool). sets taken 0 (encode_flags x)) from)
