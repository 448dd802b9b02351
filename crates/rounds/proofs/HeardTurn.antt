-- One station of a round, as the code goes: what it hears from the bytes is what it hears by
-- definition, so what it then takes into its state is inside its limits for its turn, and what it
-- reports is its report.
use Prim.Native.Nat.{ℕ, ◌-◌, ◌<◌}
use mathlib.Core.Bool.{true}
use mathlib.Core.List.{List, ◌++◌}
use mathlib.Core.Path.{◌≡◌, sym, ap, ◌∙◌}
use native.Mathlib.Omega.{arith}
use lib.ListN.{get_or, length, length-map, length-take, take, drop, replicate}
use Rattle.std.proofs.lemmas.List.{drop-replicate}
use Rattle.bodies.specs.Refusals.{done}
use Rattle.station_spec.specs.declared.Station.{Station}
use Rattle.station_spec.specs.declared.Taking.{Taking}
use Rattle.station_spec.specs.declared.Turned.{Turned}
use Rattle.station_spec.specs.Limits.{station_inside}
use Rattle.station_spec.specs.Hearing.{Hearing, no_taking, initial_hearing}
use Rattle.station_spec.specs.Turn.{after_turn, turn_report}
use Rattle.station_spec.specs.Calls.{turn_done}
use Rattle.station_spec.proofs.StationLimits.{inside_make}
use Rattle.hearing_spec.specs.Buffer.{size_in, frame_start, taking_at, hear_senders}
use Rattle.hearing_spec.specs.Room.{FrameRoom}
use Rattle.hearing_spec.specs.StandsFor.{acts_on}
use Rattle.hearing_spec.specs.declared.Ear.{Ear}
use Rattle.listening.specs.Listened.{heard_notes, takings_at, Listens}
use Rattle.listening.specs.Listening.{MayListen, mask_heard}
use Rattle.group_spec.specs.State.{station_at, size_of}
use Rattle.group_spec.specs.Calls.{heard, report_of}
use Rattle.group_spec.specs.Inner.Shape.{GroupShaped}
use Rattle.group_spec.proofs.Members.{Member, member_at, members_open}
use Rattle.group_spec.proofs.MembersRound.{hears_all}
use Rattle.rounds.specs.Frames.{FramesAt}
use Rattle.rounds.proofs.WrittenFrames.{AllSent}
use Rattle.rounds.proofs.GroupFrames.{frames_at, records_of_lem}
use Rattle.rounds.proofs.RoundBytes.{heard_below_lem}

-- what a station of a round has heard of its mask
abbrev pub HeardMask : List ℕ → List ℕ → ℕ → Station → List ℕ → List ℕ → Ear → Type 0
HeardMask masks bytes i s places taken e = Listens s bytes (mask_heard s bytes (get_or masks i 0)) places taken e

-- what hearing asks for
abbrev pub MayHear : List ℕ → Station → Type 0
MayHear bytes s = MayListen s bytes (frame_start s.own) × ((j : ℕ) → j < size_in bytes → FrameRoom bytes (frame_start j))

-- the takings as a report has them
abbrev pub takings_in : List ℕ → List ℕ → ℕ → List Taking
takings_in bytes taken len = takings_at bytes taken len ++ replicate (30 - len) no_taking

-- past the takings the entries of a blank report are left
pub blank_after : (old : List Taking) (len : ℕ) → old ≡ replicate 30 no_taking → drop len old ≡ replicate (30 - len) no_taking
blank_after old len e = rw e (drop-replicate len 30 no_taking)

module _ (g : List Station) (masks bytes : List ℕ) (sent : AllSent g bytes) (i : ℕ) (below : i < size_of g) where
  abbrev s : Station
  s = station_at g i

  member : Member (size_of g) g i
  member = member_at g sent.inside i below

  frames : FramesAt (size_of g) bytes
  frames = frames_at g sent.inside sent.counts bytes sent.frames

  pub may_hear : MayHear bytes s
  may_hear = (
    record {
      inside = inside_make s member.inside;
      short = omega (arith, frames.long);
      size = member.size ∙ sym frames.size;
      own_room = rw member.own (frames.frame i below);
      own_frame = rw member.own (records_of_lem g sent.inside sent.counts bytes sent.frames i below);
    },
    λ j l. frames.frame j (omega (arith, frames.size)),
  )

  heard_is : mask_heard s bytes (get_or masks i 0) (initial_hearing s) ≡ heard g masks i
  heard_is =
      (λ t. hear_senders (initial_hearing s) bytes (member.own t) (get_or masks i 0) (frames.size t))
      ∙ heard_below_lem g masks bytes sent i below (size_of g) (omega arith)

  module _ (places taken : List ℕ) (e : Ear) (h : HeardMask masks bytes i s places taken e) where
    pub refusal_is : e.refusal ≡ (heard g masks i).refusal
    refusal_is = h.refusal ∙ ap (λ (y : Hearing). y.refusal) heard_is

    module _ (shape : GroupShaped g) (fine : e.refusal ≡ done) where
      station_is : acts_on s bytes (heard_notes places taken e) ≡ (heard g masks i).station
      station_is = h.station fine ∙ ap (λ (y : Hearing). y.station) heard_is

      pub may_turn : station_inside (acts_on s bytes (heard_notes places taken e)) ≡ true
      may_turn =
          let hs = hears_all (size_of g) g (members_open g shape sent.inside) masks sent.counts i below in
          rw station_is (inside_make (heard g masks i).station (hs.inside (sym refusal_is ∙ fine)))

      module _ (t : Turned) (turned : t ≡ turn_done (acts_on s bytes (heard_notes places taken e))) where
        pub after_is : t.station ≡ after_turn (heard g masks i).station
        after_is = ap (λ (y : Turned). y.station) turned ∙ ap after_turn station_is

        takings_are : takings_at bytes taken e.len ≡ (heard g masks i).takings
        takings_are = h.takings fine ∙ ap (λ (y : Hearing). y.takings) heard_is

        len_is : e.len ≡ length (heard g masks i).takings
        len_is =
            let all : length (take e.len taken) ≡ e.len =
            omega (arith, length-take e.len taken, h.readable.takings.long, h.readable.takings.few) in
            sym all ∙ sym (length-map (take e.len taken) (taking_at bytes)) ∙ ap length takings_are

        pub report_is :
            (ts : List Taking) → ts ≡ takings_in bytes taken e.len → record { takings_len = e.len; takings = ts; turn = t.report } ≡ report_of g masks i
        unfolding report_of
        report_is ts is =
            (λ j. record { takings_len = e.len; takings = is j; turn = (turned j).report })
            ∙ (λ j.
            record {
              takings_len = len_is j;
              takings = takings_are j ++ replicate (30 - len_is j) no_taking;
              turn = turn_report (station_is j);
            })
