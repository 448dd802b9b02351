-- The two loops after the frames are written. First each station hears: those passed have heard,
-- and none of them was refused. Then each takes what it heard into its state and takes its turn:
-- those passed stand as the definition says, with their reports, and the others are as they were
-- given.
use Prim.Native.Nat.{ℕ, ◌+◌, ◌-◌, ◌*◌, ◌≤◌, ◌<◌}
use mathlib.Core.Bool.{true}
use mathlib.Core.List.{List, []}
use mathlib.Core.Path.{◌≡◌, refl, sym, ap, subst, ◌∙◌}
use native.Mathlib.Decide.{ℕ_discrete}
use native.Mathlib.Omega.{arith}
use lib.ListN.{get_or, set, take, drop, length, length-set, length-take, length-drop, replicate, get_or-replicate}
use lib.Seq.{get_or-set_same, get_or-set_other, drop-drop}
use Rattle.bodies.specs.Refusals.{done}
use Rattle.lists.specs.Below.{set_below}
use Rattle.lists.proofs.Laws.{set_below_more, set_below_above, set_below_ext}
use Rattle.station_spec.specs.declared.Station.{Station}
use Rattle.station_spec.specs.Limits.{station_inside}
use Rattle.station_spec.specs.Turn.{after_turn, turn_report}
use Rattle.station_spec.specs.Calls.{turn_done}
use Rattle.hearing_spec.specs.StandsFor.{acts_on}
use Rattle.hearing_spec.specs.declared.Ear.{Ear}
use Rattle.hearing_spec.specs.Buffer.{size_in}
use Rattle.listening.specs.Listened.{heard_notes, Readable}
use Rattle.frame_spec.specs.Frame.{valid_number}
use Rattle.station_spec.proofs.CallSteps.{valid_parts}
use Rattle.group_spec.specs.declared.Report.{Report}
use Rattle.group_spec.specs.declared.RoundDone.{RoundDone}
use Rattle.group_spec.specs.State.{no_station, station_at, size_of}
use Rattle.group_spec.specs.Calls.{heard, no_report, report_of, after_round, round_call}
use Rattle.group_spec.specs.Inner.Shape.{GroupShaped}
use Rattle.group_spec.proofs.Members.{group_high}
use Rattle.group_spec.proofs.CallSteps.{round_stopped, round_done}
use Rattle.rounds.specs.Reported.{heard_report}
use Rattle.rounds.proofs.WrittenFrames.{AllSent, SentBelow, all_sent}
use Rattle.rounds.proofs.Parts.{zeros_of, part, with_part, part_here, part_before, part_after, part_length, zeros_front, zeros_rest}
use Rattle.rounds.proofs.HeardTurn.{HeardMask, MayHear, takings_in, may_hear, refusal_is, may_turn, after_is, report_is}

-- a round that is refused
abbrev pub refused_round : ℕ → List Station → Report → RoundDone
refused_round refusal g none = record { refusal = refusal; group = g; reports = replicate 16 none }

-- what stands after all frames are written
pub record Begun (g : List Station) (none : Report) (bytes : List ℕ) : Type 0 where
  pub none_is : none ≡ no_report
  pub sent : AllSent g bytes
  pub shape : GroupShaped g

-- it does where the loop over the frames ends with no refusal
pub begun_sent :
    (g : List Station) (k refusal : ℕ) (bytes : List ℕ) → SentBelow g k refusal bytes → k ≡ size_of g → valid_number (size_of g) 0 ≡ true →
    refusal ≡ 0 → GroupShaped g → Begun g no_report bytes
begun_sent g k refusal bytes sent all valid none shape =
    record { none_is = refl; sent = all_sent g k refusal bytes sent all (valid_parts (size_of g) 0 valid).0 none; shape = shape }

-- what is read past the end of a list of numbers that were heard
abbrev pub no_ear : Ear
no_ear = record { refusal = 0; count = 0; acked = []; labels = []; len = 0 }

-- the stations below j have heard, each with its own part of the places, and no frame was refused;
-- the other parts of the places are zeros
pub record Listening (g : List Station) (masks bytes : List ℕ) (ears : List Ear) (places taken : List ℕ) (j : ℕ) : Type 0 where
  pub ears_long : length ears ≡ 16
  pub places_long : length places ≡ 256
  pub taken_long : length taken ≡ 480
  pub zeros : drop (16 * j) places ≡ zeros_of (256 - 16 * j)
  pub each :
      (k : ℕ) → k < j →
      HeardMask masks bytes k (station_at g k) (part 16 (16 * k) places) (part 30 (30 * k) taken) (get_or ears k no_ear)
  pub fine : (k : ℕ) → k < j → (get_or ears k no_ear).refusal ≡ done

module _ (g : List Station) (masks : List ℕ) (none : Report) (bytes : List ℕ) (b : Begun g none bytes) where
  pub listening_none :
      (ears : List Ear) → length ears ≡ 16 → Listening g masks bytes ears (zeros_of 256) (zeros_of 480) 0
  listening_none ears long =
      record {
        ears_long = long;
        places_long = refl;
        taken_long = refl;
        zeros = refl;
        each = λ k l. absurd (omega arith);
        fine = λ k l. absurd (omega arith);
      }

  pub listening_hears : (j : ℕ) → j < size_of g → MayHear bytes (station_at g j)
  listening_hears j below = may_hear g masks bytes b.sent j below

  module _ (ears : List Ear) (places taken : List ℕ) (j : ℕ) (l : Listening g masks bytes ears places taken j) (low : j < 16) where
    pub listening_zeros : part 16 (16 * j) places ≡ zeros_of 16
    listening_zeros =
        let split : 256 - 16 * j ≡ 16 + (240 - 16 * j) = omega arith in
        ap (take 16) l.zeros ∙ ap (λ (m : ℕ). take 16 (zeros_of m)) split ∙ zeros_front 16 (240 - 16 * j)

    pub listening_taken : length (part 30 (30 * j) taken) ≡ 30
    listening_taken = omega (arith, length-take 30 (drop (30 * j) taken), length-drop (30 * j) taken, l.taken_long)

    module _ (below : j < size_of g) (places' taken' : List ℕ) (e : Ear) (h : HeardMask masks bytes j (station_at g j) places' taken' e) where
      pub listening_stopped : (e.refusal ≡ done → ⊥) → refused_round e.refusal g none ≡ round_call g masks
      listening_stopped bad =
          let here = refusal_is g masks bytes b.sent j below places' taken' e h in
          (λ i. refused_round (here i) g (b.none_is i))
          ∙ round_stopped g masks b.sent.inside b.sent.counts j below
          (λ k m.
          sym (refusal_is g masks bytes b.sent k (omega arith) (part 16 (16 * k) places) (part 30 (30 * k) taken) (get_or ears k no_ear) (l.each k m))
          ∙ l.fine k m)
          (λ z. bad (here ∙ z))

      module _ (fine : e.refusal ≡ done) where
        abbrev all : List Ear
        all = set ears j e

        abbrev put : List ℕ
        put = with_part 16 (16 * j) places places'

        abbrev took : List ℕ
        took = with_part 30 (30 * j) taken taken'

        room : 16 * j + 16 ≤ length places
        room = omega (arith, l.places_long)

        taken_room : 30 * j + 30 ≤ length taken
        taken_room = omega (arith, l.taken_long)

        here :
            HeardMask masks bytes j (station_at g j) (part 16 (16 * j) put) (part 30 (30 * j) took) (get_or all j no_ear)
        here =
            let p = part_here 16 (16 * j) places room places' h.readable.places_long in
            let t = part_here 30 (30 * j) taken taken_room taken' h.readable.takings.long in
            let r = get_or-set_same ears j e no_ear (omega (arith, l.ears_long)) in
            subst (λ (x : List ℕ). HeardMask masks bytes j (station_at g j) x (part 30 (30 * j) took) (get_or all j no_ear)) (sym p)
            (subst (λ (x : List ℕ). HeardMask masks bytes j (station_at g j) places' x (get_or all j no_ear)) (sym t)
            (subst (HeardMask masks bytes j (station_at g j) places' taken') (sym r) h))

        before :
            (k : ℕ) → k < j → HeardMask masks bytes k (station_at g k) (part 16 (16 * k) put) (part 30 (30 * k) took) (get_or all k no_ear)
        before k m =
            let p = part_before 16 (16 * j) places room places' h.readable.places_long 16 (16 * k) (omega arith) in
            let t = part_before 30 (30 * j) taken taken_room taken' h.readable.takings.long 30 (30 * k) (omega arith) in
            let r = get_or-set_other ears j k e no_ear (λ z. absurd (omega arith)) in
            subst (λ (x : List ℕ). HeardMask masks bytes k (station_at g k) x (part 30 (30 * k) took) (get_or all k no_ear)) (sym p)
            (subst (λ (x : List ℕ). HeardMask masks bytes k (station_at g k) (part 16 (16 * k) places) x (get_or all k no_ear)) (sym t)
            (subst (HeardMask masks bytes k (station_at g k) (part 16 (16 * k) places) (part 30 (30 * k) taken)) (sym r) (l.each k m)))

        rest : drop (16 * (j + 1)) put ≡ zeros_of (256 - 16 * (j + 1))
        rest =
            let next : 16 * (j + 1) ≡ 16 * j + 16 = omega arith in
            let split : 256 - 16 * j ≡ 16 + (256 - 16 * (j + 1)) = omega arith in
            ap (λ (m : ℕ). drop m put) next
            ∙ part_after 16 (16 * j) places room places' h.readable.places_long
            ∙ sym (drop-drop 16 (16 * j) places)
            ∙ ap (drop 16) l.zeros
            ∙ ap (λ (m : ℕ). drop 16 (zeros_of m)) split
            ∙ zeros_rest 16 (256 - 16 * (j + 1))

        pub listening_more : Listening g masks bytes all put took (j + 1)
        listening_more =
            record {
              ears_long = length-set ears j e ∙ l.ears_long;
              places_long = part_length 16 (16 * j) places room places' h.readable.places_long ∙ l.places_long;
              taken_long = part_length 30 (30 * j) taken taken_room taken' h.readable.takings.long ∙ l.taken_long;
              zeros = rest;
              each =
                  λ k m.
                  elim (ℕ_discrete k j) [
                    | yes z ↦
                        subst (λ (i : ℕ). HeardMask masks bytes i (station_at g i) (part 16 (16 * i) put) (part 30 (30 * i) took) (get_or all i no_ear)) (sym z) here
                    | no d ↦ before k (omega arith)
                  ];
              fine =
                  λ k m.
                  elim (ℕ_discrete k j) [
                    | yes z ↦ rw (z, get_or-set_same ears j e no_ear (omega (arith, l.ears_long))) fine
                    | no d ↦ rw (get_or-set_other ears j k e no_ear d) (l.fine k (omega arith))
                  ];
            }

        -- as the code has it
        pub listening_next :
            (w v : ℕ) → w ≡ 16 → v ≡ 30 → Listening g masks bytes all (with_part w (16 * j) places places') (with_part v (30 * j) taken taken') (j + 1)
        listening_next w v p q = rw (p, q) listening_more

-- the station k that has taken what it heard into its state, and what the round reports of it, as
-- the loop of turns sees them
abbrev pub acted_at : List Station → List ℕ → List Ear → List ℕ → List ℕ → ℕ → Station
acted_at g bytes ears places taken k =
    acts_on (station_at g k) bytes (heard_notes (part 16 (16 * k) places) (part 30 (30 * k) taken) (get_or ears k no_ear))

abbrev pub report_at : List Station → List ℕ → List Ear → List ℕ → List ℕ → ℕ → Report
report_at g bytes ears places taken k =
    record {
      takings_len = (get_or ears k no_ear).len;
      takings = takings_in bytes (part 30 (30 * k) taken) (get_or ears k no_ear).len;
      turn = turn_report (acted_at g bytes ears places taken k);
    }

-- every station may act on what it heard, and then take its turn
pub record MayTurn (g : List Station) (bytes : List ℕ) (ears : List Ear) (places taken : List ℕ) (n : ℕ) : Type 0 where
  pub high : n ≤ 16
  pub ears_long : length ears ≡ 16
  pub places_long : length places ≡ 256
  pub taken_long : length taken ≡ 480
  pub size : (k : ℕ) → k < n → (station_at g k).n ≡ size_in bytes
  pub readable : (k : ℕ) → k < n → Readable bytes (part 16 (16 * k) places) (part 30 (30 * k) taken) (get_or ears k no_ear).len
  pub inside : (k : ℕ) → k < n → station_inside (acted_at g bytes ears places taken k) ≡ true

-- the group and the reports once the stations below i have taken their turn
pub record Turning (g : List Station) (bytes : List ℕ) (ears : List Ear) (places taken : List ℕ) (blank : List Report)
    (group : List Station) (reports : List Report) (i : ℕ) : Type 0 where
  pub group_is : group ≡ set_below i (λ k. after_turn (acted_at g bytes ears places taken k)) g
  pub reports_are : reports ≡ set_below i (report_at g bytes ears places taken) blank

module _ (g : List Station) (bytes : List ℕ) (ears : List Ear) (places taken : List ℕ) (blank : List Report) where
  pub turning_none : Turning g bytes ears places taken blank g blank 0
  unfolding set_below
  turning_none = record { group_is = refl; reports_are = refl }

  module _ (group : List Station) (reports : List Report) (i : ℕ) (t : Turning g bytes ears places taken blank group reports i) where
    -- the station whose turn it is, is as it was given
    unturned : station_at group i ≡ station_at g i
    unturned =
        ap (λ (y : List Station). station_at y i) t.group_is
        ∙ set_below_above i (λ k. after_turn (acted_at g bytes ears places taken k)) g i no_station (omega arith)

    pub turning_size : (station_at g i).n ≡ size_in bytes → (station_at group i).n ≡ size_in bytes
    turning_size e = ap (λ (y : Station). y.n) unturned ∙ e

    module _ (acted : Station)
        (acted_is : acted ≡ acts_on (station_at group i) bytes (heard_notes (part 16 (16 * i) places) (part 30 (30 * i) taken) (get_or ears i no_ear))) where
      acts : acted ≡ acted_at g bytes ears places taken i
      acts =
          acted_is
          ∙ ap (λ (y : Station). acts_on y bytes (heard_notes (part 16 (16 * i) places) (part 30 (30 * i) taken) (get_or ears i no_ear))) unturned

      pub turning_turns : station_inside (acted_at g bytes ears places taken i) ≡ true → station_inside acted ≡ true
      turning_turns h = ap station_inside acts ∙ h

      pub turning_more :
          (after : Station) → after ≡ after_turn acted → (report : Report) → report ≡ heard_report (get_or ears i no_ear) bytes (part 30 (30 * i) taken) acted →
          Turning g bytes ears places taken blank (set group i after) (set reports i report) (i + 1)
      turning_more after after_is report report_is =
          let after_all = after_is ∙ ap after_turn acts in
          let report_all = report_is ∙ ap (heard_report (get_or ears i no_ear) bytes (part 30 (30 * i) taken)) acts in
          record {
            group_is =
                (λ j. set (t.group_is j) i (after_all j)) ∙ set_below_more i (λ k. after_turn (acted_at g bytes ears places taken k)) g;
            reports_are =
                (λ j. set (t.reports_are j) i (report_all j))
                ∙ set_below_more i (report_at g bytes ears places taken) blank;
          }

-- where all have heard, they may take their turns, and once all have done so the round is done
module _ (g : List Station) (masks : List ℕ) (none : Report) (bytes : List ℕ) (b : Begun g none bytes)
    (ears : List Ear) (places taken : List ℕ) (n : ℕ) (n_is : n ≡ size_of g) (l : Listening g masks bytes ears places taken n) where
  pub may_turn_all : MayTurn g bytes ears places taken n
  may_turn_all =
      record {
        high = omega (arith, n_is, group_high g b.sent.inside);
        ears_long = l.ears_long;
        places_long = l.places_long;
        taken_long = l.taken_long;
        size = λ k m. (may_hear g masks bytes b.sent k (omega arith)).0.size;
        readable = λ k m. (l.each k m).readable;
        inside =
            λ k m.
            may_turn g masks bytes b.sent k (omega arith) (part 16 (16 * k) places) (part 30 (30 * k) taken) (get_or ears k no_ear) (l.each k m)
            b.shape (l.fine k m);
      }

  pub turning_done :
      (group : List Station) (reports : List Report) (i : ℕ) → Turning g bytes ears places taken (replicate 16 none) group reports i → i ≡ n →
      record { refusal = 0; group = group; reports = reports } ≡ round_call g masks
  unfolding after_round
  turning_done group reports i t e =
      let all : i ≡ size_of g = e ∙ n_is in
      let after : (k : ℕ) → k < i → after_turn (acted_at g bytes ears places taken k) ≡ after_turn (heard g masks k).station =
      λ k m.
      after_is g masks bytes b.sent k (omega arith) (part 16 (16 * k) places) (part 30 (30 * k) taken) (get_or ears k no_ear) (l.each k (omega arith))
      b.shape (l.fine k (omega arith)) (turn_done (acted_at g bytes ears places taken k)) refl in
      let report : (k : ℕ) → k < i → report_at g bytes ears places taken k ≡ report_of g masks k =
      λ k m.
      report_is g masks bytes b.sent k (omega arith) (part 16 (16 * k) places) (part 30 (30 * k) taken) (get_or ears k no_ear) (l.each k (omega arith))
      b.shape (l.fine k (omega arith)) (turn_done (acted_at g bytes ears places taken k)) refl
      (takings_in bytes (part 30 (30 * k) taken) (get_or ears k no_ear).len) refl in
      let group_all : group ≡ set_below i (λ k. after_turn (heard g masks k).station) g =
      t.group_is ∙ set_below_ext i (λ k. after_turn (acted_at g bytes ears places taken k)) (λ k. after_turn (heard g masks k).station) g after in
      let reports_all : reports ≡ set_below i (report_of g masks) (replicate 16 no_report) =
      t.reports_are
      ∙ set_below_ext i (report_at g bytes ears places taken) (report_of g masks) (replicate 16 none) report
      ∙ ap (λ (r : Report). set_below i (report_of g masks) (replicate 16 r)) b.none_is in
      (λ j. record { refusal = 0; group = group_all j; reports = reports_all j })
      ∙ (λ j.
      record {
        refusal = 0;
        group = set_below (all j) (λ k. after_turn (heard g masks k).station) g;
        reports = set_below (all j) (report_of g masks) (replicate 16 no_report);
      })
      ∙ round_done g masks b.sent.inside b.sent.counts
      (λ k m.
      let low : k < n = omega arith in
      sym (refusal_is g masks bytes b.sent k m (part 16 (16 * k) places) (part 30 (30 * k) taken) (get_or ears k no_ear) (l.each k low)) ∙ l.fine k low)

-- an answer, part by part
pub in_parts :
    (r : ℕ) (g : List Station) (reports : List Report) (d : RoundDone) → record { refusal = r; group = g; reports = reports } ≡ d →
    (r ≡ d.refusal) × (g ≡ d.group) × (reports ≡ d.reports)
in_parts r g reports d e =
    (ap (λ (x : RoundDone). x.refusal) e, ap (λ (x : RoundDone). x.group) e, ap (λ (x : RoundDone). x.reports) e)

-- the report of the station whose turn it is, is blank
pub turning_blank :
    (g : List Station) (bytes : List ℕ) (ears : List Ear) (places taken : List ℕ) (blank : List Report) (group : List Station) (reports : List Report)
    (i : ℕ) (d : Report) → i < 16 → blank ≡ replicate 16 no_report → Turning g bytes ears places taken blank group reports i →
    get_or reports i d ≡ no_report
turning_blank g bytes ears places taken blank group reports i d low b t =
    ap (λ (y : List Report). get_or y i d) t.reports_are
    ∙ set_below_above i (report_at g bytes ears places taken) blank i d (omega arith)
    ∙ ap (λ (y : List Report). get_or y i d) b ∙ get_or-replicate 16 i no_report d low
