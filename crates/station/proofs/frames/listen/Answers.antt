-- `station::frames::listen` meets its contract, refusal by refusal; where none applies, the frame
-- is heard beside the own one.
use Rattle.std.proofs.Common.{◌≡◌, true, ◌∙◌, ℕ, List, ap, sym, subst, arith}
use Rattle.bodies.specs.declared.refusals.Refusal.{Refusal}
use Rattle.bodies.specs.Refusals.{number, number_of}
use Rattle.station_spec.specs.Limits.{station_inside}
use Rattle.station_spec.proofs.StationLimits.{inside_high}
use Rattle.station_spec.proofs.CallSteps.{hear_outside, hear_refused}
use Rattle.hearing_spec.specs.Room.{FrameRoom}
use Rattle.listening.specs.Listening.{MayListen}
use Rattle.station.proofs.HeardBeside.{refused_some, heard_fits, may_listen, heard_room, hears_beside, hears_refused}
use Rattle.station.proofs.frames.listen.Goals as goal

pub returns-then-not-station_inside : goal.returns-then-not-station_inside
returns-then-not-station_inside c =
    let a = c.args in
    hears_refused a.s a.frame.now _ _ _ c.refused.result 2 c.refused.ensures (λ z. omega (arith, z))
    (hear_outside _ _ (sym c.station_inside.ensures ∙ c.if-not-station_inside.true))

pub frame_refusal-requires : goal.frame_refusal-requires
frame_refusal-requires c = inside_high c.args.s (sym c.station_inside.ensures ∙ c.if-not-station_inside.false)

pub put_both-requires : goal.put_both-requires
put_both-requires c =
    let inside : station_inside c.args.s ≡ true = sym c.station_inside.ensures ∙ c.if-not-station_inside.false in
    record { empty = c.requires.both; inside = inside; short = heard_fits c.args.s inside c.args.frame.now (sym c.in-Ok.ensures) }

pub listen_to-requires : goal.listen_to-requires
listen_to-requires c =
    let s = c.args.s in
    let frame = c.args.frame.now in
    let inside : station_inside s ≡ true = sym c.station_inside.ensures ∙ c.if-not-station_inside.false in
    let accepted = sym c.in-Ok.ensures in
    record {
      listens = subst (λ (b : List ℕ). MayListen s b 0) (sym c.put_both.ensures) (may_listen s inside frame accepted);
      frame =
          subst (λ (b : List ℕ). FrameRoom b 260) (sym c.put_both.ensures)
          (heard_room s inside frame accepted (λ i. (c.type_inv.frame i).fits));
      silent = c.requires.places;
      room = c.requires.taken;
    }

pub returns-in-Ok : goal.returns-in-Ok
returns-in-Ok c =
    let s = c.args.s in
    let inside : station_inside s ≡ true = sym c.station_inside.ensures ∙ c.if-not-station_inside.false in
    hears_beside s inside c.args.frame.now (sym c.in-Ok.ensures) _ _ _ c.listen_to.result c.put_both.ensures c.listen_to.ensures

pub returns-in-Err : goal.returns-in-Err
returns-in-Err c =
    let s = c.args.s in
    let inside : station_inside s ≡ true = sym c.station_inside.ensures ∙ c.if-not-station_inside.false in
    let q : Refusal = c.in-Err.refusal in
    hears_refused s c.args.frame.now _ _ _ c.refused-in-Err.result (number q) c.refused-in-Err.ensures (refused_some q)
    (hear_refused _ _ _ inside (ap number_of c.in-Err.ensures) (refused_some q))
