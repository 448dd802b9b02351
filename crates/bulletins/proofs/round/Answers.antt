use Rattle.std.proofs.Common.{◌≡◌, true, sym, ◌∙◌}
use Rattle.bulletins_spec.specs.State.{tag_at}
use Rattle.bulletins_spec.specs.Calls.{fits}
use Rattle.bulletins_spec.proofs.Lengths.{lengths_at}
use Rattle.bulletins.proofs.Free.{inside_few}
use Rattle.bulletins.proofs.Ordering.{places_ordered, places_below}
use Rattle.bulletins.proofs.Joining.{fit_inside, unfit, round_refused, round_done, held_is, shown_is}
use Rattle.bulletins.proofs.round.Goals as goal

pub returns-then-not-fit : goal.returns-then-not-fit
returns-then-not-fit c =
    let a = c.args in
    c.refused_round.ensures ∙ unfit a.g a.b a.masks (sym c.fit.ensures ∙ c.if-not-fit.true)

pub returns-then-round : goal.returns-then-round
returns-then-round c =
    let a = c.args in
    round_refused a.g a.b a.masks (sym c.fit.ensures ∙ c.if-not-fit.false) c.round-round.result c.round-round.ensures c.if-round.true _ c.none_shown.ensures

pub held_after-after-requires : goal.held_after-after-requires
held_after-after-requires c = record { few = inside_few c.args.b (fit_inside c.args.g c.args.b c.args.masks (sym c.fit.ensures ∙ c.if-not-fit.false)) }

pub order_of-places-requires : goal.order_of-places-requires
order_of-places-requires c = record { few = inside_few c.args.b (fit_inside c.args.g c.args.b c.args.masks (sym c.fit.ensures ∙ c.if-not-fit.false)) }

pub all_shown-shown-requires-clause-few : goal.all_shown-shown-requires-clause-few
all_shown-shown-requires-clause-few c = inside_few c.args.b (fit_inside c.args.g c.args.b c.args.masks (sym c.fit.ensures ∙ c.if-not-fit.false))

pub all_shown-shown-requires-clause-places : goal.all_shown-shown-requires-clause-places
all_shown-shown-requires-clause-places c =
    places_below (tag_at c.args.b) c.args.b.n c.order_of-places.result
    (inside_few c.args.b (fit_inside c.args.g c.args.b c.args.masks (sym c.fit.ensures ∙ c.if-not-fit.false))) c.order_of-places.ensures

pub returns : goal.returns
returns c =
    let a = c.args in
    let fit : fits a.g a.b ≡ true = sym c.fit.ensures ∙ c.if-not-fit.false in
    let long = (lengths_at a.b _ c.well_formed.1.0).held in
    let high = inside_few a.b (fit_inside a.g a.b a.masks fit) in
    round_done a.g a.b a.masks fit c.round-round.result c.round-round.ensures c.if-round.false _ _
    (held_is a.b a.masks long high c.held_after-after.result c.held_after-after.ensures)
    (shown_is a.b a.masks long high c.held_after-after.result c.order_of-places.result c.all_shown-shown.result c.held_after-after.ensures
    (places_ordered (tag_at a.b) a.b.n c.order_of-places.result high c.order_of-places.ensures) c.all_shown-shown.ensures)
