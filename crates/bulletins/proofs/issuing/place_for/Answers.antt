use Rattle.std.proofs.Common.{sym, ◌∙◌, ◌<◌, arith}
use Rattle.bulletins.proofs.Free.{inside_few, place_within, always}
use Rattle.bulletins.proofs.issuing.place_for.Goals as goal

pub has_tag-requires : goal.has_tag-requires
has_tag-requires c = omega (arith, inside_few c.args.b.now (sym c.inside.ensures ∙ c.if-not-inside.false))

pub free_place-requires : goal.free_place-requires
free_place-requires c = omega (arith, inside_few c.args.b.now (sym c.inside.ensures ∙ c.if-not-inside.false))

pub returns-clause-within : goal.returns-clause-within
returns-clause-within c =
    let few : c.args.issuer < 16 = omega (arith, inside_few c.args.b.now (sym c.inside.ensures ∙ c.if-not-inside.false)) in
    rw c.ok_or.ensures.value (place_within c.free_place.result _ c.args.issuer few c.free_place.ensures.own)

pub returns-clause-issuer : goal.returns-clause-issuer
returns-clause-issuer c =
    let few : c.args.issuer < 16 = omega (arith, inside_few c.args.b.now (sym c.inside.ensures ∙ c.if-not-inside.false)) in
    always c.ok_or.result few
