-- `station::frames::hear` meets its contract: what was heard is taken into the station, and the
-- sources of the takings are told.
use Rattle.std.proofs.Common.{◌∙◌}
use Rattle.bodies.specs.Refusals.{done}
use Rattle.station.proofs.frames.hear.Goals as goal

pub returns-then-heard-ne-DONE : goal.returns-then-heard-ne-DONE
returns-then-heard-ne-DONE c = c.listen-heard.ensures.refused c.if-heard-ne-DONE.true

pub returns : goal.returns
returns c =
    let h = c.listen-heard.ensures.heard c.if-heard-ne-DONE.false in
    (λ i. record { refusal = done; station = c.act.ensures i; taken = c.sources_of-sources.ensures i }) ∙ h.answered

pub sources_of-sources-requires : goal.sources_of-sources-requires
sources_of-sources-requires c = (c.listen-heard.ensures.heard c.if-heard-ne-DONE.false).readable.takings

pub act-requires : goal.act-requires
act-requires c =
    let h = c.listen-heard.ensures.heard c.if-heard-ne-DONE.false in
    record { size = h.size; readable = h.readable }
