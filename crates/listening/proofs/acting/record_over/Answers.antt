-- `listening::acting::record_over` meets its contract.
use mathlib.Core.Path.{◌∙◌}
use Rattle.labels.specs.Packing.{labels_over}
use Rattle.frame_spec.specs.Record.{record_label}
use Rattle.frame_spec.proofs.Labels.{labels_of}
use Rattle.station_spec.specs.Hearing.{replaced}
use Rattle.listening.proofs.acting.record_over.Goals as goal

pub returns : goal.returns
unfolding replaced
returns c =
    let a = c.args in
    let seen = c.record_at-seen.ensures in
    (λ i.
    record {
      station = (seen i).station;
      count = (seen i).count;
      body = (seen i).body;
      labels = (c.over.ensures ∙ labels_of a.n c.record_at-seen.result a.old.labels ∙ (λ j. labels_over a.n (record_label (seen j)) a.old.labels)) i;
    })
