-- `station_encoder::put_cell` meets its contract: four writes, one behind the other.
use Rattle.std.proofs.Common.{◌∙◌}
use Rattle.station_spec.specs.State.{cell_of}
use Rattle.station_encoder.proofs.Writing.{flag_cast, cell_written}
use Rattle.station_encoder.proofs.put_cell.Goals as goal

pub returns : goal.returns
unfolding cell_of
returns c =
    cell_written _ _ (cell_of c.args.s.now c.args.k) _ _ _ _ _ _ (c.from.ensures ∙ flag_cast _) (c.from-2.ensures ∙ flag_cast _) c.put_four.ensures c.put_body.ensures c.put_body-2.ensures
    c.put_record.ensures
