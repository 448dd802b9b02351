-- `relay_station_post` meets its contract: it is the call on bytes, the argument passed on as it
-- is.
use Rattle.std.proofs.Common.{ℤ, ap, ◌∙◌}
use mir.Syntax.{w32}
use mir.ValLaws.{to_z-of_z}
use Rattle.planning_spec.specs.Merge.{front_written}
use Rattle.station_bytes_spec.specs.Station.{encode_station}
use Rattle.station_calls.specs.Station.{named_body, post_answer, post_returned}
use Rattle.relay.proofs.relay_station.relay_station_post.Goals as goal

pub returns : goal.returns
returns c =
    let a = c.args in
    let same = to_z-of_z w32 a.argument c.ranges.argument in
    record {
      returned = c.post.ensures.returned ∙ ap (λ (y : ℤ). post_returned a.state.now a.desk (named_body a.kind a.event y a.channel)) same;
      state =
          c.post.ensures.written
          ∙ ap (λ (y : ℤ). front_written c.post.result (encode_station (post_answer a.state.now a.desk (named_body a.kind a.event y a.channel)).station) a.state.now)
          same;
    }
