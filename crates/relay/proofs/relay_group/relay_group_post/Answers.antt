-- `relay_group_post` meets its contract: it is the call on bytes, the argument passed on as it is.
use Rattle.std.proofs.Common.{ℕ, ℤ, ap, ◌∙◌}
use mir.Syntax.{w32}
use mir.ValLaws.{to_z-of_z}
use Rattle.planning_spec.specs.Merge.{front_written}
use Rattle.group_spec.specs.declared.Post.{Post}
use Rattle.station_bytes_spec.specs.Group.{encode_group}
use Rattle.station_calls.specs.Station.{named_body}
use Rattle.group_calls.specs.Group.{group_post_answer, group_post_returned}
use Rattle.relay.proofs.relay_group.relay_group_post.Goals as goal

abbrev given : ℕ → ℕ → ℕ → ℕ → ℕ → ℤ → Post
given station desk kind event channel argument =
    record { station = station; desk = desk; body = named_body kind event argument channel }

pub returns : goal.returns
returns c =
    let a = c.args in
    let same = ap (given a.station a.desk a.kind a.event a.channel) (to_z-of_z w32 a.argument c.ranges.argument) in
    record {
      returned = c.post.ensures.returned ∙ ap (group_post_returned a.state.now) same;
      state =
          c.post.ensures.written
          ∙ ap (λ (p : Post). front_written c.post.result (encode_group (group_post_answer a.state.now p).group) a.state.now) same;
    }
