-- All definitions that a computed run of a group goes through, named in one place: whoever says
-- `unfolding group_runs` has them open.
use Rattle.links.specs.Log.{bit, hears_in}
use Rattle.station_spec.proofs.Computing.{station_runs}
use Rattle.group_spec.specs.State.{group_inside, fresh_group}
use Rattle.group_spec.specs.Calls.{group_post_refusal, group_post_call, heard_below, no_report, report_of, first_refusal, round_refusal, after_round, round_call}
use Rattle.group_spec.specs.History.{starts_in, next, begun, continued, edits_of, collect, aired_list, ends_at}

unfoldable pub group_runs : Unit {0}
unfolding station_runs bit hears_in group_inside fresh_group group_post_refusal group_post_call heard_below no_report report_of first_refusal round_refusal after_round round_call starts_in next begun continued edits_of collect aired_list ends_at
group_runs = tt
