-- What a round reports of a station that heard so much and then takes its turn.
use Rattle.std.specs.Prelude.{ℕ, ◌-◌, List, ◌++◌, replicate}
use Rattle.station_spec.specs.declared.Station.{Station}
use Rattle.station_spec.specs.Hearing.{no_taking}
use Rattle.station_spec.specs.Turn.{turn_report}
use Rattle.hearing_spec.specs.declared.Ear.{Ear}
use Rattle.listening.specs.Listened.{takings_at}
use Rattle.group_spec.specs.declared.Report.{Report}

abbrev pub heard_report : Ear → List ℕ → List ℕ → Station → Report
heard_report e bytes taken acted =
    record {
      takings_len = e.len;
      takings = takings_at bytes taken e.len ++ replicate (30 - e.len) no_taking;
      turn = turn_report acted;
    }
