-- What a read past the end of a list of stations gives. No call reads there: a group has sixteen
-- stations.
use Rattle.std.specs.Prelude.{[]}
use Rattle.bodies.specs.declared.Body.TheVariants.{Empty}
use Rattle.queues.specs.Absent.{absent_waiting}
use Rattle.station_spec.specs.declared.Station.{Station}

abbrev pub no_station : Station
no_station =
    record {
      n = 0;
      own = 0;
      edition = 0;
      waiting = absent_waiting;
      acked = [];
      body = Empty;
      count = 0;
      labels = [];
      held = [];
      table = [];
      lanes = [];
    }
