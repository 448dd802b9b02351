-- A run of sixteen stations, computed: everyone hears everyone.
use mathlib.Core.Path.{◌≡◌, refl}
use lib.ListN.{replicate}
use Rattle.group_spec.proofs.Computing.{group_runs}
use Rattle.group_spec.proofs.RunLines.{lines_of, lines_in, edit, run, seen, mesh}

pub sixteen : seen 16 (run 16 4 (replicate 16 65_535)) ≡ mesh 16
unfolding group_runs lines_of lines_in edit run
sixteen = refl
