-- The value of a field has at most nine digits, since only a number that fits its columns is read
-- as it.
use mathlib.Core.Path.{◌≡◌}
use mathlib.Core.Bool.{Bool, true, false, cond, ◌&&◌}
use mathlib.Core.List.{List}
use Prim.Native.Nat.{ℕ, ◌+◌, ◌*◌, ◌≤◌}
use native.Mathlib.Omega.{arith}
use lib.Dec.{leb, ltb}
use lib.ListN.{length, take, drop}
use Rattle.columns.specs.declared.reader.Reading.TheVariants.{Number, Malformed}
use Rattle.columns.specs.Reading.{read_columns}
use Rattle.columns.proofs.Only.{reads_exactly}
use Rattle.script.specs.Line.{highest_number, field_of}

pub field_nine : (line : List ℕ) (k : ℕ) (minus : Bool) (v : ℕ) → field_of line k ≡ Number minus v → v ≤ highest_number
unfolding field_of
field_nine line k minus v e = go (ltb k 16 && leb (9 * k + 10) (length line)) e
  where
    go : (t : Bool) → cond t (read_columns (take 9 (drop (9 * k + 1) line))) Malformed ≡ Number minus v → v ≤ highest_number
    go true q = omega (arith, ((reads_exactly (take 9 (drop (9 * k + 1) line)) minus v).0 q).1.nine)
    go false q = let z : ◌≡◌ {A = ℕ} 0 1 = cc in absurd (omega arith)
