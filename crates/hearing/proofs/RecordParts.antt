-- A record is read from its own part of the bytes, as the code cuts it.
use Prim.Native.Nat.{ℕ, ◌+◌, ◌-◌, ◌≤◌}
use mathlib.Core.List.{List}
use mathlib.Core.Path.{◌≡◌, ap, ◌∙◌}
use native.Mathlib.Omega.{arith}
use lib.ListN.{take, drop, length, length-drop}
use lib.Seq.{length-take-le}
use Rattle.frame_spec.specs.declared.Record.{Record}
use Rattle.frame_spec.specs.Record.{record_from}
use Rattle.hearing_spec.specs.Buffer.{record_at}

-- the sixteen bytes from a place on
abbrev pub part_at : List ℕ → ℕ → List ℕ
part_at bytes at = take (at + 16 - at) (drop at bytes)

pub part_is : (bytes : List ℕ) (at : ℕ) → part_at bytes at ≡ take 16 (drop at bytes)
part_is bytes at = ap (λ (m : ℕ). take m (drop at bytes)) (let z : at + 16 - at ≡ 16 = omega arith in z)

pub part_long : (bytes : List ℕ) (at : ℕ) → at + 16 ≤ length bytes → length (part_at bytes at) ≡ 16
part_long bytes at l = ap length (part_is bytes at) ∙ length-take-le 16 (drop at bytes) (omega (arith, length-drop at bytes))

-- the record that is read from them
module _ (bytes : List ℕ) (at : ℕ) (r : Record) (read : r ≡ record_from (part_at bytes at)) where
  pub read_is : r ≡ record_at bytes at
  read_is = read ∙ ap record_from (part_is bytes at)
