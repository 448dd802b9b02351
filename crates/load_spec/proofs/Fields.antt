-- A line of numbers is read as these numbers, field by field.
use mathlib.Core.Path.{◌≡◌, refl, ap, ◌∙◌}
use mathlib.Core.Bool.{false, false≢true}
use mathlib.Core.List.{List, [], ◌∷◌}
use Prim.Native.Nat.{ℕ, zero, suc, ◌+◌, ◌*◌, ◌≤◌, ◌<◌}
use native.Mathlib.Omega.{arith}
use native.Mathlib.Numerals.{add-one}
use lib.ListN.{length, take, drop, get_or}
use lib.Seq.{take_at, drop-append-add}
use borrow.Author.Tests.{lt-ltb, le-leb}
use Rattle.columns.specs.declared.reader.Reading.TheVariants.{Number}
use Rattle.columns.specs.Reading.{read_columns}
use Rattle.columns.proofs.RoundTrip.{read_written}
use Rattle.columns.specs.Writing.{Fits, nat_columns}
use Rattle.columns.proofs.Fields.{length-columns}
use Rattle.script.specs.Line.{field_of}
use Rattle.load_spec.specs.Script.{fields, line_of}
use Rattle.load_spec.proofs.Text.{length_fields}

-- the nine columns of number k
part : (numbers : List ℕ) (k : ℕ) → k < length numbers → take 9 (drop (9 * k) (fields numbers)) ≡ nat_columns 9 (get_or numbers k 0)
unfolding fields
part [] k h = absurd (omega arith)
part (v ∷ vs) zero h = take_at (nat_columns 9 v) (fields vs) 9 (length-columns false 9 v)
part (v ∷ vs) (suc k) h =
    let e : 9 * suc k ≡ length (nat_columns 9 v) + 9 * k = omega (arith, length-columns false 9 v) in
    rw (e, drop-append-add (nat_columns 9 v) (fields vs) (9 * k)) (part vs k (omega arith))

part_line : (letter : ℕ) (numbers : List ℕ) (k : ℕ) → drop (9 * k + 1) (letter ∷ fields numbers) ≡ drop (9 * k) (fields numbers)
part_line letter numbers k = rw add-one

pub length_numbers : (letter : ℕ) (numbers : List ℕ) → length (line_of letter numbers) ≡ 9 * length numbers + 1
unfolding line_of
length_numbers letter numbers = omega (arith, length_fields numbers)

pub first_letter : (letter : ℕ) (numbers : List ℕ) → get_or (line_of letter numbers) 0 0 ≡ letter
unfolding line_of
first_letter letter numbers = refl

columns_at :
    (letter : ℕ) (numbers : List ℕ) (k : ℕ) → k < length numbers →
    take 9 (drop (9 * k + 1) (line_of letter numbers)) ≡ nat_columns 9 (get_or numbers k 0)
unfolding line_of
columns_at letter numbers k h = ap (λ (l : List ℕ). take 9 l) (part_line letter numbers k) ∙ part numbers k h

fits : (v : ℕ) → v < 1_000_000_000 → Fits false 9 v
fits v h = record { some = omega arith; digits = h; nine = h; behind = λ q. absurd (false≢true q) }

pub field_read :
    (letter : ℕ) (numbers : List ℕ) (k : ℕ) → k < length numbers → length numbers ≤ 16 → get_or numbers k 0 < 1_000_000_000 →
    field_of (line_of letter numbers) k ≡ Number false (get_or numbers k 0)
unfolding field_of
field_read letter numbers k h l small =
    rw (
      lt-ltb k 16 (omega arith),
      le-leb (9 * k + 10) (length (line_of letter numbers)) (omega (arith, length_numbers letter numbers)),
    )
    (ap read_columns (columns_at letter numbers k h) ∙ read_written false 9 (get_or numbers k 0) (fits (get_or numbers k 0) small))
