-- Answers of the comparison, computed: positions count from 1, rounds may differ, and the faults
-- that document 02 names.
use mathlib.Core.Path.{◌≡◌, refl}
use mathlib.Core.List.{List, [], ◌∷◌, ◌++◌}
use Prim.Native.Nat.{ℕ}
use mathlib.Core.Bool.{true, false}
use lib.IntN.{negsuc}
use Rattle.bodies.specs.declared.Body.{Body}
use Rattle.bodies.specs.declared.Body.TheVariants.{Neutral, Drop, Shift}
use Rattle.columns.specs.Reading.{started, grown, next, read_from}
use Rattle.columns.specs.Writing.{lead, columns, nat_columns}
use Rattle.listing_lines.specs.Lines.{airing, delivered, head_bytes, body_bytes, line_bytes, end_line}
use Rattle.listing_spec.specs.Listing.{lines_of}
use Rattle.air_logs_spec.specs.declared.Compared.{Compared}
use Rattle.air_logs_spec.specs.declared.Compared.TheVariants.{Equal, FirstBegins, SecondBegins, Different, Refused}
use Rattle.air_logs_spec.specs.Form.{is_line, same_bytes, are_listing}
use Rattle.air_logs_spec.specs.Logs.{edit_in, is_kept, kept_in}
use Rattle.air_logs_spec.specs.Compare.{same_edit, compared_from, compare_refusal, compare_call}

abbrev aired : ℕ → ℕ → Body → List ℕ
aired round p body = line_bytes round airing p 2 body

abbrev one : List ℕ
one = aired 3 0 (Drop 0 7) ++ aired 3 1 (Shift 0 99_999_999 (negsuc 89_999)) ++ line_bytes 4 delivered 0 0 Neutral ++ aired 4 0 (Drop 0 8) ++ end_line

abbrev two : List ℕ
two = aired 999_999 5 (Drop 0 7) ++ end_line

abbrev three : List ℕ
three = aired 9 5 (Drop 0 7) ++ aired 9 5 (Drop 0 9) ++ end_line

pub answers :
    (compare_call one 0 one 0 ≡ Equal)
    × (compare_call two 5 one 0 ≡ FirstBegins)
    × (compare_call one 0 two 5 ≡ SecondBegins)
    × (compare_call one 0 three 5 ≡ Different 2)
    × (compare_call one 1 three 5 ≡ Different 1)
    × (compare_call one 15 three 15 ≡ Equal)
    × (compare_call [] 16 [] 0 ≡ Refused 1)
    × (compare_call one 0 [] 16 ≡ Refused 1)
    × (compare_call [] 0 one 15 ≡ Refused 16)
    × (compare_call one 0 (one ++ (10 ∷ [])) 15 ≡ Refused 16)
    × (compare_call one 0 (one ++ end_line) 0 ≡ Refused 16)
unfolding head_bytes body_bytes line_bytes end_line lead columns started grown next read_from lines_of is_line same_bytes are_listing edit_in is_kept kept_in same_edit compared_from compare_refusal compare_call
answers = (refl, refl, refl, refl, refl, refl, refl, refl, refl, refl, refl)

-- one A line with these bytes as its event and argument
abbrev made : List ℕ → List ℕ → List ℕ
made event argument =
    nat_columns 6 1 ++ (32 ∷ airing ∷ []) ++ nat_columns 3 0 ++ nat_columns 3 0 ++ nat_columns 2 4 ++ event ++ argument ++ (10 ∷ []) ++ end_line

abbrev answer : List ℕ → List ℕ → Compared
answer event argument = compare_call (made event argument) 0 (made event argument) 0

-- full columns and a minus in the argument are of the form; a minus in the event, a minus zero, a
-- leading zero and blank columns are not
pub forms :
    (answer (nat_columns 9 999_999_999) (columns true 9 99_999_999) ≡ Equal)
    × (answer (columns true 9 7) (nat_columns 9 0) ≡ Refused 16)
    × (answer (nat_columns 9 7) (columns true 9 0) ≡ Refused 16)
    × (answer (nat_columns 9 7) (lead false 7 ++ (48 ∷ 55 ∷ [])) ≡ Refused 16)
    × (answer (nat_columns 9 7) (lead false 9) ≡ Refused 16)
unfolding head_bytes body_bytes line_bytes end_line lead columns started grown next read_from lines_of is_line same_bytes are_listing edit_in is_kept kept_in same_edit compared_from compare_refusal compare_call
forms = (refl, refl, refl, refl, refl)
