-- What is printed reads back: a line whose numbers fit their columns has the listing's form, and
-- its fields are its numbers. A field is found by what stands before it, whose length is known, and
-- columns are read as what was written.
use Prim.Native.Nat.{ℕ, ◌^◌, ◌<◌}
use mathlib.Core.Path.{◌≡◌, refl, ap, ◌∙◌}
use mathlib.Core.Bool.{Bool, true, false, false≢true}
use mathlib.Core.List.{List, [], ◌∷◌, ◌++◌, append_assoc, append-nil}
use native.Mathlib.Omega.{arith}
use lib.IntN.{ℤ, pos, negsuc, nat_abs}
use lib.Signed.{lt_z}
use lib.ListN.{length, take, drop, get_or, length-append}
use lib.Seq.{take_at, drop_at, get_or_at}
use borrow.Author.Tests.{lt-ltb, le-ltb}
use Rattle.bodies.specs.declared.Body.{Body}
use Rattle.bodies.specs.Body.{kind_of, event_of, argument_of}
use Rattle.bodies.specs.Limits.{inside_kind}
use Rattle.bodies.proofs.LimitLaws.{body_kind_short, body_event_short, body_argument_short}
use Rattle.columns.specs.declared.reader.Reading.TheVariants.{Number}
use Rattle.columns.specs.Reading.{read_columns}
use Rattle.columns.proofs.RoundTrip.{read_written}
use Rattle.columns.specs.Writing.{Fits, columns, nat_columns, int_columns}
use Rattle.columns.proofs.Fields.{length-columns}
use Rattle.script.specs.Line.{signed_of}
use Rattle.listing_lines.specs.Lines.{head_bytes, body_bytes, line_bytes}
use Rattle.air_logs_spec.specs.Form.{field, is_letter, is_line}
use Rattle.air_logs_spec.specs.Logs.{edit_in}

abbrev pub minus_of : Body → Bool
minus_of b = lt_z (argument_of b) (pos 0)

-- the numbers of a line fit their columns
pub record InColumns (round letter station source : ℕ) (body : Body) : Type 0 where
  pub round_fits : Fits false 6 round
  pub letter_fits : is_letter letter ≡ true
  pub station_fits : Fits false 3 station
  pub source_fits : Fits false 3 source
  pub kind_fits : Fits false 2 (kind_of body)
  pub event_fits : Fits false 9 (event_of body)
  pub argument_fits : Fits (minus_of body) 9 (nat_abs (argument_of body))

-- a field, by what stands before and behind it
reads :
    (line pre post : List ℕ) (minus : Bool) (at w v : ℕ) → line ≡ pre ++ (columns minus w v ++ post) → length pre ≡ at → Fits minus w v →
    field line at w ≡ Number minus v
reads line pre post minus at w v e l f =
    ap (λ (x : List ℕ). read_columns (take w (drop at x))) e
    ∙ ap (λ (x : List ℕ). read_columns (take w x)) (drop_at pre (columns minus w v ++ post) at l)
    ∙ ap read_columns (take_at (columns minus w v) post w (length-columns minus w v))
    ∙ read_written minus w v f

stands : (line pre post : List ℕ) (at b : ℕ) → line ≡ pre ++ (b ∷ post) → length pre ≡ at → get_or line at 0 ≡ b
stands line pre post at b e l = ap (λ (x : List ℕ). get_or x at 0) e ∙ get_or_at pre b post 0 at l

-- a line's fields
pub record ReadsAs (line : List ℕ) (round letter station source : ℕ) (body : Body) : Type 0 where
  pub long : length line ≡ 34
  pub round_is : field line 0 6 ≡ Number false round
  pub space_is : get_or line 6 0 ≡ 32
  pub letter_is : get_or line 7 0 ≡ letter
  pub station_is : field line 8 3 ≡ Number false station
  pub source_is : field line 11 3 ≡ Number false source
  pub kind_is : field line 14 2 ≡ Number false (kind_of body)
  pub event_is : field line 16 9 ≡ Number false (event_of body)
  pub argument_is : field line 25 9 ≡ Number (minus_of body) (nat_abs (argument_of body))

-- a printed line without its line end
unfoldable pub line_text : ℕ → ℕ → ℕ → ℕ → Body → List ℕ
line_text round letter station source body =
    nat_columns 6 round ++ (32 ∷ []) ++ (letter ∷ []) ++ nat_columns 3 station ++ nat_columns 3 source ++ nat_columns 2 (kind_of body)
    ++ nat_columns 9 (event_of body)
    ++ int_columns 9 (argument_of body)

pub line_ends : (round letter station source : ℕ) (body : Body) → line_bytes round letter station source body ≡ line_text round letter station source body ++ (10 ∷ [])
unfolding line_bytes head_bytes body_bytes line_text
line_ends round letter station source body = simp append_assoc

module _ (round letter station source : ℕ) (body : Body) (c : InColumns round letter station source body) where
  abbrev text : List ℕ
  text = line_text round letter station source body

  abbrev r : List ℕ
  r = nat_columns 6 round

  abbrev p₈ : List ℕ
  p₈ = r ++ (32 ∷ letter ∷ [])

  abbrev p₁₁ : List ℕ
  p₁₁ = p₈ ++ nat_columns 3 station

  abbrev p₁₄ : List ℕ
  p₁₄ = p₁₁ ++ nat_columns 3 source

  abbrev p₁₆ : List ℕ
  p₁₆ = p₁₄ ++ nat_columns 2 (kind_of body)

  abbrev p₂₅ : List ℕ
  p₂₅ = p₁₆ ++ nat_columns 9 (event_of body)

  abbrev t₂₅ : List ℕ
  t₂₅ = int_columns 9 (argument_of body)

  abbrev t₁₆ : List ℕ
  t₁₆ = nat_columns 9 (event_of body) ++ t₂₅

  abbrev t₁₄ : List ℕ
  t₁₄ = nat_columns 2 (kind_of body) ++ t₁₆

  abbrev t₁₁ : List ℕ
  t₁₁ = nat_columns 3 source ++ t₁₄

  abbrev t₈ : List ℕ
  t₈ = nat_columns 3 station ++ t₁₁

  pub reads_back : ReadsAs text round letter station source body
  unfolding line_text
  reads_back =
      record {
        long = simp (length-append, length-columns);
        round_is = reads text [] (32 ∷ letter ∷ t₈) false 0 6 round (simp append_assoc) refl c.round_fits;
        space_is = stands text r (letter ∷ t₈) 6 32 (simp append_assoc) (length-columns false 6 round);
        letter_is = stands text (r ++ (32 ∷ [])) t₈ 7 letter (simp append_assoc) (simp (length-append, length-columns));
        station_is = reads text p₈ t₁₁ false 8 3 station (simp append_assoc) (simp (length-append, length-columns)) c.station_fits;
        source_is = reads text p₁₁ t₁₄ false 11 3 source (simp append_assoc) (simp (length-append, length-columns)) c.source_fits;
        kind_is = reads text p₁₄ t₁₆ false 14 2 (kind_of body) (simp append_assoc) (simp (length-append, length-columns)) c.kind_fits;
        event_is = reads text p₁₆ t₂₅ false 16 9 (event_of body) (simp append_assoc) (simp (length-append, length-columns)) c.event_fits;
        argument_is =
            reads text p₂₅ [] (minus_of body) 25 9 (nat_abs (argument_of body)) (simp (append_assoc, append-nil)) (simp (length-append, length-columns))
            c.argument_fits;
      }

-- the sign and the magnitude of a number are the number
signed : (z : ℤ) → signed_of (lt_z z (pos 0)) (nat_abs z) ≡ z
signed (pos n) = rw (le-ltb n 0 (omega arith))
signed (negsuc n) = refl

module _
    {round letter station source : ℕ} {body : Body} (line : List ℕ) (c : InColumns round letter station source body)
    (r : ReadsAs line round letter station source body)
  where
    pub line_form : is_line line ≡ true
    unfolding is_line
    line_form =
        rw (
          r.long,
          r.round_is,
          r.space_is,
          r.letter_is,
          r.station_is,
          r.source_is,
          r.kind_is,
          r.event_is,
          r.argument_is,
          lt-ltb round 1_000_000_000 c.round_fits.nine,
          c.letter_fits,
          lt-ltb station 1_000_000_000 c.station_fits.nine,
          lt-ltb source 1_000_000_000 c.source_fits.nine,
          lt-ltb (kind_of body) 1_000_000_000 c.kind_fits.nine,
          lt-ltb (event_of body) 1_000_000_000 c.event_fits.nine,
        )

    pub line_edit : edit_in line ≡ record { source = source; kind = kind_of body; event = event_of body; argument = argument_of body }
    unfolding edit_in
    line_edit = rw (r.source_is, r.kind_is, r.event_is, r.argument_is, signed (argument_of body))

-- a number of so many digits fits
pub natural_fits : (w v : ℕ) → 0 < w → v < 10 ^ w → v < 1_000_000_000 → Fits false w v
natural_fits w v a b d = record { some = a; digits = b; nine = d; behind = λ q. absurd (false≢true q) }

whole_fits : (z : ℤ) → nat_abs z < 100_000_000 → Fits (lt_z z (pos 0)) 9 (nat_abs z)
whole_fits (pos n) h = rw (le-ltb n 0 (omega arith)) (natural_fits 9 n (omega arith) (omega arith) (omega arith))
whole_fits (negsuc n) h =
    record { some = omega arith; digits = omega arith; nine = omega arith; behind = λ q. (omega arith, omega arith) }

-- the lines of a listing: rounds up to 999,999, stations and sources up to 999, bodies inside their
-- limits
pub in_columns :
    (round letter station source : ℕ) (body : Body) → round < 1_000_000 → is_letter letter ≡ true → station < 1000 → source < 1000 →
    inside_kind body ≡ true → InColumns round letter station source body
in_columns round letter station source body a b d e h =
    let k : kind_of body < 10 = body_kind_short body h in
    let v : event_of body < 1_000_000_000 = body_event_short body h in
    record {
      round_fits = natural_fits 6 round (omega arith) (omega arith) (omega arith);
      letter_fits = b;
      station_fits = natural_fits 3 station (omega arith) (omega arith) (omega arith);
      source_fits = natural_fits 3 source (omega arith) (omega arith) (omega arith);
      kind_fits = natural_fits 2 (kind_of body) (omega arith) (omega arith) (omega arith);
      event_fits = natural_fits 9 (event_of body) (omega arith) v v;
      argument_fits = whole_fits (argument_of body) (body_argument_short body h);
    }
