-- Lines by their bytes: a line fails where any of its parts does, a listing is judged in steps of
-- 35 bytes, a kept line is told by four bytes, and two edits are the same exactly if the 23 bytes
-- of their numbers are.
use Prim.Native.Nat.{ℕ, suc, ◌*◌, ◌+◌, ◌-◌, ◌/◌, ◌%◌, ◌≤◌, ◌<◌}
use mathlib.Core.Path.{◌≡◌, refl, sym, ap, ◌∙◌}
use mathlib.Core.Bool.{Bool, true, false, cond, ◌&&◌}
use mathlib.Core.List.{List, [], ◌∷◌, ◌++◌}
use native.Mathlib.Omega.{arith}
use lib.Dec.{ltb, eqb}
use lib.ListN.{length, take, drop, get_or, length-drop}
use native.Mathlib.Decide.{dec_le}
use Rattle.std.proofs.lemmas.List.{take_rest, take-append-le, get_or_append_left, length-append}
use lib.Seq.{length-take-le, take-add, drop-drop, drop-cons, drop-append-add}
use borrow.Author.Tests.{ltb-false}
use Rattle.columns.specs.Writing.{lead, columns, nat_columns}
use Rattle.listing_lines.specs.Lines.{end_line}
use Rattle.air_logs_spec.specs.Form.{is_line, same_bytes, is_listing}
use Rattle.air_logs_spec.specs.Logs.{edit_in, is_kept, log_of}
use Rattle.air_logs_spec.specs.Compare.{same_edit}
use Rattle.air_logs_spec.proofs.Fields.{same_append, same_natural, same_number, same_whole_lem}
use Rattle.air_logs_spec.proofs.Form.{line_is, line_stands, goes_on, stops_here, last_left, Step, step, no_more}
use Rattle.air_logs_spec.proofs.ReadBack.{natural_fits}
use Rattle.air_logs.specs.Inner.{tens_of, is_ended_line, KeptLine}

pub line_long : (l : List ℕ) → is_line l ≡ true → length l ≡ 34
line_long l h = (line_is l h).long

-- bytes by their first 35
module _ (line rest : List ℕ) (long : length line ≡ 35) where
  room_first : 35 ≤ length (line ++ rest)
  room_first = omega (arith, length-append line rest)

  ended_first : line_stands (line ++ rest) ≡ is_ended_line line
  ended_first = rw (take-append-le 34 line rest (omega arith), get_or_append_left line rest 0 34 (omega arith))

  rest_first : drop 35 (line ++ rest) ≡ rest
  rest_first = let e : 35 ≡ length line + 0 = omega arith in rw (e, drop-append-add line rest 0)

  pub judged_no : is_ended_line line ≡ false → is_listing (line ++ rest) ≡ false
  judged_no e = stops_here (line ++ rest) room_first (ended_first ∙ e)

  pub judged_yes : is_ended_line line ≡ true → is_listing rest ≡ is_listing (line ++ rest)
  judged_yes e = sym (goes_on (line ++ rest) room_first (ended_first ∙ e) ∙ ap is_listing rest_first)

  pub last_onward :
      drop (length (line ++ rest) - length (line ++ rest) % 35) (line ++ rest) ≡ drop (length rest - length rest % 35) rest
  last_onward =
      let n = length rest in
      let e : length (line ++ rest) - length (line ++ rest) % 35 ≡ length line + (n - n % 35) = omega (arith, length-append line rest) in
      rw (e, drop-append-add line rest (n - n % 35))

-- less than a line is left
pub judged_last : (rest : List ℕ) → length rest < 35 → is_listing rest ≡ same_bytes (drop (length rest - length rest % 35) rest) end_line
judged_last rest h = let e : length rest - length rest % 35 ≡ 0 = omega arith in rw e (last_left rest h)

-- a listing from its line k on
module _ (bytes : List ℕ) (k : ℕ) where
  abbrev s : List ℕ
  s = drop (35 * k) bytes

  onward : drop 35 s ≡ drop (35 * (k + 1)) bytes
  onward =
      let e : 35 * k + 35 ≡ 35 * (k + 1) = omega arith in
      drop-drop 35 (35 * k) bytes ∙ ap (λ (n : ℕ). drop n bytes) e

  module _ (h : k < length bytes / 35) where
    room : 35 ≤ length s
    room = rw length-drop (omega arith)

    -- where it is one
    module _ (t : is_listing s ≡ true) where
      one : Step s
      one = step s t (omega (arith, room))

      abbrev part : List ℕ
      part = take (35 * k + 34 - 35 * k) s

      part_is : part ≡ take 34 s
      part_is = let e : 35 * k + 34 - 35 * k ≡ 34 = omega arith in rw e

      pub part_line : is_line part ≡ true
      part_line = ap is_line part_is ∙ one.form

      pub left_more : is_listing (drop (35 * (k + 1)) bytes) ≡ true
      left_more = ap is_listing (sym onward) ∙ one.next

      log_is : (p : ℕ) (u : Bool) → is_kept p part ≡ u → log_of p s ≡ cond u (edit_in part ∷ []) [] ++ log_of p (drop (35 * (k + 1)) bytes)
      log_is p u e =
          one.log p
          ∙ (λ i. cond (is_kept p (sym part_is i)) (edit_in (sym part_is i) ∷ []) [] ++ log_of p (onward i))
          ∙ ap (λ (v : Bool). cond v (edit_in part ∷ []) [] ++ log_of p (drop (35 * (k + 1)) bytes)) e

      pub passed_log : (p : ℕ) → is_kept p part ≡ false → log_of p s ≡ log_of p (drop (35 * (k + 1)) bytes)
      passed_log p e = log_is p false e

      pub kept_line :
          (p : ℕ) → log_of p bytes ≡ log_of p s → is_kept p part ≡ true →
          KeptLine p bytes part (take (length bytes - 35 * (k + 1)) (drop (35 * (k + 1)) bytes))
      kept_line p e kept =
          rw take_rest
          (record {
            form = part_line;
            behind = left_more;
            shorter = omega (arith, length-drop (35 * (k + 1)) bytes);
            log = e ∙ log_is p true kept;
          })

-- less than a line is left of a listing: nothing is kept in it
pub no_line : (bytes : List ℕ) (k p : ℕ) → k ≡ length bytes / 35 → is_listing (drop (35 * k) bytes) ≡ true → log_of p (drop (35 * k) bytes) ≡ []
no_line bytes k p e h = no_more (drop (35 * k) bytes) h short p
  where
    short : length (drop (35 * k) bytes) ≤ 4
    short =
        elim (dec_le (length (drop (35 * k) bytes)) 4) [
          | yes m ↦ m
          | no m ↦ absurd (omega (arith, (step (drop (35 * k) bytes) h (omega arith)).room, length-drop (35 * k) bytes))
        ]

-- three bytes of a line
three : (l : List ℕ) (at : ℕ) → at + 3 ≤ length l → take 3 (drop at l) ≡ get_or l at 0 ∷ get_or l (suc at) 0 ∷ get_or l (suc (suc at)) 0 ∷ []
three l at h =
    rw (drop-cons l at 0 (omega arith), drop-cons l (suc at) 0 (omega arith), drop-cons l (suc (suc at)) 0 (omega arith))

-- the columns of a station up to 15
station_columns : (p : ℕ) → p ≤ 15 → nat_columns 3 p ≡ 32 ∷ tens_of p ∷ (48 + p % 10) ∷ []
unfolding columns lead
station_columns p h = go (ltb p 10) refl
  where
    go :
        (u : Bool) → ltb p 10 ≡ u →
        cond u (lead false 2) (columns false 2 (p / 10)) ++ ((48 + p % 10) ∷ []) ≡ 32 ∷ cond u 32 49 ∷ (48 + p % 10) ∷ []
    go true e = refl
    go false e =
        let l : 10 ≤ p = ltb-false p 10 e in
        let one : p / 10 ≡ 1 = omega arith in
        rw one

and_end : (a : Bool) → (a && true) ≡ a
and_end true = refl
and_end false = refl

three_same : (a b c x y z : ℕ) → same_bytes (a ∷ b ∷ c ∷ []) (x ∷ y ∷ z ∷ []) ≡ (eqb a x && (eqb b y && eqb c z))
unfolding same_bytes
three_same a b c x y z = ap (λ (t : Bool). eqb a x && (eqb b y && t)) (and_end (eqb c z))

module _ (l : List ℕ) (p : ℕ) (h : is_line l ≡ true) (small : p ≤ 15) where
  station_bytes :
      same_bytes (take 3 (drop 8 l)) (nat_columns 3 p)
      ≡ (eqb (get_or l 8 0) 32 && (eqb (get_or l 9 0) (tens_of p) && eqb (get_or l 10 0) (48 + p % 10)))
  station_bytes =
      (λ i. same_bytes (three l 8 (omega (arith, (line_is l h).long)) i) (station_columns p small i))
      ∙ three_same (get_or l 8 0) (get_or l 9 0) (get_or l 10 0) 32 (tens_of p) (48 + p % 10)

  station_long : length (take 3 (drop 8 l)) ≡ 3
  station_long = length-take-le 3 (drop 8 l) (rw length-drop (omega (arith, (line_is l h).long)))

  pub kept_bytes :
      is_kept p l
      ≡ (eqb (get_or l 7 0) 65 && (eqb (get_or l 8 0) 32 && (eqb (get_or l 9 0) (tens_of p) && eqb (get_or l 10 0) (48 + p % 10))))
  unfolding is_kept
  kept_bytes =
      ap (λ (t : Bool). eqb (get_or l 7 0) 65 && t)
      (same_number (take 3 (drop 8 l)) 3 p station_long (line_is l h).station (natural_fits 3 p (omega arith) (omega arith) (omega arith)) ∙ station_bytes)

-- the numbers of an edit side by side
edit_bytes :
    (l : List ℕ) → take 23 (drop 11 l) ≡ take 3 (drop 11 l) ++ (take 2 (drop 14 l) ++ (take 9 (drop 16 l) ++ take 9 (drop 25 l)))
edit_bytes l =
    take-add 3 20 (drop 11 l)
    ∙ ap (λ (x : List ℕ). take 3 (drop 11 l) ++ x)
    (ap (take 20) (drop-drop 3 11 l)
    ∙ take-add 2 18 (drop 14 l)
    ∙ ap (λ (x : List ℕ). take 2 (drop 14 l) ++ x)
    (ap (take 18) (drop-drop 2 14 l)
    ∙ take-add 9 9 (drop 16 l)
    ∙ ap (λ (x : List ℕ). take 9 (drop 16 l) ++ take 9 x) (drop-drop 9 16 l)))

module _ (l m : List ℕ) (h : is_line l ≡ true) (k : is_line m ≡ true) where
  wide : (at w : ℕ) → at + w ≤ 34 → length (take w (drop at l)) ≡ length (take w (drop at m))
  wide at w f =
      length-take-le w (drop at l) (rw length-drop (omega (arith, (line_is l h).long)))
      ∙ sym (length-take-le w (drop at m) (rw length-drop (omega (arith, (line_is m k).long))))

  pub same_line : same_edit (edit_in l) (edit_in m) ≡ same_bytes (take 23 (drop 11 l)) (take 23 (drop 11 m))
  unfolding same_edit edit_in
  same_line =
      let a = line_is l h in
      let b = line_is m k in
      let source = same_natural (take 3 (drop 11 l)) (take 3 (drop 11 m)) (wide 11 3 (omega arith)) a.source b.source in
      let kind = same_natural (take 2 (drop 14 l)) (take 2 (drop 14 m)) (wide 14 2 (omega arith)) a.kind b.kind in
      let event = same_natural (take 9 (drop 16 l)) (take 9 (drop 16 m)) (wide 16 9 (omega arith)) a.event b.event in
      let argument = same_whole_lem (take 9 (drop 25 l)) (take 9 (drop 25 m)) (wide 25 9 (omega arith)) a.argument b.argument in
      (λ i. source i && (kind i && (event i && argument i)))
      ∙ sym
      ((λ i. same_bytes (edit_bytes l i) (edit_bytes m i))
      ∙ same_append (take 3 (drop 11 l)) _ (take 3 (drop 11 m)) _ (wide 11 3 (omega arith))
      ∙ ap (λ (t : Bool). same_bytes (take 3 (drop 11 l)) (take 3 (drop 11 m)) && t)
      (same_append (take 2 (drop 14 l)) _ (take 2 (drop 14 m)) _ (wide 14 2 (omega arith))
      ∙ ap (λ (t : Bool). same_bytes (take 2 (drop 14 l)) (take 2 (drop 14 m)) && t)
      (same_append (take 9 (drop 16 l)) (take 9 (drop 25 l)) (take 9 (drop 16 m)) (take 9 (drop 25 m)) (wide 16 9 (omega arith)))))
