-- The form of a listing as it grows from its end: a listing is the last line, or a line before a
-- listing. No line has a line end in it, so the lines of the text are these lines, and the two
-- descriptions are the same; and a line has 34 bytes, so a listing can be gone through in steps of
-- 35.
use Prim.Native.Nat.{ℕ, suc, ◌+◌, ◌<◌, ◌≤◌}
use mathlib.Core.Path.{◌≡◌, refl, sym, ap, subst, ◌∙◌}
use mathlib.Core.Bool.{Bool, true, false, cond, ◌&&◌, false≢true}
use mathlib.Core.List.{List, [], ◌∷◌, ◌++◌}
use mathlib.Core.Logic.{◌↔◌}
use native.Mathlib.Omega.{arith}
use lib.Dec.{eqb}
use lib.ListN.{length, take, drop, get_or, length-append, length-drop, take-append-drop}
use lib.Seq.{take_at, get_or_at, drop-cons, drop-drop, drop-append-add}
use borrow.Author.Tests.{eqb-true, ne_eqb}
use Rattle.lists.proofs.Laws.{and_left, and_right}
use Rattle.script.specs.Line.{is_natural, is_whole}
use Rattle.listing_lines.specs.Lines.{end_line}
use Rattle.listing_spec.specs.Listing.{Lines, rest, line, lines_of}
use Rattle.listing_spec.proofs.LineEnds.{no_end, no_end-append, line_first, lines_text, lines_text_lem}
use Rattle.air_logs_spec.specs.Form.{field, is_letter, is_line, same_bytes, is_end, none_left, are_listing, is_listing}
use Rattle.air_logs_spec.specs.Logs.{edit_in, is_kept, kept_in, log_of}
use Rattle.air_logs_spec.proofs.Fields.{together, same_self, same_only, natural_plain, whole_plain}

-- what the test on a line says
pub record LineIs (l : List ℕ) : Type 0 where
  pub long : length l ≡ 34
  pub round : is_natural (field l 0 6) ≡ true
  pub space : get_or l 6 0 ≡ 32
  pub letter : is_letter (get_or l 7 0) ≡ true
  pub station : is_natural (field l 8 3) ≡ true
  pub source : is_natural (field l 11 3) ≡ true
  pub kind : is_natural (field l 14 2) ≡ true
  pub event : is_natural (field l 16 9) ≡ true
  pub argument : is_whole (field l 25 9) ≡ true

pub line_is : (l : List ℕ) → is_line l ≡ true → LineIs l
unfolding is_line
line_is l h =
    let h₁ = and_right (eqb (length l) 34) _ h in
    let h₂ = and_right (is_natural (field l 0 6)) _ h₁ in
    let h₃ = and_right (eqb (get_or l 6 0) 32) _ h₂ in
    let h₄ = and_right (is_letter (get_or l 7 0)) _ h₃ in
    let h₅ = and_right (is_natural (field l 8 3)) _ h₄ in
    let h₆ = and_right (is_natural (field l 11 3)) _ h₅ in
    let h₇ = and_right (is_natural (field l 14 2)) _ h₆ in
    record {
      long = eqb-true (length l) 34 (and_left (eqb (length l) 34) _ h);
      round = and_left (is_natural (field l 0 6)) _ h₁;
      space = eqb-true (get_or l 6 0) 32 (and_left (eqb (get_or l 6 0) 32) _ h₂);
      letter = and_left (is_letter (get_or l 7 0)) _ h₃;
      station = and_left (is_natural (field l 8 3)) _ h₄;
      source = and_left (is_natural (field l 11 3)) _ h₅;
      kind = and_left (is_natural (field l 14 2)) _ h₆;
      event = and_left (is_natural (field l 16 9)) _ h₇;
      argument = and_right (is_natural (field l 16 9)) _ h₇;
    }

-- no line end in a line: field by field, from the back
none_plain : (l : List ℕ) → length l ≡ 0 → no_end l ≡ true
unfolding no_end
none_plain [] e = refl
none_plain (b ∷ l) e = absurd (omega arith)

field_plain : (l : List ℕ) (at w : ℕ) → no_end (take w (drop at l)) ≡ true → no_end (drop (at + w) l) ≡ true → no_end (drop at l) ≡ true
field_plain l at w a b =
    subst (λ (s : List ℕ). no_end s ≡ true) (take-append-drop w (drop at l))
    (no_end-append (take w (drop at l)) (drop w (drop at l)) a (rw (drop-drop w at l) b))

byte_plain : (l : List ℕ) (at : ℕ) → at < length l → (get_or l at 0 ≡ 10 → ⊥) → no_end (drop (suc at) l) ≡ true → no_end (drop at l) ≡ true
unfolding no_end
byte_plain l at h d b = rw (drop-cons l at 0 h, ne_eqb (get_or l at 0) 10 d) b

letter_plain : (b : ℕ) → is_letter b ≡ true → b ≡ 10 → ⊥
letter_plain b h e = false≢true (rw e at h)

pub line_plain : (l : List ℕ) → is_line l ≡ true → no_end l ≡ true
line_plain l h =
    let c = line_is l h in
    field_plain l 0 6 (natural_plain _ c.round)
    (byte_plain l 6 (omega (arith, c.long)) (λ e. absurd (omega (arith, c.space, e)))
    (byte_plain l 7 (omega (arith, c.long)) (letter_plain (get_or l 7 0) c.letter)
    (field_plain l 8 3 (natural_plain _ c.station)
    (field_plain l 11 3 (natural_plain _ c.source)
    (field_plain l 14 2 (natural_plain _ c.kind)
    (field_plain l 16 9 (natural_plain _ c.event)
    (field_plain l 25 9 (whole_plain _ c.argument)
    (none_plain (drop 34 l) (rw length-drop (omega (arith, c.long)))))))))))

pub data Listing : List ℕ → Type 0 where
  last : Listing end_line
  before : (l s : List ℕ) → is_line l ≡ true → Listing s → Listing (l ++ (10 ∷ s))

-- the lines of a listing, by the first
pub lines_first : (l s : List ℕ) → is_line l ≡ true → lines_of (l ++ (10 ∷ s)) ≡ line l (lines_of s)
lines_first l s h = line_first l s (line_plain l h)

none_left_lem : (ls : Lines) → none_left ls ≡ true → lines_text ls ≡ []
unfolding lines_text
none_left_lem (rest []) h = refl
none_left_lem (rest (b ∷ l)) h = absurd (omega (arith, eqb-true (suc (length l)) 0 h))
none_left_lem (line l ls) h = absurd (false≢true h)

grown : (ls : Lines) → are_listing ls ≡ true → Listing (lines_text ls)
unfolding are_listing lines_text
grown (rest l) h = absurd (false≢true h)
grown (line l ls) h = go (is_line l) refl h (λ k. grown ls k)
  where
    go :
        (t : Bool) → is_line l ≡ t → cond t (are_listing ls) (is_end l && none_left ls) ≡ true → (are_listing ls ≡ true → Listing (lines_text ls)) →
        Listing (l ++ (10 ∷ lines_text ls))
    go true e h more = before l (lines_text ls) e (more h)
    go false e h more =
        subst Listing
        (sym (same_only (l ++ (10 ∷ [])) end_line (and_left (is_end l) (none_left ls) h))
        ∙ ap (λ (s : List ℕ). l ++ (10 ∷ s)) (sym (none_left_lem ls (and_right (is_end l) (none_left ls) h))))
        last

pub end_listing : is_listing end_line ≡ true
unfolding end_line lines_of are_listing is_line same_bytes
end_listing = refl

pub before_listing : (l s : List ℕ) → is_line l ≡ true → is_listing (l ++ (10 ∷ s)) ≡ is_listing s
unfolding are_listing
before_listing l s h = rw (lines_first l s h, h)

shrunk : (bytes : List ℕ) → Listing bytes → is_listing bytes ≡ true
shrunk bytes last = end_listing
shrunk bytes (before l s h r) = before_listing l s h ∙ shrunk s r

pub listing_is : (bytes : List ℕ) → (is_listing bytes ≡ true) ↔ Listing bytes
listing_is bytes = ((λ h. subst Listing (lines_text_lem bytes) (grown (lines_of bytes) h)), shrunk bytes)

-- what is kept, line by line
pub end_log : (p : ℕ) → log_of p end_line ≡ []
unfolding end_line lines_of kept_in is_kept
end_log p = refl

pub before_log :
    (p : ℕ) (l s : List ℕ) → is_line l ≡ true → log_of p (l ++ (10 ∷ s)) ≡ cond (is_kept p l) (edit_in l ∷ []) [] ++ log_of p s
unfolding kept_in
before_log p l s h = rw (lines_first l s h)

-- A listing in steps of 35 bytes: a line with its line end, or what is left.
abbrev pub line_stands : List ℕ → Bool
line_stands s = is_line (take 34 s) && eqb (get_or s 34 0) 10

-- 35 bytes are a line and its line end
stands_split : (s : List ℕ) → 35 ≤ length s → line_stands s ≡ true → s ≡ take 34 s ++ (10 ∷ drop 35 s)
stands_split s h t =
    sym (take-append-drop 34 s)
    ∙ ap (λ (x : List ℕ). take 34 s ++ x)
    (drop-cons s 34 0 (omega arith) ∙ ap (λ (b : ℕ). b ∷ drop 35 s) (eqb-true (get_or s 34 0) 10 (and_right (is_line (take 34 s)) (eqb (get_or s 34 0) 10) t)))

drop_line : (l s : List ℕ) → length l ≡ 34 → drop 35 (l ++ (10 ∷ s)) ≡ s
drop_line l s e = let f : 35 ≡ length l + 1 = omega arith in rw (f, drop-append-add l (10 ∷ s) 1)

-- what a line before a listing shows
pub record Step (s : List ℕ) : Type 0 where
  pub room : 39 ≤ length s
  pub form : is_line (take 34 s) ≡ true
  pub stands : line_stands s ≡ true
  pub next : is_listing (drop 35 s) ≡ true
  pub log : (p : ℕ) → log_of p s ≡ cond (is_kept p (take 34 s)) (edit_in (take 34 s) ∷ []) [] ++ log_of p (drop 35 s)

end_length : length end_line ≡ 4
unfolding end_line
end_length = refl

listing_long : (s : List ℕ) → Listing s → 4 ≤ length s
listing_long s last = omega (arith, end_length)
listing_long s (before l r h k) = omega (arith, length-append l (10 ∷ r), listing_long r k)

steps : (s : List ℕ) → Listing s → 4 < length s → Step s
steps s last h = absurd (omega (arith, end_length))
steps s (before l r f k) h =
    let long : length l ≡ 34 = (line_is l f).long in
    let front : take 34 (l ++ (10 ∷ r)) ≡ l = take_at l (10 ∷ r) 34 long in
    let back : drop 35 (l ++ (10 ∷ r)) ≡ r = drop_line l r long in
    record {
      room = omega (arith, length-append l (10 ∷ r), listing_long r k);
      form = rw front f;
      stands = rw (front, f, get_or_at l 10 r 0 34 long);
      next = rw back (shrunk r k);
      log = λ p. rw (front, back) (before_log p l r f);
    }

module _ (s : List ℕ) where
  -- of a listing
  pub step : is_listing s ≡ true → 4 < length s → Step s
  step h l = steps s ((listing_is s).0 h) l

  pub at_least : is_listing s ≡ true → 4 ≤ length s
  at_least h = listing_long s ((listing_is s).0 h)

  pub no_more : is_listing s ≡ true → length s ≤ 4 → (p : ℕ) → log_of p s ≡ []
  no_more h l p = go s ((listing_is s).0 h) l
    where
      go : (s : List ℕ) → Listing s → length s ≤ 4 → log_of p s ≡ []
      go s last l = end_log p
      go s (before k r f t) l = absurd (omega (arith, length-append k (10 ∷ r), (line_is k f).long))

  -- of bytes that are judged
  pub goes_on : 35 ≤ length s → line_stands s ≡ true → is_listing s ≡ is_listing (drop 35 s)
  goes_on h t =
      ap is_listing (stands_split s h t)
      ∙ before_listing (take 34 s) (drop 35 s) (and_left (is_line (take 34 s)) (eqb (get_or s 34 0) 10) t)

  pub stops_here : 35 ≤ length s → line_stands s ≡ false → is_listing s ≡ false
  stops_here h t = go (is_listing s) refl
    where
      go : (u : Bool) → is_listing s ≡ u → u ≡ false
      go true e = absurd (false≢true (sym t ∙ (step e (omega arith)).stands))
      go false e = refl

  pub last_left : length s < 35 → is_listing s ≡ same_bytes s end_line
  last_left h = together (is_listing s) (same_bytes s end_line) forth back
    where
      only : (s : List ℕ) → Listing s → length s < 35 → same_bytes s end_line ≡ true
      only s last h = same_self end_line
      only s (before l r f k) h = absurd (omega (arith, length-append l (10 ∷ r), (line_is l f).long))

      forth : is_listing s ≡ true → same_bytes s end_line ≡ true
      forth e = only s ((listing_is s).0 e) h

      back : same_bytes s end_line ≡ true → is_listing s ≡ true
      back e = subst (λ (x : List ℕ). is_listing x ≡ true) (sym (same_only s end_line e)) end_listing
