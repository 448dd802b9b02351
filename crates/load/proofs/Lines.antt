-- A letter, numbers and a line end, put one behind the other, are a line; posts and a line of masks
-- are a round.
use Rattle.std.proofs.Common.{◌≡◌, ℕ, ◌+◌, ◌-◌, ◌<◌, ◌≤◌, false, List, [], ◌∷◌, ◌++◌, length, set, sym, refl, ap, ◌∙◌, append_assoc, append-nil, add-one, arith}
use Rattle.columns.specs.Writing.{nat_columns}
use Rattle.columns.proofs.Fields.{length-columns}
use Rattle.listing_lines.specs.Lines.{placed, Put}
use Rattle.listing_lines.proofs.Placed.{placed_byte, put_none, put_more}
use Rattle.lists.specs.Below.{tabulate}
use Rattle.load_spec.specs.Draws.{post_draw, mask_draw}
use Rattle.load_spec.specs.Script.{fields, line_of, text_of, mask_line, post_lines, round_lines}
use Rattle.load_spec.proofs.Text.{text_append, fields-append}
use Rattle.load_spec.proofs.Steps.{post_if, posts_none, posts_more}

pub put_byte : (l : List ℕ) (at b : ℕ) → at < length l → Put l (set l at b) at (at + 1) (b ∷ [])
put_byte l at b h = record { holds = placed_byte l at b h; behind = refl }

pub put_columns : (l l' : List ℕ) (at v : ℕ) → l' ≡ placed l at (nat_columns (at + 9 - at) v) → Put l l' at (at + 9) (nat_columns 9 v)
put_columns l l' at v e =
    let w : at + 9 - at ≡ 9 = omega arith in
    record { holds = rw w at e; behind = omega (arith, length-columns false 9 v) }

module _
    (l₀ l₁ l₂ l₃ : List ℕ) (at a e f letter : ℕ) (inside : at ≤ length l₀)
    (first : Put l₀ l₁ at a (letter ∷ [])) where
  pub line_made :
      (numbers : List ℕ) → Put l₁ l₂ a e (fields numbers) → Put l₂ l₃ e f (10 ∷ []) →
      Put l₀ l₃ at f (text_of (line_of letter numbers ∷ []))
  unfolding text_of line_of
  line_made numbers middle last =
      put_more l₀ l₂ l₃ at e f (letter ∷ fields numbers) (10 ∷ []) inside
      (put_more l₀ l₁ l₂ at a e (letter ∷ []) (fields numbers) inside first middle) last

pub one_field : (v : ℕ) → nat_columns 9 v ≡ fields (v ∷ [])
unfolding fields
one_field v = sym (append-nil (nat_columns 9 v))

pub four_fields :
    (a b c d : ℕ) → ((nat_columns 9 a ++ nat_columns 9 b) ++ nat_columns 9 c) ++ nat_columns 9 d ≡ fields (a ∷ b ∷ c ∷ d ∷ [])
unfolding fields
four_fields a b c d = simp (append_assoc, append-nil)

-- the posts of no station, and of one station more
pub posts_put_none : (s : ℕ) (l : List ℕ) → Put l l 0 0 (text_of (post_lines s 0))
posts_put_none s l = rw posts_none (put_none l 0)

pub posts_put_more :
    (s p d : ℕ) (l₀ l₁ l₂ : List ℕ) (mid end : ℕ) → d ≡ post_draw s p →
    Put l₀ l₁ 0 mid (text_of (post_lines s p)) → Put l₁ l₂ mid end (post_if p d) →
    Put l₀ l₂ 0 end (text_of (post_lines s (p + 1)))
posts_put_more s p d l₀ l₁ l₂ mid end e first next =
    rw posts_more
    (put_more l₀ l₁ l₂ 0 mid end (text_of (post_lines s p)) (post_if p (post_draw s p)) (omega arith) first (rw e at next))

-- the masks of no station, and of one station more
pub masks_put_none : (s : ℕ) (l : List ℕ) (at : ℕ) → Put l l at at (fields (tabulate 0 (mask_draw s)))
unfolding fields tabulate
masks_put_none s l at = put_none l at

fields_tabulate : (p : ℕ) (f : ℕ → ℕ) → fields (tabulate (p + 1) f) ≡ fields (tabulate p f) ++ nat_columns 9 (f p)
unfolding fields tabulate
fields_tabulate p f =
    rw add-one
    (fields-append (tabulate p f) (f p ∷ [])
    ∙ ap (λ (l : List ℕ). fields (tabulate p f) ++ l) (append-nil _))

pub masks_put_more :
    (s p d : ℕ) (l₀ l₁ l₂ : List ℕ) (at mid end : ℕ) → at ≤ length l₀ → d ≡ mask_draw s p →
    Put l₀ l₁ at mid (fields (tabulate p (mask_draw s))) → Put l₁ l₂ mid end (nat_columns 9 d) →
    Put l₀ l₂ at end (fields (tabulate (p + 1) (mask_draw s)))
masks_put_more s p d l₀ l₁ l₂ at mid end h e first next =
    rw fields_tabulate
    (put_more l₀ l₁ l₂ at mid end (fields (tabulate p (mask_draw s))) (nat_columns 9 (mask_draw s p)) h first (rw e at next))

-- posts, and behind them a line of masks, are a round
pub round_made :
    (s n : ℕ) (l₀ l₁ l₂ l₃ l₄ : List ℕ) (at end : ℕ) → at ≤ length l₁ →
    Put l₀ l₁ 0 at (text_of (post_lines s n)) → Put l₁ l₂ at (at + 1) (82 ∷ []) →
    Put l₂ l₃ (at + 1) end (fields (tabulate n (mask_draw s))) → Put l₃ l₄ end (end + 1) (10 ∷ []) →
    l₄ ≡ placed l₀ 0 (text_of (round_lines s n))
unfolding round_lines mask_line
round_made s n l₀ l₁ l₂ l₃ l₄ at end h posts letter masks last =
    let numbers = tabulate n (mask_draw s) in
    let line = line_made l₁ l₂ l₃ l₄ at (at + 1) end (end + 1) 82 h letter numbers masks last in
    rw text_append
    (put_more l₀ l₁ l₄ 0 at (end + 1) (text_of (post_lines s n)) (text_of (line_of 82 numbers ∷ [])) (omega arith) posts line).holds
