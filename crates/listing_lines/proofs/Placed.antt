-- A text put into a buffer: its length stays, and a text put behind another makes one text of the
-- two.
use mathlib.Core.Path.{◌≡◌, sym, ap, ◌∙◌}
use mathlib.Core.List.{List, [], ◌∷◌, ◌++◌, append_assoc, append-nil}
use Prim.Native.Nat.{ℕ, ◌+◌, ◌-◌, ◌≤◌, ◌<◌}
use native.Mathlib.Nat.{add_assoc, add-zero}
use native.Mathlib.Omega.{arith}
use native.Mathlib.Numerals.{add-one}
use lib.ListN.{length, take, drop, set, get_or, length-append, length-take, length-drop, take-append-drop}
use lib.Seq.{length-take-le, take-suc, take_at, drop-append-add, drop-drop, set_split}
use Rattle.listing_lines.specs.Lines.{placed, Put}

pub length-placed : (buffer : List ℕ) (at : ℕ) (text : List ℕ) → at + length text ≤ length buffer → length (placed buffer at text) ≡ length buffer
unfolding placed
length-placed buffer at text h = simp (length-append, length-take, length-drop) (omega arith)

-- nothing put
pub placed_none : (buffer : List ℕ) (at : ℕ) → buffer ≡ placed buffer at []
unfolding placed
placed_none buffer at = rw (append-nil, add-zero) (sym (take-append-drop at buffer))

-- one byte
pub placed_byte : (buffer : List ℕ) (at b : ℕ) → at < length buffer → set buffer at b ≡ placed buffer at (b ∷ [])
unfolding placed
placed_byte buffer at b h = rw (add-one, append_assoc) (set_split buffer at b h)

-- one text behind another
pub placed_more :
    (buffer : List ℕ) (at : ℕ) (text more : List ℕ) → at ≤ length buffer →
    placed (placed buffer at text) (at + length text) more ≡ placed buffer at (text ++ more)
unfolding placed
placed_more buffer at text more h =
    let front = take at buffer ++ text in
    let back = drop (at + length text) buffer in
    let size : length front ≡ at + length text = simp (length-append, length-take) (omega arith) in
    let left : drop (at + length text + length more) (front ++ back) ≡ drop (at + length text + length more) buffer =
    ap (λ (n : ℕ). drop (n + length more) (front ++ back)) (sym size)
    ∙ drop-append-add front back (length more)
    ∙ drop-drop (length more) (at + length text) buffer in
    rw (take_at front back (at + length text) size, left, length-append, add_assoc, append_assoc (take at buffer) text more)

-- a text put behind what is put already, as two calls leave it
pub placed_then :
    (buffer held end : List ℕ) (at next : ℕ) (text more : List ℕ) → at ≤ length buffer → at + length text ≡ next →
    held ≡ placed buffer at text → end ≡ placed held next more → end ≡ placed buffer at (text ++ more)
placed_then buffer held end at next text more h e p q =
    q ∙ rw (p, ← e) (placed_more buffer at text more h)

-- a part that was lent and came back holding the text
pub part_length : (buffer : List ℕ) (at end : ℕ) → end ≤ length buffer → length (take (end - at) (drop at buffer)) ≡ end - at
part_length buffer at end h = length-take-le (end - at) (drop at buffer) (rw length-drop (omega arith))

pub placed_part :
    (buffer : List ℕ) (at k : ℕ) (part text : List ℕ) → length part ≡ k → part ≡ text →
    take at buffer ++ (part ++ drop k (drop at buffer)) ≡ placed buffer at text
unfolding placed
placed_part buffer at k part text e p = rw (drop-drop, ← append_assoc, ← e, p)

-- what calls that put one text behind the other say together
pub put_none : (l : List ℕ) (at : ℕ) → Put l l at at []
put_none l at = record { holds = placed_none l at; behind = omega arith }

pub put_more :
    (l₀ l₁ l₂ : List ℕ) (at mid end : ℕ) (text more : List ℕ) → at ≤ length l₀ → Put l₀ l₁ at mid text → Put l₁ l₂ mid end more →
    Put l₀ l₂ at end (text ++ more)
put_more l₀ l₁ l₂ at mid end text more h p q =
    record {
      holds = placed_then l₀ l₁ l₂ at mid text more h (sym p.behind) p.holds q.holds;
      behind = omega (arith, p.behind, q.behind, length-append text more);
    }

pub put-length : (l₀ l₁ : List ℕ) (at end : ℕ) (text : List ℕ) → Put l₀ l₁ at end text → end ≤ length l₀ → length l₁ ≡ length l₀
put-length l₀ l₁ at end text p h = ap length p.holds ∙ length-placed l₀ at text (omega (arith, p.behind))

-- one byte more of a text
pub placed_step :
    (buffer held : List ℕ) (at k : ℕ) (text : List ℕ) → at + length text ≤ length buffer → k < length text →
    held ≡ placed buffer at (take k text) → set held (at + k) (get_or text k 0) ≡ placed buffer at (take (k + 1) text)
placed_step buffer held at k text room inside e =
    let size : length (take k text) ≡ k = length-take-le k text (omega arith) in
    let same : length held ≡ length buffer = ap length e ∙ length-placed buffer at (take k text) (omega arith) in
    rw (add-one, take-suc text k 0 inside)
    (placed_then buffer held (set held (at + k) (get_or text k 0)) at (at + k) (take k text) (get_or text k 0 ∷ []) (omega arith) (omega arith) e
    (placed_byte held (at + k) (get_or text k 0) (omega arith)))
