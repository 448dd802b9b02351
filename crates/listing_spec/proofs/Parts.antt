-- A part of a script read: nothing at first, then bytes into the line and lines into the buffer.
use mathlib.Core.Path.{◌≡◌, refl, sym, ap, ◌∙◌}
use mathlib.Core.List.{List, [], ◌∷◌, ◌++◌, append_assoc, append-nil}
use Prim.Native.Nat.{ℕ, ◌+◌, ◌-◌, ◌≤◌, ◌<◌}
use native.Mathlib.Omega.{arith}
use native.Mathlib.Numerals.{add-one}
use lib.ListN.{length, take, drop, get_or, length-append, length-drop, drop_of_length-le}
use lib.Seq.{take_all, take_at, take-add, take-suc, length-take-le, drop-drop}
use Rattle.listing_lines.specs.Lines.{Put, placed}
use Rattle.listing_lines.proofs.Placed.{put_none, put_more}
use Rattle.listing_spec.specs.declared.Session.{Session}
use Rattle.listing_spec.specs.Listing.{after, printed}
use Rattle.listing_spec.specs.declared.reading.Reader.{Reader}
use Rattle.listing_spec.specs.declared.reading.FeedAnswer.{FeedAnswer}
use Rattle.listing_spec.specs.Remaining.{remaining_at, held_by, Listed, Feeds, Same}
use Rattle.listing_spec.proofs.Steps.{line_end}

-- a text that a call put at the front of the buffer's part from a place on: it lies in the part,
-- and stands in the buffer at that place
pub put_fits : (l m text : List ℕ) (len : ℕ) → Put l m 0 len text → length m ≡ length l → len ≤ length l
unfolding placed
put_fits l m text len p e =
    omega (arith, p.behind, length-append text (drop (0 + length text) l), length-drop (0 + length text) l, ap length p.holds)

pub put_tail :
    (out tail text : List ℕ) (at k len : ℕ) → k ≡ length out - at → Put (take k (drop at out)) tail 0 len text →
    Put out (take at out ++ (tail ++ drop k (drop at out))) at (at + len) text
unfolding placed
put_tail out tail text at k len e p =
    let size : length (drop at out) ≤ k = omega (arith, length-drop at out) in
    let all : take k (drop at out) ≡ drop at out = take_all k (drop at out) size in
    let none : drop k (drop at out) ≡ [] = drop_of_length-le (drop at out) size in
    let sum : at + (0 + length text) ≡ at + length text = omega arith in
    let left : drop (0 + length text) (drop at out) ≡ drop (at + length text) out = drop-drop (0 + length text) at out ∙ ap (λ (n : ℕ). drop n out) sum in
    record {
      holds = rw (none, append-nil, p.holds, all, left) (sym (append_assoc (take at out) text (drop (at + length text) out)));
      behind = omega (arith, p.behind);
    }

-- what is in the buffer then
front : (out exit text : List ℕ) (at end : ℕ) → at ≤ length out → Put out exit at end text → take end exit ≡ take at out ++ text
unfolding placed
front out exit text at end h p =
    let size : length (take at out ++ text) ≡ end = omega (arith, p.behind, length-append (take at out) text, length-take-le at out h) in
    rw p.holds (take_at (take at out ++ text) (drop (at + length text) out) end size)

module _ (s : Session) (held part entry : List ℕ) where
  pub listed_none : Listed s held part entry s held 0 0 entry
  listed_none = record { inside = omega arith; put = put_none entry 0; lists = λ more. refl }

  module _ (s' : Session) (held' : List ℕ) (read len : ℕ) (exit : List ℕ) (p : Listed s held part entry s' held' read len exit) where
    -- more bytes of the part, taken into the line
    pub listed_held :
        (held'' : List ℕ) (next : ℕ) → read ≤ next → next ≤ length part → Same held' (take (next - read) (drop read part)) held'' →
        Listed s held part entry s' held'' next len exit
    listed_held held'' next f h q =
        let sum : next ≡ read + (next - read) = omega arith in
        let parts : take next part ≡ take read part ++ take (next - read) (drop read part) =
        ap (λ (n : ℕ). take n part) sum ∙ take-add read (next - read) part in
        record {
          inside = h;
          put = p.put;
          lists = λ more.
              ap (λ (l : List ℕ). remaining_at s held (l ++ more)) parts
              ∙ ap (remaining_at s held) (append_assoc (take read part) (take (next - read) (drop read part)) more)
              ∙ p.lists (take (next - read) (drop read part) ++ more)
              ∙ ap (λ (l : List ℕ). take len exit ++ l) (q.same s' more);
        }

    -- a line end, whose line was applied to the session
    pub listed_line :
        (exit' : List ℕ) (s'' : Session) (put : ℕ) → read < length part → get_or part read 0 ≡ 10 → len ≤ length exit →
        s'' ≡ after s' held' → Put exit exit' len (len + put) (printed s' held') →
        Listed s held part entry s'' [] (read + 1) (len + put) exit'
    listed_line exit' s'' put inside ends room e q =
        let text = front exit exit' (printed s' held') len (len + put) room q in
        let parts : take (read + 1) part ≡ take read part ++ (10 ∷ []) =
        rw (add-one, take-suc part read 0 inside, ends) in
        record {
          inside = omega arith;
          put = rw text (put_more entry exit exit' 0 len (len + put) (take len exit) (printed s' held') (omega arith) p.put q);
          lists = λ more.
              ap (λ (l : List ℕ). remaining_at s held (l ++ more)) parts
              ∙ ap (remaining_at s held) (append_assoc (take read part) (10 ∷ []) more)
              ∙ p.lists (10 ∷ more)
              ∙ ap (λ (l : List ℕ). take len exit ++ l) (line_end s' held' more)
              ∙ rw (text, e, append_assoc);
        }

-- the answer that was made of it
pub fed_by :
    (r : Reader) (part entry exit : List ℕ) (s : Session) (len : ℕ) (line : List ℕ) (read put : ℕ) (f : FeedAnswer) →
    f ≡ record { read = read; len = put; reader = record { session = s; len = len; line = line } } →
    Listed r.session (held_by r) part entry s (take len line) read put exit → len ≤ 146 → (0 < length part → 0 < read) →
    Feeds r part entry exit f
fed_by r part entry exit s len line read put f e l k m = rw e (record { lists = l; kept = k; moves = m })
