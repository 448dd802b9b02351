-- Writing one record: the sixteen bytes that are made are the definition's.
use Rattle.std.proofs.Common.{◌≡◌, ℕ, ◌+◌, ◌≤◌, List, [], ◌∷◌, length, get_or, take, drop, sym, ◌∙◌, append_assoc, arith}
use Rattle.std.proofs.lemmas.List.Edits.{sets, sets-eq}
use borrow.Rule.Slice.PartMut.{put_mid}
use lib.Seq.{drop-drop}
use Rattle.bodies.specs.declared.Body.{Body}
use Rattle.bodies.specs.declared.Body.TheVariants.{Empty, Neutral, Insert, Drop, Shift}
use Rattle.bodies.specs.Body.{kind_of, event_of, argument_of, channel_of}
use Rattle.labels.specs.Packing.{label_in, labels_over}
use Rattle.frame_spec.specs.declared.Record.{Record}
use Rattle.frame_spec.specs.Words.{word_bytes, unsigned}
use Rattle.frame_spec.specs.Record.{record_bytes, record_label}

-- a kind is a byte
pub kind_small : (b : Body) → kind_of b ≤ 4
kind_small Empty = omega arith
kind_small Neutral = omega arith
kind_small (Insert channel event start) = omega arith
kind_small (Drop channel event) = omega arith
kind_small (Shift channel event frames) = omega arith

pub record_made :
    (n : ℕ) (r : Record) (k c : ℕ) (e a l : List ℕ) →
    k ≡ kind_of r.body → c ≡ channel_of r.body → e ≡ word_bytes (event_of r.body) →
    a ≡ word_bytes (unsigned (argument_of r.body)) → l ≡ word_bytes (labels_over n (label_in r.labels) 0) →
    ◌≡◌ {A = List ℕ}
    (r.station ∷ r.count ∷ k ∷ c
    ∷ get_or e 0 0 ∷ get_or e 1 0 ∷ get_or e 2 0 ∷ get_or e 3 0
    ∷ get_or a 0 0 ∷ get_or a 1 0 ∷ get_or a 2 0 ∷ get_or a 3 0
    ∷ get_or l 0 0 ∷ get_or l 1 0 ∷ get_or l 2 0 ∷ get_or l 3 0 ∷ [])
    (record_bytes n r)
unfolding record_bytes record_label word_bytes
record_made n r k c e a l h₁ h₂ h₃ h₄ h₅ = rw (h₁, h₂, h₃, h₄, h₅)

-- four bytes put over four others
pub word_put :
    (at k word : ℕ) (bytes made : List ℕ) → k ≡ 4 → at + 4 ≤ length bytes → made ≡ word_bytes word →
    put_mid at k bytes made ≡ sets bytes at (word_bytes word)
unfolding word_bytes
word_put at k word bytes made h l e =
    rw (e, h) (rw (drop-drop 4 at bytes) (sym (sets-eq (word_bytes word) bytes at l ∙ append_assoc (take at bytes) (word_bytes word) (drop (at + 4) bytes))))
