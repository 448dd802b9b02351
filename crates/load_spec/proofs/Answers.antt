-- A call by its refusal: what is refused changes nothing, and a call that is done has written its
-- text at the front of the buffer.
use mathlib.Core.Path.{◌≡◌, refl, ◌∙◌}
use mathlib.Core.Bool.{Bool, true, false, cond, ◌&&◌}
use mathlib.Core.List.{List}
use Prim.Native.Nat.{ℕ, ◌≤◌, ◌<◌}
use lib.Dec.{leb, ltb, eqb}
use lib.ListN.{length, take}
use lib.Seq.{take_at}
use borrow.Author.Tests.{eqb-true, leb-true, lt-ltb, le-ltb}
use Rattle.bodies.specs.Refusals.{done, bad_number, short_buffer}
use Rattle.listing_lines.specs.Lines.{placed}
use Rattle.lists.proofs.Laws.{and_left, and_right}
use Rattle.load_spec.specs.declared.Generated.{Generated}
use Rattle.load_spec.specs.Calls.{most_rounds, numbers_fit, call_text, call_state, call_refusal, generated, buffer_after, Writes}

module _ (state n due : ℕ) (head : Bool) where
  abbrev answer : ℕ → Bool → Generated
  answer refusal t =
      cond t
      (record { refusal = done; len = length (call_text state n due head); state = call_state state n due head })
      (record { refusal = refusal; len = 0; state = state })

  pub by_refusal : (room : ℕ) → (generated state n due head room).refusal ≡ done → call_refusal state n due head room ≡ done
  unfolding generated
  by_refusal room e = go (call_refusal state n due head room) _ refl e
    where
      go : (r : ℕ) (t : Bool) → eqb r done ≡ t → (answer r t).refusal ≡ done → r ≡ done
      go r true q e = eqb-true r done q
      go r false q e = e

  module _ (buffer : List ℕ) (fine : call_refusal state n due head (length buffer) ≡ done) where
    pub is_done :
        generated state n due head (length buffer)
        ≡ record { refusal = done; len = length (call_text state n due head); state = call_state state n due head }
    unfolding generated
    is_done = rw fine

    pub is_put : buffer_after state n due head buffer ≡ placed buffer 0 (call_text state n due head)
    unfolding buffer_after
    is_put = rw fine

    -- the bytes of which the answer gives the length
    pub is_written :
        take (generated state n due head (length buffer)).len (buffer_after state n due head buffer) ≡ call_text state n due head
    unfolding placed
    is_written = rw (is_done, is_put) (take_at (call_text state n due head) _ (length (call_text state n due head)) refl)

-- a call whose numbers are outside
pub outside :
    (state n due : ℕ) (head : Bool) (buffer : List ℕ) → numbers_fit n due ≡ false →
    (generated state n due head (length buffer) ≡ record { refusal = bad_number; len = 0; state = state })
    × (buffer_after state n due head buffer ≡ buffer)
unfolding generated buffer_after call_refusal
outside state n due head buffer e = (rw e, rw e)

-- a call whose numbers are inside does what the part of it that writes the text promises
pub inside :
    (state n due : ℕ) (head : Bool) (text : List ℕ) (after : ℕ) (entry exit : List ℕ) (r : Generated) → numbers_fit n due ≡ true →
    call_text state n due head ≡ text → call_state state n due head ≡ after → Writes text state after entry exit r →
    (r ≡ generated state n due head (length entry)) × (exit ≡ buffer_after state n due head entry)
unfolding generated buffer_after call_refusal
inside state n due head text after entry exit r e t a w = (
  w.answer ∙ rw (e, t, a) (made (ltb (length entry) (length text))),
  w.put ∙ rw (e, t) (put (ltb (length entry) (length text))),
)
  where
    made :
        (b : Bool) →
        cond {A = Generated} b
        (record { refusal = short_buffer; len = 0; state = state })
        (record { refusal = done; len = length text; state = after })
        ≡ cond (eqb (cond b short_buffer done) done)
        (record { refusal = done; len = length text; state = after })
        (record { refusal = cond b short_buffer done; len = 0; state = state })
    made true = refl
    made false = refl

    put : (b : Bool) → cond b entry (placed entry 0 text) ≡ cond (eqb (cond b short_buffer done) done) (placed entry 0 text) entry
    put true = refl
    put false = refl

-- a text that does not fit, and one that does
pub too_long :
    (text : List ℕ) (state after : ℕ) (buffer : List ℕ) → length buffer < length text →
    Writes text state after buffer buffer (record { refusal = short_buffer; len = 0; state = state })
too_long text state after buffer h =
    record { answer = rw (lt-ltb (length buffer) (length text) h); put = rw (lt-ltb (length buffer) (length text) h) }

pub written :
    (text : List ℕ) (state after : ℕ) (entry exit : List ℕ) (len s : ℕ) → length text ≤ length entry → len ≡ length text → s ≡ after →
    exit ≡ placed entry 0 text → Writes text state after entry exit (record { refusal = done; len = len; state = s })
written text state after entry exit len s h e a p =
    record { answer = rw (le-ltb (length entry) (length text) h, e, a); put = rw (le-ltb (length entry) (length text) h) p }

pub fit_size : (n due : ℕ) → numbers_fit n due ≡ true → n ≤ 16
unfolding numbers_fit
fit_size n due e = leb-true n 16 (and_right (leb 1 n) (leb n 16) (and_left (leb 1 n && leb n 16) (leb due most_rounds) e))
