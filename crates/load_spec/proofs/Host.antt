-- The call from C by its refusal. Where its numbers are inside and both places are lent, it is the
-- generator's call, and the two places get what that call returns.
use mathlib.Core.Path.{◌≡◌, refl, sym, ap, ◌∙◌}
use mathlib.Core.Bool.{Bool, true, false, cond}
use mathlib.Core.List.{List}
use Prim.Native.Nat.{ℕ, ◌≤◌, ◌<◌}
use native.Mathlib.Omega.{arith}
use lib.Dec.{eqb}
use lib.ListN.{length, set}
use borrow.Author.Tests.{eqb-true, ne_eqb, lt-ltb, le-ltb}
use Rattle.bodies.specs.Refusals.{done, bad_number, short_buffer}
use Rattle.load_spec.specs.declared.Generated.{Generated}
use Rattle.load_spec.specs.Calls.{numbers_fit, call_text, call_state, call_refusal, generated, buffer_after, host_refusal, host_buffer, host_places}
use Rattle.load_spec.specs.Whole.{enough}
use Rattle.load_spec.proofs.Answers.{is_done, fit_size}
use Rattle.load_spec.proofs.WholeScript.{fits}

module _ (state n due : ℕ) (head : Bool) (buffer next : List ℕ) where
  -- what the call leaves: its refusal, the buffer and the two places
  pub record Leaves (r : ℕ) (buffer_exit next_exit : List ℕ) : Type 0 where
    pub refusal : r ≡ host_refusal state n due head (length buffer) (length next)
    pub buffered : buffer_exit ≡ host_buffer state n due head (length next) buffer
    pub placed : next_exit ≡ host_places state n due head (length buffer) next

  -- a refusal that is known changes nothing
  refused : (r : ℕ) → (r ≡ done → ⊥) → r ≡ host_refusal state n due head (length buffer) (length next) → Leaves r buffer next
  unfolding host_buffer host_places
  refused r some e =
      record { refusal = e; buffered = rw (← e, ne_eqb r done some); placed = rw (← e, ne_eqb r done some) }

  pub host_outside : numbers_fit n due ≡ false → Leaves bad_number buffer next
  unfolding host_refusal
  host_outside e = refused bad_number (λ q. omega arith) (rw e)

  module _ (inside : numbers_fit n due ≡ true) where
    pub host_short : length next < 2 → Leaves short_buffer buffer next
    unfolding host_refusal
    host_short h = refused short_buffer (λ q. omega arith) (rw (inside, lt-ltb (length next) 2 h))

    pub length_small : (generated state n due head (length buffer)).len ≤ enough
    unfolding generated
    length_small = go (eqb (call_refusal state n due head (length buffer)) done)
      where
        go :
            (t : Bool) →
            (cond {A = Generated} t
            (record { refusal = done; len = length (call_text state n due head); state = call_state state n due head })
            (record { refusal = call_refusal state n due head (length buffer); len = 0; state = state })).len
            ≤ enough
        go true = fits state n due head (fit_size n due inside)
        go false = omega arith

    module _ (two : 2 ≤ length next) where
      same : host_refusal state n due head (length buffer) (length next) ≡ call_refusal state n due head (length buffer)
      unfolding host_refusal
      same = rw (inside, le-ltb (length next) 2 two)

      returned : (generated state n due head (length buffer)).refusal ≡ call_refusal state n due head (length buffer)
      unfolding generated
      returned = go (call_refusal state n due head (length buffer)) _ refl
        where
          go :
              (r : ℕ) (t : Bool) → eqb r done ≡ t →
              (cond {A = Generated} t
              (record { refusal = done; len = length (call_text state n due head); state = call_state state n due head })
              (record { refusal = r; len = 0; state = state })).refusal
              ≡ r
          go r true q = sym (eqb-true r done q)
          go r false q = refl

      module _ (g : Generated) (exit : List ℕ) (made : g ≡ generated state n due head (length buffer)) (put : exit ≡ buffer_after state n due head buffer) where
        exit_is : exit ≡ host_buffer state n due head (length next) buffer
        unfolding host_buffer buffer_after
        exit_is = put ∙ rw same

        refusal_is : g.refusal ≡ host_refusal state n due head (length buffer) (length next)
        refusal_is = ap (λ (x : Generated). x.refusal) made ∙ returned ∙ sym same

        pub host_refused : (g.refusal ≡ done → ⊥) → Leaves g.refusal exit next
        unfolding host_places
        host_refused some =
            record { refusal = refusal_is; buffered = exit_is; placed = rw (← refusal_is, ne_eqb g.refusal done some) }

        pub host_done : g.refusal ≡ done → Leaves done exit (set (set next 0 g.state) 1 g.len)
        unfolding host_places
        host_done e =
            let fine = sym returned ∙ ap (λ (x : Generated). x.refusal) (sym made) ∙ e in
            let all = made ∙ is_done state n due head buffer fine in
            record {
              refusal = sym e ∙ refusal_is;
              buffered = exit_is;
              placed = rw (same, fine, all);
            }
