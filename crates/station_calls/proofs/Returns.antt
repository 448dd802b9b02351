-- The returns of a call on what lies as bytes, whatever it is that is encoded: what is refused
-- leaves every buffer, and what is done leaves the encoding of what the call's definition answers.
-- `made` is what the code was answered, and equal to that answer.
use mathlib.Core.Path.{◌≡◌, sym, ap, ◌∙◌}
use mathlib.Core.Bool.{Bool, true, false, not}
use mathlib.Core.List.{List}
use Prim.Native.Nat.{ℕ, ◌<◌, ◌≤◌}
use native.Mathlib.Omega.{arith}
use lib.ListN.{length}
use lib.Seq.{sets}
use Rattle.bodies.specs.Refusals.{done, outside_limits, short_buffer, refuse_number}
use Rattle.planning_spec.specs.Merge.{front_written}
use Rattle.station_calls.specs.Station.{or_else, room_refusal}
use Rattle.station_calls.proofs.Refusals.{first_refused, first_done, state_refused, state_taken, no_room, room, kept_whole, front_made, refused_is_2, short_is_9}

-- bytes that are not what the call is about
module _ (judged : Bool) (h : judged ≡ false) (r : ℕ) (is : r ≡ outside_limits) (x : ℕ) (part b : List ℕ) where
  pub not_judged : (r ≡ or_else (refuse_number (not judged) outside_limits done) x) × (b ≡ front_written r part b)
  not_judged = (is ∙ state_refused judged x h, kept_whole _ _ b (λ z. refused_is_2 (sym is ∙ z)))

  pub not_judged_both :
      (report lent : List ℕ) →
      (r ≡ or_else (refuse_number (not judged) outside_limits done) x) × (b ≡ front_written r part b) × (lent ≡ front_written r report lent)
  not_judged_both report lent = (not_judged.0, not_judged.1, kept_whole _ _ lent (λ z. refused_is_2 (sym is ∙ z)))

module _ {A : Type 0} (refusal : A → ℕ) (part : A → List ℕ) (made answer : A) (is : made ≡ answer) where
  fine_too : refusal made ≡ done → refusal answer ≡ done
  fine_too fine = ap refusal (sym is) ∙ fine

  -- what is refused is what the definition refuses
  first_same : (x : ℕ) → (refusal made ≡ done → ⊥) → refusal made ≡ or_else (refusal answer) x
  first_same x d = let e = ap refusal is in e ∙ first_refused _ _ (λ z. d (e ∙ z))

  put_same : (l m : List ℕ) → length (part answer) ≤ length l → m ≡ sets l 0 (part made) → m ≡ front_written done (part answer) l
  put_same l m h e = front_made (part answer) l m h (e ∙ ap (λ (x : A). sets l 0 (part x)) is)

  -- a call that makes what it puts into a buffer
  module _ (width : ℕ) (l : List ℕ) where
    pub fresh_refused : (refusal made ≡ done → ⊥) → (refusal made ≡ or_else (refusal answer) (room_refusal width l)) × (l ≡ front_written (refusal made) (part answer) l)
    fresh_refused d = (first_same _ d, kept_whole _ _ l d)

    module _ (fine : refusal made ≡ done) where
      pub fresh_short :
          length l < width → (r : ℕ) → r ≡ short_buffer → (r ≡ or_else (refusal answer) (room_refusal width l)) × (l ≡ front_written r (part answer) l)
      fresh_short h r is = (is ∙ no_room width l h ∙ first_done _ _ (fine_too fine), kept_whole _ _ l (λ z. short_is_9 (sym is ∙ z)))

      pub fresh_done :
          width ≤ length l → length (part answer) ≡ width → (m : List ℕ) → m ≡ sets l 0 (part made) →
          (done ≡ or_else (refusal answer) (room_refusal width l)) × (m ≡ front_written done (part answer) l)
      fresh_done h long m e = (room width l h ∙ first_done _ _ (fine_too fine), put_same l m (omega (arith, long)) e)

  -- a call on bytes that are what it is about, which it writes over
  module _ (judged : Bool) (h : judged ≡ true) (b : List ℕ) where
    pub over_refused :
        (refusal made ≡ done → ⊥) →
        (refusal made ≡ or_else (refuse_number (not judged) outside_limits done) (refusal answer)) × (b ≡ front_written (refusal made) (part answer) b)
    over_refused d = (ap refusal is ∙ state_taken judged _ h, kept_whole _ _ b d)

    pub over_done :
        refusal made ≡ done → length (part answer) ≡ length b → (l : List ℕ) → l ≡ sets b 0 (part made) →
        (done ≡ or_else (refuse_number (not judged) outside_limits done) (refusal answer)) × (l ≡ front_written done (part answer) b)
    over_done fine long l e = (sym (fine_too fine) ∙ state_taken judged _ h, put_same b l (omega (arith, long)) e)

    -- the same, with a report into another buffer; `rest` is what that buffer and the like are
    -- refused with
    module _ (report : A → List ℕ) (lent : List ℕ) (rest : ℕ) where
      abbrev returned : ℕ
      returned = or_else (refuse_number (not judged) outside_limits done) (or_else (refusal answer) rest)

      pub both_refused :
          (refusal made ≡ done → ⊥) →
          (refusal made ≡ returned) × (b ≡ front_written (refusal made) (part answer) b) × (lent ≡ front_written (refusal made) (report answer) lent)
      both_refused d = (first_same rest d ∙ state_taken judged _ h, kept_whole _ _ b d, kept_whole _ _ lent d)

      module _ (fine : refusal made ≡ done) where
        pub both_short :
            short_buffer ≡ rest → (r : ℕ) → r ≡ short_buffer →
            (r ≡ returned) × (b ≡ front_written r (part answer) b) × (lent ≡ front_written r (report answer) lent)
        both_short e r is =
            let not_done : r ≡ done → ⊥ = λ z. short_is_9 (sym is ∙ z) in
            (is ∙ e ∙ first_done _ _ (fine_too fine) ∙ state_taken judged _ h, kept_whole _ _ b not_done, kept_whole _ _ lent not_done)

        pub both_done :
            done ≡ rest → length (part answer) ≡ length b → length (report answer) ≤ length lent → (l m : List ℕ) →
            l ≡ sets b 0 (part made) → m ≡ sets lent 0 (report made) →
            (done ≡ returned) × (l ≡ front_written done (part answer) b) × (m ≡ front_written done (report answer) lent)
        both_done e long wide l m put told = (
          e ∙ first_done _ _ (fine_too fine) ∙ state_taken judged _ h,
          put_same b l (omega (arith, long)) put,
          front_made (report answer) lent m wide (told ∙ ap (λ (x : A). sets lent 0 (report x)) is),
        )
