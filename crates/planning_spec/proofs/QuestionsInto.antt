-- A page's answers into a lent buffer, case by case: the refusal of the log or of the page, a
-- buffer without room, and the answers written.
use mathlib.Core.List.{List, ◌++◌}
use mathlib.Core.Path.{◌≡◌, refl, sym, ap, ◌∙◌}
use Prim.Native.Nat.{ℕ, ◌<◌, ◌≤◌}
use native.Mathlib.Decide.{ℕ_discrete}
use native.Mathlib.Omega.{arith}
use borrow.Author.Tests.{eq-eqb, ne_eqb, lt-ltb, le-ltb}
use lib.ListN.{get_or, length, drop}
use Rattle.lists.specs.Below.{set_below, tabulate}
use Rattle.lists.proofs.Laws.{length-tabulate, set_below_ext}
use Rattle.planning_spec.specs.Questions.{PageAnswer}
use Rattle.planning_spec.specs.Merge.{front_written}
use Rattle.planning_spec.specs.Questions.{question_at, question_count, questions_refusal, never, answer_to, questions_call}
use Rattle.planning_spec.specs.Questions.{arrival_number, answer_numbers, questions_into_refusal}
use Rattle.planning_spec.proofs.MergeInto.{set_below_front, front_refused, front_done}
use Rattle.planning_spec.proofs.Questions.{asked, taken, call_refused, call_done, call_answer}

call_refusal : (n : ℕ) (log page : List ℕ) → (questions_call n log page).refusal ≡ questions_refusal n log page
call_refusal n log page =
    elim (ℕ_discrete (questions_refusal n log page) 0) [
      | yes e ↦ ap (λ (a : PageAnswer). a.refusal) (call_done n log page e) ∙ sym e
      | no d ↦ sym (ap (λ (a : PageAnswer). a.refusal) (call_refused n log page (questions_refusal n log page) refl d))
    ]

numbers_front : (n : ℕ) (log page buffer : List ℕ) → question_count page ≤ length buffer
    → set_below (question_count page) (λ i. arrival_number (answer_to n log (question_at page i))) buffer
    ≡ front_written 0 (answer_numbers n log page) buffer
unfolding answer_numbers
numbers_front n log page buffer h =
    let count = question_count page in
    set_below_front count (λ i. arrival_number (answer_to n log (question_at page i))) buffer h
    ∙ ap (λ (k : ℕ). tabulate count (λ i. arrival_number (answer_to n log (question_at page i))) ++ drop k buffer)
    (sym (length-tabulate count (λ i. arrival_number (answer_to n log (question_at page i)))))
    ∙ front_done (tabulate count (λ i. arrival_number (answer_to n log (question_at page i)))) buffer

-- What a return makes of a page's answers.
module _ (n : ℕ) (log page buffer : List ℕ) (a : PageAnswer) (is : a ≡ questions_call n log page) where
  same_refusal : a.refusal ≡ questions_refusal n log page
  same_refusal = ap (λ (b : PageAnswer). b.refusal) is ∙ call_refusal n log page

  pub into_refused : (a.refusal ≡ 0 → ⊥)
      → (a.refusal ≡ questions_into_refusal n log page buffer) × (buffer ≡ front_written a.refusal (answer_numbers n log page) buffer)
  unfolding questions_into_refusal
  into_refused d = (
    same_refusal ∙ rw (ne_eqb (questions_refusal n log page) 0 (λ h. d (same_refusal ∙ h))),
    front_refused a.refusal (answer_numbers n log page) buffer d,
  )

  pub into_short : a.refusal ≡ 0 → length buffer < question_count page
      → (9 ≡ questions_into_refusal n log page buffer) × (buffer ≡ front_written 9 (answer_numbers n log page) buffer)
  unfolding questions_into_refusal
  into_short e h = (
    rw (eq-eqb (questions_refusal n log page) 0 (sym same_refusal ∙ e), lt-ltb (length buffer) (question_count page) h),
    front_refused 9 (answer_numbers n log page) buffer (λ x. absurd (omega arith)),
  )

  pub into_few : a.refusal ≡ 0 → question_count page ≤ 64
  into_few e = (asked n page (taken n log page (sym same_refusal ∙ e)).1).few

  pub into_done : (after : List ℕ) → a.refusal ≡ 0 → question_count page ≤ length buffer
      → after ≡ set_below (question_count page) (λ i. arrival_number (get_or a.answers i never)) buffer
      → (0 ≡ questions_into_refusal n log page buffer) × (after ≡ front_written 0 (answer_numbers n log page) buffer)
  unfolding questions_into_refusal
  into_done after e h w =
      let z = sym same_refusal ∙ e in (
        rw (eq-eqb (questions_refusal n log page) 0 z, le-ltb (length buffer) (question_count page) h),
        w
            ∙ set_below_ext (question_count page) (λ i. arrival_number (get_or a.answers i never))
            (λ i. arrival_number (answer_to n log (question_at page i))) buffer
            (λ i l.
            ap (λ (b : PageAnswer). arrival_number (get_or b.answers i never)) is
            ∙ ap arrival_number (call_answer n log page z i l))
            ∙ numbers_front n log page buffer h,
      )
