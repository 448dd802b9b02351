-- The calls one after the other write the whole script, by induction on the rounds due: a call
-- writes the lines of one round and leaves the state from which the others are drawn.
use mathlib.Core.Path.{◌≡◌, refl, sym, ap, ap₂, subst, ◌∙◌}
use mathlib.Core.Bool.{Bool, true, false}
use mathlib.Core.List.{List, [], ◌∷◌, ◌++◌}
use Prim.Native.Nat.{ℕ, zero, suc, ◌≤◌}
use native.Mathlib.Omega.{arith}
use lib.ListN.{length, replicate, length-replicate}
use borrow.Author.Tests.{le-leb, le-ltb, ne_eqb}
use Rattle.load_spec.specs.Draws.{after_round}
use Rattle.load_spec.specs.Script.{text_of, size_line, round_lines, rounds_lines, script_lines, script_of}
use Rattle.load_spec.specs.Calls.{numbers_fit, call_lines, call_text, call_state, call_refusal, generated}
use Rattle.load_spec.specs.Whole.{Rounds, none_due, then_call, Calls, head_first, WritesWhole, NeverShort, AlwaysWritten, enough}
use Rattle.load_spec.proofs.Text.{text_append, length_size, length_round, posts_at_most}
use Rattle.load_spec.proofs.Answers.{by_refusal, is_done, is_written}

-- what a call writes and leaves, by what it is asked for
pub round_text : (state n due : ℕ) → (due ≡ 0 → ⊥) → call_text state n due false ≡ text_of (round_lines state n)
unfolding call_text call_lines
round_text state n due h = rw (ne_eqb due 0 h)

pub round_state : (state n due : ℕ) → (due ≡ 0 → ⊥) → call_state state n due false ≡ after_round n state
unfolding call_state
round_state state n due h = rw (ne_eqb due 0 h)

pub size_text : (state n due : ℕ) → call_text state n due true ≡ text_of (size_line n ∷ [])
unfolding call_text call_lines
size_text state n due = refl

pub size_state : (state n due : ℕ) → call_state state n due true ≡ state
unfolding call_state
size_state state n due = refl

pub no_text : (state n : ℕ) → call_text state n 0 false ≡ []
unfolding call_text call_lines text_of
no_text state n = refl

pub no_state : (state n : ℕ) → call_state state n 0 false ≡ state
unfolding call_state
no_state state n = refl

nothing : [] ≡ text_of []
unfolding text_of
nothing = refl

rounds_written : {n state due : ℕ} {text : List ℕ} → Rounds n state due text → text ≡ text_of (rounds_lines state n due)
unfolding rounds_lines
rounds_written (none_due state) = nothing
rounds_written {n} (then_call state due buffer text e more) =
    let fine = by_refusal state n (suc due) false (length buffer) e in
    let some : suc due ≡ 0 → ⊥ = λ q. omega arith in
    let left : (generated state n (suc due) false (length buffer)).state ≡ after_round n state =
    rw (is_done state n (suc due) false buffer fine) (round_state state n (suc due) some) in
    ap₂ ◌++◌ (is_written state n (suc due) false buffer fine ∙ round_text state n (suc due) some) (rw left at (rounds_written more))
    ∙ sym (text_append (round_lines state n) (rounds_lines (after_round n state) n due))

pub writes_whole : WritesWhole
unfolding script_of script_lines
writes_whole n seed count text (head_first _ _ buffer rest e more) =
    let fine = by_refusal seed n count true (length buffer) e in
    let left : (generated seed n count true (length buffer)).state ≡ seed =
    rw (is_done seed n count true buffer fine) (size_state seed n count) in
    ap₂ ◌++◌ (is_written seed n count true buffer fine ∙ size_text seed n count) (rw left at (rounds_written more))
    ∙ sym (text_append (size_line n ∷ []) (rounds_lines seed n count))

-- a call in a buffer of that many bytes
pub fits : (state n due : ℕ) (head : Bool) → n ≤ 16 → length (call_text state n due head) ≤ enough
fits state n due true h = omega (arith, ap length (size_text state n due), length_size n)
fits state n zero false h = omega (arith, ap length (no_text state n))
fits state n (suc due) false h =
    omega (arith, ap length (round_text state n (suc due) (λ q. omega arith)), length_round state n, posts_at_most state n)

pub never_short : NeverShort
unfolding generated call_refusal numbers_fit
never_short state n due head room l h d e =
    rw (le-leb 1 n l, le-leb n 16 h, le-leb due 999_999 d, le-ltb room (length (call_text state n due head)) (omega (arith, fits state n due head h)))

-- so there are such calls
all_rounds : (n state due : ℕ) → 1 ≤ n → n ≤ 16 → due ≤ 999_999 → (text : List ℕ) × Rounds n state due text
all_rounds n state zero l h d = ([], none_due state)
all_rounds n state (suc due) l h d =
    let buffer : List ℕ = replicate enough 0 in
    let more = all_rounds n (generated state n (suc due) false (length buffer)).state due l h (omega arith) in
    (_, then_call state due buffer more.0 (never_short state n (suc due) false (length buffer) l h d (omega (arith, length-replicate {A = ℕ} enough 0))) more.1)

pub always_written : AlwaysWritten
always_written n seed count l h d =
    let buffer : List ℕ = replicate enough 0 in
    let more = all_rounds n (generated seed n count true (length buffer)).state count l h d in
    let calls = head_first seed count buffer more.0 (never_short seed n count true (length buffer) l h d (omega (arith, length-replicate {A = ℕ} enough 0))) more.1 in
    subst (λ (t : List ℕ). Calls n seed count t) (writes_whole n seed count _ calls) calls
