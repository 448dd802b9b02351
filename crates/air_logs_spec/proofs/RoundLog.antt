-- What is kept of a round's text: of station p, the edits of the row that p reports as aired.
use Prim.Native.Nat.{ℕ, zero, suc, ◌<◌, ◌≤◌}
use mathlib.Core.Path.{◌≡◌, refl, sym, ap, subst, ◌∙◌}
use mathlib.Core.Bool.{Bool, true, false, cond, not, ◌&&◌}
use mathlib.Core.List.{List, [], ◌∷◌, append-nil, map}
use native.Mathlib.Omega.{arith}
use native.Mathlib.Decide.{ℕ_discrete, dec_le}
use lib.Dec.{ltb, eqb}
use lib.ListN.{get_or}
use borrow.Author.Tests.{ltb-true, lt-ltb, le-ltb, eq-eqb, ne_eqb}
use Rattle.bodies.specs.declared.Body.{Body}
use Rattle.bodies.specs.Body.{is_empty, is_edit}
use Rattle.bodies.specs.Limits.{inside_kind}
use Rattle.lists.specs.Below.{filter_map}
use Rattle.lists.proofs.Laws.{and_left, map_filter_map}
use Rattle.queues.specs.declared.Slot.{Slot}
use Rattle.queues.specs.Queue.{no_slot}
use Rattle.station_spec.specs.declared.Station.{Station}
use Rattle.station_spec.specs.declared.Taking.{Taking}
use Rattle.group_spec.specs.declared.Report.{Report}
use Rattle.group_spec.specs.Calls.{no_report, round_call}
use Rattle.group_spec.specs.History.{report_in, edits_of}
use Rattle.group_spec.proofs.Members.{Members}
use Rattle.listing_lines.specs.Lines.{delivered, airing, ending}
use Rattle.listing_lines.specs.Reports.{joined, line_if, taking_text, taken_text, edit_text, aired_text, turn_text, report_text, absent, round_text}
use Rattle.air_logs_spec.specs.Form.{is_letter}
use Rattle.air_logs_spec.specs.Logs.{Edit}
use Rattle.air_logs_spec.proofs.ReadBack.{InColumns, in_columns}
use Rattle.air_logs_spec.proofs.Prints.{Prints, prints_none, prints_as, prints_both, prints_line, edit_of, flat, flat_none, prints-joined}
use Rattle.air_logs_spec.proofs.Carried.{Sound, round_report}

abbrev pub logged : Taking → Edit
logged t = edit_of t.source t.body

-- a line that is not kept
pub prints_other :
    (p : ℕ) (wanted : Bool) (round letter station source : ℕ) (body : Body) → eqb letter airing ≡ false →
    (wanted ≡ true → InColumns round letter station source body) → Prints p (line_if wanted round letter station source body) []
prints_other p true round letter station source body e c = rw e at (prints_line p round letter station source body (c refl))
prints_other p false round letter station source body e c = prints_none

-- an A line of station s
prints-airing :
    (p : ℕ) (wanted : Bool) (round s source : ℕ) (body : Body) (t : Bool) → eqb s p ≡ t → (wanted ≡ true → InColumns round airing s source body) →
    Prints p (line_if wanted round airing s source body) (cond t (cond wanted (edit_of source body ∷ []) []) [])
prints-airing p true round s source body t e c = rw e at (prints_line p round airing s source body (c refl))
prints-airing p false round s source body true e c = prints_none
prints-airing p false round s source body false e c = prints_none

flat_chosen : (n : ℕ) (t : Bool) (g : ℕ → List Edit) → flat n (λ k. cond t (g k) []) ≡ cond t (flat n g) []
flat_chosen n true g = refl
flat_chosen n false g = flat_none n

flat-filter_map : (n : ℕ) (test : ℕ → Bool) (f : ℕ → Edit) → flat n (λ k. cond (test k) (f k ∷ []) []) ≡ filter_map n test f
unfolding flat filter_map
flat-filter_map zero test f = refl
flat-filter_map (suc n) test f = rw (flat-filter_map n test f)

-- the edits of a row, where it is aired
flat_row : (n : ℕ) (aired : Bool) (row : List Slot) →
    flat n (λ k. cond (aired && is_edit (get_or row k no_slot).body) (edit_of k (get_or row k no_slot).body ∷ []) [])
    ≡ map logged (cond aired (edits_of n row) [])
unfolding edits_of
flat_row n true row =
    flat-filter_map n (λ k. is_edit (get_or row k no_slot).body) (λ k. edit_of k (get_or row k no_slot).body)
    ∙ sym (map_filter_map logged n (λ k. is_edit (get_or row k no_slot).body) (λ k. record { source = k; body = (get_or row k no_slot).body }))
flat_row n false row = flat_none n

-- what station p airs in a report
abbrev pub aired_in : ℕ → Report → List Taking
aired_in n r = cond r.turn.aired (edits_of n r.turn.row) []

module _ (p n round s : ℕ) (high : n ≤ 16) (l : s < n) (u : round < 1_000_000) where
  fits : (letter source : ℕ) (body : Body) → is_letter letter ≡ true → source < n → inside_kind body ≡ true → InColumns round letter s source body
  fits letter source body e m h = in_columns round letter s source body u e (omega arith) (omega arith) h

  module _ (r : Report) (c : Sound n r) where
    taken_prints : Prints p (taken_text round s r) []
    unfolding taken_text
    taken_prints =
        prints_as (flat_none 30)
        (prints-joined p 30 (taking_text round s r.takings_len r.takings) (λ k. [])
        (λ k m. prints_other p (ltb k r.takings_len) round delivered s _ _ refl
        (λ e. let t = c.taken k (ltb-true k r.takings_len e) in fits delivered _ _ refl t.0 t.1)))

    aired_prints : Prints p (aired_text n round s r.turn) (cond (eqb s p) (map logged (aired_in n r)) [])
    unfolding aired_text
    aired_prints =
        let aired = r.turn.aired in
        let row = r.turn.row in
        prints_as (flat_chosen n (eqb s p) (λ k. cond (aired && is_edit (get_or row k no_slot).body) (edit_of k (get_or row k no_slot).body ∷ []) [])
        ∙ ap (λ (e : List Edit). cond (eqb s p) e []) (flat_row n aired row))
        (prints-joined p n (edit_text round s aired row)
        (λ k. cond (eqb s p) (cond (aired && is_edit (get_or row k no_slot).body) (edit_of k (get_or row k no_slot).body ∷ []) []) [])
        (λ k m. prints-airing p (aired && is_edit (get_or row k no_slot).body) round s k (get_or row k no_slot).body (eqb s p) refl
        (λ e. fits airing k (get_or row k no_slot).body refl m (c.aired (and_left aired (is_edit (get_or row k no_slot).body) e) k m))))

    turn_prints : Prints p (turn_text round s r.turn) []
    unfolding turn_text
    turn_prints =
        prints_both
        (prints_other p r.turn.ended round ending s s r.turn.ended_body refl (λ e. fits ending s _ refl l c.ended))
        (prints_other p (not (is_empty r.turn.started_body)) round delivered s s r.turn.started_body refl (λ e. fits delivered s _ refl l c.started))

    report_prints : Prints p (report_text n round s r) (cond (eqb s p) (map logged (aired_in n r)) [])
    unfolding report_text
    report_prints =
        prints_as (append-nil (cond (eqb s p) (map logged (aired_in n r)) []))
        (prints_both (prints_both taken_prints aired_prints) turn_prints)

same_below : (n p : ℕ) → (n ≡ p → ⊥) → ltb p (suc n) ≡ ltb p n
same_below n p d =
    elim (dec_le n p) [
      | yes l ↦ le-ltb p (suc n) (omega arith) ∙ sym (le-ltb p n l)
      | no l ↦ lt-ltb p (suc n) (omega arith) ∙ sym (lt-ltb p n (omega arith))
    ]

-- of all stations only p's edits are kept
flat_one : (n p : ℕ) (f : ℕ → List Edit) → flat n (λ s. cond (eqb s p) (f s) []) ≡ cond (ltb p n) (f p) []
unfolding flat
flat_one zero p f = rw (le-ltb p 0 (omega arith))
flat_one (suc n) p f =
    elim (ℕ_discrete n p) [
      | yes e ↦ rw (flat_one n p f, eq-eqb n p e, le-ltb p n (omega arith), lt-ltb p (suc n) (omega arith)) (ap f e)
      | no d ↦ rw (flat_one n p f, ne_eqb n p d, append-nil, same_below n p d)
    ]

module _ (p n round : ℕ) (u : round < 1_000_000) (g : List Station) (c : Members n g) (masks : List ℕ) where
  pub round_prints : Prints p (round_text n round (round_call g masks).reports) (cond (ltb p n) (map logged (aired_in n (report_in (round_call g masks) p))) [])
  unfolding round_text
  round_prints =
      subst (λ (e : List Edit). Prints p (joined n (λ s. report_text n round s (get_or (round_call g masks).reports s absent))) e)
      (flat_one n p (λ s. map logged (aired_in n (report_in (round_call g masks) s))))
      (prints-joined p n (λ s. report_text n round s (get_or (round_call g masks).reports s absent))
      (λ s. cond (eqb s p) (map logged (aired_in n (report_in (round_call g masks) s))) [])
      (λ s l.
      let x = round_report n g c masks s l in
      rw (x.1 absent, x.1 no_report) (report_prints p n round s c.high l u x.0 x.2)))
