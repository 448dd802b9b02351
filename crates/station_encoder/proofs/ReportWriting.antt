-- What the writes of a report come to: one write after another, as for a station.
use mathlib.Core.Path.{◌≡◌, refl, sym, ap, ◌∙◌}
use mathlib.Core.Bool.{Bool, false}
use mathlib.Core.List.{List, [], ◌∷◌, ◌++◌}
use Prim.Native.Nat.{ℕ, ◌+◌}
use native.Mathlib.Nat.{zero-add}
use native.Mathlib.Omega.{arith}
use lib.ListN.{get_or, set, length, length-append}
use lib.Seq.{sets}
use Rattle.lists.specs.Below.{tabulate}
use Rattle.frame_spec.specs.Words.{word_bytes}
use Rattle.queues.specs.Queue.{no_slot}
use Rattle.station_spec.specs.declared.Taking.{Taking}
use Rattle.station_spec.specs.declared.TurnReport.{TurnReport}
use Rattle.station_spec.specs.Hearing.{no_taking}
use Rattle.group_spec.specs.declared.Report.{Report}
use Rattle.station_bytes_spec.specs.Bytes.{flag_byte, as_byte, joined_below}
use Rattle.station_bytes_spec.specs.Body.{encode_body}
use Rattle.station_bytes_spec.specs.Reports.{encode_flags, encode_turn, encode_taking, encode_report}
use Rattle.station_bytes_spec.proofs.Bytes.{length_word}
use Rattle.station_bytes_spec.proofs.Body.{length-body}
use Rattle.station_bytes_spec.proofs.Reports.{length_takings}
use Rattle.station_encoder.proofs.Writing.{written_more, four_written, all_written, entry_next, entries_written}

-- the flags, one after the other
abbrev pub flag_of : List Bool → ℕ → ℕ
flag_of flags k = flag_byte (get_or flags k false)

pub flag_next :
    (l l₁ : List ℕ) (flags : List Bool) (x k : ℕ) → x ≡ flag_of flags k → l₁ ≡ sets l 0 (tabulate k (flag_of flags)) →
    set l₁ k x ≡ sets l 0 (tabulate (k + 1) (flag_of flags))
flag_next l l₁ flags x k e h =
    ap (set l₁ k) e ∙ ap (λ (j : ℕ). set l₁ j (flag_of flags k)) (sym (zero-add k)) ∙ entry_next l 0 (flag_of flags) l₁ k h

pub flags_written : (l l₁ : List ℕ) (flags : List Bool) (k : ℕ) → k ≡ 16 → l₁ ≡ sets l 0 (tabulate k (flag_of flags)) → l₁ ≡ sets l 0 (encode_flags flags)
unfolding encode_flags
flags_written l l₁ flags k e h = entries_written l 0 (flag_of flags) l₁ 16 k e h

abbrev pub row_of : TurnReport → ℕ → List ℕ
row_of t k = encode_body (get_or t.row k no_slot).body

abbrev pub taking_of : Report → ℕ → List ℕ
taking_of r i = encode_taking (get_or r.takings i no_taking)

module _ (l : List ℕ) (at : ℕ) where
  pub turn_written :
      (t : TurnReport) (a e : ℕ) (l₁ l₂ l₃ l₄ : List ℕ) (k : ℕ) → a ≡ flag_byte t.aired → e ≡ flag_byte t.ended → k ≡ 16 → l₁ ≡ sets l at (a ∷ e ∷ 0 ∷ 0 ∷ []) →
      l₂ ≡ sets l₁ (at + 4) (encode_body t.ended_body) → l₃ ≡ sets l₂ (at + 16) (encode_body t.started_body) →
      l₄ ≡ sets l₃ (at + 28) (joined_below k (row_of t)) → l₄ ≡ sets l at (encode_turn t)
  unfolding encode_turn
  turn_written t a e l₁ l₂ l₃ l₄ k aired ended all s₁ s₂ s₃ s₄ =
      four_written l l₁ l₂ l₃ l₄ at (a ∷ e ∷ 0 ∷ 0 ∷ []) (encode_body t.ended_body) (encode_body t.started_body) (joined_below 16 (row_of t)) 4 16 28 12 12 refl
      (length-body t.ended_body) (length-body t.started_body) refl refl s₁ s₂ s₃ (all_written l₃ l₄ (at + 28) 16 k (row_of t) all s₄)
      ∙ (λ i. sets l at ((aired i ∷ ended i ∷ 0 ∷ 0 ∷ []) ++ encode_body t.ended_body ++ encode_body t.started_body ++ joined_below 16 (row_of t)))

  pub taking_written :
      (t : Taking) (w : ℕ) (l₁ l₂ : List ℕ) → w ≡ t.source → l₁ ≡ sets l at (word_bytes w) → l₂ ≡ sets l₁ (at + 4) (encode_body t.body) → l₂ ≡ sets l at (encode_taking t)
  unfolding encode_taking
  taking_written t w l₁ l₂ source s₁ s₂ =
      written_more l l₁ l₂ at (word_bytes w) (encode_body t.body) 4 s₁ (length_word w) s₂
      ∙ ap (λ (x : ℕ). sets l at (word_bytes x ++ encode_body t.body)) source

  pub report_written :
      (r : Report) (c : ℕ) (l₁ l₂ l₃ : List ℕ) (i : ℕ) → c ≡ as_byte r.takings_len → i ≡ 30 → l₁ ≡ sets l at (word_bytes c) →
      l₂ ≡ sets l₁ (at + 4) (joined_below i (taking_of r)) → l₃ ≡ sets l₂ (at + 484) (encode_turn r.turn) → l₃ ≡ sets l at (encode_report r)
  unfolding encode_report
  report_written r c l₁ l₂ l₃ i count all s₁ s₂ s₃ =
      let two = written_more l l₁ l₂ at (word_bytes c) (joined_below 30 (taking_of r)) 4 s₁ (length_word c) (all_written l₁ l₂ (at + 4) 30 i (taking_of r) all s₂) in
      let long : length (word_bytes c ++ joined_below 30 (taking_of r)) ≡ 484 =
      omega (arith, length-append (word_bytes c) (joined_below 30 (taking_of r)), length_word c, length_takings r) in
      written_more l l₂ l₃ at (word_bytes c ++ joined_below 30 (taking_of r)) (encode_turn r.turn) 484 two long s₃
      ∙ ap (λ (x : ℕ). sets l at (word_bytes x ++ joined_below 30 (taking_of r) ++ encode_turn r.turn)) count
