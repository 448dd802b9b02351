-- Two records agree exactly if their bodies are the same and their labels of the n stations are. So
-- a record agrees with itself as a frame carries it, and whatever stands in the labels from n up of
-- a held record plays no part.
use Prim.Native.Nat.{ℕ, ◌<◌}
use mathlib.Core.Bool.{Bool, true, ◌&&◌}
use mathlib.Core.Path.{◌≡◌, ap, ap₂, ◌∙◌}
use lib.Dec.{eqb}
use borrow.Author.Tests.{eqb-true, eq-eqb}
use Rattle.bodies.specs.declared.Body.{Body}
use Rattle.bodies.specs.Body.{same_body}
use Rattle.bodies.proofs.BodyLaws.{same_body_lem, body_same}
use Rattle.lists.specs.Below.{all_below}
use Rattle.lists.proofs.Laws.{and_both, and_left, and_right, all_below_at, all_below_make, all_below_ext}
use Rattle.frame_spec.specs.declared.Record.{Record}
use Rattle.frame_spec.specs.Record.{record_label}
use Rattle.station_spec.specs.Hearing.{agree, replaced}
use Rattle.station_spec.proofs.Cells.{replaced_label, replaced_body}

module _ (n : ℕ) (a b : Record) where
  abbrev labels_same : Bool
  labels_same = all_below n (λ j. eqb (record_label a j) (record_label b j))

  pub agree_make : a.body ≡ b.body → ((j : ℕ) → j < n → record_label a j ≡ record_label b j) → agree n a b ≡ true
  unfolding agree
  agree_make body labels =
      and_both (ap (λ (x : Body). same_body x b.body) body ∙ body_same b.body)
      (all_below_make n (λ j. eqb (record_label a j) (record_label b j)) (λ j l. eq-eqb (record_label a j) (record_label b j) (labels j l)))

  pub agree_body : agree n a b ≡ true → a.body ≡ b.body
  unfolding agree
  agree_body e = same_body_lem a.body b.body (and_left (same_body a.body b.body) labels_same e)

  pub agree_labels : agree n a b ≡ true → (j : ℕ) → j < n → record_label a j ≡ record_label b j
  unfolding agree
  agree_labels e j l =
      eqb-true (record_label a j) (record_label b j)
      (all_below_at n (λ j. eqb (record_label a j) (record_label b j)) (and_right (same_body a.body b.body) labels_same e) j l)

-- a record that replaced another agrees with what it agreed with before
pub agree-replaced : (n : ℕ) (old q r : Record) → agree n (replaced n old q) r ≡ agree n q r
unfolding agree
agree-replaced n old q r =
    ap₂ ◌&&◌ (ap (λ (b : Body). same_body b r.body) (replaced_body n old q))
    (all_below_ext n (λ j. eqb (record_label (replaced n old q) j) (record_label r j)) (λ j. eqb (record_label q j) (record_label r j))
    (λ j l. ap (λ (m : ℕ). eqb m (record_label r j)) (replaced_label n old q j l)))
