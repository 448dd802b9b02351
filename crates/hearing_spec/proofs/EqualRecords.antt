-- Two records of one station with one count, each with the bytes that are written of it, agree
-- exactly if their bytes are the same. Bytes that are written say nothing of the labels from N up,
-- so what stands there in a table plays no part.
use Prim.Native.Nat.{ℕ}
use mathlib.Core.Bool.{Bool, true, false, false≢true}
use mathlib.Core.List.{List, ◌∷◌, ◌++◌}
use mathlib.Core.Path.{◌≡◌, refl, sym, ap, ◌∙◌}
use native.Mathlib.Omega.{arith}
use lib.Dec.{eqb}
use lib.ListN.{get_or, length}
use lib.Seq.{ext_get_or}
use borrow.Author.Tests.{eqb-true, eq-eqb}
use Rattle.bodies.specs.Body.{kind_of, event_of, argument_of, channel_of}
use Rattle.lists.proofs.Laws.{all_below_at, all_below_make}
use Rattle.labels.specs.Packing.{labels_over}
use Rattle.labels.proofs.PackingLaws.{over_ext}
use Rattle.frame_spec.specs.declared.Record.{Record}
use Rattle.frame_spec.specs.Words.{word_bytes, unsigned}
use Rattle.frame_spec.specs.Record.{record_label, record_from, record_bytes}
use Rattle.station_spec.specs.Hearing.{agree}
use Rattle.station_spec.proofs.Agree.{agree_make, agree_body, agree_labels}
use Rattle.hearing_spec.specs.Heeding.{same_bytes}

module _ (p q : List ℕ) where
  pub same_make : p ≡ q → same_bytes p q ≡ true
  unfolding same_bytes
  same_make e =
      all_below_make 16 (λ i. eqb (get_or p i 0) (get_or q i 0)) (λ i l. eq-eqb (get_or p i 0) (get_or q i 0) (ap (λ (b : List ℕ). get_or b i 0) e))

  pub same_open : length p ≡ 16 → length q ≡ 16 → same_bytes p q ≡ true → p ≡ q
  unfolding same_bytes
  same_open long_p long_q e =
      ext_get_or 0 p q (long_p ∙ sym long_q)
      (λ i l. eqb-true (get_or p i 0) (get_or q i 0) (all_below_at 16 (λ i. eqb (get_or p i 0) (get_or q i 0)) e i (omega (arith, long_p, l))))

-- records that agree are written alike
agree_written :
    (n : ℕ) (a b : Record) → a.station ≡ b.station → a.count ≡ b.count → agree n a b ≡ true → record_bytes n a ≡ record_bytes n b
unfolding record_bytes
agree_written n a b station count e =
    let body = agree_body n a b e in
    let labels : labels_over n (record_label a) 0 ≡ labels_over n (record_label b) 0 =
    over_ext n (record_label a) (record_label b) 0 (λ j l. agree_labels n a b e j l) in
    λ i.
    station i ∷ count i ∷ kind_of (body i) ∷ channel_of (body i)
    ∷ word_bytes (event_of (body i)) ++ word_bytes (unsigned (argument_of (body i))) ++ word_bytes (labels i)

pub same_agree :
    (n : ℕ) (p q : List ℕ) → length p ≡ 16 → length q ≡ 16 → record_bytes n (record_from p) ≡ p → record_bytes n (record_from q) ≡ q →
    (record_from p).station ≡ (record_from q).station → (record_from p).count ≡ (record_from q).count →
    agree n (record_from p) (record_from q) ≡ same_bytes p q
same_agree n p q long_p long_q written_p written_q station count =
    go (agree n (record_from p) (record_from q)) (same_bytes p q) refl refl
  where
    a : Record
    a = record_from p

    b : Record
    b = record_from q

    go : (t u : Bool) → agree n a b ≡ t → same_bytes p q ≡ u → t ≡ u
    go true u e f = sym (same_make p q (sym written_p ∙ agree_written n a b station count e ∙ written_q)) ∙ f
    go false true e f =
        let equal = same_open p q long_p long_q f in
        absurd
        (false≢true
        (sym e
        ∙ agree_make n a b (ap (λ (l : List ℕ). (record_from l).body) equal) (λ j l. ap (λ (x : List ℕ). record_label (record_from x) j) equal)))
    go false false e f = refl
