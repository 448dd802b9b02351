-- The bytes of records: sixteen to a record, one record after the other, and the same whether the
-- labels from n up are 0 or not.
use mathlib.Core.Path.{◌≡◌, refl, sym, ap, ◌∙◌}
use mathlib.Core.List.{List, [], ◌∷◌, ◌++◌, append_assoc}
use Prim.Native.Nat.{ℕ, ◌+◌, ◌*◌}
use native.Mathlib.Omega.{arith}
use lib.ListN.{length, length-append}
use Rattle.bodies.specs.Body.{kind_of, event_of, argument_of, channel_of}
use Rattle.labels.proofs.PackingLaws.{over_ext}
use Rattle.frame_spec.specs.declared.Record.{Record}
use Rattle.frame_spec.specs.Words.{word_bytes, unsigned}
use Rattle.frame_spec.specs.Record.{record_label, record_bytes, framed}
use Rattle.frame_spec.specs.Frame.{records_bytes, frame_bytes}
use Rattle.frame_spec.proofs.Labels.{framed_label}

pub length-record : (n : ℕ) (r : Record) → length (record_bytes n r) ≡ 16
unfolding record_bytes word_bytes
length-record n r = refl

pub length_records : (n : ℕ) (rs : List Record) → length (records_bytes n rs) ≡ 16 * length rs
unfolding records_bytes
length_records n [] = refl
length_records n (r ∷ rs) =
    length-append (record_bytes n r) (records_bytes n rs) ∙ omega (arith, length-record n r, length_records n rs)

pub length_frame : (edition n sender : ℕ) (rs : List Record) → length (frame_bytes edition n sender rs) ≡ 4 + 16 * length rs
unfolding frame_bytes
length_frame edition n sender rs = omega (arith, length_records n rs)

pub records_append : (n : ℕ) (rs ss : List Record) → records_bytes n (rs ++ ss) ≡ records_bytes n rs ++ records_bytes n ss
unfolding records_bytes
records_append n [] ss = refl
records_append n (r ∷ rs) ss =
    ap (λ (l : List ℕ). record_bytes n r ++ l) (records_append n rs ss)
    ∙ sym (append_assoc (record_bytes n r) (records_bytes n rs) (records_bytes n ss))

pub framed_bytes : (n : ℕ) (r : Record) → record_bytes n (framed n r) ≡ record_bytes n r
unfolding record_bytes framed
framed_bytes n r =
    ap
    (λ (w : ℕ).
    r.station
    ∷ r.count
    ∷ kind_of r.body
    ∷ channel_of r.body
    ∷ word_bytes (event_of r.body) ++ word_bytes (unsigned (argument_of r.body)) ++ word_bytes w)
    (over_ext n (record_label (framed n r)) (record_label r) 0 (λ k l. framed_label n r k l))
