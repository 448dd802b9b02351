-- A frame whose shape and address are right is refused with 7 if the body of any of its records is
-- outside the limits of its kind. For if the records were inside their limits, so would be the
-- numbers of each body. No limit of a kind is named: the table decides.
use Rattle.std.specs.Prelude.{Err}
use Prim.Native.Nat.{ℕ, ◌<◌}
use mathlib.Core.Bool.{Bool, true, false, true≢false}
use mathlib.Core.List.{List}
use mathlib.Core.Path.{◌≡◌, refl, sym, ◌∙◌}
use lib.ListN.{get_or}
use Rattle.bodies.specs.declared.refusals.Refusal.TheVariants.{BadRecord}
use Rattle.bodies.specs.Limits.{is_edition, numbers_inside}
use Rattle.lists.proofs.Laws.{and_left, all_below_at}
use Rattle.frame_spec.specs.Words.{word_at, signed}
use Rattle.frame_spec.specs.Record.{bytes_inside}
use Rattle.frame_spec.specs.Frame.{part, valid_number, shape_wrong, address_wrong, records_inside, check_refusal}
use Rattle.frame_spec.proofs.Check.{refused_records, by_frame}
use Rattle.frame_spec.proofs.RecordTrip.{held_numbers}

-- each record of a frame whose records are inside their limits is inside its own
part_inside :
    (edition : ℕ) (bytes : List ℕ) (n k : ℕ) → records_inside edition bytes n ≡ true → k < get_or bytes 2 0 → bytes_inside edition n (part bytes k) ≡ true
unfolding records_inside
part_inside edition bytes n k h l = and_left _ _ (all_below_at (get_or bytes 2 0) _ (and_left _ _ h) k l)

module _ (edition : ℕ) (bytes : List ℕ) (n own k : ℕ) where
  abbrev record_part : List ℕ
  record_part = part bytes k

  pub body_outside :
      valid_number n own ≡ true → is_edition edition ≡ true → shape_wrong bytes ≡ false → address_wrong edition bytes n own ≡ false → k < get_or bytes 2 0 →
      numbers_inside (get_or record_part 2 0) (word_at record_part 4) (signed (word_at record_part 8)) ≡ false →
      check_refusal edition bytes n own ≡ Err BadRecord
  body_outside v w a b l h = sym (by_frame edition bytes n own v w) ∙ sym (refused_records edition bytes n own a b outside)
    where
      outside : records_inside edition bytes n ≡ false
      outside = go (records_inside edition bytes n) refl
        where
          go : (t : Bool) → records_inside edition bytes n ≡ t → records_inside edition bytes n ≡ false
          go true e = absurd (true≢false (sym (held_numbers edition n record_part (part_inside edition bytes n k e l)) ∙ h))
          go false e = e
