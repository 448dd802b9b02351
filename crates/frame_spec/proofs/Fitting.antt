-- The records of a table that a frame may carry, test by test, and what follows: every other
-- station accepts the frame of such a table.
use Rattle.std.specs.Prelude.{Ok}
use mathlib.Core.Path.{◌≡◌}
use mathlib.Core.Bool.{Bool, true, false, not, ◌||◌}
use mathlib.Core.List.{List}
use Prim.Native.Nat.{ℕ, ◌<◌}
use lib.Dec.{eqb}
use lib.ListN.{get_or}
use borrow.Author.Tests.{eqb-true, ltb-true}
use Rattle.bodies.specs.Limits.{is_edition, body_inside}
use Rattle.lists.specs.Below.{all_below}
use Rattle.lists.proofs.Laws.{and_left, and_right, all_below_at, all_below_fails}
use Rattle.frame_spec.specs.declared.Record.{Record}
use Rattle.frame_spec.specs.Record.{no_record, record_fits, place_fits}
use Rattle.frame_spec.specs.Frame.{valid_number, frame_refusal, frame_bytes}
use Rattle.frame_spec.specs.Calls.{table_records, table_fits}
use Rattle.frame_spec.proofs.Check.{valid_few, valid_own}
use Rattle.frame_spec.proofs.TableTrip.{table_accepted}

-- the table
module _ (edition n sender : ℕ) (held : List Bool) (table : List Record) where
  abbrev pub fits_at : ℕ → Bool
  fits_at k = not (get_or held k false) || place_fits (body_inside edition) n k (get_or table k no_record)

  pub one_fails : (k : ℕ) → k < n → fits_at k ≡ false → false ≡ table_fits (body_inside edition) n sender held table
  unfolding table_fits
  one_fails k l h = rw (all_below_fails n fits_at k l h)

  -- what a table that fits says
  module _ (f : table_fits (body_inside edition) n sender held table ≡ true) where
    own_held : get_or held sender false ≡ true
    unfolding table_fits
    own_held = and_right (all_below n fits_at) (get_or held sender false) f

    held_fits : (k : ℕ) → k < n → get_or held k false ≡ true → place_fits (body_inside edition) n k (get_or table k no_record) ≡ true
    unfolding table_fits
    held_fits k l h =
        let t : fits_at k ≡ true = all_below_at n fits_at (and_left (all_below n fits_at) (get_or held sender false) f) k l in
        rw h at t

    place : (k : ℕ) → k < n → get_or held k false ≡ true → (get_or table k no_record).station ≡ k
    unfolding place_fits
    place k l h =
        let r = get_or table k no_record in
        eqb-true r.station k (and_left (eqb r.station k) (record_fits (body_inside edition) n r) (held_fits k l h))

    fits : (k : ℕ) → k < n → get_or held k false ≡ true → record_fits (body_inside edition) n (get_or table k no_record) ≡ true
    unfolding place_fits
    fits k l h =
        let r = get_or table k no_record in
        and_right (eqb r.station k) (record_fits (body_inside edition) n r) (held_fits k l h)

    module _ (v : valid_number n sender ≡ true) (w : is_edition edition ≡ true) where
      -- every other station accepts the frame
      pub fitting_accepted :
          (own : ℕ) → (sender ≡ own → ⊥) → frame_refusal edition (frame_bytes edition n sender (table_records n held table)) n own ≡ Ok tt
      fitting_accepted own other = table_accepted edition n sender held table (valid_few n sender v) place fits own_held (valid_own n sender v)
          (ltb-true edition 2 w) own other
