-- The check of a frame's records one after the other: after k of them all k are inside their
-- limits, `found` says whether the sender's was among them, and the next one's station is at least
-- `least`.
use mathlib.Core.Path.{◌≡◌, refl, ap₂}
use mathlib.Core.Bool.{Bool, true, false, ◌&&◌, ◌||◌}
use mathlib.Core.List.{List}
use Prim.Native.Nat.{ℕ, zero, suc, pred, ◌+◌, ◌<◌, ◌≤◌}
use native.Mathlib.Numerals.{add-one}
use native.Mathlib.Omega.{arith}
use lib.Dec.{ltb, eqb}
use lib.ListN.{get_or}
use borrow.Author.Tests.{lt-ltb, le-ltb, ne_eqb}
use Rattle.lists.specs.Below.{all_below, any_below}
use Rattle.lists.proofs.Laws.{and_both, all_below_fails}
use Rattle.frame_spec.specs.Record.{bytes_inside}
use Rattle.frame_spec.specs.Frame.{part, record_station, records_inside}

module _ (edition : ℕ) (bytes : List ℕ) (n : ℕ) where
  -- record k is inside its limits, and its station above the one before it
  abbrev in_order : ℕ → Bool
  in_order k = eqb k 0 || ltb (record_station bytes (pred k)) (record_station bytes k)

  abbrev fine : ℕ → Bool
  fine k = bytes_inside edition n (part bytes k) && in_order k

  abbrev sender's : ℕ → Bool
  sender's k = eqb (record_station bytes k) (get_or bytes 1 0)

  -- the least station that record k may be of
  abbrev least_at : ℕ → ℕ
  least_at zero = 0
  least_at (suc k) = record_station bytes k + 1

  in_order_lem : (k : ℕ) → least_at k ≤ record_station bytes k → in_order k ≡ true
  in_order_lem zero h = refl
  in_order_lem (suc k) h =
      rw (ne_eqb (suc k) 0 (λ e. omega arith)) (lt-ltb (record_station bytes k) (record_station bytes (suc k)) (omega arith))

  out_of_order : (k : ℕ) → record_station bytes k < least_at k → in_order k ≡ false
  out_of_order zero h = absurd (omega arith)
  out_of_order (suc k) h =
      rw (ne_eqb (suc k) 0 (λ e. omega arith)) (le-ltb (record_station bytes k) (record_station bytes (suc k)) (omega arith))

  pub record Checked (k : ℕ) (found : Bool) (least : ℕ) : Type 0 where
    pub all : all_below k fine ≡ true
    pub hit : found ≡ any_below k sender's
    pub next : least ≡ least_at k

  pub checked_none : Checked 0 false 0
  unfolding all_below any_below
  checked_none = record { all = refl; hit = refl; next = refl }

  module _ (k : ℕ) (found : Bool) (least : ℕ) (c : Checked k found least) (inside : bytes_inside edition n (part bytes k) ≡ true) where
    pub checked_more :
        (station sender : ℕ) → station ≡ record_station bytes k → sender ≡ get_or bytes 1 0 → least ≤ station →
        Checked (k + 1) (found || eqb station sender) (station + 1)
    unfolding all_below any_below
    checked_more station sender p q h =
        rw (add-one k, p, q)
        (record {
          all = and_both c.all (and_both inside (in_order_lem k (rw (p, c.next) at h)));
          hit = rw c.hit;
          next = refl;
        })

    pub checked_order : k < get_or bytes 2 0 → record_station bytes k < least → false ≡ records_inside edition bytes n
    unfolding records_inside
    checked_order l h =
        let e : fine k ≡ false = ap₂ ◌&&◌ inside (out_of_order k (rw c.next at h)) in
        rw (all_below_fails (get_or bytes 2 0) fine k l e)

  pub checked_bytes : (k : ℕ) → k < get_or bytes 2 0 → bytes_inside edition n (part bytes k) ≡ false → false ≡ records_inside edition bytes n
  unfolding records_inside
  checked_bytes k l h =
      let e : fine k ≡ false = rw h in
      rw (all_below_fails (get_or bytes 2 0) fine k l e)

  pub checked_all : (k : ℕ) (found : Bool) (least : ℕ) → Checked k found least → k ≡ get_or bytes 2 0 → found ≡ records_inside edition bytes n
  unfolding records_inside
  checked_all k found least c e = rw (← e, c.all) c.hit

-- what the loop over the records cites
pub ruleset checked = (checked_none, checked_more, checked_order, checked_bytes, checked_all)
