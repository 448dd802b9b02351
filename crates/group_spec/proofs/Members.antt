-- The limits of a group as facts about its stations, and the other way round; the fresh group is
-- inside them. The group's arrays have their lengths by type, and every call keeps them.
use Prim.Native.Nat.{ℕ, ◌≤◌, ◌<◌}
use mathlib.Core.Bool.{true, ◌&&◌}
use mathlib.Core.List.{List}
use mathlib.Core.Path.{◌≡◌, refl, sym, ap, ◌∙◌}
use native.Mathlib.Omega.{arith}
use lib.Dec.{eqb}
use lib.ListN.{replicate, get_or-replicate}
use borrow.Author.Tests.{eqb-true, eq-eqb}
use Rattle.lists.specs.Below.{all_below}
use Rattle.lists.proofs.Laws.{and_both, and_left, and_right, all_below_at, all_below_make, length-set_below, set_below_inside}
use Rattle.lists.proofs.Keeps.{set_below_keeps}
use Rattle.queues.specs.Waiting.{limit_inside}
use Rattle.station_spec.specs.declared.Setup.{Setup}
use Rattle.station_spec.specs.declared.Station.{Station}
use Rattle.station_spec.specs.State.{alone_setup, fresh_station}
use Rattle.station_spec.specs.Limits.{station_inside}
use Rattle.station_spec.proofs.Setters.{Shaped, fresh_self, fresh_shaped}
use Rattle.station_spec.proofs.StationLimits.{Inside, inside_open, inside_make}
use Rattle.station_spec.proofs.LimitsFresh.{fresh_holds}
use Rattle.group_spec.specs.State.{no_station, station_at, size_of, edition_of, member_inside, group_inside, fresh_group}
use Rattle.group_spec.specs.Inner.Shape.{GroupShaped}
use Rattle.group_spec.proofs.Setups.{Accepts}

-- station k is a member of the group of n
pub record Member (n : ℕ) (g : List Station) (k : ℕ) : Type 0 where
  pub inside : Inside (station_at g k)
  pub size : (station_at g k).n ≡ n
  pub edition : (station_at g k).edition ≡ edition_of g
  pub own : (station_at g k).own ≡ k

-- a group of n, inside its limits
pub record Members (n : ℕ) (g : List Station) : Type 0 where
  pub low : 1 ≤ n
  pub high : n ≤ 16
  pub size : size_of g ≡ n
  pub shape : GroupShaped g
  pub member : (k : ℕ) → k < n → Member n g k

pub member_open : (g : List Station) (k : ℕ) → member_inside g k ≡ true → Member (size_of g) g k
member_open g k h =
    let inside = station_inside (station_at g k) in
    let size = eqb (station_at g k).n (size_of g) in
    let edition = eqb (station_at g k).edition (edition_of g) in
    let own = eqb (station_at g k).own k in
    let rest : (size && edition && own) ≡ true = and_right inside (size && edition && own) h in
    let front : (size && edition) ≡ true = and_left (size && edition) own rest in
    record {
      inside = inside_open (station_at g k) (and_left inside (size && edition && own) h);
      size = eqb-true (station_at g k).n (size_of g) (and_left size edition front);
      edition = eqb-true (station_at g k).edition (edition_of g) (and_right size edition front);
      own = eqb-true (station_at g k).own k (and_right (size && edition) own rest);
    }

module _ (g : List Station) (h : group_inside g ≡ true) where
  first_member : Member (size_of g) g 0
  unfolding group_inside
  first_member = member_open g 0 (and_left (member_inside g 0) (all_below (size_of g) (member_inside g)) h)

  pub group_low : 1 ≤ size_of g
  group_low = first_member.inside.low

  pub group_high : size_of g ≤ 16
  group_high = first_member.inside.high

  pub member_at : (k : ℕ) → k < size_of g → Member (size_of g) g k
  unfolding group_inside
  member_at k l =
      member_open g k
      (all_below_at (size_of g) (member_inside g) (and_right (member_inside g 0) (all_below (size_of g) (member_inside g)) h) k l)

pub members_open : (g : List Station) → GroupShaped g → group_inside g ≡ true → Members (size_of g) g
members_open g shape h =
    record { low = group_low g h; high = group_high g h; size = refl; shape = shape; member = member_at g h }

pub members_inside : (n : ℕ) (g : List Station) → Members n g → group_inside g ≡ true
unfolding group_inside
members_inside n g c =
    and_both (each 0 c.low) (all_below_make (size_of g) (member_inside g) (λ k l. each k (omega (arith, c.size))))
  where
    each : (k : ℕ) → k < n → member_inside g k ≡ true
    each k l =
        let m = c.member k l in
        and_both (inside_make (station_at g k) m.inside)
        (and_both
        (and_both
        (eq-eqb (station_at g k).n (size_of g) (m.size ∙ sym c.size))
        (eq-eqb (station_at g k).edition (edition_of g) m.edition))
        (eq-eqb (station_at g k).own k m.own))

module _ (setup : Setup) (high : setup.n ≤ 16) where
  abbrev n : ℕ
  n = setup.n

  pub fresh_at : (k : ℕ) → k < n → station_at (fresh_group setup) k ≡ fresh_station setup k
  unfolding fresh_group
  fresh_at k l = set_below_inside n (fresh_station setup) (replicate 16 (fresh_station alone_setup 0)) k no_station l (omega arith)

  pub fresh_shape : GroupShaped (fresh_group setup)
  unfolding fresh_group
  fresh_shape =
      record {
        places = length-set_below n (fresh_station setup) (replicate 16 (fresh_station alone_setup 0));
        stations =
            λ k l. set_below_keeps Shaped n (fresh_station setup) (replicate 16 (fresh_station alone_setup 0)) no_station k l
            (rw (get_or-replicate 16 k (fresh_station alone_setup 0) no_station l) (fresh_shaped alone_setup 0)) (λ j m. fresh_shaped setup j);
      }

  pub fresh_edition : (k : ℕ) → k < n → (station_at (fresh_group setup) k).edition ≡ setup.edition
  fresh_edition k l = rw (fresh_at k l) (fresh_self setup k).edition

  pub fresh_members : 1 ≤ n → limit_inside setup.limit ≡ true → setup.edition < 2 → Members n (fresh_group setup)
  fresh_members low limited known =
      record {
        low = low;
        high = high;
        size = ap (λ (s : Station). s.n) (fresh_at 0 low) ∙ (fresh_self setup 0).n;
        shape = fresh_shape;
        member =
            λ k l. record {
              inside = rw (fresh_at k l) (fresh_holds setup k high l limited known);
              size = rw (fresh_at k l) (fresh_self setup k).n;
              edition = fresh_edition k l ∙ sym (fresh_edition 0 low);
              own = rw (fresh_at k l) (fresh_self setup k).own;
            };
      }

pub fresh_inside : (setup : Setup) → Accepts setup → group_inside (fresh_group setup) ≡ true
fresh_inside setup ok = members_inside setup.n (fresh_group setup) (fresh_members setup ok.high ok.low ok.limited ok.known)
