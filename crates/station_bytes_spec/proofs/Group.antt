-- A group there and back: a station of sixteen at each of sixteen places.
use mathlib.Core.Path.{◌≡◌, sym, ap, ◌∙◌}
use mathlib.Core.Bool.{true}
use mathlib.Core.List.{List}
use Prim.Native.Nat.{ℕ, ◌+◌, ◌*◌, ◌<◌}
use native.Mathlib.Nat.{zero-add}
use native.Mathlib.Omega.{arith}
use lib.Dec.{eqb}
use lib.ListN.{length}
use lib.Seq.{take_all}
use borrow.Author.Tests.{eqb-true, eq-eqb}
use Rattle.lists.specs.Below.{all_below, tabulate}
use Rattle.lists.proofs.Laws.{and_both, both, all_below_at, all_below_make, tabulate_at}
use Rattle.station_spec.specs.declared.Station.{Station}
use Rattle.station_spec.specs.Absent.{no_station}
use Rattle.group_spec.specs.State.{station_at}
use Rattle.station_bytes_spec.specs.Bytes.{span}
use Rattle.station_bytes_spec.specs.Station.{station_width, encode_station, decode_station, is_station_at}
use Rattle.station_bytes_spec.specs.Group.{group_width, encode_group, decode_group, is_group}
use Rattle.station_bytes_spec.proofs.Bytes.{Stands, AllBytes, stands_whole, joined_long, joined_ext, stands_joined, spans_joined, tabulate_is}
use Rattle.station_bytes_spec.proofs.Station.{StationFits, length_station, decoded_at, accepted_at, encoded_at}

module _ (g : List Station) where
  station_long : (k : ℕ) → k < 16 → length (encode_station (station_at g k)) ≡ station_width
  station_long k m = length_station (station_at g k)

  stands_station : (k : ℕ) → k < 16 → Stands (encode_group g) (station_width * k) (encode_station (station_at g k))
  unfolding encode_group
  stands_station k m =
      rw (zero-add (station_width * k)) at
      (stands_joined (encode_group g) 0 16 station_width (λ j. encode_station (station_at g j)) station_long (stands_whole (encode_group g)) k m)

  pub group_decoded : length g ≡ 16 → ((k : ℕ) → k < 16 → StationFits (station_at g k)) → decode_group (encode_group g) ≡ g
  unfolding decode_group
  group_decoded sixteen f =
      tabulate_is 16 (λ k. decode_station (encode_group g) (station_width * k)) g no_station sixteen
      (λ k m. decoded_at (station_at g k) (f k m) (encode_group g) (station_width * k) (stands_station k m))

  pub length_group : length (encode_group g) ≡ group_width
  unfolding encode_group
  length_group = joined_long 16 station_width (λ k. encode_station (station_at g k)) station_long

  pub group_accepted : ((k : ℕ) → k < 16 → StationFits (station_at g k)) → is_group (encode_group g) ≡ true
  unfolding is_group
  group_accepted f =
      and_both (eq-eqb _ _ length_group)
      (all_below_make 16 (λ k. is_station_at (encode_group g) (station_width * k))
      (λ k m. accepted_at (station_at g k) (f k m) (encode_group g) (station_width * k) (stands_station k m)))

pub group_encoded : (l : List ℕ) → AllBytes l → is_group l ≡ true → encode_group (decode_group l) ≡ l
unfolding is_group encode_group decode_group
group_encoded l bytes h =
    let tests = both (eqb (length l) group_width) (all_below 16 (λ k. is_station_at l (station_width * k))) h in
    let long : length l ≡ group_width = eqb-true _ _ tests.0 in
    joined_ext 16 (λ k. encode_station (station_at (tabulate 16 (λ j. decode_station l (station_width * j))) k)) (λ k. span (0 + station_width * k) station_width l)
    (λ k m.
    ap encode_station (tabulate_at 16 (λ j. decode_station l (station_width * j)) k no_station m)
    ∙ encoded_at l bytes (station_width * k) (omega arith) (all_below_at 16 (λ j. is_station_at l (station_width * j)) tests.1 k m)
    ∙ ap (λ (at : ℕ). span at station_width l) (sym (zero-add (station_width * k))))
    ∙ spans_joined l 0 16 station_width
    ∙ take_all group_width l (omega arith)
