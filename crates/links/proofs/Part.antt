-- More hearings never make an end later. A relay of a part is one of the whole, and a relay after a
-- round is one after each earlier round. So let the part end a broadcast that the whole has started
-- no later: by that round the whole has all answers too, and has ended it by then. The rest is
-- induction on k.
use mathlib.Core.Bool.{true}
use mathlib.Core.Logic.{◌↔◌}
use mathlib.Core.Path.{◌≡◌, ◌∙◌}
use Prim.Native.Nat.{ℕ, suc, ◌≤◌}
use native.Mathlib.Nat.{le_refl}
use native.Mathlib.Omega.{arith}
use Rattle.links.specs.Relay.{Links}
use Rattle.links.specs.EndRule.{RelayBy, Returned, AllReturned, Starts, at_first, after}
use Rattle.links.specs.Inner.Number.{start, ends, num}
use Rattle.links.specs.Forecast.{end_count, last_end}
use Rattle.links.specs.Part.{Part, EndComes, EndComesBy}
use Rattle.links.proofs.Relay.{relay_after, relay_earlier, relay_keeps}
use Rattle.links.proofs.Number.{num_mono, start_limit, same_start}
use Rattle.links.proofs.EndRule.{ends_by, starts-num, num-starts, ends-ended}
use Rattle.links.proofs.Forecast.{num-end_count, start-last_end}

module _ (L M : Links) (last : ℕ) (part : Part L M last) where
  pub relay_by_part : (a t t' b v : ℕ) → t' ≤ t → v ≤ last → RelayBy L a t b v → RelayBy M a t' b v
  relay_by_part a t t' b v e l k =
      record {
        arrival = k.arrival;
        by = k.by;
        relay = relay_earlier t' e (relay_keeps (λ u p j h. part.hearings u p j (omega (arith, k.by))) k.relay);
      }

  pub returned_part : (s t t' r u : ℕ) → t' ≤ t → u ≤ last → Returned L s t r u → Returned M s t' r u
  returned_part s t t' r u e l k =
      record {
        turning = k.turning;
        out = relay_by_part s t t' r k.turning e (omega (arith, relay_after k.back.relay, k.back.by)) k.out;
        back = relay_by_part r k.turning k.turning s u (le_refl k.turning) l k.back;
      }

  pub all_returned_part : (s t t' u : ℕ) → t' ≤ t → u ≤ last → AllReturned L s t u → AllReturned M s t' u
  all_returned_part s t t' u e l a =
      record { each = λ r lr d. returned_part s t t' r u e l (a.each r (omega (arith, part.sizes)) d) }

  -- A broadcast that the part starts, the whole starts no later.
  pub starts_part : (s k t : ℕ) → t ≤ last → Starts L s k t → (t' : ℕ) × Starts M s k t' × (t' ≤ t)
  starts_part s k t l at_first = (0, at_first, le_refl 0)
  starts_part s k t l (after {k = j} {t = b} before e) =
      let r = starts_part s j b (omega (arith, e.later)) before in
      let f = ends_by M s r.0 t (omega (arith, r.2, e.later)) (all_returned_part s b r.0 t r.2 l e.returned) in
      (f.0, after r.1 f.1, f.2)

  -- The k-th end comes no later under the whole, for every k that comes under the part.
  pub ends_part : (s k u : ℕ) → u ≤ last → EndComes L s k u → EndComesBy M s k u
  ends_part s k u l c =
      let r = starts_part s k c.started (omega (arith, c.ends_in.later)) c.starts in
      let f =
      ends_by M s r.0 u (omega (arith, r.2, c.ends_in.later))
      (all_returned_part s c.started r.0 u r.2 l c.ends_in.returned) in
      record { round = f.0; by = f.2; comes = record { started = r.0; starts = r.1; ends_in = f.1 } }

  -- In every round the whole has come as far.
  pub num_part : (u s : ℕ) → u ≤ last → num L u s ≤ num M u s
  num_part u s l =
      let b = start_limit L u s in
      let r = starts_part s (num L u s) (start L u s) (omega arith) (starts-num L u s) in
      omega (arith, r.2, (num-starts M s (num L u s) r.0 r.1).0, num_mono M r.0 u s (omega (arith, r.2)))

  -- Counted, of as many rounds or more: as many ends or more, and where there are as many, the last
  -- no later.
  pub count_part : (rounds more s : ℕ) → rounds ≤ last → rounds ≤ more
      → (end_count L rounds s ≤ end_count M more s)
      × (end_count L rounds s ≡ end_count M more s → last_end M more s ≤ last_end L rounds s)
  count_part rounds more s l h =
      let b = start_limit L rounds s in
      let r = starts_part s (num L rounds s) (start L rounds s) (omega arith) (starts-num L rounds s) in
      let k = num-starts M s (num L rounds s) r.0 r.1 in
      let cl = num-end_count L rounds s in
      let cm = num-end_count M more s in (
        omega (arith, num_part rounds s l, num_mono M rounds more s h),
        λ e.
            let q : num L rounds s ≡ num M more s = omega arith in
            omega (arith, r.2, k.1, same_start M r.0 more s (k.0 ∙ q), start-last_end L rounds s, start-last_end M more s),
      )

-- The k-th end by the numbers of the clocks.
module _ (L : Links) where
  pub comes_numbers : (s k u : ℕ) → EndComes L s k u ↔ ((ends L u s ≡ true) × (num L u s ≡ suc k))
  comes_numbers s k u = (there, back)
    where
      there : EndComes L s k u → (ends L u s ≡ true) × (num L u s ≡ suc k)
      there c = (
        (ends-ended L u s).1 (record { number = k; started = c.started; starts = c.starts; ends_in = c.ends_in }),
        (num-starts L s (suc k) u (after c.starts c.ends_in)).0,
      )

      back : (ends L u s ≡ true) × (num L u s ≡ suc k) → EndComes L s k u
      back h =
          let e = (ends-ended L u s).0 h.0 in
          let q : e.number ≡ k = omega (arith, (num-starts L s (suc e.number) u (after e.starts e.ends_in)).0, h.1) in
          record { started = e.started; starts = rw q at e.starts; ends_in = e.ends_in }
