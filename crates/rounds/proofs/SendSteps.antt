-- The answers of sending one station's frame, each with the tests on its way decided; and what the
-- round answers of all stations below a place.
use Prim.Native.Nat.{ℕ, ◌+◌, ◌*◌, ◌≤◌, ◌<◌}
use native.Mathlib.Numerals.{add-one}
use native.Mathlib.Omega.{arith}
use mathlib.Core.Bool.{Bool, true, false, cond, not, ◌&&◌}
use mathlib.Core.List.{List, ◌++◌}
use mathlib.Core.Path.{◌≡◌, refl, sym, ap, ◌∙◌}
use lib.Dec.{eqb, ltb}
use lib.ListN.{take, drop, length, length-append, length-drop, take-append-drop}
use borrow.Author.Tests.{ne_eqb, eqb-true, eqb-false, ltb-false}
use Rattle.bodies.specs.Refusals.{refuse_number}
use Rattle.frame_spec.specs.Record.{count_inside}
use Rattle.frame_spec.specs.Frame.{frame_bytes}
use Rattle.frame_spec.specs.Calls.{table_records, buffer_with}
use Rattle.lists.specs.Below.{all_below}
use Rattle.lists.proofs.Laws.{and_left, and_right}
use Rattle.station_spec.specs.declared.Station.{Station}
use Rattle.station_spec.specs.Limits.{station_inside}
use Rattle.station_spec.specs.State.{record_of}
use Rattle.station_spec.specs.Calls.{own_count_inside, frame_of}
use Rattle.station_spec.proofs.StationLimits.{Inside, inside_open}
use Rattle.station_spec.proofs.WriteSteps.{frame_is}
use Rattle.group_spec.specs.State.{station_at, size_of, edition_of, member_inside}
use Rattle.rounds.specs.Frames.{send_refusal, part_after, bytes_after, worse, judged_below}

-- s is a station of a group of n in an edition, with number k, inside its limits
abbrev pub member : ℕ → ℕ → ℕ → Station → Bool
member edition n k s = station_inside s && (eqb s.n n && eqb s.edition edition && eqb s.own k)

-- one station
module _ (edition n k : ℕ) (s : Station) where
  module _ (m : member edition n k s ≡ true) where
    inside : Inside s
    inside = inside_open s (and_left (station_inside s) _ m)

    numbers : (eqb s.n n && eqb s.edition edition && eqb s.own k) ≡ true
    numbers = and_right (station_inside s) _ m

    front : (eqb s.n n && eqb s.edition edition) ≡ true
    front = and_left (eqb s.n n && eqb s.edition edition) (eqb s.own k) numbers

    size : s.n ≡ n
    size = eqb-true s.n n (and_left (eqb s.n n) (eqb s.edition edition) front)

    agreed : s.edition ≡ edition
    agreed = eqb-true s.edition edition (and_right (eqb s.n n) (eqb s.edition edition) front)

    own : s.own ≡ k
    own = eqb-true s.own k (and_right (eqb s.n n && eqb s.edition edition) (eqb s.own k) numbers)

    pub low : 1 ≤ n
    low = omega (arith, inside.low, size)

    pub high : n ≤ 16
    high = omega (arith, inside.high, size)

    pub below : k < 16
    below = omega (arith, inside.own, inside.high, own)

    pub may_write : (n ≤ 16) × (k < 256) × (edition < 256)
    may_write = (high, omega (arith, below), omega (arith, inside.known, agreed))

    count_is : own_count_inside s ≡ count_inside n (record_of s k).count
    count_is i = count_inside (size i) (record_of s (own i)).count

    frame : frame_bytes edition n k (table_records n s.held s.table) ≡ frame_of s
    frame = sym (λ i. frame_bytes (agreed i) (size i) (own i) (table_records (size i) s.held s.table)) ∙ frame_is s

  pub part_frame : (part : List ℕ) → send_refusal edition n k s ≡ 0 → part_after edition n k s part ≡ buffer_with (frame_of s) part
  unfolding part_after
  part_frame part e = rw e

  part_kept : (part : List ℕ) → (send_refusal edition n k s ≡ 0 → ⊥) → part_after edition n k s part ≡ part
  unfolding part_after
  part_kept part d = rw (ne_eqb (send_refusal edition n k s) 0 d)

  module _ (b : List ℕ) where
    abbrev rest : List ℕ
    rest = drop (260 * k) b

    pub record Sent (r : ℕ) (after : List ℕ) : Type 0 where
      pub refusal : r ≡ send_refusal edition n k s
      pub bytes : after ≡ bytes_after edition n k s b

    refused : (r : ℕ) → (r ≡ 0 → ⊥) → r ≡ send_refusal edition n k s → Sent r b
    refused r d e =
        record {
          refusal = e;
          bytes =
              sym
              (ap (λ (x : List ℕ). take (260 * k) b ++ (x ++ drop 260 rest)) (part_kept (take 260 rest) (λ z. d (e ∙ z)))
              ∙ ap (λ (x : List ℕ). take (260 * k) b ++ x) (take-append-drop 260 rest)
              ∙ take-append-drop (260 * k) b);
        }

    pub send_outside : member edition n k s ≡ false → Sent 2 b
    unfolding send_refusal
    send_outside m = refused 2 (λ e. absurd (omega arith)) (rw m)

    pub send_count : member edition n k s ≡ true → count_inside n (record_of s k).count ≡ false → Sent 10 b
    unfolding send_refusal
    send_count m e = refused 10 (λ z. absurd (omega arith)) (rw (m, count_is m ∙ e))

    -- the part as it was written
    module _ (m : member edition n k s ≡ true) (fits : count_inside n (record_of s k).count ≡ true) (w : ℕ) (size : w ≡ 260) (made : List ℕ)
        (is : made ≡ buffer_with (frame_bytes edition n k (table_records n s.held s.table)) (take w rest)) where
      done : 0 ≡ send_refusal edition n k s
      unfolding send_refusal
      done = rw (m, count_is m ∙ fits)

      pub send_frame : Sent 0 (take (260 * k) b ++ (made ++ drop w rest))
      send_frame =
          record {
            refusal = done;
            bytes =
                (λ i. take (260 * k) b ++ (is i ++ drop (size i) rest))
                ∙ (λ i. take (260 * k) b ++ (buffer_with (frame m i) (take (size i) rest) ++ drop 260 rest))
                ∙ ap (λ (x : List ℕ). take (260 * k) b ++ (x ++ drop 260 rest)) (sym (part_frame (take 260 rest) (sym done)));
          }

-- the part keeps its length
length_with : (f b : List ℕ) → length (buffer_with f b) ≡ length b
unfolding buffer_with
length_with f b = go (ltb (length b) (length f)) refl
  where
    go : (t : Bool) → ltb (length b) (length f) ≡ t → length (cond t b (f ++ drop (length f) b)) ≡ length b
    go true e = refl
    go false e =
        omega (arith, length-append f (drop (length f) b), length-drop (length f) b, ltb-false (length b) (length f) e)

pub length_after : (edition n k : ℕ) (s : Station) (b : List ℕ) → length (part_after edition n k s b) ≡ length b
unfolding part_after
length_after edition n k s b = go (eqb (send_refusal edition n k s) 0)
  where
    go : (t : Bool) → length (cond t (buffer_with (frame_of s) b) b) ≡ length b
    go true = length_with (frame_of s) b
    go false = refl

-- all stations below a place
worse_more :
    (A B a b : Bool) →
    worse (refuse_number (not A) 2 (refuse_number (not B) 10 0)) (refuse_number (not a) 2 (refuse_number (not b) 10 0))
    ≡ refuse_number (not (A && a)) 2 (refuse_number (not (B && b)) 10 0)
unfolding worse
worse_more true true true true = refl
worse_more true true true false = refl
worse_more true true false b = refl
worse_more true false true true = refl
worse_more true false true false = refl
worse_more true false false b = refl
worse_more false B a b = refl

both_hold : (A B : Bool) → refuse_number (not A) 2 (refuse_number (not B) 10 0) ≡ 0 → (A ≡ true) × (B ≡ true)
both_hold true true h = (refl, refl)
both_hold true false h = let z : ◌≡◌ {A = ℕ} 10 0 = h in absurd (omega (arith, z))
both_hold false B h = let z : ◌≡◌ {A = ℕ} 2 0 = h in absurd (omega (arith, z))

pub worse_done : (a b : ℕ) → worse a b ≡ 0 → (a ≡ 0) × (b ≡ 0)
unfolding worse
worse_done a b h = go (eqb a 2) refl (eqb b 0) refl h
  where
    go : (x : Bool) → eqb a 2 ≡ x → (y : Bool) → eqb b 0 ≡ y → cond x a (cond y a b) ≡ 0 → (a ≡ 0) × (b ≡ 0)
    go true p y q h = absurd (omega (arith, eqb-true a 2 p, h))
    go false p true q h = (h, eqb-true b 0 q)
    go false p false q h = absurd (eqb-false b 0 q h)

module _ (g : List Station) where
  pub judged_none : 0 ≡ judged_below g 0
  unfolding judged_below all_below
  judged_none = refl

  pub judged_more : (k : ℕ) → worse (judged_below g k) (send_refusal (edition_of g) (size_of g) k (station_at g k)) ≡ judged_below g (k + 1)
  unfolding judged_below send_refusal all_below
  judged_more k =
      rw (add-one k)
      (worse_more (all_below k (member_inside g)) (all_below k (λ j. own_count_inside (station_at g j))) (member_inside g k) (own_count_inside (station_at g k)))

  pub judged_right :
      (m : ℕ) → judged_below g m ≡ 0 → (all_below m (member_inside g) ≡ true) × (all_below m (λ k. own_count_inside (station_at g k)) ≡ true)
  unfolding judged_below
  judged_right m h = both_hold (all_below m (member_inside g)) (all_below m (λ k. own_count_inside (station_at g k))) h

  pub judged_is :
      (m : ℕ) (a : Bool) → all_below m (member_inside g) ≡ a → (b : Bool) → all_below m (λ k. own_count_inside (station_at g k)) ≡ b →
      judged_below g m ≡ refuse_number (not a) 2 (refuse_number (not b) 10 0)
  unfolding judged_below
  judged_is m a p b q = rw (p, q)
