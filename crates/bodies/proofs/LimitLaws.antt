-- Laws of the limits, for the crates above. Numbers inside their limits are those of their body, by
-- the cases of the table, since where a row's least is its most the number can be no other, and a
-- kind without a channel has channel 0. Every limit is a number of 32 bits, and so is all that lies
-- between two of them. No law names a limit: a row can change, and the laws stand.
use Prim.Native.Nat.{ℕ, zero, suc, ◌<◌, ◌≤◌}
use native.Mathlib.Omega.{arith}
use mathlib.Core.Bool.{Bool, true, false, cond, ◌&&◌, false≢true}
use mathlib.Core.Path.{◌≡◌, refl, sym, ap, ◌∙◌}
use lib.Dec.{ltb, leb, eqb}
use lib.IntN.{ℤ, pos, negsuc, nat_abs}
use lib.ListN.{length}
use lib.Signed.{le_z, mag}
use mir.Syntax.{w32}
use mir.Val.{SFits}
use borrow.Author.Tests.{leb-true, ltb-true, eqb-true}
use Rattle.bodies.proofs.BodyLaws.{edit_not_empty}
use Rattle.lists.proofs.Laws.{both, and_both}
use Rattle.bodies.specs.declared.Body.{Body}
use Rattle.bodies.specs.Body.{kind_of, event_of, argument_of, channel_of, body_of, is_empty, is_edit}
use Rattle.bodies.specs.Limits.{kinds, limits_of, between, numbers_inside, channel_inside, on_channel, inside_kind, body_inside, postable, may_wait}

-- what the test on a kind, an event and an argument says
record Inside (k e : ℕ) (a : ℤ) : Type 0 where
  known : k < length kinds
  least : (limits_of k).least_event ≤ e
  most : e ≤ (limits_of k).most_event
  argument : (le_z (limits_of k).least_argument a && le_z a (limits_of k).most_argument) ≡ true

inside : (k e : ℕ) (a : ℤ) → numbers_inside k e a ≡ true → Inside k e a
unfolding numbers_inside
inside k e a h =
    let l = limits_of k in
    let whole = both (ltb k (length kinds)) (between l e a) h in
    let parts =
    both
    (leb l.least_event e && leb e l.most_event)
    (le_z l.least_argument a && le_z a l.most_argument)
    whole.1 in
    let events = both (leb l.least_event e) (leb e l.most_event) parts.0 in
    record {
      known = ltb-true _ _ whole.0;
      least = leb-true _ _ events.0;
      most = leb-true _ _ events.1;
      argument = parts.1;
    }

-- between 0 and 0 there is only 0
only : (a : ℤ) → (le_z (pos 0) a && le_z a (pos 0)) ≡ true → pos 0 ≡ a
only (pos n) h = ap pos (omega (arith, leb-true n 0 (both (leb 0 n) (leb n 0) h).1))
only (negsuc n) h = cc

-- the numbers of the body of k, e, a and channel c are k, e and a
record Back (k e : ℕ) (a : ℤ) (c : ℕ) : Type 0 where
  kind_is : kind_of (body_of k e a c) ≡ k
  event_is : event_of (body_of k e a c) ≡ e
  argument_is : argument_of (body_of k e a c) ≡ a

back : (k e : ℕ) (a : ℤ) (c : ℕ) → Inside k e a → Back k e a c
unfolding body_of
back zero e a c r = record { kind_is = refl; event_is = omega arith; argument_is = only a r.argument }
back (suc zero) e a c r = record { kind_is = refl; event_is = omega arith; argument_is = only a r.argument }
back (suc (suc zero)) e a c r = record { kind_is = refl; event_is = refl; argument_is = refl }
back (suc (suc (suc zero))) e a c r = record { kind_is = refl; event_is = refl; argument_is = only a r.argument }
back (suc (suc (suc (suc zero)))) e a c r = record { kind_is = refl; event_is = refl; argument_is = refl }
back (suc (suc (suc (suc (suc k))))) e a c r = absurd (omega (arith, r.known))

-- below kind 2 only channel 0 is inside, in either edition
no_channel : (t : Bool) (c : ℕ) → cond (t && false) (leb 1 c && leb c 200) (eqb c 0) ≡ true → 0 ≡ c
no_channel true c h = sym (eqb-true c 0 h)
no_channel false c h = sym (eqb-true c 0 h)

channel_is : (edition k e : ℕ) (a : ℤ) (c : ℕ) → k < length kinds → channel_inside edition k c ≡ true → channel_of (body_of k e a c) ≡ c
unfolding body_of channel_inside
channel_is edition zero e a c l h = no_channel (eqb edition 1) c h
channel_is edition (suc zero) e a c l h = no_channel (eqb edition 1) c h
channel_is edition (suc (suc zero)) e a c l h = refl
channel_is edition (suc (suc (suc zero))) e a c l h = refl
channel_is edition (suc (suc (suc (suc zero)))) e a c l h = refl
channel_is edition (suc (suc (suc (suc (suc k))))) e a c l h = absurd (omega (arith, l))

-- numbers inside their limits are those of their body, which is then inside its limits
module _ (k e : ℕ) (a : ℤ) (c : ℕ) (h : numbers_inside k e a ≡ true) where
  pub kind_back : kind_of (body_of k e a c) ≡ k
  kind_back = (back k e a c (inside k e a h)).kind_is

  pub event_back : event_of (body_of k e a c) ≡ e
  event_back = (back k e a c (inside k e a h)).event_is

  pub argument_back : argument_of (body_of k e a c) ≡ a
  argument_back = (back k e a c (inside k e a h)).argument_is

  module _ (edition : ℕ) (on : channel_inside edition k c ≡ true) where
    pub channel_back : channel_of (body_of k e a c) ≡ c
    channel_back = channel_is edition k e a c (inside k e a h).known on

    pub inside_back : body_inside edition (body_of k e a c) ≡ true
    unfolding body_inside inside_kind
    inside_back =
        and_both
        ((λ i. numbers_inside (kind_back i) (event_back i) (argument_back i)) ∙ h)
        ((λ i. channel_inside edition (kind_back i) (channel_back i)) ∙ on)

-- a body inside its limits is inside those of its kind and on a channel of its edition, and the
-- other way round
module _ (edition : ℕ) (b : Body) where
  pub inside_kind_lem : body_inside edition b ≡ true → inside_kind b ≡ true
  unfolding body_inside
  inside_kind_lem h = (both (inside_kind b) (on_channel edition b) h).0

  pub inside_channel : body_inside edition b ≡ true → on_channel edition b ≡ true
  unfolding body_inside
  inside_channel h = (both (inside_kind b) (on_channel edition b) h).1

  pub inside_make : inside_kind b ≡ true → on_channel edition b ≡ true → body_inside edition b ≡ true
  unfolding body_inside
  inside_make h on = and_both h on

-- the limits of every row fit 32 bits, and so do the numbers between them
record Small (k : ℕ) : Type 0 where
  event : (limits_of k).most_event < 4_294_967_296
  least : mag (limits_of k).least_argument < 2_147_483_648
  most : mag (limits_of k).most_argument < 2_147_483_648

small : (k : ℕ) → Small k
small zero = record { event = omega arith; least = omega arith; most = omega arith }
small (suc zero) = record { event = omega arith; least = omega arith; most = omega arith }
small (suc (suc zero)) = record { event = omega arith; least = omega arith; most = omega arith }
small (suc (suc (suc zero))) = record { event = omega arith; least = omega arith; most = omega arith }
small (suc (suc (suc (suc zero)))) = record { event = omega arith; least = omega arith; most = omega arith }
small (suc (suc (suc (suc (suc k))))) = record { event = omega arith; least = omega arith; most = omega arith }

pub limits_fit : (k : ℕ) → SFits w32 (limits_of k).least_argument × SFits w32 (limits_of k).most_argument
limits_fit k = (record { sfits = (small k).least }, record { sfits = (small k).most })

between_fits : (low a high : ℤ) → mag low < 2_147_483_648 → mag high < 2_147_483_648 → (le_z low a && le_z a high) ≡ true → SFits w32 a
between_fits low (pos m) (pos h) p q e = record { sfits = omega (arith, leb-true m h (both (le_z low (pos m)) (leb m h) e).1) }
between_fits low (pos m) (negsuc h) p q e = absurd (false≢true (both (le_z low (pos m)) false e).1)
between_fits (pos l) (negsuc m) high p q e = absurd (false≢true (both false (le_z (negsuc m) high) e).0)
between_fits (negsuc l) (negsuc m) high p q e = record { sfits = omega (arith, leb-true m l (both (leb m l) (le_z (negsuc m) high) e).0) }

module _ (b : Body) (h : inside_kind b ≡ true) where
  facts : Inside (kind_of b) (event_of b) (argument_of b)
  unfolding inside_kind
  facts = inside (kind_of b) (event_of b) (argument_of b) h

  pub body_event_fits : event_of b < 4_294_967_296
  body_event_fits = omega (arith, facts.most, (small (kind_of b)).event)

  pub body_argument_fits : SFits w32 (argument_of b)
  body_argument_fits =
      let s = small (kind_of b) in
      between_fits (limits_of (kind_of b)).least_argument (argument_of b) (limits_of (kind_of b)).most_argument s.least s.most facts.argument

-- the limits of every row have few digits: an event at most nine, an argument at most eight and its
-- sign
record Short (k : ℕ) : Type 0 where
  event : (limits_of k).most_event < 1_000_000_000
  least : nat_abs (limits_of k).least_argument < 100_000_000
  most : nat_abs (limits_of k).most_argument < 100_000_000

short : (k : ℕ) → Short k
short zero = record { event = omega arith; least = omega arith; most = omega arith }
short (suc zero) = record { event = omega arith; least = omega arith; most = omega arith }
short (suc (suc zero)) = record { event = omega arith; least = omega arith; most = omega arith }
short (suc (suc (suc zero))) = record { event = omega arith; least = omega arith; most = omega arith }
short (suc (suc (suc (suc zero)))) = record { event = omega arith; least = omega arith; most = omega arith }
short (suc (suc (suc (suc (suc k))))) = record { event = omega arith; least = omega arith; most = omega arith }

between_short : (low a high : ℤ) → nat_abs low < 100_000_000 → nat_abs high < 100_000_000 → (le_z low a && le_z a high) ≡ true → nat_abs a < 100_000_000
between_short low (pos m) (pos h) p q e = omega (arith, leb-true m h (both (le_z low (pos m)) (leb m h) e).1)
between_short low (pos m) (negsuc h) p q e = absurd (false≢true (both (le_z low (pos m)) false e).1)
between_short (pos l) (negsuc m) high p q e = absurd (false≢true (both false (le_z (negsuc m) high) e).0)
between_short (negsuc l) (negsuc m) high p q e = omega (arith, leb-true m l (both (leb m l) (le_z (negsuc m) high) e).0)

module _ (b : Body) (h : inside_kind b ≡ true) where
  pub body_kind_short : kind_of b < 10
  body_kind_short = omega (arith, (facts b h).known)

  pub body_event_short : event_of b < 1_000_000_000
  body_event_short = omega (arith, (facts b h).most, (short (kind_of b)).event)

  pub body_argument_short : nat_abs (argument_of b) < 100_000_000
  body_argument_short =
      let s = short (kind_of b) in
      between_short (limits_of (kind_of b)).least_argument (argument_of b) (limits_of (kind_of b)).most_argument s.least s.most
      (facts b h).argument

-- what may be posted is an edit, and inside the limits of its kind
pub postable_edit : (b : Body) → postable b ≡ true → is_edit b ≡ true
unfolding postable
postable_edit b h = (both (is_edit b) (inside_kind b) h).0

pub postable_kind : (b : Body) → postable b ≡ true → inside_kind b ≡ true
unfolding postable
postable_kind b h = (both (is_edit b) (inside_kind b) h).1

-- so it is not Empty
pub postable_not_empty : (b : Body) → postable b ≡ true → is_empty b ≡ false
postable_not_empty b h = edit_not_empty b (postable_edit b h)

-- inside the limits the kind alone decides what may be posted
pub inside_postable : (b : Body) → inside_kind b ≡ true → postable b ≡ is_edit b
unfolding postable
inside_postable b h = rw h (and_true (is_edit b))
  where
    and_true : (t : Bool) → (t && true) ≡ t
    and_true true = refl
    and_true false = refl

-- what may be posted, on a channel of an edition, may wait there
pub waiting_make : (edition : ℕ) (b : Body) → postable b ≡ true → on_channel edition b ≡ true → may_wait (body_inside edition) b ≡ true
unfolding may_wait
waiting_make edition b h on = and_both (postable_edit b h) (inside_make edition b (postable_kind b h) on)

-- what may wait is an edit inside its limits, whatever test says so
module _ (test : Body → Bool) (b : Body) (h : may_wait test b ≡ true) where
  pub waiting_edit : is_edit b ≡ true
  unfolding may_wait
  waiting_edit = (both (is_edit b) (test b) h).0

  pub waiting_inside : test b ≡ true
  unfolding may_wait
  waiting_inside = (both (is_edit b) (test b) h).1

  pub waiting_not_empty : is_empty b ≡ false
  waiting_not_empty = edit_not_empty b waiting_edit

-- an argument outside its kind's limits puts the numbers outside, whatever the event
last_no : (a b c : Bool) → c ≡ false → (a && (b && c)) ≡ false
last_no true true c h = h
last_no true false c h = refl
last_no false b c h = refl

pub argument_outside :
    (k e : ℕ) (a : ℤ) → (le_z (limits_of k).least_argument a && le_z a (limits_of k).most_argument) ≡ false →
    numbers_inside k e a ≡ false
unfolding numbers_inside
argument_outside k e a h =
    let l = limits_of k in
    last_no (ltb k (length kinds)) (leb l.least_event e && leb e l.most_event) _ h
