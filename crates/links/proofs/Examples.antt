-- Worked examples: that the definitions say what they are meant to on small links, and that none of
-- them is empty. A single station; the full mesh of five; two links in two rounds and in one; a
-- broadcast that never ends; the rounds of document 01's listing.
use mathlib.Core.Bool.{true, false, false≢true}
use mathlib.Core.List.{List, [], ◌∷◌}
use mathlib.Core.Logic.{⊎_elim}
use mathlib.Core.Path.{◌≡◌, refl, sym, ◌∙◌, ap}
use Prim.Native.Nat.{ℕ, zero, suc, ◌+◌, ◌<◌, ◌≤◌}
use native.Mathlib.Nat.{le_refl}
use native.Mathlib.Omega.{arith}
use lib.Dec.{lit<}
use lib.ListN.{get_or}
use Rattle.lists.specs.Below.{all_below}
use Rattle.links.specs.Log.{bit, hears_in, masks_in, cut}
use Rattle.links.specs.Relay.{Links, Relay, direct, onward, of_log}
use Rattle.links.specs.EndRule.{RelayBy, Returned, EndsIn, Starts, at_first, after}
use Rattle.links.specs.Inner.Clock.{latest, news}
use Rattle.links.specs.Inner.Number.{answers, full, start, ends, num, num_of, got}
use Rattle.links.specs.Inner.Examples.{all_five, mesh, two_rounds, one_round, one_way, listing, listing_sixteen}
use Rattle.links.proofs.Clock.{relay-news, news_mono}
use Rattle.links.proofs.EndRule.{alone, num-starts, ends_rule, ends_once, never_ends}
use Rattle.links.proofs.Log.{hears_in-bit, hears_in_silent, relay_in_log}
use Rattle.links.proofs.Number.{step, num_zero}
use Rattle.links.proofs.Relay.{relay_after, relay_heard}

-- A single station starts a broadcast in every round, whatever its masks are.
single_starts : (log : List (List ℕ)) (k : ℕ) → Starts (of_log 1 log) 0 (suc k) k
single_starts log zero = at_first
single_starts log (suc k) = after (single_starts log k) (alone (of_log 1 log) 0 k refl (lit< tt))

pub single : (log : List (List ℕ)) (u : ℕ) → num (of_log 1 log) u 0 ≡ suc u
single log u = (num-starts (of_log 1 log) 0 (suc u) u (single_starts log u)).0

-- The full mesh of five.
five_masks : (p : ℕ) → p < 5 → get_or all_five p 0 ≡ 31
five_masks zero l = refl
five_masks (suc zero) l = refl
five_masks (suc (suc zero)) l = refl
five_masks (suc (suc (suc zero))) l = refl
five_masks (suc (suc (suc (suc zero)))) l = refl
five_masks (suc (suc (suc (suc (suc p))))) l = absurd (omega arith)

five_bits : (j : ℕ) → j < 5 → bit 31 j ≡ true
unfolding bit
five_bits zero l = refl
five_bits (suc zero) l = refl
five_bits (suc (suc zero)) l = refl
five_bits (suc (suc (suc zero))) l = refl
five_bits (suc (suc (suc (suc zero)))) l = refl
five_bits (suc (suc (suc (suc (suc j))))) l = absurd (omega arith)

mesh_hears : (u p j : ℕ) → p < 5 → j < 5 → (p ≡ j → ⊥) → mesh.hears u p j ≡ true
mesh_hears u p j lp lj d = hears_in-bit 5 all_five p j lp lj d ∙ ap (λ (m : ℕ). bit m j) (five_masks p lp) ∙ five_bits j lj

mesh_relay : (a b t : ℕ) → a < 5 → b < 5 → (a ≡ b → ⊥) → RelayBy mesh a t b (suc t)
mesh_relay a b t la lb d =
    record { arrival = suc t; by = le_refl (suc t); relay = direct (le_refl (suc t)) (mesh_hears (suc t) b a lb la (λ e. d (sym e))) }

-- Any return takes two rounds.
return_two : (L : Links) (s t r u : ℕ) → Returned L s t r u → t + 2 ≤ u
return_two L s t r u k =
    omega (arith, relay_after k.out.relay, k.out.by, relay_after k.back.relay, k.back.by)

other : (s : ℕ) → (r : ℕ) × (r < 5) × (r ≡ s → ⊥)
other zero = (1, lit< tt, λ e. omega arith)
other (suc s) = (0, lit< tt, λ e. omega arith)

-- Each broadcast ends two rounds after its start.
pub mesh_ends : (s t : ℕ) → s < 5 → EndsIn mesh s t (suc (suc t))
mesh_ends s t l =
    record {
      later = omega arith;
      returned =
          record {
            each =
                λ r lr d.
                record { turning = suc t; out = mesh_relay s r t l lr (λ e. d (sym e)); back = mesh_relay r s (suc t) lr l d };
          };
      first =
          λ v h a.
          let o = other s in
          omega (arith, return_two mesh s t o.0 v (a.each o.0 o.1 o.2));
    }

pub mesh-starts : (s k : ℕ) → s < 5 → Starts mesh s (suc k) (k + k)
mesh-starts s zero l = at_first
mesh-starts s (suc k) l =
    let e : suc k + suc k ≡ suc (suc (k + k)) = omega arith in
    rw e (after (mesh-starts s k l) (mesh_ends s (k + k) l))

-- So its number rises in every second round, and in no other.
pub mesh_even : (s k : ℕ) → s < 5 → num mesh (k + k) s ≡ suc k
mesh_even s k l = (num-starts mesh s (suc k) (k + k) (mesh-starts s k l)).0

pub mesh_odd : (s k : ℕ) → s < 5 → num mesh (suc (k + k)) s ≡ suc k
mesh_odd s k l =
    ⊎_elim
    (λ c.
    let e : start mesh (k + k) s ≡ k + k = (num-starts mesh s (suc k) (k + k) (mesh-starts s k l)).1 in
    let f : EndsIn mesh s (k + k) (suc (k + k)) = rw e at ((ends_rule mesh (k + k) s).0 c.0) in
    absurd (omega (arith, ends_once mesh s (k + k) (suc (k + k)) (suc (suc (k + k))) f (mesh_ends s (k + k) l))))
    (λ c. c.2 ∙ mesh_even s k l)
    (step mesh (k + k) s)

-- Two links in two rounds make a relay; both in one round make none.
pub in_two_rounds : Relay two_rounds 0 0 2 2
unfolding hears_in bit masks_in
in_two_rounds = onward (direct {b = 1} {k = 1} (lit< tt) refl) (lit< tt) refl

one_round_news : news one_round 1 2 0 ≡ 0
unfolding news latest hears_in bit masks_in
one_round_news = refl

pub not_in_one_round : (t k : ℕ) → Relay one_round 0 t 2 k → ⊥
not_in_one_round t k r =
    let l : k ≤ 1 = relay_in_log 3 ((0 ∷ 1 ∷ 2 ∷ []) ∷ []) r in
    omega (arith, relay-news one_round r, news_mono one_round k 1 2 0 l, one_round_news)

-- With no way back a broadcast never ends, though the other station has it.
one_way_back : (t k : ℕ) → Relay one_way 1 t 0 k → ⊥
one_way_back t k r =
    let h = relay_heard r in
    false≢true (sym (hears_in_silent 2 (0 ∷ 1 ∷ []) 0 h.0 refl) ∙ h.1)

pub one_way_never : (t u : ℕ) → EndsIn one_way 0 t u → ⊥
one_way_never t u e = let k = e.returned.each 1 (lit< tt) (λ q. omega arith) in one_way_back k.turning k.back.arrival k.back.relay

pub one_way_first : (u : ℕ) → num one_way u 0 ≡ 1
one_way_first u = never_ends one_way 0 0 (λ v. one_way_never (start one_way 0 0) v) u (omega arith) ∙ num_zero one_way 0

pub one_way_arrives : got one_way 1 1 0 ≡ 1
unfolding got num_of num news latest hears_in bit
one_way_arrives = refl

-- The rounds of the listing: both stations end in round 2, and in no other of the three.
pub listing-ends : (ends listing 1 0 ≡ false) × (ends listing 2 0 ≡ true) × (ends listing 3 0 ≡ false) × (ends listing 2 1 ≡ true) × (num listing 3 1 ≡ 2)
unfolding ends num full all_below answers start news latest hears_in bit masks_in
listing-ends = (refl, refl, refl, refl, refl)

-- Masks and bits from N up are ignored, as is a station's own bit.
pub listing_round : (hears_in 2 listing_sixteen 0 1 ≡ true) × (hears_in 2 (3 ∷ 7 ∷ []) 0 0 ≡ false) × (hears_in 2 (3 ∷ 7 ∷ []) 1 2 ≡ false) × (hears_in 2 listing_sixteen 3 0 ≡ false)
unfolding hears_in bit
listing_round = (refl, refl, refl, refl)

pub listing_cut : cut 2 3 (2 ∷ 1 ∷ 2 ∷ 1 ∷ 2 ∷ 1 ∷ []) ≡ (2 ∷ 1 ∷ []) ∷ (2 ∷ 1 ∷ []) ∷ (2 ∷ 1 ∷ []) ∷ []
unfolding cut
listing_cut = refl
