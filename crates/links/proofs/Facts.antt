-- What this crate claims, each fact as one statement with the name of its proof; why each holds is
-- said where it is proved. Everything is for every number of stations and all links together. F1 to
-- F4 are about clocks, G0 to G3 about broadcast numbers, G4 and G5 about the end rule, P about
-- logs.
use mathlib.Core.Bool.{true}
use mathlib.Core.List.{List, ◌++◌}
use mathlib.Core.Logic.{◌↔◌}
use mathlib.Core.Path.{◌≡◌}
use Prim.Native.Nat.{ℕ, suc, ◌+◌, ◌*◌, ◌-◌, ◌<◌, ◌≤◌}
use lib.ListN.{length}
use Rattle.links.specs.Relay.{Links, Relay, of_log}
use Rattle.links.specs.EndRule.{RelayBy, EndsIn, Starts}
use Rattle.links.specs.Inner.Ended.{Ended}
use Rattle.links.specs.Inner.Clock.{news}
use Rattle.links.specs.Inner.Number.{start, ends, num, got, got_of, counted}
use Rattle.links.proofs.Clock.{news_own, news_other, news_mono, news_carries, news_relay, relay_by-news}
use Rattle.links.proofs.Number.{num_mono, num-start, num_before}
use Rattle.links.proofs.Got.{got-start, got_limit, num_limit}
use Rattle.links.proofs.Bounds.{behind, within, counted_limit}
use Rattle.links.proofs.EndRule.{ends_rule, ends-ended, ends_once, starts-num, num-starts, never_ends, alone, ends_within}
use Rattle.links.proofs.Version.{got_relay}
use Rattle.links.proofs.Prefix.{same-append, news_same, num_same, start_same, got_same, ends_same, ended_same}
use Rattle.links.proofs.Log.{relay_in_log}

-- F1: a station's own clock shows the present round; of another it shows at most the round before.
pub f1_own : (L : Links) (u p : ℕ) → news L u p p ≡ suc u
f1_own = news_own

pub f1_other : (L : Links) (u p q : ℕ) → (p ≡ q → ⊥) → news L u p q ≤ u
f1_other = news_other

-- F2: clocks do not fall.
pub f2 : (L : Links) (u w p q : ℕ) → u ≤ w → news L u p q ≤ news L w p q
f2 = news_mono

-- F3: whoever has news of s has all that s had then.
pub f3 : (L : Links) (u p s q w : ℕ) → news L u p s ≡ suc w → news L w s q ≤ news L u p q
f3 = news_carries

-- F4: news of s from after round t is there exactly if a relay from s after t has arrived.
pub f4 : (L : Links) (v s t r : ℕ) → (r ≡ s → ⊥) → (t < news L v r s) ↔ RelayBy L s t r v
f4 L v s t r d = (news_relay L v s t r d, relay_by-news L v s t r)

-- G0: numbers do not fall; the present number is that of its start and of no round before; it is
-- had exactly where there is news from its start on.
pub g0_mono : (L : Links) (u w s : ℕ) → u ≤ w → num L u s ≤ num L w s
g0_mono = num_mono

pub g0_start : (L : Links) (u s : ℕ) → num L (start L u s) s ≡ num L u s
g0_start = num-start

pub g0_before : (L : Links) (u w s : ℕ) → w < start L u s → num L w s < num L u s
g0_before = num_before

pub g0_got : (L : Links) (u w r s : ℕ) → w ≤ u → (num L u s ≤ got L w r s) ↔ (start L u s < news L w r s)
g0_got = got-start

-- G1: everybody has the present broadcast of s or the one before it.
pub g1_limit : (L : Links) (u r s : ℕ) → got L u r s ≤ num L u s
g1_limit = got_limit

pub g1_close : (L : Links) (u r s : ℕ) → r < L.size → num L u s ≤ got L u r s + 1
g1_close = num_limit

-- G2: what any p holds of q shows a broadcast of s at most two before the present one.
pub g2 : (L : Links) (u p q s : ℕ) → p < L.size → q < L.size → num L u s ≤ got_of L q s (news L u p q) + 2
g2 = behind

-- G3: within one broadcast of s at most two new ones of another come to it, and so at most 2 × (N −
-- 1) of all.
pub g3 : (L : Links) (u s r : ℕ) → s < L.size → r < L.size → (r ≡ s → ⊥) → got L u s r ≤ got L (start L u s) s r + 2
g3 = within

pub g3_count : (L : Links) (u p : ℕ) → p < L.size → counted L u p ≤ 2 * (L.size - 1)
g3_count = counted_limit

-- G4: the end rule equals what the clocks decide: the round of an end, the numbers and starts of
-- all broadcasts, and that a broadcast with no such round goes on for good. A single station's ends
-- in the next round.
pub g4 : (L : Links) (u s : ℕ) → (ends L (suc u) s ≡ true) ↔ EndsIn L s (start L u s) (suc u)
g4 = ends_rule

pub g4_ended : (L : Links) (u s : ℕ) → (ends L u s ≡ true) ↔ Ended L s u
g4_ended = ends-ended

pub g4_once : (L : Links) (s t u v : ℕ) → EndsIn L s t u → EndsIn L s t v → u ≡ v
g4_once = ends_once

pub g4_starts : (L : Links) (u s : ℕ) → Starts L s (num L u s) (start L u s)
g4_starts = starts-num

pub g4_numbers : (L : Links) (s k t : ℕ) → Starts L s k t → (num L t s ≡ k) × (start L t s ≡ t)
g4_numbers = num-starts

pub g4_never : (L : Links) (u s : ℕ) → ((v : ℕ) → EndsIn L s (start L u s) v → ⊥) → (w : ℕ) → u ≤ w → num L w s ≡ num L u s
g4_never = never_ends

pub g4_single : (L : Links) (s t : ℕ) → L.size ≡ 1 → s < L.size → EndsIn L s t (suc t)
g4_single = alone

-- r has broadcast number k of another s exactly if a relay from s after its start has arrived.
pub g4_received : (L : Links) (u r s k t : ℕ) → (r ≡ s → ⊥) → Starts L s k t → (k ≤ got L u r s) ↔ RelayBy L s t r u
g4_received = got_relay

-- G5: where in a log every two stations have, after every round that leaves room for it, a relay
-- that arrives within so many rounds, a broadcast ends within twice as many, if the log goes on so
-- long.
pub g5 : (n : ℕ) (log : List (List ℕ)) (delay : ℕ) → 1 ≤ delay
    → ((a b t : ℕ) → a < n → b < n → (a ≡ b → ⊥) → t + delay ≤ length log → RelayBy (of_log n log) a t b (t + delay))
    → (s t : ℕ) → s < n → t + 2 * delay ≤ length log
    → (u : ℕ) × EndsIn (of_log n log) s t u × (u ≤ t + 2 * delay)
g5 n log delay = ends_within (of_log n log) delay (length log)

-- P: rounds added at the end of a log change no clock, number or end up to there; and past its end
-- no relay arrives.
pub p_news : (n : ℕ) (log more : List (List ℕ)) (u p q : ℕ) → u ≤ length log → news (of_log n log) u p q ≡ news (of_log n (log ++ more)) u p q
p_news n log more = news_same (of_log n log) (of_log n (log ++ more)) (length log) (same-append n log more)

pub p_num : (n : ℕ) (log more : List (List ℕ)) (u s : ℕ) → u ≤ length log → num (of_log n log) u s ≡ num (of_log n (log ++ more)) u s
p_num n log more = num_same (of_log n log) (of_log n (log ++ more)) (length log) (same-append n log more)

pub p_start : (n : ℕ) (log more : List (List ℕ)) (u s : ℕ) → u ≤ length log → start (of_log n log) u s ≡ start (of_log n (log ++ more)) u s
p_start n log more = start_same (of_log n log) (of_log n (log ++ more)) (length log) (same-append n log more)

pub p_got : (n : ℕ) (log more : List (List ℕ)) (u r s : ℕ) → u ≤ length log → got (of_log n log) u r s ≡ got (of_log n (log ++ more)) u r s
p_got n log more = got_same (of_log n log) (of_log n (log ++ more)) (length log) (same-append n log more)

pub p_ends : (n : ℕ) (log more : List (List ℕ)) (u s : ℕ) → u ≤ length log → ends (of_log n log) u s ≡ ends (of_log n (log ++ more)) u s
p_ends n log more = ends_same (of_log n log) (of_log n (log ++ more)) (length log) (same-append n log more)

pub p_ended : (n : ℕ) (log more : List (List ℕ)) (s u : ℕ) → u ≤ length log → Ended (of_log n log) s u → Ended (of_log n (log ++ more)) s u
p_ended n log more = ended_same (of_log n log) (of_log n (log ++ more)) (length log) (same-append n log more)

pub p_relay : (n : ℕ) (log : List (List ℕ)) {a t b k : ℕ} → Relay (of_log n log) a t b k → k ≤ length log
p_relay = relay_in_log
