-- Bounds that look better are false: short runs, computed, in which news has the delay and an edit
-- is not aired by then, and one in which twice the delay brings no row.
use Prim.Native.Nat.{ℕ, zero, suc, ◌+◌, ◌-◌, ◌≤◌, ◌<◌}
use mathlib.Core.Bool.{Bool, true, false, cond, not, ◌&&◌, true≢false}
use mathlib.Core.List.{List, [], ◌∷◌, ◌++◌, map}
use mathlib.Core.Path.{◌≡◌, refl, sym, ap, ◌∙◌}
use native.Mathlib.Omega.{arith}
use borrow.Author.Tests.{eq-eqb, ne_eqb, le-ltb}
use lib.Dec.{eqb, ltb}
use lib.ListN.{length, replicate, get_or-replicate}
use Rattle.bodies.specs.declared.Body.TheVariants.{Drop}
use Rattle.bodies.specs.Refusals.{done}
use Rattle.links.specs.Log.{bit, hears_in, masks_in}
use Rattle.links.specs.Relay.{Links, direct, onward, of_log}
use Rattle.links.specs.EndRule.{RelayBy}
use Rattle.lists.specs.Below.{all_below}
use Rattle.lists.proofs.Laws.{and_both, and_left, and_right, all_below_at, all_below_not}
use Rattle.station_spec.specs.State.{sized}
use Rattle.group_spec.specs.declared.Post.{Post}
use Rattle.group_spec.specs.Calls.{group_post_refusal}
use Rattle.group_spec.specs.History.{History, Call, Call.post, Call.round, history_of, takings_of, posts_of, aired_list}
use Rattle.group_spec.specs.Desks.{waiting_at_desk}
use Rattle.group_spec.specs.Replies.{Edit, edit_at, posts_from, entry_edit, aired_edit}
use Rattle.group_spec.proofs.Computing.{group_runs}
use Rattle.delivery_spec.specs.Delivery.{Near, up_to, AiredBy, rows_aired}
use Rattle.delivery_spec.proofs.Examples.{near_all, each_hears}

-- a relay within two rounds: at once, in the second round, or over one station
module _ (L : Links) where
  abbrev over : ℕ → ℕ → ℕ → ℕ → Bool
  over t a b c = L.hears (t + 1) c a && L.hears (t + 2) b c

  abbrev reaches : ℕ → ℕ → ℕ → Bool
  reaches t a b =
      cond (L.hears (t + 1) b a) true
      (cond (L.hears (t + 2) b a) true (not (all_below L.size (λ c. not (over t a b c)))))

  not-not : (b : Bool) → not b ≡ true → b ≡ false
  not-not true e = absurd (true≢false (sym e))
  not-not false e = refl

  not-true : (b : Bool) → not b ≡ false → b ≡ true
  not-true true e = refl
  not-true false e = absurd (true≢false e)

  relay_two : (t a b : ℕ) → reaches t a b ≡ true → RelayBy L a t b (t + 2)
  relay_two t a b = first (L.hears (t + 1) b a) refl
    where
      first :
          (x : Bool) → L.hears (t + 1) b a ≡ x →
          cond x true (cond (L.hears (t + 2) b a) true (not (all_below L.size (λ c. not (over t a b c))))) ≡ true →
          RelayBy L a t b (t + 2)
      first true e h = record { arrival = t + 1; by = omega arith; relay = direct {k = t + 1} (omega arith) e }
      first false e h = second (L.hears (t + 2) b a) refl h
        where
          second :
              (x : Bool) → L.hears (t + 2) b a ≡ x → cond x true (not (all_below L.size (λ c. not (over t a b c))))
              ≡ true →
              RelayBy L a t b (t + 2)
          second true f h = record { arrival = t + 2; by = omega arith; relay = direct {k = t + 2} (omega arith) f }
          second false f h =
              let k =
              all_below_not L.size (λ c. not (over t a b c))
              (not-not (all_below L.size (λ c. not (over t a b c))) h) in
              let both = not-true (over t a b k.0) k.2 in
              record {
                arrival = t + 2;
                by = omega arith;
                relay =
                    onward {c = k.0} {i = t + 1} {k = t + 2}
                    (direct {k = t + 1} (omega arith)
                    (and_left (L.hears (t + 1) k.0 a) (L.hears (t + 2) b k.0) both))
                    (omega arith)
                    (and_right (L.hears (t + 1) k.0 a) (L.hears (t + 2) b k.0) both);
              }

  -- all pairs, after each of the rounds
  abbrev tested : ℕ → ℕ → Bool
  tested from to =
      all_below (suc (to - 2))
      (λ t. cond (ltb t from) true (all_below L.size
      (λ a. all_below L.size (λ b. cond (eqb a b) true (reaches t a b)))))

  pub near_two : (from to : ℕ) → tested from to ≡ true → Near L 2 from to
  near_two from to h =
      record {
        some = omega arith;
        relays =
            λ a b t la lb d f l.
            let pairs : ℕ → Bool =
            λ t. all_below L.size (λ a. all_below L.size (λ b. cond (eqb a b) true (reaches t a b))) in
            let each : cond (ltb t from) true (pairs t) ≡ true =
            all_below_at (suc (to - 2)) (λ t. cond (ltb t from) true (pairs t)) h t (omega arith) in
            let here : pairs t ≡ true = sym (ap (λ (x : Bool). cond x true (pairs t)) (le-ltb t from f)) ∙ each in
            let one : cond (eqb a b) true (reaches t a b) ≡ true =
            all_below_at L.size (λ b. cond (eqb a b) true (reaches t a b))
            (all_below_at L.size (λ a. all_below L.size (λ b. cond (eqb a b) true (reaches t a b))) here a la) b lb
            in
            relay_two t a b (sym (ap (λ (x : Bool). cond x true (reaches t a b)) (ne_eqb a b d)) ∙ one);
      }

-- a run of rounds with these masks
abbrev rounds : List (List ℕ) → List Call
rounds log = map round log

abbrev by : ℕ → ℕ → Post
by station desk = record { station = station; desk = desk; body = Drop 0 7 }

-- D(3 i + 4) for a desk alone: station 0 of three posts after two rounds, behind nothing, and by
-- round 2 + 2 × 4 station 2 has aired nothing
abbrev alone_before : List (List ℕ)
alone_before = (2 ∷ 5 ∷ 1 ∷ []) ∷ (6 ∷ 1 ∷ 2 ∷ []) ∷ []

abbrev alone_after : List (List ℕ)
alone_after =
    (2 ∷ 1 ∷ 0 ∷ []) ∷ (4 ∷ 5 ∷ 3 ∷ []) ∷ (4 ∷ 1 ∷ 1 ∷ []) ∷ (6 ∷ 5 ∷ 2 ∷ []) ∷ (4 ∷ 4 ∷ 2 ∷ []) ∷ (2 ∷ 5 ∷ 3 ∷ []) ∷
    (6 ∷ 1 ∷ 3 ∷ [])
    ∷ (2 ∷ 5 ∷ 0 ∷ [])
    ∷ []

abbrev alone_calls : List Call
alone_calls = rounds alone_before

unfoldable pub alone : History
alone = history_of (sized 3) (alone_calls ++ (post (by 0 0) ∷ rounds alone_after))

-- D(6 i + 5): desk 0 of station 1 of two posts three edits after three rounds, and then desk 1 one,
-- behind nothing of its own
abbrev both_before : List (List ℕ)
both_before = (2 ∷ 0 ∷ []) ∷ (0 ∷ 0 ∷ []) ∷ (0 ∷ 1 ∷ []) ∷ []

abbrev both_after : List (List ℕ)
both_after =
    (0 ∷ 0 ∷ []) ∷ (2 ∷ 1 ∷ []) ∷ (2 ∷ 0 ∷ []) ∷ (2 ∷ 1 ∷ []) ∷ (0 ∷ 1 ∷ []) ∷ (2 ∷ 1 ∷ []) ∷ (2 ∷ 0 ∷ []) ∷
    (2 ∷ 1 ∷ []) ∷ (2 ∷ 1 ∷ [])
    ∷ (0 ∷ 0 ∷ [])
    ∷ []

abbrev both_calls : List Call
both_calls = rounds both_before ++ replicate 3 (post (by 1 0))

unfoldable pub both : History
both = history_of (sized 2) (both_calls ++ (post (by 1 1) ∷ rounds both_after))

-- D(3 i + 7) beside a busy desk: two stations that hear each other in every round, so that D is 1;
-- seven edits of desk 1 wait, and five of desk 0 before the sixth
abbrev pair : List ℕ
pair = 2 ∷ 1 ∷ []

abbrev mesh : List (List ℕ)
mesh = replicate 22 pair

abbrev busy_calls : List Call
busy_calls = replicate 7 (post (by 0 1)) ++ replicate 5 (post (by 0 0))

unfoldable pub busy : History
busy = history_of (sized 2) (busy_calls ++ (post (by 0 0) ∷ rounds mesh))

-- no entry has the desk and the number of an edit
abbrev is_edit : ℕ → ℕ → Edit → Bool
is_edit desk number e = eqb e.desk desk && eqb e.number number

absent :
    (n : ℕ) (H : History) (v q source desk number : ℕ) →
    all_below (length (aired_list n (up_to v H) q)) (λ k. not (is_edit desk number (aired_edit n (up_to v H) q k))) ≡ true →
    AiredBy n H v q (record { source = source; desk = desk; number = number }) → ⊥
absent n H v q source desk number none a =
    let entry = a.entry in
    let e = aired_edit n (up_to v H) q entry in
    let no =
    all_below_at (length (aired_list n (up_to v H) q)) (λ k. not (is_edit desk number (aired_edit n (up_to v H) q k))) none
    entry a.aired.there in
    let yes : is_edit desk number e ≡ true =
    and_both
    (eq-eqb e.desk desk (ap (λ (z : Edit). z.desk) a.aired.same))
    (eq-eqb e.number number (ap (λ (z : Edit). z.number) a.aired.same)) in
    absurd (true≢false (sym no ∙ ap not yes))

-- a post that is accepted after so many rounds, behind so many of its desk
pub record Stands (H : History) (x : Post) (u i : ℕ) : Type 0 where
  pub accepted : group_post_refusal H.group x ≡ done
  pub after : length H.rounds ≡ u
  pub behind : waiting_at_desk H x.station x.desk ≡ i

-- in each run news has the delay from the post on, and the edit of the post is not aired by then
pub record TooSoon : Type 0 where
  pub alone_stands : Stands (history_of (sized 3) alone_calls) (by 0 0) 2 0
  pub both_stands : Stands (history_of (sized 2) both_calls) (by 1 1) 3 0
  pub busy_stands : Stands (history_of (sized 2) busy_calls) (by 0 0) 0 5
  pub alone_near : Near (of_log 3 alone.log) 2 2 10
  pub alone_late : AiredBy 3 alone 10 2 (record { source = 0; desk = 0; number = 0 }) → ⊥
  pub both_near : Near (of_log 2 both.log) 2 3 13
  pub both_late : AiredBy 2 both 13 1 (record { source = 1; desk = 1; number = 0 }) → ⊥
  pub busy_near : Near (of_log 2 busy.log) 1 0 22
  pub busy_late : AiredBy 2 busy 22 0 (record { source = 0; desk = 0; number = 5 }) → ⊥
  -- twice the delay brings no row, where three times bring one
  pub no_row : (rows_aired busy 0 2 ≡ 0) × (rows_aired busy 0 3 ≡ 1)

alone_log : alone.log ≡ alone_before ++ alone_after
unfolding alone group_runs
alone_log = refl

both_log : both.log ≡ both_before ++ both_after
unfolding both group_runs
both_log = refl

busy_log : busy.log ≡ mesh
unfolding busy group_runs
busy_log = refl

busy_hears : (a b k : ℕ) → a < 2 → b < 2 → (a ≡ b → ⊥) → 0 < k → k ≤ 22 → hears_in 2 (masks_in mesh k) b a ≡ true
unfolding masks_in
busy_hears a b zero la lb d low high = absurd (omega arith)
busy_hears a b (suc k) la lb d low high = rw (get_or-replicate 22 k pair [] (omega arith)) (each_hears a b la lb d)

pub too_soon : TooSoon
too_soon =
    record {
      alone_stands = unfold group_runs in record { accepted = refl; after = refl; behind = refl };
      both_stands = unfold group_runs in record { accepted = refl; after = refl; behind = refl };
      busy_stands = unfold group_runs in record { accepted = refl; after = refl; behind = refl };
      alone_near =
          rw alone_log
          (near_two (of_log 3 (alone_before ++ alone_after)) 2 10 (unfold hears_in bit masks_in all_below in refl));
      alone_late =
          absent 3 alone 10 2 0 0 0 (unfold alone group_runs takings_of posts_of edit_at posts_from entry_edit all_below in
          refl);
      both_near =
          rw both_log
          (near_two (of_log 2 (both_before ++ both_after)) 3 13 (unfold hears_in bit masks_in all_below in refl));
      both_late =
          absent 2 both 13 1 1 1 0 (unfold both group_runs takings_of posts_of edit_at posts_from entry_edit all_below in
          refl);
      busy_near = rw busy_log (near_all (of_log 2 mesh) 0 22 busy_hears);
      busy_late =
          absent 2 busy 22 0 0 0 5 (unfold busy group_runs takings_of posts_of edit_at posts_from entry_edit all_below in
          refl);
      no_row = unfold busy group_runs rows_aired in (refl, refl);
    }
