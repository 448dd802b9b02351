-- The assumption can be met, so that nothing here is said of nothing: all hear all, a station
-- alone, and two stations that hear each other in ten rounds, both desks posting.
use Prim.Native.Nat.{ℕ, zero, suc, ◌+◌, ◌*◌, ◌≤◌, ◌<◌}
use mathlib.Core.Bool.{true}
use mathlib.Core.List.{List, [], ◌∷◌, ◌++◌}
use mathlib.Core.Path.{◌≡◌, refl}
use native.Mathlib.Nat.{le_refl}
use native.Mathlib.Omega.{arith}
use lib.ListN.{length, replicate, get_or-replicate}
use Rattle.bodies.specs.declared.Body.TheVariants.{Drop}
use Rattle.bodies.specs.Refusals.{done}
use Rattle.links.specs.Log.{bit, hears_in, masks_in}
use Rattle.links.specs.Relay.{Links, direct, of_log}
use Rattle.lists.specs.Below.{tabulate}
use Rattle.station_spec.specs.State.{sized}
use Rattle.group_spec.specs.declared.Post.{Post}
use Rattle.group_spec.specs.Calls.{group_fresh_refusal, group_post_refusal}
use Rattle.group_spec.specs.History.{History, Call, Call.post, Call.round, history_of, takings_of, posts_of, aired_list}
use Rattle.group_spec.specs.Desks.{waiting_at_desk}
use Rattle.group_spec.specs.Replies.{Edit, edit_after, edit_at, posts_from, entry_edit, aired_edit}
use Rattle.group_spec.proofs.Computing.{group_runs}
use Rattle.delivery_spec.specs.Delivery.{Near, up_to, AiredBy, rows_aired}
use Rattle.delivery_spec.proofs.Delivery.{delivery}

-- Where all hear all in every round, the delay is one round.
pub near_all :
    (L : Links) (from to : ℕ) →
    ((a b k : ℕ) → a < L.size → b < L.size → (a ≡ b → ⊥) → from < k → k ≤ to → L.hears k b a ≡ true) →
    Near L 1 from to
near_all L from to h =
    record {
      some = le_refl 1;
      relays =
          λ a b t la lb d f l.
          record {
            arrival = t + 1;
            by = le_refl (t + 1);
            relay = direct {k = t + 1} (omega arith)
                (h a b (t + 1) la lb d (omega arith) l);
          };
    }

-- A station alone airs every post that it accepts, behind i others of its desk within 6 i + 10
-- rounds, with no word on links.
pub alone_airs :
    (before : List Call) (x : Post) (after : List Call) →
    let H₀ = history_of (sized 1) before in
    let H = history_of (sized 1) (before ++ (post x ∷ after)) in
    let by = length H₀.rounds + 1 * (6 * waiting_at_desk H₀ x.station x.desk + 10) in
    group_post_refusal H₀.group x ≡ done → by ≤ length H.rounds → AiredBy 1 H by 0 (edit_after H₀.accepted x)
alone_airs before x after taken room =
    (delivery (sized 1) (unfold group_fresh_refusal in refl) before x after taken 1).in_time
    (record { some = le_refl 1; relays = λ a b t la lb d f l. absurd (d (omega (arith, la, lb))) })
    room
    0
    (omega arith)

-- two stations that hear each other; desk 1 of station 0 has posted, and then desk 0 does, with the
-- same body
abbrev of_desk : ℕ → Post
of_desk desk = record { station = 0; desk = desk; body = Drop 0 7 }

abbrev both : List ℕ
both = 2 ∷ 1 ∷ []

abbrev ten : List Call
ten = replicate 10 (round both)

unfoldable pub run : History
run = history_of (sized 2) (post (of_desk 1) ∷ post (of_desk 0) ∷ ten)

abbrev edit : ℕ → Edit
edit desk = record { source = 0; desk = desk; number = 0 }

pub each_hears : (a b : ℕ) → a < 2 → b < 2 → (a ≡ b → ⊥) → hears_in 2 both b a ≡ true
each_hears zero zero la lb d = absurd (d refl)
each_hears zero (suc zero) la lb d = unfold hears_in bit in refl
each_hears (suc zero) zero la lb d = unfold hears_in bit in refl
each_hears (suc zero) (suc zero) la lb d = absurd (d refl)
each_hears (suc (suc a)) b la lb d = absurd (omega arith)
each_hears zero (suc (suc b)) la lb d = absurd (omega arith)
each_hears (suc zero) (suc (suc b)) la lb d = absurd (omega arith)

ten_hears :
    (a b k : ℕ) → a < 2 → b < 2 → (a ≡ b → ⊥) → 0 < k → k ≤ 10 →
    hears_in 2 (masks_in (replicate 10 both) k) b a ≡ true
unfolding masks_in
ten_hears a b zero la lb d low high = absurd (omega arith)
ten_hears a b (suc k) la lb d low high = rw (get_or-replicate 10 k both [] (omega arith)) (each_hears a b la lb d)

-- by the theorem both edits are aired at both stations by round 10
pub two_air : (q : ℕ) → q < 2 → AiredBy 2 run 10 q (edit 1) × AiredBy 2 run 10 q (edit 0)
unfolding run group_runs posts_of
two_air q l = (
  (delivery (sized 2) (unfold group_fresh_refusal in refl) [] (of_desk 1) (post (of_desk 0) ∷ ten) refl 1).in_time near
      (omega arith) q l,
  (delivery (sized 2) (unfold group_fresh_refusal in refl) (post (of_desk 1) ∷ []) (of_desk 0) ten refl 1).in_time near
      (omega arith) q l,
)
  where
    near : Near (of_log 2 (replicate 10 both)) 1 0 10
    near = near_all (of_log 2 (replicate 10 both)) 0 10 ten_hears

pub record Computed : Type 0 where
  -- desk 0 goes first; by round 3 its edit is aired at both, by round 5 the other's, and by then
  -- there are two rows
  pub third :
      tabulate 2 (λ q. tabulate (length (aired_list 2 (up_to 3 run) q)) (aired_edit 2 (up_to 3 run) q))
      ≡ (edit 0 ∷ []) ∷ (edit 0 ∷ []) ∷ []
  pub fifth :
      tabulate 2 (λ q. tabulate (length (aired_list 2 (up_to 5 run) q)) (aired_edit 2 (up_to 5 run) q))
      ≡ (edit 0 ∷ edit 1 ∷ []) ∷ (edit 0 ∷ edit 1 ∷ []) ∷ []
  pub rows : tabulate 2 (λ q. rows_aired run q 5) ≡ 2 ∷ 2 ∷ []

pub computed : Computed
unfolding group_runs run takings_of posts_of edit_at posts_from entry_edit rows_aired
computed = record { third = refl; fifth = refl; rows = refl }
