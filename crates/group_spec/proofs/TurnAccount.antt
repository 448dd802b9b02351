-- Posts in a turn: an edit that starts leaves the waiting ones of its desk for the own lane, and
-- one that is aired leaves the own lane for the row. So what waited at a desk is what started of it
-- and then what waits, and what stood in the own lane, then what started, is the own edit of the
-- row and then what stands in the own lane.
use Prim.Native.Nat.{ℕ, zero, suc, ◌≤◌, ◌<◌}
use mathlib.Core.Bool.{Bool, true, false, cond, ◌&&◌}
use mathlib.Core.List.{List, [], ◌∷◌, ◌++◌, append-nil, append_assoc}
use mathlib.Core.Path.{◌≡◌, refl, sym, ap, subst, ◌∙◌}
use native.Mathlib.Omega.{arith}
use lib.Dec.{eqb, ltb}
use lib.ListN.{get_or, length}
use borrow.Author.Tests.{ltb-true, lt-ltb, eq-eqb}
use Rattle.bodies.specs.declared.Body.{Body}
use Rattle.bodies.specs.declared.Body.TheVariants.{Empty, Neutral}
use Rattle.bodies.specs.Body.{is_empty, is_edit}
use Rattle.lists.proofs.Laws.{all_below_at}
use Rattle.queues.specs.declared.Lane.{Lane}
use Rattle.station_spec.specs.Limits.{allowed}
use Rattle.station_spec.specs.declared.Station.{Station}
use Rattle.queues.specs.Lane.{bodies, lane_of, pushed, popped}
use Rattle.queues.specs.Queue.{no_slot}
use Rattle.queues.specs.Waiting.{is_desk, other_desk, waiting_edits, waiting_count, first_desk, next_desk, next_edit, without_next}
use Rattle.queues.proofs.WaitingLaws.{next_fits, started_edits, started_first}
use Rattle.station_spec.specs.State.{lane_at}
use Rattle.station_spec.specs.Turn.{airs, row_of, broadcast_ends, may_start, starts_edit, started_body, after_turn}
use Rattle.bodies.proofs.BodyLaws.{edit_not_empty}
use Rattle.bodies.proofs.LimitLaws.{waiting_edit}
use Rattle.station_spec.proofs.Setters.{Shaped}
use Rattle.station_spec.proofs.LimitsLane.{lane_most}
use Rattle.station_spec.proofs.StationLimits.{Inside}
use Rattle.station_spec.proofs.TurnParts.{airs_each, row_at}
use Rattle.station_spec.proofs.TurnCells
use Rattle.station_spec.proofs.TurnCells.{lane_after, lane_after_lem, turn_lane_own}
use Rattle.station_spec.proofs.TurnLaws.{Start, Start.an_edit, Start.a_neutral, Start.nothing, start}
use Rattle.group_spec.specs.History.{takings_of, unless_empty, edits_of, only_edits}
use Rattle.group_spec.proofs.Takings.{gathered_own}

-- a body, where it is an edit
abbrev pub if_edit : Body → List Body
if_edit b = cond (is_edit b) (b ∷ []) []

-- a body that starts, where it is an edit and the desk that was next is this one
abbrev pub start_of : ℕ → Body → ℕ → List Body
start_of next b d = cond (is_edit b && eqb next d) (b ∷ []) []

abbrev lane : ℕ → Body → Body → Lane
lane k a b = record { len = k; first = a; second = b }

none_edits : (l : Lane) → l.len ≡ 0 → only_edits (bodies l) ≡ []
unfolding bodies only_edits
none_edits l e = rw e

-- the oldest removed
popped_edits : (l : Lane) → 0 < l.len → l.len ≤ 2 → if_edit l.first ++ only_edits (bodies (popped l)) ≡ only_edits (bodies l)
unfolding bodies lane_of only_edits
popped_edits l low high = go l.len l.first l.second low high
  where
    go : (k : ℕ) (a b : Body) → 0 < k → k ≤ 2 → if_edit a ++ only_edits (bodies (popped (lane k a b))) ≡ only_edits (bodies (lane k a b))
    go zero a b low high = absurd (omega arith)
    go (suc zero) a b low high = refl
    go (suc (suc zero)) a b low high = refl
    go (suc (suc (suc k))) a b low high = absurd (omega arith)

-- a body put into an empty lane
pushed_edits : (l : Lane) (b : Body) → l.len ≡ 0 → only_edits (bodies (pushed l b)) ≡ if_edit b
unfolding bodies lane_of only_edits
pushed_edits l b e = rw e (append-nil (if_edit b))

module _ (s : Station) (shape : Shaped s) (c : Inside s) where
  own_most : (lane_at s s.own).len ≤ 2
  own_most =
      let most : ◌≡◌ {A = ℕ} (cond (eqb s.own s.own) 1 2) 1 = rw (eq-eqb s.own s.own refl) in
      let one : (lane_at s s.own).len ≤ 1 = lane_most (allowed s) 1 (lane_at s s.own) (rw most at (c.places s.own c.own).lane) in
      omega arith

  airs_own : airs s ≡ true → 0 < (lane_at s s.own).len
  airs_own e =
      ltb-true 0 (lane_at s s.own).len
      (all_below_at s.n (λ k. ltb 0 (lane_at s k).len) (sym (airs_each s) ∙ e) s.own c.own)

  next_is_edit : 0 < waiting_count s.waiting → is_edit (next_edit s.waiting) ≡ true
  next_is_edit w = waiting_edit (allowed s) (next_edit s.waiting) (next_fits (allowed s) s.waiting c.waiting w)

  -- the airing step
  aired_account :
      cond (airs s) (if_edit (lane_at s s.own).first) [] ++ only_edits (bodies (lane_after s s.own))
      ≡ only_edits (bodies (lane_at s s.own))
  aired_account = go (airs s) refl
    where
      after : lane_after s s.own ≡ cond (airs s) (popped (lane_at s s.own)) (lane_at s s.own)
      after = lane_after_lem s shape c.high c.own s.own c.own

      go :
          (t : Bool) → airs s ≡ t →
          cond t (if_edit (lane_at s s.own).first) [] ++ only_edits (bodies (lane_after s s.own))
          ≡ only_edits (bodies (lane_at s s.own))
      go true e = rw (after, e) (popped_edits (lane_at s s.own) (airs_own e) own_most)
      go false e = rw (after, e)

  -- the start: what starts leaves the waiting edits for the own lane, which is empty then
  pub turn_waiting :
      (d : ℕ) → is_desk d ≡ true →
      waiting_edits s.waiting d ≡ start_of (next_desk s.waiting) (started_body s) d ++ waiting_edits (after_turn s).waiting d
  turn_waiting d desk = rw (TurnCells.turn_waiting s) (go (start s))
    where
      go :
          Start s →
          waiting_edits s.waiting d
          ≡ start_of (next_desk s.waiting) (started_body s) d ++ waiting_edits (cond (starts_edit s) (without_next s.waiting) s.waiting) d
      go (an_edit e room w b) =
          rw (e, b, next_is_edit w)
          (started_edits (allowed s) s.waiting d desk shape.waiting c.waiting w)
      go (a_neutral e room b) = rw (e, b)
      go (nothing e b) = rw (e, b)

  -- only the start of an edit changes which desk goes first: then it is the other
  pub turn_first :
      first_desk (after_turn s).waiting ≡ cond (is_edit (started_body s)) (other_desk (next_desk s.waiting)) (first_desk s.waiting)
  turn_first = rw (TurnCells.turn_waiting s) (go (start s))
    where
      go :
          Start s →
          first_desk (cond (starts_edit s) (without_next s.waiting) s.waiting)
          ≡ cond (is_edit (started_body s)) (other_desk (next_desk s.waiting)) (first_desk s.waiting)
      go (an_edit e room w b) = rw (e, b, next_is_edit w) (started_first s.waiting)
      go (a_neutral e room b) = rw (e, b)
      go (nothing e b) = rw (e, b)

  -- while edits wait no Neutral starts
  pub turn_edits : 0 < waiting_count s.waiting → length (unless_empty (started_body s)) ≡ length (if_edit (started_body s))
  unfolding started_body
  turn_edits w = rw (lt-ltb 0 (waiting_count s.waiting) w) (go (broadcast_ends s) (may_start s))
    where
      next : Body
      next = next_edit s.waiting

      go :
          (a b : Bool) →
          length (unless_empty (cond a (cond b next Empty) Empty)) ≡ length (if_edit (cond a (cond b next Empty) Empty))
      go true true = rw (edit_not_empty next (next_is_edit w), next_is_edit w)
      go true false = refl
      go false b = refl

  started_lane : only_edits (bodies (lane_after s s.own)) ++ if_edit (started_body s) ≡ only_edits (bodies (lane_at (after_turn s) s.own))
  started_lane = rw (turn_lane_own s shape c.high c.own) (go (start s))
    where
      after : Lane
      after = lane_after s s.own

      go :
          Start s →
          only_edits (bodies after) ++ if_edit (started_body s)
          ≡ only_edits (bodies (cond (is_empty (started_body s)) after (pushed after (started_body s))))
      go (an_edit e room w b) =
          rw (b, edit_not_empty (next_edit s.waiting) (next_is_edit w), pushed_edits after (next_edit s.waiting) room, none_edits after room)
      go (a_neutral e room b) = rw (b, pushed_edits after Neutral room, none_edits after room)
      go (nothing e b) = rw b (append-nil (only_edits (bodies after)))

  own_lane :
      only_edits (bodies (lane_at s s.own)) ++ if_edit (started_body s)
      ≡ cond (airs s) (if_edit (lane_at s s.own).first) [] ++ only_edits (bodies (lane_at (after_turn s) s.own))
  own_lane =
      let row : List Body = cond (airs s) (if_edit (lane_at s s.own).first) [] in
      let after : List Body = only_edits (bodies (lane_after s s.own)) in
      ap (λ (l : List Body). l ++ if_edit (started_body s)) (sym aired_account)
      ∙ append_assoc row after (if_edit (started_body s))
      ∙ ap (λ (l : List Body). row ++ l) started_lane

  pub turn_lane :
      (p : ℕ) → s.own ≡ p →
      only_edits (bodies (lane_at s p)) ++ if_edit (started_body s)
      ≡ cond (airs s) (if_edit (lane_at s p).first) [] ++ only_edits (bodies (lane_at (after_turn s) p))
  turn_lane p e =
      subst
      (λ (q : ℕ).
      only_edits (bodies (lane_at s q)) ++ if_edit (started_body s)
      ≡ cond (airs s) (if_edit (lane_at s q).first) [] ++ only_edits (bodies (lane_at (after_turn s) q)))
      e
      own_lane

-- the own edit of a row
pub row_account :
    (n : ℕ) (s : Station) (p : ℕ) → n ≤ 16 → s.n ≡ n → p < n → takings_of p (edits_of n (row_of s)) ≡ if_edit (lane_at s p).first
unfolding edits_of
row_account n s p high size l =
    gathered_own (λ k. is_edit (get_or (row_of s) k no_slot).body) (λ k. (get_or (row_of s) k no_slot).body) p n l
    ∙ ap if_edit (row_at s p (omega arith) (omega arith))
