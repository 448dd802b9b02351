-- Demand 3 of document 01, as one claim about one list of calls. Each field is a sentence of the
-- demand, or half of one.
use Rattle.std.specs.Prelude.{ℕ, suc, ◌+◌, ◌*◌, ◌-◌, ◌≤◌, ◌<◌, true, List, ◌++◌, ◌⊎◌, ◌↔◌, ◌≡◌, get_or, length}
use Rattle.bodies.specs.Refusals.{done}
use Rattle.links.specs.Relay.{of_log}
use Rattle.links.specs.EndRule.{EndsIn}
use Rattle.queues.specs.Lane.{bodies}
use Rattle.queues.specs.Waiting.{is_desk, waiting_edits, waiting_count}
use Rattle.station_spec.specs.declared.Setup.{Setup}
use Rattle.station_spec.specs.State.{held_of, record_of, lane_at}
use Rattle.group_spec.specs.State.{station_at}
use Rattle.group_spec.specs.Calls.{group_fresh_refusal}
use Rattle.group_spec.specs.History.{History, Call, no_round, history_of, started, takings_of, posts_at, posts_of}
use Rattle.group_spec.specs.History.{taken_from, aired_list, only_edits, ends_at, started_in}

module _ {A : Type 0} where
  -- the term "beginning": so many first entries of a list
  pub record Begins (xs ys : List A) : Type 0 where
    pub rest : List A
    pub whole : xs ++ rest ≡ ys

pub record Demand (n : ℕ) (H : History) : Type 0 where
  -- what is taken is a beginning of what was started
  pub taken_begins_started : (p s : ℕ) → p < n → s < n → Begins (taken_from H p s) (started H s)
  -- of two aired lists one is a beginning of the other
  pub aired_lists_agree :
      (p q : ℕ) → p < n → q < n →
      Begins (aired_list n H p) (aired_list n H q) ⊎ Begins (aired_list n H q) (aired_list n H p)
  -- no round is refused
  pub no_round_refused :
      (u : ℕ) → u < length H.rounds → (get_or H.rounds u no_round).refusal ≡ done
  -- no station counts, or holds a count, above 2 × (N - 1)
  pub own_count_bounded : (p : ℕ) → p < n → (station_at H.group p).count ≤ 2 * (n - 1)
  pub held_count_bounded :
      (p s : ℕ) → p < n → s < n → held_of (station_at H.group p) s ≡ true →
      (record_of (station_at H.group p) s).count ≤ 2 * (n - 1)
  -- no lane above two
  pub lanes_bounded : (p s : ℕ) → p < n → s < n → (lane_at (station_at H.group p) s).len ≤ 2
  -- the accepted posts of a desk in their order: its edits that started, then those that wait
  pub posts_started :
      (p desk : ℕ) → p < n → is_desk desk ≡ true →
      posts_of p desk H.accepted ≡ posts_of p desk H.starts ++ waiting_edits (station_at H.group p).waiting desk
  -- the edits of both desks that started, in their order: the own edits that were aired, then those
  -- in the own lane
  pub starts_aired :
      (p : ℕ) → p < n →
      posts_at p H.starts ≡ takings_of p (aired_list n H p) ++ only_edits (bodies (lane_at (station_at H.group p) p))
  -- they are the edits among what the station started
  pub starts_reported : (p : ℕ) → p < n → posts_at p H.starts ≡ only_edits (started H p)
  -- and so in number, over both desks: accepted posts = waiting + edits in the own lane + own edits
  -- aired
  pub posts_counted :
      (p : ℕ) → p < n →
      length (posts_at p H.accepted)
      ≡ waiting_count (station_at H.group p).waiting
      + length (only_edits (bodies (lane_at (station_at H.group p) p)))
      + length (takings_of p (aired_list n H p))
  -- a broadcast ends in round u + 1 exactly when that is the first after its start by which every
  -- other station had a relay from the sender and then one back
  pub ends_exactly :
      (s u : ℕ) → s < n → u < length H.rounds →
      (ends_at H s (suc u) ≡ true) ↔ EndsIn (of_log n H.log) s (started_in H s u) (suc u)

-- Demand 3: every fresh group that is not refused, every list of calls
abbrev pub DemandThree : Type 0
DemandThree =
    (setup : Setup) → group_fresh_refusal setup ≡ done → (calls : List Call) → Demand setup.n (history_of setup calls)
