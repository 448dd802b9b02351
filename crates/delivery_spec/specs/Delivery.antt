-- Beyond documents 01 and 02: every accepted edit is aired at every station, and by when, where the
-- links are good enough from its post on. Which edit is which is told as in A14.
use Rattle.std.specs.Prelude.{ℕ, zero, suc, ◌+◌, ◌*◌, ◌≤◌, ◌<◌, if◌then◌else◌, List, ◌∷◌, ◌++◌, ◌≡◌}
use Rattle.std.specs.Prelude.{slice_index_or, length, take}
use Rattle.bodies.specs.Refusals.{done}
use Rattle.links.specs.Relay.{Links, of_log}
use Rattle.links.specs.EndRule.{RelayBy}
use Rattle.queues.specs.Waiting.{other_desk}
use Rattle.station_spec.specs.declared.Setup.{Setup}
use Rattle.group_spec.specs.declared.Post.{Post}
use Rattle.group_spec.specs.Calls.{group_fresh_refusal, group_post_refusal}
use Rattle.group_spec.specs.History.{History, Call, post, no_round, history_of, report_in, posts_of, aired_list}
use Rattle.group_spec.specs.Demand.{Begins}
use Rattle.group_spec.specs.Desks.{waiting_at_desk}
use Rattle.group_spec.specs.Replies.{Edit, edit_after, AiredAt}

-- from one round to another: after every round of these that leaves room for it, each two stations
-- have a relay that arrives within so many rounds, one at least
pub record Near (L : Links) (delay from to : ℕ) : Type 0 where
  pub some : 1 ≤ delay
  pub relays :
      (a b t : ℕ) → a < L.size → b < L.size → (a ≡ b → ⊥) → from ≤ t → t + delay ≤ to → RelayBy L a t b (t + delay)

-- a history as far as its first v rounds; its posts and starts, which tell the edits, stay
abbrev pub up_to : ℕ → History → History
up_to v H =
    record {
      group = H.group;
      rounds = take v H.rounds;
      log = take v H.log;
      accepted = H.accepted;
      starts = H.starts;
    }

-- by the end of round v station q has aired the edit e
pub record AiredBy (n : ℕ) (H : History) (v q : ℕ) (e : Edit) : Type 0 where
  pub entry : ℕ
  pub aired : AiredAt n (up_to v H) q entry e

-- the post x, accepted after the history H₀ behind i waiting edits of its desk: where the links are
-- good enough and the rounds are as many, all stations have aired it by these rounds
pub record Delivered (n delay : ℕ) (H₀ H : History) (x : Post) : Type 0 where
  pub in_time :
      let i = waiting_at_desk H₀ x.station x.desk in
      let u = length H₀.rounds in
      let by = u + delay * (6 * i + 10) in
      Near (of_log n H.log) delay u by → by ≤ length H.rounds →
      (q : ℕ) → q < n → AiredBy n H by q (edit_after H₀.accepted x)
  -- where the other desk has nothing waiting and posts nothing
  pub alone_in_time :
      let other = other_desk x.desk in
      waiting_at_desk H₀ x.station other ≡ 0 →
      posts_of x.station other H.accepted ≡ posts_of x.station other H₀.accepted →
      let i = waiting_at_desk H₀ x.station x.desk in
      let u = length H₀.rounds in
      let by = u + delay * (3 * i + 7) in
      Near (of_log n H.log) delay u by → by ≤ length H.rounds →
      (q : ℕ) → q < n → AiredBy n H by q (edit_after H₀.accepted x)

-- every fresh group that is not refused, every list of calls around an accepted post, every delay
abbrev pub Delivery : Type 0
Delivery =
    (setup : Setup) → group_fresh_refusal setup ≡ done → (before : List Call) (x : Post) (after : List Call) →
    let H₀ = history_of setup before in
    let H = history_of setup (before ++ (post x ∷ after)) in
    group_post_refusal H₀.group x ≡ done → (delay : ℕ) → Delivered setup.n delay H₀ H x

-- how many rows q has aired by the end of round v
unfoldable pub rows_aired : History → ℕ → ℕ → ℕ
rows_aired H q zero = 0
rows_aired H q (suc u) =
    if (report_in (slice_index_or H.rounds u no_round) q).turn.aired
    then suc (rows_aired H q u)
    else rows_aired H q u

-- what the rows do where the links are good enough from one round to another
pub record RowsCome (n delay from to : ℕ) (H : History) : Type 0 where
  -- whatever one station has aired all have aired within the delay
  pub all_catch_up :
      (u p q : ℕ) → p < n → q < n → from ≤ u → u + delay ≤ to →
      Begins (aired_list n (up_to u H) p) (aired_list n (up_to (u + delay) H) q)
  -- where all have aired k rows, all have aired one more within three times the delay
  pub one_more :
      (u k : ℕ) → from ≤ u → u + 3 * delay ≤ to → ((p : ℕ) → p < n → k ≤ rows_aired H p u) →
      (p : ℕ) → p < n → suc k ≤ rows_aired H p (u + 3 * delay)

abbrev pub RowsGoOn : Type 0
RowsGoOn =
    (setup : Setup) → group_fresh_refusal setup ≡ done → (calls : List Call) (delay from to : ℕ) →
    let H = history_of setup calls in
    to ≤ length H.rounds → Near (of_log setup.n H.log) delay from to → RowsCome setup.n delay from to H

-- whatever the links are, rows aired at two stations never differ by more than one
abbrev pub RowsClose : Type 0
RowsClose =
    (setup : Setup) → group_fresh_refusal setup ≡ done → (calls : List Call) (u p q : ℕ) → p < setup.n → q < setup.n →
    let H = history_of setup calls in
    u ≤ length H.rounds → rows_aired H p u ≤ rows_aired H q u + 1
