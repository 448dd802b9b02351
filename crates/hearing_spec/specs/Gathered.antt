-- What hearing leaves of a station, read off what was heard: the table has the newest record heard
-- of each station, the lanes have the takings.
use Rattle.std.specs.Prelude.{ℕ, ◌≤◌, ◌<◌, ◌≡◌, Bool, List, [], ◌∷◌, slice_index_or, set}
use Rattle.lists.specs.Below.{set_below}
use Rattle.frame_spec.specs.declared.Record.{Record}
use Rattle.queues.specs.declared.Lane.{Lane}
use Rattle.queues.specs.Lane.{no_lane, pushed}
use Rattle.station_spec.specs.declared.Station.{Station}
use Rattle.station_spec.specs.declared.Taking.{Taking}
use Rattle.station_spec.specs.State.{held_of, record_of, with_broadcast, with_arrays}
use Rattle.station_spec.specs.Hearing.{replaced}

-- the bodies of takings, each put last into the lane of its source, in order
unfoldable pub pushed_all : List Lane → List Taking → List Lane
pushed_all lanes [] = lanes
pushed_all lanes (t ∷ ts) = pushed_all (set lanes t.source (pushed (slice_index_or lanes t.source no_lane) t.body)) ts

-- the station s with a record for each station below n, which of them are held, the takings in
-- their lanes, and other numbers
unfoldable pub acted_on : Station → (ℕ → Record) → (ℕ → Bool) → List Taking → ℕ → List Bool → List ℕ → Station
acted_on s tops holds takings count acked labels =
    with_arrays (with_broadcast s s.body count) acked labels (set_below s.n holds s.held)
    (set_below s.n (λ k. replaced s.n (record_of s k) (tops k)) s.table)
    (pushed_all s.lanes takings)

-- st is what a station that began as s has become, `tops k` being the newest record heard of k,
-- with these takings so far
pub record Gathered (s st : Station) (takings : List Taking) (tops : ℕ → Record) : Type 0 where
  pub n : st.n ≡ s.n
  pub own : st.own ≡ s.own
  pub edition : st.edition ≡ s.edition
  pub waiting : st.waiting ≡ s.waiting
  pub body : st.body ≡ s.body
  pub table : (k : ℕ) → k < s.n → record_of st k ≡ replaced s.n (record_of s k) (tops k)
  pub table_above : (k : ℕ) → s.n ≤ k → record_of st k ≡ record_of s k
  pub held_above : (k : ℕ) → s.n ≤ k → held_of st k ≡ held_of s k
  pub lanes : st.lanes ≡ pushed_all s.lanes takings
