-- What was heard, taken into a station whose bytes stand for it, station by station: below k its
-- table holds the newest record heard of each station, and from k up it is as it was. Where nothing
-- is held of a station its record stays, for it is put in the place of itself.
use Prim.Native.Nat.{ℕ, ◌+◌}
use mathlib.Core.Bool.{Bool}
use mathlib.Core.List.{List}
use mathlib.Core.Path.{◌≡◌, refl, sym, ap, ◌∙◌}
use native.Mathlib.Omega.{arith}
use lib.ListN.{get_or, set}
use lib.Seq.{set-get_or}
use borrow.Author.Tests.{ne_eqb}
use Rattle.lists.specs.Below.{set_below}
use Rattle.lists.proofs.Laws.{set_below_more, set_below_above}
use Rattle.frame_spec.specs.declared.Record.{Record}
use Rattle.frame_spec.specs.Record.{no_record, framed}
use Rattle.queues.specs.declared.Lane.{Lane}
use Rattle.station_spec.specs.declared.Station.{Station}
use Rattle.station_spec.specs.State.{cell_of, record_of, with_broadcast, with_arrays}
use Rattle.station_spec.specs.Hearing.{replaced}
use Rattle.station_spec.proofs.Cells.{replaced-framed}
use Rattle.hearing_spec.specs.declared.Ear.{Ear}
use Rattle.hearing_spec.specs.Buffer.{record_at}
use Rattle.hearing_spec.specs.Gathered.{pushed_all, acted_on}
use Rattle.hearing_spec.specs.StandsFor.{holds_at, top_at, acts_on}
use Rattle.listening.specs.Listened.{heard_notes, takings_at}

-- the newest record heard of station j, in the place of the one that was held
abbrev pub entry_at : Station → List ℕ → List ℕ → ℕ → Record
entry_at s bytes places j = replaced s.n (record_of s j) (top_at s bytes places j)

-- the station once this is done for the stations below k
abbrev pub acted_below : Station → List ℕ → List ℕ → ℕ → Station
acted_below s bytes places k =
    with_arrays s s.acked s.labels (set_below k (holds_at places) s.held) (set_below k (entry_at s bytes places) s.table) s.lanes

-- with other entries at place k
abbrev pub with_entries : Station → List Bool → List Record → Station
with_entries s held table = with_arrays s s.acked s.labels held table s.lanes

-- with other lanes
abbrev pub with_pushed : Station → List Lane → Station
with_pushed s lanes = with_arrays s s.acked s.labels s.held s.table lanes

pub acted_first : (s : Station) (bytes places : List ℕ) → s ≡ acted_below s bytes places 0
unfolding set_below
acted_first s bytes places = refl

module _ (s : Station) (bytes places : List ℕ) (k : ℕ) where
  abbrev table : List Record
  table = set_below k (entry_at s bytes places) s.table

  abbrev held : List Bool
  held = set (set_below k (holds_at places) s.held) k (holds_at places k)

  old_is : get_or table k no_record ≡ record_of s k
  unfolding cell_of
  old_is = set_below_above k (entry_at s bytes places) s.table k no_record (omega arith)

  held_more : held ≡ set_below (k + 1) (holds_at places) s.held
  held_more = set_below_more k (holds_at places) s.held

  -- nothing is held of station k
  pub acted_none : get_or places k 0 ≡ 0 → with_entries s held table ≡ acted_below s bytes places (k + 1)
  acted_none e =
      let none : top_at s bytes places k ≡ framed s.n (record_of s k) = rw e in
      let same : get_or table k no_record ≡ entry_at s bytes places k =
      old_is ∙ sym (ap (replaced s.n (record_of s k)) none ∙ replaced-framed s.n (record_of s k)) in
      let more : table ≡ set_below (k + 1) (entry_at s bytes places) s.table =
      sym (set-get_or table k no_record) ∙ ap (set table k) same ∙ set_below_more k (entry_at s bytes places) s.table in
      λ i. with_entries s (held_more i) (more i)

  -- a record of it stands at a place
  pub acted_some :
      (get_or places k 0 ≡ 0 → ⊥) → (r : Record) → r ≡ replaced s.n (get_or table k no_record) (record_at bytes (get_or places k 0)) →
      with_entries s held (set table k r) ≡ acted_below s bytes places (k + 1)
  acted_some d r e =
      let some : record_at bytes (get_or places k 0) ≡ top_at s bytes places k = rw (ne_eqb (get_or places k 0) 0 d) in
      let is : r ≡ entry_at s bytes places k = e ∙ (λ i. replaced s.n (old_is i) (some i)) in
      let more : set table k r ≡ set_below (k + 1) (entry_at s bytes places) s.table =
      ap (set table k) is ∙ set_below_more k (entry_at s bytes places) s.table in
      λ i. with_entries s (held_more i) (more i)

-- all of it
pub acted_all :
    (s : Station) (bytes places taken : List ℕ) (e : Ear) →
    with_arrays (with_broadcast (acted_below s bytes places s.n) s.body e.count) e.acked e.labels
    (set_below s.n (holds_at places) s.held) (set_below s.n (entry_at s bytes places) s.table)
    (pushed_all s.lanes (takings_at bytes taken e.len))
    ≡ acts_on s bytes (heard_notes places taken e)
unfolding acted_on
acted_all s bytes places taken e = refl
