-- What was heard, taken into a table of records, station by station: below k it holds the newest
-- record heard of each station, and from k up it is as it was. Where nothing is held of a station
-- its record stays, for it is put in the place of itself.
use Prim.Native.Nat.{ℕ, ◌+◌}
use mathlib.Core.List.{List}
use mathlib.Core.Path.{◌≡◌, sym, ap, ◌∙◌}
use native.Mathlib.Omega.{arith}
use lib.ListN.{get_or, set}
use lib.Seq.{set-get_or}
use borrow.Author.Tests.{ne_eqb}
use Rattle.lists.specs.Below.{set_below}
use Rattle.lists.proofs.Laws.{set_below_more, set_below_above}
use Rattle.frame_spec.specs.declared.Record.{Record}
use Rattle.frame_spec.specs.Record.{no_record}
use Rattle.station_spec.specs.Hearing.{replaced}
use Rattle.station_spec.proofs.Cells.{replaced-framed}
use Rattle.hearing_spec.specs.Buffer.{record_at}
use Rattle.listening.specs.Listened.{entry_over}

module _ (n : ℕ) (bytes places : List ℕ) (old : List Record) (k : ℕ) where
  abbrev table : List Record
  table = set_below k (entry_over n bytes places old) old

  old_is : get_or table k no_record ≡ get_or old k no_record
  old_is = set_below_above k (entry_over n bytes places old) old k no_record (omega arith)

  -- nothing is held of station k
  pub records_none : get_or places k 0 ≡ 0 → table ≡ set_below (k + 1) (entry_over n bytes places old) old
  records_none e =
      let same : get_or table k no_record ≡ entry_over n bytes places old k =
      old_is ∙ sym (rw e (replaced-framed n (get_or old k no_record))) in
      sym (set-get_or table k no_record) ∙ ap (set table k) same ∙ set_below_more k (entry_over n bytes places old) old

  -- a record of it stands at a place
  pub records_some :
      (get_or places k 0 ≡ 0 → ⊥) → (r : Record) → r ≡ replaced n (get_or table k no_record) (record_at bytes (get_or places k 0)) →
      set table k r ≡ set_below (k + 1) (entry_over n bytes places old) old
  records_some d r e =
      let is : r ≡ entry_over n bytes places old k =
      e ∙ ap (λ (h : Record). replaced n h (record_at bytes (get_or places k 0))) old_is ∙ rw (ne_eqb (get_or places k 0) 0 d) in
      ap (set table k) is ∙ set_below_more k (entry_over n bytes places old) old
