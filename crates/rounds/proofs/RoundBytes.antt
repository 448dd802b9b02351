-- A round's bytes and its definition say the same: hearing the frames of a mask where they stand in
-- the bytes is hearing the tables of its senders. By induction over the senders.
use Prim.Native.Nat.{ℕ, zero, suc, ◌≤◌, ◌<◌}
use mathlib.Core.Bool.{cond}
use mathlib.Core.List.{List}
use mathlib.Core.Path.{◌≡◌, refl, sym}
use native.Mathlib.Omega.{arith}
use lib.ListN.{get_or}
use borrow.Author.Tests.{lt-ltb}
use Rattle.links.specs.Log.{hears_in}
use Rattle.station_spec.specs.declared.Station.{Station}
use Rattle.station_spec.specs.Hearing.{initial_hearing, hear_frame}
use Rattle.group_spec.specs.State.{station_at, size_of}
use Rattle.group_spec.specs.Calls.{heard_below}
use Rattle.hearing_spec.specs.Buffer.{hears_sender, hear_senders}
use Rattle.rounds.proofs.GroupFrames.{records_of_lem}
use Rattle.rounds.proofs.WrittenFrames.{AllSent}

module _ (g : List Station) (masks bytes : List ℕ) (sent : AllSent g bytes) (i : ℕ) (below : i < size_of g) where
  hears_is : (j : ℕ) → j < size_of g → hears_in (size_of g) masks i j ≡ hears_sender i (get_or masks i 0) j
  unfolding hears_in
  hears_is j l = rw (lt-ltb i (size_of g) below, lt-ltb j (size_of g) l)

  pub heard_below_lem :
      (j : ℕ) → j ≤ size_of g → hear_senders (initial_hearing (station_at g i)) bytes i (get_or masks i 0) j ≡ heard_below g masks i j
  unfolding hear_senders heard_below
  heard_below_lem zero l = refl
  heard_below_lem (suc j) l =
      let hears = sym (hears_is j l) in
      let before = heard_below_lem j (omega arith) in
      let records = records_of_lem g sent.inside sent.counts bytes sent.frames j l in
      λ t. cond (hears t) (hear_frame (before t) (records t)) (before t)
