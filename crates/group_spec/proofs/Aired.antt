-- Row k of every station is the k-th body that each station started, for a lane's oldest body is
-- the first of its source's that is not aired. So every aired list is a beginning of one list of
-- rows, and of two aired lists one is a beginning of the other.
use mathlib.Core.Bool.{Bool, true, false, cond}
use mathlib.Core.Logic.{◌⊎◌, inl, inr}
use mathlib.Core.List.{List, [], ◌++◌, append-nil}
use mathlib.Core.Path.{◌≡◌, refl, sym, ap, ◌∙◌}
use Prim.Native.Nat.{ℕ, zero, suc, min, ◌+◌, ◌-◌, ◌≤◌, ◌<◌}
use native.Mathlib.Decide.{dec_le}
use native.Mathlib.Nat.{add-zero}
use native.Mathlib.Omega.{arith}
use borrow.Author.Tests.{ltb-true}
use lib.Dec.{ltb}
use lib.ListN.{get_or, drop, length-drop}
use lib.Seq.{get_or-drop}
use Rattle.bodies.specs.declared.Body.{Body}
use Rattle.bodies.specs.declared.Body.TheVariants.{Empty}
use Rattle.bodies.specs.Body.{is_edit}
use Rattle.lists.proofs.Later.{from_on}
use Rattle.links.specs.Relay.{Links}
use Rattle.links.specs.Inner.Clock.{news}
use Rattle.lists.specs.Below.{filter_map}
use Rattle.lists.proofs.Laws.{all_below_at, filter_map_ext}
use Rattle.queues.specs.declared.Slot.{Slot}
use Rattle.station_spec.specs.declared.Taking.{Taking}
use Rattle.queues.specs.Queue.{no_slot}
use Rattle.station_spec.specs.State.{lane_at}
use Rattle.station_spec.specs.Turn.{airs}
use Rattle.queues.proofs.LaneLaws.{holds_first}
use Rattle.station_spec.proofs.TurnParts.{report_aired, report_row, row_at}
use Rattle.group_spec.specs.History.{edits_of}
use Rattle.group_spec.specs.Demand.{Begins}
use Rattle.group_spec.proofs.Run.{Run, links_of, hearing_in}
use Rattle.group_spec.proofs.Simulation.{heard_standing}
use Rattle.group_spec.proofs.Begin.{begins_refl, begins-append, begins_trans, begins_get_d}
use Rattle.group_spec.proofs.Lists.{started_by, aired_by, rows_by, made_by, started_at, turn_in}
use Rattle.group_spec.proofs.Taken.{version_begins, length_version}
use Rattle.group_spec.proofs.Counting.{reached}
use Rattle.group_spec.proofs.Lanes.{hearing_holds, airs_exactly}

-- the k-th body that each station has started by round u: the edits among them, each with its
-- source
unfoldable pub row_by : Run → ℕ → ℕ → List Taking
row_by R u k =
    filter_map
    R.n
    (λ s. is_edit (get_or (started_by R u s) k Empty))
    (λ s. record { source = s; body = get_or (started_by R u s) k Empty })

-- the first k of these rows
unfoldable pub rows_of : Run → ℕ → ℕ → List Taking
rows_of R u zero = []
rows_of R u (suc k) = rows_of R u k ++ row_by R u k

-- the edits of a row whose bodies are known
edits_ext : (n : ℕ) (row : List Slot) (f : ℕ → Body) → ((s : ℕ) → s < n → (get_or row s no_slot).body ≡ f s)
    → edits_of n row ≡ filter_map n (λ s. is_edit (f s)) (λ s. record { source = s; body = f s })
unfolding edits_of
edits_ext n row f h =
    filter_map_ext
    n
    (λ k. is_edit (get_or row k no_slot).body)
    (λ k. is_edit (f k))
    (λ k. record { source = k; body = (get_or row k no_slot).body })
    (λ k. record { source = k; body = f k })
    (λ k l. ap (λ (b : Body). is_edit b) (h k l))
    (λ k l. ap {B = Taking} (λ (b : Body). record { source = k; body = b }) (h k l))

module _ (R : Run) where
  abbrev L : Links
  L = links_of R

  -- the oldest body of a lane where a row is aired
  oldest_at : (u v p s : ℕ) → u ≤ v → p < R.n → s < R.n → airs (hearing_in R u p).station ≡ true
      → (lane_at (hearing_in R u p).station s).first ≡ get_or (started_by R v s) (rows_by R u p) Empty
  oldest_at u v p s h lp ls e =
      let k = rows_by R u p in
      let w = min (suc u) (news L (suc u) p s) in
      let len = length_version R s w in
      let more : k < reached L (made_by R) u p s =
      ltb-true
      k
      (reached L (made_by R) u p s)
      (all_below_at R.n (λ r. ltb k (reached L (made_by R) u p r)) (sym (airs_exactly R u p lp) ∙ e) s ls) in
      holds_first
      (lane_at (hearing_in R u p).station s)
      (drop k (started_at R s w))
      Empty
      (hearing_holds R u p s lp ls)
      (omega (arith, length-drop k (started_at R s w)))
      ∙ get_or-drop k (started_at R s w) 0 Empty
      ∙ ap (λ (i : ℕ). get_or (started_at R s w) i Empty) (add-zero k)
      ∙ begins_get_d (started_at R s w) (started_by R v s) (version_begins R w v s (omega arith)) k Empty (omega arith)

  -- The row that p airs after k others has the k-th body that each station started.
  pub row_body : (u v p s : ℕ) → u ≤ v → p < R.n → s < R.n → airs (hearing_in R u p).station ≡ true
      → (get_or (turn_in R u p).row s no_slot).body ≡ get_or (started_by R v s) (rows_by R u p) Empty
  row_body u v p s h lp ls e =
      let t = (hearing_in R u p).station in
      let m = (heard_standing R u p lp).formed in
      ap (λ (row : List Slot). (get_or row s no_slot).body) (report_row t e)
      ∙ row_at t s (omega (arith, m.size)) (omega (arith, m.size, R.high))
      ∙ oldest_at u v p s h lp ls e

  row_aired : (u v p : ℕ) → u ≤ v → p < R.n → airs (hearing_in R u p).station ≡ true
      → edits_of R.n (turn_in R u p).row ≡ row_by R v (rows_by R u p)
  unfolding row_by
  row_aired u v p h lp e =
      edits_ext
      R.n
      (turn_in R u p).row
      (λ s. get_or (started_by R v s) (rows_by R u p) Empty)
      (λ s ls. row_body u v p s h lp ls e)

  -- By the end of round u a station has aired the first rows, as far as it has come.
  pub aired_rows : (u v p : ℕ) → u ≤ v → p < R.n → aired_by R u p ≡ rows_of R v (rows_by R u p)
  unfolding aired_by rows_by rows_of
  aired_rows zero v p h lp = refl
  aired_rows (suc u) v p h lp =
      go (airs (hearing_in R u p).station) refl (report_aired (hearing_in R u p).station) (aired_rows u v p (omega arith) lp)
    where
      go : (b : Bool)
          → airs (hearing_in R u p).station ≡ b
          → (turn_in R u p).aired ≡ airs (hearing_in R u p).station
          → aired_by R u p ≡ rows_of R v (rows_by R u p)
          → aired_by R u p ++ cond (turn_in R u p).aired (edits_of R.n (turn_in R u p).row) []
          ≡ rows_of R v (cond (turn_in R u p).aired (suc (rows_by R u p)) (rows_by R u p))
      go true e a before = rw (a, e, row_aired u v p (omega arith) lp e, before)
      go false e a before = rw (a, e, before) (append-nil (rows_of R v (rows_by R u p)))

  -- fewer rows are a beginning of more
  pub rows_begin : (k m v : ℕ) → k ≤ m → Begins (rows_of R v k) (rows_of R v m)
  unfolding rows_of
  rows_begin k m v =
      from_on (λ j. Begins (rows_of R v k) (rows_of R v j)) k (begins_refl (rows_of R v k))
      (λ j l h. begins_trans (rows_of R v k) (rows_of R v j) (rows_of R v j ++ row_by R v j) h (begins-append (rows_of R v j) (row_by R v j)))
      m

  -- Of two aired lists one is a beginning of the other.
  pub aired_lists_agree : (u p q : ℕ) → p < R.n → q < R.n
      → Begins (aired_by R u p) (aired_by R u q) ⊎ Begins (aired_by R u q) (aired_by R u p)
  aired_lists_agree u p q lp lq =
      rw (aired_rows u u p (omega arith) lp, aired_rows u u q (omega arith) lq)
      (elim (dec_le (rows_by R u p) (rows_by R u q)) [
        | yes h ↦ inl (rows_begin (rows_by R u p) (rows_by R u q) u h)
        | no h ↦ inr (rows_begin (rows_by R u q) (rows_by R u p) u (omega arith))
      ])
