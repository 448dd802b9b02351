-- Rows over a list of calls: with good links everybody catches up within the delay and airs one
-- more within three; with any links two stations are one row apart at most.
use Prim.Native.Nat.{ℕ, ◌+◌, ◌*◌}
use native.Mathlib.Omega.{arith}
use lib.ListN.{length}
use Rattle.group_spec.specs.History.{history_of}
use Rattle.group_spec.proofs.Setups.{accepts}
use Rattle.group_spec.proofs.Run.{Run, links_of}
use Rattle.group_spec.proofs.Lists.{rows_by}
use Rattle.group_spec.proofs.Aired.{rows_begin}
use Rattle.group_spec.proofs.CallRun.{run_of}
use Rattle.group_spec.proofs.HistoryRun.{history_links}
use Rattle.group_spec.proofs.DemandThree.{free}
use Rattle.delivery_spec.specs.Delivery.{Near, RowsGoOn, RowsClose}
use Rattle.delivery_spec.proofs.Progress.{Filled, rows_close, rows_progress, rows_caught}
use Rattle.delivery_spec.proofs.Rounds.{aired_by, rows_counted, run_filled}

pub rows_go_on : RowsGoOn
rows_go_on setup fresh calls delay from to room near =
    record {
      all_catch_up =
          λ u p q lp lq f l.
          rw (
            aired_by setup fresh calls u last p (omega (arith, room)) (omega (arith, room)) lp,
            aired_by setup fresh calls (u + delay) last q (omega (arith, room)) (omega (arith, room)) lq,
          )
          (rows_begin R (rows_by R u p) (rows_by R (u + delay) q) last
          (rows_caught R filled delay from to near_run u p q lp lq f l));
      one_more =
          λ u k f l all p lp.
          rw (rows_counted setup fresh calls (u + 3 * delay) p (omega (arith, room)) lp)
          (rows_progress R filled delay from to near_run u k f l
          (λ q lq. rw (← rows_counted setup fresh calls u q (omega (arith, room)) lq) (all q lq))
          p
          lp);
    }
  where
    R : Run
    R = run_of setup (accepts setup fresh) calls

    last : ℕ
    last = length (history_of setup calls).rounds

    filled : Filled R
    filled = run_filled setup fresh calls

    near_run : Near (links_of R) delay from to
    near_run = rw (← history_links setup (accepts setup fresh) calls (free setup fresh calls)) near

pub rows_stay_close : RowsClose
rows_stay_close setup fresh calls u p q lp lq l =
    rw (rows_counted setup fresh calls u p l lp, rows_counted setup fresh calls u q l lq)
    (rows_close (run_of setup (accepts setup fresh) calls) u p q lp lq)
