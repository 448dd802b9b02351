use Rattle.std.proofs.Common.{ℕ, List}
use Rattle.planning_spec.specs.LinkLog.{links_of}
use Rattle.planning_spec.specs.Arrival.{Arrival}
use Rattle.planning.specs.Stands.{Stands}
use Rattle.planning.specs.Replies.{Replied}
use Rattle.planning.proofs.questions.reply_all.Given as goal

pub record Replying (n u count : ℕ) (log page sets ends last : List ℕ) (replies : List Arrival) : Type 0 where
  pub stands : Stands (links_of n log) u sets ends last
  pub replied : Replied (links_of n log) u count page replies

abbrev pub invariant-loop-u : goal.invariant-loop-u
invariant-loop-u l = Replying l.n l.u l.count l.log l.page l.sets l.ends l.last l.replies
