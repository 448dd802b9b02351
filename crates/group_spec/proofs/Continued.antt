-- Calls after calls: what a history has of rounds, accepted posts, starts and aired edits stays at
-- the beginning of what any further calls leave.
use mathlib.Core.List.{List, [], ◌∷◌, ◌++◌}
use mathlib.Core.Path.{◌≡◌, refl}
use Prim.Native.Nat.{ℕ}
use Rattle.group_spec.specs.Calls.{round_call}
use Rattle.group_spec.specs.History.{History, Call, Call.post, Call.round, next, continued, started, aired_list}
use Rattle.group_spec.specs.Demand.{Begins}
use Rattle.group_spec.proofs.Begin.{begins_refl, begins-append, begins_trans}
use Rattle.group_spec.proofs.PostsAccounted.{collect_last}

pub continued-append : (H : History) (xs ys : List Call) → continued H (xs ++ ys) ≡ continued (continued H xs) ys
unfolding continued
continued-append H [] ys = refl
continued-append H (x ∷ xs) ys = continued-append (next H x) xs ys

pub continued_more : (H : History) (x : Call) (xs : List Call) → continued H (x ∷ xs) ≡ continued (next H x) xs
unfolding continued
continued_more H x xs = refl

module _ {A : Type 0} (f : History → List A) (grows : (H : History) (x : Call) → Begins (f H) (f (next H x))) where
  begins-continued : (H : History) (xs : List Call) → Begins (f H) (f (continued H xs))
  unfolding continued
  begins-continued H [] = begins_refl (f H)
  begins-continued H (x ∷ xs) = begins_trans (f H) (f (next H x)) _ (grows H x) (begins-continued (next H x) xs)

next_rounds : (H : History) (x : Call) → Begins H.rounds (next H x).rounds
unfolding next
next_rounds H (post x) = begins_refl H.rounds
next_rounds H (round masks) = begins-append H.rounds _

pub next_accepted : (H : History) (x : Call) → Begins H.accepted (next H x).accepted
unfolding next
next_accepted H (post x) = begins-append H.accepted _
next_accepted H (round masks) = begins_refl H.accepted

pub next_starts : (H : History) (x : Call) → Begins H.starts (next H x).starts
unfolding next
next_starts H (post x) = begins_refl H.starts
next_starts H (round masks) = begins-append H.starts _

pub next-started : (p : ℕ) (H : History) (x : Call) → Begins (started H p) (started (next H x) p)
unfolding started next
next-started p H (post x) = begins_refl _
next-started p H (round masks) = rw (collect_last _ H.rounds (round_call H.group masks)) (begins-append _ _)

next_aired : (n q : ℕ) (H : History) (x : Call) → Begins (aired_list n H q) (aired_list n (next H x) q)
unfolding aired_list next
next_aired n q H (post x) = begins_refl _
next_aired n q H (round masks) = rw (collect_last _ H.rounds (round_call H.group masks)) (begins-append _ _)

pub rounds_begin : (H : History) (xs : List Call) → Begins H.rounds (continued H xs).rounds
rounds_begin = begins-continued (λ H. H.rounds) next_rounds

pub accepted_begin : (H : History) (xs : List Call) → Begins H.accepted (continued H xs).accepted
accepted_begin = begins-continued (λ H. H.accepted) next_accepted

pub starts_begin : (H : History) (xs : List Call) → Begins H.starts (continued H xs).starts
starts_begin = begins-continued (λ H. H.starts) next_starts

pub aired_begin : (n q : ℕ) (H : History) (xs : List Call) → Begins (aired_list n H q) (aired_list n (continued H xs) q)
aired_begin n q = begins-continued (λ H. aired_list n H q) (next_aired n q)
