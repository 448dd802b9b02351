-- What the calls of a list print, and what is kept of it: of station p, what the rounds of their
-- history report that p aired. By induction on the calls; the group stays inside its limits, and no
-- round has a number above 999,999.
use Prim.Native.Nat.{ℕ, suc, ◌+◌, ◌<◌, ◌≤◌}
use mathlib.Core.Path.{◌≡◌, refl, sym, ap, ◌∙◌}
use mathlib.Core.Bool.{Bool, true, false, cond, not}
use mathlib.Core.List.{List, [], ◌∷◌, ◌++◌, append-nil, append_assoc, map, map-append}
use native.Mathlib.Omega.{arith}
use lib.Dec.{ltb, eqb}
use lib.ListN.{length, length-append}
use borrow.Author.Tests.{ltb-true}
use Rattle.bodies.specs.declared.Body.TheVariants.{Empty}
use Rattle.bodies.specs.Refusals.{done}
use Rattle.bodies.specs.Limits.{postable, on_channel}
use Rattle.queues.specs.Waiting.{is_desk, has_room}
use Rattle.station_spec.specs.declared.Station.{Station}
use Rattle.station_spec.specs.declared.Taking.{Taking}
use Rattle.group_spec.specs.declared.Post as group
use Rattle.group_spec.specs.declared.RoundDone.{RoundDone}
use Rattle.group_spec.specs.State.{station_at, size_of, group_inside}
use Rattle.group_spec.specs.Calls.{group_post_refusal, group_post_call, round_call}
use Rattle.group_spec.specs.History.{Call, post, round, History, next, continued, collect, report_in}
use Rattle.group_spec.proofs.Members.{Members}
use Rattle.group_spec.proofs.MembersPost.{post_members, post_refusal}
use Rattle.group_spec.proofs.MembersRound.{round_members}
use Rattle.group_spec.proofs.PostsAccounted.{collect_last}
use Rattle.listing_lines.specs.Lines.{turned_down}
use Rattle.listing_spec.specs.Listing.{refusal_text, refused_text}
use Rattle.listing_spec.specs.Calls.{call_text, calls_text}
use Rattle.air_logs_spec.proofs.Carried.{empty_kind}
use Rattle.air_logs_spec.proofs.ReadBack.{in_columns}
use Rattle.air_logs_spec.proofs.Prints.{Prints, prints_none, prints_as, prints_both}
use Rattle.air_logs_spec.proofs.RoundLog.{logged, prints_other, aired_in, round_prints}

-- what a round adds to the log of station p of n; nothing where there is no such station
abbrev added : ℕ → ℕ → RoundDone → List Taking
added n p r = cond (ltb p n) (aired_in n (report_in r p)) []

unfoldable pub logged_list : ℕ → History → ℕ → List Taking
logged_list n H p = collect (added n p) H.rounds

-- how many of the calls are rounds
unfoldable pub rounds_of : List Call → ℕ
rounds_of [] = 0
rounds_of (post x ∷ cs) = rounds_of cs
rounds_of (round masks ∷ cs) = suc (rounds_of cs)

pub refusal_prints : (p u station refusal : ℕ) → u ≤ 999_999 → station < 1000 → refusal < 1000 → Prints p (refusal_text u station refusal) []
refusal_prints p u station refusal a b c =
    prints_other p true u turned_down station refusal Empty refl
    (λ e. in_columns u turned_down station refusal Empty (omega arith) refl b c empty_kind)

map-cond : (t : Bool) (xs : List Taking) → cond t (map logged xs) [] ≡ map logged (cond t xs [])
map-cond true xs = refl
map-cond false xs = refl

-- a post's refusal is a small number
post_small : (g : List Station) (x : group.Post) → (group_post_call g x).refusal < 1000
unfolding group_post_refusal
post_small g x =
    rw (post_refusal g x)
    (go (group_inside g) (ltb x.station (size_of g)) (is_desk x.desk) (postable x.body) (on_channel (station_at g x.station).edition x.body) (has_room (station_at g x.station).waiting x.desk))
  where
    go : (t u d v o w : Bool) → cond (not t) 2 (cond (not u) 1 (cond (not d) 15 (cond (not v) 4 (cond (not o) 17 (cond (not w) 3 0))))) < 1000
    go false u d v o w = omega arith
    go true false d v o w = omega arith
    go true true false v o w = omega arith
    go true true true false o w = omega arith
    go true true true true false w = omega arith
    go true true true true true true = omega arith
    go true true true true true false = omega arith

-- what calls do after a history
pub record Logs (p n : ℕ) (H : History) (calls : List Call) : Type 0 where
  pub more : List Taking
  pub prints : Prints p (calls_text n H calls) (map logged more)
  pub list : logged_list n (continued H calls) p ≡ logged_list n H p ++ more
  pub rounds : length (continued H calls).rounds ≡ length H.rounds + rounds_of calls

module _ (p n : ℕ) where
  refused_prints : (u k refusal : ℕ) → u ≤ 999_999 → n ≤ 16 → refusal < 1000 → Prints p (refused_text n u k refusal) []
  unfolding refused_text
  refused_prints u k refusal few high l = go (eqb refusal done) (ltb k n) refl
    where
      go : (t b : Bool) → ltb k n ≡ b → Prints p (cond t [] (refusal_text u (cond b k 0) refusal)) []
      go true b e = prints_none
      go false true e = refusal_prints p u k refusal few (omega (arith, ltb-true k n e)) l
      go false false e = refusal_prints p u 0 refusal few (omega arith) l

  post-prints : (H : History) (x : group.Post) → Members n H.group → length H.rounds ≤ 999_999 → Prints p (call_text n H (post x)) []
  unfolding call_text
  post-prints H x c few = refused_prints (length H.rounds) x.station _ few c.high (post_small H.group x)

  rounds_print :
      (H : History) (masks : List ℕ) → Members n H.group → length H.rounds < 999_999 →
      Prints p (call_text n H (round masks)) (map logged (added n p (round_call H.group masks)))
  unfolding call_text
  rounds_print H masks c few =
      prints_as (map-cond (ltb p n) _)
      (round_prints p n (length H.rounds + 1) (omega arith) H.group c masks)

  -- one call, and then others
  post-logs :
      (H : History) (x : group.Post) (cs : List Call) → Members n H.group → length H.rounds ≤ 999_999 → Logs p n (next H (post x)) cs →
      Logs p n H (post x ∷ cs)
  unfolding calls_text continued rounds_of next logged_list
  post-logs H x cs c few r =
      record {
        more = r.more;
        prints = prints_both (post-prints H x c few) r.prints;
        list = r.list;
        rounds = r.rounds;
      }

  round-logs :
      (H : History) (masks : List ℕ) (cs : List Call) → Members n H.group → length H.rounds < 999_999 →
      Logs p n (next H (round masks)) cs → Logs p n H (round masks ∷ cs)
  unfolding calls_text continued rounds_of next logged_list
  round-logs H masks cs c few r =
      let made = round_call H.group masks in
      let one = added n p made in
      record {
        more = one ++ r.more;
        prints =
            prints_as (sym (map-append logged one r.more))
            (prints_both (rounds_print H masks c few) r.prints);
        list =
            r.list
            ∙ ap (λ (l : List Taking). l ++ r.more) (collect_last (added n p) H.rounds made)
            ∙ append_assoc (collect (added n p) H.rounds) one r.more;
        rounds = r.rounds ∙ omega (arith, length-append H.rounds (made ∷ []));
      }

  none_logs : (H : History) → Logs p n H []
  unfolding calls_text continued rounds_of
  none_logs H = record { more = []; prints = prints_none; list = sym (append-nil (logged_list n H p)); rounds = omega arith }

  post_group : (H : History) (x : group.Post) → Members n H.group → Members n (next H (post x)).group
  unfolding next
  post_group H x c = post_members n H.group c x

  round_group : (H : History) (masks : List ℕ) → Members n H.group → Members n (next H (round masks)).group
  unfolding next
  round_group H masks c = round_members n H.group c masks

  -- the rounds that are left
  post_left :
      (H : History) (x : group.Post) (cs : List Call) → length H.rounds + rounds_of (post x ∷ cs) ≤ 999_999 →
      length (next H (post x)).rounds + rounds_of cs ≤ 999_999
  unfolding next rounds_of
  post_left H x cs l = l

  round_few :
      (H : History) (masks : List ℕ) (cs : List Call) → length H.rounds + rounds_of (round masks ∷ cs) ≤ 999_999 → length H.rounds < 999_999
  unfolding rounds_of
  round_few H masks cs l = omega arith

  round_left :
      (H : History) (masks : List ℕ) (cs : List Call) → length H.rounds + rounds_of (round masks ∷ cs) ≤ 999_999 →
      length (next H (round masks)).rounds + rounds_of cs ≤ 999_999
  unfolding next rounds_of
  round_left H masks cs l = omega (arith, length-append H.rounds (round_call H.group masks ∷ []))

  pub calls_log : (cs : List Call) (H : History) → Members n H.group → length H.rounds + rounds_of cs ≤ 999_999 → Logs p n H cs
  calls_log [] H c few = none_logs H
  calls_log (post x ∷ cs) H c few =
      post-logs H x cs c (omega arith) (calls_log cs (next H (post x)) (post_group H x c) (post_left H x cs few))
  calls_log (round masks ∷ cs) H c few =
      round-logs H masks cs c (round_few H masks cs few) (calls_log cs (next H (round masks)) (round_group H masks c) (round_left H masks cs few))
