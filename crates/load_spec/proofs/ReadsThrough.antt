-- A generated script is read to its end. Every line is one of three, and leaves a session of n
-- stations that has not stopped and whose group is inside its limits; so a post is accepted or
-- meets a full queue. Rounds are counted by the induction, which never passes the last that a
-- listing numbers.
use mathlib.Core.Path.{◌≡◌, refl, ap, ◌∙◌}
use mathlib.Core.Bool.{Bool, true, false, cond, not, ◌&&◌, ◌||◌}
use mathlib.Core.List.{List, [], ◌∷◌, ◌++◌}
use mathlib.Core.Logic.{◌⊎◌, inl, inr, ⊎_elim}
use Prim.Native.Nat.{ℕ, zero, suc, ◌+◌, ◌≤◌, ◌<◌}
use native.Mathlib.Omega.{arith}
use lib.Dec.{ltb}
use lib.IntN.{pos}
use borrow.Author.Tests.{lt-ltb, le-leb}
use Rattle.bodies.specs.declared.Body.TheVariants.{Insert}
use Rattle.bodies.specs.Body.{body_of}
use Rattle.bodies.specs.Refusals.{done, queue_full, refuse_number}
use Rattle.bodies.specs.Limits.{numbers_inside, channel_inside, on_channel, inside_kind, postable}
use Rattle.bodies.proofs.Examples.{insert_small}
use Rattle.lists.specs.Below.{filter_map}
use Rattle.station_spec.specs.declared.Station.{Station}
use Rattle.group_spec.specs.State.{station_at, size_of, edition_of}
use Rattle.queues.specs.Waiting.{is_desk, has_room}
use Rattle.group_spec.specs.declared.Post as group
use Rattle.group_spec.specs.Calls.{group_fresh_call, group_fresh_refusal, group_post_refusal, group_post_call}
use Rattle.group_spec.proofs.Members.{Members, members_inside, fresh_members, fresh_edition}
use Rattle.group_spec.proofs.MembersPost.{post_members, post_refusal}
use Rattle.group_spec.proofs.MembersRound.{round_members}
use Rattle.group_spec.proofs.EditionKept.{post_edition, round_edition}
use Rattle.script.specs.declared.Command.{Command}
use Rattle.script.specs.declared.Command.TheVariants.{Size, Post, Round}
use Rattle.script.specs.Line.{command_of, masks_of}
use Rattle.listing_spec.specs.declared.Session.{Session}
use Rattle.listing_spec.specs.Listing.{session_begun, setup_of, post_of, posted_body, sized_by, posted_by, rounded_by, obeyed, after, malformed_text, rest_text, last_round}
use Rattle.listing_spec.proofs.LineEnds.{no_end}
use Rattle.load_spec.specs.Draws.{post_draw, posts, after_round}
use Rattle.load_spec.specs.Script.{size_line, post_line, mask_line, post_lines, round_lines, rounds_lines, script_lines, script_of}
use Rattle.load_spec.proofs.Draws.{post_draw_small}
use Rattle.load_spec.specs.Reading.{post_answer, Fine, Through, at_end, past, LoadsRead}
use Rattle.load_spec.proofs.Ends.{NoEnds, no_line, one_more, no_ends-append, no_end_line, all_lines, lines_found}
use Rattle.load_spec.proofs.Commands.{size_said, post_said, round_said}

-- a session of n stations that has done r rounds
record At (n r : ℕ) (s : Session) : Type 0 where
  size : s.n ≡ n
  rounds : s.rounds ≡ r
  reading : s.stopped ≡ false
  members : Members n s.group
  edition : edition_of s.group ≡ 0

-- what a draw posts is an edit
insert_inside : (d : ℕ) → d ≤ 65535 → numbers_inside 2 (d + 1) (pos d) ≡ true
insert_inside d h = insert_small (d + 1) d (omega arith) (omega arith) h

insert_made : (d : ℕ) → d ≤ 65535 → posted_body 2 (d + 1) (pos d) ≡ Insert 0 (d + 1) (pos d)
unfolding posted_body body_of
insert_made d h = rw (insert_inside d h)

is_insert : (d : ℕ) → d ≤ 65535 → postable (posted_body 2 (d + 1) (pos d)) ≡ true
unfolding postable inside_kind
is_insert d h = rw (insert_made d h) (insert_inside d h)

-- in edition 0, where it has no channel
no_channel : (d : ℕ) → d ≤ 65535 → on_channel 0 (posted_body 2 (d + 1) (pos d)) ≡ true
unfolding channel_inside
no_channel d h = rw (insert_made d h)

post_room :
    (n : ℕ) (g : List Station) (x : group.Post) → Members n g → x.station < n → is_desk x.desk ≡ true → postable x.body ≡ true →
    on_channel (edition_of g) x.body ≡ true →
    ((group_post_call g x).refusal ≡ done) ⊎ ((group_post_call g x).refusal ≡ queue_full)
unfolding group_post_refusal
post_room n g x c h d e o =
    rw (post_refusal g x, members_inside n g c, lt-ltb x.station (size_of g) (omega (arith, c.size)), d, e, on)
    (go (not (has_room (station_at g x.station).waiting x.desk)))
  where
    on : on_channel (station_at g x.station).edition x.body ≡ true
    on = ap (λ (k : ℕ). on_channel k x.body) (c.member x.station h).edition ∙ o

    go : (t : Bool) → (refuse_number t queue_full done ≡ done) ⊎ (refuse_number t queue_full done ≡ queue_full)
    go true = inr refl
    go false = inl refl

-- a line by its command
obeys : (s : Session) (l : List ℕ) (c : Command) → s.stopped ≡ false → command_of s.n l ≡ c → after s l ≡ obeyed s (masks_of s.n l) c
unfolding after
obeys s l c e f = go s.stopped (command_of s.n l) e f
  where
    go : (t : Bool) (d : Command) → t ≡ false → d ≡ c → cond t s (obeyed s (masks_of s.n l) d) ≡ obeyed s (masks_of s.n l) c
    go t d e f = rw (e, f)

module _ (n r : ℕ) (s : Session) (a : At n r s) where
  module _ (p d : ℕ) (h : p < n) (small : d ≤ 65535) where
    said_post : command_of s.n (post_line p d) ≡ Post p 2 (d + 1) (pos d)
    said_post = ap (λ (m : ℕ). command_of m (post_line p d)) a.size ∙ post_said n p d a.members.low (omega (arith, a.members.high)) small

    post_fine : Fine s (post_line p d)
    post_fine =
        let e = said_post in
        record {
          reading = a.reading;
          formed = λ f. let z : ◌≡◌ {A = ℕ} 0 1 = cc in omega arith;
          room =
              ⊎_elim (λ q. inl (ap (post_answer s) e ∙ q)) (λ q. inr (ap (post_answer s) e ∙ q))
              (post_room n s.group (post_of p 2 (d + 1) (pos d)) a.members h refl (is_insert d small)
              (ap (λ (k : ℕ). on_channel k (posted_body 2 (d + 1) (pos d))) a.edition ∙ no_channel d small));
        }

    post_after : At n r (after s (post_line p d))
    unfolding obeyed posted_by
    post_after =
        rw (obeys s (post_line p d) (Post p 2 (d + 1) (pos d)) a.reading said_post)
        (record {
          size = a.size;
          rounds = a.rounds;
          reading = refl;
          members = post_members n s.group a.members (post_of p 2 (d + 1) (pos d));
          edition = post_edition n s.group a.members (post_of p 2 (d + 1) (pos d)) 0 ∙ a.edition;
        })

  module _ (seed : ℕ) where
    said_round : command_of s.n (mask_line seed n) ≡ Round
    said_round = ap (λ (m : ℕ). command_of m (mask_line seed n)) a.size ∙ round_said seed n a.members.low a.members.high

    round_fine : Fine s (mask_line seed n)
    round_fine =
        let e = said_round in
        record {
          reading = a.reading;
          formed = λ f. let z : ◌≡◌ {A = ℕ} 0 1 = cc in omega arith;
          room = inl (ap (post_answer s) e);
        }

    round_after : r < last_round → At n (suc r) (after s (mask_line seed n))
    unfolding obeyed rounded_by
    round_after h =
        rw (
          obeys s (mask_line seed n) Round a.reading said_round,
          lt-ltb s.rounds last_round (omega (arith, a.rounds)),
        )
        (record {
          size = a.size;
          rounds = omega (arith, a.rounds);
          reading = refl;
          members = round_members n s.group a.members (masks_of s.n (mask_line seed n));
          edition = round_edition n s.group a.members (masks_of s.n (mask_line seed n)) 0 a.members.low ∙ a.edition;
        })

-- lines that are fine, from one session to another
data Goes : Session → List (List ℕ) → Session → Type 0 where
  stays : {s : Session} → Goes s [] s
  goes : {s t : Session} {ls : List (List ℕ)} (l : List ℕ) → Fine s l → Goes (after s l) ls t → Goes s (l ∷ ls) t

goes-append : {s t u : Session} {a b : List (List ℕ)} → Goes s a t → Goes t b u → Goes s (a ++ b) u
goes-append stays q = q
goes-append (goes l f p) q = goes l f (goes-append p q)

-- sessions that lines lead to
record Leads (n r : ℕ) (s : Session) (ls : List (List ℕ)) : Type 0 where
  session : Session
  path : Goes s ls session
  there : At n r session
  ends : NoEnds ls

leads-append : {n r r' : ℕ} {s : Session} {a b : List (List ℕ)} (first : Leads n r s a) → Leads n r' first.session b → Leads n r' s (a ++ b)
leads-append first next =
    record {
      session = next.session;
      path = goes-append first.path next.path;
      there = next.there;
      ends = no_ends-append first.ends next.ends;
    }

post_ends : (p d : ℕ) → no_end (post_line p d) ≡ true
unfolding post_line
post_ends p d = no_end_line 80 _ (λ e. absurd (omega arith))

mask_ends : (seed n : ℕ) → no_end (mask_line seed n) ≡ true
unfolding mask_line
mask_ends seed n = no_end_line 82 _ (λ e. absurd (omega arith))

size_ends : (n : ℕ) → no_end (size_line n) ≡ true
unfolding size_line
size_ends n = no_end_line 78 _ (λ e. absurd (omega arith))

-- the posts of the stations below k
posts_lead : (n r seed k : ℕ) (s : Session) → At n r s → k ≤ n → Leads n r s (post_lines seed k)
unfolding post_lines filter_map
posts_lead n r seed zero s a h = record { session = s; path = stays; there = a; ends = no_line }
posts_lead n r seed (suc k) s a h =
    let before = posts_lead n r seed k s a (omega arith) in leads-append before (last (posts (post_draw seed k)) before.session before.there)
  where
    last : (t : Bool) (u : Session) → At n r u → Leads n r u (cond t (post_line k (post_draw seed k) ∷ []) [])
    last true u b =
        record {
          session = after u (post_line k (post_draw seed k));
          path = goes (post_line k (post_draw seed k)) (post_fine n r u b k (post_draw seed k) h (post_draw_small seed k)) stays;
          there = post_after n r u b k (post_draw seed k) h (post_draw_small seed k);
          ends = one_more (post_ends k (post_draw seed k)) no_line;
        }
    last false u b = record { session = u; path = stays; there = b; ends = no_line }

round_leads : (n r seed : ℕ) (s : Session) → At n r s → r < last_round → Leads n (suc r) s (round_lines seed n)
unfolding round_lines
round_leads n r seed s a h =
    let before = posts_lead n r seed n s a (omega arith) in
    leads-append before
    (record {
      session = after before.session (mask_line seed n);
      path = goes (mask_line seed n) (round_fine n r before.session before.there seed) stays;
      there = round_after n r before.session before.there seed h;
      ends = one_more (mask_ends seed n) no_line;
    })

rounds_lead :
    (n r total seed count : ℕ) (s : Session) → At n r s → r + count ≡ total → total ≤ last_round → Leads n total s (rounds_lines seed n count)
unfolding rounds_lines
rounds_lead n r total seed zero s a e h =
    record {
      session = s;
      path = stays;
      there = record { size = a.size; rounds = a.rounds ∙ omega arith; reading = a.reading; members = a.members; edition = a.edition };
      ends = no_line;
    }
rounds_lead n r total seed (suc count) s a e h =
    let first = round_leads n r seed s a (omega arith) in
    leads-append first (rounds_lead n (suc r) total (after_round n seed) count first.session first.there (omega arith) h)

-- the `N` line
module _ (n : ℕ) (low : 1 ≤ n) (high : n ≤ 16) where
  said_size : command_of session_begun.n (size_line n) ≡ Size n
  unfolding session_begun
  said_size = size_said n low high

  size_fine : Fine session_begun (size_line n)
  unfolding session_begun
  size_fine =
      let e = said_size in
      record {
        reading = refl;
        formed = λ f. let z : ◌≡◌ {A = ℕ} 0 1 = cc in omega arith;
        room = inl (ap (post_answer session_begun) e);
      }

  size_after : At n 0 (after session_begun (size_line n))
  unfolding obeyed sized_by group_fresh_call group_fresh_refusal session_begun
  size_after =
      rw (obeys session_begun (size_line n) (Size n) refl said_size, le-leb 1 n low, le-leb n 16 high)
      (record { size = refl; rounds = refl; reading = refl; members = fresh_members (setup_of n) high low refl (omega arith); edition = fresh_edition (setup_of n) high 0 low })

-- what goes through all lines goes through the text of them
goes_through : {s t : Session} {ls : List (List ℕ)} → Goes s ls t → t.stopped ≡ false → rest_text t 0 ≡ [] → Through s (all_lines ls) t
unfolding all_lines
goes_through stays e q = at_end e q
goes_through (goes l f p) e q = past l f (goes_through p e q)

nothing_left : (n r : ℕ) (s : Session) → At n r s → rest_text s 0 ≡ []
unfolding rest_text
nothing_left n r s a = go s.stopped (ltb 0 s.n) a.reading (lt-ltb 0 s.n (omega (arith, a.size, a.members.low)))
  where
    go : (t u : Bool) → t ≡ false → u ≡ true → cond (t || (u && true)) [] (malformed_text s) ≡ []
    go t u e f = rw (e, f)

pub loads_read : LoadsRead
unfolding script_of script_lines
loads_read seed n count low high most =
    let first = size_after n low high in
    let rest = rounds_lead n 0 count seed count (after session_begun (size_line n)) first (omega arith) most in
    let path = goes (size_line n) (size_fine n low high) rest.path in
    let found = lines_found (one_more (size_ends n) rest.ends) in
    record {
      end = rest.session;
      through =
          rw found (goes_through path rest.there.reading (nothing_left n count rest.session rest.there));
      size = rest.there.size;
      rounds = rest.there.rounds;
    }
