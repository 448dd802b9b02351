-- Every entry of an aired list is one accepted post. Entry k of a source is the k-th edit that the
-- source started, for aired lists begin the starts; that start is number j of its desk's starts,
-- and so number j of its desk's accepted posts, for the starts of a desk begin these.
use Prim.Native.Nat.{ℕ, zero, suc, ◌≤◌, ◌<◌}
use mathlib.Core.Bool.{Bool, true, false, cond}
use mathlib.Core.Logic.{⊎_elim}
use mathlib.Core.List.{List, [], ◌∷◌}
use mathlib.Core.Path.{◌≡◌, refl, sym, ap, ◌∙◌}
use native.Mathlib.Decide.{dec_le}
use native.Mathlib.Omega.{arith}
use lib.ListN.{get_or, length, take}
use lib.Seq.{take-append_seam, get_or-append_seam}
use borrow.Author.Tests.{eq-eqb}
use Rattle.bodies.specs.declared.Body.{Body}
use Rattle.bodies.specs.declared.Body.TheVariants.{Empty}
use Rattle.bodies.specs.Body.{is_edit}
use Rattle.bodies.specs.Refusals.{done}
use Rattle.lists.specs.Below.{filter_map}
use Rattle.queues.specs.Queue.{no_slot}
use Rattle.queues.specs.declared.Slot.{Slot}
use Rattle.station_spec.specs.declared.Setup.{Setup}
use Rattle.station_spec.specs.declared.Taking.{Taking}
use Rattle.group_spec.specs.declared.Post.{Post}
use Rattle.group_spec.specs.declared.RoundDone.{RoundDone}
use Rattle.group_spec.specs.Calls.{no_taking, group_fresh_refusal, group_post_refusal, group_post_call}
use Rattle.group_spec.specs.History.{History, Call, Call.post, next, continued, history_of, report_in, collect, takings_of, posts_at, posts_of, edits_of, aired_list}
use Rattle.group_spec.specs.Demand.{Begins}
use Rattle.group_spec.specs.Replies.{Edit, no_post, edit_after, edit_at, posts_from, entry_edit, aired_edit, AiredAt, Posted, Identified, EditsIdentified}
use Rattle.group_spec.proofs.Setups.{Accepts, accepts}
use Rattle.group_spec.proofs.MembersPost.{post_refusal}
use Rattle.group_spec.proofs.Begin.{begins-append, begins_get_d, begins-length}
use Rattle.group_spec.proofs.PostsAccounted.{Kept, kept_history, waits}
use Rattle.group_spec.proofs.DemandThree.{free, demand_three}
use Rattle.group_spec.proofs.AiredOrder.{aired_begin_starts}
use Rattle.group_spec.proofs.Continued.{accepted_begin, starts_begin, aired_begin}
use Rattle.group_spec.proofs.Picked.{Each, each_none, each_append, each_one, each_at}
use Rattle.group_spec.proofs.EditPlaces.{taking_later, taking_at, post_at, PostPlace, post_place, posts_apart, edit_place, from_length, from_body, OfStation, from_each, from_desk, edit_begins, entry_begins, entry_starts}

-- the sources of an aired list are below n
below_gathered :
    (n m : ℕ) → m ≤ n → (test : ℕ → Bool) (body : ℕ → Body) →
    Each (λ (t : Taking). t.source < n) (filter_map m test (λ k. record { source = k; body = body k }))
unfolding filter_map
below_gathered n zero h test body = each_none (λ (t : Taking). t.source < n)
below_gathered n (suc m) h test body =
    each_append (λ (t : Taking). t.source < n) (filter_map m test (λ k. record { source = k; body = body k })) _
    (below_gathered n m (omega arith) test body)
    (each_one (λ (t : Taking). t.source < n) (test m) (record { source = m; body = body m }) (λ e. h))

below_edits : (n : ℕ) (row : List Slot) → Each (λ (t : Taking). t.source < n) (edits_of n row)
unfolding edits_of
below_edits n row =
    below_gathered n n (omega arith) (λ k. is_edit (get_or row k no_slot).body) (λ k. (get_or row k no_slot).body)

below_collected :
    (n : ℕ) (f : RoundDone → List Taking) → ((r : RoundDone) → Each (λ (t : Taking). t.source < n) (f r)) →
    (rs : List RoundDone) → Each (λ (t : Taking). t.source < n) (collect f rs)
unfolding collect
below_collected n f h [] = each_none (λ (t : Taking). t.source < n)
below_collected n f h (r ∷ rs) =
    each_append (λ (t : Taking). t.source < n) (f r) (collect f rs) (h r) (below_collected n f h rs)

sources_below : (n : ℕ) (H : History) (q : ℕ) → Each (λ (t : Taking). t.source < n) (aired_list n H q)
unfolding aired_list
sources_below n H q =
    below_collected n _ (λ r. where_aired (report_in r q).turn.aired (report_in r q).turn.row) H.rounds
  where
    where_aired : (t : Bool) (row : List Slot) → Each (λ (t : Taking). t.source < n) (cond t (edits_of n row) [])
    where_aired true row = below_edits n row
    where_aired false row = each_none (λ (t : Taking). t.source < n)

-- entry k of source s with this body: the k-th start of s
record Begun (starts : List Post) (s k : ℕ) (b : Body) : Type 0 where
  there : k < length (posts_from s starts)
  of : OfStation s (get_or (posts_from s starts) k no_post)
  body : (get_or (posts_from s starts) k no_post).body ≡ b

started_edit :
    (s : ℕ) (xs : List Post) (k : ℕ) → (get_or xs k no_post).station ≡ s →
    record {
      source = s;
      desk = (get_or xs k no_post).desk;
      number = length
          (posts_of s (get_or xs k no_post).desk (take k xs));
    } ≡ edit_at xs k
unfolding edit_at
started_edit s xs k e =
    (λ i. record {
      source = sym e i;
      desk = (get_or xs k no_post).desk;
      number = length (posts_of (sym e i) (get_or xs k no_post).desk (take k xs));
    })

module _ (setup : Setup) (fresh : group_fresh_refusal setup ≡ done) (calls : List Call) where
  abbrev n : ℕ
  n = setup.n

  abbrev ok : Accepts setup
  ok = accepts setup fresh

  abbrev H : History
  H = history_of setup calls

  abbrev aired : ℕ → List Taking
  aired q = aired_list n H q

  abbrev entry : ℕ → ℕ → Taking
  entry q i = get_or (aired q) i no_taking

  abbrev rank : ℕ → ℕ → ℕ
  rank q i = length (takings_of (entry q i).source (take i (aired q)))

  kept : Kept n H
  kept = kept_history setup ok calls

  source_below : (q i : ℕ) → i < length (aired q) → (entry q i).source < n
  source_below q i l = each_at (λ (t : Taking). t.source < n) no_taking (aired q) i (sources_below n H q) l

  begun :
      (q i : ℕ) → q < n → i < length (aired q) → Begun H.starts (entry q i).source (rank q i) (entry q i).body
  begun q i lq l =
      let s = (entry q i).source in
      let first = aired_begin_starts setup ok calls (free setup fresh calls) q s lq (source_below q i l) in
      let at = taking_at s (aired q) i l refl in
      let there : rank q i < length (posts_from s H.starts) =
      omega (
        arith,
        at.0,
        begins-length (takings_of s (aired q)) (posts_at s H.starts) first,
        from_length s
            H.starts,
      ) in
      record {
        there = there;
        of =
            each_at (OfStation s) no_post (posts_from s H.starts) (rank q i) (from_each s H.starts kept.begun)
            there;
        body =
            from_body s H.starts (rank q i)
            ∙ sym (begins_get_d (takings_of s (aired q)) (posts_at s H.starts) first (rank q i) Empty at.0)
            ∙ at.1;
      }

  -- the start number k of s is an accepted post
  start_posted :
      (t : Taking) (k : ℕ) → t.source < n → Begun H.starts t.source k t.body →
      Posted H t (edit_at (posts_from t.source H.starts) k)
  start_posted t k below b =
      let s = t.source in
      let xs = posts_from s H.starts in
      let x = get_or xs k no_post in
      let d = x.desk in
      let j = length (posts_of s d (take k xs)) in
      let at = post_at s d xs k b.there b.of.station refl in
      let starts : posts_of s d xs ≡ posts_of s d H.starts = from_desk s d H.starts in
      let accounted : Begins (posts_of s d H.starts) (posts_of s d H.accepted) =
      rw (kept.waiting s d below b.of.desk) (begins-append (posts_of s d H.starts) (waits H.group s d)) in
      let number : j < length (posts_of s d H.starts) = omega (arith, at.0, ap length starts) in
      let place : PostPlace s d H.accepted j =
      post_place s d H.accepted j (omega
      (arith, number, begins-length (posts_of s d H.starts) (posts_of s d H.accepted) accounted)) in
      let y = get_or H.accepted place.place no_post in
      let made = post_at s d H.accepted place.place place.there place.station place.desk in
      record {
        place = place.place;
        there = place.there;
        same = edit_place s d j H.accepted place ∙ started_edit s xs k b.of.station;
        source = place.station;
        body =
            sym made.1
            ∙ ap (λ (m : ℕ). get_or (posts_of s d H.accepted) m Empty) place.before
            ∙ sym (begins_get_d (posts_of s d H.starts) (posts_of s d H.accepted) accounted j Empty number)
            ∙ ap (λ (z : List Body). get_or z j Empty) (sym starts)
            ∙ at.1
            ∙ b.body;
      }

  entries_posted : (q i : ℕ) → q < n → i < length (aired q) → Posted H (entry q i) (aired_edit n H q i)
  unfolding entry_edit
  entries_posted q i lq l = start_posted (entry q i) (rank q i) (source_below q i l) (begun q i lq l)

  -- the edit of an entry has the entry's source
  edit_source : (q i : ℕ) → q < n → i < length (aired q) → (aired_edit n H q i).source ≡ (entry q i).source
  unfolding entry_edit edit_at
  edit_source q i lq l = (begun q i lq l).of.station

  other_source :
      (q i k s : ℕ) → s ≡ (entry q k).source → aired_edit n H q i ≡ aired_edit n H q k →
      edit_at (posts_from (entry q i).source H.starts) (rank q i)
      ≡ edit_at (posts_from s H.starts) (length (takings_of s (take k (aired q))))
  unfolding entry_edit
  other_source q i k s same e =
      e ∙ (λ t. edit_at (posts_from (sym same t) H.starts) (length (takings_of (sym same t) (take k (aired q)))))

  entries_apart : (q i k : ℕ) → q < n → i < k → k < length (aired q) → aired_edit n H q i ≡ aired_edit n H q k → ⊥
  entries_apart q i k lq h l e =
      let s = (entry q i).source in
      let same : s ≡ (entry q k).source =
      sym (edit_source q i lq (omega arith)) ∙ ap (λ (z : Edit). z.source) e ∙ edit_source q k lq l in
      let later = taking_later s (aired q) i (omega arith) refl k h in
      let there : length (takings_of s (take k (aired q))) < length (posts_from s H.starts) =
      rw (same) (begun q k lq l).there in
      let number =
      posts_apart (posts_from s H.starts) (rank q i) (length (takings_of s (take k (aired q))))
      (begun q i lq (omega arith)).there there (other_source q i k s same e) in
      absurd (omega (arith, later, number))

  entries_differ :
      (q i k : ℕ) → q < n → i < length (aired q) → k < length (aired q) → aired_edit n H q i ≡ aired_edit n H q k → i ≡ k
  entries_differ q i k lq li lk e =
      elim (dec_le (suc i) k) [
        | yes h ↦ absurd (entries_apart q i k lq h lk e)
        | no h ↦ elim (dec_le (suc k) i)
            [ yes b ↦ absurd (entries_apart q k i lq b li (sym e)) | no b ↦ omega (arith, h, b) ]
      ]

  lists_agree :
      (p q i : ℕ) → p < n → q < n → i < length (aired p) → i < length (aired q) → aired_edit n H p i ≡ aired_edit n H q i
  lists_agree p q i lp lq ip iq =
      ⊎_elim
      (λ b. entry_begins H.starts (aired p) (aired q) b i ip)
      (λ b. sym (entry_begins H.starts (aired q) (aired p) b i iq))
      ((demand_three setup fresh calls).aired_lists_agree p q lp lq)

  entries_stay :
      (more : List Call) (q i : ℕ) → q < n → i < length (aired q) → AiredAt n (continued H more) q i (aired_edit n H q i)
  entries_stay more q i lq l =
      let J : History = continued H more in
      let b : Begins (aired q) (aired_list n J q) = aired_begin n q H more in
      record {
        there = omega (arith, begins-length (aired q) (aired_list n J q) b);
        same =
            sym (entry_starts H.starts J.starts (aired q) (starts_begin H more) i (begun q i lq l).there
            ∙ entry_begins J.starts (aired q) (aired_list n J q) b i l);
      }

  post-next :
      (x : Post) → group_post_refusal H.group x ≡ done →
      edit_at (next H (post x)).accepted (length H.accepted) ≡ edit_after H.accepted x
  unfolding next edit_at
  post-next x e =
      rw (eq-eqb (group_post_call H.group x).refusal done (post_refusal H.group x ∙ e))
      (λ i. edit_after (take-append_seam H.accepted (x ∷ []) i) (get_or-append_seam H.accepted x [] no_post i))

  identified : Identified n H
  identified =
      record {
        posts_differ = posts_apart H.accepted;
        post_next = post-next;
        posts_stay =
            λ more k l. sym (edit_begins H.accepted (continued H more).accepted (accepted_begin H more) k l);
        entries_posted = entries_posted;
        entries_differ = entries_differ;
        lists_agree = lists_agree;
        entries_stay = entries_stay;
      }

pub edits_identified : EditsIdentified
edits_identified = identified
