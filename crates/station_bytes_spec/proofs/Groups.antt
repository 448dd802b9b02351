-- Calls of a group on bytes, one after the other: what a call leaves, done or refused, is accepted
-- by the next call, and decoded to just the group that the call gave. Stations from N up are kept
-- as they are, so of these only their types are asked.
use mathlib.Core.Path.{◌≡◌, refl, sym, ap, subst, ◌∙◌}
use mathlib.Core.Bool.{Bool, true, false, cond}
use mathlib.Core.List.{List, [], ◌∷◌, ◌++◌, append-nil}
use Prim.Native.Nat.{ℕ, zero, suc, ◌+◌, ◌<◌, ◌≤◌}
use native.Mathlib.Decide.{dec_le}
use native.Mathlib.Omega.{arith}
use lib.Dec.{eqb}
use lib.ListN.{replicate, get_or-replicate}
use lib.Seq.{get_or-set_other}
use Rattle.bodies.specs.Refusals.{done}
use Rattle.lists.specs.Below.{filter_map}
use Rattle.lists.proofs.Laws.{set_below_inside, set_below_above}
use Rattle.lists.proofs.Keeps.{set_keeps}
use Rattle.labels.proofs.PackingLaws.{label_less, over_less}
use Rattle.links.specs.Log.{hears_in}
use Rattle.frame_spec.specs.declared.Record.{Record}
use Rattle.frame_spec.specs.Record.{record_label, framed}
use Rattle.queues.specs.Waiting.{desk_count}
use Rattle.queues.proofs.WaitingLaws.{limit_most, inside_limit, inside_most}
use Rattle.station_spec.specs.Limits.{allowed}
use Rattle.station_spec.specs.declared.Setup.{Setup}
use Rattle.station_spec.specs.declared.Station.{Station}
use Rattle.station_spec.specs.State.{held_of, record_of, sent_records, alone_setup, fresh_station}
use Rattle.station_spec.specs.Absent.{no_station}
use Rattle.station_spec.specs.Hearing.{hear_frame}
use Rattle.station_spec.specs.Calls.{posted}
use Rattle.station_spec.proofs.Setters.{Shaped}
use Rattle.station_spec.proofs.StationLimits.{Inside, inside_make, inside_open}
use Rattle.station_spec.proofs.LimitsFresh.{fresh_inside}
use Rattle.station_spec.proofs.LimitsSent.{sent_carried}
use Rattle.group_spec.specs.declared.Post.{Post}
use Rattle.group_spec.specs.State.{station_at, size_of, fresh_group}
use Rattle.group_spec.specs.Calls.{group_post_call, heard_below, heard, round_refusal, after_round, round_call}
use Rattle.group_spec.proofs.Setups.{Accepts}
use Rattle.group_spec.proofs.Members.{Members, fresh_members}
use Rattle.group_spec.proofs.MembersPost.{Accepted, accepted, post_accepted, post_refused, post_refusal, post_members}
use Rattle.group_spec.proofs.MembersRound.{Runs, runs, run_hears, run_room, after_at, after_above, round_done, round_refused, round_members}
use Rattle.station_bytes_spec.specs.Group.{encode_group, decode_group, is_group}
use Rattle.station_bytes_spec.proofs.Body.{BodyFits, RecordFits}
use Rattle.station_bytes_spec.proofs.Station.{StationFits}
use Rattle.station_bytes_spec.proofs.Group.{group_decoded, group_accepted}
use Rattle.station_bytes_spec.proofs.Bodies.{edit_fits}
use Rattle.station_bytes_spec.proofs.Typed.{Fitting, fresh_fitting, posted-fitting, turn_fitting, AllFit, Keeps, frame_keeps}
use Rattle.station_bytes_spec.proofs.Decoded.{AllWords, no_words, words_append, all_fit}

-- the numbers that have one byte
pub record OneByte (s : Station) : Type 0 where
  pub n : s.n < 256
  pub own : s.own < 256
  pub edition : s.edition < 256
  pub count : (d : ℕ) → desk_count s.waiting d < 256
  pub limit : s.waiting.limit < 256

inside_bytes : (s : Station) → Inside s → OneByte s
inside_bytes s i =
    record {
      n = omega (arith, i.high);
      own = omega (arith, i.own, i.high);
      edition = omega (arith, i.known);
      count = λ d. omega (arith, inside_most (allowed s) s.waiting i.waiting d);
      limit = omega (arith, limit_most s.waiting.limit (inside_limit (allowed s) s.waiting i.waiting));
    }

fits : (s : Station) → Shaped s → Fitting s → OneByte s → StationFits s
fits s shape f b =
    record {
      n_byte = b.n;
      own_byte = b.own;
      edition_byte = b.edition;
      body_fits = f.body;
      acked_long = shape.acked;
      labels_long = shape.labels;
      held_long = shape.held;
      table_long = shape.table;
      lanes_long = shape.lanes;
      cell_fits = f.cells;
      waiting_fits = record { count_byte = b.count; limit_byte = b.limit; sized = shape.waiting; edit_fits = λ d i l. edit_fits s.waiting f.edits d i };
    }

-- a group of n as a call leaves it: inside its limits, and all sixteen stations of their types
pub record Kept (n : ℕ) (g : List Station) : Type 0 where
  pub members : Members n g
  pub fitting : (k : ℕ) → k < 16 → Fitting (station_at g k)
  pub bytes : (k : ℕ) → k < 16 → OneByte (station_at g k)

-- its bytes are accepted, and decoded to it again
module _ (n : ℕ) (g : List Station) (c : Kept n g) where
  station_fits : (k : ℕ) → k < 16 → StationFits (station_at g k)
  station_fits k l = fits (station_at g k) (c.members.shape.stations k l) (c.fitting k l) (c.bytes k l)

  pub kept_decoded : decode_group (encode_group g) ≡ g
  kept_decoded = group_decoded g c.members.shape.places station_fits

  pub kept_accepted : is_group (encode_group g) ≡ true
  kept_accepted = group_accepted g station_fits

-- one byte numbers of a changed group: its members are inside their limits, and the others are as
-- they were
bytes_after :
    (n : ℕ) (g h : List Station) → Members n h → ((k : ℕ) → k < 16 → OneByte (station_at g k)) → ((k : ℕ) → n ≤ k → station_at h k ≡ station_at g k) →
    (k : ℕ) → k < 16 → OneByte (station_at h k)
bytes_after n g h m old same k l =
    elim (dec_le n k) [
      | yes above ↦ subst OneByte (sym (same k above)) (old k l)
      | no below ↦ inside_bytes (station_at h k) (m.member k (omega arith)).inside
    ]

-- ---- fresh

pub fresh_kept : (setup : Setup) → Accepts setup → Kept setup.n (fresh_group setup)
fresh_kept setup ok =
    record {
      members = members;
      fitting = each Fitting (λ k l. fresh_fitting setup k (omega (arith, ok.high))) (fresh_fitting alone_setup 0 (omega arith));
      bytes =
          each OneByte (λ k l. subst OneByte (at_below k l) (inside_bytes (station_at (fresh_group setup) k) (members.member k l).inside))
          (inside_bytes (fresh_station alone_setup 0) (inside_open (fresh_station alone_setup 0) (fresh_inside alone_setup 0 refl refl refl)));
    }
  where
    members : Members setup.n (fresh_group setup)
    members = fresh_members setup ok.high ok.low ok.limited ok.known

    at_below : (k : ℕ) → k < setup.n → station_at (fresh_group setup) k ≡ fresh_station setup k
    at_below k l =
        unfold fresh_group in
        (set_below_inside setup.n (fresh_station setup) (replicate 16 (fresh_station alone_setup 0)) k no_station l (omega (arith, ok.high)))

    at_above : (k : ℕ) → setup.n ≤ k → k < 16 → station_at (fresh_group setup) k ≡ fresh_station alone_setup 0
    at_above k l m =
        unfold fresh_group in
        (set_below_above setup.n (fresh_station setup) (replicate 16 (fresh_station alone_setup 0)) k no_station l
        ∙ get_or-replicate 16 k (fresh_station alone_setup 0) no_station m)

    each :
        (P : Station → Type 0) → ((k : ℕ) → k < setup.n → P (fresh_station setup k)) → P (fresh_station alone_setup 0) →
        (k : ℕ) → k < 16 → P (station_at (fresh_group setup) k)
    each P own other k m =
        elim (dec_le setup.n k) [
          | yes above ↦ subst P (sym (at_above k above m)) other
          | no below ↦ subst P (sym (at_below k (omega arith))) (own k (omega arith))
        ]

-- ---- post

module _ (n : ℕ) (g : List Station) (c : Kept n g) (x : Post) (f : BodyFits x.body) where
  abbrev after : List Station
  after = (group_post_call g x).group

  post_fitting : (k : ℕ) → k < 16 → Fitting (station_at after k)
  post_fitting k l = go (eqb (group_post_call g x).refusal done) refl
    where
      go : (t : Bool) → eqb (group_post_call g x).refusal done ≡ t → Fitting (station_at after k)
      go true e =
          let a : Accepted g x = accepted g x (rw (post_refusal g x) at e) in
          let at : x.station < 16 = omega (arith, a.below, c.members.size, c.members.high) in
          subst (λ (h : List Station). Fitting (station_at h k)) (sym (post_accepted g x e))
          (set_keeps Fitting g x.station (posted (station_at g x.station) x.desk x.body) no_station k (omega (arith, c.members.shape.places)) (c.fitting k l)
          (posted-fitting (station_at g x.station) x.desk x.body (c.fitting x.station at) f))
      go false e = subst (λ (h : List Station). Fitting (station_at h k)) (sym (post_refused g x e)) (c.fitting k l)

  post_above : (k : ℕ) → n ≤ k → station_at after k ≡ station_at g k
  post_above k l = go (eqb (group_post_call g x).refusal done) refl
    where
      go : (t : Bool) → eqb (group_post_call g x).refusal done ≡ t → station_at after k ≡ station_at g k
      go true e =
          let a : Accepted g x = accepted g x (rw (post_refusal g x) at e) in
          ap (λ (h : List Station). station_at h k) (post_accepted g x e)
          ∙ get_or-set_other g x.station k (posted (station_at g x.station) x.desk x.body) no_station (λ q. omega (arith, q, a.below, c.members.size))
      go false e = ap (λ (h : List Station). station_at h k) (post_refused g x e)

  pub post_kept : Kept n after
  post_kept =
      let members = post_members n g c.members x in
      record { members = members; fitting = post_fitting; bytes = bytes_after n g after members c.bytes post_above }

-- ---- round

-- the records that a station sends
framed_fits : (n : ℕ) → n ≤ 16 → (r : Record) → RecordFits r → RecordFits (framed n r)
unfolding framed record_label
framed_fits n high r f =
    record {
      labels_fit = over_less n 16 (record_label r) 0 (λ j l. label_less r.labels j) high (omega arith);
      body_fits = f.body_fits;
    }

sent_words : (s : Station) → s.n ≤ 16 → Fitting s → AllWords (sent_records s)
unfolding sent_records filter_map
sent_words s high f = go s.n high
  where
    go : (m : ℕ) → m ≤ 16 → AllWords (filter_map m (held_of s) (λ k. framed s.n (record_of s k)))
    go m = elim m as (λ i. i ≤ 16 → AllWords (filter_map i (held_of s) (λ k. framed s.n (record_of s k)))) [
      | zero ↦ λ l. no_words
      | suc (j → ih) ↦ λ l. one j (held_of s j) l (ih (omega arith))
    ]
      where
        one :
            (j : ℕ) (t : Bool) → suc j ≤ 16 → AllWords (filter_map j (held_of s) (λ k. framed s.n (record_of s k))) →
            AllWords (filter_map j (held_of s) (λ k. framed s.n (record_of s k)) ++ cond t (framed s.n (record_of s j) ∷ []) [])
        one j true l all = words_append _ (framed s.n (record_of s j)) all (framed_fits s.n high (record_of s j) (f.cells j (omega arith)).entry_fits)
        one j false l all = subst AllWords (sym (append-nil _)) all

module _ (n : ℕ) (g : List Station) (c : Kept n g) (masks : List ℕ) where
  module _ (run : Runs g masks) where
    abbrev m : Members n g
    m = c.members

    size_of_lem : (i : ℕ) → i < n → (station_at g i).n ≤ 16
    size_of_lem i l = omega (arith, (m.member i l).size, m.high)

    sent_fits : (i j : ℕ) → i < n → j < n → AllFit (sent_records (station_at g j))
    sent_fits i j l b =
        let s = station_at g j in
        let inside = (m.member j b).inside in
        all_fit (allowed s) s.n (size_of_lem j b) (sent_records s) (sent_carried s inside (run.counts j (omega (arith, m.size)))) (sent_words s (size_of_lem j b) (c.fitting j (omega (arith, m.high))))

    heard_keeps : (i j : ℕ) → i < n → j ≤ n → Keeps (heard_below g masks i j).station
    unfolding heard_below
    heard_keeps i zero l b =
        record { shape = m.shape.stations i (omega (arith, m.high)); fitting = c.fitting i (omega (arith, m.high)); size = size_of_lem i l }
    heard_keeps i (suc j) l b = go (hears_in (size_of g) masks i j) (heard_keeps i j l (omega arith))
      where
        go :
            (t : Bool) → Keeps (heard_below g masks i j).station →
            Keeps (cond t (hear_frame (heard_below g masks i j) (sent_records (station_at g j))) (heard_below g masks i j)).station
        go true k = frame_keeps (heard_below g masks i j) (sent_records (station_at g j)) (sent_fits i j l b) k
        go false k = k

    after_fitting : (i : ℕ) → i < 16 → Fitting (station_at (after_round g masks) i)
    after_fitting i l =
        elim (dec_le n i) [
          | yes above ↦ subst Fitting (sym (after_above n g m masks run i above)) (c.fitting i l)
          | no d ↦
              let below : i < n = omega arith in
              let h = heard g masks i in
              let k : Keeps h.station = heard_keeps i (size_of g) below (omega (arith, m.size)) in
              let hs = run_hears n g m masks run i below in
              subst Fitting (sym (after_at n g m masks run i below))
              (turn_fitting h.station hs.shaped k.fitting (inside_make h.station (hs.inside (run_room n g m masks run i below))))
        ]

  pub round_kept : Kept n (round_call g masks).group
  round_kept = go (eqb (round_refusal g masks) done) refl
    where
      go : (t : Bool) → eqb (round_refusal g masks) done ≡ t → Kept n (round_call g masks).group
      go true e =
          let run = runs g masks e in
          let made = round_done g masks e in
          let members = round_members n g c.members masks in
          record {
            members = members;
            fitting = λ i l. subst (λ (h : List Station). Fitting (station_at h i)) (sym made) (after_fitting run i l);
            bytes =
                bytes_after n g (round_call g masks).group members c.bytes
                (λ k l. ap (λ (h : List Station). station_at h k) made ∙ after_above n g c.members masks run k l);
          }
      go false e = subst (Kept n) (sym (round_refused g masks e)) c
