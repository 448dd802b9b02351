-- A12, whole: the induction over the list, the group's part through demand 3 alone, and the clocks
-- read as relays.
use mathlib.Core.Bool.{Bool, true, false, not, ◌||◌}
use mathlib.Core.List.Memᴰ
use mathlib.Core.List.{List, [], ◌∷◌, ◌++◌, map, Memᴰ}
use mathlib.Core.Logic.{◌⊎◌, inl, inr}
use mathlib.Core.Path.{◌≡◌, refl, sym, ap, ◌∙◌, subst}
use Prim.Native.Nat.{ℕ, zero, suc, ◌+◌, ◌≤◌, ◌<◌}
use native.Mathlib.Decide.{ℕ_discrete, dec_le}
use native.Mathlib.Omega.{arith}
use borrow.Author.Tests.{ne_eqb}
use lib.Dec.{ltb}
use lib.ListN.{length, get_or, length-append, get_or-append}
use lib.Seq.{get_or_at}
use Rattle.bodies.specs.Refusals.{done, outside_limits, bad_number, not_an_edit, already_issued, refuse_number}
use Rattle.links.specs.Relay.{Links, of_log}
use Rattle.links.specs.EndRule.{RelayBy}
use Rattle.links.specs.Inner.Clock.{news}
use Rattle.links.proofs.Clock.{news_mono, news_relay, relay_by-news}
use Rattle.station_spec.specs.declared.Setup.{Setup}
use Rattle.station_spec.specs.declared.Station.{Station}
use Rattle.group_spec.specs.declared.RoundDone.{RoundDone}
use Rattle.group_spec.specs.State.{size_of}
use Rattle.group_spec.specs.Calls.{group_fresh_refusal, round_call}
use Rattle.group_spec.specs.History as group
use Rattle.group_spec.specs.History.{Call, Call.post, Call.round, begun, history_of, no_round}
use Rattle.group_spec.proofs.Setups.{accepts}
use Rattle.group_spec.proofs.HistoryInside.{history_members}
use Rattle.group_spec.proofs.DemandThree.{demand_three}
use Rattle.bulletins_spec.specs.declared.Notice.{Notice}
use Rattle.bulletins_spec.specs.declared.BulletinsRound.{BulletinsRound}
use Rattle.bulletins_spec.specs.State.{event_inside, bulletins_inside}
use Rattle.bulletins_spec.specs.Calls.{has_tag, has_four, issue_refusal, issue_call, bulletins_round_call}
use Rattle.bulletins_spec.specs.History.{Entry, Entry.call, Entry.issue, calls_of, Issued, Answer, History, next, begins, continued, run_of, no_bulletins_round, shown_in}
use Rattle.bulletins_spec.specs.Claim.{FirstBy, Due, Once, Once.no_issue, Once.also, Shows, Shows.reported, Shows.answered, Claim, BulletinsShown}
use Rattle.bulletins_spec.proofs.Kept.{kept_inside}
use Rattle.bulletins_spec.proofs.Told.{Fresh, answer_of, Told, made_round, told_round}
use Rattle.bulletins_spec.proofs.ToldIssue.{told_issue, told_begins}

-- ---- the group's part is the list without its issues

same_group : (H : History) (entries : List Entry) → (continued H entries).group ≡ group.continued H.group (calls_of entries)
unfolding continued next calls_of group.continued
same_group H [] = refl
same_group H (call (post x) ∷ rest) = same_group (next H (call (post x))) rest
same_group H (call (round masks) ∷ rest) = same_group (next H (call (round masks))) rest
same_group H (issue i tag event ∷ rest) = same_group (next H (issue i tag event)) rest

begins_group : (setup : Setup) → (begins setup).group ≡ begun setup
unfolding begins
begins_group setup = refl

-- one call more, at the end of a list
continued_last : (G : group.History) (calls : List Call) (c : Call) → group.continued G (calls ++ (c ∷ [])) ≡ group.next (group.continued G calls) c
unfolding group.continued
continued_last G [] c = refl
continued_last G (d ∷ calls) c = continued_last (group.next G d) calls c

-- what one call does to the group's rounds and log
post_rounds : (G : group.History) (x : _) → ((group.next G (post x)).rounds ≡ G.rounds) × ((group.next G (post x)).log ≡ G.log)
unfolding group.next
post_rounds G x = (refl, refl)

round_rounds : (G : group.History) (masks : List ℕ)
    → ((group.next G (round masks)).rounds ≡ G.rounds ++ (round_call G.group masks ∷ []))
    × ((group.next G (round masks)).log ≡ G.log ++ (masks ∷ []))
unfolding group.next
round_rounds G masks = (refl, refl)

module _ (setup : Setup) (ok : group_fresh_refusal setup ≡ done) where
  abbrev n : ℕ
  n = setup.n

  low : 1 ≤ n
  low = (accepts setup ok).low

  high : n ≤ 16
  high = (accepts setup ok).high

  -- no round that follows a list of calls is refused
  round_fine : (calls : List Call) (masks : List ℕ) → (round_call (history_of setup calls).group masks).refusal ≡ done
  round_fine calls masks =
      let G = history_of setup calls in
      let made = round_call G.group masks in
      let more : (history_of setup (calls ++ (round masks ∷ []))).rounds ≡ G.rounds ++ (made ∷ []) =
      ap (λ (X : group.History). X.rounds) (continued_last (begun setup) calls (round masks)) ∙ (round_rounds G masks).0 in
      let long : length G.rounds < length (history_of setup (calls ++ (round masks ∷ []))).rounds =
      omega (arith, ap length more, length-append G.rounds (made ∷ [])) in
      ap (λ (r : RoundDone). r.refusal) (sym (ap (λ (l : List RoundDone). get_or l (length G.rounds) no_round) more ∙ get_or_at G.rounds made [] no_round (length G.rounds) refl))
      ∙ (demand_three setup ok (calls ++ (round masks ∷ []))).no_round_refused (length G.rounds) long

  group_size : (calls : List Call) → size_of (history_of setup calls).group ≡ n
  group_size calls = (history_members setup (accepts setup ok) calls).size

  -- ---- what is known of a history that a list leaves

  pub record Known (H : History) : Type 0 where
    pub calls : List Call
    pub group_is : H.group ≡ history_of setup calls
    pub told : Told n H.group.log H.bulletins H.issues H.answers H.rounds
    pub as_many : length H.rounds ≡ length H.group.rounds
    pub parts : (u : ℕ) → u < length H.rounds → (get_or H.rounds u no_bulletins_round).round ≡ get_or H.group.rounds u no_round

  known-post : (H : History) (x : _) → Known H → Known (next H (call (post x)))
  unfolding next
  known-post H x k =
      let e = post_rounds H.group x in
      record {
        calls = k.calls ++ (post x ∷ []);
        group_is =
            ap (λ (G : group.History). group.next G (post x)) k.group_is ∙ sym (continued_last (begun setup) k.calls (post x));
        told = subst (λ (l : List (List ℕ)). Told n l H.bulletins H.issues H.answers H.rounds) (sym e.1) k.told;
        as_many = k.as_many ∙ ap length (sym e.0);
        parts = λ u l. k.parts u l ∙ ap (λ (r : List RoundDone). get_or r u no_round) (sym e.0);
      }

  module _ (H : History) (masks : List ℕ) (k : Known H) where
    abbrev g : List Station
    g = H.group.group

    abbrev made : BulletinsRound
    made = bulletins_round_call g H.bulletins masks

    fine : (round_call g masks).refusal ≡ done
    fine = ap (λ (G : group.History). (round_call G.group masks).refusal) k.group_is ∙ round_fine k.calls masks

    sized : size_of g ≡ n
    sized = ap (λ (G : group.History). size_of G.group) k.group_is ∙ group_size k.calls

    part_now : made.round ≡ round_call g masks
    part_now = made_round n low high H.group.log masks g H.bulletins H.issues H.answers H.rounds sized fine k.told

    parts_now : (u : ℕ) → u < length (H.rounds ++ (made ∷ []))
        → (get_or (H.rounds ++ (made ∷ [])) u no_bulletins_round).round ≡ get_or (H.group.rounds ++ (round_call g masks ∷ [])) u no_round
    parts_now u l =
        elim (ℕ_discrete u (length H.rounds)) [
          | yes e ↦
              ap (λ (r : BulletinsRound). r.round) (get_or_at H.rounds made [] no_bulletins_round u (sym e))
              ∙ part_now
              ∙ sym (get_or_at H.group.rounds (round_call g masks) [] no_round u (sym k.as_many ∙ sym e))
          | no d ↦
              (let m : u < length H.rounds = omega (arith, length-append H.rounds (made ∷ [])) in
              ap (λ (r : BulletinsRound). r.round) (get_or-append H.rounds (made ∷ []) no_bulletins_round u m)
              ∙ k.parts u m
              ∙ sym (get_or-append H.group.rounds (round_call g masks ∷ []) no_round u (omega (arith, k.as_many))))
        ]

    known-round : Known (next H (call (round masks)))
    unfolding next
    known-round =
        let e = round_rounds H.group masks in
        record {
          calls = k.calls ++ (round masks ∷ []);
          group_is =
              ap (λ (G : group.History). group.next G (round masks)) k.group_is ∙ sym (continued_last (begun setup) k.calls (round masks));
          told =
              subst (λ (l : List (List ℕ)). Told n l made.bulletins H.issues H.answers (H.rounds ++ (made ∷ []))) (sym e.1)
              (told_round n low high H.group.log masks g H.bulletins H.issues H.answers H.rounds sized fine k.told);
          as_many =
              length-append H.rounds (made ∷ [])
              ∙ ap (λ (m : ℕ). m + 1) k.as_many
              ∙ sym (length-append H.group.rounds (round_call g masks ∷ []))
              ∙ ap length (sym e.0);
          parts = λ u l. parts_now u l ∙ ap (λ (r : List RoundDone). get_or r u no_round) (sym e.0);
        }

  known-issue : (H : History) (i tag event : ℕ) → Known H → Known (next H (issue i tag event))
  unfolding next
  known-issue H i tag event k =
      record {
        calls = k.calls;
        group_is = k.group_is;
        told = told_issue n high H.group.log H.bulletins H.issues H.answers H.rounds k.told i tag event;
        as_many = k.as_many;
        parts = k.parts;
      }

  known_next : (H : History) (e : Entry) → Known H → Known (next H e)
  known_next H (call (post x)) k = known-post H x k
  known_next H (call (round masks)) k = known-round H masks k
  known_next H (issue i tag event) k = known-issue H i tag event k

  known-continued : (H : History) (entries : List Entry) → Known H → Known (continued H entries)
  unfolding continued
  known-continued H [] k = k
  known-continued H (e ∷ rest) k = known-continued (next H e) rest (known_next H e k)

  known-begins : Known (begins setup)
  unfolding begins group.begun group.continued
  known-begins =
      record { calls = []; group_is = refl; told = told_begins n high; as_many = refl; parts = λ u l. absurd (omega arith) }

  pub known_run : (entries : List Entry) → Known (run_of setup entries)
  known_run entries = known-continued (begins setup) entries known-begins

-- ---- first by the clocks is first by relays

module _ (L : Links) (issues : List Issued) (p u : ℕ) (b : Notice) where
  due : Fresh L issues p u b → Due L issues p (suc u) b
  due f =
      record {
        after = f.after;
        accepted = f.accepted;
        when =
            inr (
              f.other,
              record {
                reached = news_relay L (suc u) b.issuer f.after p f.other f.now;
                first =
                    λ v r.
                    elim (dec_le (suc u) v) [
                      | yes l ↦ l
                      | no l ↦
                          absurd (omega (
                            arith,
                            relay_by-news L v b.issuer f.after p r,
                            news_mono L v u p b.issuer (omega arith),
                            f.before,
                          ))
                    ];
              },
            );
      }

  fresh : (after : ℕ) → Memᴰ (record { notice = b; after = after }) issues → (p ≡ b.issuer → ⊥) → FirstBy L b.issuer after p (suc u) → Fresh L issues p u b
  fresh after accepted other f =
      record {
        after = after;
        accepted = accepted;
        other = other;
        now = relay_by-news L (suc u) b.issuer after p f.reached;
        before =
            elim (dec_le (news L u p b.issuer) after) [
              | yes l ↦ l
              | no l ↦ absurd (omega (arith, f.first u (news_relay L u b.issuer after p other (omega arith))))
            ];
      }

-- ---- once

-- two accepted issues of one issuer and tag are one
once_same : (l : List Issued) → Once l → (x y : Issued) → Memᴰ x l → Memᴰ y l
    → x.notice.issuer ≡ y.notice.issuer → x.notice.tag ≡ y.notice.tag → x ≡ y
once_same l no_issue x y a b i t = absurd (Memᴰ.not-nil a)
once_same l (also {x = z} {l = rest} first p) x y a b i t =
    go (Memᴰ.cases_cons a) (Memᴰ.cases_cons b) (λ c d. once_same rest p x y c d i t)
  where
    go : (x ≡ z) ⊎ Memᴰ x rest → (y ≡ z) ⊎ Memᴰ y rest → (Memᴰ x rest → Memᴰ y rest → x ≡ y) → x ≡ y
    go (inl e) (inl f) below = e ∙ sym f
    go (inl e) (inr d) below =
        absurd (first y d (sym (ap (λ (w : Issued). w.notice.issuer) e) ∙ i) (sym (ap (λ (w : Issued). w.notice.tag) e) ∙ t))
    go (inr c) (inl f) below =
        absurd (first x c (sym (ap (λ (w : Issued). w.notice.issuer) f) ∙ sym i) (sym (ap (λ (w : Issued). w.notice.tag) f) ∙ sym t))
    go (inr c) (inr d) below = below c d

-- of one bulletin there is one round in which it is due at a station
due-once : (L : Links) (issues : List Issued) → Once issues → (p u v : ℕ) (b c : Notice) → b.issuer ≡ c.issuer → b.tag ≡ c.tag
    → Due L issues p u b → Due L issues p v c → (u ≡ v) × (b ≡ c)
due-once L issues o p u v b c i tag d e =
    let x : Issued = record { notice = b; after = d.after } in
    let y : Issued = record { notice = c; after = e.after } in
    let same : x ≡ y = once_same issues o x y d.accepted e.accepted i tag in
    (go d.when e.when (ap (λ (x : Issued). x.after) same), ap (λ (x : Issued). x.notice) same)
  where
    moved : {t t' a a' w : ℕ} → t ≡ t' → a ≡ a' → RelayBy L a t p w → RelayBy L a' t' p w
    moved {t} {t'} {a} {a'} {w} x y r = subst (λ (z : ℕ). RelayBy L z t' p w) y (subst (λ (z : ℕ). RelayBy L a z p w) x r)

    go : ((p ≡ b.issuer) × (u ≡ d.after)) ⊎ ((p ≡ b.issuer → ⊥) × FirstBy L b.issuer d.after p u)
        → ((p ≡ c.issuer) × (v ≡ e.after)) ⊎ ((p ≡ c.issuer → ⊥) × FirstBy L c.issuer e.after p v)
        → d.after ≡ e.after → u ≡ v
    go (inl x) (inl y) t = x.1 ∙ t ∙ sym y.1
    go (inl x) (inr y) t = absurd (y.0 (x.0 ∙ i))
    go (inr x) (inl y) t = absurd (x.0 (y.0 ∙ sym i))
    go (inr x) (inr y) t =
        omega (arith, x.1.first v (moved (sym t) (sym i) y.1.reached), y.1.first u (moved t i x.1.reached))

length_answers : (l : List Issued) → length (map answer_of l) ≡ length l
length_answers [] = refl
length_answers (x ∷ l) = ap suc (length_answers l)

-- nothing arrives by round 0
none_by_0 : (L : Links) (a t b : ℕ) → (b ≡ a → ⊥) → RelayBy L a t b 0 → ⊥
unfolding news
none_by_0 L a t b d r = absurd (omega (arith, relay_by-news L 0 a t b r, nothing))
  where
    nothing : news L 0 b a ≡ 0
    nothing = rw (ne_eqb b a d)

-- ---- the claim

module _ (setup : Setup) (ok : group_fresh_refusal setup ≡ done) (entries : List Entry) where
  abbrev H : History
  H = run_of setup entries

  abbrev L : Links
  L = of_log setup.n H.group.log

  abbrev known : Known setup ok H
  known = known_run setup ok entries

  abbrev t : Told setup.n H.group.log H.bulletins H.issues H.answers H.rounds
  t = known.told

  answered_due : (p u : ℕ) (b : Notice) → Memᴰ (record { station = p; after = u; notice = b }) H.answers → Due L H.issues p u b
  answered_due p u b m =
      let x = Memᴰ.of_map answer_of H.issues (subst (Memᴰ (record { station = p; after = u; notice = b })) t.told m) in
      let y = x.0 in
      let notice : y.notice ≡ b = ap (λ (z : Answer). z.notice) x.2 in
      let after : y.after ≡ u = ap (λ (z : Answer). z.after) x.2 in
      let station : y.notice.issuer ≡ p = ap (λ (z : Answer). z.station) x.2 in
      record {
        after = u;
        accepted =
            Memᴰ.cast (ap (λ (z : Notice). record { notice = z; after = u }) (sym notice) ∙ ap (λ (v : ℕ). record { notice = y.notice; after = v }) (sym after)) x.1;
        when = inl (sym station ∙ ap (λ (z : Notice). z.issuer) notice, refl);
      }

  shows-due : (p u : ℕ) → p < setup.n → u ≤ length H.rounds → (b : Notice) → Shows H p u b → Due L H.issues p u b
  unfolding shown_in
  shows-due p u lp lu b (answered m) = answered_due p u b m
  shows-due p zero lp lu b (reported m) = absurd (Memᴰ.not-nil m)
  shows-due p (suc u) lp lu b (reported m) = due L H.issues p u b ((t.shows p u lp (omega (arith, t.count)) b).0 m)

  due-shows : (p u : ℕ) → p < setup.n → u ≤ length H.rounds → (b : Notice) → Due L H.issues p u b → Shows H p u b
  due-shows p u lp lu b d = go u lu d.when
    where
      go : (v : ℕ) → v ≤ length H.rounds → ((p ≡ b.issuer) × (v ≡ d.after)) ⊎ ((p ≡ b.issuer → ⊥) × FirstBy L b.issuer d.after p v) → Shows H p v b
      go v lv (inl e) =
          answered
          (subst (Memᴰ (record { station = p; after = v; notice = b })) (sym t.told)
          (Memᴰ.cast
          (ap (λ (q : ℕ). record { station = q; after = v; notice = b }) e.0 ∙ ap (λ (w : ℕ). record { station = b.issuer; after = w; notice = b }) e.1)
          (Memᴰ.map answer_of d.accepted)))
      go zero lv (inr f) = absurd (none_by_0 L b.issuer d.after p f.0 f.1.reached)
      go (suc v) lv (inr f) =
          reported ((t.shows p v lp (omega (arith, t.count)) b).1 (fresh L H.issues p v b d.after d.accepted f.0 f.1))

  inside : bulletins_inside H.bulletins ≡ true
  inside =
      kept_inside setup.n (accepts setup ok).low (accepts setup ok).high L (length H.group.log) t.time H.bulletins t.kept

  not_2 : (i tag event : ℕ) → (issue_call H.bulletins i tag event).refusal ≡ outside_limits → ⊥
  unfolding issue_call issue_refusal
  not_2 i tag event e =
      go (ltb i H.bulletins.n) (event_inside event) (has_tag H.bulletins i tag || has_four H.bulletins i) (rw inside at e)
    where
      go : (b c d : Bool) → refuse_number (not b) bad_number (refuse_number (not c) not_an_edit (refuse_number d already_issued done)) ≡ outside_limits → ⊥
      go true true true z = omega (arith, z)
      go true true false z = omega (arith, z)
      go true false d z = omega (arith, z)
      go false c d z = omega (arith, z)

  calls_are : H.group ≡ history_of setup (calls_of entries)
  calls_are = same_group (begins setup) entries ∙ ap (λ (G : group.History). group.continued G (calls_of entries)) (begins_group setup)

  refused_none : (u : ℕ) → u < length H.rounds → (get_or H.rounds u no_bulletins_round).round.refusal ≡ done
  refused_none u l =
      let G = history_of setup (calls_of entries) in
      ap (λ (r : RoundDone). r.refusal) (known.parts u l ∙ ap (λ (X : group.History). get_or X.rounds u no_round) calls_are)
      ∙ (demand_three setup ok (calls_of entries)).no_round_refused u
      (omega (arith, known.as_many, ap (λ (X : group.History). length X.rounds) calls_are))

  claim : Claim setup.n H
  claim =
      record {
        shows = λ p u lp lu b. (shows-due p u lp lu b, due-shows p u lp lu b);
        shows_once =
            λ p u v lp lu lv b c i g x y.
            due-once L H.issues t.once p u v b c i g (shows-due p u lp lu b x) (shows-due p v lp lv c y);
        ordered = λ p u lp lu. t.ordered p u lp (omega (arith, t.count));
        issued_once = t.once;
        answered_once = ap length t.told ∙ length_answers H.issues;
        issue_not_2 = not_2;
        no_round_refused = refused_none;
        as_many = known.as_many;
        group_part = known.parts;
      }

pub bulletins_shown : BulletinsShown
bulletins_shown setup ok entries = (calls_are setup ok entries, claim setup ok entries)
