-- An issue more, accepted or refused, and the beginning. An accepted bulletin has been shown by no
-- round, for nobody's news of another is from after the present round.
use mathlib.Core.Bool.{Bool, true, false, cond, false≢true}
use mathlib.Core.List.Memᴰ
use mathlib.Core.List.{List, [], ◌∷◌, ◌++◌, map-append, append-nil, Memᴰ}
use mathlib.Core.Logic.{inl, inr, ◌↔◌}
use mathlib.Core.Path.{◌≡◌, refl, sym, ap, ◌∙◌}
use Prim.Native.Nat.{ℕ, suc, ◌*◌, ◌≤◌, ◌<◌}
use native.Mathlib.Decide.{ℕ_discrete}
use native.Mathlib.Omega.{arith}
use borrow.Author.Tests.{eqb-true}
use lib.Dec.{eqb}
use lib.ListN.{length}
use Rattle.bodies.specs.Refusals.{done}
use Rattle.links.specs.Relay.{Links, of_log}
use Rattle.links.proofs.Clock.{news_other}
use Rattle.bulletins_spec.specs.declared.Bulletins.{Bulletins}
use Rattle.bulletins_spec.specs.declared.Notice.{Notice}
use Rattle.bulletins_spec.specs.declared.IssueDone.{IssueDone}
use Rattle.bulletins_spec.specs.declared.BulletinsRound.{BulletinsRound}
use Rattle.bulletins_spec.specs.State.{issuer_of, stands, tag_at, event_at, notice_at, fresh_bulletins}
use Rattle.bulletins_spec.specs.Calls.{free_place, issue_refusal, issued, issue_call, no_notice}
use Rattle.bulletins_spec.specs.History.{Issued, Answer, shown_in}
use Rattle.bulletins_spec.specs.Claim.{Once, Once.no_issue, Once.also}
use Rattle.bulletins_spec.proofs.Kept.{kept_fresh, fresh_empty}
use Rattle.bulletins_spec.proofs.KeptIssue as issuing
use Rattle.bulletins_spec.proofs.KeptIssue.{Accepted, accepted}
use Rattle.bulletins_spec.proofs.Told.{Fresh, standing, answer_of, Told}

-- the same issuer and tag
abbrev SameKey : Issued → Issued → Type 0
SameKey x y = (x.notice.issuer ≡ y.notice.issuer) × (x.notice.tag ≡ y.notice.tag)

once_last : (l : List Issued) (x : Issued) → Once l → ((y : Issued) → Memᴰ y l → SameKey y x → ⊥) → Once (l ++ (x ∷ []))
once_last l x no_issue h = also (λ y m a b. Memᴰ.not-nil m) no_issue
once_last l x (also {x = z} {l = rest} first p) h =
    also {x = z} {l = rest ++ (x ∷ [])}
    (λ y m a b.
    elim (Memᴰ.append_cases rest m) [
      | inl k ↦ first y k a b
      | inr k ↦
          (let e = Memᴰ.eq_of_singleton k in
          h z (Memᴰ.head refl) (a ∙ ap (λ (w : Issued). w.notice.issuer) e, b ∙ ap (λ (w : Issued). w.notice.tag) e))
    ])
    (once_last rest x p (λ y m. h y (Memᴰ.tail m)))

module _ (n : ℕ) (high : n ≤ 16) (log : List (List ℕ)) (B : Bulletins) (issues : List Issued) (answers : List Answer)
    (rounds : List BulletinsRound) (t : Told n log B issues answers rounds) (i tag event : ℕ) where
  abbrev x : Issued
  x = record { notice = record { issuer = i; tag = tag; event = event }; after = length rounds }

  abbrev L : Links
  L = of_log n log

  module _ (a : Accepted B i tag event) where
    abbrev B' : Bulletins
    B' = issued B i tag event

    abbrev P : ℕ
    P = free_place B i

    abbrev time : ℕ → ℕ
    time = issuing.time n high L (length log) t.time B t.kept i tag event a

    standing_new : standing B' time P ≡ x
    standing_new =
        ap (λ (q : ℕ). record { notice = record { issuer = q; tag = tag_at B' P; event = event_at B' P }; after = time P })
        (issuing.place_issuer n high L (length log) t.time B t.kept i tag event a)
        ∙ ap (λ (q : ℕ). record { notice = record { issuer = i; tag = q; event = event_at B' P }; after = time P })
        (issuing.tag_new n high L (length log) t.time B t.kept i tag event a)
        ∙ ap (λ (q : ℕ). record { notice = record { issuer = i; tag = tag; event = q }; after = time P })
        (issuing.event_new n high L (length log) t.time B t.kept i tag event a)
        ∙ ap (λ (q : ℕ). record { notice = record { issuer = i; tag = tag; event = event }; after = q })
        (issuing.time_new n high L (length log) t.time B t.kept i tag event a ∙ sym t.count)

    standing_other : (s : ℕ) → (s ≡ P → ⊥) → standing B' time s ≡ standing B t.time s
    standing_other s d =
        ap (λ (q : ℕ). record { notice = record { issuer = issuer_of s; tag = q; event = event_at B' s }; after = time s })
        (issuing.tag_other n high L (length log) t.time B t.kept i tag event a s d)
        ∙ ap (λ (q : ℕ). record { notice = record { issuer = issuer_of s; tag = tag_at B s; event = q }; after = time s })
        (issuing.event_other n high L (length log) t.time B t.kept i tag event a s d)
        ∙ ap (λ (q : ℕ). record { notice = notice_at B s; after = q })
        (issuing.time_other n high L (length log) t.time B t.kept i tag event a s d)

    stands_other : (s : ℕ) → (s ≡ P → ⊥) → stands B' s ≡ stands B s
    stands_other = issuing.stands_other n high L (length log) t.time B t.kept i tag event a

    not_there : (s : ℕ) → stands B s ≡ true → s ≡ P → ⊥
    not_there s h e =
        false≢true (sym (issuing.own_empty n high L (length log) t.time B t.kept i tag event a) ∙ ap (stands B) (sym e) ∙ h)

    listed : (y : Issued) → Memᴰ y (issues ++ (x ∷ [])) → (s : ℕ) × (s < 4 * n) × (stands B' s ≡ true) × (y ≡ standing B' time s)
    listed y m =
        elim (Memᴰ.append_cases issues m) [
          | inl o ↦
              (let z = t.listed y o in
              let d = not_there z.0 z.2 in
              (z.0, z.1, stands_other z.0 d ∙ z.2, z.3 ∙ sym (standing_other z.0 d)))
          | inr o ↦ (
            P,
            issuing.place_below n high L (length log) t.time B t.kept i tag event a,
            issuing.stands_new n high L (length log) t.time B t.kept i tag event a,
            Memᴰ.eq_of_singleton o ∙ sym standing_new,
          )
        ]

    every : (s : ℕ) → s < 4 * n → stands B' s ≡ true → Memᴰ (standing B' time s) (issues ++ (x ∷ []))
    every s ls h =
        elim (ℕ_discrete s P) [
          | yes e ↦ Memᴰ.append_right issues (Memᴰ.head (ap (standing B' time) e ∙ standing_new))
          | no d ↦ Memᴰ.append_left (x ∷ []) (Memᴰ.cast (standing_other s d) (t.every s ls (sym (stands_other s d) ∙ h)))
        ]

    -- no round has shown it
    shows : (p u : ℕ) → p < n → u < length log → (b : Notice) → Memᴰ b (shown_in rounds p (suc u)) ↔ Fresh L (issues ++ (x ∷ [])) p u b
    shows p u lp lu b = (
      λ m.
          let f = (t.shows p u lp lu b).0 m in
          record { after = f.after; accepted = Memᴰ.append_left (x ∷ []) f.accepted; other = f.other; now = f.now; before = f.before },
      back,
    )
      where
        back : Fresh L (issues ++ (x ∷ [])) p u b → Memᴰ b (shown_in rounds p (suc u))
        back f =
            elim (Memᴰ.append_cases issues f.accepted) [
              | inl o ↦ (t.shows p u lp lu b).1 (record { after = f.after; accepted = o; other = f.other; now = f.now; before = f.before })
              | inr o ↦
                  (let e : f.after ≡ length rounds = ap (λ (y : Issued). y.after) (Memᴰ.eq_of_singleton o) in
                  absurd (omega (arith, f.now, t.count, news_other L (suc u) p b.issuer f.other)))
            ]

    -- its tag is new
    once : Once (issues ++ (x ∷ []))
    once =
        once_last issues x t.once
        (λ y m key.
        let z = t.listed y m in
        issuing.new_tag n high L (length log) t.time B t.kept i tag event a z.0
        (sym (ap (λ (w : Issued). w.notice.issuer) z.3) ∙ key.0)
        z.2
        (sym (ap (λ (w : Issued). w.notice.tag) z.3) ∙ key.1))

    told_accepted : Told n log B' (issues ++ (x ∷ [])) (answers ++ (answer_of x ∷ [])) rounds
    told_accepted =
        record {
          time = time;
          count = t.count;
          kept = issuing.kept_issue n high L (length log) t.time B t.kept i tag event a;
          listed = listed;
          every = every;
          shows = shows;
          ordered = t.ordered;
          once = once;
          told = ap (λ (l : List Answer). l ++ (answer_of x ∷ [])) t.told ∙ sym (map-append answer_of issues (x ∷ []));
        }

  abbrev made : IssueDone
  made = issue_call B i tag event

  pub told_issue :
      Told n log made.bulletins
      (issues ++ cond (eqb made.refusal done) (x ∷ []) [])
      (answers ++ cond (eqb made.refusal done) (record { station = i; after = length rounds; notice = made.shown } ∷ []) [])
      rounds
  unfolding issue_call
  told_issue = go (eqb (issue_refusal B i tag event) done) refl
    where
      go : (c : Bool) → eqb (issue_refusal B i tag event) done ≡ c
          → Told n log (cond c (issued B i tag event) B)
          (issues ++ cond c (x ∷ []) [])
          (answers ++ cond c (record { station = i; after = length rounds; notice = cond c x.notice no_notice } ∷ []) [])
          rounds
      go true e = told_accepted (accepted B i tag event (eqb-true (issue_refusal B i tag event) done e))
      go false e = rw (append-nil issues, append-nil answers) t

pub told_begins : (n : ℕ) → n ≤ 16 → Told n [] (fresh_bulletins n) [] [] []
told_begins n high =
    record {
      time = λ s. 0;
      count = refl;
      kept = kept_fresh n high (of_log n []) (λ s. 0);
      listed = λ x m. absurd (Memᴰ.not-nil m);
      every = λ s ls h. absurd (fresh_empty n s high ls h);
      shows = λ p u lp lu b. absurd (omega arith);
      ordered = λ p u lp lu. absurd (omega arith);
      once = no_issue;
      told = refl;
    }
