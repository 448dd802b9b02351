-- When an accepted edit starts. While it waits every body that its station starts is an edit, and
-- the other desk starts at most one edit more than its own desk does; so behind i others of its
-- desk it is at most body number 2 i + 2 from its post on, and number i + 1 where the other desk
-- starts none.
use Prim.Native.Nat.{ℕ, ◌+◌, ◌-◌, ◌≤◌, ◌<◌}
use mathlib.Core.Bool.{true}
use mathlib.Core.List.{List, [], ◌∷◌, ◌++◌}
use mathlib.Core.Path.{◌≡◌, sym, ap, ◌∙◌}
use native.Mathlib.Decide.{ℕ_discrete, dec_le}
use native.Mathlib.Omega.{arith}
use lib.ListN.{length, take, length-append}
use lib.Seq.{take_all, take-append-add}
use Rattle.bodies.specs.declared.Body.{Body}
use Rattle.queues.specs.Waiting.{is_desk, other_desk, desk_count, waiting_count}
use Rattle.queues.proofs.WaitingLaws.{each_desk, count_both}
use Rattle.group_spec.specs.declared.Post.{Post}
use Rattle.group_spec.specs.State.{station_at}
use Rattle.group_spec.specs.History.{History, Call, next, continued, posts_at, posts_of, started, only_edits}
use Rattle.group_spec.specs.Demand.{Begins}
use Rattle.group_spec.specs.Desks.{waiting_at_desk, starts_of}
use Rattle.group_spec.specs.Replies.{edit_at, posts_from}
use Rattle.group_spec.proofs.Begin.{begins_refl, begins-take, begins-length}
use Rattle.group_spec.proofs.Takings.{only_edits-append, posts_of-append}
use Rattle.group_spec.proofs.Interleaving.{interleave, interleaved-length}
use Rattle.group_spec.proofs.PostsAccounted.{Kept, kept_next, bodies_next}
use Rattle.group_spec.proofs.Fairness.{first_desk_of, mine, theirs, Step.still, Step.own, Step.other, step, count_waits}
use Rattle.group_spec.proofs.Continued.{next_accepted, next_starts, next-started}
use Rattle.group_spec.proofs.EditPlaces.{post_place, edit_place, edit_begins, from_begins, from_length, from_desk}

-- the bodies of a desk in a longer list
of_begins : (s d : ℕ) (xs ys : List Post) → Begins xs ys → Begins (posts_of s d xs) (posts_of s d ys)
of_begins s d xs ys b =
    record { rest = posts_of s d b.rest; whole = sym (posts_of-append s d xs b.rest) ∙ ap (posts_of s d) b.whole }

pub edits_begin : (xs ys : List Body) → Begins xs ys → Begins (only_edits xs) (only_edits ys)
edits_begin xs ys b =
    record { rest = only_edits b.rest; whole = sym (only_edits-append xs b.rest) ∙ ap only_edits b.whole }

-- so many first entries of a longer list
take_begins : (k : ℕ) (xs ys : List Body) → Begins xs ys → Begins (take k xs) (take k ys)
take_begins k xs ys b =
    elim (dec_le k (length xs)) [
      | yes h ↦ rw (← begins-take xs ys b k h) (begins_refl (take k xs))
      | no h ↦ rw (take_all k xs (omega (arith, h))) (start k xs ys b (omega (arith, h)))
    ]
  where
    start : (k : ℕ) (xs ys : List Body) → Begins xs ys → length xs ≤ k → Begins xs (take k ys)
    start k xs ys b h = record { rest = take (k - length xs) b.rest; whole = more k xs ys b h }
      where
        more :
            (k : ℕ) (xs ys : List Body) (b : Begins xs ys) → length xs ≤ k → xs ++ take (k - length xs) b.rest
            ≡ take k ys
        more k xs ys b h =
            let e : length xs + (k - length xs) ≡ k = omega arith in
            sym (take-append-add xs b.rest (k - length xs))
            ∙ ap (λ (j : ℕ). take j (xs ++ b.rest)) e
            ∙ ap (λ (l : List Body). take k l) b.whole

module _ (n p d : ℕ) (below : p < n) (desk : is_desk d ≡ true) where
  -- the accepted posts of the desk: those that started, and those that wait
  pub accepted_count :
      (J : History) → Kept n J → length (posts_of p d J.accepted) ≡ mine n p d below desk J + waiting_at_desk J p d
  accepted_count J k =
      ap length (k.waiting p d below desk)
      ∙ length-append (starts_of J p d) _
      ∙ ap (λ (m : ℕ). mine n p d below desk J + m) (count_waits n p d below desk J k.members)

  -- the edits that were started are of the one desk or the other
  both_desks :
      (J : History) → Kept n J → length (posts_at p J.starts) ≡ mine n p d below desk J + theirs n p d below desk J
  both_desks J k =
      let sum =
      interleaved-length (starts_of J p 0) (starts_of J p 1) (posts_at p J.starts) (interleave p J.starts k.begun)
      in
      each_desk
      (λ e. length (posts_at p J.starts) ≡ length (starts_of J p e) + length (starts_of J p (other_desk e)))
      sum
      (omega (arith, sum))
      d
      desk

  -- who waits is among all that wait
  some_wait : (J : History) → 0 < waiting_at_desk J p d → 0 < waiting_count (station_at J.group p).waiting
  some_wait J w =
      let v = (station_at J.group p).waiting in
      each_desk (λ e. 0 < desk_count v e → 0 < waiting_count v) (λ h. omega (arith, count_both v))
      (λ h. omega (arith, count_both v)) d desk w

  module _ (made mine₀ theirs₀ i : ℕ) where
    abbrev ours : History → ℕ
    ours J = mine n p d below desk J

    abbrev others : History → ℕ
    others J = theirs n p d below desk J

    -- the edit waits: since its post as many bodies were started as edits
    pub record Waits (J : History) : Type 0 where
      pub posts : mine₀ + i < length (posts_of p d J.accepted)
      pub low : mine₀ ≤ ours J
      pub high : ours J ≤ mine₀ + i
      pub least : theirs₀ ≤ others J
      pub bodies : length (started J p) + mine₀ + theirs₀ ≡ made + ours J + others J
      pub fair : others J + mine₀ ≤ ours J + theirs₀ + 1
      pub turn : others J + mine₀ ≡ ours J + theirs₀ + 1 → first_desk_of n p d below desk J ≡ d

    -- the edit has started, when the other desk had started so many
    pub record Begun (J : History) : Type 0 where
      pub between : ℕ
      pub fair : between ≤ i + 1
      pub most : between + theirs₀ ≤ others J
      pub place : ℕ
      pub there : place < length (posts_from p J.starts)
      pub same : edit_at (posts_from p J.starts) place ≡ record { source = p; desk = d; number = mine₀ + i }
      pub bodies : place < length (only_edits (take (made + i + 1 + between) (started J p)))

    pub data Stage (J : History) : Type 0 where
      waits : Waits J → Stage J
      begun : Begun J → Stage J

    more_posts :
        (J : History) (call : Call) →
        length (posts_of p d J.accepted) ≤ length (posts_of p d (next J call).accepted)
    more_posts J call =
        begins-length (posts_of p d J.accepted) (posts_of p d (next J call).accepted)
        (of_begins p d J.accepted (next J call).accepted (next_accepted J call))

    more_others : (J : History) (call : Call) → others J ≤ others (next J call)
    more_others J call =
        begins-length (starts_of J p (other_desk d)) (starts_of (next J call) p (other_desk d))
        (of_begins p (other_desk d) J.starts (next J call).starts (next_starts J call))

    -- the edit starts
    now :
        (J : History) → Kept n J → (between : ℕ) → between ≤ i + 1 → between + theirs₀ ≤ others J → ours J
        ≡ mine₀ + i + 1 →
        length (started J p) ≡ made + i + 1 + between → Begun J
    now J k between fair most mine made' =
        let xs = posts_from p J.starts in
        let number : mine₀ + i < length (posts_of p d xs) = omega (arith, mine, ap length (from_desk p d J.starts)) in
        let at = post_place p d xs (mine₀ + i) number in
        record {
          between = between;
          fair = fair;
          most = most;
          place = at.place;
          there = at.there;
          same = edit_place p d (mine₀ + i) xs at;
          bodies =
              rw (take_all (made + i + 1 + between) (started J p) (omega (arith, made')))
              (omega (arith, at.there, from_length p J.starts, ap length (k.reported p below)));
        }

    waits-next : (J : History) (call : Call) → Kept n J → Waits J → Stage (next J call)
    waits-next J call k w =
        let after = kept_next n J call k in
        let waiting : 0 < waiting_at_desk J p d = omega (arith, w.posts, w.high, accepted_count J k) in
        let same = bodies_next n J call k.members p below (some_wait J waiting) in
        let all = both_desks J k in
        let all' = both_desks (next J call) after in
        elim (step n p d below desk J call k.members) [
          | still a b f l ↦
              waits (record {
                posts = omega (arith, w.posts, more_posts J call);
                low = omega (arith, w.low, a);
                high = omega (arith, w.high, a);
                least = omega (arith, w.least, b);
                bodies = omega (arith, w.bodies, same.0, all, all', a, b);
                fair = omega (arith, w.fair, a, b);
                turn = λ e. f ∙ w.turn (omega (arith, e, a, b));
              })
          | own a ↦
              (let b : others (next J call)
              ≡ others J = omega (arith, same.0, same.1, all, all', a, more_others J call) in
              elim (ℕ_discrete (ours J) (mine₀ + i)) [
                | yes e ↦
                    begun (now (next J call) after (others J - theirs₀)
                    (omega (arith, w.fair, e))
                    (omega (arith, w.least, b))
                    (omega (arith, a, e))
                    (omega (arith, w.bodies, w.least, same.0, all, all', a, b, e)))
                | no ne ↦
                    waits (record {
                      posts = omega (arith, w.posts, more_posts J call);
                      low = omega (arith, w.low, a);
                      high = omega (arith, w.high, a, ne);
                      least = omega (arith, w.least, b);
                      bodies = omega (arith, w.bodies, same.0, all, all', a, b);
                      fair = omega (arith, w.fair, a, b);
                      turn = λ e. absurd (omega (arith, e, w.fair, a, b));
                    })
              ])
          | other a b f l never ↦
              (let before : others J + mine₀ ≤ ours J + theirs₀ =
              elim (ℕ_discrete (others J + mine₀) (ours J + theirs₀ + 1)) [
                | yes e ↦ absurd (never (w.turn e) waiting)
                | no ne ↦ omega (arith, w.fair, ne)
              ] in
              waits (record {
                posts = omega (arith, w.posts, more_posts J call);
                low = omega (arith, w.low, a);
                high = omega (arith, w.high, a);
                least = omega (arith, w.least, b);
                bodies = omega (arith, w.bodies, same.0, all, all', a, b);
                fair = omega (arith, before, a, b);
                turn = λ e. f;
              }))
        ]

    begun-next : (J : History) (call : Call) → Begun J → Begun (next J call)
    begun-next J call b =
        let xs = posts_from p J.starts in
        let ys = posts_from p (next J call).starts in
        let longer : Begins xs ys = from_begins p J.starts (next J call).starts (next_starts J call) in
        let k = made + i + 1 + b.between in
        record {
          between = b.between;
          fair = b.fair;
          most = omega (arith, b.most, more_others J call);
          place = b.place;
          there = omega (arith, b.there, begins-length xs ys longer);
          same = sym (edit_begins xs ys longer b.place b.there) ∙ b.same;
          bodies =
              omega (
                arith,
                b.bodies,
                begins-length (only_edits (take k (started J p))) (only_edits (take k (started (next J call) p)))
                    (edits_begin (take k (started J p)) (take k (started (next J call) p))
                    (take_begins k (started J p) (started (next J call) p) (next-started p J call))),
              );
        }

    stage-next : (J : History) (call : Call) → Kept n J → Stage J → Stage (next J call)
    stage-next J call k (waits w) = waits-next J call k w
    stage-next J call k (begun b) = begun (begun-next J call b)

    pub stage-continued : (J : History) (calls : List Call) → Kept n J → Stage J → Stage (continued J calls)
    unfolding continued
    stage-continued J [] k s = s
    stage-continued J (call ∷ calls) k s =
        stage-continued (next J call) calls (kept_next n J call k) (stage-next J call k s)
