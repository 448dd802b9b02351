-- The answers of group fresh, group post and round, each with the tests on its way decided: of
-- several refusals that apply the first in its order is answered.
use Prim.Native.Nat.{ℕ, ◌≤◌, ◌<◌}
use mathlib.Core.Path.{◌≡◌, refl, ap}
use mathlib.Core.Bool.{Bool, true, false, cond, not, ◌&&◌}
use mathlib.Core.List.{List}
use lib.Dec.{leb, ltb, eqb}
use lib.ListN.{set, replicate}
use lib.Seq.{set-get_or}
use borrow.Author.Tests.{leb-true, lt-ltb, le-ltb, ne_eqb}
use Rattle.lists.specs.Below.{all_below, any_below, set_below}
use Rattle.lists.proofs.Laws.{and_left, all_below_not, any_below_none, any_below_hit}
use Rattle.bodies.specs.declared.Body.{Body}
use Rattle.bodies.specs.Refusals.{done}
use Rattle.frame_spec.specs.Frame.{valid_number}
use Rattle.bodies.specs.Limits.{is_edition}
use Rattle.queues.specs.Waiting.{limit_inside}
use Rattle.station_spec.specs.declared.Setup.{Setup}
use Rattle.station_spec.specs.declared.Station.{Station}
use Rattle.station_spec.specs.declared.StationAnswer.{StationAnswer}
use Rattle.station_spec.specs.State.{alone_setup}
use Rattle.station_spec.specs.Limits.{station_inside}
use Rattle.station_spec.specs.Calls as station
use Rattle.station_spec.specs.Calls.{posted, post_refusal, own_count_inside}
use Rattle.station_spec.proofs.StationLimits.{inside_make}
use Rattle.group_spec.specs.declared.Post.{Post}
use Rattle.group_spec.specs.declared.RoundDone.{RoundDone}
use Rattle.group_spec.specs.State.{no_station, station_at, size_of, group_inside, fresh_group}
use Rattle.group_spec.specs.Calls.{group_fresh_refusal, group_fresh_call, group_post_refusal, group_post_call, heard, no_report, report_of, round_refusal, after_round, round_call}
use Rattle.group_spec.proofs.FirstRefusal.{first_none, first_hit}
use Rattle.group_spec.proofs.Members.{member_at}

-- fresh: 1, 13, 17
module _ (setup : Setup) (g : List Station) where
  abbrev n : ℕ
  n = setup.n

  pub fresh_done :
      valid_number n 0 ≡ true → limit_inside setup.limit ≡ true → is_edition setup.edition ≡ true → g ≡ fresh_group setup →
      record { refusal = 0; group = g } ≡ group_fresh_call setup
  unfolding group_fresh_call group_fresh_refusal
  fresh_done v l w e = rw (and_left (leb 1 n && leb n 16) (ltb 0 n) v, l, w, e)

  pub fresh_no_edition :
      valid_number n 0 ≡ true → limit_inside setup.limit ≡ true → is_edition setup.edition ≡ false → g ≡ fresh_group alone_setup →
      record { refusal = 17; group = g } ≡ group_fresh_call setup
  unfolding group_fresh_call group_fresh_refusal
  fresh_no_edition v l w e = rw (and_left (leb 1 n && leb n 16) (ltb 0 n) v, l, w, e)

  pub fresh_unlimited :
      valid_number n 0 ≡ true → limit_inside setup.limit ≡ false → g ≡ fresh_group alone_setup → record { refusal = 13; group = g } ≡ group_fresh_call setup
  unfolding group_fresh_call group_fresh_refusal
  fresh_unlimited v l e = rw (and_left (leb 1 n && leb n 16) (ltb 0 n) v, l, e)

  pub fresh_refused : valid_number n 0 ≡ false → g ≡ fresh_group alone_setup → record { refusal = 1; group = g } ≡ group_fresh_call setup
  unfolding group_fresh_call group_fresh_refusal
  fresh_refused v e = rw (go (leb 1 n) refl v, e)
    where
      left : (t : Bool) → (t && true) ≡ false → t ≡ false
      left true h = h
      left false h = refl

      go : (t : Bool) → leb 1 n ≡ t → (t && leb n 16) && ltb 0 n ≡ false → leb 1 n && leb n 16 ≡ false
      go true p v = rw p (left (leb n 16) (rw (lt-ltb 0 n (leb-true 1 n p)) at v))
      go false p v = rw p

-- post: 2, 1, and then what the station answers
module _ (g : List Station) (x : Post) where
  abbrev k : ℕ
  k = x.station

  abbrev d : ℕ
  d = x.desk

  abbrev b : Body
  b = x.body

  pub post_outside : group_inside g ≡ false → record { refusal = 2; group = g } ≡ group_post_call g x
  unfolding group_post_call group_post_refusal
  post_outside i = rw i

  module _ (i : group_inside g ≡ true) where
    pub post_nobody : size_of g ≤ k → record { refusal = 1; group = g } ≡ group_post_call g x
    unfolding group_post_call group_post_refusal
    post_nobody l = rw (i, le-ltb k (size_of g) l)

    module _ (l : k < size_of g) where
      abbrev s : Station
      s = station_at g k

      inside : station_inside s ≡ true
      inside = inside_make s (member_at g i k l).inside

      -- a station that is put back as it was leaves the group
      put : (t : Bool) → set g k (cond t (posted s d b) s) ≡ cond t (set g k (posted s d b)) g
      put true = refl
      put false = set-get_or g k no_station

      pub post_there :
          (kept : StationAnswer) → kept ≡ station.post_call s d b → record { refusal = kept.refusal; group = set g k kept.station } ≡ group_post_call g x
      unfolding group_post_call group_post_refusal station.post_call
      post_there kept e =
          rw (e, inside, i, lt-ltb k (size_of g) l)
          (λ j. record { refusal = post_refusal s d b; group = put (eqb (post_refusal s d b) 0) j })

-- round: 2, 10, and the refusal of the first refused frame
module _ (g : List Station) (masks : List ℕ) where
  abbrev pub refused : ℕ → RoundDone
  refused number = record { refusal = number; group = g; reports = replicate 16 no_report }

  pub round_outside : group_inside g ≡ false → refused 2 ≡ round_call g masks
  unfolding round_call round_refusal
  round_outside i = rw i

  module _ (i : group_inside g ≡ true) where
    abbrev too_high : ℕ → Bool
    too_high k = not (own_count_inside (station_at g k))

    abbrev refusals : ℕ → ℕ
    refusals k = (heard g masks k).refusal

    pub round_count : all_below (size_of g) (λ k. own_count_inside (station_at g k)) ≡ false → refused 10 ≡ round_call g masks
    unfolding round_call round_refusal
    round_count a =
        let r = all_below_not (size_of g) (λ k. own_count_inside (station_at g k)) a in
        rw (i, any_below_hit (size_of g) too_high r.0 r.1 (ap not r.2))

    module _ (counts : (k : ℕ) → k < size_of g → own_count_inside (station_at g k) ≡ true) where
      none_high : any_below (size_of g) too_high ≡ false
      none_high = any_below_none (size_of g) too_high (λ k l. ap not (counts k l))

      pub round_stopped :
          (k : ℕ) → k < size_of g → ((j : ℕ) → j < k → refusals j ≡ done) → (refusals k ≡ done → ⊥) → refused (refusals k) ≡ round_call g masks
      unfolding round_call round_refusal
      round_stopped k l before hit =
          rw (i, none_high, first_hit (size_of g) refusals k l before hit, ne_eqb (refusals k) done hit)

      pub round_done :
          ((k : ℕ) → k < size_of g → refusals k ≡ done) →
          record { refusal = 0; group = after_round g masks; reports = set_below (size_of g) (report_of g masks) (replicate 16 no_report) }
          ≡ round_call g masks
      unfolding round_call round_refusal
      round_done e = rw (i, none_high, first_none (size_of g) refusals e)
