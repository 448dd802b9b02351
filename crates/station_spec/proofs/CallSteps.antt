-- The answers of the open calls, each with the tests on its way decided.
use Prim.Native.Nat.{ℕ, ◌≤◌, ◌<◌}
use mathlib.Core.Path.{◌≡◌, ◌∙◌}
use mathlib.Core.Bool.{Bool, true, false, ◌&&◌}
use mathlib.Core.List.{List}
use lib.ListN.{replicate}
use lib.Dec.{leb, ltb, eqb}
use borrow.Author.Tests.{leb-true, ltb-true, ne_eqb}
use Rattle.bodies.specs.declared.Body.{Body}
use Rattle.bodies.specs.Limits.{is_edition, postable, on_channel}
use Rattle.bodies.specs.Refusals.{done, number_of}
use Rattle.frame_spec.specs.Frame.{valid_number, frame_refusal, records_of}
use Rattle.lists.proofs.Laws.{and_left, and_right}
use Rattle.queues.specs.Waiting.{is_desk, limit_inside, has_room}
use Rattle.station_spec.specs.declared.Setup.{Setup}
use Rattle.station_spec.specs.declared.Station.{Station}
use Rattle.station_spec.specs.Hearing.{Hearing, initial_hearing, hear_frame}
use Rattle.station_spec.specs.State.{alone_setup, fresh_station}
use Rattle.station_spec.specs.Limits.{station_inside}
use Rattle.station_spec.specs.Calls.{fresh_call, posted, post_call, sources_of, hear_call}

pub valid_parts : (n own : ℕ) → valid_number n own ≡ true → (1 ≤ n) × (n ≤ 16) × (own < n)
valid_parts n own h =
    let p = and_left (leb 1 n && leb n 16) (ltb own n) h in
    (leb-true _ _ (and_left _ _ p), leb-true _ _ (and_right (leb 1 n) _ p), ltb-true _ _ (and_right (leb 1 n && leb n 16) _ h))

-- fresh: 1, 13, 17
pub fresh_done :
    (setup : Setup) (own : ℕ) (s : Station) → valid_number setup.n own ≡ true → limit_inside setup.limit ≡ true → is_edition setup.edition ≡ true →
    s ≡ fresh_station setup own →
    record { refusal = 0; station = s } ≡ fresh_call setup own
unfolding fresh_call
fresh_done setup own s v l k e = rw (v, l, k, e)

pub fresh_refused :
    (setup : Setup) (own : ℕ) (s : Station) → valid_number setup.n own ≡ false → s ≡ fresh_station alone_setup 0 →
    record { refusal = 1; station = s } ≡ fresh_call setup own
unfolding fresh_call
fresh_refused setup own s v e = rw (v, e)

pub fresh_unlimited :
    (setup : Setup) (own : ℕ) (s : Station) → valid_number setup.n own ≡ true → limit_inside setup.limit ≡ false → s ≡ fresh_station alone_setup 0 →
    record { refusal = 13; station = s } ≡ fresh_call setup own
unfolding fresh_call
fresh_unlimited setup own s v l e = rw (v, l, e)

pub fresh_no_edition :
    (setup : Setup) (own : ℕ) (s : Station) → valid_number setup.n own ≡ true → limit_inside setup.limit ≡ true → is_edition setup.edition ≡ false →
    s ≡ fresh_station alone_setup 0 →
    record { refusal = 17; station = s } ≡ fresh_call setup own
unfolding fresh_call
fresh_no_edition setup own s v l k e = rw (v, l, k, e)

-- post: 2, 15, 4, 17, 3
module _ (s : Station) (d : ℕ) (b : Body) where
  pub post_outside : station_inside s ≡ false → record { refusal = 2; station = s } ≡ post_call s d b
  unfolding post_call
  post_outside i = rw i

  pub post_no_desk : station_inside s ≡ true → is_desk d ≡ false → record { refusal = 15; station = s } ≡ post_call s d b
  unfolding post_call
  post_no_desk i k = rw (i, k)

  pub post_no_edit : station_inside s ≡ true → is_desk d ≡ true → postable b ≡ false → record { refusal = 4; station = s } ≡ post_call s d b
  unfolding post_call
  post_no_edit i k e = rw (i, k, e)

  pub post_off_channel :
      station_inside s ≡ true → is_desk d ≡ true → postable b ≡ true → on_channel s.edition b ≡ false →
      record { refusal = 17; station = s } ≡ post_call s d b
  unfolding post_call
  post_off_channel i k e c = rw (i, k, e, c)

  module _ (i : station_inside s ≡ true) (k : is_desk d ≡ true) (e : postable b ≡ true) (c : on_channel s.edition b ≡ true) where
    pub post_full : has_room s.waiting d ≡ false → record { refusal = 3; station = s } ≡ post_call s d b
    unfolding post_call
    post_full f = rw (i, k, e, c, f)

    pub post_done : has_room s.waiting d ≡ true → record { refusal = 0; station = posted s d b } ≡ post_call s d b
    unfolding post_call
    post_done f = rw (i, k, e, c, f)

-- hear: 2, 5, 6, 7, then 14 or 8
module _ (s : Station) (bytes : List ℕ) where
  abbrev pub heard_frame : Hearing
  heard_frame = hear_frame (initial_hearing s) (records_of bytes)

  pub hear_outside : station_inside s ≡ false → record { refusal = 2; station = s; taken = replicate 16 false } ≡ hear_call s bytes
  unfolding hear_call
  hear_outside i = rw i

  pub hear_refused :
      (q : ℕ) → station_inside s ≡ true → q ≡ number_of (frame_refusal s.edition bytes s.n s.own) → (q ≡ 0 → ⊥) →
      record { refusal = q; station = s; taken = replicate 16 false } ≡ hear_call s bytes
  unfolding hear_call
  hear_refused q i e ne =
      let f : eqb (number_of (frame_refusal s.edition bytes s.n s.own)) 0 ≡ false = ne_eqb _ 0 (λ z. ne (e ∙ z)) in
      rw (i, f, f, e)

  module _ (i : station_inside s ≡ true) (e : number_of (frame_refusal s.edition bytes s.n s.own) ≡ 0) where
    pub hear_stopped :
        (q : ℕ) → q ≡ heard_frame.refusal → (q ≡ done → ⊥) → record { refusal = q; station = s; taken = replicate 16 false } ≡ hear_call s bytes
    unfolding hear_call
    hear_stopped q f ne = rw (i, e, ← f, ne_eqb q done ne)

    pub hear_done :
        (x : Station) (t : List Bool) → heard_frame.refusal ≡ done → x ≡ heard_frame.station → t ≡ sources_of heard_frame.takings →
        record { refusal = 0; station = x; taken = t } ≡ hear_call s bytes
    unfolding hear_call
    hear_done x t f a b = rw (i, e, f, a, b)
