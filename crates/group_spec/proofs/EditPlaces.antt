-- An edit told by station, desk and number has one place at most in a list of posts, and one in the
-- list of its source's entries; what begins another list has the same edits in the same places.
use Prim.Native.Nat.{ℕ, suc, ◌<◌}
use mathlib.Core.Bool.{Bool, true, false, cond, ◌&&◌}
use mathlib.Core.List.{List, [], ◌∷◌, ◌++◌, map, append_assoc}
use mathlib.Core.Path.{◌≡◌, refl, sym, ap, ◌∙◌}
use native.Mathlib.Decide.{dec_le}
use native.Mathlib.Omega.{arith}
use lib.Dec.{eqb}
use lib.ListN.{get_or, length, take, length-map, get_or-map}
use borrow.Author.Tests.{eq-eqb, eqb-true}
use Rattle.bodies.specs.declared.Body.{Body}
use Rattle.bodies.specs.declared.Body.TheVariants.{Empty}
use Rattle.lists.proofs.Laws.{and_both, and_left, and_right}
use Rattle.queues.specs.Waiting.{is_desk}
use Rattle.station_spec.specs.declared.Taking.{Taking}
use Rattle.group_spec.specs.declared.Post.{Post}
use Rattle.group_spec.specs.Calls.{no_taking}
use Rattle.group_spec.specs.History.{takings_of, posts_at, posts_of}
use Rattle.group_spec.specs.Demand.{Begins}
use Rattle.group_spec.specs.Replies.{Edit, no_post, edit_after, edit_at, posts_from, entry_edit}
use Rattle.group_spec.proofs.Begin.{begins_get_d, begins-take}
use Rattle.group_spec.proofs.Interleaving.{EachDesk}
use Rattle.group_spec.proofs.Picked.{picked, picked_later, picked_at, picked-place, Each, each_none, each_append, each_one}

-- the entries of a source, the posts of a station and those of a desk there are picked
abbrev of_source : ℕ → Taking → Bool
of_source s t = eqb t.source s

abbrev of_desk : ℕ → ℕ → Post → Bool
of_desk s d x = eqb x.station s && eqb x.desk d

takings_picked : (s : ℕ) (ts : List Taking) → takings_of s ts ≡ picked (of_source s) (λ t. t.body) ts
unfolding takings_of picked
takings_picked s [] = refl
takings_picked s (t ∷ ts) =
    ap (λ (z : List Body). cond (eqb t.source s) (t.body ∷ []) [] ++ z) (takings_picked s ts)

posts_picked : (s d : ℕ) (xs : List Post) → posts_of s d xs ≡ picked (of_desk s d) (λ x. x.body) xs
unfolding posts_of picked
posts_picked s d [] = refl
posts_picked s d (x ∷ xs) = ap (λ (z : List Body). cond (of_desk s d x) (x.body ∷ []) [] ++ z) (posts_picked s d xs)

-- entries of a source
module _ (s : ℕ) (ts : List Taking) (i : ℕ) (l : i < length ts) (e : (get_or ts i no_taking).source ≡ s) where
  pub taking_later : (k : ℕ) → i < k → length (takings_of s (take i ts)) < length (takings_of s (take k ts))
  taking_later k h =
      rw (takings_picked s (take i ts), takings_picked s (take k ts))
      (picked_later (of_source s) (λ t. t.body) no_taking ts i k h l (eq-eqb (get_or ts i no_taking).source s e))

  pub taking_at :
      (length (takings_of s (take i ts)) < length (takings_of s ts))
      × (get_or (takings_of s ts) (length (takings_of s (take i ts))) Empty ≡ (get_or ts i no_taking).body)
  taking_at =
      rw (takings_picked s (take i ts), takings_picked s ts)
      (picked_at (of_source s) (λ t. t.body) no_taking Empty ts i l (eq-eqb (get_or ts i no_taking).source s e))

-- the place of entry number j of a source
pub taking_place :
    (s : ℕ) (ts : List Taking) (j : ℕ) → j < length (takings_of s ts) →
    (i : ℕ) × (i < length ts) × ((get_or ts i no_taking).source ≡ s) × (length (takings_of s (take i ts)) ≡ j)
taking_place s ts j l =
    let p = picked-place (of_source s) (λ t. t.body) no_taking ts j (rw (← takings_picked s ts) l) in (
      p.place,
      p.there,
      eqb-true (get_or ts p.place no_taking).source s p.tested,
      ap length (takings_picked s (take p.place ts)) ∙ p.before,
    )

-- posts of a desk
module _ (s d : ℕ) (xs : List Post) where
  module _ (k : ℕ) (l : k < length xs) (es : (get_or xs k no_post).station ≡ s) (ed : (get_or xs k no_post).desk ≡ d) where
    here : of_desk s d (get_or xs k no_post) ≡ true
    here = and_both (eq-eqb (get_or xs k no_post).station s es) (eq-eqb (get_or xs k no_post).desk d ed)

    pub post_later : (m : ℕ) → k < m → length (posts_of s d (take k xs)) < length (posts_of s d (take m xs))
    post_later m h =
        rw (posts_picked s d (take k xs), posts_picked s d (take m xs))
        (picked_later (of_desk s d) (λ x. x.body) no_post xs k m h l here)

    pub post_at :
        (length (posts_of s d (take k xs)) < length (posts_of s d xs))
        × (get_or (posts_of s d xs) (length (posts_of s d (take k xs))) Empty ≡ (get_or xs k no_post).body)
    post_at =
        rw (posts_picked s d (take k xs), posts_picked s d xs)
        (picked_at (of_desk s d) (λ x. x.body) no_post Empty xs k l here)

  -- the place of the desk's post number j
  pub record PostPlace (j : ℕ) : Type 0 where
    pub place : ℕ
    pub there : place < length xs
    pub station : (get_or xs place no_post).station ≡ s
    pub desk : (get_or xs place no_post).desk ≡ d
    pub before : length (posts_of s d (take place xs)) ≡ j

  pub post_place : (j : ℕ) → j < length (posts_of s d xs) → PostPlace j
  post_place j l =
      let p = picked-place (of_desk s d) (λ x. x.body) no_post xs j (rw (← posts_picked s d xs) l) in
      let x = get_or xs p.place no_post in
      record {
        place = p.place;
        there = p.there;
        station = eqb-true x.station s (and_left (eqb x.station s) (eqb x.desk d) p.tested);
        desk = eqb-true x.desk d (and_right (eqb x.station s) (eqb x.desk d) p.tested);
        before = ap length (posts_picked s d (take p.place xs)) ∙ p.before;
      }

-- two places are two edits
apart : (xs : List Post) (k m : ℕ) → k < m → k < length xs → edit_at xs k ≡ edit_at xs m → ⊥
unfolding edit_at
apart xs k m h l e =
    let x = get_or xs k no_post in
    let y = get_or xs m no_post in
    let es : x.station ≡ y.station = ap (λ (z : Edit). z.source) e in
    let ed : x.desk ≡ y.desk = ap (λ (z : Edit). z.desk) e in
    let en : length (posts_of x.station x.desk (take k xs)) ≡ length (posts_of y.station y.desk (take m xs)) =
    ap (λ (z : Edit). z.number) e in
    let same : length (posts_of x.station x.desk (take m xs))
    ≡ length (posts_of y.station y.desk (take m xs)) =
    (λ i. length (posts_of (es i) (ed i) (take m xs))) in
    absurd (omega (arith, en, same, post_later x.station x.desk xs k l refl refl m h))

pub posts_apart : (xs : List Post) (k m : ℕ) → k < length xs → m < length xs → edit_at xs k ≡ edit_at xs m → k ≡ m
posts_apart xs k m lk lm e =
    elim (dec_le (suc k) m) [
      | yes h ↦ absurd (apart xs k m h lk e)
      | no h ↦ elim (dec_le (suc m) k) [ yes b ↦ absurd (apart xs m k b lm (sym e)) | no b ↦ omega (arith, h, b) ]
    ]

-- the edit at the place of a desk's post number j
pub edit_place :
    (s d j : ℕ) (xs : List Post) (p : PostPlace s d xs j) → edit_at xs p.place
    ≡ record { source = s; desk = d; number = j }
unfolding edit_at
edit_place s d j xs p =
    let x = get_or xs p.place no_post in
    let same : length (posts_of x.station x.desk (take p.place xs))
    ≡ length (posts_of s d (take p.place xs)) =
    (λ i. length (posts_of (p.station i) (p.desk i) (take p.place xs))) in
    let all : length (posts_of x.station x.desk (take p.place xs)) ≡ j = same ∙ p.before in
    (λ i. record { source = p.station i; desk = p.desk i; number = all i })

-- the posts of one station
pub from_append : (s : ℕ) (xs ys : List Post) → posts_from s (xs ++ ys) ≡ posts_from s xs ++ posts_from s ys
unfolding posts_from
from_append s [] ys = refl
from_append s (x ∷ xs) ys =
    ap (λ (z : List Post). cond (eqb x.station s) (x ∷ []) [] ++ z) (from_append s xs ys)
    ∙ sym (append_assoc (cond (eqb x.station s) (x ∷ []) []) (posts_from s xs) (posts_from s ys))

from_bodies : (s : ℕ) (xs : List Post) → map (λ x. x.body) (posts_from s xs) ≡ posts_at s xs
unfolding posts_from posts_at
from_bodies s [] = refl
from_bodies s (x ∷ xs) = go (eqb x.station s) (from_bodies s xs)
  where
    go :
        (t : Bool) → map (λ x. x.body) (posts_from s xs) ≡ posts_at s xs →
        map (λ x. x.body) (cond t (x ∷ []) [] ++ posts_from s xs) ≡ cond t (x.body ∷ []) [] ++ posts_at s xs
    go true h = ap (λ (z : List Body). x.body ∷ z) h
    go false h = h

pub from_length : (s : ℕ) (xs : List Post) → length (posts_from s xs) ≡ length (posts_at s xs)
from_length s xs = sym (length-map (posts_from s xs) (λ x. x.body)) ∙ ap length (from_bodies s xs)

pub from_body : (s : ℕ) (xs : List Post) (k : ℕ) → (get_or (posts_from s xs) k no_post).body ≡ get_or (posts_at s xs) k Empty
from_body s xs k =
    sym (get_or-map (λ x. x.body) (posts_from s xs) k no_post)
    ∙ ap (λ (z : List Body). get_or z k Empty) (from_bodies s xs)

-- each is of that station, and of a desk
pub record OfStation (s : ℕ) (x : Post) : Type 0 where
  pub station : x.station ≡ s
  pub desk : is_desk x.desk ≡ true

pub from_each : (s : ℕ) (xs : List Post) → EachDesk xs → Each (OfStation s) (posts_from s xs)
unfolding posts_from EachDesk
from_each s [] h = each_none (OfStation s)
from_each s (x ∷ xs) h =
    each_append (OfStation s) (cond (eqb x.station s) (x ∷ []) []) (posts_from s xs)
    (each_one (OfStation s) (eqb x.station s) x (λ e. record { station = eqb-true x.station s e; desk = h.0 }))
    (from_each s xs h.1)

-- the posts of a desk are among those of its station
pub from_desk : (s d : ℕ) (xs : List Post) → posts_of s d (posts_from s xs) ≡ posts_of s d xs
unfolding posts_from posts_of
from_desk s d [] = refl
from_desk s d (x ∷ xs) = go (eqb x.station s) refl (from_desk s d xs)
  where
    go :
        (t : Bool) → eqb x.station s ≡ t → posts_of s d (posts_from s xs) ≡ posts_of s d xs →
        posts_of s d (cond t (x ∷ []) [] ++ posts_from s xs)
        ≡ cond (t && eqb x.desk d) (x.body ∷ []) [] ++ posts_of s d xs
    go true e h = rw e (ap (λ (z : List Body). cond (eqb x.desk d) (x.body ∷ []) [] ++ z) h)
    go false e h = h

-- what begins another list
pub edit_begins : (xs ys : List Post) → Begins xs ys → (k : ℕ) → k < length xs → edit_at xs k ≡ edit_at ys k
unfolding edit_at
edit_begins xs ys b k l =
    let first : take k xs ≡ take k ys = begins-take xs ys b k (omega arith) in
    let at : get_or xs k no_post ≡ get_or ys k no_post = begins_get_d xs ys b k no_post l in
    (λ i. edit_after (first i) (at i))

pub from_begins : (s : ℕ) (xs ys : List Post) → Begins xs ys → Begins (posts_from s xs) (posts_from s ys)
from_begins s xs ys b =
    record { rest = posts_from s b.rest; whole = sym (from_append s xs b.rest) ∙ ap (posts_from s) b.whole }

pub entry_begins :
    (starts : List Post) (ts us : List Taking) → Begins ts us → (i : ℕ) → i < length ts → entry_edit starts ts i
    ≡ entry_edit starts us i
unfolding entry_edit
entry_begins starts ts us b i l =
    let first : take i ts ≡ take i us = begins-take ts us b i (omega arith) in
    let at : get_or ts i no_taking ≡ get_or us i no_taking = begins_get_d ts us b i no_taking l in
    (λ t. edit_at (posts_from (at t).source starts) (length (takings_of (at t).source (first t))))

pub entry_starts :
    (xs ys : List Post) (ts : List Taking) → Begins xs ys → (i : ℕ) →
    length (takings_of (get_or ts i no_taking).source (take i ts)) < length (posts_from (get_or ts i no_taking).source xs)
    →
    entry_edit xs ts i ≡ entry_edit ys ts i
unfolding entry_edit
entry_starts xs ys ts b i l =
    let s = (get_or ts i no_taking).source in
    edit_begins (posts_from s xs) (posts_from s ys) (from_begins s xs ys b) (length (takings_of s (take i ts))) l
