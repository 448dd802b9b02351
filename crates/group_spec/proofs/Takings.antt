-- The bodies of one station in a list of takings or of posts: those of two lists one after the
-- other, of a single entry, and of what is gathered with its place as station.
use Prim.Native.Nat.{ℕ, zero, suc, ◌≤◌, ◌<◌}
use mathlib.Core.Bool.{Bool, true, false, cond, ◌&&◌}
use mathlib.Core.List.{List, [], ◌∷◌, ◌++◌, append-nil, append_assoc, map, map-append}
use mathlib.Core.Path.{◌≡◌, refl, sym, ap, subst, ◌∙◌}
use native.Mathlib.Decide.{ℕ_discrete}
use native.Mathlib.Omega.{arith}
use borrow.Author.Tests.{eq-eqb, ne_eqb}
use lib.Dec.{eqb}
use Rattle.bodies.specs.declared.Body.{Body}
use Rattle.bodies.specs.Body.{is_empty, is_edit}
use Rattle.bodies.proofs.BodyLaws.{edit_not_empty}
use Rattle.lists.specs.Below.{filter_map}
use Rattle.lists.proofs.Laws.{map_filter_map}
use Rattle.station_spec.specs.declared.Taking.{Taking}
use Rattle.group_spec.specs.declared.Post.{Post}
use Rattle.group_spec.specs.History.{takings_of, posts_at, posts_of, only_edits, unless_empty}

pub takings_of-append : (q : ℕ) (xs ys : List Taking) → takings_of q (xs ++ ys) ≡ takings_of q xs ++ takings_of q ys
unfolding takings_of
takings_of-append q [] ys = refl
takings_of-append q (t ∷ xs) ys =
    ap (λ (z : List Body). cond (eqb t.source q) (t.body ∷ []) [] ++ z) (takings_of-append q xs ys)
    ∙ sym (append_assoc (cond (eqb t.source q) (t.body ∷ []) []) (takings_of q xs) (takings_of q ys))

pub taking_other : (q k : ℕ) (b : Bool) (body : Body) → (k ≡ q → ⊥) → takings_of q (cond b (record { source = k; body = body } ∷ []) []) ≡ []
unfolding takings_of
taking_other q k true body d = rw (ne_eqb k q d)
taking_other q k false body d = refl

pub taking_here : (k : ℕ) (b : Bool) (body : Body) → takings_of k (cond b (record { source = k; body = body } ∷ []) []) ≡ cond b (body ∷ []) []
unfolding takings_of
taking_here k true body = rw (eq-eqb k k refl)
taking_here k false body = refl

-- what is gathered with its place as source: the bodies of one place
module _ (test : ℕ → Bool) (body : ℕ → Body) (p : ℕ) where
  abbrev takings : ℕ → List Taking
  takings m = filter_map m test (λ k. record { source = k; body = body k })

  abbrev last : ℕ → List Taking
  last m = cond (test m) (record { source = m; body = body m } ∷ []) []

  last_other : (m : ℕ) → (m ≡ p → ⊥) → takings_of p (last m) ≡ []
  last_other m ne = taking_other p m (test m) (body m) ne

  last_own : (m : ℕ) → m ≡ p → takings_of p (last m) ≡ cond (test p) (body p ∷ []) []
  last_own m e =
      subst (λ (k : ℕ). takings_of p (last k) ≡ cond (test p) (body p ∷ []) []) (sym e) (taking_here p (test p) (body p))

  before_own : (m : ℕ) → m ≤ p → takings_of p (takings m) ≡ []
  unfolding filter_map takings_of
  before_own zero l = refl
  before_own (suc m) l =
      takings_of-append p (takings m) (last m)
      ∙ ap (λ (x : List Body). x ++ takings_of p (last m)) (before_own m (omega arith))
      ∙ last_other m (λ e. absurd (omega arith))

  pub gathered_own : (m : ℕ) → p < m → takings_of p (takings m) ≡ cond (test p) (body p ∷ []) []
  unfolding filter_map
  gathered_own zero l = absurd (omega arith)
  gathered_own (suc m) l =
      takings_of-append p (takings m) (last m)
      ∙ elim (ℕ_discrete m p) [
        | yes e ↦ ap (λ (x : List Body). x ++ takings_of p (last m)) (before_own m (omega arith)) ∙ last_own m e
        | no d ↦
            ap (λ (x : List Body). x ++ takings_of p (last m)) (gathered_own m (omega arith))
            ∙ ap (λ (x : List Body). cond (test p) (body p ∷ []) [] ++ x) (last_other m d)
            ∙ append-nil (cond (test p) (body p ∷ []) [])
      ]

-- posts are takings of their station
abbrev taking_of : Post → Taking
taking_of x = record { source = x.station; body = x.body }

posts_takings : (q : ℕ) (xs : List Post) → posts_at q xs ≡ takings_of q (map taking_of xs)
unfolding posts_at takings_of
posts_takings q [] = refl
posts_takings q (x ∷ xs) = ap (λ (z : List Body). cond (eqb x.station q) (x.body ∷ []) [] ++ z) (posts_takings q xs)

pub posts_at-append : (q : ℕ) (xs ys : List Post) → posts_at q (xs ++ ys) ≡ posts_at q xs ++ posts_at q ys
posts_at-append q xs ys =
    posts_takings q (xs ++ ys)
    ∙ ap (takings_of q) (map-append taking_of xs ys)
    ∙ takings_of-append q (map taking_of xs) (map taking_of ys)
    ∙ sym (λ i. posts_takings q xs i ++ posts_takings q ys i)

pub posts_of-append : (q d : ℕ) (xs ys : List Post) → posts_of q d (xs ++ ys) ≡ posts_of q d xs ++ posts_of q d ys
unfolding posts_of
posts_of-append q d [] ys = refl
posts_of-append q d (x ∷ xs) ys =
    ap (λ (z : List Body). cond (eqb x.station q && eqb x.desk d) (x.body ∷ []) [] ++ z) (posts_of-append q d xs ys)
    ∙ sym (append_assoc (cond (eqb x.station q && eqb x.desk d) (x.body ∷ []) []) (posts_of q d xs) (posts_of q d ys))

-- a single post
pub desk_other : (q d : ℕ) (x : Post) → (x.station ≡ q → ⊥) → posts_of q d (x ∷ []) ≡ []
unfolding posts_of
desk_other q d x ne = rw (ne_eqb x.station q ne)

pub desk_here : (d : ℕ) (x : Post) → posts_of x.station d (x ∷ []) ≡ cond (eqb x.desk d) (x.body ∷ []) []
unfolding posts_of
desk_here d x = rw (eq-eqb x.station x.station refl) (append-nil (cond (eqb x.desk d) (x.body ∷ []) []))

pub post_other : (q : ℕ) (x : Post) → (x.station ≡ q → ⊥) → posts_at q (x ∷ []) ≡ []
unfolding posts_at
post_other q x d = rw (ne_eqb x.station q d)

pub post_here : (x : Post) → posts_at x.station (x ∷ []) ≡ x.body ∷ []
unfolding posts_at
post_here x = rw (eq-eqb x.station x.station refl)

-- what is gathered with its place as station, and a desk for each: the bodies of one place, and
-- those of one desk there
module _ (test : ℕ → Bool) (desk : ℕ → ℕ) (body : ℕ → Body) where
  abbrev post_at : ℕ → Post
  post_at k = record { station = k; desk = desk k; body = body k }

  pub posts_gathered : (p m : ℕ) → p < m → posts_at p (filter_map m test post_at) ≡ cond (test p) (body p ∷ []) []
  posts_gathered p m l =
      posts_takings p (filter_map m test post_at)
      ∙ ap (takings_of p) (map_filter_map taking_of m test post_at)
      ∙ gathered_own test body p m l

  -- the posts of a desk are the takings of its places
  desk_takings :
      (p d m : ℕ) → posts_of p d (filter_map m test post_at) ≡ takings_of p (filter_map m (λ k. test k && eqb (desk k) d) (λ k. record { source = k; body = body k }))
  unfolding filter_map posts_of takings_of
  desk_takings p d zero = refl
  desk_takings p d (suc m) =
      posts_of-append p d (filter_map m test post_at) (cond (test m) (post_at m ∷ []) [])
      ∙ (λ i. desk_takings p d m i ++ last (test m) (eqb (desk m) d) refl i)
      ∙ sym (takings_of-append p (filter_map m (λ k. test k && eqb (desk k) d) (λ k. record { source = k; body = body k })) (cond (test m && eqb (desk m) d) (record { source = m; body = body m } ∷ []) []))
    where
      last :
          (t u : Bool) → eqb (desk m) d ≡ u →
          posts_of p d (cond t (post_at m ∷ []) []) ≡ takings_of p (cond (t && u) (record { source = m; body = body m } ∷ []) [])
      last false u e = refl
      last true true e = rw e (and_one (eqb m p))
        where
          and_one : (v : Bool) → cond (v && true) (body m ∷ []) [] ++ [] ≡ cond v (body m ∷ []) [] ++ []
          and_one true = refl
          and_one false = refl
      last true false e = rw e (and_none (eqb m p))
        where
          and_none : (v : Bool) → cond (v && false) (body m ∷ []) [] ++ [] ≡ []
          and_none true = refl
          and_none false = refl

  pub desk_gathered : (p d m : ℕ) → p < m → posts_of p d (filter_map m test post_at) ≡ cond (test p && eqb (desk p) d) (body p ∷ []) []
  desk_gathered p d m l = desk_takings p d m ∙ gathered_own (λ k. test k && eqb (desk k) d) body p m l

-- the edits of two lists
pub only_edits-append : (xs ys : List Body) → only_edits (xs ++ ys) ≡ only_edits xs ++ only_edits ys
unfolding only_edits
only_edits-append [] ys = refl
only_edits-append (b ∷ xs) ys =
    ap (λ (z : List Body). cond (is_edit b) (b ∷ []) [] ++ z) (only_edits-append xs ys)
    ∙ sym (append_assoc (cond (is_edit b) (b ∷ []) []) (only_edits xs) (only_edits ys))

-- a body that is not Empty, where it is an edit
pub only_edits_unless : (b : Body) → only_edits (unless_empty b) ≡ cond (is_edit b) (b ∷ []) []
unfolding only_edits
only_edits_unless b = go (is_edit b) refl
  where
    go : (t : Bool) → is_edit b ≡ t → only_edits (unless_empty b) ≡ cond t (b ∷ []) []
    go true e = rw (edit_not_empty b e, e)
    go false e = blank (is_empty b)
      where
        blank : (t : Bool) → only_edits (cond t [] (b ∷ [])) ≡ []
        blank true = refl
        blank false = rw e
