-- Notices one behind the other in an array whose other entries are unused: one more, or none.
use mathlib.Core.Bool.{Bool, true, false, cond, not, ◌&&◌}
use mathlib.Core.List.{List, [], ◌∷◌, ◌++◌, append-nil, append_assoc}
use mathlib.Core.Path.{◌≡◌, refl, sym, ap, ap₂, ◌∙◌}
use Prim.Native.Nat.{ℕ, suc, ◌+◌, ◌*◌, ◌-◌, ◌<◌, ◌≤◌}
use native.Mathlib.Numerals.{add-one}
use native.Mathlib.Omega.{arith}
use lib.ListN.{get_or, length, length-append, length-take, replicate, set, take, get_or-replicate}
use lib.Seq.{set_at, append_snoc, take-suc, set-get_or}
use Rattle.std.proofs.lemmas.List.{get_or-take}
use Rattle.links.specs.Log.{bit}
use Rattle.lists.specs.Below.{set_below}
use Rattle.lists.proofs.Laws.{set_below_more, set_below_above}
use Rattle.bulletins_spec.specs.declared.Notice.{Notice}
use Rattle.bulletins_spec.specs.Order.{picked}
use Rattle.bulletins_spec.specs.declared.Shown.{Shown}
use Rattle.bulletins_spec.specs.Calls.{no_notice, shown_of, none_shown}
use Rattle.bulletins.specs.Sets.{new_in}

-- the first 4 n of the places
module _ (n : ℕ) (places : List ℕ) (few : n ≤ 16) where
  pub items_few : length (take (4 * n) places) ≤ 64
  items_few = omega (arith, length-take (4 * n) places)

  pub item_small :
      ((t : ℕ) → t < 4 * n → get_or places t 0 < 64) →
      (t : ℕ) → t < length (take (4 * n) places) → get_or (take (4 * n) places) t 0 < 64
  item_small h t l =
      let below : t < 4 * n = omega (arith, length-take (4 * n) places) in
      omega (arith, get_or-take (4 * n) places t 0 below, h t below)

-- one notice behind the others
pub shown_more : (l : List Notice) (x : Notice) → length l < 64
    → ◌≡◌ {A = Shown} (record { len = (shown_of l).len + 1; notices = set (shown_of l).notices (shown_of l).len x }) (shown_of (l ++ x ∷ []))
unfolding shown_of
shown_more l x h =
    let long : length (l ++ x ∷ []) ≡ length l + 1 = length-append l (x ∷ []) in
    let room : 64 - length l ≡ suc (64 - (length l + 1)) = omega arith in
    let put : set (l ++ replicate (64 - length l) no_notice) (length l) x ≡ (l ++ x ∷ []) ++ replicate (64 - (length l + 1)) no_notice =
    ap (λ (m : ℕ). set (l ++ replicate m no_notice) (length l) x) room
    ∙ set_at l no_notice (replicate (64 - (length l + 1)) no_notice) x (length l) refl
    ∙ sym (append_snoc l x (replicate (64 - (length l + 1)) no_notice)) in
    rw long (ap (λ (m : List Notice). record { len = length l + 1; notices = m }) put)

module _ (test : ℕ → Bool) (show : ℕ → Notice) where
  picked-append : (l m : List ℕ) → picked test show (l ++ m) ≡ picked test show l ++ picked test show m
  unfolding picked
  picked-append [] m = refl
  picked-append (s ∷ l) m =
      ap (λ (x : List Notice). cond (test s) (show s ∷ []) [] ++ x) (picked-append l m)
      ∙ sym (append_assoc (cond (test s) (show s ∷ []) []) (picked test show l) (picked test show m))

  pub picked_more : (places : List ℕ) (t : ℕ) → t < length places
      → picked test show (take (t + 1) places)
      ≡ picked test show (take t places) ++ cond (test (get_or places t 0)) (show (get_or places t 0) ∷ []) []
  unfolding picked
  picked_more places t l =
      ap (λ (m : ℕ). picked test show (take m places)) (add-one t)
      ∙ ap (picked test show) (take-suc places t 0 l)
      ∙ picked-append (take t places) (get_or places t 0 ∷ [])
      ∙ ap (λ (x : List Notice). picked test show (take t places) ++ x) (append-nil (cond (test (get_or places t 0)) (show (get_or places t 0) ∷ []) []))

  pub picked_none : (l : List ℕ) → ((s : ℕ) → test s ≡ false) → [] ≡ picked test show l
  unfolding picked
  picked_none [] h = refl
  picked_none (s ∷ l) h = rw (h s) (picked_none l h)

  -- no more are picked than there are
  pub picked_few : (l : List ℕ) → length (picked test show l) ≤ length l
  unfolding picked
  picked_few [] = omega arith
  picked_few (s ∷ l) = go (test s) (picked_few l)
    where
      go : (t : Bool) → length (picked test show l) ≤ length l → length (cond t (show s ∷ []) [] ++ picked test show l) ≤ suc (length l)
      go true h = omega arith
      go false h = omega arith

  module _ (places : List ℕ) (t : ℕ) (x : Shown) (e : x ≡ shown_of (picked test show (take t places))) where
    pub room_left : t < length places → length places ≤ 64 → x.len < 64
    unfolding shown_of
    room_left l most = omega (arith, ap (λ (y : Shown). y.len) e, picked_few (take t places), length-take t places)

    pub more_shown : t < length places → length places ≤ 64 → test (get_or places t 0) ≡ true → (n : Notice) → n ≡ show (get_or places t 0)
        → ◌≡◌ {A = Shown} (record { len = x.len + 1; notices = set x.notices x.len n }) (shown_of (picked test show (take (t + 1) places)))
    more_shown l long h n is =
        ap₂ (λ (y : Shown) (m : Notice). record { len = y.len + 1; notices = set y.notices y.len m }) e is
        ∙ shown_more (picked test show (take t places)) (show (get_or places t 0)) (omega (arith, picked_few (take t places), length-take t places))
        ∙ ap shown_of (sym (picked_more places t (omega arith) ∙ ap (λ (b : Bool). picked test show (take t places) ++ cond b (show (get_or places t 0) ∷ []) []) h))

    pub no_more_shown : t < length places → length places ≤ 64 → test (get_or places t 0) ≡ false → x ≡ shown_of (picked test show (take (t + 1) places))
    no_more_shown l long h =
        e
        ∙ ap shown_of
        (sym
        (picked_more places t (omega arith)
        ∙ ap (λ (b : Bool). picked test show (take t places) ++ cond b (show (get_or places t 0) ∷ []) []) h
        ∙ append-nil (picked test show (take t places))))

pub none_new : (x s : ℕ) → new_in x x s ≡ false
unfolding new_in
none_new x s = go (bit x s)
  where
    go : (b : Bool) → (b && not b) ≡ false
    go true = refl
    go false = refl

-- where a set is as before, nothing is shown, as nothing was
pub same_set :
    (f : ℕ → Shown) (p : ℕ) → p < 16 → f p ≡ shown_of [] →
    set_below p f none_shown ≡ set_below (p + 1) f none_shown
unfolding none_shown
same_set f p l e =
    sym (set-get_or (set_below p f none_shown) p (shown_of []))
    ∙ ap (set (set_below p f none_shown) p)
    (set_below_above p f none_shown p (shown_of []) (omega arith) ∙ get_or-replicate 16 p (shown_of []) (shown_of []) l ∙ sym e)
    ∙ set_below_more p f none_shown
