-- Frames put into their rooms: what is past a frame there is zeros.
use Prim.Native.Nat.{ℕ, ◌+◌, ◌-◌, ◌≤◌}
use native.Mathlib.Omega.{arith}
use mathlib.Core.List.{List, ◌++◌}
use mathlib.Core.Path.{◌≡◌, sym, ap, subst, ◌∙◌}
use lib.ListN.{take, drop, length, length-append, length-replicate, replicate, replicate-append-replicate}
use lib.Seq.{take_at, drop_at}
use borrow.Author.Tests.{le-ltb}
use Rattle.frame_spec.specs.Calls.{buffer_with}
use Rattle.station.specs.Beside.{roomed}

-- zeros past what is put
module _ (w : ℕ) where
  abbrev zeros : ℕ → List ℕ
  zeros m = replicate m 0

  drop-zeros : (k : ℕ) → k ≤ w → drop k (zeros w) ≡ zeros (w - k)
  drop-zeros k l =
      let split : w ≡ k + (w - k) = omega arith in
      ap (λ (m : ℕ). drop k (zeros m)) split
      ∙ ap (drop k) (sym (replicate-append-replicate {A = ℕ} k (w - k) 0))
      ∙ drop_at (zeros k) (zeros (w - k)) k (length-replicate {A = ℕ} k 0)

-- a frame put into a room of zeros
pub put_roomed : (f : List ℕ) → length f ≤ 260 → f ++ drop (length f) (replicate 260 0) ≡ roomed f
put_roomed f l = ap (λ (z : List ℕ). f ++ z) (drop-zeros 260 (length f) l)

pub written_roomed : (f : List ℕ) → length f ≤ 260 → buffer_with f (replicate 260 0) ≡ roomed f
unfolding buffer_with
written_roomed f l = rw (le-ltb 260 (length f) l) (put_roomed f l)

pub roomed-length : (f : List ℕ) → length f ≤ 260 → length (roomed f) ≡ 260
roomed-length f l = omega (arith, length-append f (replicate (260 - length f) 0), length-replicate {A = ℕ} (260 - length f) 0)

-- two frames, each put into its room
both_are :
    (f h x : List ℕ) (k : ℕ) → length f ≤ 260 → length h ≤ 260 → x ≡ buffer_with f (replicate 260 0) → k ≡ length h →
    take 260 (x ++ replicate 260 0) ++ (h ++ drop k (drop 260 (x ++ replicate 260 0))) ≡ roomed f ++ roomed h
both_are f h x k lf lh xe ke =
    let z : List ℕ = replicate 260 0 in
    let is : x ≡ roomed f = xe ∙ written_roomed f lf in
    let size : length x ≡ 260 = ap length is ∙ roomed-length f lf in
    let rest : drop 260 (x ++ z) ≡ z = drop_at x z 260 size in
    let put : h ++ drop k (drop 260 (x ++ z)) ≡ roomed h = (λ i. h ++ drop (ke i) (rest i)) ∙ put_roomed h lh in
    (λ i. take_at x z 260 size i ++ put i) ∙ ap (λ (l : List ℕ). l ++ roomed h) is

-- the same in the room of both, which is lent
pub both_put :
    (f h x z : List ℕ) (k : ℕ) → z ≡ replicate 520 0 → length f ≤ 260 → length h ≤ 260 → x ≡ buffer_with f (take 260 z) → k ≡ length h →
    take 260 (x ++ drop 260 z) ++ (h ++ drop k (drop 260 (x ++ drop 260 z))) ≡ roomed f ++ roomed h
both_put f h x z k e lf lh =
    subst
    (λ (l : List ℕ).
    x ≡ buffer_with f (take 260 l) → k ≡ length h →
    take 260 (x ++ drop 260 l) ++ (h ++ drop k (drop 260 (x ++ drop 260 l))) ≡ roomed f ++ roomed h)
    (sym e) (both_are f h x k lf lh)
