-- A list moved up by one place: its first n places hold those after them, and the others are as
-- they were. What then stands at place n is written over.
use Rattle.std.proofs.Common.{◌≡◌, ℕ, suc, ◌+◌, ◌-◌, ◌<◌, ◌≤◌, List, ◌∷◌, ◌++◌, take, drop, set, get_or, length, length-drop, drop-cons, add-one, ap, ◌∙◌, arith}
use Rattle.std.proofs.Math.Seq.{set_at}
use Rattle.std.proofs.Math.ListN.{length-take}
use Rattle.std.specs.List.{copy_within}

module _ {A : Type 0} where
  front : (l : List A) (n : ℕ) → n < length l → length (take n (drop 1 l)) ≡ n
  front l n h = simp (length-take, length-drop) (omega arith)

  -- the last of n places moved, x in the place that became free
  moved_all : (d : A) (l : List A) (n : ℕ) → n < length l → (x : A) → set (take n (drop 1 l) ++ drop n l) n x ≡ take n (drop 1 l) ++ (x ∷ drop (n + 1) l)
  moved_all d l n h x = rw (drop-cons l n d h, add-one) (set_at (take n (drop 1 l)) (get_or l n d) (drop (suc n) l) x n (front l n h))

  pub moved_up : (d : A) (l : List A) (n : ℕ) → 0 < n → n ≤ length l → (x : A) → set (copy_within l 1 n 0) (n - 1) x ≡ take (n - 1) (drop 1 l) ++ (x ∷ drop n l)
  moved_up d l n some h x =
      let e : n - 1 + 1 ≡ n = omega arith in
      let z : 0 + (n - 1) ≡ n - 1 = omega arith in
      rw z
      (moved_all d l (n - 1) (omega arith) x ∙ ap (λ (k : ℕ). take (n - 1) (drop 1 l) ++ (x ∷ drop k l)) e)
