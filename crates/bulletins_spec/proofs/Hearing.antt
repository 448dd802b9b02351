-- One bulletin over one round. It is held by those whose news of its issuer is from after the round
-- of issue; who hears one of them has such news too.
use mathlib.Core.Bool.{Bool, true, false, cond, ◌&&◌, ◌||◌}
use mathlib.Core.Path.{◌≡◌, refl, sym, ap, ◌∙◌}
use Prim.Native.Nat.{ℕ, zero, suc, max, ◌<◌}
use native.Mathlib.Decide.{dec_le}
use native.Mathlib.Omega.{arith}
use borrow.Author.Tests.{lt-ltb, le-ltb}
use lib.Dec.{ltb}
use Rattle.links.specs.Inner.Clock.{latest}
use Rattle.links.specs.Inner.Know.{either}

max_later : (T v w : ℕ) → ltb T (max v w) ≡ (ltb T v || ltb T w)
max_later T v w =
    elim (dec_le (suc T) v) [
      | yes a ↦ rw (lt-ltb T v a) (lt-ltb T (max v w) (omega arith))
      | no a ↦
          rw (le-ltb T v (omega arith))
          (elim (dec_le (suc T) w) [
            | yes b ↦ lt-ltb T (max v w) (omega arith) ∙ sym (lt-ltb T w b)
            | no b ↦ le-ltb T (max v w) (omega arith) ∙ sym (le-ltb T w (omega arith))
          ])
    ]

join : (a x y : Bool) → ((a && x) || (a && y)) ≡ (a && (x || y))
join true x y = refl
join false x y = refl

module _ (T : ℕ) (a : Bool) (heard : ℕ → Bool) (g : ℕ → ℕ) (v : ℕ) where
  pub either_clock : (k : ℕ) → either k heard (λ j. a && ltb T (g j)) (a && ltb T v) ≡ (a && ltb T (latest k heard g v))
  unfolding either latest
  either_clock zero = refl
  either_clock (suc k) = go (heard k) (either_clock k)
    where
      go : (b : Bool)
          → either k heard (λ j. a && ltb T (g j)) (a && ltb T v) ≡ (a && ltb T (latest k heard g v))
          → cond b
          (either k heard (λ j. a && ltb T (g j)) (a && ltb T v) || (a && ltb T (g k)))
          (either k heard (λ j. a && ltb T (g j)) (a && ltb T v))
          ≡ (a && ltb T (cond b (max (latest k heard g v) (g k)) (latest k heard g v)))
      go true e =
          ap (λ (x : Bool). x || (a && ltb T (g k))) e
          ∙ join a (ltb T (latest k heard g v)) (ltb T (g k))
          ∙ ap (λ (x : Bool). a && x) (sym (max_later T (latest k heard g v) (g k)))
      go false e = e

-- where nobody has it nobody gets it
pub either_none : (k : ℕ) (heard f : ℕ → Bool) → ((j : ℕ) → j < k → f j ≡ false) → either k heard f false ≡ false
unfolding either
either_none zero heard f h = refl
either_none (suc k) heard f h = go (heard k) (either_none k heard f (λ j l. h j (omega arith)))
  where
    go : (b : Bool) → either k heard f false ≡ false → cond b (either k heard f false || f k) (either k heard f false) ≡ false
    go true e = rw (e, h k (omega arith))
    go false e = e
