-- The lowest number with a test, and picks by it.
use mathlib.Core.Bool.{Bool, true, false, cond, not, true≢false}
use mathlib.Core.Path.{◌≡◌, refl, sym, ap, ◌∙◌}
use Prim.Native.Nat.{ℕ, zero, suc, ◌+◌, ◌<◌, ◌≤◌}
use native.Mathlib.Decide.{ℕ_discrete, dec_le}
use native.Mathlib.Omega.{arith}
use borrow.Author.Tests.{lt-ltb, le-ltb}
use lib.Dec.{ltb}
use Rattle.lists.specs.Below.{all_below, any_below}
use Rattle.lists.proofs.Laws.{all_below_not, any_below_none, any_below_hit}
use Rattle.contest.specs.Winner.{decided, lowest}

pub record Lowest (n at : ℕ) (test : ℕ → Bool) (i : ℕ) : Type 0 where
  pub from : at ≤ i
  pub most : i ≤ at + n
  pub hit : i < at + n → test i ≡ true
  pub before : (j : ℕ) → at ≤ j → j < i → test j ≡ false

pub lowest_is : (n at : ℕ) (test : ℕ → Bool) → Lowest n at test (lowest n at test)
unfolding lowest
lowest_is zero at test =
    record { from = omega arith; most = omega arith; hit = λ l. absurd (omega arith); before = λ j l m. absurd (omega arith) }
lowest_is (suc n) at test = go (test at) refl (lowest_is n (suc at) test)
  where
    go : (b : Bool) → test at ≡ b → Lowest n (suc at) test (lowest n (suc at) test) → Lowest (suc n) at test (cond b at (lowest n (suc at) test))
    go true e k =
        record { from = omega arith; most = omega arith; hit = λ l. e; before = λ j l m. absurd (omega arith) }
    go false e k =
        record {
          from = omega (arith, k.from);
          most = omega (arith, k.most);
          hit = λ l. k.hit (omega arith);
          before =
              λ j l m.
              elim (ℕ_discrete j at) [
                | yes q ↦ ap test q ∙ e
                | no d ↦ k.before j (omega arith) m
              ];
        }

apart : (b : Bool) → b ≡ true → b ≡ false → ⊥
apart b e f = true≢false (sym e ∙ f)

-- There is one such number.
pub lowest_one : (n : ℕ) (test : ℕ → Bool) (i k : ℕ) → Lowest n 0 test i → Lowest n 0 test k → i ≡ k
lowest_one n test i k a b =
    elim (dec_le (suc i) k) [
      | yes l ↦ absurd (apart (test i) (a.hit (omega (arith, b.most))) (b.before i (omega arith) l))
      | no g ↦
          elim (dec_le (suc k) i) [
            | yes l ↦ absurd (apart (test k) (b.hit (omega (arith, a.most))) (a.before k (omega arith) l))
            | no h ↦ omega arith
          ]
    ]

-- The pick by a test: the lowest with it, 0 where none has it.
unfoldable pub chosen : ℕ → (ℕ → Bool) → ℕ
chosen count test = cond (ltb (lowest count 0 test) count) (lowest count 0 test) 0

pub chosen_below : (count : ℕ) (test : ℕ → Bool) → 0 < count → chosen count test < count
unfolding chosen
chosen_below count test some =
    elim (dec_le (suc (lowest count 0 test)) count) [
      | yes l ↦ rw (lt-ltb (lowest count 0 test) count l) l
      | no g ↦ rw (le-ltb (lowest count 0 test) count (omega arith)) some
    ]

pub chosen_hit : (count : ℕ) (test : ℕ → Bool) → any_below count test ≡ true → test (chosen count test) ≡ true
unfolding chosen
chosen_hit count test h =
    let k = lowest_is count 0 test in
    elim (dec_le (suc (lowest count 0 test)) count) [
      | yes l ↦ rw (lt-ltb (lowest count 0 test) count l) (k.hit (omega arith))
      | no g ↦
          absurd (apart (any_below count test) h (any_below_none count test (λ j l. k.before j (omega arith) (omega arith))))
    ]

turned : (b : Bool) → not b ≡ true → b ≡ false
turned true e = sym e
turned false e = refl

pub chosen_miss : (count : ℕ) (test : ℕ → Bool) → all_below count test ≡ false → test (chosen count (λ i. not (test i))) ≡ false
chosen_miss count test h =
    let k = all_below_not count test h in
    turned (test (chosen count (λ i. not (test i))))
    (chosen_hit count (λ i. not (test i)) (any_below_hit count (λ i. not (test i)) k.0 k.1 (ap not k.2)))

-- What is decided, by whose pick it is.
pub decided_keeper : (count : ℕ) (test : ℕ → Bool) → decided true count test ≡ any_below count test
unfolding decided
decided_keeper count test = refl

pub decided_breaker : (count : ℕ) (test : ℕ → Bool) → decided false count test ≡ all_below count test
unfolding decided
decided_breaker count test = refl

pub lowest_ext : (n at : ℕ) (f g : ℕ → Bool) → ((i : ℕ) → at ≤ i → i < at + n → f i ≡ g i) → lowest n at f ≡ lowest n at g
unfolding lowest
lowest_ext zero at f g h = refl
lowest_ext (suc n) at f g h = rw (h at (omega arith) (omega arith), lowest_ext n (suc at) f g (λ i l m. h i (omega arith) (omega arith)))

-- What a loop finds.
pub lowest_found : (n : ℕ) (test : ℕ → Bool) (i : ℕ) → i < n → test i ≡ true → ((j : ℕ) → j < i → test j ≡ false) → i ≡ lowest n 0 test
lowest_found n test i l e before =
    lowest_one n test i (lowest n 0 test)
    (record { from = omega arith; most = omega arith; hit = λ m. e; before = λ j a m. before j m }) (lowest_is n 0 test)

pub lowest_missing : (n : ℕ) (test : ℕ → Bool) (i : ℕ) → i ≡ n → ((j : ℕ) → j < i → test j ≡ false) → i ≡ lowest n 0 test
lowest_missing n test i e before =
    lowest_one n test i (lowest n 0 test)
    (record { from = omega arith; most = omega arith; hit = λ m. absurd (omega arith); before = λ j a m. before j m }) (lowest_is n 0 test)
