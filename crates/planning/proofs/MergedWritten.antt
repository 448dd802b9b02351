-- What is written of each round is the merged round: the masks of both logs united, and where one
-- has ended the other's masks alone, united with themselves.
use mathlib.Core.List.{List}
use mathlib.Core.Path.{◌≡◌, sym, ap, ◌∙◌}
use Prim.Native.Nat.{ℕ, max, ◌-◌, ◌*◌, ◌/◌, ◌%◌, ◌^◌, ◌<◌, ◌≤◌}
use native.Mathlib.Nat.{mul-div_cancel, mul-mod_left}
use native.Mathlib.Omega.{arith}
use lib.Bits.{bit_and, bit_or, bit_xor, or_self, or_zero_l, or_zero_r}
use lib.ListN.{get_or, length, replicate, length-replicate, get_or-eq_default}
use Rattle.lists.specs.Below.{set_below}
use Rattle.lists.proofs.Laws.{set_below_inside}
use Rattle.planning_spec.specs.Merge.{merged_mask, logs_refusal}
use Rattle.planning_spec.proofs.LinkLog.{Accepted}
use Rattle.planning_spec.proofs.Merge.{BothAccepted, both_accepted, merged_length, merged_whole}
use Rattle.planning.proofs.MergedMasks.{mask_is}

module _ (n : ℕ) (first second others : List ℕ) (taken : logs_refusal n (length first) (length second) ≡ 0)
    (table : others ≡ set_below n (λ p. bit_xor (2 ^ n - 1) (2 ^ p)) (replicate 16 0)) where
  pub logs : BothAccepted n (length first) (length second)
  logs = both_accepted n (length first) (length second) taken

  other : (i : ℕ) → get_or others (i % n) 0 ≡ bit_xor (2 ^ n - 1) (2 ^ (i % n))
  other i =
      let inside : i % n < n = omega (arith, logs.one.some) in
      ap (λ (l : List ℕ). get_or l (i % n) 0) table
      ∙ set_below_inside n (λ q. bit_xor (2 ^ n - 1) (2 ^ q)) (replicate 16 0) (i % n) 0 inside
      (omega (arith, logs.one.few, length-replicate {A = ℕ} 16 0))

  pub both_united : (i : ℕ) → bit_and (bit_or (get_or first i 0) (get_or second i 0)) (get_or others (i % n) 0) ≡ merged_mask n first second i
  both_united i =
      ap (λ (o : ℕ). bit_and (bit_or (get_or first i 0) (get_or second i 0)) o) (other i)
      ∙ mask_is n (length first / n) (length second / n) first second i logs.one.some logs.one.whole logs.two.whole

  pub second_united : (i : ℕ) → length first ≤ i
      → bit_and (bit_or (get_or second i 0) (get_or second i 0)) (get_or others (i % n) 0) ≡ merged_mask n first second i
  second_united i e =
      let y = get_or second i 0 in
      let none : get_or first i 0 ≡ 0 = get_or-eq_default first 0 (omega arith) in
      ap (λ (v : ℕ). bit_and v (get_or others (i % n) 0)) (or_self y ∙ sym (or_zero_l y) ∙ ap (λ (x : ℕ). bit_or x y) (sym none)) ∙ both_united i

  pub first_united : (i : ℕ) → length second ≤ i
      → bit_and (bit_or (get_or first i 0) (get_or first i 0)) (get_or others (i % n) 0) ≡ merged_mask n first second i
  first_united i e =
      let x = get_or first i 0 in
      let none : get_or second i 0 ≡ 0 = get_or-eq_default second 0 (omega arith) in
      ap (λ (v : ℕ). bit_and v (get_or others (i % n) 0)) (or_self x ∙ sym (or_zero_r x) ∙ ap (λ (y : ℕ). bit_or x y) (sym none)) ∙ both_united i

-- A log of whole rounds ends where a round does.
pub whole_ends : (n len : ℕ) → Accepted n len → len % n ≡ 0
whole_ends n len a = ap (λ (x : ℕ). x % n) a.whole ∙ mul-mod_left (len / n) n

-- The merged log is whole rounds.
pub count_whole : (n : ℕ) (first second : List ℕ) → logs_refusal n (length first) (length second) ≡ 0
    → max (length first) (length second) / n * n ≡ max (length first) (length second)
count_whole n first second taken =
    let t = both_accepted n (length first) (length second) taken in
    let e : max (length first) (length second) ≡ max (length first / n) (length second / n) * n =
    sym (merged_length n first second)
    ∙ merged_whole n (length first / n) (length second / n) first second t.one.whole t.two.whole in
    ap (λ (x : ℕ). x / n * n) e
    ∙ ap (λ (x : ℕ). x * n) (mul-div_cancel (max (length first / n) (length second / n)) t.one.some)
    ∙ sym e
