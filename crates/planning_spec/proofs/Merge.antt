-- The merged log has a hearing exactly where one of the two logs has it. At a place inside the logs
-- that is the definition, read bit by bit; past both logs all masks are 0. So each log is a part of
-- the merged one, and `links` says the rest: no end comes later.
use mathlib.Core.Bool.{Bool, true, false, cond, not, ◌&&◌, ◌||◌, or-true, and-false, false≢true}
use mathlib.Core.List.{List}
use mathlib.Core.Path.{◌≡◌, refl, sym, ap, ap₂, ◌∙◌}
use Prim.Native.Nat.{ℕ, zero, suc, max, min, ◌+◌, ◌*◌, ◌/◌, ◌%◌, ◌<◌, ◌≤◌}
use native.Mathlib.Decide.{dec_le}
use native.Mathlib.Nat.{mul-div_cancel, mul-le-mul_right, suc-mul, le_refl}
use native.Mathlib.Omega.{arith}
use borrow.Author.Tests.{eqb-true, eqb-false}
use lib.Arith.{digits_div, digits_mod}
use lib.Dec.{eqb, ltb}
use lib.ListN.{get_or, length, take, length-take, get_or-eq_default}
use lib.Seq.{get_or-take}
use Rattle.bodies.specs.Refusals.{done}
use Rattle.links.specs.Log.{bit}
use Rattle.links.specs.Forecast.{end_count, last_end}
use Rattle.links.specs.Part.{Part}
use Rattle.links.proofs.Log.{bit_zero}
use Rattle.links.proofs.Part.{count_part}
use Rattle.lists.proofs.Laws.{length-tabulate, tabulate_at}
use Rattle.planning_spec.specs.LinkLog.{rounds_of, links_of, log_refusal}
use Rattle.planning_spec.specs.Merge.{merged_mask, merged_log, logs_refusal, NoLater}
use Rattle.planning_spec.proofs.LinkLog.{Accepted, accepted, no_bit, whole_hears, hears_none, hears_zero, whole_accepted}
use Rattle.planning_spec.proofs.Masks.{bit-mask_of}
use Rattle.planning_spec.proofs.Forecast.{forecast_done, per_station_below}

pub merged_length : (n : ℕ) (first second : List ℕ) → length (merged_log n first second) ≡ max (length first) (length second)
unfolding merged_log
merged_length n first second = length-tabulate (max (length first) (length second)) (merged_mask n first second)

merged_at : (n : ℕ) (first second : List ℕ) (x : ℕ) → x < max (length first) (length second)
    → get_or (merged_log n first second) x 0 ≡ merged_mask n first second x
unfolding merged_log
merged_at n first second x h = tabulate_at (max (length first) (length second)) (merged_mask n first second) x 0 h

both : (p q x y : Bool)
    → (p && (q && (p && ((p && (q && x)) || (p && (q && y)))))) ≡ ((p && (q && x)) || (p && (q && y)))
both true true x y = refl
both true false x y = refl
both false q x y = refl

-- Two logs of whole rounds.
module _ (n a b : ℕ) (first second : List ℕ) (wa : length first ≡ a * n) (wb : length second ≡ b * n) where
  abbrev merged : List ℕ
  merged = merged_log n first second

  pub merged_whole : length merged ≡ max a b * n
  merged_whole =
      merged_length n first second
      ∙ elim (dec_le a b) [
        | yes l ↦ (let e : max a b ≡ b = omega arith in rw e (omega (arith, mul-le-mul_right n l)))
        | no h ↦
            (let l : b ≤ a = omega arith in
            let e : max a b ≡ a = omega arith in
            rw e (omega (arith, mul-le-mul_right n l)))
      ]

  -- Past both logs all masks are 0.
  mask_bit : (u p j : ℕ) → p < n
      → bit (get_or merged (u * n + p) 0) j ≡ (ltb j n && ((links_of n first).hears (suc u) p j || (links_of n second).hears (suc u) p j))
  unfolding merged_mask
  mask_bit u p j l =
      let x = u * n + p in
      elim (dec_le (suc x) (max (length first) (length second))) [
        | yes h ↦
            ap (λ (y : ℕ). bit y j) (merged_at n first second x h)
            ∙ bit-mask_of n
            (λ i. (links_of n first).hears (suc (x / n)) (x % n) i || (links_of n second).hears (suc (x / n)) (x % n) i) j
            ∙ ap₂ (λ (v q : ℕ). ltb j n && ((links_of n first).hears (suc v) q j || (links_of n second).hears (suc v) q j))
            (digits_div u {m = n} l) (digits_mod u {m = n} l)
        | no h ↦
            (let em : get_or merged x 0 ≡ 0 = get_or-eq_default merged 0 (omega (arith, merged_length n first second)) in
            let ea : get_or first x 0 ≡ 0 = get_or-eq_default first 0 (omega arith) in
            let eb : get_or second x 0 ≡ 0 = get_or-eq_default second 0 (omega arith) in
            rw (
              em,
              bit_zero j,
              whole_hears n a first u p j wa l ∙ no_bit n p j (get_or first x 0) ea,
              whole_hears n b second u p j wb l ∙ no_bit n p j (get_or second x 0) eb,
              and-false (ltb j n),
            ))
      ]

  pub merged_hears : (u p j : ℕ)
      → (links_of n merged).hears u p j ≡ ((links_of n first).hears u p j || (links_of n second).hears u p j)
  merged_hears zero p j = rw (hears_zero n merged p j, hears_zero n first p j, hears_zero n second p j)
  merged_hears (suc u) p j =
      elim (dec_le (suc p) n) [
        | yes l ↦
            (let ea = whole_hears n a first u p j wa l in
            let eb = whole_hears n b second u p j wb l in
            whole_hears n (max a b) merged u p j merged_whole l
            ∙ ap (λ (x : Bool). ltb j n && (not (eqb p j) && x)) (mask_bit u p j l)
            ∙ ap₂ (λ (x y : Bool). ltb j n && (not (eqb p j) && (ltb j n && (x || y)))) ea eb
            ∙ both (ltb j n) (not (eqb p j)) (bit (get_or first (u * n + p) 0) j) (bit (get_or second (u * n + p) 0) j)
            ∙ ap₂ (λ (x y : Bool). x || y) (sym ea) (sym eb))
        | no g ↦
            rw (
              hears_none n merged (suc u) p j (omega arith),
              hears_none n first (suc u) p j (omega arith),
              hears_none n second (suc u) p j (omega arith),
            )
      ]

  pub part_first : (last : ℕ) → Part (links_of n first) (links_of n merged) last
  part_first last =
      record { sizes = refl; hearings = λ u p j l h. merged_hears u p j ∙ ap (λ (x : Bool). x || (links_of n second).hears u p j) h }

  pub part_second : (last : ℕ) → Part (links_of n second) (links_of n merged) last
  part_second last =
      record {
        sizes = refl;
        hearings =
            λ u p j l h.
            merged_hears u p j ∙ ap (λ (x : Bool). (links_of n first).hears u p j || x) h ∙ or-true ((links_of n first).hears u p j);
      }

-- The first rounds of a log of whole rounds.
module _ (n r v : ℕ) (log : List ℕ) (whole : length log ≡ r * n) where
  pub begin_whole : length (take (v * n) log) ≡ min v r * n
  begin_whole =
      length-take (v * n) log
      ∙ elim (dec_le v r) [
        | yes l ↦ (let e : min v r ≡ v = omega arith in rw e (omega (arith, mul-le-mul_right n l)))
        | no h ↦
            (let l : r ≤ v = omega arith in
            let e : min v r ≡ r = omega arith in
            rw e (omega (arith, mul-le-mul_right n l)))
      ]

  begin_inside : (u p j : ℕ) → u < v → p < n → (links_of n (take (v * n) log)).hears (suc u) p j ≡ (links_of n log).hears (suc u) p j
  begin_inside u p j h l =
      let k : suc u * n ≡ u * n + n = suc-mul u n in
      whole_hears n (min v r) (take (v * n) log) u p j begin_whole l
      ∙ ap (λ (x : ℕ). ltb j n && (not (eqb p j) && bit x j))
      (get_or-take (v * n) log (u * n + p) 0 (omega (arith, mul-le-mul_right n h)))
      ∙ sym (whole_hears n r log u p j whole l)

  begin_past : (u p j : ℕ) → v ≤ u → p < n → (links_of n (take (v * n) log)).hears (suc u) p j ≡ false
  begin_past u p j h l =
      whole_hears n (min v r) (take (v * n) log) u p j begin_whole l
      ∙ no_bit n p j (get_or (take (v * n) log) (u * n + p) 0)
      (get_or-eq_default (take (v * n) log) 0 (omega (arith, length-take (v * n) log, mul-le-mul_right n h)))

-- The first rounds of a part are a part of the first rounds of the whole.
pub begin_part : (n a m v : ℕ) (log whole : List ℕ) → length log ≡ a * n → length whole ≡ m * n
    → ((last : ℕ) → Part (links_of n log) (links_of n whole) last)
    → (last : ℕ) → Part (links_of n (take (v * n) log)) (links_of n (take (v * n) whole)) last
begin_part n a m v log whole wa wm part last = record { sizes = refl; hearings = λ u p j l. hear u p j }
  where
    hear : (u p j : ℕ) → (links_of n (take (v * n) log)).hears u p j ≡ true → (links_of n (take (v * n) whole)).hears u p j ≡ true
    hear zero p j h = absurd (false≢true (sym (hears_zero n (take (v * n) log) p j) ∙ h))
    hear (suc u) p j h =
        elim (dec_le (suc p) n) [
          | yes l ↦
              elim (dec_le (suc u) v) [
                | yes k ↦
                    begin_inside n m v whole wm u p j k l
                    ∙ (part (suc u)).hearings (suc u) p j (le_refl (suc u)) (sym (begin_inside n a v log wa u p j k l) ∙ h)
                | no k ↦ absurd (false≢true (sym (begin_past n a v log wa u p j (omega arith) l) ∙ h))
              ]
          | no g ↦ absurd (false≢true (sym (hears_none n (take (v * n) log) (suc u) p j (omega arith)) ∙ h))
        ]

forecast_part : (n a m : ℕ) (log more : List ℕ) → 1 ≤ n → n ≤ 16 → a ≤ m → m ≤ 2048 → length log ≡ a * n → length more ≡ m * n
    → ((last : ℕ) → Part (links_of n log) (links_of n more) last) → (s : ℕ) → s < n → NoLater n log more s
forecast_part n a m log more low high less few wa wm part s h =
    let ra : rounds_of n log ≡ a = ap (λ (k : ℕ). k / n) wa ∙ mul-div_cancel a low in
    let rm : rounds_of n more ≡ m = ap (λ (k : ℕ). k / n) wm ∙ mul-div_cancel m low in
    let da = forecast_done n log (ap (log_refusal n) wa ∙ whole_accepted n a low high (omega arith)) in
    let dm = forecast_done n more (ap (log_refusal n) wm ∙ whole_accepted n m low high few) in
    let c = count_part (links_of n log) (links_of n more) (rounds_of n log) (part (rounds_of n log)) (rounds_of n log) (rounds_of n more) s
    (le_refl (rounds_of n log)) (omega arith) in
    record {
      ends =
          rw (
            da,
            dm,
            per_station_below n (λ t. end_count (links_of n log) (rounds_of n log) t) s high h,
            per_station_below n (λ t. end_count (links_of n more) (rounds_of n more) t) s high h,
          )
          c.0;
      last =
          rw (
            da,
            dm,
            per_station_below n (λ t. end_count (links_of n log) (rounds_of n log) t) s high h,
            per_station_below n (λ t. end_count (links_of n more) (rounds_of n more) t) s high h,
            per_station_below n (λ t. last_end (links_of n log) (rounds_of n log) t) s high h,
            per_station_below n (λ t. last_end (links_of n more) (rounds_of n more) t) s high h,
          )
          c.1;
    }

-- What two logs that are not refused have.
pub record BothAccepted (n first second : ℕ) : Type 0 where
  pub one : Accepted n first
  pub two : Accepted n second

pub both_accepted : (n first second : ℕ) → logs_refusal n first second ≡ done → BothAccepted n first second
unfolding logs_refusal
both_accepted n first second = go (eqb (log_refusal n first) 0) refl (eqb (log_refusal n second) 0) refl
  where
    go : (a : Bool) → eqb (log_refusal n first) 0 ≡ a → (b : Bool) → eqb (log_refusal n second) 0 ≡ b
        → ◌≡◌ {A = ℕ} (cond (not a) (log_refusal n first) (cond (not b) (log_refusal n second) 0)) 0 → BothAccepted n first second
    go false p b q h = absurd (eqb-false (log_refusal n first) 0 p h)
    go true p false q h = absurd (eqb-false (log_refusal n second) 0 q h)
    go true p true q h =
        record { one = accepted n first (eqb-true (log_refusal n first) 0 p); two = accepted n second (eqb-true (log_refusal n second) 0 q) }

-- Over the forecast, of logs that are not refused: with the merged log no end comes later than with
-- either log. The forecast shows the count and the last end only; `begins_first` and
-- `begins_second` say it of the first v rounds too, for every v, and so of every end: the k-th
-- comes by round v where the first v rounds have k ends or more.
module _ (n : ℕ) (first second : List ℕ) (taken : logs_refusal n (length first) (length second) ≡ done) where
  both_logs : BothAccepted n (length first) (length second)
  both_logs = both_accepted n (length first) (length second) taken

  abbrev a : ℕ
  a = length first / n

  abbrev b : ℕ
  b = length second / n

  -- The merged log is not refused either.
  pub merged_accepted : log_refusal n (length (merged_log n first second)) ≡ done
  merged_accepted =
      ap (log_refusal n) (merged_whole n a b first second both_logs.one.whole both_logs.two.whole)
      ∙ whole_accepted n (max a b) both_logs.one.some both_logs.one.few (omega (arith, both_logs.one.rounds, both_logs.two.rounds))

  pub forecast_first : (s : ℕ) → s < n → NoLater n first (merged_log n first second) s
  forecast_first =
      forecast_part n a (max a b) first (merged_log n first second) both_logs.one.some both_logs.one.few (omega arith)
      (omega (arith, both_logs.one.rounds, both_logs.two.rounds)) both_logs.one.whole
      (merged_whole n a b first second both_logs.one.whole both_logs.two.whole)
      (part_first n a b first second both_logs.one.whole both_logs.two.whole)

  pub forecast_second : (s : ℕ) → s < n → NoLater n second (merged_log n first second) s
  forecast_second =
      forecast_part n b (max a b) second (merged_log n first second) both_logs.one.some both_logs.one.few (omega arith)
      (omega (arith, both_logs.one.rounds, both_logs.two.rounds)) both_logs.two.whole
      (merged_whole n a b first second both_logs.one.whole both_logs.two.whole)
      (part_second n a b first second both_logs.one.whole both_logs.two.whole)

  pub begins_first : (v s : ℕ) → s < n → NoLater n (take (v * n) first) (take (v * n) (merged_log n first second)) s
  begins_first v =
      let wm = merged_whole n a b first second both_logs.one.whole both_logs.two.whole in
      forecast_part n (min v a) (min v (max a b)) (take (v * n) first) (take (v * n) (merged_log n first second)) both_logs.one.some
      both_logs.one.few (omega arith) (omega (arith, both_logs.one.rounds, both_logs.two.rounds))
      (begin_whole n a v first both_logs.one.whole) (begin_whole n (max a b) v (merged_log n first second) wm)
      (begin_part n a (max a b) v first (merged_log n first second) both_logs.one.whole wm
      (part_first n a b first second both_logs.one.whole both_logs.two.whole))

  pub begins_second : (v s : ℕ) → s < n → NoLater n (take (v * n) second) (take (v * n) (merged_log n first second)) s
  begins_second v =
      let wm = merged_whole n a b first second both_logs.one.whole both_logs.two.whole in
      forecast_part n (min v b) (min v (max a b)) (take (v * n) second) (take (v * n) (merged_log n first second)) both_logs.one.some
      both_logs.one.few (omega arith) (omega (arith, both_logs.one.rounds, both_logs.two.rounds))
      (begin_whole n b v second both_logs.two.whole) (begin_whole n (max a b) v (merged_log n first second) wm)
      (begin_part n b (max a b) v second (merged_log n first second) both_logs.two.whole wm
      (part_second n a b first second both_logs.one.whole both_logs.two.whole))
