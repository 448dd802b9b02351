-- The merge into a lent buffer, case by case: the refusal of a log, a buffer without room, and the
-- merged log written. The buffer filled place after place is the merged log followed by what stood
-- past it.
use mathlib.Core.List.{List, [], ◌∷◌, ◌++◌}
use mathlib.Core.Path.{◌≡◌, refl, sym, ap, ◌∙◌}
use Prim.Native.Nat.{ℕ, suc, max, ◌+◌, ◌-◌, ◌<◌, ◌≤◌}
use native.Mathlib.Decide.{ℕ_discrete, dec_le}
use native.Mathlib.Nat.{mul-le-mul_right}
use native.Mathlib.Omega.{arith}
use borrow.Author.Tests.{eq-eqb, ne_eqb, lt-ltb, le-ltb}
use lib.ListN.{get_or, length, set, drop, length-append, length-drop, get_or-append}
use lib.Seq.{ext_get_or, get_or-drop, get_or-append-add}
use Rattle.lists.specs.Below.{set_below, tabulate}
use Rattle.lists.proofs.Laws.{length-set_below, set_below_inside, set_below_above, length-tabulate, tabulate_at}
use Rattle.planning_spec.specs.Merge.{MergeAnswer}
use Rattle.planning_spec.specs.Merge.{merged_mask, merged_log, logs_refusal, merge_refusal, merge_call, front_written, merge_into_refusal}
use Rattle.planning_spec.proofs.LinkLog.{Accepted}
use Rattle.planning_spec.proofs.Merge.{merged_length, both_accepted}

module _ (n first second : ℕ) where
  pub room_refused : (room : ℕ) → (logs_refusal n first second ≡ 0 → ⊥) → merge_refusal n first second room ≡ logs_refusal n first second
  unfolding merge_refusal
  room_refused room d = rw (ne_eqb (logs_refusal n first second) 0 d)

  pub room_short : (room : ℕ) → logs_refusal n first second ≡ 0 → room < max first second → merge_refusal n first second room ≡ 9
  unfolding merge_refusal
  room_short room e h = rw (eq-eqb (logs_refusal n first second) 0 e, lt-ltb room (max first second) h)

  pub room_done : (room : ℕ) → logs_refusal n first second ≡ 0 → max first second ≤ room → merge_refusal n first second room ≡ 0
  unfolding merge_refusal
  room_done room e h = rw (eq-eqb (logs_refusal n first second) 0 e, le-ltb room (max first second) h)

pub front_refused : (refusal : ℕ) (entries buffer : List ℕ) → (refusal ≡ 0 → ⊥) → buffer ≡ front_written refusal entries buffer
unfolding front_written
front_refused refusal entries buffer d = rw (ne_eqb refusal 0 d)

pub front_done : (entries buffer : List ℕ) → entries ++ drop (length entries) buffer ≡ front_written 0 entries buffer
unfolding front_written
front_done entries buffer = refl

-- A list filled in its first places.
pub set_below_front : (count : ℕ) (f : ℕ → ℕ) (l : List ℕ) → count ≤ length l → set_below count f l ≡ tabulate count f ++ drop count l
set_below_front count f l h =
    ext_get_or 0 (set_below count f l) (tabulate count f ++ drop count l) same at
  where
    lt : length (tabulate count f) ≡ count
    lt = length-tabulate count f

    same : length (set_below count f l) ≡ length (tabulate count f ++ drop count l)
    same = omega (arith, length-set_below count f l, length-append (tabulate count f) (drop count l), lt, length-drop count l, h)

    past : (i k : ℕ) → i ≡ count + k → get_or (tabulate count f ++ drop count l) i 0 ≡ get_or l i 0
    past i k e =
        ap (λ (x : ℕ). get_or (tabulate count f ++ drop count l) x 0) (let g : i ≡ length (tabulate count f) + k = omega (arith, lt) in g)
        ∙ get_or-append-add (tabulate count f) (drop count l) k 0
        ∙ get_or-drop count l k 0
        ∙ ap (λ (x : ℕ). get_or l x 0) (sym e)

    at : (i : ℕ) → i < length (set_below count f l) → get_or (set_below count f l) i 0 ≡ get_or (tabulate count f ++ drop count l) i 0
    at i b =
        elim (dec_le (suc i) count) [
          | yes c ↦
              set_below_inside count f l i 0 c (omega (arith, h))
              ∙ sym (get_or-append (tabulate count f) (drop count l) 0 i (omega (arith, lt)) ∙ tabulate_at count f i 0 c)
          | no g ↦ set_below_above count f l i 0 (omega arith) ∙ sym (past i (i - count) (omega arith))
        ]

pub merged_front : (n : ℕ) (first second buffer : List ℕ) → max (length first) (length second) ≤ length buffer
    → set_below (max (length first) (length second)) (merged_mask n first second) buffer ≡ front_written 0 (merged_log n first second) buffer
unfolding merged_log
merged_front n first second buffer h =
    let count = max (length first) (length second) in
    set_below_front count (merged_mask n first second) buffer h
    ∙ ap (λ (k : ℕ). tabulate count (merged_mask n first second) ++ drop k buffer) (sym (length-tabulate count (merged_mask n first second)))
    ∙ front_done (tabulate count (merged_mask n first second)) buffer

-- What a call returns and leaves in the buffer.
module _ (n : ℕ) (first second buffer : List ℕ) where
  pub merge_short : logs_refusal n (length first) (length second) ≡ 0 → length buffer < max (length first) (length second)
      → (◌≡◌ {A = MergeAnswer} (record { refusal = 9; masks = 0 }) (merge_call n first second (length buffer)))
      × (buffer ≡ front_written 9 (merged_log n first second) buffer)
  unfolding merge_call
  merge_short e h = (
    rw (room_short n (length first) (length second) (length buffer) e h),
    front_refused 9 (merged_log n first second) buffer (λ x. absurd (omega arith)),
  )

  pub merge_done : (after : List ℕ) (count : ℕ) → logs_refusal n (length first) (length second) ≡ 0
      → count ≡ max (length first) (length second) → count ≤ length buffer
      → after ≡ set_below count (merged_mask n first second) buffer
      → (◌≡◌ {A = MergeAnswer} (record { refusal = 0; masks = count }) (merge_call n first second (length buffer)))
      × (after ≡ front_written 0 (merged_log n first second) buffer)
  unfolding merge_call
  merge_done after count e c h w = (
    rw (room_done n (length first) (length second) (length buffer) e (omega arith), merged_length n first second, c),
    w
        ∙ ap (λ (k : ℕ). set_below k (merged_mask n first second) buffer) c
        ∙ merged_front n first second buffer (omega arith),
  )

  pub call_refusal : (merge_call n first second (length buffer)).refusal ≡ merge_refusal n (length first) (length second) (length buffer)
  unfolding merge_call
  call_refusal =
      elim (ℕ_discrete (merge_refusal n (length first) (length second) (length buffer)) 0) [
        | yes e ↦ rw (eq-eqb (merge_refusal n (length first) (length second) (length buffer)) 0 e) (sym e)
        | no d ↦ rw (ne_eqb (merge_refusal n (length first) (length second) (length buffer)) 0 d)
      ]

  pub call_masks : merge_refusal n (length first) (length second) (length buffer) ≡ 0
      → (merge_call n first second (length buffer)).masks ≡ length (merged_log n first second)
  unfolding merge_call
  call_masks e = rw (eq-eqb (merge_refusal n (length first) (length second) (length buffer)) 0 e)

  logs_taken : merge_refusal n (length first) (length second) (length buffer) ≡ 0 → logs_refusal n (length first) (length second) ≡ 0
  logs_taken e =
      elim (ℕ_discrete (logs_refusal n (length first) (length second)) 0) [
        | yes z ↦ z
        | no d ↦ absurd (d (sym (room_refused n (length first) (length second) (length buffer) d) ∙ e))
      ]

  -- A log has at most 2,048 rounds of sixteen masks.
  log_small : (masks : ℕ) → Accepted n masks → masks ≤ 32768
  log_small masks a = omega (arith, a.whole, a.few, mul-le-mul_right n a.rounds)

  pub masks_small : (merge_call n first second (length buffer)).refusal ≡ 0 → (merge_call n first second (length buffer)).masks ≤ 32768
  masks_small e =
      let z = sym call_refusal ∙ e in
      let t = both_accepted n (length first) (length second) (logs_taken z) in
      omega (arith, call_masks z, merged_length n first second, log_small (length first) t.one, log_small (length second) t.two)

one_put : (b : List ℕ) (x : ℕ) → 1 ≤ length b → set b 0 x ≡ x ∷ drop 1 b
one_put [] x l = absurd (omega arith)
one_put (a ∷ rest) x l = refl

-- The call from C, which also writes the number of masks.
module _ (n : ℕ) (first second merged masks : List ℕ) where
  abbrev room : ℕ
  room = length merged

  abbrev count : List ℕ
  count = length (merged_log n first second) ∷ []

  pub no_room : logs_refusal n (length first) (length second) ≡ 0 → length masks < 1
      → (9 ≡ merge_into_refusal n first second merged masks)
      × (merged ≡ front_written 9 (merged_log n first second) merged)
      × (masks ≡ front_written 9 count masks)
  unfolding merge_into_refusal
  no_room e h = (
    elim (dec_le (max (length first) (length second)) room) [
      | yes l ↦ rw (room_done n (length first) (length second) room e l, lt-ltb (length masks) 1 h)
      | no g ↦ rw (room_short n (length first) (length second) room e (omega arith))
    ],
    front_refused 9 (merged_log n first second) merged (λ x. absurd (omega arith)),
    front_refused 9 count masks (λ x. absurd (omega arith)),
  )

  module _ (answer : MergeAnswer) (after : List ℕ) (is : answer ≡ merge_call n first second room)
      (wrote : after ≡ front_written answer.refusal (merged_log n first second) merged) where
    same_refusal : answer.refusal ≡ merge_refusal n (length first) (length second) room
    same_refusal = ap (λ (a : MergeAnswer). a.refusal) is ∙ call_refusal n first second merged

    pub into_refused : (answer.refusal ≡ 0 → ⊥)
        → (answer.refusal ≡ merge_into_refusal n first second merged masks)
        × (after ≡ front_written answer.refusal (merged_log n first second) merged)
        × (masks ≡ front_written answer.refusal count masks)
    unfolding merge_into_refusal
    into_refused d = (
      same_refusal ∙ rw (ne_eqb (merge_refusal n (length first) (length second) room) 0 (λ h. d (same_refusal ∙ h))),
      wrote,
      front_refused answer.refusal count masks d,
    )

    pub into_done : answer.refusal ≡ 0 → 1 ≤ length masks
        → (0 ≡ merge_into_refusal n first second merged masks)
        × (after ≡ front_written 0 (merged_log n first second) merged)
        × (set masks 0 answer.masks ≡ front_written 0 count masks)
    unfolding merge_into_refusal
    into_done e h =
        let z = sym same_refusal ∙ e in (
          rw (eq-eqb (merge_refusal n (length first) (length second) room) 0 z, le-ltb (length masks) 1 h),
          wrote ∙ ap (λ (r : ℕ). front_written r (merged_log n first second) merged) e,
          ap (λ (k : ℕ). set masks 0 k) (ap (λ (a : MergeAnswer). a.masks) is ∙ call_masks n first second merged z)
              ∙ one_put masks (length (merged_log n first second)) h
              ∙ front_done count masks,
        )
