-- Takings read one after the other, as the loops go: the first i of them stand in the first i of
-- thirty places, and are put into the lanes.
use Prim.Native.Nat.{ℕ, suc, ◌+◌, ◌-◌, ◌<◌}
use mathlib.Core.List.{List, [], ◌∷◌, ◌++◌, append_assoc, map-append}
use mathlib.Core.Path.{◌≡◌, sym, ap, ◌∙◌}
use native.Mathlib.Numerals.{add-one}
use native.Mathlib.Omega.{arith}
use lib.ListN.{get_or, set, take, drop, length, length-map}
use lib.Seq.{take-suc, drop-cons, set_at, length-take-le}
use Rattle.frame_spec.specs.Record.{record_from}
use Rattle.queues.specs.declared.Lane.{Lane}
use Rattle.queues.specs.Lane.{no_lane, pushed}
use Rattle.station_spec.specs.declared.Taking.{Taking}
use Rattle.station_spec.specs.Hearing.{no_taking}
use Rattle.hearing_spec.specs.Buffer.{record_at, taking_at}
use Rattle.hearing_spec.specs.Gathered.{pushed_all}
use Rattle.hearing_spec.proofs.Gathering.{pushed_all-append}
use Rattle.listening.specs.Listened.{takings_at}

-- a record read from its own part of the bytes
pub read_at : (bytes : List ℕ) (at : ℕ) → record_from (take (at + 16 - at) (drop at bytes)) ≡ record_at bytes at
read_at bytes at = let e : at + 16 - at ≡ 16 = omega arith in ap (λ (m : ℕ). record_from (take m (drop at bytes))) e

module _ (bytes taken : List ℕ) (i : ℕ) (low : i < 30) (long : length taken ≡ 30) where
  abbrev next : Taking
  next = taking_at bytes (get_or taken i 0)

  takings_next : takings_at bytes taken (i + 1) ≡ takings_at bytes taken i ++ (next ∷ [])
  takings_next =
      rw (add-one i, take-suc taken i 0 (omega arith)) (map-append (taking_at bytes) (take i taken) (get_or taken i 0 ∷ []))

  takings_length : length (takings_at bytes taken i) ≡ i
  takings_length = length-map (take i taken) (taking_at bytes) ∙ length-take-le i taken (omega arith)

  pub takings_more :
      (old : List Taking) → i < length old → (t : Taking) → t ≡ next →
      set (takings_at bytes taken i ++ drop i old) i t ≡ takings_at bytes taken (i + 1) ++ drop (i + 1) old
  takings_more old h t e =
      let rest : List Taking = drop (suc i) old in
      rw (takings_next, e, drop-cons old i no_taking h, add-one i)
      (set_at (takings_at bytes taken i) (get_or old i no_taking) rest next i takings_length ∙ sym (append_assoc (takings_at bytes taken i) (next ∷ []) rest))

  pub filled_more :
      (lanes : List Lane) →
      (let full = pushed_all lanes (takings_at bytes taken i) in
      set full next.source (pushed (get_or full next.source no_lane) next.body)) ≡ pushed_all lanes (takings_at bytes taken (i + 1))
  unfolding pushed_all
  filled_more lanes = sym (ap (pushed_all lanes) takings_next ∙ pushed_all-append lanes (takings_at bytes taken i) (next ∷ []))
