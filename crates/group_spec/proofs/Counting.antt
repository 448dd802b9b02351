-- Counting alone, with no lane in sight: how many bodies each station has started, and how many
-- rows it has aired. A station starts a body only where it has aired all of its own, and it airs a
-- row where it has one more of everybody than it has aired. So nobody is more than one body ahead
-- of its rows; and who hears of a body has, with it, all that its sender had aired with, and airs
-- as many rows in that same turn.
use mathlib.Core.Bool.{Bool, true, false, cond}
use mathlib.Core.Logic.{◌⊎◌, inl, inr, ⊎_elim}
use mathlib.Core.Path.{◌≡◌, refl}
use Prim.Native.Nat.{ℕ, zero, suc, min, ◌+◌, ◌-◌, ◌≤◌, ◌<◌}
use native.Mathlib.Decide.{ℕ_discrete}
use native.Mathlib.Nat.{le_refl}
use native.Mathlib.Omega.{arith}
use borrow.Author.Tests.{ltb-true, ltb-false}
use lib.Dec.{ltb}
use Rattle.lists.proofs.Later.{from_on}
use Rattle.links.specs.Relay.{Links}
use Rattle.links.specs.Inner.Clock.{news}
use Rattle.links.proofs.Clock.{news_own, news_other, news_limit, news_keeps, news_carries}
use Rattle.lists.specs.Below.{all_below}
use Rattle.lists.proofs.Laws.{all_below_at, all_below_not}

-- what a version shows of a number by time: 0 for none
unfoldable pub shown : (ℕ → ℕ → ℕ) → ℕ → ℕ → ℕ
shown made s zero = 0
shown made s (suc w) = made w s

-- what p has taken of s in round u + 1 once it has heard: what s had started as its news shows it,
-- and of itself what it had started by round u
abbrev pub reached : Links → (ℕ → ℕ → ℕ) → ℕ → ℕ → ℕ → ℕ
reached L made u p s = shown made s (min (suc u) (news L (suc u) p s))

-- in round u + 1 p has one more of everybody than it has aired, and so airs a row
abbrev pub airs_row : Links → (ℕ → ℕ → ℕ) → (ℕ → ℕ → ℕ) → ℕ → ℕ → Bool
airs_row L made rows u p = all_below L.size (λ s. ltb (rows u p) (reached L made u p s))

-- the two rules, in the rounds up to `last`: `made u s` bodies were started by s and `rows u p`
-- rows aired by p by the end of round u; a body starts only where none of its station's own is left
-- to air, and a row is aired exactly where there is one more of everybody
pub record Counting (L : Links) (made rows : ℕ → ℕ → ℕ) (last : ℕ) : Type 0 where
  pub made_zero : (s : ℕ) → s < L.size → made 0 s ≡ 0
  pub rows_zero : (p : ℕ) → p < L.size → rows 0 p ≡ 0
  pub made_step :
      (u s : ℕ) → u < last → s < L.size →
      (made (suc u) s ≡ made u s) ⊎ ((made u s ≤ rows (suc u) s) × (made (suc u) s ≡ suc (made u s)))
  pub rows_step :
      (u p : ℕ) → u < last → p < L.size → rows (suc u) p ≡ cond (airs_row L made rows u p) (suc (rows u p)) (rows u p)

module _ (L : Links) (made rows : ℕ → ℕ → ℕ) (last : ℕ) (C : Counting L made rows last) where
  shown_some : (s v w : ℕ) → v ≡ suc w → shown made s v ≡ made w s
  unfolding shown
  shown_some s v w e = rw e

  shown_none : (s v : ℕ) → v ≡ 0 → shown made s v ≡ 0
  unfolding shown
  shown_none s v e = rw e

  pub made_keeps : (u s : ℕ) → u < last → s < L.size → made u s ≤ made (suc u) s
  made_keeps u s l ls = ⊎_elim (λ e. omega arith) (λ e. omega arith) (C.made_step u s l ls)

  pub made_mono : (u w s : ℕ) → u ≤ w → w ≤ last → s < L.size → made u s ≤ made w s
  made_mono u w s h l ls =
      from_on (λ v. v ≤ last → made u s ≤ made v s) u (λ m. le_refl (made u s))
      (λ v k before m. let b = before (omega arith) in omega (arith, b, made_keeps v s m ls))
      w h l

  -- a later version shows no less
  pub shown_mono : (v v' s : ℕ) → v ≤ v' → v' ≤ suc last → s < L.size → shown made s v ≤ shown made s v'
  shown_mono zero v' s h l ls = omega (arith, shown_none s 0 refl)
  shown_mono (suc w) zero s h l ls = absurd (omega arith)
  shown_mono (suc w) (suc w') s h l ls =
      omega (arith, shown_some s (suc w) w refl, shown_some s (suc w') w' refl, made_mono w w' s (omega arith) (omega arith) ls)

  -- A row more, which has one more of everybody, or no row more, for want of somebody.
  rows_cases : (u p : ℕ) → u < last → p < L.size
      → ((rows (suc u) p ≡ suc (rows u p)) × ((s : ℕ) → s < L.size → rows u p < reached L made u p s))
      ⊎ ((rows (suc u) p ≡ rows u p) × ((s : ℕ) × (s < L.size) × (reached L made u p s ≤ rows u p)))
  rows_cases u p l lp = go (airs_row L made rows u p) refl
    where
      test : ℕ → Bool
      test s = ltb (rows u p) (reached L made u p s)

      go : (b : Bool) → airs_row L made rows u p ≡ b
          → ((rows (suc u) p ≡ suc (rows u p)) × ((s : ℕ) → s < L.size → rows u p < reached L made u p s))
          ⊎ ((rows (suc u) p ≡ rows u p) × ((s : ℕ) × (s < L.size) × (reached L made u p s ≤ rows u p)))
      go true e =
          inl (
            rw e at (C.rows_step u p l lp),
            λ s ls. ltb-true (rows u p) (reached L made u p s) (all_below_at L.size test e s ls),
          )
      go false e =
          let k = all_below_not L.size test e in
          inr (rw e at (C.rows_step u p l lp), (k.0, k.1, ltb-false (rows u p) (reached L made u p k.0) k.2))

  pub rows_keeps : (u p : ℕ) → u < last → p < L.size → rows u p ≤ rows (suc u) p
  rows_keeps u p l lp = ⊎_elim (λ e. omega (arith, e.0)) (λ e. omega (arith, e.0)) (rows_cases u p l lp)

  -- A station is at most one body ahead of its rows.
  pub made_ahead : (u p : ℕ) → u ≤ last → p < L.size → made u p ≤ rows u p + 1
  made_ahead zero p l lp = omega (arith, C.made_zero p lp)
  made_ahead (suc u) p l lp =
      ⊎_elim
      (λ e. omega (arith, made_ahead u p (omega arith) lp, rows_keeps u p (omega arith) lp))
      (λ e. omega arith)
      (C.made_step u p (omega arith) lp)

  -- what is reached while hearing lies between what was had before and what is had after
  pub reached_grows : (u p s : ℕ) → u < last → p < L.size → s < L.size → shown made s (news L u p s) ≤ reached L made u p s
  reached_grows u p s l lp ls =
      shown_mono
      (news L u p s)
      (min (suc u) (news L (suc u) p s))
      s
      (omega (arith, news_limit L u p s, news_keeps L u p s))
      (omega arith)
      ls

  pub reached_limit : (u p s : ℕ) → u < last → p < L.size → s < L.size → reached L made u p s ≤ shown made s (news L (suc u) p s)
  reached_limit u p s l lp ls =
      shown_mono
      (min (suc u) (news L (suc u) p s))
      (news L (suc u) p s)
      s
      (omega arith)
      (omega (arith, news_limit L (suc u) p s))
      ls

  reached_own : (u p : ℕ) → reached L made u p p ≡ made u p
  reached_own u p = shown_some p (min (suc u) (news L (suc u) p p)) u (omega (arith, news_own L (suc u) p))

  -- No more rows are aired than there are bodies of anybody.
  rows_covered : (u p s : ℕ) → u < last → p < L.size → s < L.size → rows u p ≤ shown made s (news L u p s) → rows (suc u) p ≤ reached L made u p s
  rows_covered u p s l lp ls h =
      ⊎_elim
      (λ e. omega (arith, e.0, e.1 s ls))
      (λ e. omega (arith, e.0, reached_grows u p s l lp ls))
      (rows_cases u p l lp)

  pub rows_limit : (u p s : ℕ) → u ≤ last → p < L.size → s < L.size → rows u p ≤ shown made s (news L u p s)
  rows_limit zero p s l lp ls = omega (arith, C.rows_zero p lp)
  rows_limit (suc u) p s l lp ls =
      omega (
        arith,
        rows_covered u p s (omega arith) lp ls (rows_limit u p s (omega arith) lp ls),
        reached_limit u p s (omega arith) lp ls,
      )

  pub rows_reached : (u p s : ℕ) → u < last → p < L.size → s < L.size → rows (suc u) p ≤ reached L made u p s
  rows_reached u p s l lp ls = rows_covered u p s l lp ls (rows_limit u p s (omega arith) lp ls)

  -- After the airing step the rows are the least of what was reached of anybody.
  pub rows_least : (u p k : ℕ) → u < last → p < L.size → ((s : ℕ) → s < L.size → k ≤ reached L made u p s) → k ≤ rows (suc u) p
  rows_least u p k l lp h =
      ⊎_elim
      (λ e. omega (arith, e.0, h p lp, reached_own u p, made_ahead u p (omega arith) lp))
      (λ e. omega (arith, e.0, e.1.2, h e.1.0 e.1.1))
      (rows_cases u p l lp)

  -- After a round nobody has more than one body of anybody beyond its rows.
  heard_ahead : (u p s w : ℕ) → u < last → p < L.size → s < L.size → w ≤ u → news L (suc u) p s ≡ suc w → made w s ≤ rows (suc u) p + 1
  heard_ahead u p s w l lp ls lw e =
      omega (
        arith,
        made_ahead w s (omega arith) ls,
        rows_least
            u
            p
            (rows w s)
            l
            lp
            (λ r lr.
            omega (
              arith,
              rows_limit w s r (omega arith) ls lr,
              shown_mono
                  (news L w s r)
                  (min (suc u) (news L (suc u) p r))
                  r
                  (omega (arith, news_limit L w s r, news_carries L (suc u) p s r w e))
                  (omega arith)
                  lr,
            )),
      )

  pub ahead : (u p s : ℕ) → u ≤ last → p < L.size → s < L.size → shown made s (news L u p s) ≤ rows u p + 1
  ahead u p s l lp ls = elim (ℕ_discrete p s) [ yes e ↦ own e | no d ↦ other u (news L u p s) l refl (news_other L u p s d) ]
    where
      own : p ≡ s → shown made s (news L u p s) ≤ rows u p + 1
      own e = rw (← e) (omega (arith, shown_some p (news L u p p) u (news_own L u p), made_ahead u p l lp))

      other : (u v : ℕ) → u ≤ last → news L u p s ≡ v → news L u p s ≤ u → shown made s (news L u p s) ≤ rows u p + 1
      other u zero l e b = omega (arith, shown_none s (news L u p s) e)
      other zero (suc w) l e b = absurd (omega arith)
      other (suc u) (suc w) l e b =
          omega (arith, shown_some s (news L (suc u) p s) w e, heard_ahead u p s w (omega arith) lp ls (omega arith) e)

  -- And not more than two while it hears, before the turn.
  pub hearing_ahead : (u p s : ℕ) → u < last → p < L.size → s < L.size → reached L made u p s ≤ rows u p + 2
  hearing_ahead u p s l lp ls =
      ⊎_elim
      (λ e. omega (arith, e.0, reached_limit u p s l lp ls, ahead (suc u) p s (omega arith) lp ls))
      (λ e. omega (arith, e.0, reached_limit u p s l lp ls, ahead (suc u) p s (omega arith) lp ls))
      (rows_cases u p l lp)
