-- What "newer" decides. The versions of a station that are in flight in one round have numbers at
-- most one apart, so labels modulo 3 tell the same, the next and the previous number apart; and
-- within one number a later version has no smaller count. So a station heeds a record exactly if
-- the record is later than what the cell stands for, or else the cell stands for it already; and it
-- advances exactly if its number is the next one. Records with the same number and count show the
-- same, so none conflicts.
use Prim.Native.Nat.{ℕ, zero, suc, max, ◌%◌, ◌≤◌, ◌<◌}
use mathlib.Core.Bool.{Bool, true, false, not, and-false}
use mathlib.Core.Logic.{inl, inr}
use mathlib.Core.Path.{◌≡◌, refl, sym, ap, ◌∙◌}
use native.Mathlib.Decide.{ℕ_discrete, dec_le}
use native.Mathlib.Omega.{arith}
use borrow.Author.Tests.{lt-ltb, le-ltb, eqb-true, eq-eqb, ne_eqb}
use lib.Dec.{eqb}
use Rattle.bodies.proofs.BodyLaws.{body_same}
use Rattle.lists.proofs.Laws.{both, all_below_make}
use Rattle.labels.specs.Label.{successor}
use Rattle.labels.specs.Newer.{is_newer}
use Rattle.labels.proofs.NewerLaws.{newer_next, newer_same, newer_past, newer_none}
use Rattle.links.specs.Relay.{Links}
use Rattle.links.specs.Inner.Clock.{news}
use Rattle.links.specs.Inner.Number.{num, num_of, got, counted}
use Rattle.links.proofs.Number.{num_positive, num_mono}
use Rattle.links.proofs.Got.{num_of_none, num_of_some, got_own}
use Rattle.links.proofs.Version.{num_of_close, counted_mono}
use Rattle.links.proofs.Clock.{news_limit}
use Rattle.frame_spec.specs.declared.Record.{Record}
use Rattle.frame_spec.specs.Record.{record_label}
use Rattle.station_spec.specs.declared.Station.{Station}
use Rattle.station_spec.specs.State.{label_of, held_of, record_of}
use Rattle.station_spec.specs.Hearing.{agree, advances}
use Rattle.station_spec.proofs.HearRecord.{accepts, level, conflicts, heeded_calm}
use Rattle.station_spec.proofs.Cells.{accepts_newer}
use Rattle.group_spec.proofs.Run.{Run, links_of}
use Rattle.group_spec.proofs.Version.{Stands, CellAt, Alike, shown_same, got_alike}

newer_at : {h h' : Bool} {l l' c c' m m' d d' : ℕ} → h ≡ h' → l ≡ l' → c ≡ c' → m ≡ m' → d ≡ d' → is_newer h l c m d ≡ is_newer h' l' c' m' d'
newer_at {h' = h'} {l' = l'} {c' = c'} {m' = m'} {d' = d'} a b c d e = rw (a, b, c, d, e)

module _ (R : Run) where
  abbrev L : Links
  L = links_of R

  -- a cell of k that stands for version v hears a record r that stands for version w + 1
  pub data Outcome (s : Station) (r : Record) (k v w : ℕ) : Type 0 where
    skipped : accepts s r ≡ false → conflicts s r ≡ false → Alike R k v (max v (suc w)) → Outcome s r k v w
    renewed : accepts s r ≡ true → advances s r ≡ false → v < suc w → num_of L k (suc w) ≡ num_of L k v → Outcome s r k v w
    advanced :
        accepts s r ≡ true → advances s r ≡ true → v < suc w → num_of L k (suc w) ≡ suc (num_of L k v) →
        Outcome s r k v w

  module _ (s : Station) (r : Record) where
    abbrev k : ℕ
    k = r.station

    module _ (u p : ℕ) (lp : p < R.n) (own : s.own ≡ p) (other : k ≡ p → ⊥) (lk : k < R.n) where
      away : k ≡ s.own → ⊥
      away e = other (e ∙ own)

      label_number : (q : Record) (w : ℕ) → Stands R q k w → record_label q k ≡ num L w k % 3
      label_number q w t = t.labels k lk ∙ ap (λ (g : ℕ). g % 3) (got_own L w k)

      advances_next :
          (w a : ℕ) → Stands R r k w → label_of s k ≡ a % 3 → num L w k ≡ suc a →
          advances s r ≡ true
      advances_next w a t l e =
          eq-eqb (record_label r k) (successor (label_of s k)) (omega (arith, label_number r w t))

      advances_same :
          (w a : ℕ) → Stands R r k w → label_of s k ≡ a % 3 → num L w k ≡ a →
          advances s r ≡ false
      advances_same w a t l e =
          ne_eqb (record_label r k) (successor (label_of s k)) (λ f. omega (arith, label_number r w t))

      newer_held :
          (x w : ℕ) → held_of s k ≡ true → Stands R (record_of s k) k x → Stands R r k w →
          accepts s r ≡ is_newer true (num L x k % 3) (counted L x k) (num L w k % 3)
          (counted L w k)
      newer_held x w e a b =
          accepts_newer s r away ∙ newer_at e (label_number (record_of s k) x a) a.count (label_number r w b) b.count

      same_got : (x w : ℕ) → num L x k ≡ num L w k → counted L x k ≡ counted L w k → (i : ℕ) → i < R.n → got L x k i ≡ got L w k i
      same_got x w e f i l =
          elim (dec_le x w) [
            | yes b ↦ got_alike R k x w b e f i l
            | no b ↦ sym (got_alike R k w x (omega arith) (sym e) (sym f) i l)
          ]

      -- two records of k with the same number and count agree
      agreeing :
          (x w : ℕ) → s.n ≡ R.n → Stands R (record_of s k) k x → Stands R r k w → num L x k ≡ num L w k → counted L x k ≡ counted L w k →
          agree s.n (record_of s k) r ≡ true
      unfolding agree
      agreeing x w size a b e f =
          let body : (record_of s k).body ≡ r.body =
          a.body ∙ shown_same R k (suc x) (suc w) (num_of_some L k (suc x) x refl ∙ e ∙ sym (num_of_some L k (suc w) w refl)) ∙ sym b.body in
          rw (body, body_same r.body)
          (all_below_make s.n (λ i. eqb (record_label (record_of s k) i) (record_label r i))
          (λ i l.
          eq-eqb _ _
          (a.labels i (omega (arith, size)) ∙ ap (λ (g : ℕ). g % 3) (same_got x w e f i (omega (arith, size))) ∙ sym (b.labels i (omega (arith, size))))))

      -- so one that is not newer does not conflict, where the numbers are at most one apart
      no_conflict :
          (x w : ℕ) → s.n ≡ R.n → Stands R (record_of s k) k x → Stands R r k w → num L w k ≤ suc (num L x k) → num L x k ≤ suc (num L w k) →
          conflicts s r ≡ false
      no_conflict x w size a b up down = go (level s r) refl
        where
          older : Bool
          older = not (is_newer (held_of s k) (record_label (record_of s k) k) (record_of s k).count (record_label r k) r.count)

          go : (t : Bool) → level s r ≡ t → conflicts s r ≡ false
          go false e = rw (ne_eqb k s.own away, e) (and-false older)
          go true e =
              let parts = both (eqb (record_label r k) (record_label (record_of s k) k)) (eqb r.count (record_of s k).count) e in
              let l : record_label r k ≡ record_label (record_of s k) k = eqb-true _ _ parts.0 in
              let c : r.count ≡ (record_of s k).count = eqb-true _ _ parts.1 in
              let number : num L x k ≡ num L w k = omega (arith, l, label_number (record_of s k) x a, label_number r w b) in
              let count : counted L x k ≡ counted L w k = sym a.count ∙ sym c ∙ b.count in
              rw (ne_eqb k s.own away, e, agreeing x w size a b number count) (and-false older)

      pub outcome :
          (v w j : ℕ) → j < R.n → s.n ≡ R.n →
          CellAt R u p k v s →
          Stands R r k w →
          news L u p k ≤ v → v ≤ suc u → suc w ≡ news L u j k →
          Outcome s r k v w
      outcome zero w j lj size c t low high from =
          let e : num L w k ≡ suc 0 =
          omega (
            arith,
            num_positive L w k,
            num_of_close L u p k 0 (suc w) lp low (omega (arith, news_limit L u j k)),
            num_of_some L k (suc w) w refl,
            num_of_none L k 0 refl,
          ) in
          let z = num_of_none L k 0 refl in
          advanced
          (accepts_newer s r away
          ∙ newer_none (held_of s k) (record_label (record_of s k) k) (record_of s k).count
          (record_label r k) r.count c.is_held)
          (advances_next w 0 t (c.is_label ∙ ap (λ (g : ℕ). g % 3) z) e)
          (omega arith)
          (omega (arith, num_of_some L k (suc w) w refl))
      outcome (suc x) w j lj size c t low high from =
          let cx = c.stands x refl in
          let held : held_of s k ≡ true = c.is_held ∙ lt-ltb 0 (suc x) (omega arith) in
          let nx = num_of_some L k (suc x) x refl in
          let nw = num_of_some L k (suc w) w refl in
          let lw : suc w ≤ suc u = omega (arith, news_limit L u j k) in
          let up = num_of_close L u p k (suc x) (suc w) lp low lw in
          let down = num_of_close L u j k (suc w) (suc x) lj (omega arith) high in
          let calm = no_conflict x w size cx t (omega (arith, up, nx, nw)) (omega (arith, down, nx, nw)) in
          let label : label_of s k ≡ num L x k % 3 = c.is_label ∙ ap (λ (g : ℕ). g % 3) nx in
          elim (dec_le (suc w) (suc x)) [
            | yes l ↦
                (let m = num_mono L w x k (omega arith) in
                elim (ℕ_discrete (num L w k) (num L x k)) [
                  | yes e ↦
                      skipped
                      (newer_held x w held cx t
                      ∙ newer_same (num L x k) (num L w k) (counted L x k) (counted L w k) e
                      ∙ le-ltb (counted L x k) (counted L w k) (counted_mono L w x k (omega arith) e))
                      calm
                      (inl (omega arith))
                  | no d ↦
                      skipped
                      (newer_held x w held cx t
                      ∙ newer_past (num L x k) (num L w k) (counted L x k) (counted L w k) (omega arith))
                      calm
                      (inl (omega arith))
                ])
            | no l ↦
                (let m = num_mono L x w k (omega arith) in
                elim (ℕ_discrete (num L w k) (num L x k)) [
                  | yes e ↦
                      (let f = counted_mono L x w k (omega arith) (sym e) in
                      let n =
                      newer_held x w held cx t
                      ∙ newer_same (num L x k) (num L w k) (counted L x k) (counted L w k) e in
                      elim (ℕ_discrete (counted L x k) (counted L w k)) [
                        | yes i ↦
                            skipped
                            (n ∙ le-ltb (counted L x k) (counted L w k) (omega arith))
                            calm
                            (inr (x, w, refl, omega arith, omega arith, sym e, i))
                        | no i ↦
                            renewed
                            (n ∙ lt-ltb (counted L x k) (counted L w k) (omega arith))
                            (advances_same w (num L x k) t label e)
                            (omega arith)
                            (omega arith)
                      ])
                  | no d ↦
                      advanced
                      (newer_held x w held cx t
                      ∙ newer_next (num L x k) (num L w k) (counted L x k) (counted L w k) (omega arith))
                      (advances_next w (num L x k) t label (omega arith))
                      (omega arith)
                      (omega arith)
                ])
          ]

  -- in none of the three cases does the record conflict
  pub outcome_calm : (s : Station) (r : Record) (v w : ℕ) → Outcome s r r.station v w → conflicts s r ≡ false
  outcome_calm s r v w (skipped e f a) = f
  outcome_calm s r v w (renewed e a l n) = heeded_calm s r e
  outcome_calm s r v w (advanced e a l n) = heeded_calm s r e
