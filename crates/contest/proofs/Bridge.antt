-- The contest over sets of stations is the contest over plays: the sets stand for what is known
-- after the play's log, while the first broadcast runs.
use mathlib.Core.Bool.{Bool, true, false, cond, not, ◌&&◌, ◌||◌, true≢false}
use mathlib.Core.List.{List, [], ◌∷◌, ◌++◌}
use mathlib.Core.Logic.{⊎_elim}
use mathlib.Core.Path.{◌≡◌, refl, sym, ap, ap₂, ◌∙◌}
use Prim.Native.Nat.{ℕ, zero, suc, ◌+◌, ◌-◌, ◌*◌, ◌%◌, ◌<◌, ◌≤◌}
use native.Mathlib.Decide.{ℕ_discrete}
use native.Mathlib.Omega.{arith}
use borrow.Author.Tests.{eq-eqb, ne_eqb, lt-ltb, le-ltb, ltb-true, ltb-false}
use lib.Dec.{eqb, ltb}
use lib.ListN.{length, get_or, set, replicate, length-append, length-set}
use lib.Seq.{get_or-append-add, get_or-set_same, get_or-set_other}
use Rattle.lists.specs.Below.{all_below}
use Rattle.lists.proofs.Laws.{all_below_ext, set_below_inside, length-set_below}
use Rattle.links.specs.Log.{bit, masks_in, cut}
use Rattle.links.specs.Relay.{Links, of_log}
use Rattle.links.specs.Inner.Clock.{news}
use Rattle.links.specs.Inner.Number.{answers, start, ends, num}
use Rattle.links.specs.Inner.Know.{knows, either, brought, learnt, newly}
use Rattle.links.proofs.Clock.{news_limit}
use Rattle.links.proofs.Log.{hears_in_own, hears_in-bit, cut_mask}
use Rattle.links.proofs.Number.{step, num_mono, num_positive, num_zero}
use Rattle.links.proofs.Prefix.{Same, news_same, answers_same, start_same, num_same, same-append}
use Rattle.links.proofs.Know.{knows_zero, knows_step, ends-learnt}
use Rattle.planning_spec.specs.LinkLog.{mask_hears}
use Rattle.planning.specs.Sets.{united, first_set, is_full}
use Rattle.planning.proofs.Bits.{is_full_bits}
use Rattle.planning.proofs.Stands.{united-bit, either_ext, with_receiver-bit, first_set-bit}
use Rattle.contest.specs.Contest.{log_of, keeper's}
use Rattle.contest.specs.Winner.{decided, still, won}
use Rattle.contest.proofs.Forcing.{still_step, still_end}
use Rattle.contest.specs.Inner.KnownSets.{learnt_one, after, mask_of, begun, wins_from}
use Rattle.contest.proofs.Deciding.{outcome, wins_over, wins_none, wins_more, decided_hit, decided_none, decided_ext}

pub log_append : (sets : List (List ℕ)) (a b : List ℕ) → log_of sets (a ++ b) ≡ log_of sets a ++ log_of sets b
unfolding log_of
log_append sets [] b = refl
log_append sets (x ∷ a) b = ap (λ (l : List (List ℕ)). get_or sets x [] ∷ l) (log_append sets a b)

pub log_length : (sets : List (List ℕ)) (a : List ℕ) → length (log_of sets a) ≡ length a
unfolding log_of
log_length sets [] = refl
log_length sets (x ∷ a) = ap suc (log_length sets a)

log_one : (sets : List (List ℕ)) (i : ℕ) → log_of sets (i ∷ []) ≡ get_or sets i [] ∷ []
unfolding log_of
log_one sets i = refl

knows_same : (L M : Links) (last : ℕ) → Same L M last → (u s p r : ℕ) → u ≤ last → knows L u s p r ≡ knows M u s p r
unfolding knows
knows_same L M last same u s p r l =
    answers_same L M last same s (start L u s) r (news L u p r) (omega (arith, news_limit L u p r))
    ∙ ap₂ (λ (t v : ℕ). answers M s t r v) (start_same L M last same u s l) (news_same L M last same u p r l)

pub turns : (u : ℕ) → not (keeper's u) ≡ keeper's (suc u)
turns u =
    elim (ℕ_discrete (u % 2) 0) [
      | yes e ↦ rw (eq-eqb (u % 2) 0 e, ne_eqb (suc u % 2) 0 (λ h. omega arith))
      | no d ↦ rw (ne_eqb (u % 2) 0 d, eq-eqb (suc u % 2) 0 (omega arith))
    ]

length_more : (picks : List ℕ) (i : ℕ) → length (picks ++ (i ∷ [])) ≡ suc (length picks)
length_more picks i = length-append picks (i ∷ []) ∙ omega arith

-- One more round of a log.
module _ (n : ℕ) (log : List (List ℕ)) (m : List ℕ) where
  abbrev more : Links
  more = of_log n (log ++ (m ∷ []))

  new_masks : masks_in (log ++ (m ∷ [])) (suc (length log)) ≡ m
  unfolding masks_in
  new_masks = let z : length log ≡ length log + 0 = omega arith in ap (λ (k : ℕ). get_or (log ++ (m ∷ [])) k []) z ∙ get_or-append-add log (m ∷ []) 0 []

module _ (n s count : ℕ) (masks : List ℕ) (few : n ≤ 4) (own : s < n) where
  abbrev sets : List (List ℕ)
  sets = cut n count masks

  abbrev L : List ℕ → Links
  L picks = of_log n (log_of sets picks)

  pub record Bits (picks know : List ℕ) : Type 0 where
    pub size : length know ≡ 4
    pub each : (p r : ℕ) → p < n → r < n → bit (get_or know p 0) r ≡ knows (L picks) (length picks) s p r

  pub record Behind (picks know : List ℕ) : Type 0 where
    pub over : is_full n (get_or know s 0) ≡ won n sets s picks
    pub bits : won n sets s picks ≡ false → Bits picks know

  module _ (picks : List ℕ) (i : ℕ) where
    abbrev u : ℕ
    u = length picks

    abbrev M : Links
    M = L (picks ++ (i ∷ []))

    same : Same (L picks) M u
    same =
        rw (log_append sets picks (i ∷ []), sym (log_length sets picks)) (same-append n (log_of sets picks) (log_of sets (i ∷ [])))

    won_is : won n sets s picks ≡ ltb 1 (num (L picks) u s)
    unfolding won
    won_is = refl

    won-num : won n sets s (picks ++ (i ∷ [])) ≡ ltb 1 (num M (suc u) s)
    unfolding won
    won-num = ap (λ (k : ℕ). ltb 1 (num M k s)) (length_more picks i)

    won_more : won n sets s picks ≡ true → won n sets s (picks ++ (i ∷ [])) ≡ true
    won_more h =
        won-num
        ∙ lt-ltb 1 (num M (suc u) s)
        (omega (arith, ltb-true 1 (num (L picks) u s) (sym won_is ∙ h), num_same (L picks) M u same u s (omega arith), num_mono M u (suc u) s (omega arith)))

    -- While the first broadcast runs, it ends in a round exactly if the play is won by it.
    won-ends : won n sets s picks ≡ false → won n sets s (picks ++ (i ∷ [])) ≡ ends M (suc u) s
    won-ends h =
        won-num
        ∙ ⊎_elim
        (λ (c : (ends M (suc u) s ≡ true) × (start M (suc u) s ≡ suc u) × (num M (suc u) s ≡ suc (num M u s))).
        lt-ltb 1 (num M (suc u) s) (omega (arith, num_positive M u s)) ∙ sym c.0)
        (λ (c : (ends M (suc u) s ≡ false) × (start M (suc u) s ≡ start M u s) × (num M (suc u) s ≡ num M u s)).
        le-ltb 1 (num M (suc u) s) (omega (arith, ltb-false 1 (num (L picks) u s) (sym won_is ∙ h), num_same (L picks) M u same u s (omega arith))) ∙ sym c.0)
        (step M u s)

    module _ (inside : i < count) where
      at_place : (p : ℕ) → p < n → get_or (get_or sets i []) p 0 ≡ get_or masks (i * n + p) 0
      unfolding masks_in
      at_place p l = cut_mask n count masks i p inside l

      masks_new : (p : ℕ) → p < n → get_or (masks_in (log_of sets (picks ++ (i ∷ []))) (suc u)) p 0 ≡ get_or masks (i * n + p) 0
      masks_new p l =
          ap (λ (k : List ℕ). get_or k p 0)
          (ap₂ (λ (a : List (List ℕ)) (b : ℕ). masks_in a (suc b)) (log_append sets picks (i ∷ []) ∙ ap (λ (x : List (List ℕ)). log_of sets picks ++ x) (log_one sets i)) (sym (log_length sets picks))
          ∙ new_masks n (log_of sets picks) (get_or sets i []))
          ∙ at_place p l

      hears_new : (p j : ℕ) → p < n → j < n → mask_hears (mask_of masks (i * n) p) p j ≡ M.hears (suc u) p j
      unfolding mask_hears
      hears_new p j lp lj =
          elim (ℕ_discrete p j) [
            | yes e ↦ rw (eq-eqb p j e) (sym (hears_in_own n (masks_in (log_of sets (picks ++ (i ∷ []))) (suc u)) p j e))
            | no d ↦
                rw (ne_eqb p j d)
                (ap (λ (x : ℕ). bit x j) (sym (masks_new p lp))
                ∙ sym (hears_in-bit n (masks_in (log_of sets (picks ++ (i ∷ []))) (suc u)) p j lp lj d))
          ]

      module _ (know : List ℕ) (k : Bits picks know) where
        abbrev next : List ℕ
        next = after n s (mask_of masks (i * n)) know

        known : (p r : ℕ) → p < n → r < n → bit (get_or know p 0) r ≡ knows M u s p r
        known p r lp lr = k.each p r lp lr ∙ knows_same (L picks) M u same u s p r (omega arith)

        next_at : (p : ℕ) → p < n → get_or next p 0 ≡ learnt_one n s (mask_of masks (i * n) p) know p
        unfolding after
        next_at p l = set_below_inside n (λ p. learnt_one n s (mask_of masks (i * n) p) know p) know p 0 l (omega (arith, k.size))

        next_size : length next ≡ 4
        unfolding after
        next_size = length-set_below n (λ p. learnt_one n s (mask_of masks (i * n) p) know p) know ∙ k.size

        next_bit : (p r : ℕ) → p < n → r < n → bit (get_or next p 0) r ≡ learnt M u s p r
        unfolding learnt_one learnt brought
        next_bit p r lp lr =
            ap (λ (x : ℕ). bit x r) (next_at p lp)
            ∙ with_receiver-bit p s (united n (mask_hears (mask_of masks (i * n) p) p) (λ j. get_or know j 0) (get_or know p 0)) r
            ∙ ap₂ (λ (a b : Bool). a || (eqb p r && b)) (one r lr) (one s own)
          where
            one : (r : ℕ) → r < n
                → bit (united n (mask_hears (mask_of masks (i * n) p) p) (λ j. get_or know j 0) (get_or know p 0)) r
                ≡ either n (λ j. M.hears (suc u) p j) (λ j. knows M u s j r) (knows M u s p r)
            one r lr =
                united-bit n (mask_hears (mask_of masks (i * n) p) p) (λ j. get_or know j 0) (get_or know p 0) r
                ∙ either_ext n (mask_hears (mask_of masks (i * n) p) p) (λ j. M.hears (suc u) p j) (λ j. bit (get_or know j 0) r) (λ j. knows M u s j r)
                (bit (get_or know p 0) r) (knows M u s p r) (λ j l. hears_new p j lp l) (λ j l. known j r l lr) (known p r lp lr)

        next_all : is_full n (get_or next s 0) ≡ all_below n (λ r. learnt M u s s r)
        next_all =
            is_full_bits n (get_or next s 0)
            ∙ all_below_ext n (λ r. bit (get_or next s 0) r) (λ r. learnt M u s s r) (λ r l. next_bit s r own l)

        -- A round.
        pub behind_step : won n sets s picks ≡ false → Behind (picks ++ (i ∷ [])) next
        behind_step h =
            record {
              over = next_all ∙ sym (ends-learnt M u s) ∙ sym (won-ends h);
              bits =
                  λ g.
                  (let a : all_below n (λ r. learnt M u s s r) ≡ false = sym (ends-learnt M u s) ∙ sym (won-ends h) ∙ g in
                  record {
                    size = next_size;
                    each =
                        λ p r lp lr.
                        next_bit p r lp lr
                        ∙ ap (λ (b : Bool). cond b (newly s p r) (learnt M u s p r)) (sym a)
                        ∙ sym (knows_step M u s p r)
                        ∙ ap (λ (w : ℕ). knows M w s p r) (sym (length_more picks i));
                  });
            }

  -- Before round 1.
  pub begun-bits : Bits [] (begun s)
  unfolding begun first_set
  begun-bits =
      record {
        size = length-set (replicate 4 0) s (first_set s s);
        each = λ p r lp lr. ap (λ (x : ℕ). bit x r) (place p lp) ∙ first_set-bit p s r ∙ sym (knows_zero (L []) s p r);
      }
    where
      zeros : (k p : ℕ) → ◌≡◌ {A = ℕ} (get_or (replicate k 0) p 0) 0
      zeros zero p = refl
      zeros (suc k) zero = refl
      zeros (suc k) (suc p) = zeros k p

      place : (p : ℕ) → p < n → get_or (set (replicate 4 0) s (first_set s s)) p 0 ≡ first_set p s
      place p l =
          elim (ℕ_discrete p s) [
            | yes e ↦ rw (eq-eqb p s e, eq-eqb s s refl, e) (get_or-set_same (replicate 4 0) s _ 0 (omega arith))
            | no d ↦ rw (ne_eqb p s d) (get_or-set_other (replicate 4 0) s p _ 0 d ∙ zeros 4 p)
          ]

  pub begun_won : won n sets s [] ≡ false
  unfolding won
  begun_won = le-ltb 1 (num (L []) 0 s) (omega (arith, num_zero (L []) s))

  module _ (some : 0 < count) where
    -- An end stays an end.
    still-won : (left : ℕ) (picks : List ℕ) → won n sets s picks ≡ true → still (won n sets s) count left picks ≡ true
    still-won zero picks h = still_end (won n sets s) count picks ∙ h
    still-won (suc left) picks h =
        still_step (won n sets s) count left picks ∙ go (keeper's (length picks)) (λ i. still-won left (picks ++ (i ∷ [])) (won_more picks i h))
      where
        go : (t : Bool) → ((i : ℕ) → still (won n sets s) count left (picks ++ (i ∷ [])) ≡ true)
            → decided t count (λ i. still (won n sets s) count left (picks ++ (i ∷ []))) ≡ true
        go true f = decided_hit true count (λ i. still (won n sets s) count left (picks ++ (i ∷ []))) 0 some (f 0)
        go false f = decided_none false count (λ i. still (won n sets s) count left (picks ++ (i ∷ []))) (λ i l e. true≢false (sym (f i) ∙ e))

    pub wins_still : (left : ℕ) (picks know : List ℕ) → Behind picks know
        → wins_from n s count masks left (keeper's (length picks)) know ≡ still (won n sets s) count left picks
    wins_still zero picks know k =
        wins_none n s count masks 0 (keeper's (length picks)) know refl ∙ k.over ∙ sym (still_end (won n sets s) count picks)
    wins_still (suc left) picks know k = go (won n sets s picks) refl (λ i next b. wins_still left (picks ++ (i ∷ [])) next b)
      where
        go : (b : Bool) → won n sets s picks ≡ b
            → ((i : ℕ) (next : List ℕ) → Behind (picks ++ (i ∷ [])) next
            → wins_from n s count masks left (keeper's (length (picks ++ (i ∷ [])))) next ≡ still (won n sets s) count left (picks ++ (i ∷ [])))
            → wins_from n s count masks (suc left) (keeper's (length picks)) know ≡ still (won n sets s) count (suc left) picks
        go true e f =
            wins_over n s count masks (suc left) (keeper's (length picks)) know (k.over ∙ e) ∙ sym (still-won (suc left) picks e)
        go false e f =
            wins_more n s count masks (suc left) (keeper's (length picks)) know (λ z. omega arith) (k.over ∙ e)
            ∙ decided_ext (keeper's (length picks)) count (outcome n s count masks (suc left) (keeper's (length picks)) know)
            (λ i. still (won n sets s) count left (picks ++ (i ∷ [])))
            (λ i l. turn i ∙ f i (after n s (mask_of masks (i * n)) know) (behind_step picks i l know (k.bits e) e))
            ∙ sym (still_step (won n sets s) count left picks)
          where
            turn : (i : ℕ) → outcome n s count masks (suc left) (keeper's (length picks)) know i
                ≡ wins_from n s count masks left (keeper's (length (picks ++ (i ∷ [])))) (after n s (mask_of masks (i * n)) know)
            turn i =
                let z : suc left - 1 ≡ left = omega arith in
                ap₂ (λ (m : ℕ) (t : Bool). wins_from n s count masks m t (after n s (mask_of masks (i * n)) know)) z
                (turns (length picks) ∙ ap keeper's (sym (length_more picks i)))
