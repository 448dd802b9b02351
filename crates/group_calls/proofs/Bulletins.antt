-- The calls on bulletins that lie as bytes, return by return: what is refused leaves every buffer,
-- and what is done leaves the encoding of what the call's definition gives.
use mathlib.Core.Path.{◌≡◌, sym, ap, ◌∙◌}
use mathlib.Core.Bool.{Bool, true, false, cond}
use mathlib.Core.List.{List}
use Prim.Native.Nat.{ℕ, ◌<◌, ◌≤◌}
use native.Mathlib.Omega.{arith}
use borrow.Author.Tests.{eqb-true}
use lib.Dec.{eqb, ltb}
use lib.ListN.{length, replicate}
use lib.Seq.{sets}
use Rattle.bodies.specs.Refusals.{done, outside_limits, short_buffer}
use Rattle.lists.proofs.Laws.{and_left}
use Rattle.frame_spec.specs.Words.{word_at}
use Rattle.planning_spec.specs.Merge.{front_written}
use Rattle.station_spec.specs.declared.Station.{Station}
use Rattle.group_spec.specs.Calls.{no_report, round_call}
use Rattle.station_bytes_spec.specs.Group.{encode_group, decode_group, is_group}
use Rattle.station_bytes_spec.specs.Reports.{reports_width, encode_reports}
use Rattle.station_bytes_spec.proofs.Group.{length_group}
use Rattle.station_bytes_spec.proofs.Reports.{length_reports}
use Rattle.bulletins_spec.specs.declared.Bulletins.{Bulletins}
use Rattle.bulletins_spec.specs.declared.BulletinsRound.{BulletinsRound}
use Rattle.bulletins_spec.specs.Calls.{fits, round_part, bulletins_round_call}
use Rattle.bulletin_bytes.specs.Bulletins.{bulletins_width, encode_bulletins, decode_bulletins, is_bulletins}
use Rattle.bulletin_bytes.specs.Shown.{all_shown_width, encode_all_shown}
use Rattle.bulletin_bytes.proofs.Bulletins.{length_bulletins}
use Rattle.bulletin_bytes.proofs.Shown.{length_all_shown}
use Rattle.group_calls.specs.Group.{sixteen_masks}
use Rattle.group_calls.specs.Bulletins.{both_answer, both_returned}
use Rattle.station_calls.proofs.Refusals.{first_refused, first_done, state_refused, state_taken, no_room, room, kept_whole, front_made, refused_is_2, short_is_9}
use Rattle.group_calls.proofs.Group.{group_long}
use Rattle.group_calls.proofs.RoundRefusals.{round_small}

pub bulletins_long : (b : List ℕ) → is_bulletins b ≡ true → length b ≡ bulletins_width
unfolding is_bulletins
bulletins_long b h = eqb-true (length b) bulletins_width (and_left (eqb (length b) bulletins_width) (ltb (word_at b 0) 256) h)

-- ---- round

-- the round of what is read is that of the bytes
pub both_read :
    (group state masks : List ℕ) (g : List Station) → g ≡ decode_group group → (B : Bulletins) → B ≡ decode_bulletins state →
    (sixteen : List ℕ) → sixteen ≡ sixteen_masks masks → (k : BulletinsRound) → k ≡ bulletins_round_call g B sixteen → k ≡ both_answer group state masks
both_read group state masks g read B read₂ sixteen all k call = call ∙ (λ i. bulletins_round_call (read i) (read₂ i) (all i))

-- what refuses it is a small number
round_refusal_small : (g : List Station) (B : Bulletins) (masks : List ℕ) → (bulletins_round_call g B masks).round.refusal < 256
unfolding bulletins_round_call round_part
round_refusal_small g B masks = go (fits g B)
  where
    go : (t : Bool) → (cond t (round_call g masks) (record { refusal = outside_limits; group = g; reports = replicate 16 no_report })).refusal < 256
    go true = round_small g masks
    go false = omega arith

pub both_small : (group state masks : List ℕ) (k : BulletinsRound) → k ≡ both_answer group state masks → k.round.refusal < 256
both_small group state masks k is =
    omega (arith, round_refusal_small (decode_group group) (decode_bulletins state) (sixteen_masks masks), ap (λ (x : BulletinsRound). x.round.refusal) is)

-- the four buffers afterwards
abbrev pub Left : List ℕ → List ℕ → List ℕ → List ℕ → List ℕ → ℕ → List ℕ → List ℕ → List ℕ → List ℕ → Type 0
Left group state masks reports shown r group' state' reports' shown' =
    (r ≡ both_returned group state masks reports shown)
    × (group' ≡ front_written r (encode_group (both_answer group state masks).round.group) group)
    × (state' ≡ front_written r (encode_bulletins (both_answer group state masks).bulletins) state)
    × (reports' ≡ front_written r (encode_reports (both_answer group state masks).round.reports) reports)
    × (shown' ≡ front_written r (encode_all_shown (both_answer group state masks).shown) shown)

module _ (group state masks reports shown : List ℕ) where
  -- a refusal leaves all of them
  refused_all : (r : ℕ) → (r ≡ done → ⊥) → r ≡ both_returned group state masks reports shown → Left group state masks reports shown r group state reports shown
  refused_all r d e = (e, kept_whole _ _ group d, kept_whole _ _ state d, kept_whole _ _ reports d, kept_whole _ _ shown d)

  pub both_no_group : is_group group ≡ false → (r : ℕ) → r ≡ outside_limits → Left group state masks reports shown r group state reports shown
  unfolding both_returned
  both_no_group h r is = refused_all r (λ z. refused_is_2 (sym is ∙ z)) (is ∙ state_refused (is_group group) _ h)

  module _ (h : is_group group ≡ true) where
    pub both_no_state : is_bulletins state ≡ false → (r : ℕ) → r ≡ outside_limits → Left group state masks reports shown r group state reports shown
    unfolding both_returned
    both_no_state q r is =
        refused_all r (λ z. refused_is_2 (sym is ∙ z)) (is ∙ state_refused (is_bulletins state) _ q ∙ state_taken (is_group group) _ h)

    module _ (q : is_bulletins state ≡ true) (k : BulletinsRound) (is : k ≡ both_answer group state masks) where
      pub both_refused : (k.round.refusal ≡ done → ⊥) → Left group state masks reports shown k.round.refusal group state reports shown
      unfolding both_returned
      both_refused d =
          let e = ap (λ (x : BulletinsRound). x.round.refusal) is in
          refused_all k.round.refusal d (e ∙ first_refused _ _ (λ z. d (e ∙ z)) ∙ state_taken (is_bulletins state) _ q ∙ state_taken (is_group group) _ h)

      module _ (fine : k.round.refusal ≡ done) where
        both_fine : (both_answer group state masks).round.refusal ≡ done
        both_fine = ap (λ (x : BulletinsRound). x.round.refusal) (sym is) ∙ fine

        pub both_few : length masks < 16 → (r : ℕ) → r ≡ short_buffer → Left group state masks reports shown r group state reports shown
        unfolding both_returned
        both_few few r is =
            let short = no_room 16 masks few in
            refused_all r (λ z. short_is_9 (sym is ∙ z))
            (is ∙ short ∙ first_refused _ _ (λ z. short_is_9 (short ∙ z)) ∙ first_done _ _ both_fine ∙ state_taken (is_bulletins state) _ q ∙ state_taken (is_group group) _ h)

        module _ (enough : 16 ≤ length masks) where
          pub both_short :
              length reports < reports_width → (r : ℕ) → r ≡ short_buffer → Left group state masks reports shown r group state reports shown
          unfolding both_returned
          both_short few r is =
              let short = no_room reports_width reports few in
              refused_all r (λ z. short_is_9 (sym is ∙ z))
              (is ∙ short ∙ first_refused _ _ (λ z. short_is_9 (short ∙ z)) ∙ first_done _ _ (sym (room 16 masks enough)) ∙ first_done _ _ both_fine
              ∙ state_taken (is_bulletins state) _ q ∙ state_taken (is_group group) _ h)

          module _ (wide : reports_width ≤ length reports) where
            pub both_unshown :
                length shown < all_shown_width → (r : ℕ) → r ≡ short_buffer → Left group state masks reports shown r group state reports shown
            unfolding both_returned
            both_unshown few r is =
                refused_all r (λ z. short_is_9 (sym is ∙ z))
                (is ∙ no_room all_shown_width shown few ∙ first_done _ _ (sym (room reports_width reports wide)) ∙ first_done _ _ (sym (room 16 masks enough)) ∙ first_done _ _ both_fine
                ∙ state_taken (is_bulletins state) _ q ∙ state_taken (is_group group) _ h)

            pub both_done :
                all_shown_width ≤ length shown → (l m r s : List ℕ) →
                l ≡ sets group 0 (encode_group k.round.group) → m ≡ sets state 0 (encode_bulletins k.bulletins) →
                r ≡ sets reports 0 (encode_reports k.round.reports) → s ≡ sets shown 0 (encode_all_shown k.shown) →
                Left group state masks reports shown done l m r s
            unfolding both_returned
            both_done long l m r s el em er es =
                let a = both_answer group state masks in (
                  room all_shown_width shown long ∙ first_done _ _ (sym (room reports_width reports wide)) ∙ first_done _ _ (sym (room 16 masks enough)) ∙ first_done _ _ both_fine
                      ∙ state_taken (is_bulletins state) _ q ∙ state_taken (is_group group) _ h,
                  front_made (encode_group a.round.group) group l (omega (arith, length_group a.round.group, group_long group h))
                      (el ∙ ap (λ (x : BulletinsRound). sets group 0 (encode_group x.round.group)) is),
                  front_made (encode_bulletins a.bulletins) state m (omega (arith, length_bulletins a.bulletins, bulletins_long state q))
                      (em ∙ ap (λ (x : BulletinsRound). sets state 0 (encode_bulletins x.bulletins)) is),
                  front_made (encode_reports a.round.reports) reports r (omega (arith, length_reports a.round.reports))
                      (er ∙ ap (λ (x : BulletinsRound). sets reports 0 (encode_reports x.round.reports)) is),
                  front_made (encode_all_shown a.shown) shown s (omega (arith, length_all_shown a.shown))
                      (es ∙ ap (λ (x : BulletinsRound). sets shown 0 (encode_all_shown x.shown)) is),
                )
