-- The loop keeps that the masks up to place `at` are those of f, and that a round begins there.
use Rattle.std.proofs.Common.{◌≡◌, ℕ, ◌+◌, ◌/◌, ◌%◌, ◌<◌, ◌≤◌, List, sym, ap, ◌∙◌, arith}
use native.Mathlib.Nat.{div-add-mod'}
use lib.Bits.{bit_and, bit_or}
use lib.ListN.{get_or}
use Rattle.lists.specs.Below.{set_below}
use Rattle.planning.specs.MergedRounds.{fill_from}
use Rattle.planning.proofs.MergedRounds.{from_ext, from_set_below, round_fits, station_of, next_round}
use Rattle.planning.proofs.merge.unite_rounds.Invariants.{united}
use Rattle.planning.proofs.merge.unite_rounds.Goals as goal

-- a round that begins before the end ends before it
fits : (n at to : ℕ) → at % n ≡ 0 → to % n ≡ 0 → at < to → at + n ≤ to
fits n at to z e h = round_fits n (to / n) at to z (omega (arith, div-add-mod' to n)) h

module _ (first second others : List ℕ) (n from to at : ℕ) (z : at % n ≡ 0) (b : from ≤ at) (h : at + n ≤ to) where
  one_more : (f : ℕ → ℕ) (l : List ℕ) → united first second others n from to f →
      fill_from at n (λ p. bit_and (bit_or (get_or first (at + p) 0) (get_or second (at + p) 0)) (get_or others p 0)) (set_below at f l)
      ≡ set_below (at + n) f l
  one_more f l u =
      from_ext at n (λ p. bit_and (bit_or (get_or first (at + p) 0) (get_or second (at + p) 0)) (get_or others p 0)) (λ p. f (at + p)) (set_below at f l)
      (λ p q.
      ap (λ (k : ℕ). bit_and (bit_or (get_or first (at + p) 0) (get_or second (at + p) 0)) (get_or others k 0)) (sym (station_of n at p z q))
      ∙ u (at + p) (omega arith) (omega arith))
      ∙ from_set_below at n f l

pub loop-at-init : goal.loop-at-init
loop-at-init c = record { begun = omega arith; inside = c.requires.order; begins = c.requires.begins; written = λ f base u e. e }

pub unite_round-requires : goal.unite_round-requires
unite_round-requires c =
    let a = c.args in
    let l = c.loop-at in
    let f = fits a.n l.at a.to l.invariant.begins c.requires.ends c.loop-at-test.true in
    record {
      few = c.requires.few;
      in_first = omega (arith, f, c.requires.in_first);
      in_second = omega (arith, f, c.requires.in_second);
      in_merged = omega (arith, f, c.requires.in_merged, l.auto.merged);
    }

pub loop-at-smaller : goal.loop-at-smaller
loop-at-smaller c =
    let f = fits c.args.n c.loop-at.at c.args.to c.loop-at.invariant.begins c.requires.ends c.loop-at-test.true in
    omega (arith, f, c.requires.some)

pub loop-at-preserved : goal.loop-at-preserved
loop-at-preserved c =
    let a = c.args in
    let l = c.loop-at in
    let i = l.invariant in
    let h = fits a.n l.at a.to i.begins c.requires.ends c.loop-at-test.true in
    record {
      begun = omega (arith, i.begun);
      inside = h;
      begins = next_round a.n l.at i.begins;
      written =
          λ f base u e.
          c.unite_round.ensures
          ∙ ap (λ (b : List ℕ). fill_from l.at a.n (λ p. bit_and (bit_or (get_or a.first.now (l.at + p) 0) (get_or a.second.now (l.at + p) 0)) (get_or a.others.now p 0)) b) (i.written f base u e)
          ∙ one_more a.first.now a.second.now a.others.now a.n a.from a.to l.at i.begins i.begun h f base u;
    }

pub returns : goal.returns
returns c f base u e =
    let l = c.loop-at in
    let last : l.at ≡ c.args.to = omega (arith, c.loop-at-test.false, l.invariant.inside) in
    l.invariant.written f base u e ∙ ap (λ (k : ℕ). set_below k f base) last

-- behind the last round
pub returns-2 : goal.returns-2
returns-2 c f base u e =
    let a = c.args in
    let l = c.loop-at in
    let i = l.invariant in
    let h = fits a.n l.at a.to i.begins c.requires.ends c.loop-at-test.true in
    let last : l.at + a.n ≡ a.to = omega (arith, h) in
    c.unite_round.ensures
    ∙ ap (λ (b : List ℕ). fill_from l.at a.n (λ p. bit_and (bit_or (get_or a.first.now (l.at + p) 0) (get_or a.second.now (l.at + p) 0)) (get_or a.others.now p 0)) b) (i.written f base u e)
    ∙ one_more a.first.now a.second.now a.others.now a.n a.from a.to l.at i.begins i.begun h f base u
    ∙ ap (λ (k : ℕ). set_below k f base) last
