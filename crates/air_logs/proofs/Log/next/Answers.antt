use Rattle.std.proofs.Common.{◌≡◌, ◌/◌, length, refl, sym, ◌∙◌, arith}
use Rattle.std.proofs.lemmas.List.{take_rest}
use Rattle.air_logs.proofs.Lines.{part_line, left_more, passed_log, kept_line, no_line}
use Rattle.air_logs.proofs.Log.next.Goals as goal

pub loop-k-init : goal.loop-k-init
loop-k-init c = record { station = refl; left = c.args.self.now.form; log = refl }

pub is_kept-requires-clause-line : goal.is_kept-requires-clause-line
is_kept-requires-clause-line c =
    part_line c.args.self.now.listing.now c.loop-k.k c.loop-k-test.true c.loop-k.invariant.left

pub is_kept-requires-clause-station : goal.is_kept-requires-clause-station
is_kept-requires-clause-station c = c.args.self.now.numbered

pub invariant_of-self : goal.invariant_of-self
invariant_of-self c =
    record {
      form = rw take_rest (left_more c.args.self.now.listing.now c.loop-k.k c.loop-k-test.true c.loop-k.invariant.left);
      numbered = c.loop-k.self.numbered;
    }

pub returns-then-is_kept-clause-line : goal.returns-then-is_kept-clause-line
returns-then-is_kept-clause-line c =
    let l = c.loop-k in
    let self = c.args.self.now in
    kept_line self.listing.now l.k c.loop-k-test.true l.invariant.left self.station l.invariant.log
    (sym c.is_kept.ensures ∙ c.if-is_kept.true)

pub loop-k-preserved : goal.loop-k-preserved
loop-k-preserved c =
    let l = c.loop-k in
    let self = c.args.self.now in
    let passed =
    passed_log self.listing.now l.k c.loop-k-test.true l.invariant.left self.station (sym c.is_kept.ensures ∙ c.if-is_kept.false) in
    record {
      station = l.invariant.station;
      left = left_more self.listing.now l.k c.loop-k-test.true l.invariant.left;
      log = l.invariant.log ∙ passed;
    }

pub returns-clause-none : goal.returns-clause-none
returns-clause-none c =
    let l = c.loop-k in
    let self = c.args.self.now in
    let all : l.k ≡ length self.listing.now / 35 = omega arith in
    l.invariant.log ∙ no_line self.listing.now l.k self.station all l.invariant.left
