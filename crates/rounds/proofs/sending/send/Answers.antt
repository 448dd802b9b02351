-- `rounds::sending::send` meets its contract, refusal by refusal; then the table is written.
use Rattle.std.proofs.Common.{◌+◌, ◌*◌, ◌-◌, sym, ◌∙◌, arith}
use Rattle.station_spec.specs.State.{cell_of}
use Rattle.rounds.proofs.SendSteps.{low, high, below, may_write, send_outside, send_count, send_frame}
use Rattle.rounds.proofs.sending.send.Goals as goal

pub returns-then-not-member_inside : goal.returns-then-not-member_inside
returns-then-not-member_inside c =
    let sent = send_outside _ _ _ _ c.args.bytes.now (sym c.member_inside.ensures ∙ c.if-not-member_inside.true) in
    record { refusal = sent.refusal; bytes = sent.bytes }

pub offset_bounds-s-k : goal.offset_bounds-s-k
offset_bounds-s-k c = record { fits = omega (arith, below _ _ _ _ (sym c.member_inside.ensures ∙ c.if-not-member_inside.false)) }

pub bounds-s-k : goal.bounds-s-k
bounds-s-k c = below _ _ _ _ (sym c.member_inside.ensures ∙ c.if-not-member_inside.false)

pub count_fits-requires : goal.count_fits-requires
count_fits-requires c =
    let member = sym c.member_inside.ensures ∙ c.if-not-member_inside.false in
    record { some = low _ _ _ _ member; few = high _ _ _ _ member }

pub returns-then-not-count_fits : goal.returns-then-not-count_fits
unfolding cell_of
returns-then-not-count_fits c =
    let sent = send_count _ _ _ _ c.args.bytes.now (sym c.member_inside.ensures ∙ c.if-not-member_inside.false) (sym c.count_fits.ensures ∙ c.if-not-count_fits.true) in
    record { refusal = sent.refusal; bytes = sent.bytes }

pub overflow_mul-at : goal.overflow_mul-at
overflow_mul-at c = omega (arith, below _ _ _ _ (sym c.member_inside.ensures ∙ c.if-not-member_inside.false))

pub overflow_add-at : goal.overflow_add-at
overflow_add-at c = omega (arith, below _ _ _ _ (sym c.member_inside.ensures ∙ c.if-not-member_inside.false))

pub slice_bounds-write_table-end : goal.slice_bounds-write_table-end
slice_bounds-write_table-end c =
    omega (arith, below _ _ _ _ (sym c.member_inside.ensures ∙ c.if-not-member_inside.false), c.requires)

pub write_table-length-requires : goal.write_table-length-requires
write_table-length-requires c =
    let may = may_write _ _ _ _ (sym c.member_inside.ensures ∙ c.if-not-member_inside.false) in
    record { few = may.0; sender = may.1; edition = may.2 }

pub returns : goal.returns
unfolding cell_of
returns c =
    let a = c.args in
    let t = c.write_table-length in
    let sent =
    send_frame a.edition a.n a.k a.s.now a.bytes.now (sym c.member_inside.ensures ∙ c.if-not-member_inside.false) (sym c.count_fits.ensures ∙ c.if-not-count_fits.false)
    (260 * a.k + 260 - 260 * a.k) (omega arith) t.new.buffer t.ensures.buffer in
    record { refusal = sent.refusal; bytes = sent.bytes }
