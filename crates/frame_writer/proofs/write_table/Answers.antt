-- `frame_writer::write_table` meets its contract. The loop's invariant: the head and the records at
-- the held places below k are written, and what stood past them is as it was.
use Rattle.std.proofs.Common.{◌≤◌, ◌*◌, ◌+◌, ap, length, arith, length-append, length-drop}
use Rattle.frame_writer.proofs.Table.{start, filled_none, at_same, filled_same, at_more, filled_more, count_room, short_answer, short_buffer_lem, done_answer, done_buffer}
use Rattle.frame_writer.proofs.write_table.Goals as goal

pub returns-then-buffer-len-clause-answer : goal.returns-then-buffer-len-clause-answer
returns-then-buffer-len-clause-answer c =
    let s = c.args in
    let h = c.held_count-count in
    short_answer s.edition s.n s.sender s.held.now s.table.now h.result h.ensures.count s.buffer.now (omega arith)

pub returns-then-buffer-len-clause-buffer : goal.returns-then-buffer-len-clause-buffer
returns-then-buffer-len-clause-buffer c =
    let s = c.args in
    let h = c.held_count-count in
    short_buffer_lem s.edition s.n s.sender s.held.now s.table.now h.result h.ensures.count s.buffer.now (omega arith)

pub loop-k-init : goal.loop-k-init
loop-k-init c =
    let s = c.args in
    record {
      place = start s.held.now;
      filled = filled_none s.edition s.n s.sender c.held_count-count.result s.held.now s.table.now s.buffer.now _ c.copy_from_slice.ensures.after;
    }

pub loop-k-preserved-then-not-held-k : goal.loop-k-preserved-then-not-held-k
loop-k-preserved-then-not-held-k c =
    let s = c.args in
    let l = c.loop-k in
    let out = c.if-not-held-k.true in
    let h = c.held_count-count.result in
    record {
      place = omega (arith, at_same s.edition s.n s.sender h s.held.now s.table.now _ l.buffer l.k l.invariant.filled out);
      filled = filled_same s.edition s.n s.sender h s.held.now s.table.now _ l.buffer l.k l.invariant.filled out;
    }

-- a held place has room in the frame
room : (c : goal.Else-not-held-k) → c.loop-k.at + 16 ≤ 4 + 16 * c.held_count-count.result
room c = omega (arith, c.held_count-count.ensures.count, count_room c.args.n c.args.held.now c.loop-k.k (omega arith) c.if-not-held-k.false)

pub overflow_add-at : goal.overflow_add-at
overflow_add-at c = omega (arith, room c)

pub slice_bounds-write_record-end : goal.slice_bounds-write_record-end
slice_bounds-write_record-end c =
    omega (arith, room c, simp (length-append, length-drop) at c.loop-k.auto.buffer, ap length c.copy_from_slice.ensures.after)

pub loop-k-preserved : goal.loop-k-preserved
loop-k-preserved c =
    let s = c.args in
    let l = c.loop-k in
    let h = c.held_count-count.result in
    let on = c.if-not-held-k.false in
    let w = c.write_record in
    record {
      place = omega (arith, at_more s.edition s.n s.sender h s.held.now s.table.now _ l.buffer l.k l.invariant.filled on);
      filled = filled_more s.edition s.n s.sender h s.held.now s.table.now _ l.buffer l.k l.invariant.filled l.at w.new.part l.invariant.place on w.ensures;
    }

pub returns-clause-answer : goal.returns-clause-answer
returns-clause-answer c =
    let s = c.args in
    let h = c.held_count-count in
    done_answer s.edition s.n s.sender s.held.now s.table.now h.result h.ensures.count s.buffer.now (omega arith)

pub returns-clause-buffer : goal.returns-clause-buffer
returns-clause-buffer c =
    let s = c.args in
    let h = c.held_count-count in
    let l = c.loop-k in
    done_buffer s.edition s.n s.sender s.held.now s.table.now h.result h.ensures.count s.buffer.now (omega arith) l.k l.buffer (omega arith) l.invariant.filled
