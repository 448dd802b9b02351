-- `station::frames::put_both` meets its contract: each frame is put into its room.
use Rattle.std.proofs.Common.{rules, ◌≡◌, ◌∙◌, ℕ, List, take, ap, arith}
use Rattle.frame_spec.specs.Calls.{buffer_with}
use Rattle.station_spec.specs.Calls.{frame_of}
use Rattle.station_spec.proofs.StationLimits.{inside_open}
use Rattle.station_spec.proofs.WriteSteps.{writable, frame_is}
use Rattle.station.proofs.OwnFrame.{own_fits}
use Rattle.station.proofs.Copied.{both_put}
use Rattle.station.proofs.frames.put_both.Goals as goal

pub write_table-requires : goal.write_table-requires
write_table-requires c =
    let w = writable c.args.s.now (inside_open c.args.s.now c.requires.inside) in
    search rules

pub returns : goal.returns
returns c =
    let s = c.args.s.now in
    let both = c.args.both.now in
    let own_is : c.write_table.new.buffer ≡ buffer_with (frame_of s) (take 260 both) =
    c.write_table.ensures.buffer ∙ ap (λ (f : List ℕ). buffer_with f (take 260 both)) (frame_is s) in
    rw c.copy_from_slice.ensures.after
    (both_put (frame_of s) c.args.frame.now c.write_table.new.buffer both _ c.requires.empty (own_fits s (inside_open s c.requires.inside)) c.requires.short own_is (omega arith))
