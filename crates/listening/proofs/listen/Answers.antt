-- `listening::listen` meets its contract: a station that has heard nothing hears the frames of its
-- mask.
use Rattle.std.proofs.Common.{arith}
use Rattle.listening.specs.Listening.{mask_heard}
use Rattle.listening.proofs.Begins.{begun-room, begun_last, listened}
use Rattle.listening.proofs.listen.Goals as goal

pub hear_mask-requires : goal.hear_mask-requires
hear_mask-requires c =
    let begun = c.begin-first.ensures.begins in
    record {
      room = begun-room begun _ c.requires.room;
      last = begun_last begun;
      frames = λ j l. c.requires.frames j (omega (arith, c.requires.listens.size));
      size = c.requires.listens.size;
      fine = c.begin-first.ensures.none;
    }

pub returns : goal.returns
returns c =
    let heard = c.hear_mask.ensures in
    listened c.begin-first.ensures.begins _ c.requires.room (mask_heard c.args.s.now c.args.bytes.now c.args.mask) _ _ _ _ _ heard.hears heard.room
