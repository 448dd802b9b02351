-- `listening::listen_to` meets its contract: a station that has heard nothing hears one frame.
use Rattle.listening.specs.Listening.{frame_heard}
use Rattle.listening.proofs.Begins.{begun-room, begun_last, listened}
use Rattle.listening.proofs.listen_to.Goals as goal

pub hear_frame-requires : goal.hear_frame-requires
hear_frame-requires c =
    let begun = c.begin-first.ensures.begins in
    record {
      room = begun-room begun _ c.requires.room;
      last = begun_last begun;
      frame = c.requires.frame;
    }

pub returns : goal.returns
returns c =
    let heard = c.hear_frame.ensures in
    listened c.begin-first.ensures.begins _ c.requires.room (frame_heard c.args.bytes.now c.args.start) _ _ _ _ _ heard.hears heard.room
