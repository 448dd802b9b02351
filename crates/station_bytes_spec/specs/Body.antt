-- A body is twelve bytes: kind, channel and two zeros, a byte each, then event and argument, four
-- bytes each with the lowest first, the argument in two's complement. A record in a table is as in
-- a frame, but its labels are whole: station, count, kind, channel, event, argument, and then the
-- labels.
use Rattle.std.specs.Prelude.{ℕ, ◌+◌, Bool, ◌&&◌, List, [], ◌∷◌, ◌++◌, ◌==◌}
use Rattle.bodies.specs.declared.Body.{Body}
use Rattle.bodies.specs.Body.{kind_of, event_of, argument_of, channel_of, body_of}
use Rattle.frame_spec.specs.Words.{word_at, word_bytes, signed, unsigned}
use Rattle.frame_spec.specs.declared.Record.{Record}
use Rattle.station_bytes_spec.specs.Bytes.{byte_at}

abbrev pub body_width : ℕ
body_width = 12

unfoldable pub encode_body : Body → List ℕ
encode_body body =
    (kind_of body ∷ channel_of body ∷ 0 ∷ 0 ∷ [])
    ++ word_bytes (event_of body)
    ++ word_bytes (unsigned (argument_of body))

-- the body of four numbers, the argument as a word
abbrev pub body_of_words : ℕ → ℕ → ℕ → ℕ → Body
body_of_words kind channel event word = body_of kind event (signed word) channel

-- they are just the numbers of that body
unfoldable pub words_right : ℕ → ℕ → ℕ → ℕ → Bool
words_right kind channel event word =
    let body = body_of_words kind channel event word in
    kind == kind_of body
    && channel == channel_of body
    && event == event_of body
    && word == unsigned (argument_of body)

unfoldable pub decode_body : List ℕ → ℕ → Body
decode_body b at = body_of_words (byte_at b at) (byte_at b (at + 1)) (word_at b (at + 4)) (word_at b (at + 8))

-- the bytes at a place are those of a body
unfoldable pub is_body : List ℕ → ℕ → Bool
is_body b at =
    byte_at b (at + 2) == 0
    && byte_at b (at + 3) == 0
    && words_right (byte_at b at) (byte_at b (at + 1)) (word_at b (at + 4)) (word_at b (at + 8))

abbrev pub record_width : ℕ
record_width = 16

unfoldable pub encode_record : Record → List ℕ
encode_record r =
    (r.station ∷ r.count ∷ kind_of r.body ∷ channel_of r.body ∷ [])
    ++ word_bytes (event_of r.body)
    ++ word_bytes (unsigned (argument_of r.body))
    ++ word_bytes r.labels

unfoldable pub decode_record : List ℕ → ℕ → Record
decode_record b at =
    record {
      station = byte_at b at;
      count = byte_at b (at + 1);
      body = body_of_words (byte_at b (at + 2)) (byte_at b (at + 3)) (word_at b (at + 4)) (word_at b (at + 8));
      labels = word_at b (at + 12);
    }

unfoldable pub is_record : List ℕ → ℕ → Bool
is_record b at = words_right (byte_at b (at + 2)) (byte_at b (at + 3)) (word_at b (at + 4)) (word_at b (at + 8))
