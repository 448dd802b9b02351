-- Bulletins as bytes: N, the tags of all places, their events, and the sets of sixteen stations.
-- Every field is kept whole, from N up too, so that decoding is the inverse. include/relay.h gives
-- the place of each field.
use Rattle.std.specs.Prelude.{ℕ, ◌+◌, ◌*◌, ◌/◌, ◌%◌, Bool, ◌&&◌, List, ◌++◌, ◌==◌, nat_lt, length}
use Rattle.lists.specs.Below.{tabulate}
use Rattle.frame_spec.specs.Words.{word_at, word_bytes}
use Rattle.station_bytes_spec.specs.Bytes.{word_width, as_byte, joined_below}
use Rattle.bulletins_spec.specs.declared.Bulletins.{Bulletins}
use Rattle.bulletins_spec.specs.State.{all_places, set_of, tag_at, event_at}

-- a set is two words, the lower first
abbrev pub set_width : ℕ
set_width = word_width * 2

unfoldable pub set_bytes : ℕ → List ℕ
set_bytes set = word_bytes (set % 4_294_967_296) ++ word_bytes (set / 4_294_967_296)

unfoldable pub set_at : List ℕ → ℕ → ℕ
set_at b at = word_at b at + 4_294_967_296 * word_at b (at + 4)

-- the bytes of a word for each place, and of a set for each station
abbrev pub words_width : ℕ
words_width = word_width * all_places

abbrev pub sets_width : ℕ
sets_width = set_width * 16

-- where the events stand, and the sets
abbrev pub events_place : ℕ
events_place = word_width + words_width

abbrev pub sets_place : ℕ
sets_place = events_place + words_width

abbrev pub bulletins_width : ℕ
bulletins_width = sets_place + sets_width

unfoldable pub encode_bulletins : Bulletins → List ℕ
encode_bulletins B =
    word_bytes (as_byte B.n)
    ++ joined_below all_places (λ s. word_bytes (tag_at B s))
    ++ joined_below all_places (λ s. word_bytes (event_at B s))
    ++ joined_below 16 (λ p. set_bytes (set_of B p))

unfoldable pub decode_bulletins : List ℕ → Bulletins
decode_bulletins b =
    record {
      n = word_at b 0;
      tags = tabulate all_places (λ s. word_at b (word_width + word_width * s));
      events = tabulate all_places (λ s. word_at b (events_place + word_width * s));
      held = tabulate 16 (λ p. set_at b (sets_place + set_width * p));
    }

-- these bytes are bulletins
unfoldable pub is_bulletins : List ℕ → Bool
is_bulletins b = length b == bulletins_width && nat_lt (word_at b 0) 256
