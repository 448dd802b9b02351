-- What is shown in a round, as bytes: of each of sixteen stations how many bulletins it shows, and
-- an entry for each place: issuer, tag and event.
use Rattle.std.specs.Prelude.{ℕ, ◌+◌, ◌*◌, List, [], ◌++◌, slice_index_or}
use Rattle.frame_spec.specs.Words.{word_bytes}
use Rattle.station_bytes_spec.specs.Bytes.{word_width, as_byte, joined_below}
use Rattle.bulletins_spec.specs.declared.Notice.{Notice}
use Rattle.bulletins_spec.specs.declared.Shown.{Shown}
use Rattle.bulletins_spec.specs.State.{all_places}
use Rattle.bulletins_spec.specs.Calls.{no_notice}

abbrev pub notice_width : ℕ
notice_width = word_width * 3

unfoldable pub encode_notice : Notice → List ℕ
encode_notice x = word_bytes x.issuer ++ word_bytes x.tag ++ word_bytes x.event

abbrev pub shown_width : ℕ
shown_width = word_width + notice_width * all_places

unfoldable pub encode_shown : Shown → List ℕ
encode_shown x =
    word_bytes (as_byte x.len) ++ joined_below all_places (λ i. encode_notice (slice_index_or x.notices i no_notice))

-- what is read past the end of a list of these
abbrev pub absent_shown : Shown
absent_shown = record { len = 0; notices = [] }

abbrev pub all_shown_width : ℕ
all_shown_width = shown_width * 16

unfoldable pub encode_all_shown : List Shown → List ℕ
encode_all_shown shown = joined_below 16 (λ p. encode_shown (slice_index_or shown p absent_shown))
