-- How long the encodings of what is shown are.
use mathlib.Core.List.{List, ◌++◌}
use mathlib.Core.Path.{◌≡◌, ap₂, ◌∙◌}
use Prim.Native.Nat.{◌+◌}
use lib.ListN.{get_or, length, length-append}
use Rattle.frame_spec.specs.Words.{word_bytes}
use Rattle.station_bytes_spec.specs.Bytes.{as_byte, joined_below}
use Rattle.station_bytes_spec.proofs.Bytes.{joined_long, length_word}
use Rattle.bulletins_spec.specs.declared.Notice.{Notice}
use Rattle.bulletins_spec.specs.declared.Shown.{Shown}
use Rattle.bulletins_spec.specs.Calls.{no_notice}
use Rattle.bulletin_bytes.specs.Shown.{notice_width, encode_notice, shown_width, encode_shown, absent_shown, all_shown_width, encode_all_shown}

pub length-notice : (x : Notice) → length (encode_notice x) ≡ notice_width
unfolding encode_notice
length-notice x =
    length-append (word_bytes x.issuer ++ word_bytes x.tag) (word_bytes x.event)
    ∙ ap₂ ◌+◌
    (length-append (word_bytes x.issuer) (word_bytes x.tag) ∙ ap₂ ◌+◌ (length_word x.issuer) (length_word x.tag))
    (length_word x.event)

pub length-shown : (x : Shown) → length (encode_shown x) ≡ shown_width
unfolding encode_shown
length-shown x =
    length-append (word_bytes (as_byte x.len)) (joined_below 64 (λ i. encode_notice (get_or x.notices i no_notice)))
    ∙ ap₂ ◌+◌ (length_word (as_byte x.len))
    (joined_long 64 notice_width (λ i. encode_notice (get_or x.notices i no_notice)) (λ k l. length-notice (get_or x.notices k no_notice)))

pub length_all_shown : (l : List Shown) → length (encode_all_shown l) ≡ all_shown_width
unfolding encode_all_shown
length_all_shown l = joined_long 16 shown_width (λ p. encode_shown (get_or l p absent_shown)) (λ k m. length-shown (get_or l k absent_shown))
