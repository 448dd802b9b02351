-- A frame of one record byte by byte, in any edition and channel: where each field stands, which
-- byte of a field comes first, and how a negative number and the labels are written.
use mathlib.Core.List.{List, [], ◌∷◌}
use mathlib.Core.Path.{◌≡◌, refl}
use Prim.Native.Nat.{ℕ}
use lib.IntN.{negsuc}
use lib.ListN.{drop}
use Rattle.bodies.specs.declared.Body.TheVariants.{Shift}
use Rattle.bodies.specs.Body.{body_of}
use Rattle.labels.specs.Packing.{label_in, packed, labels_over}
use Rattle.frame_spec.specs.declared.Record.{Record}
use Rattle.frame_spec.specs.Words.{word_at, word_bytes, signed, unsigned}
use Rattle.frame_spec.specs.Record.{record_label, record_from, record_bytes}
use Rattle.frame_spec.specs.Frame.{records_bytes, frame_bytes}

-- station 1 among 2, count 2: event 258 is shifted by -3, and the labels are 1 and 2
abbrev shown : ℕ → Record
shown channel = record { station = 1; count = 2; body = Shift channel 258 (negsuc 2); labels = packed (1 ∷ 2 ∷ []) }

abbrev bytes : ℕ → ℕ → List ℕ
bytes edition channel =
    2 ∷ 1 ∷ 1 ∷ edition ∷ 1 ∷ 2 ∷ 4 ∷ channel ∷ 2 ∷ 1 ∷ 0 ∷ 0 ∷ 253 ∷ 255 ∷ 255 ∷ 255 ∷ 9 ∷ 0 ∷ 0 ∷ 0 ∷ []

pub frame_bytes_lem : (edition channel : ℕ) → frame_bytes edition 2 1 (shown channel ∷ []) ≡ bytes edition channel
unfolding frame_bytes records_bytes record_bytes record_label word_bytes unsigned packed label_in labels_over
frame_bytes_lem edition channel = refl

pub record_read : (edition channel : ℕ) → record_from (drop 4 (bytes edition channel)) ≡ shown channel
unfolding record_from word_at signed packed body_of
record_read edition channel = refl
