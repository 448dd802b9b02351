-- Document 01, "The relay listing": the bytes of one listing line, and of the last line.
use Rattle.std.specs.Prelude.{ℕ, ◌+◌, ◌≡◌, List, [], ◌∷◌, ◌++◌, take, drop, length}
use Rattle.bodies.specs.declared.Body.{Body}
use Rattle.bodies.specs.Body.{kind_of, event_of, argument_of}
use Rattle.columns.specs.Writing.{nat_columns, int_columns}

-- the letters D (taken), A (aired), E (ended) and X (turned down)
abbrev pub delivered : ℕ
delivered = 68

abbrev pub airing : ℕ
airing = 65

abbrev pub ending : ℕ
ending = 69

abbrev pub turned_down : ℕ
turned_down = 88

-- round in 6 columns, a space, the letter, station in 3, source in 3
unfoldable pub head_bytes : ℕ → ℕ → ℕ → ℕ → List ℕ
head_bytes round letter station source =
    nat_columns 6 round ++ (32 ∷ []) ++ (letter ∷ []) ++ nat_columns 3 station ++ nat_columns 3 source

-- kind in 2 columns, event in 9, argument in 9, and the line end
unfoldable pub body_bytes : Body → List ℕ
body_bytes body =
    nat_columns 2 (kind_of body) ++ nat_columns 9 (event_of body) ++ int_columns 9 (argument_of body) ++ (10 ∷ [])

-- a listing line
unfoldable pub line_bytes : ℕ → ℕ → ℕ → ℕ → Body → List ℕ
line_bytes round letter station source body = head_bytes round letter station source ++ body_bytes body

-- its bytes: those of the head, and those of the body with the line end
abbrev pub head_length : ℕ
head_length = 6 + 1 + 1 + 3 + 3

abbrev pub body_length : ℕ
body_length = 2 + 9 + 9 + 1

abbrev pub line_length : ℕ
line_length = head_length + body_length

-- the last line: E, N, D and the line end
unfoldable pub end_line : List ℕ
end_line = 69 ∷ 78 ∷ 68 ∷ 10 ∷ []

abbrev pub end_length : ℕ
end_length = 4

-- a text put into a buffer at a place; the other bytes are kept
unfoldable pub placed : List ℕ → ℕ → List ℕ → List ℕ
placed buffer at text = take at buffer ++ text ++ drop (at + length text) buffer

-- a call put a text into its buffer at a place, and returned the place behind the text
pub record Put (entry exit : List ℕ) (at end : ℕ) (text : List ℕ) : Type 0 where
  pub holds : exit ≡ placed entry at text
  pub behind : end ≡ at + length text
