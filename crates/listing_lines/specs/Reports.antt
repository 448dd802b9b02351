-- Document 01, "The relay listing": what a round prints, station by station, in the order in which
-- a station does it: what it took (D), what it aired (A), what it ended (E), what it started (D
-- again, with itself as the source).
use Rattle.std.specs.Prelude.{ℕ, zero, suc, ◌+◌, ◌*◌, Bool, false, if◌then◌else◌, not, ◌&&◌, List}
use Rattle.std.specs.Prelude.{[], ◌++◌, slice_index_or, nat_lt}
use Rattle.bodies.specs.declared.Body.TheVariants.{Empty}
use Rattle.bodies.specs.declared.Body.{Body}
use Rattle.bodies.specs.Body.{is_empty, is_edit}
use Rattle.queues.specs.declared.Slot.{Slot}
use Rattle.station_spec.specs.declared.Taking.{Taking}
use Rattle.station_spec.specs.declared.TurnReport.{TurnReport}
use Rattle.queues.specs.Queue.{no_slot}
use Rattle.group_spec.specs.declared.Report.{Report}
use Rattle.group_spec.specs.Calls.{no_taking}
use Rattle.listing_lines.specs.Lines.{delivered, airing, ending, line_bytes, line_length}

-- the most bytes that a station can print of a round: a line for each of thirty bodies taken and
-- of sixteen aired, and one for a body ended and one for a body started
abbrev pub taken_room : ℕ
taken_room = 30 * line_length

abbrev pub aired_room : ℕ
aired_room = 16 * line_length

abbrev pub turn_room : ℕ
turn_room = 2 * line_length

abbrev pub report_room : ℕ
report_room = taken_room + aired_room + turn_room

-- the most bytes that a round can print: what sixteen stations can
abbrev pub round_room : ℕ
round_room = 16 * report_room

-- the text that f gives for each place below n, one after the other
unfoldable pub joined : ℕ → (ℕ → List ℕ) → List ℕ
joined zero f = []
joined (suc k) f = joined k f ++ f k

-- a line where it is wanted
abbrev pub line_if : Bool → ℕ → ℕ → ℕ → ℕ → Body → List ℕ
line_if wanted round letter station source body =
    if wanted then line_bytes round letter station source body else []

-- a D line for a body taken; they come in the order heard
abbrev pub taking_text : ℕ → ℕ → ℕ → List Taking → ℕ → List ℕ
taking_text round p len takings k =
    line_if (nat_lt k len) round delivered p (slice_index_or takings k no_taking).source
    (slice_index_or takings k no_taking).body

unfoldable pub taken_text : ℕ → ℕ → Report → List ℕ
taken_text round p r = joined 30 (taking_text round p r.takings_len r.takings)

-- an A line for an edit of an aired row of n bodies; they come by station. A Neutral in the row has
-- no line
abbrev pub edit_text : ℕ → ℕ → Bool → List Slot → ℕ → List ℕ
edit_text round p aired row k =
    line_if (aired && is_edit (slice_index_or row k no_slot).body) round airing p k
    (slice_index_or row k no_slot).body

unfoldable pub aired_text : ℕ → ℕ → ℕ → TurnReport → List ℕ
aired_text n round p t = joined n (edit_text round p t.aired t.row)

-- an E line for the ended body, be it Empty; then a D line for the started one where it is not
unfoldable pub turn_text : ℕ → ℕ → TurnReport → List ℕ
turn_text round p t =
    line_if t.ended round ending p p t.ended_body
    ++ line_if (not (is_empty t.started_body)) round delivered p p t.started_body

-- what one station reports of a round of n
unfoldable pub report_text : ℕ → ℕ → ℕ → Report → List ℕ
report_text n round p r = taken_text round p r ++ aired_text n round p r.turn ++ turn_text round p r.turn

-- what stands past the end of a round's reports
abbrev pub absent : Report
absent =
    record {
      takings_len = 0;
      takings = [];
      turn = record { aired = false; row = []; ended = false; ended_body = Empty; started_body = Empty };
    }

-- what n stations report of a round
unfoldable pub round_text : ℕ → ℕ → List Report → List ℕ
round_text n round reports = joined n (λ p. report_text n round p (slice_index_or reports p absent))
