-- Document 01, "Turned down": what a call returns, and how refusals are judged in their order.
use Rattle.std.specs.Prelude.{ℕ, Bool, if◌then◌else◌, Result, Ok, Err, ⊤}
use Rattle.bodies.specs.declared.refusals.Refusal.{Refusal}
use Rattle.bodies.specs.declared.refusals.Refusal.TheVariants.{BadNumber, OutsideLimits, QueueFull}
use Rattle.bodies.specs.declared.refusals.Refusal.TheVariants.{NotAnEdit, BadShape, BadAddress}
use Rattle.bodies.specs.declared.refusals.Refusal.TheVariants.{BadRecord, LaneFull, ShortBuffer}
use Rattle.bodies.specs.declared.refusals.Refusal.TheVariants.{CountTooHigh, MalformedLine}
use Rattle.bodies.specs.declared.refusals.Refusal.TheVariants.{BadLinkLog, BadLimit, Conflict}
use Rattle.bodies.specs.declared.refusals.Refusal.TheVariants.{BadDesk, BadListing, BadEdition}
use Rattle.bodies.specs.declared.refusals.Refusal.TheVariants.{BadQuestion, AlreadyIssued}
use Rattle.bodies.specs.declared.refusals.Refusal.TheVariants.{BadContest}

abbrev pub done : ℕ
done = 0

-- there is no such N, or no such station among N
abbrev pub bad_number : ℕ
bad_number = 1

-- what the call was given as its station or group breaks a limit
abbrev pub outside_limits : ℕ
outside_limits = 2

-- no room: as many edits wait as may
abbrev pub queue_full : ℕ
queue_full = 3

-- what is posted is no edit, or breaks the limits of its kind
abbrev pub not_an_edit : ℕ
not_an_edit = 4

-- the frame's length or its bytes 2 and 3 are wrong
abbrev pub bad_shape : ℕ
bad_shape = 5

-- the frame is for another N, or from a sender that cannot be
abbrev pub bad_address : ℕ
bad_address = 6

-- the frame has a record that breaks its limits, or its stations are not in order, or the sender's
-- is missing
abbrev pub bad_record : ℕ
bad_record = 7

-- hearing would put a third body into a lane
abbrev pub lane_full : ℕ
lane_full = 8

-- the frame does not fit into the lent buffer
abbrev pub short_buffer : ℕ
short_buffer = 9

-- the own record's count is too high to be written
abbrev pub count_too_high : ℕ
count_too_high = 10

-- a line of a script does not have its form
abbrev pub malformed_line : ℕ
malformed_line = 11

-- a link log is not whole rounds, or has more rounds than may be (document 02, A1)
abbrev pub bad_link_log : ℕ
bad_link_log = 12

-- a limit of waiting edits is not 1 to 32 (document 02, A2)
abbrev pub bad_limit : ℕ
bad_limit = 13

-- a record of another station conflicts with the one held of it (document 02, A4)
abbrev pub conflict : ℕ
conflict = 14

-- there is no such desk: it is neither 0 nor 1 (document 02, A7)
abbrev pub bad_desk : ℕ
bad_desk = 15

-- a listing has a line that is not of the listing's form, or does not end with its last line
-- (document 02, A8)
abbrev pub bad_listing : ℕ
bad_listing = 16

-- an edition is neither 0 nor 1, or a posted edit's channel is none for edits of its station's
-- edition (document 02, A9)
abbrev pub bad_edition : ℕ
bad_edition = 17

-- a question names a station that is not among N, has a number below 1, is not whole, or is past
-- the 64th (document 02, A11)
abbrev pub bad_question : ℕ
bad_question = 18

-- the issuer has issued that tag, or four bulletins (document 02, A12)
abbrev pub already_issued : ℕ
already_issued = 19

-- a link contest has too many stations, sets or rounds, no set, or masks that are not whole sets
-- (document 02, A13)
abbrev pub bad_contest : ℕ
bad_contest = 20

-- the number that the list gives each refusal
abbrev pub number : Refusal → ℕ
number BadNumber = bad_number
number OutsideLimits = outside_limits
number QueueFull = queue_full
number NotAnEdit = not_an_edit
number BadShape = bad_shape
number BadAddress = bad_address
number BadRecord = bad_record
number LaneFull = lane_full
number ShortBuffer = short_buffer
number CountTooHigh = count_too_high
number MalformedLine = malformed_line
number BadLinkLog = bad_link_log
number BadLimit = bad_limit
number Conflict = conflict
number BadDesk = bad_desk
number BadListing = bad_listing
number BadEdition = bad_edition
number BadQuestion = bad_question
number AlreadyIssued = already_issued
number BadContest = bad_contest

-- the number of an answer: 0 where it is done
abbrev pub number_of : {A : Type 0} → Result A Refusal → ℕ
number_of (Ok _) = done
number_of (Err refusal) = number refusal

-- the first refusal that applies decides: where the test holds it is the answer, else what comes
-- after it
abbrev pub refuse : {A : Type 0} → Bool → Refusal → Result A Refusal → Result A Refusal
refuse test refusal rest = if test then Err refusal else rest

-- what comes after a test that is passed
abbrev pub then_ok : {A : Type 0} → Result ⊤ Refusal → A → Result A Refusal
then_ok (Ok _) x = Ok x
then_ok (Err refusal) x = Err refusal

-- the first refusal that applies decides, by its number: where the test holds its number is the
-- answer, else what comes after it
abbrev pub refuse_number : Bool → ℕ → ℕ → ℕ
refuse_number test number rest = if test then number else rest
