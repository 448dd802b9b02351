-- A link log as planners have it: one list of 16-bit masks, N a round, round after round (document
-- 02, A1).
use Rattle.std.specs.Prelude.{Bool, not, ◌&&◌, List, ℕ, ◌/◌, ◌%◌, ◌==◌, nat_le, nat_lt, length}
use Rattle.bodies.specs.Refusals.{done, bad_number, bad_link_log, refuse_number}
use Rattle.links.specs.Log.{bit, cut}
use Rattle.links.specs.Relay.{Links, of_log}

-- the most rounds that a log may have
abbrev pub most_rounds : ℕ
most_rounds = 2048

-- how many rounds a log of whole rounds has
abbrev pub rounds_of : ℕ → List ℕ → ℕ
rounds_of n log = length log / n

-- the links that a log is about
abbrev pub links_of : ℕ → List ℕ → Links
links_of n log = of_log n (cut n (rounds_of n log) log)

-- the refusals of N and of a log's number of masks: 1, 12
unfoldable pub log_refusal : ℕ → ℕ → ℕ
log_refusal n masks =
    refuse_number (not (nat_le 1 n && nat_le n 16)) bad_number
    (refuse_number (not (masks % n == 0)) bad_link_log
    (refuse_number (nat_lt most_rounds (masks / n)) bad_link_log done))

-- station p, with this mask, hears j: another station whose bit is set
unfoldable pub mask_hears : ℕ → ℕ → ℕ → Bool
mask_hears mask p j = not (p == j) && bit mask j
