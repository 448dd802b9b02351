-- The listing of a whole script has the listing's form, and of station p the aired list of p is
-- kept. The listing is what the script's calls print, and then a refusal where the reading stops;
-- the calls make at most 999,999 rounds.
use Prim.Native.Nat.{ℕ, ◌+◌, ◌<◌, ◌≤◌}
use mathlib.Core.Path.{◌≡◌, refl, sym, ap, ◌∙◌}
use mathlib.Core.Bool.{Bool, true, false, cond}
use mathlib.Core.List.{List, [], ◌∷◌, ◌++◌, append-nil, map}
use native.Mathlib.Omega.{arith}
use native.Mathlib.Decide.{dec_le}
use lib.Dec.{ltb}
use lib.ListN.{length}
use borrow.Author.Tests.{lt-ltb, le-ltb, ltb-true}
use Rattle.bodies.specs.Refusals.{malformed_line}
use Rattle.station_spec.specs.declared.Taking.{Taking}
use Rattle.group_spec.specs.declared.RoundDone.{RoundDone}
use Rattle.group_spec.specs.History.{Call, round, History, begun, collect, history_of, report_in, aired_list}
use Rattle.group_spec.proofs.Members.{Members, fresh_members}
use Rattle.script.specs.declared.Command.{Command}
use Rattle.script.specs.declared.Command.TheVariants.{Size, Post, Round, Malformed}
use Rattle.script.specs.Line.{command_of, masks_of}
use Rattle.listing_lines.specs.Lines.{end_line}
use Rattle.listing_spec.specs.Listing.{setup_of, last_round, refusal_text, Lines, rest, line, lines_of, listing_of}
use Rattle.listing_spec.specs.Calls.{called, calls_in, size_said, size_in, lines_after, size_of, calls_of, stops, session_of, calls_text, RunsCalls}
use Rattle.listing_spec.proofs.Commands.{First, command_first}
use Rattle.listing_spec.proofs.ScriptCalls.{scripts_run}
use Rattle.air_logs_spec.specs.Form.{is_listing}
use Rattle.air_logs_spec.specs.Logs.{log_of}
use Rattle.air_logs_spec.proofs.Prints.{Prints, prints_none, prints_as, prints_both, listing_form, listing_log}
use Rattle.air_logs_spec.proofs.RoundLog.{logged, aired_in}
use Rattle.air_logs_spec.proofs.CallsLog.{logged_list, rounds_of, refusal_prints, Logs, calls_log}

-- N of a script is at most 16
said_most : (k : Command) → First k → size_said k ≤ 16
said_most (Size n) h = h.1
said_most (Post station kind event argument) h = absurd h
said_most Round h = absurd h
said_most Malformed h = omega arith

size_in_most : (ls : Lines) → size_in ls ≤ 16
size_in_most (rest l) = omega arith
size_in_most (line l ls) = said_most (command_of 0 l) (command_first l)

-- a script's calls make no round past the last
called_few :
    (r : ℕ) (masks : List ℕ) (k : Command) (more later : List Call) → r ≤ last_round → r + rounds_of more ≤ last_round →
    (r + 1 ≤ last_round → r + 1 + rounds_of later ≤ last_round) → r + rounds_of (called r masks k more later) ≤ last_round
unfolding called rounds_of
called_few r masks (Size n) more later h a b = omega arith
called_few r masks (Post station kind event argument) more later h a b = a
called_few r masks Round more later h a b = go (ltb r last_round) refl
  where
    go : (t : Bool) → ltb r last_round ≡ t → r + rounds_of (cond t (round masks ∷ later) []) ≤ last_round
    go true e = let s : r < last_round = ltb-true r last_round e in omega (arith, b (omega arith))
    go false e = omega arith
called_few r masks Malformed more later h a b = omega arith

calls_few : (n : ℕ) (ls : Lines) (r : ℕ) → r ≤ last_round → r + rounds_of (calls_in n r ls) ≤ last_round
unfolding calls_in
calls_few n (rest l) r h = unfold rounds_of in (omega arith)
calls_few n (line l ls) r h =
    called_few r (masks_of n l) (command_of n l) (calls_in n r ls) (calls_in n (r + 1) ls) h (calls_few n ls r h) (λ g. calls_few n ls (r + 1) g)

-- the list that is kept is the aired list
logged_below : (n : ℕ) (H : History) (p : ℕ) → p < n → logged_list n H p ≡ aired_list n H p
unfolding logged_list aired_list
logged_below n H p l = ap (λ (t : Bool). collect (λ r. cond t (aired_in n (report_in r p)) []) H.rounds) (lt-ltb p n l)

collect_none : (rs : List RoundDone) → collect {A = Taking} (λ r. []) rs ≡ []
unfolding collect
collect_none [] = refl
collect_none (r ∷ rs) = collect_none rs

logged_above : (n : ℕ) (H : History) (p : ℕ) → n ≤ p → logged_list n H p ≡ []
unfolding logged_list
logged_above n H p l =
    ap (λ (t : Bool). collect (λ r. cond t (aired_in n (report_in r p)) []) H.rounds) (le-ltb p n l) ∙ collect_none H.rounds

module _ (script : List ℕ) where
  abbrev pub size : ℕ
  size = size_of script

  abbrev pub told : History
  told = history_of (setup_of size) (calls_of script)

  pub size_most : size ≤ 16
  size_most = size_in_most (lines_of script)

  -- the listing without its last line
  record Text (p : ℕ) : Type 0 where
    text : List ℕ
    listing : listing_of script ≡ text ++ end_line
    prints : Prints p text (map logged (logged_list size told p))

  begun-members : 1 ≤ size → Members size (begun (setup_of size)).group
  unfolding begun
  begun-members low = fresh_members (setup_of size) size_most low refl (omega arith)

  begun_rounds : length (begun (setup_of size)).rounds ≡ 0
  unfolding begun
  begun_rounds = refl

  begun_list : (p : ℕ) → logged_list size (begun (setup_of size)) p ≡ []
  unfolding begun logged_list collect
  begun_list p = refl

  few : length (begun (setup_of size)).rounds + rounds_of (calls_of script) ≤ 999_999
  few = omega (arith, begun_rounds, calls_few size (lines_after (lines_of script)) 0 (omega arith))

  stop_prints : (p u : ℕ) (t : Bool) → u ≤ 999_999 → Prints p (cond t (refusal_text u 0 malformed_line) []) []
  stop_prints p u true h = refusal_prints p u 0 malformed_line h (omega arith) (omega arith)
  stop_prints p u false h = prints_none

  sized_text : (p : ℕ) → 1 ≤ size → Text p
  sized_text p low =
      let runs : RunsCalls script = scripts_run.runs_calls script low in
      let logs : Logs p size (begun (setup_of size)) (calls_of script) =
      calls_log p size (calls_of script) (begun (setup_of size)) (begun-members low) few in
      let all : logged_list size told p ≡ logs.more = logs.list ∙ ap (λ (l : List Taking). l ++ logs.more) (begun_list p) in
      record {
        text =
            calls_text size (begun (setup_of size)) (calls_of script)
            ++ cond (stops script) (refusal_text (session_of script).rounds 0 malformed_line) [];
        listing = runs.lists;
        prints =
            prints_as (append-nil (map logged logs.more) ∙ ap (map logged) (sym all))
            (prints_both logs.prints
            (stop_prints p (session_of script).rounds (stops script) (omega (arith, few, runs.rounds, logs.rounds))));
      }

  unsized_text : (p : ℕ) → size ≡ 0 → Text p
  unsized_text p none =
      record {
        text = refusal_text 0 0 malformed_line;
        listing = (scripts_run.no_size script none).1;
        prints =
            prints_as (ap (map logged) (sym (logged_above size told p (omega arith))))
            (refusal_prints p 0 0 malformed_line (omega arith) (omega arith) (omega arith));
      }

  text_of : (p : ℕ) → Text p
  text_of p =
      elim (dec_le 1 size) [
        | yes low ↦ sized_text p low
        | no none ↦ unsized_text p (omega arith)
      ]

  -- the listing of a script has the listing's form
  pub script_form : is_listing (listing_of script) ≡ true
  script_form = let t = text_of 0 in ap is_listing t.listing ∙ listing_form 0 t.text _ t.prints

  -- the A lines of station p are the aired list of p; a station that is not below N has none
  pub script_log : (p : ℕ) → p < size → log_of p (listing_of script) ≡ map logged (aired_list size told p)
  script_log p l =
      let t = text_of p in
      ap (log_of p) t.listing ∙ listing_log p t.text _ t.prints ∙ ap (map logged) (logged_below size told p l)

  pub script_above : (p : ℕ) → size ≤ p → log_of p (listing_of script) ≡ []
  script_above p l =
      let t = text_of p in
      ap (log_of p) t.listing ∙ listing_log p t.text _ t.prints ∙ ap (map logged) (logged_above size told p l)
