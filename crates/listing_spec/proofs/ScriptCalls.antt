-- The session of a script and the history of its calls go together, line by line: as long as the
-- reading has not stopped they have the same group and the same number of rounds, and what a line
-- prints is what its call prints after that history. Where the reading stops there are no more
-- calls, and the session stays.
use Prim.Native.Nat.{ℕ, ◌+◌, ◌≤◌}
use mathlib.Core.Path.{◌≡◌, refl, sym, ap, ap₂, subst, ◌∙◌}
use mathlib.Core.Bool.{Bool, true, false, cond, not, ◌&&◌, ◌||◌}
use mathlib.Core.List.{List, [], ◌∷◌, ◌++◌, append-nil, append_assoc}
use native.Mathlib.Omega.{arith}
use lib.Dec.{ltb, eqb}
use lib.ListN.{length, length-append}
use borrow.Author.Tests.{lt-ltb}
use Rattle.bodies.specs.Refusals.{malformed_line}
use Rattle.station_spec.specs.declared.Station.{Station}
use Rattle.group_spec.specs.declared.Post as group
use Rattle.group_spec.specs.Calls.{group_fresh_call, group_post_call, round_call}
use Rattle.group_spec.specs.History.{Call, post, round, History, next, begun, continued}
use Rattle.group_spec.proofs.Setups.{accepted}
use Rattle.script.specs.declared.Command.{Command}
use Rattle.script.specs.declared.Command.TheVariants.{Size, Post, Round, Malformed}
use Rattle.script.specs.Line.{command_of, masks_of}
use Rattle.listing_lines.specs.Lines.{end_line}
use Rattle.listing_lines.specs.Reports.{round_text}
use Rattle.listing_spec.specs.declared.Session.{Session}
use Rattle.listing_spec.specs.Listing as listing
use Rattle.listing_spec.specs.Listing.{setup_of, post_of, last_round, refusal_text, malformed_text, halted, sized_by, posted_by, rounded_by, refused_text, obeyed, answered, after, printed, rest_text, Lines, rest, line, lines_of, listed, listing_of}
use Rattle.listing_spec.specs.Calls.{called, calls_in, stops_at, stops_in, size_said, size_in, lines_after, size_of, calls_of, session_in, call_text, calls_text, RunsCalls, ScriptsRun}
use Rattle.listing_spec.proofs.Stopped.{stopped_silent}
use Rattle.listing_spec.proofs.Commands.{Later, command_later, First, command_first}

-- the session is where the history is, and the reading has not stopped
pub record Stands (s : Session) (H : History) : Type 0 where
  pub running : s.stopped ≡ false
  pub group : s.group ≡ H.group
  pub rounds : s.rounds ≡ length H.rounds

-- what lines do after a history in a group of n: their calls, whether the reading stops in them,
-- their text, and the session after them
pub record Does (n : ℕ) (H : History) (calls : List Call) (stop : Bool) (text : List ℕ) (last : Session) : Type 0 where
  pub group : last.group ≡ (continued H calls).group
  pub rounds : last.rounds ≡ length (continued H calls).rounds
  pub prints : text ≡ calls_text n H calls ++ cond stop (refusal_text last.rounds 0 malformed_line) []

same_does :
    {n : ℕ} {H : History} {calls : List Call} {stop : Bool} {text text' : List ℕ} {last last' : Session} →
    text ≡ text' → last ≡ last' → Does n H calls stop text' last' → Does n H calls stop text last
same_does {n} {H} {calls} {stop} {text} {text'} {last} {last'} e f d =
    subst (λ (x : List ℕ). Does n H calls stop x last) (sym e) (subst (λ (t : Session). Does n H calls stop text' t) (sym f) d)

-- a line before the reading has stopped
running_text : (s : Session) (l : List ℕ) → s.stopped ≡ false → printed s l ≡ answered s (masks_of s.n l) (command_of s.n l)
unfolding printed
running_text s l e = go s.stopped _ e
  where
    go : (t : Bool) (x : List ℕ) → t ≡ false → cond t [] x ≡ x
    go t x e = rw e

running_after : (s : Session) (l : List ℕ) → s.stopped ≡ false → after s l ≡ obeyed s (masks_of s.n l) (command_of s.n l)
unfolding after
running_after s l e = go s.stopped s _ e
  where
    go : (t : Bool) (x y : Session) → t ≡ false → cond t x y ≡ y
    go t x y e = rw e

-- a session whose reading has stopped stays
stopped_stays : (s : Session) (ls : Lines) → s.stopped ≡ true → session_in s ls ≡ s
unfolding session_in after
stopped_stays s (rest l) e = refl
stopped_stays s (line l ls) e = ap (λ (x : Session). session_in x ls) (go s.stopped s _ e) ∙ stopped_stays s ls e
  where
    go : (t : Bool) (x y : Session) → t ≡ true → cond t x y ≡ x
    go t x y e = rw e

-- the reading stops at a line
halt_does :
    (s : Session) (H : History) (ls : Lines) → Stands s H →
    Does s.n H [] true (malformed_text s ++ listed (halted s) ls) (session_in (halted s) ls)
unfolding continued calls_text
halt_does s H ls c =
    let stays : session_in (halted s) ls ≡ halted s = stopped_stays (halted s) ls refl in
    record {
      group = ap (λ (x : Session). x.group) stays ∙ c.group;
      rounds = ap (λ (x : Session). x.rounds) stays ∙ c.rounds;
      prints =
          ap (λ (x : List ℕ). malformed_text s ++ x) (stopped_silent (halted s) ls refl)
          ∙ append-nil (malformed_text s)
          ∙ ap (λ (x : Session). refusal_text x.rounds 0 malformed_line) (sym stays);
    }

-- a call, and then what the lines after it do
module _ (n : ℕ) (H : History) (c : Call) (calls : List Call) (stop : Bool) (first text : List ℕ) (last : Session) where
  pub then_does : first ≡ call_text n H c → Does n (next H c) calls stop text last → Does n H (c ∷ calls) stop (first ++ text) last
  unfolding continued calls_text
  then_does e d =
      record {
        group = d.group;
        rounds = d.rounds;
        prints =
            ap₂ ◌++◌ e d.prints
            ∙ sym (append_assoc (call_text n H c) (calls_text n (next H c) calls) (cond stop (refusal_text last.rounds 0 malformed_line) []));
      }

module _ (s : Session) (H : History) (c : Stands s H) where
  post-stands : (x : group.Post) → Stands (posted_by s (group_post_call s.group x)) (next H (post x))
  unfolding posted_by next
  post-stands x =
      record { running = refl; group = ap (λ (g : List Station). (group_post_call g x).group) c.group; rounds = c.rounds }

  post_text : (x : group.Post) → refused_text s.n s.rounds x.station (group_post_call s.group x).refusal ≡ call_text s.n H (post x)
  unfolding call_text
  post_text x = (λ i. refused_text s.n (c.rounds i) x.station (group_post_call (c.group i) x).refusal)

  round-stands : (masks : List ℕ) → Stands (rounded_by s (round_call s.group masks)) (next H (round masks))
  unfolding rounded_by next
  round-stands masks =
      record {
        running = refl;
        group = ap (λ (g : List Station). (round_call g masks).group) c.group;
        rounds = ap (λ (k : ℕ). k + 1) c.rounds ∙ sym (length-append H.rounds (round_call H.group masks ∷ []));
      }

  round_text_lem :
      (masks : List ℕ) →
      round_text s.n (s.rounds + 1) (round_call s.group masks).reports ≡ call_text s.n H (round masks)
  unfolding call_text
  round_text_lem masks = (λ i. round_text s.n (c.rounds i + 1) (round_call (c.group i) masks).reports)

  -- a command, given what the lines after it do from any session and history that go together
  module _
      (ls : Lines)
      (ih : (t : Session) (J : History) → t.n ≡ s.n → Stands t J → Does t.n J (calls_in t.n t.rounds ls) (stops_in t.n t.rounds ls) (listed t ls) (session_in t ls))
    where
      command-does :
          (masks : List ℕ) (k : Command) → Later k →
          Does s.n H (called s.rounds masks k (calls_in s.n s.rounds ls) (calls_in s.n (s.rounds + 1) ls))
          (stops_at s.rounds k (stops_in s.n s.rounds ls) (stops_in s.n (s.rounds + 1) ls))
          (answered s masks k ++ listed (obeyed s masks k) ls) (session_in (obeyed s masks k) ls)
      unfolding called stops_at answered obeyed posted_by rounded_by
      command-does masks (Post station kind event argument) h =
          let x : group.Post = post_of station kind event argument in
          then_does s.n H (post x) _ _ _ _ _ (post_text x) (ih (posted_by s (group_post_call s.group x)) (next H (post x)) refl (post-stands x))
      command-does masks Round h = go (ltb s.rounds last_round)
        where
          go :
              (t : Bool) →
              Does s.n H (cond t (round masks ∷ calls_in s.n (s.rounds + 1) ls) [])
              (cond t (stops_in s.n (s.rounds + 1) ls) true)
              (cond t (round_text s.n (s.rounds + 1) (round_call s.group masks).reports) (malformed_text s)
              ++ listed (cond t (rounded_by s (round_call s.group masks)) (halted s)) ls)
              (session_in (cond t (rounded_by s (round_call s.group masks)) (halted s)) ls)
          go true =
              then_does s.n H (round masks) _ _ _ _ _ (round_text_lem masks)
              (ih (rounded_by s (round_call s.group masks)) (next H (round masks)) refl (round-stands masks))
          go false = halt_does s H ls c
      command-does masks Malformed h = halt_does s H ls c
      command-does masks (Size m) h = absurd h

-- the lines after the `N` line
pub lines_do :
    (ls : Lines) (s : Session) (H : History) → 1 ≤ s.n → Stands s H →
    Does s.n H (calls_in s.n s.rounds ls) (stops_in s.n s.rounds ls) (listed s ls) (session_in s ls)
unfolding calls_in stops_in listed session_in
lines_do (rest l) s H low c =
    unfold continued calls_text rest_text in
    (record { group = c.group; rounds = c.rounds; prints = go s.stopped (eqb (length l) 0) c.running })
  where
    go :
        (t u : Bool) → t ≡ false →
        cond (t || (ltb 0 s.n && u)) [] (malformed_text s) ≡ cond (not u) (malformed_text s) []
    go t true e = rw (e, lt-ltb 0 s.n low)
    go t false e = rw (e, lt-ltb 0 s.n low)
lines_do (line l ls) s H low c =
    same_does
    (λ i. running_text s l c.running i ++ listed (running_after s l c.running i) ls)
    (ap (λ (t : Session). session_in t ls) (running_after s l c.running))
    (command-does s H c ls (λ t J e d. lines_do ls t J (subst (λ (k : ℕ). 1 ≤ k) (sym e) low) d) (masks_of s.n l) (command_of s.n l)
    (command_later s.n l low))

-- the `N` line makes the fresh group
fresh_group : (n : ℕ) → 1 ≤ n → n ≤ 16 → (group_fresh_call (setup_of n)).group ≡ (begun (setup_of n)).group
unfolding group_fresh_call begun
fresh_group n low high = rw (accepted (setup_of n) (record { low = low; high = high; limited = refl; known = omega arith }))

sized_stands : (n : ℕ) → 1 ≤ n → n ≤ 16 → Stands (sized_by listing.session_begun n (group_fresh_call (setup_of n))) (begun (setup_of n))
unfolding sized_by listing.session_begun
sized_stands n low high = record { running = refl; group = fresh_group n low high; rounds = unfold begun in refl }

-- the first line, and all after it
module _ (l : List ℕ) (ls : Lines) where
  abbrev b : Session
  b = listing.session_begun

  begun_runs : b.stopped ≡ false
  unfolding listing.session_begun
  begun_runs = refl

  begun_size : b.n ≡ 0
  unfolding listing.session_begun
  begun_size = refl

  first_text : printed b l ≡ answered b (masks_of 0 l) (command_of 0 l)
  first_text = running_text b l begun_runs ∙ ap (λ (n : ℕ). answered b (masks_of n l) (command_of n l)) begun_size

  first_after : after b l ≡ obeyed b (masks_of 0 l) (command_of 0 l)
  first_after = running_after b l begun_runs ∙ ap (λ (n : ℕ). obeyed b (masks_of n l) (command_of n l)) begun_size

  first_does :
      (masks : List ℕ) (k : Command) → First k → 1 ≤ size_said k →
      Does (size_said k) (begun (setup_of (size_said k))) (calls_in (size_said k) 0 ls) (stops_in (size_said k) 0 ls)
      (answered b masks k ++ listed (obeyed b masks k) ls) (session_in (obeyed b masks k) ls)
  unfolding answered obeyed sized_by listing.session_begun
  first_does masks (Size n) h low = lines_do ls _ (begun (setup_of n)) low (sized_stands n h.0 h.1)
  first_does masks (Post station kind event argument) h low = absurd h
  first_does masks Round h low = absurd h
  first_does masks Malformed h low = absurd (omega arith)

  pub script_does :
      1 ≤ size_said (command_of 0 l) →
      let n = size_said (command_of 0 l) in
      Does n (begun (setup_of n)) (calls_in n 0 ls) (stops_in n 0 ls) (listed b (line l ls)) (session_in b (line l ls))
  unfolding listed session_in
  script_does low =
      same_does
      (λ i. first_text i ++ listed (first_after i) ls)
      (ap (λ (t : Session). session_in t ls) first_after)
      (first_does (masks_of 0 l) (command_of 0 l) (command_first l) low)

  -- without an `N` line the reading stops at once
  first_stops :
      (masks : List ℕ) (k : Command) → First k → size_said k ≡ 0 →
      answered b masks k ++ listed (obeyed b masks k) ls ≡ refusal_text 0 0 malformed_line
  unfolding answered obeyed listing.session_begun
  first_stops masks (Size n) h e = absurd (omega (arith, h.0))
  first_stops masks (Post station kind event argument) h e = absurd h
  first_stops masks Round h e = absurd h
  first_stops masks Malformed h e =
      ap (λ (x : List ℕ). malformed_text b ++ x) (stopped_silent (halted b) ls refl) ∙ append-nil (malformed_text b)

  pub script_stops : size_said (command_of 0 l) ≡ 0 → listed b (line l ls) ≡ refusal_text 0 0 malformed_line
  unfolding listed
  script_stops e =
      (λ i. first_text i ++ listed (first_after i) ls) ∙ first_stops (masks_of 0 l) (command_of 0 l) (command_first l) e

none_called : (rounds : ℕ) (masks : List ℕ) (k : Command) (more later : List Call) → First k → called rounds masks k more later ≡ []
unfolding called
none_called rounds masks (Size n) more later h = refl
none_called rounds masks (Post station kind event argument) more later h = absurd h
none_called rounds masks Round more later h = absurd h
none_called rounds masks Malformed more later h = refl

no_calls : (rounds : ℕ) (ls : Lines) → calls_in 0 rounds ls ≡ []
unfolding calls_in
no_calls rounds (rest l) = refl
no_calls rounds (line l ls) = none_called rounds (masks_of 0 l) (command_of 0 l) _ _ (command_first l)

-- a script by its lines
runs_in :
    (ls : Lines) → 1 ≤ size_in ls →
    Does (size_in ls) (begun (setup_of (size_in ls))) (calls_in (size_in ls) 0 (lines_after ls)) (stops_in (size_in ls) 0 (lines_after ls))
    (listed listing.session_begun ls) (session_in listing.session_begun ls)
runs_in (rest l) low = absurd (omega arith)
runs_in (line l ls) low = script_does l ls low

no_size_in : (ls : Lines) → size_in ls ≡ 0 → listed listing.session_begun ls ≡ refusal_text 0 0 malformed_line
unfolding listed rest_text listing.session_begun
no_size_in (rest l) e = refl
no_size_in (line l ls) e = script_stops l ls e

runs_calls : (script : List ℕ) → 1 ≤ size_of script → RunsCalls script
unfolding listing_of
runs_calls script low =
    let d = runs_in (lines_of script) low in
    record { group = d.group; rounds = d.rounds; lists = ap (λ (x : List ℕ). x ++ end_line) d.prints }

no_size : (script : List ℕ) → size_of script ≡ 0 → (calls_of script ≡ []) × (listing_of script ≡ refusal_text 0 0 malformed_line ++ end_line)
unfolding listing_of
no_size script e = (
  ap (λ (n : ℕ). calls_in n 0 (lines_after (lines_of script))) e ∙ no_calls 0 (lines_after (lines_of script)),
  ap (λ (x : List ℕ). x ++ end_line) (no_size_in (lines_of script) e),
)

pub scripts_run : ScriptsRun
scripts_run = record { runs_calls = runs_calls; no_size = no_size }
