-- Document 02, A12, as one claim about one list of issues, posts and rounds.
use Rattle.std.specs.Prelude.{ℕ, suc, ◌≤◌, ◌<◌, ◌⊎◌, ◌↔◌, ◌≡◌, slice_index_or, length}
use mathlib.Core.List.{List, [], ◌∷◌, Memᴰ}
use Rattle.bodies.specs.Refusals.{done, outside_limits}
use Rattle.links.specs.Relay.{Links, of_log}
use Rattle.links.specs.EndRule.{RelayBy}
use Rattle.station_spec.specs.declared.Setup.{Setup}
use Rattle.group_spec.specs.Calls.{group_fresh_refusal}
use Rattle.group_spec.specs.History.{history_of, no_round}
use Rattle.bulletins_spec.specs.declared.Notice.{Notice}
use Rattle.bulletins_spec.specs.Calls.{issue_call}
use Rattle.bulletins_spec.specs.History.{Entry, calls_of, Issued, History, run_of, no_bulletins_round, shown_in}

-- u is the first round by which a relay from a, after round t, has come to b
pub record FirstBy (L : Links) (a t b u : ℕ) : Type 0 where
  pub reached : RelayBy L a t b u
  pub first : (v : ℕ) → RelayBy L a t b v → u ≤ v

-- station p has to show b in round u: its issuer in the round of issue, another in the first round
-- by which a relay from the issuer has reached it after the round of issue
pub record Due (L : Links) (issues : List Issued) (p u : ℕ) (b : Notice) : Type 0 where
  pub after : ℕ
  pub accepted : Memᴰ (record { notice = b; after = after }) issues
  pub when : ((p ≡ b.issuer) × (u ≡ after)) ⊎ ((p ≡ b.issuer → ⊥) × FirstBy L b.issuer after p u)

-- station p shows b in round u: the report of that round says so, or the answer to an issue at p
-- after u rounds
pub data Shows (H : History) (p u : ℕ) (b : Notice) : Type 0 where
  reported : Memᴰ b (shown_in H.rounds p u) → Shows H p u b
  answered : Memᴰ (record { station = p; after = u; notice = b }) H.answers → Shows H p u b

-- by issuer, then tag; so no bulletin is there twice
abbrev pub Before : Notice → Notice → Type 0
Before a b = (a.issuer < b.issuer) ⊎ ((a.issuer ≡ b.issuer) × (a.tag < b.tag))

pub data Ascends : List Notice → Type 0 where
  none : Ascends []
  more : {a : Notice} {l : List Notice} → ((b : Notice) → Memᴰ b l → Before a b) → Ascends l → Ascends (a ∷ l)

-- each bulletin is issued once
pub data Once : List Issued → Type 0 where
  no_issue : Once []
  also : {x : Issued} {l : List Issued}
      → ((y : Issued) → Memᴰ y l → x.notice.issuer ≡ y.notice.issuer → x.notice.tag ≡ y.notice.tag → ⊥)
      → Once l → Once (x ∷ l)

pub record Claim (n : ℕ) (H : History) : Type 0 where
  -- a station shows a bulletin exactly when it is due
  pub shows :
      (p u : ℕ) → p < n → u ≤ length H.rounds → (b : Notice) →
      Shows H p u b ↔ Due (of_log n H.group.log) H.issues p u b
  -- so once: not in two rounds, nor with two events
  pub shows_once :
      (p u v : ℕ) → p < n → u ≤ length H.rounds → v ≤ length H.rounds →
      (b c : Notice) → b.issuer ≡ c.issuer → b.tag ≡ c.tag →
      Shows H p u b → Shows H p v c → (u ≡ v) × (b ≡ c)
  -- what one round shows comes by issuer, then tag
  pub ordered : (p u : ℕ) → p < n → u < length H.rounds → Ascends (shown_in H.rounds p (suc u))
  -- a tag is accepted once from an issuer, and its answer shows it once
  pub issued_once : Once H.issues
  pub answered_once : length H.answers ≡ length H.issues
  -- no list leaves a state that gives 2, and no round is refused
  pub issue_not_2 : (i tag event : ℕ) → (issue_call H.bulletins i tag event).refusal ≡ outside_limits → ⊥
  pub no_round_refused :
      (u : ℕ) → u < length H.rounds → (slice_index_or H.rounds u no_bulletins_round).round.refusal ≡ done
  -- the group's part of each round is what the group's own round gave
  pub as_many : length H.rounds ≡ length H.group.rounds
  pub group_part :
      (u : ℕ) → u < length H.rounds →
      (slice_index_or H.rounds u no_bulletins_round).round ≡ slice_index_or H.group.rounds u no_round

-- for every fresh group that is not refused and every list: the claim, and the group's history is
-- that of the list without its issues
abbrev pub BulletinsShown : Type 0
BulletinsShown =
    (setup : Setup) → group_fresh_refusal setup ≡ done → (entries : List Entry) →
    ((run_of setup entries).group ≡ history_of setup (calls_of entries)) × Claim setup.n (run_of setup entries)
