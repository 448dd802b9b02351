-- What the calls on bulletins that lie as bytes return and write. Each is the call of document 02,
-- A12, on the decoded state: bytes that are none are refused with 2 as a state outside its limits
-- is, and a lent buffer that is too short is refused last.
use Rattle.std.specs.Prelude.{ℕ, not, List}
use Rattle.bodies.specs.Refusals.{done, outside_limits, refuse_number}
use Rattle.station_bytes_spec.specs.Group.{decode_group}
use Rattle.station_bytes_spec.specs.Reports.{reports_width}
use Rattle.bulletins_spec.specs.declared.IssueDone.{IssueDone}
use Rattle.bulletins_spec.specs.declared.BulletinsRound.{BulletinsRound}
use Rattle.bulletins_spec.specs.Calls.{bulletins_fresh_call, issue_call, bulletins_round_call}
use Rattle.bulletin_bytes.specs.Bulletins.{bulletins_width, decode_bulletins, is_bulletins}
use Rattle.bulletin_bytes.specs.Shown.{all_shown_width}
use Rattle.station_calls.specs.Station.{or_else, room_refusal}
use Rattle.group_calls.specs.Group.{group_refusal, sixteen_masks}

-- 2: the bytes are no bulletins
abbrev pub bulletins_refusal : List ℕ → ℕ
bulletins_refusal b = refuse_number (not (is_bulletins b)) outside_limits done

-- fresh: 1, 9
unfoldable pub bulletins_fresh_returned : ℕ → List ℕ → ℕ
bulletins_fresh_returned n state = or_else (bulletins_fresh_call n).refusal (room_refusal bulletins_width state)

-- issue: 2, 1, 4, 19
abbrev pub issue_answer : List ℕ → ℕ → ℕ → ℕ → IssueDone
issue_answer state issuer tag event = issue_call (decode_bulletins state) issuer tag event

unfoldable pub issue_returned : List ℕ → ℕ → ℕ → ℕ → ℕ
issue_returned state issuer tag event = or_else (bulletins_refusal state) (issue_answer state issuer tag event).refusal

-- round: 2, 10, 14 or 8, 9
abbrev pub both_answer : List ℕ → List ℕ → List ℕ → BulletinsRound
both_answer group state masks = bulletins_round_call (decode_group group) (decode_bulletins state) (sixteen_masks masks)

unfoldable pub both_returned : List ℕ → List ℕ → List ℕ → List ℕ → List ℕ → ℕ
both_returned group state masks reports shown =
    or_else (group_refusal group)
    (or_else (bulletins_refusal state)
    (or_else (both_answer group state masks).round.refusal
    (or_else (room_refusal 16 masks)
    (or_else (room_refusal reports_width reports) (room_refusal all_shown_width shown)))))
