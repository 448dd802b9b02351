-- All definitions that a computed listing goes through, named in one place: whoever says
-- `unfolding listing_runs` has them open.
use Rattle.bodies.specs.Body.{body_of}
use Rattle.columns.specs.Reading.{started, grown, next, read_from}
use Rattle.columns.specs.Writing.{lead, columns}
use Rattle.script.specs.Line.{field_of, size_line, post_shaped, post_line, is_mask, masks_inside, round_line, command_of, mask_at, masks_of}
use Rattle.listing_lines.specs.Lines.{head_bytes, body_bytes, line_bytes, end_line}
use Rattle.listing_lines.specs.Reports.{joined, taken_text, aired_text, turn_text, report_text, round_text}
use Rattle.group_spec.specs.Calls.{group_fresh_refusal, group_fresh_call}
use Rattle.group_spec.proofs.Computing.{group_runs}
use Rattle.listing_spec.specs.Listing.{session_begun, posted_body, sized_by, posted_by, rounded_by, obeyed, refused_text, answered, after, printed, rest_text, lines_of, listed, listing_of}

unfoldable pub listing_runs : Unit {0}
unfolding group_runs body_of started grown next read_from lead columns field_of size_line post_shaped post_line is_mask masks_inside round_line command_of mask_at masks_of head_bytes body_bytes line_bytes end_line joined taken_text aired_text turn_text report_text round_text group_fresh_refusal group_fresh_call session_begun posted_body sized_by posted_by rounded_by obeyed refused_text answered after printed rest_text lines_of listed listing_of
listing_runs = tt
