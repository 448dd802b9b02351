use Rattle.std.proofs.Common.{◌≡◌, length, ap, ◌∙◌, arith}
use Rattle.std.proofs.lemmas.List.Edits.{sets}
use Rattle.bulletin_bytes.specs.Shown.{encode_shown, absent_shown, encode_all_shown}
use Rattle.bulletin_bytes.proofs.Parts.{joined_parts}
use Rattle.bulletin_bytes.proofs.put_all_shown.Goals as goal

pub returns : goal.returns
unfolding encode_all_shown
returns c =
    let long : length c.args.shown ≡ 16 = omega arith in
    c.put_all.ensures ∙ ap (sets c.args.bytes.now 0) (joined_parts encode_shown 16 c.args.shown absent_shown long)
