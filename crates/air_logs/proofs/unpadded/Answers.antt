use Rattle.std.proofs.Common.{rules, tests}
use Rattle.std.proofs.lemmas.List.{take_rest}
use Rattle.std.proofs.lemmas.Iterator.{YieldsList-from_slice}
use Rattle.std.proofs.lemmas.Iterator.Search.{position_from_yields_List}
use Rattle.air_logs.proofs.Bytes.{is_no_blank, blanks_are, unpadded}
use Rattle.air_logs.proofs.unpadded.Goals as goal

pub returns : goal.returns
returns c =
    let s = c.args.s.now in
    let place =
    position_from_yields_List is_no_blank _ _ c.position.result c.position.ensures.ran (YieldsList-from_slice s cc)
    (λ x b q k. search (rules, tests)) in
    rw take_rest (unpadded s _ (blanks_are s _ _ place c.unwrap_or-blanks.ensures))
