-- Each return is a case of the definition. A page that is not refused is answered over the log's
-- rounds.
use Rattle.std.proofs.Common.{refl, sym}
use Rattle.planning_spec.proofs.LinkLog.{accepted}
use Rattle.planning_spec.proofs.Questions.{asked, taken}
use Rattle.planning.proofs.QuestionAnswers.{page_answered}
use Rattle.planning.proofs.questions.answer.Goals as goal

pub nonzero_div-log : goal.nonzero_div-log
nonzero_div-log c = (accepted _ _ (taken _ _ _ (sym c.in_ok-judge.ensures)).0).some

pub reply_all-requires : goal.reply_all-requires
reply_all-requires c =
    let t = taken _ _ _ (sym c.in_ok-judge.ensures) in
    record { asked = asked _ _ t.1; accepted = t.0; whole = refl }

pub returns : goal.returns
returns c =
    page_answered _ _ _ _ (sym c.in_ok-judge.ensures) c.reply_all.ensures
