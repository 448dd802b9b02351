-- The answers written are those of the page, of which there are 64 at most.
use Rattle.std.proofs.Common.{refl}
use Rattle.planning_spec.proofs.QuestionsInto.{into_few, into_done}
use Rattle.planning_calls.proofs.questions_into.Goals as goal

pub write_answers-requires-clause-few : goal.write_answers-requires-clause-few
write_answers-requires-clause-few c =
    let a = c.args in
    into_few a.n a.log.now a.page.now a.answers.now _ c.in-Ok.ensures refl

pub returns-clause-answers : goal.returns-clause-answers
returns-clause-answers c =
    let a = c.args in
    (into_done a.n a.log.now a.page.now a.answers.now _ c.in-Ok.ensures _ refl c.if-answers-count.false c.write_answers.ensures).1
