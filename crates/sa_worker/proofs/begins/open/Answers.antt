use Rattle.sa_desk.specs.program.Course.{prepared}
use Rattle.sa_worker.specs.inner.Fields.{answer_of}
use Rattle.sa_worker.proofs.Worked.{answer_prepared}
use Rattle.sa_worker.proofs.begins.open.Goals as goal

pub open_prepared-requires-clause-sound : goal.open_prepared-requires-clause-sound
open_prepared-requires-clause-sound g c =
    c.requires.sound.sound c.as_str.result.now (prepared c.in-Ok.prepared.text c.in-Ok.prepared.work) c.in-Ok.ensures

pub returns-in-Ok-clause-answer : goal.returns-in-Ok-clause-answer
returns-in-Ok-clause-answer g c =
    answer_prepared (g.P.Preparer.answers c.args.prepare.now) c.args.source c.as_str.result.now c.in-Ok.prepared (answer_of c.open_prepared.result.1)
    c.as_str.ensures c.in-Ok.ensures c.open_prepared.ensures.answer
