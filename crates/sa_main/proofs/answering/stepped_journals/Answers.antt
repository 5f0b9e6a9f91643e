use Rattle.std.proofs.lemmas.Result.{IfOk-weaker}
use Rattle.std.specs.Arc.{arc_value}
use Rattle.sa_main.proofs.AnswerLaws.{may_start, may_schedule, are_sound, can_tell, tells_stepped}
use Rattle.sa_main.proofs.answering.stepped_journals.Goals as goal

pub step_sessions-requires-clause-start : goal.step_sessions-requires-clause-start
step_sessions-requires-clause-start c = may_start c.args.script c.requires _ _ c.into_vec-statements.ensures

pub step_sessions-requires-clause-sound : goal.step_sessions-requires-clause-sound
step_sessions-requires-clause-sound c =
    are_sound c.new-ready.result (record { tables = arc_value c.in_ok-tables.tables; texts = c.into_vec-statements.result.items; quantum = c.args.script.quantum; turns = c.args.script.turns })
    (let ready = c.new-ready.ensures in let copy = c.in_ok-clone.ensures in let first = c.in_ok-tables.ensures in cc)

pub step_sessions-requires-clause-schedule : goal.step_sessions-requires-clause-schedule
step_sessions-requires-clause-schedule c =
    may_schedule c.args.script c.requires c.into_vec-statements.result.items c.as_slice.result.now c.into_vec-statements.ensures c.as_slice.ensures

pub render-requires : goal.render-requires
render-requires c =
    can_tell c.args.script c.new-ready.result (arc_value c.in_ok-tables.tables) c.into_vec-statements.result.items
    (let ready = c.new-ready.ensures in let copy = c.in_ok-clone.ensures in let first = c.in_ok-tables.ensures in let seen = c.tables.view_is in cc)
    (let first = c.in_ok-tables.ensures in let seen = c.tables.view_is in cc)
    c.into_vec-statements.ensures c.in_ok-journals.journals c.in_ok-journals.ensures.legal c.in_ok-names.names (let names = c.in_ok-names.ensures in let seen = c.tables.view_is in cc)

pub returns : goal.returns
returns c =
    IfOk-weaker c.render.result _ _
    (λ text told.
    tells_stepped c.args.script c.new-ready.result (arc_value c.in_ok-tables.tables) c.into_vec-statements.result.items
    (let ready = c.new-ready.ensures in let copy = c.in_ok-clone.ensures in let first = c.in_ok-tables.ensures in let seen = c.tables.view_is in cc)
    (let first = c.in_ok-tables.ensures in let seen = c.tables.view_is in cc)
    c.into_vec-statements.ensures c.in_ok-journals.journals c.in_ok-journals.ensures.legal
    c.as_slice.result.now c.as_slice.ensures c.in_ok-journals.ensures.in_schedule c.in_ok-journals.ensures.in_course c.in_ok-names.names text.items
    (let names = c.in_ok-names.ensures in let seen = c.tables.view_is in cc) told)
    c.render.ensures
