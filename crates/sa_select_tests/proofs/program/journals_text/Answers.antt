use Rattle.std.specs.Arc.{arc_value}
use Rattle.sa_select_tests.proofs.Running.{may_start, may_schedule, are_sound, can_tell}
use Rattle.sa_select_tests.proofs.program.journals_text.Goals as goal

pub step_sessions-requires-clause-start : goal.step_sessions-requires-clause-start
step_sessions-requires-clause-start c = may_start c.args.script c.requires _ _ c.into_vec-statements.ensures

pub step_sessions-requires-clause-sound : goal.step_sessions-requires-clause-sound
step_sessions-requires-clause-sound c =
    are_sound c.new-ready.result (record { tables = arc_value c.in_ok-tables.tables; texts = c.into_vec-statements.result.items; quantum = c.args.script.quantum; turns = c.args.script.turns })
    (let ready = c.new-ready.ensures in let copy = c.in_ok-clone.ensures in let first = c.in_ok-tables.ensures in cc)

pub step_sessions-requires-clause-schedule : goal.step_sessions-requires-clause-schedule
step_sessions-requires-clause-schedule c =
    may_schedule c.args.script c.requires c.into_vec-statements.result.items c.as_slice.result.now c.into_vec-statements.ensures c.as_slice.ensures

pub render-requires : goal.render-requires
render-requires c =
    can_tell c.new-ready.result (record { tables = arc_value c.in_ok-tables.tables; texts = c.into_vec-statements.result.items; quantum = c.args.script.quantum; turns = c.args.script.turns })
    (let ready = c.new-ready.ensures in let copy = c.in_ok-clone.ensures in let first = c.in_ok-tables.ensures in cc)
    c.in_ok-journals.journals c.in_ok-journals.ensures.legal c.in_ok-names.names
    (let names = c.in_ok-names.ensures in let first = c.in_ok-tables.ensures in let seen = c.tables.view_is in cc)
