use Rattle.std.specs.Arc.{arc_value}
use Rattle.sa_run_tests.proofs.Running.{may_start, may_schedule, are_sound}
use Rattle.sa_run_tests.proofs.program.step_script.Goals as goal

pub step_sessions-requires-clause-start : goal.step_sessions-requires-clause-start
step_sessions-requires-clause-start c = may_start c.args.script c.requires _ _ c.into_vec-statements.ensures

pub step_sessions-requires-clause-sound : goal.step_sessions-requires-clause-sound
step_sessions-requires-clause-sound c =
    are_sound c.new-ready.result (record { tables = arc_value c.in_ok-tables.tables; texts = c.into_vec-statements.result.items; quantum = c.args.script.quantum; turns = c.args.script.turns })
    (let ready = c.new-ready.ensures in let copy = c.in_ok-clone.ensures in let first = c.in_ok-tables.ensures in cc)

pub step_sessions-requires-clause-schedule : goal.step_sessions-requires-clause-schedule
step_sessions-requires-clause-schedule c =
    may_schedule c.args.script c.requires c.into_vec-statements.result.items c.as_slice.result.now c.into_vec-statements.ensures c.as_slice.ensures
