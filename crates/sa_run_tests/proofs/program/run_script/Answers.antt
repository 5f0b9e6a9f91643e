use Rattle.std.specs.Arc.{arc_value}
use Rattle.sa_run_tests.proofs.Running.{may_start, are_sound}
use Rattle.sa_run_tests.proofs.program.run_script.Goals as goal

pub run_sessions-requires-clause-start : goal.run_sessions-requires-clause-start
run_sessions-requires-clause-start g c κs within = may_start c.args.script c.requires _ _ c.into_vec-statements.ensures

pub run_sessions-requires-clause-sound : goal.run_sessions-requires-clause-sound
run_sessions-requires-clause-sound g c κs within =
    are_sound c.new-ready.result (record { tables = arc_value c.in_ok-tables.tables; texts = c.into_vec-statements.result.items; quantum = c.args.script.quantum; turns = c.args.script.turns })
    (let ready = c.new-ready.ensures in let copy = c.in_ok-clone.ensures in let first = c.in_ok-tables.ensures in cc)
