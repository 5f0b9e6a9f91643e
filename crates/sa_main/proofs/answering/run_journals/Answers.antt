use Rattle.std.proofs.lemmas.Result.{IfOk-weaker}
use Rattle.std.specs.Arc.{arc_value}
use Rattle.sa_main.proofs.AnswerLaws.{may_start, are_sound, can_tell, tells_run}
use Rattle.sa_main.proofs.answering.run_journals.Goals as goal

pub run_sessions-requires-clause-start : goal.run_sessions-requires-clause-start
run_sessions-requires-clause-start g c κs within = may_start c.args.script c.requires _ _ c.into_vec-statements.ensures

pub run_sessions-requires-clause-sound : goal.run_sessions-requires-clause-sound
run_sessions-requires-clause-sound g c κs within =
    are_sound c.new-ready.result (record { tables = arc_value c.in_ok-tables.tables; texts = c.into_vec-statements.result.items; quantum = c.args.script.quantum; turns = c.args.script.turns })
    (let ready = c.new-ready.ensures in let copy = c.in_ok-clone.ensures in let first = c.in_ok-tables.ensures in cc)

pub render-requires : goal.render-requires
render-requires g c =
    can_tell c.args.script c.new-ready.result (arc_value c.in_ok-tables.tables) c.into_vec-statements.result.items
    (let ready = c.new-ready.ensures in let copy = c.in_ok-clone.ensures in let first = c.in_ok-tables.ensures in let seen = c.tables.view_is in cc)
    (let first = c.in_ok-tables.ensures in let seen = c.tables.view_is in cc)
    c.into_vec-statements.ensures c.in_ok-journals.journals c.in_ok-journals.ensures.legal c.in_ok-names.names (let names = c.in_ok-names.ensures in let seen = c.tables.view_is in cc)

pub returns : goal.returns
returns g c =
    IfOk-weaker c.render.result _ _
    (λ text told.
    tells_run c.args.script c.new-ready.result (arc_value c.in_ok-tables.tables) c.into_vec-statements.result.items
    (let ready = c.new-ready.ensures in let copy = c.in_ok-clone.ensures in let first = c.in_ok-tables.ensures in let seen = c.tables.view_is in cc)
    (let first = c.in_ok-tables.ensures in let seen = c.tables.view_is in cc)
    c.into_vec-statements.ensures c.in_ok-journals.journals c.in_ok-journals.ensures.legal
    c.in_ok-names.names text.items
    (let names = c.in_ok-names.ensures in let seen = c.tables.view_is in cc) told)
    c.render.ensures
