use Rattle.std.proofs.Common.{rules, ℕ, ◌<◌, ◌≤◌, All, IsTrue, length, map, drop, slice_index_or, sym, ap, subst, ◌∙◌, arith}
use Rattle.std.specs.Arc.{arc_value}
use Rattle.sa_desk.specs.Legal.{Sessions}
use Rattle.sa_step.specs.Starts.{desks_of}
use Rattle.sa_run.specs.declared.member.Member.{Member}
use Rattle.sa_run.specs.inner.Members.{MayRun, HasRun}
use Rattle.sa_run.proofs.Begins.{founded_count}
use Rattle.sa_run.proofs.Ended.{ended_are_all}
use Rattle.sa_run.proofs.Legal.{histories_are_legal}
use Rattle.sa_run.proofs.Running.{written, members_may, sessions_are, passes_ended}
use Rattle.sa_run.proofs.run.run_sessions.Goals as goal

pub new-requires-2-clause-least : goal.new-requires-2-clause-least
new-requires-2-clause-least g c =
    let script : Sessions = record { tables = arc_value c.args.tables; texts = c.args.statements.items; quantum = c.args.quantum; turns = c.args.turns } in
    let some : 1 ≤ length c.args.statements.items = search rules in
    let founded = c.in_ok-desks.ensures.desks ∙ ap (λ texts. desks_of texts c.args.quantum c.args.turns) c.deref.ensures.value in
    let count = founded_count script c.in_ok-desks.desks.items founded in
    omega (arith, some, count)

pub new_members-requires-clause-founded : goal.new_members-requires-clause-founded
new_members-requires-clause-founded g c =
    let script : Sessions = record { tables = arc_value c.args.tables; texts = c.args.statements.items; quantum = c.args.quantum; turns = c.args.turns } in
    let founded = c.in_ok-board.ensures.board ∙ c.in_ok-desks.ensures.desks ∙ ap (λ texts. desks_of texts c.args.quantum c.args.turns) c.deref.ensures.value in
    founded_count script c.in_ok-board.board.founded founded

pub run_members-requires-clause-may : goal.run_members-requires-clause-may
run_members-requires-clause-may g c κs within =
    let gives = g.P.Preparer.answers c.args.prepare.now in
    let script : Sessions = record { tables = arc_value c.args.tables; texts = c.args.statements.items; quantum = c.args.quantum; turns = c.args.turns } in
    let board = c.in_ok-board.board in
    let founded = c.in_ok-board.ensures.board ∙ c.in_ok-desks.ensures.desks ∙ ap (λ texts. desks_of texts c.args.quantum c.args.turns) c.deref.ensures.value in
    subst (λ (script : Sessions). All (MayRun gives script board) c.deref_mut.result.now) (sym c.new-script.ensures)
    (members_may gives script board founded c.requires.start c.requires.sound c.in_ok-board.passes.items c.in_ok-board.ensures.passes c.in_ok-board.ensures.first
    c.deref_mut.result.now (c.deref_mut.ensures.value ∙ c.in_ok-members.ensures))

pub finish-requires : goal.finish-requires
finish-requires g c =
    let gives = g.P.Preparer.answers c.args.prepare.now in
    let script : Sessions = record { tables = arc_value c.args.tables; texts = c.args.statements.items; quantum = c.args.quantum; turns = c.args.turns } in
    let board = c.in_ok-board.board in
    let founded = c.in_ok-board.ensures.board ∙ c.in_ok-desks.ensures.desks ∙ ap (λ texts. desks_of texts c.args.quantum c.args.turns) c.deref.ensures.value in
    let before = c.deref_mut.result.now in
    let after = c.run_members.new.members in
    let are = c.deref_mut.ensures.value ∙ c.in_ok-members.ensures in
    let same = c.run_members.ensures.same in
    let each : (place : ℕ) (none : Member) → place < length before → HasRun gives script board (slice_index_or before place none) (slice_index_or after place none) =
    λ place none below. subst (λ (script : Sessions). HasRun gives script board (slice_index_or before place none) (slice_index_or after place none)) c.new-script.ensures (c.run_members.ensures.each place none below) in
    let size = ap length c.deref_mut.ensures.value in
    let back = written c.in_ok-members.members.len after (drop (length after) c.in_ok-members.members.items) (omega (arith, c.in_ok-members.members.ok.0, same, size)) in
    let passes = c.in_ok-passes.ensures.passes ∙ ap (map (λ (member : Member). member.pass)) back in
    let sessions = sessions_are gives script board founded before after are same each c.in_ok-passes.passes.items passes in
    let ended = passes_ended gives script board founded before after are same each c.in_ok-passes.passes.items passes
    (subst (All (λ (member : Member). IsTrue member.ended)) back c.in_ok-passes.ensures.ended) in
    ended_are_all gives script board c.in_ok-passes.passes.items (founded_count script board.founded founded) sessions ended

pub returns : goal.returns
returns g c =
    let gives = g.P.Preparer.answers c.args.prepare.now in
    let script : Sessions = record { tables = arc_value c.args.tables; texts = c.args.statements.items; quantum = c.args.quantum; turns = c.args.turns } in
    let board = c.in_ok-board.board in
    let founded = c.in_ok-board.ensures.board ∙ c.in_ok-desks.ensures.desks ∙ ap (λ texts. desks_of texts c.args.quantum c.args.turns) c.deref.ensures.value in
    let before = c.deref_mut.result.now in
    let after = c.run_members.new.members in
    let are = c.deref_mut.ensures.value ∙ c.in_ok-members.ensures in
    let same = c.run_members.ensures.same in
    let each : (place : ℕ) (none : Member) → place < length before → HasRun gives script board (slice_index_or before place none) (slice_index_or after place none) =
    λ place none below. subst (λ (script : Sessions). HasRun gives script board (slice_index_or before place none) (slice_index_or after place none)) c.new-script.ensures (c.run_members.ensures.each place none below) in
    let size = ap length c.deref_mut.ensures.value in
    let back = written c.in_ok-members.members.len after (drop (length after) c.in_ok-members.members.items) (omega (arith, c.in_ok-members.members.ok.0, same, size)) in
    let passes = c.in_ok-passes.ensures.passes ∙ ap (map (λ (member : Member). member.pass)) back in
    let sessions = sessions_are gives script board founded before after are same each c.in_ok-passes.passes.items passes in
    let ended = passes_ended gives script board founded before after are same each c.in_ok-passes.passes.items passes
    (subst (All (λ (member : Member). IsTrue member.ended)) back c.in_ok-passes.ensures.ended) in
    record { legal = histories_are_legal gives script board founded c.in_ok-passes.passes.items c.finish.result c.finish.ensures sessions ended }
