use Rattle.std.proofs.Common.{ℕ, List, length, drop, ap, ◌∙◌, arith}
use Rattle.std.proofs.lemmas.Result.{err_from_is_err_and, IfErr-weaker}
use Rattle.sa_script.specs.Direct.{CantDirect}
use Rattle.sa_script.specs.Fault.{Fault}
use Rattle.sa_script.specs.Piece.{place_behind}
use Rattle.sa_script.specs.inner.Step.{FailsWith, CantSetUpAs}
use Rattle.sa_script.specs.inner.Tells.{Tells}
use Rattle.sa_script.proofs.Sessions.{with_statement-length}
use Rattle.sa_script.proofs.Stepping.{set_up_fails, direct_fails}
use Rattle.sa_script.proofs.Telling.{tells_more}
use Rattle.sa_script.proofs.says.take_piece.Goals as goal

pub returns-in_err-set_up-in-Setup-clause-fault : goal.returns-in_err-set_up-in-Setup-clause-fault
returns-in_err-set_up-in-Setup-clause-fault c =
    let said = c.args.said.now in
    let piece = c.args.piece.now in
    let behind = drop (place_behind piece) c.args.script.now in
    let p = err_from_is_err_and c.from_residual-in_err-set_up-in-Setup.result c.from_residual-in_err-set_up-in-Setup.ensures.1 in
    rw (p.1, p.2)
    (tells_more (CantSetUpAs said.tables piece) (FailsWith said piece behind) _ (λ (fault : Fault). set_up_fails said piece behind fault c.in-Setup.ensures) c.in_err-set_up-in-Setup.ensures.fault)

pub returns-in_ok-tree-in-Directive-clause-fault :
    goal.returns-in_ok-tree-in-Directive-clause-fault
returns-in_ok-tree-in-Directive-clause-fault c =
    let said = c.args.said.now in
    let piece = c.args.piece.now in
    let behind = drop (place_behind piece) c.args.script.now in
    let tree = c.in_ok-tree-in-Directive.tree in
    IfErr-weaker c.direct.result (Tells (CantDirect said piece tree behind)) (Tells (FailsWith said piece behind))
    (λ told. tells_more (CantDirect said piece tree behind) (FailsWith said piece behind) told (λ (fault : Fault). direct_fails said piece behind tree fault c.in-Directive.ensures c.in_ok-tree-in-Directive.ensures.reads))
    c.direct.ensures.fault

pub returns-in_ok-put_statement-in-Statement-clause-few :
    goal.returns-in_ok-put_statement-in-Statement-clause-few
returns-in_ok-put_statement-in-Statement-clause-few c =
    omega (
      arith,
      c.requires.few,
      ap (λ (sessions : List (List (List ℕ))). length sessions) c.in_ok-put_statement-in-Statement.ensures.ok ∙ with_statement-length c.args.said.now.sessions _,
    )
