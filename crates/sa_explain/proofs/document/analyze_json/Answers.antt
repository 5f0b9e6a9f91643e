use Rattle.std.proofs.Common.{◌≡◌, Some, false, sym, subst}
use Rattle.std.proofs.lemmas.Result.{IfOk-weaker}
use Rattle.serde_json.specs.Data.{Data}
use Rattle.serde_json.specs.Written.{has_float}
use Rattle.sa_explain.proofs.Exact.{document_is_exact}
use Rattle.sa_explain.proofs.document.analyze_json.Goals as goal

pub returns-clause-exact : goal.returns-clause-exact
returns-clause-exact c =
    IfOk-weaker c.document.result _ _
    (λ json is. let P : Data → Type 0 = λ value. has_float value ≡ false in subst P (sym is) (document_is_exact c.args.names.now c.args.plan.now (Some c.args.report.now)))
    c.document.ensures
