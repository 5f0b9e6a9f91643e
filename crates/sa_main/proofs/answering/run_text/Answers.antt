use Rattle.std.proofs.lemmas.Result.{IfOk-weaker}
use Rattle.sa_script.proofs.LimitLemmas.{script_keeps_limits}
use Rattle.sa_main.proofs.answering.run_text.Goals as goal

pub run_journals-requires-after_bounds : goal.run_journals-requires-after_bounds
run_journals-requires-after_bounds g c κs within = script_keeps_limits c.args.input.now c.args.script c.requires

pub returns : goal.returns
returns g c =
    IfOk-weaker c.run_journals.result _ _
    (λ text told. record { script = c.args.script; is_script = c.requires; journals = told }) c.run_journals.ensures
