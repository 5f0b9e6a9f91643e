use Rattle.std.proofs.lemmas.Result.{IfOk-weaker}
use Rattle.sa_script.proofs.LimitLemmas.{script_keeps_limits}
use Rattle.sa_main.proofs.answering.step_text.Goals as goal

pub stepped_journals-requires : goal.stepped_journals-requires
stepped_journals-requires c = script_keeps_limits c.args.input.now c.args.script c.requires

pub returns : goal.returns
returns c =
    IfOk-weaker c.stepped_journals.result _ _
    (λ text told. record { script = c.args.script; is_script = c.requires; journals = told }) c.stepped_journals.ensures
