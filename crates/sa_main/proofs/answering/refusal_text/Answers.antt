use Rattle.std.proofs.lemmas.Result.{IfOk-weaker}
use Rattle.sa_main.proofs.AnswerLaws.{is_refusal}
use Rattle.sa_main.proofs.answering.refusal_text.Goals as goal

pub fault_line-requires : goal.fault_line-requires
fault_line-requires c = record { bad = c.requires.known }

pub returns : goal.returns
returns c =
    IfOk-weaker c.fault_line.result _ _
    (λ text told. is_refusal c.text_has_one_answer.ensures c.args.input.now text.items c.args.fault.now c.requires.found c.requires.known told)
    c.fault_line.ensures
