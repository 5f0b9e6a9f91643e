use Rattle.sa_prepare.proofs.answers.Texts.{ready_answers}
use Rattle.sa_prepare.proofs.law.ready_selects_answer_their_texts.Goals as goal

pub returns : goal.returns
returns c = ready_answers c.order_is_total.ensures
