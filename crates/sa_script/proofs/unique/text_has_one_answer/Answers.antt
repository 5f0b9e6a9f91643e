use Rattle.sa_script.proofs.one_answer.Leads.{same_answer}
use Rattle.sa_script.proofs.unique.text_has_one_answer.Goals as goal

pub returns : goal.returns
returns c = same_answer (record { setup = c.tokens_have_one_answer.ensures.setup; directive = c.tokens_have_one_answer.ensures.directive })
