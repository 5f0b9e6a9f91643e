use Rattle.sa_legal.proofs.Answered.{ends_answer}
use Rattle.sa_legal.proofs.law.finished_selects_answer_their_queries.Goals as goal

pub returns : goal.returns
returns c = ends_answer c.order_is_total.ensures
