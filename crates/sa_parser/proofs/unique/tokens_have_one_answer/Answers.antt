use Rattle.sa_parser.specs.Parse.{IsStatement, IsSetup, IsDirective}
use Rattle.sa_parser.proofs.Agreement.{statement-unique, setup-unique, directive-unique}
use Rattle.sa_parser.proofs.OneAnswer.{one-answer}
use Rattle.sa_parser.proofs.unique.tokens_have_one_answer.Goals as goal

pub returns : goal.returns
returns c = record {
  statement = λ tokens. one-answer IsStatement tokens (statement-unique tokens);
  setup = λ tokens. one-answer IsSetup tokens (setup-unique tokens);
  directive = λ tokens. one-answer IsDirective tokens (directive-unique tokens);
}
