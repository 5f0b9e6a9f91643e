use Rattle.sa_parser.specs.declared.grammar.Grammar.TheVariants.{Session, Setup, Script}
use Rattle.sa_parser.proofs.SomeAnswer.{some_answer}
use Rattle.sa_parser.proofs.unique.tokens_have_an_answer.Goals as goal

pub returns-clause-statement : goal.returns-clause-statement
returns-clause-statement c = some_answer Session

pub returns-clause-setup : goal.returns-clause-setup
returns-clause-setup c = some_answer Setup

pub returns-clause-directive : goal.returns-clause-directive
returns-clause-directive c = some_answer Script
