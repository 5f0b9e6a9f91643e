use Rattle.sa_parser.proofs.Agreement.{statement-unique, setup-unique, directive-unique}
use Rattle.sa_parser.proofs.unique.tokens_have_one_tree.Goals as goal

pub returns-clause-statement : goal.returns-clause-statement
returns-clause-statement c = statement-unique

pub returns-clause-setup : goal.returns-clause-setup
returns-clause-setup c = setup-unique

pub returns-clause-directive : goal.returns-clause-directive
returns-clause-directive c = directive-unique
