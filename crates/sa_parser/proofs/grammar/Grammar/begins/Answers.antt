use Rattle.sa_parser.specs.inner.Grammar.{form_of}
use Rattle.sa_parser.proofs.Judging.{Begins-tells}
use Rattle.sa_parser.proofs.grammar.Grammar.begins.Goals as goal

pub returns : goal.returns
returns c =
    Begins-tells (form_of c.args.self) c.args.tokens.now c.in_ok-first_faulty.field-0 c.is_none.result c.in_ok-first_faulty.ensures c.is_none.ensures
