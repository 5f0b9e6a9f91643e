use Rattle.std.proofs.Common.{get_or, arith}
use Rattle.std.proofs.lemmas.Str.{IsCharBoundary-after_ascii}
use Rattle.sa_lexer.proofs.Held.{quote_small}
use Rattle.sa_lexer.proofs.lexeme.quoted.Goals as goal

pub range-requires-clause-start_boundary : goal.range-requires-clause-start_boundary
range-requires-clause-start_boundary c = λ some.
    IsCharBoundary-after_ascii c.args.part.now 0 c.utf8.part (omega (arith, c.requires.long)) (quote_small (get_or c.args.part.now 0 0) c.requires.quoted).0
