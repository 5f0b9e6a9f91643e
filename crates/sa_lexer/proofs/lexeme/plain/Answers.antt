use Rattle.std.proofs.Common.{arith}
use Rattle.std.proofs.lemmas.Bool.Decides.{nat_tests}
use Rattle.std.proofs.lemmas.Str.{IsCharBoundary-after_ascii}
use Rattle.sa_lexer.proofs.lexeme.plain.Goals as goal

pub returns-then-is_space-clause-cut : goal.returns-then-is_space-clause-cut
returns-then-is_space-clause-cut c =
    IsCharBoundary-after_ascii c.args.rest.now 0 c.utf8.rest c.requires.some (grind (arith, nat_tests))
