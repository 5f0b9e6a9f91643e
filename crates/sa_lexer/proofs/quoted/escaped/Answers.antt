use Rattle.std.proofs.Common.{◌<◌, get_or, arith}
use Rattle.std.proofs.lemmas.Bool.Decides.{nat_tests}
use Rattle.std.proofs.lemmas.Str.{IsCharBoundary-after_ascii}
use Rattle.sa_lexer.proofs.quoted.escaped.Goals as goal

pub range-requires-clause-end_boundary : goal.range-requires-clause-end_boundary
range-requires-clause-end_boundary c =
    let ascii : get_or c.args.rest.now 1 0 < 128 = grind (arith, nat_tests) in
    IsCharBoundary-after_ascii c.args.rest.now 1 c.utf8.rest c.requires.long ascii
