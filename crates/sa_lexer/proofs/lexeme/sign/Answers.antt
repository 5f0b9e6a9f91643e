use Rattle.std.proofs.Common.{ℕ, ◌≡◌, length, Some, subst}
use Rattle.std.specs.Str.{IsCharBoundary}
use Rattle.sa_lexer.specs.Sign.{sign_at, spelling}
use Rattle.sa_lexer.proofs.Cuts.{after_sign}
use Rattle.sa_lexer.proofs.lexeme.sign.Goals as goal

pub returns-clause-cut : goal.returns-clause-cut
returns-clause-cut c =
    let e : sign_at c.args.rest.now ≡ Some c.in-Some.sign = cc in
    let same : length (spelling c.in-Some.sign) ≡ length c.spelling.result.now = cc in
    subst (λ (n : ℕ). IsCharBoundary c.args.rest.now n) same (after_sign c.args.rest.now c.in-Some.sign c.utf8.rest e)
