use Rattle.std.proofs.Common.{List, Err, subst}
use Rattle.sa_lexer.specs.declared.token.Token.{Token}
use Rattle.sa_parser.specs.Parse.{IsDirective, IsAnswer}
use Rattle.sa_parser.proofs.Answering.{flat-told}
use Rattle.sa_parser.proofs.parser.parse_directive.Goals as goal

pub returns-in_ok-fault_behind-in-Faulty : goal.returns-in_ok-fault_behind-in-Faulty
returns-in_ok-fault_behind-in-Faulty c =
    let faulty = rw (c.in-Faulty.is, c.in_ok-of.ensures) at c.in_ok-judgement.ensures in
    let told : IsAnswer IsDirective c.as_slice-tokens.result.now (Err c.in_ok-fault_behind-in-Faulty.field-0) =
    flat-told IsDirective c.as_slice-tokens.result.now c.in-Faulty.count c.in_ok-fault_behind-in-Faulty.field-0
    c.in_ok-stays_flat.ensures.flat faulty.1 c.in_ok-fault_behind-in-Faulty.ensures in
    subst (λ (tokens : List Token). IsAnswer IsDirective tokens (Err c.in_ok-fault_behind-in-Faulty.field-0)) c.as_slice-tokens.ensures told
