use Rattle.std.proofs.Common.{List, Ok, Err, subst}
use Rattle.sa_lexer.specs.declared.token.Token.{Token}
use Rattle.sa_parser.specs.Parse.{IsStatement, IsAnswer}
use Rattle.sa_parser.proofs.Answering.{flat-told}
use Rattle.sa_parser.proofs.Sorts.{answer-text}
use Rattle.sa_parser.proofs.parser.parse.Goals as goal

pub returns-in-Whole-clause-text : goal.returns-in-Whole-clause-text
returns-in-Whole-clause-text c =
    let is = rw (c.in-Whole.is, c.in_ok-of.ensures) at c.in_ok-judgement.ensures in
    answer-text _ (Ok c.in-Whole.tree) (is, c.in_ok-stays_flat.ensures.flat)

pub returns-in_ok-fault_behind-in-Faulty-clause-answer : goal.returns-in_ok-fault_behind-in-Faulty-clause-answer
returns-in_ok-fault_behind-in-Faulty-clause-answer c =
    let faulty = rw (c.in-Faulty.is, c.in_ok-of.ensures) at c.in_ok-judgement.ensures in
    let told : IsAnswer IsStatement c.as_slice-tokens.result.now (Err c.in_ok-fault_behind-in-Faulty.field-0) =
    flat-told IsStatement c.as_slice-tokens.result.now c.in-Faulty.count c.in_ok-fault_behind-in-Faulty.field-0
    c.in_ok-stays_flat.ensures.flat faulty.1 c.in_ok-fault_behind-in-Faulty.ensures in
    subst (λ (tokens : List Token). IsAnswer IsStatement tokens (Err c.in_ok-fault_behind-in-Faulty.field-0)) c.as_slice-tokens.ensures told
