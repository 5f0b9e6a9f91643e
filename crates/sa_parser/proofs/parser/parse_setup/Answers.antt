use Rattle.std.proofs.Common.{List, Ok, Err, subst}
use Rattle.sa_lexer.specs.declared.token.Token.{Token}
use Rattle.sa_parser.specs.Parse.{IsSetup, IsAnswer}
use Rattle.sa_parser.proofs.Answering.{flat-told}
use Rattle.sa_parser.proofs.Sorts.{answer-sets_up}
use Rattle.sa_parser.proofs.parser.parse_setup.Goals as goal

pub returns-in-Whole-clause-sets_up : goal.returns-in-Whole-clause-sets_up
returns-in-Whole-clause-sets_up c =
    let is = rw (c.in-Whole.is, c.in_ok-of.ensures) at c.in_ok-judgement.ensures in
    answer-sets_up _ (Ok c.in-Whole.tree) (is, c.in_ok-stays_flat.ensures.flat)

pub returns-in_ok-fault_behind-in-Faulty-clause-answer : goal.returns-in_ok-fault_behind-in-Faulty-clause-answer
returns-in_ok-fault_behind-in-Faulty-clause-answer c =
    let faulty = rw (c.in-Faulty.is, c.in_ok-of.ensures) at c.in_ok-judgement.ensures in
    let told : IsAnswer IsSetup c.as_slice-tokens.result.now (Err c.in_ok-fault_behind-in-Faulty.field-0) =
    flat-told IsSetup c.as_slice-tokens.result.now c.in-Faulty.count c.in_ok-fault_behind-in-Faulty.field-0
    c.in_ok-stays_flat.ensures.flat faulty.1 c.in_ok-fault_behind-in-Faulty.ensures in
    subst (λ (tokens : List Token). IsAnswer IsSetup tokens (Err c.in_ok-fault_behind-in-Faulty.field-0)) c.as_slice-tokens.ensures told
