use Rattle.std.proofs.Common.{◌≡◌, sym, subst}
use Rattle.std.specs.Prelude.{Err}
use Rattle.sa_plan.specs.Answer.{MayAnswer}
use Rattle.sa_prepare.specs.Prepared.{Prepares, answer_to}
use Rattle.sa_prepare.proofs.Bounded.{has_tables}
use Rattle.sa_prepare.proofs.May.{may_lex, may_parse, may_be}
use Rattle.sa_prepare.proofs.ready.ReadyPreparer.prepare.Goals as goal

pub returns-in-Err : goal.returns-in-Err
returns-in-Err c =
    subst (λ why. MayAnswer (Prepares c.args.self.now c.args.text.now) (Err why)) (sym c.lex_refusal.ensures)
    (may_lex c.args.self.now c.args.text.now c.in-Err.fault c.in-Err.ensures.faulty)

pub returns-in-Err-parse : goal.returns-in-Err-parse
returns-in-Err-parse c =
    subst (λ why. MayAnswer (Prepares c.args.self.now c.args.text.now) (Err why)) (sym c.parse_refusal.ensures)
    (may_parse c.args.self.now c.args.text.now c.in-Ok.tokens c.in-Ok.ensures.whole c.in-Err-parse.fault c.in-Err-parse.ensures.answer)

pub answer_to-requires-clause-from : goal.answer_to-requires-clause-from
answer_to-requires-clause-from c =
    has_tables c.in-Ok.tokens c.in-Ok-parse.statement c.in-Ok-parse.ensures.answer.0

pub returns : goal.returns
returns c =
    let statement = c.in-Ok-parse.statement in
    let tables : c.tables.result.now ≡ c.args.self.now = cc in
    let tokens : c.as_slice.result.now ≡ c.in-Ok.tokens = c.as_slice.ensures in
    let may = subst (λ tokens. MayAnswer (λ answer. answer ≡ answer_to c.args.self.now tokens statement) c.answer_to.result) tokens
    (subst (λ tables. MayAnswer (λ answer. answer ≡ answer_to tables c.as_slice.result.now statement) c.answer_to.result) tables c.answer_to.ensures) in
    may_be c.args.self.now c.args.text.now c.in-Ok.tokens c.in-Ok.ensures.whole statement c.in-Ok-parse.ensures.answer c.answer_to.result may
