-- What preparing a statement answers may be answered.
use Rattle.std.proofs.Common.{◌≡◌, ℕ, List, refl, sym, subst, ap, ◌∙◌}
use Rattle.std.specs.Prelude.{Option, Some, None, Ok, Err, IfOk, IfErr}
use Rattle.std.specs.Result.{result_err}
use Rattle.std.specs.declared.result.Result.{Result}
use Rattle.sa_lexer.specs.declared.fault.LexFault.{LexFault}
use Rattle.sa_lexer.specs.declared.fault.LexFault.TheVariants as lex
use Rattle.sa_lexer.specs.declared.token.Token.{Token}
use Rattle.sa_lexer.specs.Faulty.{TellsFault}
use Rattle.sa_lexer.specs.Grammar.{AreTokens}
use Rattle.sa_ast.specs.declared.select.SelectTree.{SelectTree}
use Rattle.sa_ast.specs.declared.statement.Statement.{Statement}
use Rattle.sa_parser.specs.declared.answer.ParseFault.{ParseFault}
use Rattle.sa_parser.specs.declared.answer.ParseFault.TheVariants as parse
use Rattle.sa_parser.specs.Parse.{IsAnswer, IsStatement}
use Rattle.sa_query.specs.declared.query.Query.{Query}
use Rattle.sa_query.specs.declared.refusal.Refusal.{Refusal}
use Rattle.sa_query.specs.declared.refusal.Refusal.TheVariants as refusal
use Rattle.sa_resolve.specs.declared.fault.ResolveFault.{ResolveFault}
use Rattle.sa_resolve.specs.declared.fault.ResolveFault.TheVariants as resolve
use Rattle.sa_resolve.specs.Fault.{least}
use Rattle.sa_resolve.specs.Resolved.{IsQueryOf, faults_of}
use Rattle.sa_resolve.specs.Told.{IsToldOf}
use Rattle.sa_table.specs.Table.{Table}
use Rattle.sa_plan.specs.declared.prepared.Prepared.{Prepared}
use Rattle.sa_plan.specs.Answer.{MayAnswer}
use Rattle.sa_prepare.specs.PlanFor.{plan_for}
use Rattle.sa_prepare.specs.Prepared.{refusal_of, ready_with, select_work, planned_or_unsupported, unless_faulty, answer_to, Prepares, has_no_tokens, is_no_statement, is_statement}
use Rattle.sa_prepare.specs.Unbuilt.{least_place, unbuilt_places}
use Rattle.sa_prepare.specs.inner.Refused.{IsFault, lex_refusal, resolve_refusal, built_answer, select_answer}

abbrev Is : Result Prepared Refusal → Result Prepared Refusal → Type 0
Is expected answer = answer ≡ expected

-- an answer that is one of these may be answered
pub may_as : (Answers : Result Prepared Refusal → Type 0) (answer : Result Prepared Refusal) → Answers answer → MayAnswer Answers answer
may_as Answers (Ok prepared) is = is
may_as Answers (Err (refusal.Lex kind place)) is = is
may_as Answers (Err (refusal.Syntax place)) is = is
may_as Answers (Err (refusal.NotSupported place)) is = is
may_as Answers (Err (refusal.TooDeep place)) is = is
may_as Answers (Err (refusal.Resolve fault place)) is = is
may_as Answers (Err refusal.OutOfMemory) is = tt

module _ (tables : List Table) (text : List ℕ) where
  pub may_lex : (fault : LexFault) → TellsFault text fault → MayAnswer (Prepares tables text) (Err (lex_refusal fault))
  may_lex (lex.Bad kind place) tells = has_no_tokens kind place tells refl
  may_lex lex.OutOfMemory tells = tt

  module _ (tokens : List Token) (are : AreTokens 0 text tokens) where
    pub may_parse : (fault : ParseFault) → IsAnswer IsStatement tokens (Err fault) → MayAnswer (Prepares tables text) (Err (refusal_of fault))
    may_parse (parse.Syntax place) found = is_no_statement tokens are (parse.Syntax place) found (λ is. (cc)) refl
    may_parse (parse.NotSupported place) found = is_no_statement tokens are (parse.NotSupported place) found (λ is. (cc)) refl
    may_parse (parse.TooDeep place) found = is_no_statement tokens are (parse.TooDeep place) found (λ is. (cc)) refl
    may_parse parse.OutOfMemory found = tt

    -- the answer to a statement
    pub may_be : (statement : Statement) → IsAnswer IsStatement tokens (Ok statement) → (answer : Result Prepared Refusal)
        → MayAnswer (λ answer. answer ≡ answer_to tables tokens statement) answer → MayAnswer (Prepares tables text) answer
    may_be statement read (Ok prepared) is = is_statement tokens are statement read is
    may_be statement read (Err (refusal.Lex kind place)) is = is_statement tokens are statement read is
    may_be statement read (Err (refusal.Syntax place)) is = is_statement tokens are statement read is
    may_be statement read (Err (refusal.NotSupported place)) is = is_statement tokens are statement read is
    may_be statement read (Err (refusal.TooDeep place)) is = is_statement tokens are statement read is
    may_be statement read (Err (refusal.Resolve fault place)) is = is_statement tokens are statement read is
    may_be statement read (Err refusal.OutOfMemory) is = tt

-- what is wrong with a SELECT
pub may_tell : (tables : List Table) (select : SelectTree) (answer : Result Prepared Refusal) (fault : ResolveFault) → IsToldOf (faults_of tables select) fault
    → MayAnswer (Is (unless_faulty (least (faults_of tables select)) answer)) (Err (resolve_refusal fault))
may_tell tables select answer (resolve.Bad kind place) told = sym (ap (λ fault. unless_faulty fault answer) told)
may_tell tables select answer resolve.OutOfMemory told = tt

-- what is told where nothing is wrong with it
pub unless_told : (tables : List Table) (select : SelectTree) (query : Query) (answer : Result Prepared Refusal) → IsQueryOf tables select query
    → answer ≡ unless_faulty (least (faults_of tables select)) answer
unless_told tables select query answer is = sym (ap (λ faults. unless_faulty (least faults) answer) is.faultless)

-- what a call that resolves it tells
pub fault_by : (tables : List Table) (select : SelectTree) (found : Result Query ResolveFault) → IfOk found (IsQueryOf tables select)
    → IfErr found (IsToldOf (faults_of tables select)) → IsFault tables select (result_err found)
fault_by tables select (Ok query) is told = ap least is.faultless
fault_by tables select (Err fault) is told = told

-- the answer where the query is planned
pub may_run : (tables : List Table) (statement : Statement) (select : SelectTree) (query : Query) → IsQueryOf tables select query
    → (answer : Result Prepared Refusal) → answer ≡ ready_with statement (select_work (plan_for tables query)) → answer ≡ built_answer tables statement select
may_run tables statement select query is answer ready =
    ready ∙ ap (λ query. ready_with statement (select_work (plan_for tables query))) is.is
    ∙ unless_told tables select query (planned_or_unsupported tables statement select None) is

module _ (tables : List Table) (tokens : List Token) (statement : Statement) (select : SelectTree) where
  abbrev at : Option ℕ → Result Prepared Refusal
  at place = unless_faulty (least (faults_of tables select)) (planned_or_unsupported tables statement select place)

  -- the answer to a SELECT, by the least place of what isn't built
  pub may_select : (place : Option ℕ) → place ≡ least_place (unbuilt_places tokens select)
      → (answer : Result Prepared Refusal) → MayAnswer (Is (at place)) answer → MayAnswer (Is (select_answer tables tokens statement select)) answer
  may_select place found answer may = subst (λ place. MayAnswer (Is (at place)) answer) found may
