-- Which answer the text of a statement has: a canonical text and what the statement does, or the
-- reason why it is refused.
use Rattle.std.specs.Prelude.{◌≡◌, ◌≢◌, ℕ, List, [], ◌∷◌, Option, Some, None}
use Rattle.std.specs.declared.result.Result.{Result}
use Rattle.std.specs.declared.result.Result.TheVariants.{Ok, Err}
use Rattle.sa_lexer.specs.declared.fault.LexKind.{LexKind}
use Rattle.sa_lexer.specs.declared.token.Token.{Token}
use Rattle.sa_lexer.specs.Faulty.{IsFaulty}
use Rattle.sa_lexer.specs.Grammar.{AreTokens}
use Rattle.sa_ast.specs.declared.select.SelectTree.{SelectTree}
use Rattle.sa_ast.specs.declared.statement.Statement.{Statement}
use Rattle.sa_ast.specs.declared.statement.Statement.TheVariants as tree
use Rattle.sa_print.specs.Statement.{canonical_statement}
use Rattle.sa_parser.specs.declared.answer.ParseFault.{ParseFault}
use Rattle.sa_parser.specs.declared.answer.ParseFault.TheVariants as parse
use Rattle.sa_parser.specs.Parse.{IsAnswer, IsStatement}
use Rattle.sa_query.specs.declared.refusal.Refusal.{Refusal}
use Rattle.sa_query.specs.declared.refusal.Refusal.TheVariants as refusal
use Rattle.sa_table.specs.Table.{Table}
use Rattle.sa_plan.specs.declared.plan.Plan.{Plan}
use Rattle.sa_plan.specs.declared.prepared.Prepared.{Prepared}
use Rattle.sa_plan.specs.declared.prepared.Work.{Work}
use Rattle.sa_plan.specs.declared.prepared.Work.TheVariants as work
use Rattle.sa_resolve.specs.Fault.{Fault, least}
use Rattle.sa_resolve.specs.Resolved.{faults_of, query_of}
use Rattle.sa_prepare.specs.PlanFor.{plan_for}
use Rattle.sa_prepare.specs.Unbuilt.{least_place, unbuilt_places}

-- how a fault of the grammar is refused
abbrev pub refusal_of : ParseFault → Refusal
refusal_of (parse.Syntax place) = refusal.Syntax place
refusal_of (parse.NotSupported place) = refusal.NotSupported place
refusal_of (parse.TooDeep place) = refusal.TooDeep place
refusal_of parse.OutOfMemory = refusal.OutOfMemory

-- where the first token stands
abbrev pub first_place : List Token → ℕ
first_place [] = 0
first_place (token ∷ tokens) = token.start

abbrev pub select_work : Plan → Work
select_work plan = work.Select (record { plan = plan })

-- What a statement does that neither is nor has a SELECT, if that is built.
abbrev pub work_of : Statement → Option Work
work_of (tree.Show kind id) = Some (work.Show kind id)
work_of (tree.Kill kind id) = Some (work.Kill kind id)
work_of (tree.SetLimit limit) = Some (work.SetLimit limit)
work_of (tree.Wait id at) = Some (work.Wait id at)
work_of statement = None

-- the statement is ready to do this
abbrev pub ready_with : Statement → Work → Result Prepared Refusal
ready_with statement does = Ok (record { text = canonical_statement statement; work = does })

-- its first token isn't supported
abbrev pub unsupported : List Token → Result Prepared Refusal
unsupported tokens = Err (refusal.NotSupported (first_place tokens))

abbrev pub built_or_unsupported : List Token → Statement → Option Work → Result Prepared Refusal
built_or_unsupported tokens statement None = unsupported tokens
built_or_unsupported tokens statement (Some does) = ready_with statement does

-- A SELECT whose names are resolved has its plan, or is refused at the least place of what isn't
-- built.
abbrev pub planned_or_unsupported : List Table → Statement → SelectTree → Option ℕ
    → Result Prepared Refusal
planned_or_unsupported tables statement select None =
    ready_with statement (select_work (plan_for tables (query_of tables select)))
planned_or_unsupported tables statement select (Some place) = Err (refusal.NotSupported place)

-- the answer to a statement with a SELECT, where nothing is wrong with that
abbrev pub unless_faulty : Option Fault → Result Prepared Refusal → Result Prepared Refusal
unless_faulty None answer = answer
unless_faulty (Some fault) answer = Err (refusal.Resolve fault.kind fault.place)

-- What is wrong with a SELECT is told first, and then what isn't built.
abbrev pub answer_to : List Table → List Token → Statement → Result Prepared Refusal
answer_to tables tokens (tree.Select select) =
    unless_faulty (least (faults_of tables select))
    (planned_or_unsupported tables (tree.Select select) select
    (least_place (unbuilt_places tokens select)))
answer_to tables tokens (tree.Explain select) =
    unless_faulty (least (faults_of tables select)) (unsupported tokens)
answer_to tables tokens (tree.Analyze select) =
    unless_faulty (least (faults_of tables select)) (unsupported tokens)
answer_to tables tokens statement = built_or_unsupported tokens statement (work_of statement)

-- The text is refused for the leftmost fault of its tokens, else for the first fault in them, else
-- it has its statement's answer.
pub data Prepares (tables : List Table) (text : List ℕ)
    (answer : Result Prepared Refusal) : Type 0 where
  has_no_tokens : (kind : LexKind) (place : ℕ) (found : IsFaulty text kind place)
      (is : answer ≡ Err (refusal.Lex kind place)) →
      Prepares tables text answer
  is_no_statement : (tokens : List Token) (are : AreTokens 0 text tokens) (fault : ParseFault)
      (found : IsAnswer IsStatement tokens (Err fault))
      (known : fault ≢ parse.OutOfMemory) (is : answer ≡ Err (refusal_of fault))
      → Prepares tables text answer
  is_statement : (tokens : List Token) (are : AreTokens 0 text tokens) (statement : Statement)
      (read : IsAnswer IsStatement tokens (Ok statement))
      (is : answer ≡ answer_to tables tokens statement) → Prepares tables text answer
