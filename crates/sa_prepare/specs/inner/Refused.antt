-- How faults of the tokens and of names are refused, and what a statement has for an answer.
use Rattle.std.specs.Prelude.{◌≡◌, ⊤, ◌≤◌, List, length, Option, Some, None}
use Rattle.std.specs.declared.result.Result.{Result}
use Rattle.sa_lexer.specs.declared.fault.LexFault.{LexFault}
use Rattle.sa_lexer.specs.declared.fault.LexFault.TheVariants as lex
use Rattle.sa_lexer.specs.declared.token.Token.{Token}
use Rattle.sa_ast.specs.declared.select.SelectTree.{SelectTree}
use Rattle.sa_ast.specs.declared.statement.Statement.{Statement}
use Rattle.sa_ast.specs.declared.statement.Statement.TheVariants as tree
use Rattle.sa_query.specs.declared.refusal.Refusal.{Refusal}
use Rattle.sa_query.specs.declared.refusal.Refusal.TheVariants as refusal
use Rattle.sa_resolve.specs.declared.fault.ResolveFault.{ResolveFault}
use Rattle.sa_resolve.specs.declared.fault.ResolveFault.TheVariants as resolve
use Rattle.sa_resolve.specs.Fault.{least}
use Rattle.sa_resolve.specs.Resolved.{faults_of}
use Rattle.sa_resolve.specs.Told.{IsToldOf}
use Rattle.sa_table.specs.Table.{Table}
use Rattle.sa_plan.specs.declared.prepared.Prepared.{Prepared}
use Rattle.sa_prepare.specs.Prepared.{planned_or_unsupported, unless_faulty, unsupported}
use Rattle.sa_prepare.specs.Unbuilt.{least_place, unbuilt_places}

abbrev pub lex_refusal : LexFault → Refusal
lex_refusal (lex.Bad kind place) = refusal.Lex kind place
lex_refusal lex.OutOfMemory = refusal.OutOfMemory

abbrev pub resolve_refusal : ResolveFault → Refusal
resolve_refusal (resolve.Bad kind place) = refusal.Resolve kind place
resolve_refusal resolve.OutOfMemory = refusal.OutOfMemory

-- What is told of a SELECT, if something is wrong with it.
abbrev pub IsFault : List Table → SelectTree → Option ResolveFault → Type 0
IsFault tables select None = least (faults_of tables select) ≡ None
IsFault tables select (Some fault) = IsToldOf (faults_of tables select) fault

-- the answer to a SELECT
abbrev pub select_answer : List Table → List Token → Statement → SelectTree → Result Prepared Refusal
select_answer tables tokens statement select =
    unless_faulty (least (faults_of tables select))
    (planned_or_unsupported tables statement select (least_place (unbuilt_places tokens select)))

-- the answer to a SELECT in which nothing is that isn't built
abbrev pub built_answer : List Table → Statement → SelectTree → Result Prepared Refusal
built_answer tables statement select =
    unless_faulty (least (faults_of tables select))
    (planned_or_unsupported tables statement select None)

-- the answer to a statement whose first token isn't supported, and which has this SELECT
abbrev pub other_answer : List Table → List Token → SelectTree → Result Prepared Refusal
other_answer tables tokens select =
    unless_faulty (least (faults_of tables select)) (unsupported tokens)

-- a SELECT has a table
abbrev pub HasTables : Statement → Type 0
HasTables (tree.Select select) = 1 ≤ length select.from
HasTables statement = ⊤
