-- The plan of a SELECT that is ready to run gives rows that answer its text.
use Rattle.std.proofs.Common.{◌≡◌, ℕ, List, [], ◌∷◌, map, refl, ap, sym, subst, ◌∙◌}
use Rattle.std.specs.Prelude.{Option, Some, None, Ok}
use Rattle.std.specs.Cmp.{IsTotalOrder}
use Rattle.sa_value.specs.Compare.{order_of}
use Rattle.sa_lexer.specs.declared.token.Token.{Token}
use Rattle.sa_lexer.specs.Grammar.{AreTokens}
use Rattle.sa_ast.specs.declared.select.SelectTree.{SelectTree}
use Rattle.sa_ast.specs.declared.statement.Statement.{Statement}
use Rattle.sa_ast.specs.declared.statement.Statement.TheVariants as said
use Rattle.sa_print.specs.Statement.{canonical_statement}
use Rattle.sa_parser.specs.Parse.{IsAnswer, IsStatement}
use Rattle.sa_table.specs.Table.{Table}
use Rattle.sa_query.specs.declared.item.Item.{Item}
use Rattle.sa_query.specs.declared.query.Query.{Query}
use Rattle.sa_plan.specs.declared.plan.Plan.{Plan}
use Rattle.sa_plan.specs.declared.plan.Planned.{Planned}
use Rattle.sa_plan.specs.declared.prepared.Prepared.{Prepared}
use Rattle.sa_plan.specs.declared.prepared.Work.{Work}
use Rattle.sa_plan.specs.declared.prepared.Work.TheVariants as work
use Rattle.sa_meaning.specs.Output.{output}
use Rattle.sa_resolve.specs.Fault.{Fault, earlier, least}
use Rattle.sa_resolve.specs.Resolved.{IsQueryOf, faults_of, query_of}
use Rattle.sa_prepare.specs.Answered.{AnswersText}
use Rattle.sa_prepare.specs.PlanFor.{plan_for}
use Rattle.sa_prepare.specs.Prepared.{select_work, ready_with, unsupported, planned_or_unsupported, unless_faulty, answer_to, Prepares, has_no_tokens, is_no_statement, is_statement}
use Rattle.sa_prepare.specs.Unbuilt.{least_place, unbuilt_places}
use Rattle.sa_prepare.proofs.Bounded.{statement_bounded}
use Rattle.sa_prepare.proofs.Built.{none_least, is_built, query-plain}
use Rattle.sa_prepare.proofs.answers.Scan.{scan_answers}

some_fault : (fault : Fault) (other : Option Fault) → earlier fault other ≡ None → ⊥
some_fault fault None is = cc
some_fault fault (Some other) is = cc

no_faults : (faults : List Fault) → least faults ≡ None → faults ≡ []
no_faults [] is = refl
no_faults (fault ∷ faults) is = absurd (some_fault fault (least faults) is)

module _ (total : IsTotalOrder order_of) (tables : List Table) (text : List ℕ)
    (prepared : Prepared) (planned : Planned) (does : prepared.work ≡ work.Select planned) where
  abbrev Answers : Plan → Type 0
  Answers plan =
      AnswersText tables text (map (λ (item : Item). item.name) plan.select) (output plan tables)

  work_is : (statement : Statement) (given : Work) → Ok prepared ≡ ready_with statement given
      → given ≡ work.Select planned
  work_is statement given is =
      let same : prepared ≡ record { text = canonical_statement statement; work = given } = cc in
      ap (λ (one : Prepared). one.work) (sym same) ∙ does

  plan_is : (statement : Statement) (plan : Plan)
      → Ok prepared ≡ ready_with statement (select_work plan) → plan ≡ planned.plan
  plan_is statement plan is =
      let same = work_is statement (select_work plan) is in
      let one : record { plan = plan } ≡ planned = cc in
      ap (λ (planned : Planned). planned.plan) one

  module _ (tokens : List Token) (are : AreTokens 0 text tokens) where
    answered : (select : SelectTree) → IsAnswer IsStatement tokens (Ok (said.Select select))
        → faults_of tables select ≡ [] → unbuilt_places tokens select ≡ []
        → Answers (plan_for tables (query_of tables select))
    unfolding plan_for
    answered select read faultless built =
        let query : Query = query_of tables select in
        let resolved : IsQueryOf tables select query =
        record { faultless = faultless; is = refl } in
        let from = statement_bounded tokens (said.Select select) read.0 in
        record {
          tokens = tokens;
          are = are;
          select = select;
          read = read.0;
          query = query;
          resolved = resolved;
          names_are = refl;
          answered = scan_answers total query tables
              (query-plain tables select from (is_built tokens select built));
        }

    by_answer : (select : SelectTree) → IsAnswer IsStatement tokens (Ok (said.Select select))
        → (fault : Option Fault) → least (faults_of tables select) ≡ fault
        → (place : Option ℕ) → least_place (unbuilt_places tokens select) ≡ place
        → Ok prepared
        ≡ unless_faulty fault (planned_or_unsupported tables (said.Select select) select place)
        → Answers planned.plan
    by_answer select read None faultless None built is =
        subst Answers (plan_is (said.Select select) (plan_for tables (query_of tables select)) is)
        (answered select read (no_faults _ faultless) (none_least _ built))
    by_answer select read None faultless (Some place) unbuilt is = absurd (cc is)
    by_answer select read (Some fault) faulty place built is = absurd (cc is)

    refused : (fault : Option Fault) → Ok prepared ≡ unless_faulty fault (unsupported tokens) → ⊥
    refused None is = cc
    refused (Some fault) is = cc

    by_statement : (statement : Statement) → IsAnswer IsStatement tokens (Ok statement)
        → Ok prepared ≡ answer_to tables tokens statement → Answers planned.plan
    by_statement (said.Select select) read is = by_answer select read _ refl _ refl is
    by_statement (said.Explain select) read is =
        absurd (refused (least (faults_of tables select)) is)
    by_statement (said.Analyze select) read is =
        absurd (refused (least (faults_of tables select)) is)
    by_statement (said.Show kind id) read is =
        absurd (cc (work_is (said.Show kind id) (work.Show kind id) is))
    by_statement (said.Kill kind id) read is =
        absurd (cc (work_is (said.Kill kind id) (work.Kill kind id) is))
    by_statement (said.SetLimit limit) read is =
        absurd (cc (work_is (said.SetLimit limit) (work.SetLimit limit) is))
    by_statement (said.Wait id at) read is =
        absurd (cc (work_is (said.Wait id at) (work.Wait id at) is))
    by_statement statement read is = absurd (cc is)

  by_preparing : Prepares tables text (Ok prepared) → Answers planned.plan
  by_preparing (has_no_tokens kind place found is) = absurd (cc is)
  by_preparing (is_no_statement tokens are fault found known is) = absurd (cc is)
  by_preparing (is_statement tokens are statement read is) =
      by_statement tokens are statement read is

pub ready_answers : IsTotalOrder order_of → (tables : List Table) (text : List ℕ)
    (prepared : Prepared) (planned : Planned)
    → Prepares tables text (Ok prepared) → prepared.work ≡ work.Select planned
    → AnswersText tables text (map (λ (item : Item). item.name) planned.plan.select)
    (output planned.plan tables)
ready_answers total tables text prepared planned prepares does =
    by_preparing total tables text prepared planned does prepares
