-- What a statement that is ready to run does is sound.
use Rattle.std.proofs.Common.{◌≡◌, ℕ, ◌≤◌, List, [], ◌∷◌, length, refl, sym, subst, ap, ◌∙◌}
use Rattle.std.specs.Prelude.{Option, Some, None, Ok}
use Rattle.sa_lexer.specs.declared.token.Token.{Token}
use Rattle.sa_ast.specs.declared.select.SelectTree.{SelectTree}
use Rattle.sa_ast.specs.declared.statement.Statement.{Statement}
use Rattle.sa_ast.specs.declared.statement.Statement.TheVariants as said
use Rattle.sa_print.specs.Statement.{canonical_statement}
use Rattle.sa_query.specs.declared.query.Query.{Query}
use Rattle.sa_resolve.specs.Fault.{Fault, earlier, least}
use Rattle.sa_resolve.specs.Resolved.{IsQueryOf, faults_of, query_of}
use Rattle.sa_table.specs.Table.{Table}
use Rattle.sa_plan.specs.declared.prepared.Prepared.{Prepared}
use Rattle.sa_plan.specs.declared.prepared.Work.{Work}
use Rattle.sa_plan.specs.declared.prepared.Work.TheVariants as work
use Rattle.sa_prepare.specs.PlanFor.{plan_for}
use Rattle.sa_prepare.specs.Prepared.{select_work, ready_with, work_of, built_or_unsupported, planned_or_unsupported, unsupported, unless_faulty, answer_to, Prepares, has_no_tokens, is_no_statement, is_statement}
use Rattle.sa_prepare.specs.Sound.{IsSoundPlan, IsSoundWork}
use Rattle.sa_prepare.specs.Unbuilt.{least_place, unbuilt_places}
use Rattle.sa_prepare.proofs.Bounded.{IsBounded, statement_bounded}
use Rattle.sa_prepare.proofs.Planning.{is_ready}
use Rattle.sa_prepare.proofs.SoundPlan.{plan-sound}

none-earlier : (fault : Fault) (other : Option Fault) → earlier fault other ≡ None → ⊥
none-earlier fault None is = cc
none-earlier fault (Some other) is = cc

none-least : (faults : List Fault) → least faults ≡ None → faults ≡ []
none-least [] is = refl
none-least (fault ∷ faults) is = absurd (none-earlier fault (least faults) is)

module _ (tables : List Table) where
  same-work : (statement : Statement) (does : Work) (prepared : Prepared) → Ok prepared ≡ ready_with statement does → does ≡ prepared.work
  same-work statement does prepared is =
      let same : prepared ≡ record { text = canonical_statement statement; work = does } = cc in ap (λ (prepared : Prepared). prepared.work) (sym same)

  -- a SELECT

  module _ (tokens : List Token) (select : SelectTree) (some : 1 ≤ length select.from) where
    statement-sound : (place : Option ℕ) → least_place (unbuilt_places tokens select) ≡ place → least (faults_of tables select) ≡ None
        → (prepared : Prepared) → Ok prepared ≡ planned_or_unsupported tables (said.Select select) select place → IsSoundWork tables prepared.work
    statement-sound None none faultless prepared is =
        let query : IsQueryOf tables select (query_of tables select) = record { faultless = none-least (faults_of tables select) faultless; is = refl } in
        let ready = is_ready tables tokens select (query_of tables select) some none query in
        subst (IsSoundWork tables) (same-work (said.Select select) (select_work (plan_for tables (query_of tables select))) prepared is)
        (plan-sound tables (query_of tables select) ready.plain ready.fit)
    statement-sound (Some place) found faultless prepared is = absurd cc

    select-sound : (fault : Option Fault) → least (faults_of tables select) ≡ fault
        → (prepared : Prepared) → Ok prepared ≡ unless_faulty fault (planned_or_unsupported tables (said.Select select) select (least_place (unbuilt_places tokens select)))
        → IsSoundWork tables prepared.work
    select-sound None faultless prepared is = statement-sound _ refl faultless prepared is
    select-sound (Some fault) told prepared is = absurd cc

  -- a statement that has a SELECT and isn't built
  other-sound : (tokens : List Token) (fault : Option Fault) (prepared : Prepared) → Ok prepared ≡ unless_faulty fault (unsupported tokens) → IsSoundWork tables prepared.work
  other-sound tokens None prepared is = absurd cc
  other-sound tokens (Some fault) prepared is = absurd cc

  -- any other one

  as-work : (one does : Work) → Some one ≡ Some does → IsSoundWork tables one → IsSoundWork tables does
  as-work one does is sound = let same : one ≡ does = cc in subst (IsSoundWork tables) same sound

  work-sound : (statement : Statement) → IsBounded statement → (does : Work) → work_of statement ≡ Some does → IsSoundWork tables does
  work-sound (said.Show kind id) bounded does is = as-work (work.Show kind id) does is tt
  work-sound (said.Kill kind id) bounded does is = as-work (work.Kill kind id) does is tt
  work-sound (said.SetLimit limit) bounded does is = as-work (work.SetLimit limit) does is bounded
  work-sound (said.Wait id at) bounded does is = as-work (work.Wait id at) does is tt
  work-sound statement bounded does is = absurd cc

  ready-as : (tokens : List Token) (statement : Statement) (does : Option Work) (prepared : Prepared) → Ok prepared ≡ built_or_unsupported tokens statement does → does ≡ Some prepared.work
  ready-as tokens statement None prepared is = absurd cc
  ready-as tokens statement (Some does) prepared is = ap (λ does. Some does) (same-work statement does prepared is)

  answer-sound : (tokens : List Token) (statement : Statement) → IsBounded statement → (prepared : Prepared) → Ok prepared ≡ answer_to tables tokens statement
      → IsSoundWork tables prepared.work
  answer-sound tokens (said.Select select) bounded prepared is = select-sound tokens select bounded _ refl prepared is
  answer-sound tokens (said.Explain select) bounded prepared is = other-sound tokens (least (faults_of tables select)) prepared is
  answer-sound tokens (said.Analyze select) bounded prepared is = other-sound tokens (least (faults_of tables select)) prepared is
  answer-sound tokens statement bounded prepared is =
      work-sound statement bounded prepared.work (ready-as tokens statement (work_of statement) prepared is)

  pub prepared_is_sound : (text : List ℕ) (prepared : Prepared) → Prepares tables text (Ok prepared) → IsSoundWork tables prepared.work
  prepared_is_sound text prepared (has_no_tokens kind place found is) = absurd cc
  prepared_is_sound text prepared (is_no_statement tokens are fault found known is) = absurd cc
  prepared_is_sound text prepared (is_statement tokens are statement read is) =
      answer-sound tokens statement (statement_bounded tokens statement read.0) prepared is
