use Rattle.std.proofs.Common.{◌≡◌, sym, ◌∙◌}
use Rattle.std.specs.Prelude.{Some, None, Err}
use Rattle.sa_prepare.specs.Unbuilt.{least_place, unbuilt_places}
use Rattle.sa_prepare.proofs.May.{may_select}
use Rattle.sa_prepare.proofs.Planning.{can_plan}
use Rattle.sa_prepare.proofs.select.answer_select.Goals as goal

pub answer_built-requires-clause-plan : goal.answer_built-requires-clause-plan
answer_built-requires-clause-plan c =
    let none : least_place (unbuilt_places c.args.tokens.now c.args.select.now) ≡ None = sym c.in-Ok-None.ensures ∙ c.in-Ok-None.field-0-is in
    λ query is. can_plan c.args.tables.now c.args.tokens.now c.args.select.now query c.requires.from none is

pub returns-in-Ok-None : goal.returns-in-Ok-None
returns-in-Ok-None c =
    let found : None ≡ least_place (unbuilt_places c.args.tokens.now c.args.select.now) = sym c.in-Ok-None.field-0-is ∙ c.in-Ok-None.ensures in
    may_select c.args.tables.now c.args.tokens.now c.args.statement.now c.args.select.now None found c.answer_built.result c.answer_built.ensures

pub returns-in-Ok-Some : goal.returns-in-Ok-Some
returns-in-Ok-Some c =
    let found : Some c.in-Ok-Some.place ≡ least_place (unbuilt_places c.args.tokens.now c.args.select.now) = sym c.in-Ok-Some.field-0-is ∙ c.in-Ok-Some.ensures in
    may_select c.args.tables.now c.args.tokens.now c.args.statement.now c.args.select.now (Some c.in-Ok-Some.place) found (Err c.fault_or.result) c.fault_or.ensures
