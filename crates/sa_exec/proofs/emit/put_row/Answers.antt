use Rattle.std.proofs.Common.{◌≡◌, ℕ, ◌+◌, ◌<◌, List, [], ◌∷◌, ◌++◌, length, map, take, get_or, sym, ap, subst, ◌∙◌}
use Rattle.std.proofs.lemmas.List.{take_all, map_more}
use Rattle.sa_value.specs.declared.value.Value.{Value}
use Rattle.sa_cond.specs.Expression.{expr_value}
use Rattle.sa_plan.specs.Chosen.{choice_of}
use Rattle.sa_query.specs.declared.item.Item.{Item}
use Rattle.sa_plan.specs.Lawful.{IsLawfulExpr}
use Rattle.sa_meaning.specs.Items.{selected}
use Rattle.sa_exec.proofs.Cells.{chosen_of, expr_is_there, expr_can_be_evaluated}
use Rattle.sa_exec.proofs.emit.put_row.Goals as goal

-- One value more.
one_more : (value_of : Item → Value) (select : List Item) (index : ℕ) (item : Item) (before after : List Value) (value : Value)
    → index < length select → item ≡ get_or select index item → before ≡ map value_of (take index select) → value ≡ value_of item
    → after ≡ before ++ value ∷ [] → after ≡ map value_of (take (index + 1) select)
one_more value_of select index item before after value within here so_far value_is pushed =
    let more = map_more value_of select index item within in cc

pub value_of-requires-clause-there : goal.value_of-requires-clause-there
value_of-requires-clause-there c =
    let lawful = c.requires.select c.loop-item.item-index c.item-item.result c.loop-item-test.true in
    let lawful_here = subst (λ (item : Item). IsLawfulExpr c.args.tables.now (c.args.level.now ∷ []) item.value) (sym c.item-item.is) lawful in
    expr_is_there c.args.tables.now c.args.level.now c.args.row c.item-item.result.value c.requires.lawful.there c.requires.row lawful_here

pub value_of-requires-clause-typed : goal.value_of-requires-clause-typed
value_of-requires-clause-typed c =
    let lawful = c.requires.select c.loop-item.item-index c.item-item.result c.loop-item-test.true in
    let lawful_here = subst (λ (item : Item). IsLawfulExpr c.args.tables.now (c.args.level.now ∷ []) item.value) (sym c.item-item.is) lawful in
    expr_can_be_evaluated c.args.tables.now c.args.level.now c.args.row c.item-item.result.value c.requires.sound c.requires.lawful.there c.requires.row lawful_here

pub loop-item-preserved : goal.loop-item-preserved
loop-item-preserved c =
    one_more (λ (item : Item). expr_value (choice_of c.args.tables.now (chosen_of c.args.level.now c.args.row)) item.value)
    c.args.select.now c.loop-item.item-index c.item-item.result c.loop-item.values.items c.push.new.self.items c.in_ok-owned.field-0
    c.loop-item-test.true c.item-item.is c.loop-item.invariant (c.in_ok-owned.ensures ∙ c.value_of.ensures) c.in_ok-push.ensures.items

pub returns-clause-ok : goal.returns-clause-ok
unfolding selected
returns-clause-ok c =
    let all = c.from_vec.ensures ∙ c.loop-item.invariant ∙ ap (map (λ (item : Item). expr_value (choice_of c.args.tables.now (chosen_of c.args.level.now c.args.row)) item.value)) (take_all c.loop-item.item-index c.args.select.now c.loop-item-test.false) in
    rw (← all) c.push-2.ensures.ok
