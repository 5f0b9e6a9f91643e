use Rattle.std.proofs.Common.{◌≡◌, ◌++◌, [], List, Option, sym, ap, subst, ◌∙◌}
use Rattle.std.specs.List.{flat_map}
use Rattle.std.specs.Prelude.{IfErr}
use Rattle.std.specs.Result.{IsErrAnd}
use Rattle.std.specs.declared.result.Result.{Result}
use Rattle.std.proofs.lemmas.Result.{IfErr-weaker, IfOk-weaker, err_from_is_err_and}
use Rattle.sa_ast.specs.declared.select.ItemTree.{ItemTree}
use Rattle.sa_ast.specs.declared.select.TableTree.{TableTree}
use Rattle.sa_query.specs.declared.group.Aggregate.{Aggregate}
use Rattle.sa_query.specs.declared.query.Query.{Query}
use Rattle.sa_resolve.specs.declared.fault.ResolveFault.{ResolveFault}
use Rattle.sa_resolve.specs.declared.fault.ResolveFault.TheVariants.{OutOfMemory}
use Rattle.sa_resolve.specs.declared.sight.Sight.{Sight}
use Rattle.sa_resolve.specs.Clauses.{clauses_with, items, select_scope}
use Rattle.sa_resolve.specs.Fault.{Fault}
use Rattle.sa_resolve.specs.Node.{Slots}
use Rattle.sa_resolve.specs.Selected.{Selected, aliases_of, selected}
use Rattle.sa_resolve.specs.Resolved.{faults_of}
use Rattle.sa_resolve.specs.Told.{IsToldOf}
use Rattle.sa_resolve.specs.inner.Judging.{IsReady}
use Rattle.sa_resolve.specs.inner.Knowing.{Knows, aggregates_in, answer_readings}
use Rattle.sa_resolve.specs.inner.Listing.{AreParts, IsSelectList}
use Rattle.sa_resolve.specs.inner.Names.{AreAliases, IsSight, Sees}
use Rattle.sa_resolve.proofs.names.Seeing.{Sees-rows}
use Rattle.sa_resolve.proofs.judging.Ready.{ready_is}
use Rattle.sa_resolve.proofs.judging.Resolving.{answer_aggregates, first_slots, query_is, told_is}
use Rattle.sa_resolve.proofs.judging.Sights.{sources_count}
use Rattle.sa_resolve.proofs.resolver.resolve.Goals as goal

sight_is : (c : goal.After-drop-sight-11) → IsSight c.args.tables.now c.args.tree.now.from c.in_ok-sight.sight
sight_is c = subst (λ (from : List TableTree). IsSight c.args.tables.now from c.in_ok-sight.sight) c.as_slice.ensures c.in_ok-sight.ensures

over_is : (c : goal.After-drop-sight-11) (found : Option Slots) → Sees c.args.tables.now (select_scope c.args.tables.now c.args.tree.now found) [] c.rows-over.result
over_is c found =
    Sees-rows c.args.tables.now c.args.tree.now.from [] found c.rows-over.result
    (subst (λ (sight : Sight). IsSight c.args.tables.now c.args.tree.now.from sight) (sym c.rows-over.ensures.sight) (sight_is c))
    (c.rows-over.ensures.count ∙ sources_count c.args.tables.now c.args.tree.now.from c.in_ok-sight.sight (sight_is c)) c.rows-over.ensures.seeks

list_is : (c : goal.After-drop-sight-11) (found : Option Slots)
    → IsSelectList c.args.tables.now (select_scope c.args.tables.now c.args.tree.now found) c.in_ok-sight.sight c.args.tree.now.items c.in_ok-select.select
list_is c found =
    subst (λ (trees : List ItemTree). IsSelectList c.args.tables.now (select_scope c.args.tables.now c.args.tree.now found) c.in_ok-sight.sight trees c.in_ok-select.select)
    c.as_slice-2.ensures
    (subst (λ (sight : Sight). IsSelectList c.args.tables.now (select_scope c.args.tables.now c.args.tree.now found) sight c.as_slice-2.result.now c.in_ok-select.select)
    c.rows-over.ensures.sight (c.in_ok-select.ensures c.args.tables.now (select_scope c.args.tables.now c.args.tree.now found) (over_is c found)).0)

aliases_are : (c : goal.After-drop-sight-11) (found : Option Slots)
    → AreAliases (items c.args.tables.now c.args.tree.now found) (aliases_of (items c.args.tables.now c.args.tree.now found)) c.in_ok-aliases.aliases
aliases_are c found =
    c.in_ok-aliases.ensures c.args.tables.now (select_scope c.args.tables.now c.args.tree.now found) c.in_ok-sight.sight c.args.tree.now.items
    (subst (λ parts. AreParts c.args.tables.now (select_scope c.args.tables.now c.args.tree.now found) c.in_ok-sight.sight 0 parts c.args.tree.now.items)
    (sym c.as_slice-3.ensures.value) (list_is c found).parts)

knows_is : (c : goal.After-drop-sight-11) (found : Option Slots) → Knows c.args.tables.now c.args.tree.now found c.new-reader.result
knows_is c found =
    c.new-reader.ensures.knows c.args.tables.now c.args.tree.now found (sight_is c) (list_is c found) (aliases_are c found)

aggregates_are : (c : goal.After-drop-sight-11) (found : Option Slots)
    → c.clauses.new.aggregates.items ≡ aggregates_in (answer_readings (clauses_with c.args.tables.now c.args.tree.now found))
aggregates_are c found =
    answer_aggregates (clauses_with c.args.tables.now c.args.tree.now found) c.look.new.aggregates.items _
    (subst (λ (trees : List ItemTree). c.look.new.aggregates.items
    ≡ flat_map (λ (one : Selected). one.item.aggregates) (selected c.args.tables.now (select_scope c.args.tables.now c.args.tree.now found) trees))
    c.as_slice-2.ensures
    ((c.in_ok-select.ensures c.args.tables.now (select_scope c.args.tables.now c.args.tree.now found) (over_is c found)).1
    ∙ ap (λ (first : List Aggregate). first ++ flat_map (λ (one : Selected). one.item.aggregates)
    (selected c.args.tables.now (select_scope c.args.tables.now c.args.tree.now found) c.as_slice-2.result.now)) c.new-aggregates.ensures.items))
    (c.in_ok-clauses.ensures c.args.tables.now found (knows_is c found)).1

known_is : (c : goal.After-drop-sight-11) → IsReady c.args.tables.now (first_slots c.args.tables.now c.args.tree.now)
    (record { tree = c.args.tree; reader = c.new-reader.result; clauses = c.in_ok-clauses.clauses }) c.in_ok-slots.slots
known_is c =
    ready_is c.args.tables.now (record { tree = c.args.tree; reader = c.new-reader.result; clauses = c.in_ok-clauses.clauses }) c.in_ok-slots.slots
    (knows_is c)
    (λ found. (c.in_ok-clauses.ensures c.args.tables.now found (knows_is c found)).0)
    (λ found. c.in_ok-slots.ensures c.args.tables.now c.args.tree.now found c.new-reader.result.rows.sight.now
    (c.in_ok-clauses.ensures c.args.tables.now found (knows_is c found)).0 (aggregates_are c found))

pub returns-clause-query : goal.returns-clause-query
returns-clause-query c =
    IfOk-weaker c.query.result _ _ (λ query is. query_is c.args.tables.now c.args.tree.now query is.0 is.1)
    (c.query.ensures.query c.args.tables.now (first_slots c.args.tables.now c.args.tree.now) (known_is c))

pub returns-clause-fault : goal.returns-clause-fault
returns-clause-fault c =
    IfErr-weaker c.query.result _ _ (λ fault is. told_is c.args.tables.now c.args.tree.now fault is)
    (c.query.ensures.fault c.args.tables.now (first_slots c.args.tables.now c.args.tree.now) (known_is c))

-- Of want of memory nothing is said.
untold : (faults : List Fault) (result : Result Query ResolveFault) → IsErrAnd result (λ fault. fault ≡ OutOfMemory) → IfErr result (IsToldOf faults)
untold faults result failed =
    let found = err_from_is_err_and result failed in
    subst (λ (result : Result Query ResolveFault). IfErr result (IsToldOf faults)) (sym found.1) (subst (IsToldOf faults) (sym found.2) tt)

pub returns-in_err-clauses-clause-fault : goal.returns-in_err-clauses-clause-fault
returns-in_err-clauses-clause-fault c =
    untold (faults_of c.args.tables.now c.args.tree.now) c.from_residual-in_err-clauses.result c.from_residual-in_err-clauses.ensures.1

pub returns-in_err-slots-clause-fault : goal.returns-in_err-slots-clause-fault
returns-in_err-slots-clause-fault c =
    untold (faults_of c.args.tables.now c.args.tree.now) c.from_residual-in_err-slots.result c.from_residual-in_err-slots.ensures.1
