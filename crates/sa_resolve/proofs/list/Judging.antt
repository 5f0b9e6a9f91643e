-- What is wrong with the items of a select list.
use Rattle.std.proofs.Common.{◌≡◌, ℕ, ◌+◌, List, [], ◌∷◌, ◌++◌, map, take, Option, refl, sym, ap, ◌∙◌}
use Rattle.std.proofs.lemmas.List.Concat.{flat_map-append}
use Rattle.std.specs.List.{flat_map}
use Rattle.sa_ast.specs.declared.select.ItemTree.{ItemTree}
use Rattle.sa_table.specs.Table.{Table}
use Rattle.sa_query.specs.declared.group.Column.{Column}
use Rattle.sa_resolve.specs.declared.select.Run.{Run}
use Rattle.sa_resolve.specs.declared.sight.Sight.{Sight}
use Rattle.sa_resolve.specs.Clauses.{Clauses, slots_of}
use Rattle.sa_resolve.specs.Expression.{Scope}
use Rattle.sa_resolve.specs.Fault.{Fault, least}
use Rattle.sa_resolve.specs.Faults.{loose_faults, own_faults}
use Rattle.sa_resolve.specs.Node.{Slots}
use Rattle.sa_resolve.specs.NodeFaults.{no_value}
use Rattle.sa_resolve.specs.Reading.{Reading}
use Rattle.sa_resolve.specs.Selected.{Selected, selected}
use Rattle.sa_resolve.specs.inner.Gist.{Gist, gist_at, value_fault}
use Rattle.sa_resolve.specs.inner.Grouped.{loose_by}
use Rattle.sa_resolve.specs.inner.Least.{fault_of, sooner}
use Rattle.sa_resolve.specs.inner.Listing.{IsRun, columns_in, starred}
use Rattle.sa_resolve.specs.inner.Looking.{IsLooked}
use Rattle.sa_resolve.specs.declared.look.Looked.{Looked}
use Rattle.sa_resolve.proofs.LeastLemmas.{least-append, sooner-assoc}
use Rattle.sa_resolve.proofs.list.Grouping.{loose_is}
use Rattle.sa_resolve.proofs.list.Parts.{items_of, selected_push}

-- What is wrong with an expression, where its parts are known.
pub own_is : (clauses : Clauses) (looked : Looked) (item : Reading) (own value loose : Option Fault)
    → IsLooked looked item → value ≡ value_fault (gist_at looked.facts)
    → own ≡ sooner (fault_of looked.facts.fault) value → loose ≡ least (loose_faults clauses item)
    → sooner own loose ≡ least (own_faults clauses item)
own_is clauses looked item own value loose is value_is sum_is rest_is =
    ap (λ own. sooner own loose) sum_is
    ∙ ap (λ fault. sooner (sooner fault value) loose) (ap (λ (gist : Gist). gist.fault) is.gist)
    ∙ ap (λ value. sooner (sooner (least item.faults) value) loose) (value_is ∙ ap value_fault is.gist)
    ∙ ap (sooner (sooner (least item.faults) (least (no_value item)))) rest_is
    ∙ ap (λ one. sooner one (least (loose_faults clauses item)))
    (sym (least-append item.faults (no_value item)))
    ∙ sym (least-append (item.faults ++ no_value item) (loose_faults clauses item))

module _ (tables : List Table) (scope : Scope) (sight : Sight) (clauses : Clauses) where
  faults_in : List Selected → List Fault
  faults_in items = flat_map (λ (one : Selected). own_faults clauses one.item) items

  star_faults_are : (place : ℕ) (held : Option Slots) → held ≡ slots_of clauses → (columns : List Column)
      → flat_map (λ column. loose_by held ((place, column) ∷ [])) columns
      ≡ flat_map (λ (one : Selected). own_faults clauses one.item)
      (map (starred tables scope sight place) columns)
  star_faults_are place held is [] = refl
  star_faults_are place held is (column ∷ columns) =
      ap (λ first. first ++ flat_map (λ column. loose_by held ((place, column) ∷ [])) columns)
      (sym (loose_is clauses held (starred tables scope sight place column).item is))
      ∙ ap (λ rest. own_faults clauses (starred tables scope sight place column).item ++ rest)
      (star_faults_are place held is columns)

  -- the columns of a star
  pub star_judged : (place : ℕ) (run : Run) (items : List Selected) → IsRun tables scope sight place run items
      → (held : Option Slots) → held ≡ slots_of clauses → (at : ℕ) → at ≡ place → (columns : List Column)
      → columns ≡ columns_in sight run
      → (fault : Option Fault) → fault ≡ least (flat_map (λ column. loose_by held ((at, column) ∷ []))
      columns)
      → fault ≡ least (flat_map (λ (one : Selected). own_faults clauses one.item) items)
  star_judged place run items is held slots at at_is columns columns_is fault fault_is =
      fault_is
      ∙ ap (λ at. least (flat_map (λ column. loose_by held ((at, column) ∷ [])) columns)) at_is
      ∙ ap (λ columns. least (flat_map (λ column. loose_by held ((place, column) ∷ [])) columns)) columns_is
      ∙ ap least (star_faults_are place held slots (columns_in sight run))
      ∙ ap (λ items. least (flat_map (λ (one : Selected). own_faults clauses one.item) items))
      (sym is.items_are)

  -- the items of a part more
  pub judged_more : (trees : List ItemTree) (index : ℕ) (tree : ItemTree)
      (first before part after : Option Fault)
      → take (index + 1) trees ≡ take index trees ++ tree ∷ []
      → before ≡ sooner first (least (flat_map (λ (one : Selected). own_faults clauses one.item)
      (selected tables scope (take index trees))))
      → part ≡ least (flat_map (λ (one : Selected). own_faults clauses one.item)
      (items_of tables scope sight tree))
      → after ≡ sooner before part
      → after ≡ sooner first (least (flat_map (λ (one : Selected). own_faults clauses one.item)
      (selected tables scope (take (index + 1) trees))))
  unfolding faults_in
  judged_more trees index tree first before part after taken so_far part_is is =
      let so = selected tables scope (take index trees) in
      let more = items_of tables scope sight tree in
      is
      ∙ ap (λ one. sooner one part) so_far
      ∙ ap (sooner (sooner first (least (faults_in so)))) part_is
      ∙ sooner-assoc first (least (faults_in so)) (least (faults_in more))
      ∙ ap (sooner first) (sym (least-append (faults_in so) (faults_in more))
      ∙ ap least (sym (flat_map-append (λ (one : Selected). own_faults clauses one.item) so more))
      ∙ ap (λ items. least (faults_in items)) (sym (selected_push tables scope sight (take index trees) tree))
      ∙ ap (λ trees. least (faults_in (selected tables scope trees))) (sym taken))
