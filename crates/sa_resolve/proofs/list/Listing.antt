-- A select list with an item more.
use Rattle.std.proofs.Common.{◌≡◌, ℕ, ◌+◌, ◌<◌, ◌≤◌, ◌&&◌, List, [], ◌∷◌, ◌++◌, map, length, take, drop, get_or, ◌-◌, replicate, Option, Some, None, option_map, refl, sym, ap, subst, ◌∙◌, arith}
use Rattle.std.proofs.lemmas.List.{append-nil, append_assoc, length-append, length-map, map-append, take_more}
use Rattle.std.proofs.lemmas.List.Concat.{flat_map-append}
use Rattle.std.specs.Borrow.{Bor}
use Rattle.std.specs.List.{flat_map, slice_get}
use Rattle.std.specs.Prelude.{nat_le, nat_lt}
use Rattle.sa_ast.specs.declared.expression.ExprTree.{ExprTree}
use Rattle.sa_ast.specs.declared.name.NameTree.{NameTree}
use Rattle.sa_ast.specs.declared.select.ItemNode.TheVariants as nodes
use Rattle.sa_ast.specs.declared.select.ItemTree.{ItemTree}
use Rattle.sa_table.specs.Table.{Table}
use Rattle.sa_query.specs.declared.group.Aggregate.{Aggregate}
use Rattle.sa_query.specs.declared.refusal.ResolveKind.TheVariants.{TooManyItems}
use Rattle.sa_resolve.specs.declared.select.Chosen.{Chosen}
use Rattle.sa_resolve.specs.declared.select.Chosen.TheVariants.{Columns, Value}
use Rattle.sa_resolve.specs.declared.select.Part.{Part}
use Rattle.sa_resolve.specs.declared.select.SelectList.{SelectList}
use Rattle.sa_resolve.specs.declared.select.Valued.{Valued}
use Rattle.sa_resolve.specs.declared.sight.Sight.{Sight}
use Rattle.sa_resolve.specs.Expression.{Scope, reading}
use Rattle.sa_resolve.specs.Fault.{Fault, least, told}
use Rattle.sa_resolve.specs.Faults.{too_many}
use Rattle.sa_resolve.specs.Selected.{Selected, alias_in, item_name, items_at, selected, star_faults}
use Rattle.sa_resolve.specs.inner.Least.{fault_of, sooner}
use Rattle.sa_resolve.specs.inner.Listing.{AreParts, Chooses, IsChosen, IsSelectList, Puts, aggregates_of, columns_in, size_of, starred}
use Rattle.sa_resolve.specs.inner.Looking.{LooksUp}
use Rattle.sa_resolve.proofs.list.Choosing.{chosen_length}
use Rattle.sa_resolve.proofs.list.Enumerated.{map-map}
use Rattle.sa_resolve.proofs.list.Faults.{least-both}
use Rattle.sa_resolve.proofs.list.Limit.{map_same, too_many_more}
use Rattle.sa_resolve.proofs.list.Lists.{get_front, get_back}
use Rattle.sa_resolve.proofs.list.Parts.{items_of, parts_more, selected_push}

module _ (tables : List Table) (scope : Scope) (sight : Sight) where
  -- An item that is an expression.
  pub value_chosen : (before after : List Aggregate) (tree : ItemTree) (value : ExprTree)
      (alias : Option NameTree) (valued : Valued)
      → tree.item ≡ nodes.Value value alias → valued.tree.now ≡ value
      → option_map (λ tree. tree.now) valued.alias ≡ alias
      → LooksUp before after valued.looked (reading tables scope value)
      → valued.row ≡ (reading tables scope value).row
      → Chooses tables scope sight before after tree (Value valued)
  value_chosen before after tree value alias valued node tree_is alias_is looks row = record {
    items = subst (λ node. IsChosen tables scope sight tree.place (Value valued)
        (items_at tables scope tree.place node)) (sym node) (
          refl,
          record {
            item = ap (reading tables scope) (sym tree_is);
            name = ap (λ tree. item_name tree alias) (sym tree_is)
                ∙ ap (item_name valued.tree.now) (sym alias_is);
            alias = alias_there valued.alias alias alias_is;
            looked = looks.looked_is;
            row = row;
          },
        );
    aggregates = looks.aggregates
        ∙ ap (λ more. before ++ more) (sym (append-nil (reading tables scope value).aggregates)
        ∙ ap (λ node. aggregates_of (items_at tables scope tree.place node)) (sym node));
  }
    where
      alias_there : (kept : Option (Bor NameTree)) (alias : Option NameTree)
          → option_map (λ tree. tree.now) kept ≡ alias
          → alias_in alias ≡ option_map (λ tree. tree.now.name) kept
      alias_there None alias is = ap alias_in (sym is)
      alias_there (Some kept) alias is = ap alias_in (sym is)

  chosen_places : (place : ℕ) (chosen : Chosen) (items : List Selected)
      → IsChosen tables scope sight place chosen items
      → map (λ (one : Selected). one.place) items ≡ replicate (length items) place
  chosen_places place (Columns run) items is =
      let columns = columns_in sight run in
      ap (map (λ (one : Selected). one.place)) is.items_are
      ∙ map-map (λ (one : Selected). one.place) (starred tables scope sight place) columns
      ∙ map_same (λ column. place) place columns (λ column. refl)
      ∙ ap (λ n. replicate n place) (sym (length-map columns (starred tables scope sight place))
      ∙ ap (λ (all : List Selected). length all) (sym is.items_are))
  chosen_places place (Value valued) (one ∷ []) is = ap (λ at. at ∷ []) is.0
  chosen_places place (Value valued) [] is = absurd is
  chosen_places place (Value valued) (one ∷ other ∷ others) is = absurd is

  stars_of : ItemTree → List Fault
  stars_of tree = star_faults tables scope tree.item

  places_of : List ItemTree → List ℕ
  places_of trees = map (λ (one : Selected). one.place) (selected tables scope trees)

  count_more : (trees : List ItemTree) (tree : ItemTree) (old size : ℕ)
      → old ≡ length (selected tables scope trees)
      → length (items_of tables scope sight tree) ≡ size
      → old + size ≡ length (selected tables scope (trees ++ tree ∷ []))
  count_more trees tree old size old_is size_is =
      let sum = length-append (selected tables scope trees) (items_of tables scope sight tree) in
      let pushed = ap (λ (all : List Selected). length all) (selected_push tables scope sight trees tree) in
      omega arith

  -- the item too many of one item more
  limit_more : (trees : List ItemTree) (tree : ItemTree) (old size : ℕ)
      → old ≡ length (selected tables scope trees)
      → length (items_of tables scope sight tree) ≡ size
      → map (λ (one : Selected). one.place) (items_of tables scope sight tree) ≡ replicate size tree.place
      → too_many TooManyItems 64 (places_of trees) ++ told (nat_le old 64 && nat_lt 64 (old + size))
      TooManyItems tree.place
      ≡ too_many TooManyItems 64 (places_of (trees ++ tree ∷ []))
  unfolding places_of
  limit_more trees tree old size old_is size_is places =
      let length_is : old ≡ length (places_of trees) = old_is
      ∙ sym (length-map (selected tables scope trees) (λ (one : Selected). one.place)) in
      ap (λ n. too_many TooManyItems 64 (places_of trees) ++ told (nat_le n 64 && nat_lt 64 (n + size))
      TooManyItems tree.place) length_is
      ∙ sym (too_many_more TooManyItems 64 size tree.place (places_of trees))
      ∙ ap (λ more. too_many TooManyItems 64 (places_of trees ++ more)) (sym places)
      ∙ ap (too_many TooManyItems 64) (sym (map-append (λ (one : Selected). one.place)
      (selected tables scope trees) (items_of tables scope sight tree)))
      ∙ ap (λ all. too_many TooManyItems 64 (map (λ (one : Selected). one.place) all))
      (sym (selected_push tables scope sight trees tree))

  -- One item more.
  pub list_more : (trees : List ItemTree) (tree : ItemTree) (old middle new : SelectList) (chosen : Chosen)
      (before after : List Aggregate)
      → IsSelectList tables scope sight trees old
      → middle.parts.items ≡ old.parts.items → middle.count ≡ old.count
      → fault_of middle.fault ≡ sooner (fault_of old.fault) (least (star_faults tables scope tree.item))
      → Chooses tables scope sight before after tree chosen
      → Puts middle new tree.place chosen
      → IsSelectList tables scope sight (trees ++ tree ∷ []) new
  unfolding stars_of places_of
  list_more trees tree old middle new chosen before after is parts count fault chooses puts =
      let size : length (items_of tables scope sight tree) ≡ size_of chosen =
      chosen_length tables scope sight tree.place chosen (items_of tables scope sight tree) chooses.items in
      let before_is : middle.count ≡ length (selected tables scope trees) = count ∙ is.count in
      let part : Part = record { place = tree.place; first = middle.count; chosen = chosen } in
      let places : map (λ (one : Selected). one.place) (items_of tables scope sight tree)
      ≡ replicate (size_of chosen) tree.place =
      chosen_places tree.place chosen (items_of tables scope sight tree) chooses.items
      ∙ ap (λ n. replicate n tree.place) size in
      let stars = flat_map stars_of trees in
      let limit = too_many TooManyItems 64 (places_of trees) in
      let last = told (nat_le middle.count 64 && nat_lt 64 (middle.count + size_of chosen)) TooManyItems
      tree.place in
      record {
        parts = subst (λ parts. AreParts tables scope sight 0 parts (trees ++ tree ∷ [])) (sym (puts.parts
            ∙ ap (λ parts. parts ++ part ∷ []) parts))
            (parts_more tables scope sight 0 old.parts.items trees is.parts part tree
            (record {
              place = refl;
              first_is = before_is ∙ zero_and (length (selected tables scope trees));
              chosen = chooses.items;
            }));
        count = puts.count ∙ count_more trees tree middle.count (size_of chosen) before_is size;
        fault = puts.fault ∙ ap (λ one. sooner one (least last)) fault
            ∙ least-both stars limit (stars_of tree) last (fault_of old.fault) is.fault
            ∙ ap (λ more. least (more ++ (limit ++ last))) (ap (λ more. stars ++ more)
            (sym (append-nil (stars_of tree))) ∙ sym (flat_map-append stars_of trees (tree ∷ [])))
            ∙ ap (λ more. least (flat_map stars_of (trees ++ tree ∷ []) ++ more))
            (limit_more trees tree middle.count (size_of chosen) before_is size places);
      }
    where
      zero_and : (n : ℕ) → n ≡ 0 + n
      zero_and n = omega arith

  -- the list up to an item and the item's own
  pub lists_more : (items : List ItemTree) (i : ℕ) (d : ItemTree) (list : SelectList) → i < length items
      → IsSelectList tables scope sight (take i items ++ get_or items i d ∷ []) list
      → IsSelectList tables scope sight (take (i + 1) items) list
  lists_more items i d list there is = subst (λ trees. IsSelectList tables scope sight trees list)
      (sym (take_more items i d there)) is

  pub aggregates_more : (items : List ItemTree) (i : ℕ) (d : ItemTree) (first before after : List Aggregate)
      → i < length items
      → before ≡ first ++ aggregates_of (selected tables scope (take i items))
      → after ≡ before ++ aggregates_of (items_of tables scope sight (get_or items i d))
      → after ≡ first ++ aggregates_of (selected tables scope (take (i + 1) items))
  aggregates_more items i d first before after there so_far more =
      more
      ∙ ap (λ all. all ++ aggregates_of (items_of tables scope sight (get_or items i d))) so_far
      ∙ append_assoc first (aggregates_of (selected tables scope (take i items)))
      (aggregates_of (items_of tables scope sight (get_or items i d)))
      ∙ ap (λ rest. first ++ rest) (sym (flat_map-append (λ (one : Selected). one.item.aggregates)
      (selected tables scope (take i items))
      (items_of tables scope sight (get_or items i d)))
      ∙ ap aggregates_of (sym (selected_push tables scope sight (take i items) (get_or items i d)))
      ∙ ap (λ trees. aggregates_of (selected tables scope trees)) (sym (take_more items i d there)))

  -- The item that is sought is one of this part's.
  pub found_here : (parts : List Part) (trees : List ItemTree)
      (are : AreParts tables scope sight 0 parts trees)
      → (index left : ℕ) (part : Part) (tree : ItemTree) → drop index trees ≡ tree ∷ drop (index + 1) trees
      → IsChosen tables scope sight tree.place part.chosen (items_of tables scope sight tree)
      → left < size_of part.chosen
      → slice_get (selected tables scope (drop index trees)) left
      ≡ slice_get (items_of tables scope sight tree) left
  found_here parts trees are index left part tree rest is few =
      ap (λ trees. slice_get (selected tables scope trees) left) rest
      ∙ get_front (items_of tables scope sight tree) (selected tables scope (drop (index + 1) trees)) left
      (let n = chosen_length tables scope sight tree.place part.chosen (items_of tables scope sight tree)
      is in omega arith)

  -- It is behind this part.
  pub found_behind : (trees : List ItemTree) (index left size : ℕ) (part : Part) (tree : ItemTree)
      → drop index trees ≡ tree ∷ drop (index + 1) trees
      → IsChosen tables scope sight tree.place part.chosen (items_of tables scope sight tree)
      → size ≡ size_of part.chosen → size ≤ left
      → slice_get (selected tables scope (drop index trees)) left
      ≡ slice_get (selected tables scope (drop (index + 1) trees)) (left - size)
  found_behind trees index left size part tree rest is size_is behind =
      let n = chosen_length tables scope sight tree.place part.chosen (items_of tables scope sight tree) is in
      let same : length (items_of tables scope sight tree) ≡ size = n ∙ sym size_is in
      ap (λ trees. slice_get (selected tables scope trees) left) rest
      ∙ get_back (items_of tables scope sight tree) (selected tables scope (drop (index + 1) trees)) left
      (omega arith)
      ∙ ap (λ n. slice_get (selected tables scope (drop (index + 1) trees)) (left - n)) same
