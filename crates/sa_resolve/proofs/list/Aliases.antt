-- The aliases of a select list, one part after another.
use Rattle.std.proofs.Common.{◌≡◌, ℕ, ◌+◌, ◌<◌, Bool, true, false, cond, List, [], ◌∷◌, ◌++◌, map, length, take, drop, Option, Some, None, option_map, if◌then◌else◌, refl, sym, ap, subst, ◌∙◌, arith}
use Rattle.std.proofs.lemmas.List.{append-nil, take-append-drop}
use Rattle.std.proofs.lemmas.List.Concat.{flat_map-append}
use Rattle.std.proofs.lemmas.List.Elements.{filter-append}
use Rattle.std.proofs.lemmas.Option.{slice_get_within}
use Rattle.std.specs.Borrow.{Bor}
use Rattle.std.specs.List.{filter, slice_get}
use Rattle.std.specs.Str.{bytes_eq}
use Rattle.indexmap.specs.IndexMap.{get_by}
use Rattle.sa_ast.specs.declared.name.NameTree.{NameTree}
use Rattle.sa_ast.specs.declared.select.ItemTree.{ItemTree}
use Rattle.sa_table.specs.Create.{same_name}
use Rattle.sa_table.specs.Table.{Table}
use Rattle.sa_query.specs.declared.group.Column.{Column}
use Rattle.sa_resolve.specs.declared.alias.Alias.{Alias as Kept}
use Rattle.sa_resolve.specs.declared.alias.Aliases.{Aliases}
use Rattle.sa_resolve.specs.declared.sight.Lookup.{Lookup}
use Rattle.sa_resolve.specs.declared.sight.Lookup.TheVariants.{One, Nothing, Several}
use Rattle.sa_resolve.specs.declared.select.Chosen.TheVariants.{Value}
use Rattle.sa_resolve.specs.declared.select.Run.{Run}
use Rattle.sa_resolve.specs.declared.select.Valued.{Valued}
use Rattle.sa_resolve.specs.declared.sight.Sight.{Sight}
use Rattle.sa_resolve.specs.Expression.{Alias, Scope}
use Rattle.sa_resolve.specs.Reading.{Reading}
use Rattle.sa_resolve.specs.Selected.{Selected, alias_of, aliases_of, items_at, selected}
use Rattle.sa_resolve.specs.Sight.{as_list, only_one}
use Rattle.sa_resolve.specs.inner.Gist.{gist_at}
use Rattle.sa_resolve.specs.inner.Indexed.{with_alias}
use Rattle.sa_resolve.specs.inner.Listing.{IsChosen, IsRun, StandAt, columns_in, starred}
use Rattle.sa_resolve.specs.inner.Meanings.{IsAlias}
use Rattle.sa_resolve.specs.inner.Names.{AreAliases, IsFound}
use Rattle.sa_resolve.proofs.list.Choosing.{one_item}
use Rattle.sa_resolve.proofs.list.Lists.{get_front, get_back}
use Rattle.sa_resolve.proofs.list.Parts.{items_of, selected_push}

found_more : (listed : List Selected) (kept : Kept) (alias : Alias) → IsAlias listed kept alias.item
    → (found : Option (Lookup Kept)) (named : List Alias) → IsFound listed found (only_one named)
    → IsFound listed (with_alias kept found) (only_one (named ++ alias ∷ []))
found_more listed kept alias is None [] here = is
found_more listed kept alias is (Some (One other)) [] here = absurd here
found_more listed kept alias is (Some Nothing) [] here = absurd here
found_more listed kept alias is (Some Several) [] here = absurd here
found_more listed kept alias is None (one ∷ []) here = absurd here
found_more listed kept alias is (Some (One other)) (one ∷ []) here = tt
found_more listed kept alias is (Some Nothing) (one ∷ []) here = absurd here
found_more listed kept alias is (Some Several) (one ∷ []) here = absurd here
found_more listed kept alias is None (one ∷ two ∷ others) here = absurd here
found_more listed kept alias is (Some (One other)) (one ∷ two ∷ others) here = absurd here
found_more listed kept alias is (Some Nothing) (one ∷ two ∷ others) here = absurd here
found_more listed kept alias is (Some Several) (one ∷ two ∷ others) here = tt

found_by : (listed : List Selected) (kept : Kept) (alias : Alias) → IsAlias listed kept alias.item
    → (passes : Bool) (found : Option (Lookup Kept)) (named : List Alias)
    → IsFound listed found (only_one named)
    → IsFound listed (if passes then with_alias kept found else found)
    (only_one (named ++ cond passes (alias ∷ []) []))
found_by listed kept alias is true found named here = found_more listed kept alias is found named here
found_by listed kept alias is false found named here =
    subst (λ all. IsFound listed found (only_one all)) (sym (append-nil named)) here

-- an alias more
pub aliases_more : (listed : List Selected) (aliases : List Alias) (old new : Aliases) (kept : Kept)
    (alias : Alias)
    → IsAlias listed kept alias.item → AreAliases listed aliases old
    → ((other : List ℕ) → get_by (λ key. bytes_eq other key.now) new.names
    ≡ (if same_name alias.name other then with_alias kept (get_by (λ key. bytes_eq other key.now) old.names)
    else get_by (λ key. bytes_eq other key.now) old.names))
    → AreAliases listed (aliases ++ alias ∷ []) new
aliases_more listed aliases old new kept alias is are put = λ name.
    let test = λ (alias : Alias). same_name alias.name name in
    subst (λ found. IsFound listed found (only_one (filter test (aliases ++ alias ∷ [])))) (sym (put name))
    (subst (λ named. IsFound listed (if same_name alias.name name then with_alias kept
    (get_by (λ key. bytes_eq name key.now) old.names)
    else get_by (λ key. bytes_eq name key.now) old.names) (only_one named))
    (sym (filter-append test aliases (alias ∷ [])))
    (found_by listed kept alias is (same_name alias.name name)
    (get_by (λ key. bytes_eq name key.now) old.names) (filter test aliases) (are name)))

abbrev named_item : Reading → List ℕ → Alias
named_item item name = record { name = name; item = item }

module _ (tables : List Table) (scope : Scope) (sight : Sight) where
  no_aliases : (place : ℕ) (columns : List Column) → aliases_of
      (map (starred tables scope sight place) columns) ≡ []
  no_aliases place [] = refl
  no_aliases place (column ∷ columns) = no_aliases place columns

  -- a star has no alias
  pub star_aliases : (place : ℕ) (run : Run) (items : List Selected)
      → IsRun tables scope sight place run items → aliases_of items ≡ []
  star_aliases place run items is = ap aliases_of is.items_are ∙ no_aliases place (columns_in sight run)

  -- an item that has an alias
  pub value_aliased : (listed : List Selected) (kept : List Alias) (old new : Aliases) (first place : ℕ)
      (items : List Selected)
      → (valued : Valued) (name : Bor NameTree) (text : List ℕ) (alias : Kept)
      → IsChosen tables scope sight place (Value valued) items → StandAt listed first items
      → AreAliases listed kept old
      → valued.alias ≡ Some name → text ≡ name.now.name
      → gist_at alias.facts ≡ gist_at valued.looked.facts → alias.row.now ≡ valued.row → alias.item ≡ first
      → ((other : List ℕ) → get_by (λ key. bytes_eq other key.now) new.names
      ≡ (if same_name text other then with_alias alias (get_by (λ key. bytes_eq other key.now) old.names)
      else get_by (λ key. bytes_eq other key.now) old.names))
      → AreAliases listed (kept ++ aliases_of items) new
  value_aliased listed kept old new first place items valued name text alias is stands are named text_is facts
      row item put =
      let one = one_item tables scope sight place valued items is in
      let there : slice_get listed (first + 0) ≡ Some one.item = stands 0 one.item
      (ap (λ (all : List Selected). slice_get all 0) one.items_are) in
      let at : slice_get listed alias.item ≡ Some one.item = ap (slice_get listed)
      (at_first first alias.item item) ∙ there in
      let aliases : aliases_of items ≡ named_item one.item.item text ∷ [] =
      ap aliases_of one.items_are
      ∙ ap (λ (alias : Option (List ℕ)). map (named_item one.item.item) (as_list alias) ++ [])
      (one.is.alias ∙ ap (option_map (λ (tree : Bor NameTree). tree.now.name)) named
      ∙ ap (λ text. Some text) (sym text_is)) in
      subst (λ more. AreAliases listed (kept ++ more) new) (sym aliases)
      (aliases_more listed kept old new alias (named_item one.item.item text)
      (record {
        facts = facts ∙ one.is.looked.gist;
        row = row ∙ one.is.row;
        listed_is = ap (option_map (λ (other : Selected). other.item)) at;
      }) are put)
    where
      at_first : (first item : ℕ) → item ≡ first → item ≡ first + 0
      at_first first item is = omega arith

  -- where the items of a part stand in the list
  pub part_stands : (trees : List ItemTree) (index : ℕ) (tree : ItemTree)
      → drop index trees ≡ tree ∷ drop (index + 1) trees
      → StandAt (selected tables scope trees) (0 + length (selected tables scope (take index trees)))
      (items_of tables scope sight tree)
  part_stands trees index tree rest = λ k one is.
      let front = selected tables scope (take index trees) in
      let here = items_of tables scope sight tree in
      let behind = selected tables scope (drop (index + 1) trees) in
      let whole : selected tables scope trees ≡ front ++ (here ++ behind) =
      ap (selected tables scope) (sym (take-append-drop index trees))
      ∙ flat_map-append (λ (tree : ItemTree). items_at tables scope tree.place tree.item) (take index trees)
      (drop index trees)
      ∙ ap (λ trees. front ++ selected tables scope trees) rest in
      let few : k < length here = slice_get_within here k one is in
      ap (λ all. slice_get all (0 + length front + k)) whole
      ∙ get_back front (here ++ behind) (0 + length front + k) (omega arith)
      ∙ ap (slice_get (here ++ behind)) (omega arith)
      ∙ get_front here behind k few
      ∙ is

  pub aliases_push : (trees : List ItemTree) (index : ℕ) (tree : ItemTree)
      → take (index + 1) trees ≡ take index trees ++ tree ∷ []
      → aliases_of (selected tables scope (take index trees)) ++ aliases_of (items_of tables scope sight tree)
      ≡ aliases_of (selected tables scope (take (index + 1) trees))
  aliases_push trees index tree taken =
      sym (flat_map-append alias_of (selected tables scope (take index trees))
      (items_of tables scope sight tree))
      ∙ ap aliases_of (sym (selected_push tables scope sight (take index trees) tree))
      ∙ ap (λ trees. aliases_of (selected tables scope trees)) (sym taken)
