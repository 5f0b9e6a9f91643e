-- What trees of the answer are built over, where the select list is there.
use Rattle.std.proofs.Common.{◌≡◌, List, map, Option, Some, None, option_map, Bor, sym, ap, ◌∙◌}
use Rattle.std.specs.Option.{IfSome, option_copied, unwrap_or}
use Rattle.sa_ast.specs.declared.select.SelectTree.{SelectTree}
use Rattle.sa_table.specs.Table.{Table}
use Rattle.sa_query.specs.declared.item.Item.{Item}
use Rattle.sa_resolve.specs.declared.slots.Slots.{Slots as Held}
use Rattle.sa_resolve.specs.Clauses.{clauses_with, scope_of}
use Rattle.sa_resolve.specs.Expression.{first}
use Rattle.sa_resolve.specs.Node.{Slots}
use Rattle.sa_resolve.specs.Resolved.{query_item}
use Rattle.sa_resolve.specs.inner.Building.{IsAnswered, slots_at}
use Rattle.sa_resolve.specs.inner.Judging.{AreItems}
use Rattle.sa_resolve.proofs.judging.Items.{values_are}

module _ (tables : List Table) (tree : SelectTree) (found : Option Slots) where
  pub answered_is : (slots : Option Held) (held : Option (Bor Held)) (items : List Item) → option_map slots_at slots ≡ found → option_copied held ≡ slots
      → AreItems tables tree found items
      → IsAnswered (scope_of tables tree found first) (clauses_with tables tree found).select (option_map (λ (one : Bor Held). one.now) held) items
  answered_is slots held items slots_are held_is are = record {
    slots_are = sym slots_are ∙ ap (option_map slots_at) (sym held_is);
    items_are = values_are (clauses_with tables tree found).select items are;
  }

  pub answered_when : (slots : Option Held) (held : Option (Bor Held)) (items : Option (Bor (List Item))) (none list : Bor (List Item))
      → option_map slots_at slots ≡ found → option_copied held ≡ slots → list ≡ unwrap_or items none
      → IfSome items (λ values. AreItems tables tree found values.now)
      → IfSome items (λ _. IsAnswered (scope_of tables tree found first) (clauses_with tables tree found).select
      (option_map (λ (one : Bor Held). one.now) held) list.now)
  answered_when slots held None none list slots_are held_is list_is are = tt
  answered_when slots held (Some values) none list slots_are held_is list_is are =
      answered_is slots held list.now slots_are held_is (ap (λ (list : Bor (List Item)). list.now) list_is ∙ are)

  pub items_when : (items : Option (Bor (List Item))) → IfSome items (λ values. AreItems tables tree found values.now)
      → IfSome items (λ values. map query_item (clauses_with tables tree found).select ≡ values.now)
  items_when None are = tt
  items_when (Some values) are = sym are
