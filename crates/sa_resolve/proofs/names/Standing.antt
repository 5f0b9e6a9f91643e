-- What a name stands for, by what the code finds of it.
use Rattle.std.proofs.Common.{◌≡◌, ℕ, ◌<◌, ◌≤◌, List, length, take, Option, Some, None, Bor, refl, sym, ap, subst, ◌∙◌, arith}
use Rattle.std.proofs.lemmas.List.{length-take-le}
use Rattle.std.specs.Option.{unwrap_or}
use Rattle.std.specs.Str.{bytes_eq}
use Rattle.indexmap.specs.IndexMap.{get_by}
use Rattle.sa_ast.specs.declared.select.TableTree.{TableTree}
use Rattle.sa_query.specs.declared.group.Column.{Column}
use Rattle.sa_query.specs.declared.refusal.ResolveKind.TheVariants.{UnknownColumn}
use Rattle.sa_table.specs.Table.{Table}
use Rattle.sa_resolve.specs.declared.alias.Alias.{Alias as Kept}
use Rattle.sa_resolve.specs.declared.alias.Aliases.{Aliases}
use Rattle.sa_resolve.specs.declared.scope.Meaning.{Meaning}
use Rattle.sa_resolve.specs.declared.scope.Scope.{Scope as View}
use Rattle.sa_resolve.specs.declared.scope.Seeks.TheVariants as orders
use Rattle.sa_resolve.specs.declared.sight.Lookup.{Lookup}
use Rattle.sa_resolve.specs.declared.sight.Lookup.TheVariants.{One, Nothing, Several}
use Rattle.sa_resolve.specs.declared.sight.Sight.{Sight}
use Rattle.sa_resolve.specs.Expression.{Alias, Scope, never, aliases_named, by_alias, by_column, column_kind, name_reading, plain_reading, unless_none}
use Rattle.sa_resolve.specs.Reading.{Reading, faulty_name}
use Rattle.sa_resolve.specs.Selected.{Selected}
use Rattle.sa_resolve.specs.Sight.{Found, one, none, several, plain, qualified}
use Rattle.sa_resolve.specs.Tables.{sources_of}
use Rattle.sa_resolve.specs.inner.Indexed.{HasKind, IsMeant, found_in}
use Rattle.sa_resolve.specs.inner.Meanings.{IsItem, Stands}
use Rattle.sa_resolve.specs.inner.Names.{AreSought, IsFound, IsSight, Sees}
use Rattle.sa_resolve.proofs.names.Columns.{plain-within}
use Rattle.sa_resolve.proofs.names.Qualified.{kind_by-is, qualified-within}
use Rattle.sa_resolve.proofs.names.Sights.{few_sources}

module _ (tables : List Table) (scope : Scope) (listed : List Selected) where
  -- a select item that is found stands for the name
  pub item_stands : (sight : Sight) (place : ℕ) (kept : Kept) (other : Reading) (known : Found Alias) → IsMeant listed (One kept) known
      → IsItem tables scope listed sight place kept (by_alias tables scope place other known)
  item_stands sight place kept other none meant = absurd meant
  item_stands sight place kept other several meant = absurd meant
  item_stands sight place kept other (one alias) meant = record { item = alias.item; alias = meant; is = refl }

  -- where an alias is found, nothing else counts
  pub alias_counts : (place : ℕ) (other another : Reading) (alias : Lookup Kept) (known : Found Alias) → (alias ≡ Nothing → ⊥) → IsMeant listed alias known
      → by_alias tables scope place other known ≡ by_alias tables scope place another known
  alias_counts place other another alias (one item) there meant = refl
  alias_counts place other another alias several there meant = refl
  alias_counts place other another Nothing none there meant = absurd (there refl)
  alias_counts place other another (One kept) none there meant = absurd meant
  alias_counts place other another Several none there meant = absurd meant

  pub column_counts : (place : ℕ) (other : Reading) (column : Lookup Column) → (column ≡ Nothing → ⊥)
      → by_column tables scope place (found_in column) ≡ unless_none tables scope place other (found_in column)
  column_counts place other (One column) there = refl
  column_counts place other Nothing there = absurd (there refl)
  column_counts place other Several there = refl

  found_meant : (found : Option (Lookup Kept)) (known : Found Alias) → IsFound listed found known → IsMeant listed (unwrap_or found Nothing) known
  found_meant None none is = tt
  found_meant None (one alias) is = absurd is
  found_meant None several is = absurd is
  found_meant (Some (One kept)) none is = absurd is
  found_meant (Some (One kept)) (one alias) is = is
  found_meant (Some (One kept)) several is = absurd is
  found_meant (Some Several) none is = absurd is
  found_meant (Some Several) (one alias) is = absurd is
  found_meant (Some Several) several is = tt
  found_meant (Some Nothing) none is = absurd is
  found_meant (Some Nothing) (one alias) is = absurd is
  found_meant (Some Nothing) several is = absurd is

  module _ (view : View) (place : ℕ) (sees : Sees tables scope listed view) where
    abbrev sight : Sight
    sight = view.sight.now

    few : length scope.sources ≤ view.count
    few =
        let all : length (take view.count (sources_of tables sees.from)) ≡ view.count =
        length-take-le view.count (sources_of tables sees.from) (few_sources tables sees.from sight sees.sight view.count sees.within) in
        omega (arith, ap length sees.sources, all)

    -- a column of a table in sight has its kind
    kind_in_sight : (column : Column) → column.table < length scope.sources → HasKind tables scope sight (One column)
    kind_in_sight column there =
        kind_by-is tables sees.from sight sees.sight view.count column sees.within (omega (arith, there, few))
        ∙ ap (λ sources. column_kind tables sources column) (sym sees.sources)

    -- The code has found this of a plain name.
    abbrev FindsPlain : (name : List ℕ) → Lookup Column → Type 0
    FindsPlain name found = (tables : List Table) (from : List TableTree) → IsSight tables from sight → view.count ≤ length from
        → found_in found ≡ plain tables (take view.count (sources_of tables from)) name

    plain-is : (name : List ℕ) (found : Lookup Column) → FindsPlain name found → found_in found ≡ plain tables scope.sources name
    plain-is name found finds = finds tables sees.from sees.sight sees.within ∙ ap (λ sources. plain tables sources name) (sym sees.sources)

    plain-kind : (name : List ℕ) (found : Lookup Column) → found_in found ≡ plain tables scope.sources name → HasKind tables scope sight found
    plain-kind name (One column) e = kind_in_sight column (plain-within tables name scope.sources column (sym e))
    plain-kind name Nothing e = tt
    plain-kind name Several e = tt

    qualified-kind : (alias name : List ℕ) (found : Lookup Column) → found_in found ≡ qualified tables scope.sources alias name → HasKind tables scope sight found
    qualified-kind alias name (One column) e = kind_in_sight column (qualified-within tables scope.sources alias name column (sym e))
    qualified-kind alias name Nothing e = tt
    qualified-kind alias name Several e = tt

    abbrev IsMeaning : Meaning → Reading → Type 0
    IsMeaning = Stands tables scope listed sight place

    -- a plain name where no aliases are sought
    pub never_stands : (name : List ℕ) (found : Lookup Column) (meaning : Meaning) → view.seeks ≡ orders.Never → FindsPlain name found
        → (HasKind tables scope sight found → IsMeaning meaning (by_column tables scope place (found_in found)))
        → IsMeaning meaning (plain_reading tables scope scope.seeks place name)
    never_stands name found meaning seeks finds stands =
        let is : found_in found ≡ plain tables scope.sources name = plain-is name found finds in
        let order : scope.seeks ≡ never = subst (AreSought listed scope) seeks sees.sought in
        subst (IsMeaning meaning) (ap (by_column tables scope place) is ∙ ap (λ order. plain_reading tables scope order place name) (sym order))
        (stands (plain-kind name found is))

    -- where they are sought first
    pub first_stands : (name : List ℕ) (found : Lookup Column) (aliases : Bor Aliases) (alias : Lookup Kept) (meaning : Meaning) → view.seeks ≡ orders.First aliases
        → FindsPlain name found → alias ≡ unwrap_or (get_by (λ key. bytes_eq name key.now) aliases.now.names) Nothing
        → ((known : Found Alias) → HasKind tables scope sight found → IsMeant listed alias known
        → IsMeaning meaning (by_alias tables scope place (by_column tables scope place (found_in found)) known))
        → IsMeaning meaning (plain_reading tables scope scope.seeks place name)
    first_stands name found aliases alias meaning seeks finds kept stands =
        let is : found_in found ≡ plain tables scope.sources name = plain-is name found finds in
        let sought : AreSought listed scope (orders.First aliases) = subst (AreSought listed scope) seeks sees.sought in
        let known : Found Alias = aliases_named tables scope name in
        let meant : IsMeant listed alias known =
        subst (λ alias. IsMeant listed alias known) (sym kept) (found_meant (get_by (λ key. bytes_eq name key.now) aliases.now.names) known (sought.1 name)) in
        subst (IsMeaning meaning)
        (ap (λ column. by_alias tables scope place (by_column tables scope place column) known) is
        ∙ ap (λ order. plain_reading tables scope order place name) (sym sought.0))
        (stands known (plain-kind name found is) meant)

    -- and last
    pub last_stands : (name : List ℕ) (found : Lookup Column) (aliases : Bor Aliases) (alias : Lookup Kept) (meaning : Meaning) → view.seeks ≡ orders.Last aliases
        → FindsPlain name found → alias ≡ unwrap_or (get_by (λ key. bytes_eq name key.now) aliases.now.names) Nothing
        → ((known : Found Alias) → HasKind tables scope sight found → IsMeant listed alias known
        → IsMeaning meaning (unless_none tables scope place (by_alias tables scope place (faulty_name UnknownColumn place) known) (found_in found)))
        → IsMeaning meaning (plain_reading tables scope scope.seeks place name)
    last_stands name found aliases alias meaning seeks finds kept stands =
        let is : found_in found ≡ plain tables scope.sources name = plain-is name found finds in
        let sought : AreSought listed scope (orders.Last aliases) = subst (AreSought listed scope) seeks sees.sought in
        let known : Found Alias = aliases_named tables scope name in
        let meant : IsMeant listed alias known =
        subst (λ alias. IsMeant listed alias known) (sym kept) (found_meant (get_by (λ key. bytes_eq name key.now) aliases.now.names) known (sought.1 name)) in
        subst (IsMeaning meaning)
        (ap (unless_none tables scope place (by_alias tables scope place (faulty_name UnknownColumn place) known)) is
        ∙ ap (λ order. plain_reading tables scope order place name) (sym sought.0))
        (stands known (plain-kind name found is) meant)

    -- a name with its table before it
    pub qualified_stands : (table : Option (List ℕ)) (alias name : List ℕ) (found : Lookup Column) (meaning : Meaning) → table ≡ Some alias
        → ((tables : List Table) (from : List TableTree) → IsSight tables from sight → view.count ≤ length from
        → found_in found ≡ qualified tables (take view.count (sources_of tables from)) alias name)
        → (HasKind tables scope sight found → IsMeaning meaning (by_column tables scope place (found_in found)))
        → IsMeaning meaning (name_reading tables scope place table name)
    qualified_stands table alias name found meaning at finds stands =
        let is : found_in found ≡ qualified tables scope.sources alias name =
        finds tables sees.from sees.sight sees.within ∙ ap (λ sources. qualified tables sources alias name) (sym sees.sources) in
        subst (IsMeaning meaning) (ap (by_column tables scope place) is ∙ ap (λ table. name_reading tables scope place table name) (sym at))
        (stands (qualified-kind alias name found is))
