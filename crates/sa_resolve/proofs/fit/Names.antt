-- What names stand for: columns that are there, and aliases in sight.
use Rattle.std.proofs.Common.{◌≡◌, ℕ, ◌+◌, ◌<◌, Bool, true, false, List, [], ◌∷◌, length, get_or, Option, Some, None, option_map, if◌then◌else◌, refl, sym, ap, ◌∙◌, subst, arith}
use Rattle.std.specs.Prelude.{⊤, option_and_then, find}
use Rattle.std.specs.List.{AllByRecursion, filter, enumerate_from, position}
use Rattle.std.specs.Option.{IfSome}
use Rattle.std.proofs.lemmas.List.{get_or_default}
use Rattle.std.proofs.lemmas.List.Elements.{recursion_from_All}
use Rattle.std.proofs.lemmas.List.FromFn.{get_or-enumerate_from, length-enumerate_from}
use Rattle.std.proofs.lemmas.List.Quantifiers.{position-Some}
use Rattle.sa_table.specs.Create.{same_name}
use Rattle.sa_table.specs.Table.{Table}
use Rattle.sa_table.specs.declared.def.ColumnDef.{ColumnDef}
use Rattle.sa_query.specs.declared.group.Column.{Column}
use Rattle.sa_query.specs.declared.refusal.ResolveKind.{ResolveKind}
use Rattle.sa_query.specs.declared.refusal.ResolveKind.TheVariants.{UnknownColumn, Ambiguous}
use Rattle.sa_resolve.specs.Expression.{Scope, Alias, Seeks, never, first, last, column_reading, by_column, by_alias, unless_none, aliases_named, plain_reading, name_reading}
use Rattle.sa_resolve.specs.Reading.{Reading, faulty_name, named}
use Rattle.sa_resolve.specs.Sight.{Source, Found, one as found, none, several, as_list, columns_of, column_in, columns_named, source_named, only_one, qualified, plain}
use Rattle.sa_resolve.proofs.fit.Lists.{each-of, each-weaker}
use Rattle.sa_table.specs.Sound.{no_column}

-- what stands for a source that isn't there
abbrev pub no_source : Source
no_source = record { alias = []; table = None }

-- A column is there: its table in sight, and its number in that table.
pub record IsSeen (tables : List Table) (sources : List Source) (seen : Column) : Type 0 where
  pub table : seen.table < length sources
  pub column : seen.column < length (columns_of tables (get_or sources seen.table no_source))

-- what is found has this
abbrev pub HasFound : {A : Type 0} → (A → Type 0) → Found A → Type 0
HasFound P (found x) = P x
HasFound P none = ⊤
HasFound P several = ⊤

only_one-has : {A : Type 0} (P : A → Type 0) (xs : List A) → AllByRecursion P xs
    → HasFound P (only_one xs)
only_one-has P [] all = tt
only_one-has P (x ∷ []) all = all.0
only_one-has P (x ∷ y ∷ xs) all = tt

kept-has : {A : Type 0} (P : A → Type 0) (test : Bool) (x : A) (xs : List A) → P x
    → AllByRecursion P xs
    → AllByRecursion P (if test then x ∷ xs else xs)
kept-has P true x xs this all = (this, all)
kept-has P false x xs this all = all

pub filter-has : {A : Type 0} (P : A → Type 0) (test : A → Bool) (xs : List A) → AllByRecursion P xs
    → AllByRecursion P (filter test xs)
filter-has P test [] all = tt
filter-has P test (x ∷ xs) all =
    kept-has P (test x) x (filter test xs) all.0 (filter-has P test xs all.1)

first-has : {A : Type 0} (P : A → Type 0) (test : Bool) (x : A) (other : Option A) → P x
    → IfSome other P
    → IfSome (if test then Some x else other) P
first-has P true x other this all = this
first-has P false x other this all = all

find-has : {A : Type 0} (P : A → Type 0) (test : A → Bool) (xs : List A) → AllByRecursion P xs
    → IfSome (find test xs) P
find-has P test [] all = tt
find-has P test (x ∷ xs) all =
    first-has P (test x) x (find test xs) all.0 (find-has P test xs all.1)

-- each member with its place
pub each-numbered : {A : Type 0} (P : ℕ × A → Type 0) (xs : List A)
    → ((i : ℕ) (d : A) → i < length xs → P (i, get_or xs i d))
    → AllByRecursion P (enumerate_from 0 xs)
each-numbered P xs each =
    recursion_from_All P (enumerate_from 0 xs) (λ k d lt.
    let few : k < length xs = omega (arith, length-enumerate_from 0 xs) in
    let start : 0 + k ≡ k = omega arith in
    let is : get_or (enumerate_from 0 xs) k d ≡ (k, get_or xs k d.1) =
    get_or-enumerate_from 0 xs k d few ∙ ap (λ number. (number, get_or xs k d.1)) start in
    subst P (sym is) (each k d.1 few))

module _ (tables : List Table) (sources : List Source) where
  -- A source in sight, with its place.
  pub record IsPlaced (numbered : ℕ × Source) : Type 0 where
    pub there : numbered.0 < length sources
    pub is : numbered.1 ≡ get_or sources numbered.0 no_source

  pub sources-placed : AllByRecursion IsPlaced (enumerate_from 0 sources)
  sources-placed =
      each-numbered IsPlaced sources
      (λ i d lt. record { there = lt; is = get_or_default sources i d no_source lt })

  abbrev Sees : Column → Type 0
  Sees = IsSeen tables sources

  column_by : (name : List ℕ) (numbered : ℕ × Source) → IsPlaced numbered → (at : Option ℕ)
      → position (λ (def : ColumnDef). same_name def.name name) (columns_of tables numbered.1) ≡ at
      → AllByRecursion Sees
      (as_list (option_map (λ column. record { table = numbered.0; column = column }) at))
  column_by name numbered placed None is = tt
  column_by name numbered placed (Some at) is =
      let there =
      position-Some (λ (def : ColumnDef). same_name def.name name)
      (columns_of tables numbered.1) at no_column is in (
        record {
          table = placed.there;
          column = subst
              (λ source. at < length (columns_of tables source)) placed.is there.0;
        },
        tt,
      )

  column_in-seen : (name : List ℕ) (numbered : ℕ × Source) → IsPlaced numbered → AllByRecursion Sees
      (as_list (column_in tables name numbered))
  column_in-seen name numbered placed = column_by name numbered placed _ refl

  plain-seen : (name : List ℕ) → HasFound Sees (plain tables sources name)
  plain-seen name =
      only_one-has Sees (columns_named tables sources name)
      (each-of Sees (λ numbered. as_list (column_in tables name numbered))
      (enumerate_from 0 sources)
      (each-weaker IsPlaced
      (λ numbered. AllByRecursion Sees (as_list (column_in tables name numbered)))
      (column_in-seen name) (enumerate_from 0 sources) sources-placed))

  then-seen : (name : List ℕ) (source : Option (ℕ × Source)) → IfSome source IsPlaced
      → AllByRecursion Sees (as_list (option_and_then (column_in tables name) source))
  then-seen name None placed = tt
  then-seen name (Some numbered) placed = column_in-seen name numbered placed

  pub named_placed : (alias : List ℕ) → IfSome (source_named sources alias) IsPlaced
  named_placed alias =
      find-has IsPlaced (λ numbered. same_name numbered.1.alias alias) (enumerate_from 0 sources)
      sources-placed

  qualified-seen : (alias name : List ℕ) → HasFound Sees (qualified tables sources alias name)
  qualified-seen alias name =
      only_one-has Sees
      (as_list (option_and_then (column_in tables name) (source_named sources alias)))
      (then-seen name (source_named sources alias) (named_placed alias))

module _ (tables : List Table) (scope : Scope) (Q : Reading → Type 0) (OfAlias : Alias → Type 0)
    (at_column : (place : ℕ) (column : Column) → IsSeen tables scope.sources column
    → Q (column_reading tables scope place column))
    (at_fault : (kind : ResolveKind) (place : ℕ) → Q (faulty_name kind place))
    (at_alias : (place : ℕ) (alias : Alias) → OfAlias alias → Q (named place alias.item))
    (aliases : AllByRecursion OfAlias scope.aliases) where
  by_found : (place : ℕ) (seen : Found Column) → HasFound (IsSeen tables scope.sources) seen
      → Q (by_column tables scope place seen)
  by_found place (found column) has = at_column place column has
  by_found place none has = at_fault UnknownColumn place
  by_found place several has = at_fault Ambiguous place

  alias_by : (place : ℕ) (other : Reading) (seen : Found Alias) → HasFound OfAlias seen → Q other
      → Q (by_alias tables scope place other seen)
  alias_by place other (found alias) has other_has = at_alias place alias has
  alias_by place other none has other_has = other_has
  alias_by place other several has other_has = at_fault Ambiguous place

  alias_named : (name : List ℕ) → HasFound OfAlias (aliases_named tables scope name)
  alias_named name =
      only_one-has OfAlias (filter (λ (alias : Alias). same_name alias.name name) scope.aliases)
      (filter-has OfAlias (λ (alias : Alias). same_name alias.name name) scope.aliases aliases)

  unless_by : (place : ℕ) (other : Reading) (seen : Found Column)
      → HasFound (IsSeen tables scope.sources) seen → Q other
      → Q (unless_none tables scope place other seen)
  unless_by place other none has other_has = other_has
  unless_by place other (found column) has other_has = at_column place column has
  unless_by place other several has other_has = at_fault Ambiguous place

  by_plain : (seeks : Seeks) (place : ℕ) (name : List ℕ)
      → Q (plain_reading tables scope seeks place name)
  by_plain never place name =
      by_found place (plain tables scope.sources name) (plain-seen tables scope.sources name)
  by_plain first place name =
      alias_by place (by_column tables scope place (plain tables scope.sources name))
      (aliases_named tables scope name) (alias_named name)
      (by_found place (plain tables scope.sources name) (plain-seen tables scope.sources name))
  by_plain last place name =
      unless_by place (by_alias tables scope place (faulty_name UnknownColumn place)
      (aliases_named tables scope name)) (plain tables scope.sources name)
      (plain-seen tables scope.sources name)
      (alias_by place (faulty_name UnknownColumn place) (aliases_named tables scope name)
      (alias_named name) (at_fault UnknownColumn place))

  -- what columns, faults and aliases have, each name has
  pub by_name : (place : ℕ) (table : Option (List ℕ)) (name : List ℕ)
      → Q (name_reading tables scope place table name)
  by_name place None name = by_plain scope.seeks place name
  by_name place (Some table) name =
      by_found place (qualified tables scope.sources table name)
      (qualified-seen tables scope.sources table name)
