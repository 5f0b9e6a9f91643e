-- What is wrong with the tables of FROM, table by table.
use Rattle.std.proofs.Common.{◌≡◌, ℕ, ◌<◌, ◌+◌, ◌==◌, List, [], ◌∷◌, ◌++◌, length, get_or, take, Bool, true, false, not, Option, Some, None, option_map, refl, sym, ap, ◌∙◌, arith}
use Rattle.std.proofs.lemmas.Grind.{flat_map-append}
use Rattle.std.proofs.lemmas.List.{append-nil, length-take-le, take-map, take_more}
use Rattle.std.proofs.lemmas.Option.{slice_get-get_or, slice_get-map, slice_get_within}
use Rattle.std.specs.List.{enumerate_from, flat_map, list_any, slice_get}
use Rattle.std.specs.Option.{is_some}
use Rattle.sa_ast.specs.declared.select.TableTree.{TableTree}
use Rattle.sa_query.specs.declared.refusal.ResolveKind.TheVariants.{UnknownTable, DuplicateAlias, TooManyTables}
use Rattle.sa_table.specs.Create.{same_name}
use Rattle.sa_table.specs.Table.{Table}
use Rattle.sa_resolve.specs.declared.sight.Sight.{Sight}
use Rattle.sa_resolve.specs.declared.sight.Source.{Source as Item}
use Rattle.sa_resolve.specs.Fault.{Fault, least, told}
use Rattle.sa_resolve.specs.Sight.{Source, called, source_named, source_of, table_named}
use Rattle.sa_resolve.specs.Tables.{is_none, sources_of, table_faults}
use Rattle.sa_resolve.specs.inner.Least.{sooner}
use Rattle.sa_resolve.specs.inner.Names.{IsSight, source_at}
use Rattle.sa_resolve.proofs.LeastLemmas.{least-append, sooner-assoc}
use Rattle.sa_resolve.proofs.names.Aliased.{is_some-source_named}
use Rattle.sa_resolve.proofs.names.Positions.{enumerate_from-append}

pub tells_none : {A : Type 0} (found : Option A) (r : Bool) → is_some found ≡ not r → r ≡ is_none found
tells_none None true e = refl
tells_none None false e = e
tells_none (Some it) true e = e
tells_none (Some it) false e = refl

module _ (tables : List Table) (from : List TableTree) where
  -- whether a table before is called so
  second-is : (number : ℕ) (alias : List ℕ) → is_some (option_map (λ numbered. numbered.0) (source_named (take number (sources_of tables from)) alias))
      ≡ list_any (λ (earlier : TableTree). same_name (called earlier).name alias) (take number from)
  second-is number alias =
      ap (λ sources. is_some (option_map (λ numbered. numbered.0) (source_named sources alias))) (take-map (source_of tables) number from)
      ∙ is_some-source_named alias tables 0 (take number from)

  module _ (sight : Sight) (is : IsSight tables from sight) (number : ℕ) (tree : TableTree) (there : slice_get from number ≡ Some tree) where
    at_number : option_map source_at (slice_get sight.sources.items number) ≡ Some (source_of tables tree)
    at_number =
        sym (slice_get-map source_at sight.sources.items number) ∙ ap (λ sources. slice_get sources number) is.sources
        ∙ slice_get-map (source_of tables) from number ∙ ap (option_map (source_of tables)) there

    table-number : (item : Item) → slice_get sight.sources.items number ≡ Some item → item.table ≡ table_named tables tree.name.name
    table-number item found =
        let some : ◌≡◌ {A = Option Source} (Some (source_at item)) (Some (source_of tables tree)) = sym (ap (option_map source_at) found) ∙ at_number in
        let same : source_at item ≡ source_of tables tree = cc in
        ap (λ (source : Source). source.table) same

    -- what is wrong with one table, in the order in which the code tells it
    pub table_faults-least : (item : Item) (unknown duplicate ninth : Option Fault) → slice_get sight.sources.items number ≡ Some item
        → unknown ≡ least (told (is_none item.table) UnknownTable tree.name.place)
        → duplicate ≡ least (told (is_some (option_map (λ numbered. numbered.0) (source_named (take number (sources_of tables from)) (called tree).name))) DuplicateAlias (called tree).place)
        → ninth ≡ least (told (number == 8) TooManyTables tree.name.place)
        → sooner unknown (sooner duplicate ninth) ≡ least (table_faults tables from (number, tree))
    table_faults-least item unknown duplicate ninth found first second third =
        let missing : List Fault = told (is_none (table_named tables tree.name.name)) UnknownTable tree.name.place in
        let again : List Fault =
        told (list_any (λ (earlier : TableTree). same_name (called earlier).name (called tree).name) (take number from)) DuplicateAlias (called tree).place in
        let past : List Fault = told (number == 8) TooManyTables tree.name.place in
        let one : unknown ≡ least missing = first ∙ ap (λ table. least (told (is_none table) UnknownTable tree.name.place)) (table-number item found) in
        let two : duplicate ≡ least again = second ∙ ap (λ (stands : Bool). least (told stands DuplicateAlias (called tree).place)) (second-is number (called tree).name) in
        sym (sooner-assoc unknown duplicate ninth)
        ∙ ap (λ fault. sooner (sooner fault duplicate) ninth) one ∙ ap (λ fault. sooner (sooner (least missing) fault) ninth) two
        ∙ ap (sooner (sooner (least missing) (least again))) third
        ∙ ap (λ fault. sooner fault (least past)) (sym (least-append missing again)) ∙ sym (least-append (missing ++ again) past)

  -- what is wrong with the tables up to this one
  abbrev pub faults_to : ℕ → List Fault
  faults_to number = flat_map (table_faults tables from) (enumerate_from 0 (take number from))

  pub faults_to-push : (number : ℕ) (tree : TableTree) → slice_get from number ≡ Some tree
      → least (faults_to (number + 1)) ≡ sooner (least (faults_to number)) (least (table_faults tables from (number, tree)))
  faults_to-push number tree there =
      let within : number < length from = slice_get_within from number tree there in
      let some : ◌≡◌ {A = Option TableTree} (Some (get_or from number tree)) (Some tree) = sym (slice_get-get_or from number tree within) ∙ there in
      let same : get_or from number tree ≡ tree = cc in
      let place : 0 + length (take number from) ≡ number = omega (arith, length-take-le number from (omega arith)) in
      ap (λ trees. least (flat_map (table_faults tables from) (enumerate_from 0 trees)))
      (take_more from number tree within ∙ ap (λ (one : TableTree). take number from ++ one ∷ []) same)
      ∙ ap (λ numbered. least (flat_map (table_faults tables from) numbered)) (enumerate_from-append 0 (take number from) (tree ∷ []))
      ∙ ap (λ (n : ℕ). least (flat_map (table_faults tables from) (enumerate_from 0 (take number from) ++ (n, tree) ∷ []))) place
      ∙ ap least (flat_map-append (table_faults tables from) (enumerate_from 0 (take number from)) ((number, tree) ∷ []))
      ∙ least-append (faults_to number) (table_faults tables from (number, tree) ++ [])
      ∙ ap (λ faults. sooner (least (faults_to number)) (least faults)) (append-nil (table_faults tables from (number, tree)))
