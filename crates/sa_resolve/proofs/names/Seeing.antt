-- What parts of a SELECT see, by how many tables of FROM are in sight and when aliases are sought.
use Rattle.std.proofs.Common.{◌≡◌, ℕ, ◌<◌, ◌≤◌, ◌+◌, List, length, take, Option, Bor, refl, sym, subst, arith}
use Rattle.std.proofs.lemmas.List.{take_all, take-map, length-map}
use Rattle.sa_ast.specs.declared.select.TableTree.{TableTree}
use Rattle.sa_table.specs.Table.{Table}
use Rattle.sa_resolve.specs.declared.alias.Aliases.{Aliases}
use Rattle.sa_resolve.specs.declared.scope.Scope.{Scope as View}
use Rattle.sa_resolve.specs.declared.scope.Seeks.TheVariants as orders
use Rattle.sa_resolve.specs.Expression.{Alias, first, last}
use Rattle.sa_resolve.specs.Node.{Slots}
use Rattle.sa_resolve.specs.Selected.{Selected}
use Rattle.sa_resolve.specs.Sight.{source_of}
use Rattle.sa_resolve.specs.Tables.{over_rows, sources_of}
use Rattle.sa_resolve.specs.inner.Names.{AreAliases, AreSought, IsSight, Sees}

module _ (tables : List Table) (from : List TableTree) where
  few_sources : (count : ℕ) → length from ≤ count → length (sources_of tables from) ≤ count
  few_sources count few = subst (λ (n : ℕ). n ≤ count) (sym (length-map from (source_of tables))) few

  all_sources : (count : ℕ) → count ≡ length from → sources_of tables from ≡ take count (sources_of tables from)
  all_sources count all = sym (take_all count (sources_of tables from) (few_sources count (omega arith)))

module _ (tables : List Table) (from : List TableTree) (listed : List Selected) where
  -- the whole sight, and no alias
  pub Sees-rows : (slots : Option Slots) (view : View) → IsSight tables from view.sight.now → view.count ≡ length from → view.seeks ≡ orders.Never
      → Sees tables (record (over_rows (sources_of tables from)) { slots = slots }) listed view
  Sees-rows slots view sight all seeks = record {
    from = from;
    sight = sight;
    within = omega arith;
    sources = all_sources tables from view.count all;
    sought = subst (AreSought listed (record (over_rows (sources_of tables from)) { slots = slots })) (sym seeks) refl;
  }

  -- the whole sight, and aliases before columns
  pub Sees-first : (slots : Option Slots) (aliases : List Alias) (view : View) (kept : Bor Aliases) → IsSight tables from view.sight.now → view.count ≡ length from
      → view.seeks ≡ orders.First kept → AreAliases listed aliases kept.now
      → Sees tables (record (over_rows (sources_of tables from)) { slots = slots; aliases = aliases; seeks = first }) listed view
  Sees-first slots aliases view kept sight all seeks are = record {
    from = from;
    sight = sight;
    within = omega arith;
    sources = all_sources tables from view.count all;
    sought = subst (AreSought listed (record (over_rows (sources_of tables from)) { slots = slots; aliases = aliases; seeks = first }))
        (sym seeks) (refl, are);
  }

  -- the whole sight, and aliases where no column is
  pub Sees-last : (slots : Option Slots) (aliases : List Alias) (view : View) (kept : Bor Aliases) → IsSight tables from view.sight.now → view.count ≡ length from
      → view.seeks ≡ orders.Last kept → AreAliases listed aliases kept.now
      → Sees tables (record (over_rows (sources_of tables from)) { slots = slots; aliases = aliases; seeks = last }) listed view
  Sees-last slots aliases view kept sight all seeks are = record {
    from = from;
    sight = sight;
    within = omega arith;
    sources = all_sources tables from view.count all;
    sought = subst (AreSought listed (record (over_rows (sources_of tables from)) { slots = slots; aliases = aliases; seeks = last }))
        (sym seeks) (refl, are);
  }

  -- the tables up to this one, as `up_to` gives them
  pub Sees-up_to : (number : ℕ) (view : View) → IsSight tables from view.sight.now → number < length from → view.seeks ≡ orders.Never
      → Sees tables (over_rows (sources_of tables (take (number + 1) from))) listed (record view { count = number + 1 })
  Sees-up_to number view sight there seeks = record {
    from = from;
    sight = sight;
    within = omega arith;
    sources = sym (take-map (source_of tables) (number + 1) from);
    sought = subst (AreSought listed (over_rows (sources_of tables (take (number + 1) from)))) (sym seeks) refl;
  }
