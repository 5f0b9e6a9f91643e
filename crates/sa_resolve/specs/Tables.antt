-- What is wrong with the tables of FROM and with what their ON conditions ask.
use Rattle.std.specs.Prelude.{ℕ, ◌+◌, Bool, true, false, ◌==◌, List, [], ◌∷◌, ◌++◌, map, take, Option, Some, None}
use Rattle.std.specs.List.{flat_map, list_any, enumerate_from}
use Rattle.sa_ast.specs.declared.select.TableTree.{TableTree}
use Rattle.sa_ast.specs.declared.expression.ExprTree.{ExprTree}
use Rattle.sa_table.specs.Create.{same_name}
use Rattle.sa_table.specs.Table.{Table}
use Rattle.sa_query.specs.declared.refusal.ResolveKind.TheVariants.{UnknownTable, DuplicateAlias, TooManyTables}
use Rattle.sa_resolve.specs.Expression.{Scope, never, reading}
use Rattle.sa_resolve.specs.Fault.{Fault, told}
use Rattle.sa_resolve.specs.Reading.{Reading}
use Rattle.sa_resolve.specs.Sight.{Source, called, source_of, table_named}

abbrev pub is_none : {A : Type 0} → Option A → Bool
is_none None = true
is_none (Some one) = false

abbrev pub sources_of : List Table → List TableTree → List Source
sources_of tables from = map (source_of tables) from

-- A table that isn't there is told at its name; of two that are called alike the second is told
-- where it is called; the ninth is told at its name.
abbrev pub table_faults : List Table → List TableTree → ℕ × TableTree → List Fault
table_faults tables from (number, tree) =
    told (is_none (table_named tables tree.name.name)) UnknownTable tree.name.place
    ++ told
    (list_any (λ (earlier : TableTree). same_name (called earlier).name (called tree).name)
    (take number from))
    DuplicateAlias (called tree).place
    ++ told (number == 8) TooManyTables tree.name.place

abbrev pub from_faults : List Table → List TableTree → List Fault
from_faults tables from = flat_map (table_faults tables from) (enumerate_from 0 from)

-- what sees these tables, and no alias
abbrev pub over_rows : List Source → Scope
over_rows sources = record { sources = sources; aliases = []; seeks = never; slots = None }

abbrev pub on_reading : List Table → List TableTree → ℕ → Option ExprTree → List Reading
on_reading tables from number None = []
on_reading tables from number (Some tree) =
    reading tables (over_rows (sources_of tables (take (number + 1) from))) tree ∷ []

-- the ON conditions; each sees the tables up to its own
abbrev pub on_readings : List Table → List TableTree → List Reading
on_readings tables from =
    flat_map (λ numbered. on_reading tables from numbered.0 numbered.1.on) (enumerate_from 0 from)
