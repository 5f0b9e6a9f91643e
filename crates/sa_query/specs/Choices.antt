-- Which rows a SELECT keeps: of all choices of one row for each table of FROM those for which its filter is TRUE.
-- Source: MariaDB Knowledge Base, "SELECT" and "JOIN Syntax".
use Rattle.std.specs.Prelude.{Bool, true, false, List, [], ◌∷◌, map, slice_index_or}
use Rattle.std.specs.List.{flat_map, filter}
use Rattle.sa_value.specs.declared.truth.Truth.{Truth}
use Rattle.sa_value.specs.declared.truth.Truth.TheVariants.{False, Unknown, True}
use Rattle.sa_value.specs.declared.value.Value.{Value}
use Rattle.sa_value.specs.declared.value.Value.TheVariants.{Null}
use Rattle.sa_cond.specs.Choice.{Choice}
use Rattle.sa_cond.specs.Condition.{holds}
use Rattle.sa_table.specs.Table.{Table, table_at, value_in}
use Rattle.sa_query.specs.declared.query.TableUse.{TableUse}
use Rattle.sa_query.specs.declared.query.Query.{Query}

-- whether a truth is TRUE, and neither FALSE nor UNKNOWN
abbrev pub is_true : Truth → Bool
is_true False = false
is_true Unknown = false
is_true True = true

-- all lists of one member of each of these lists; those of the last list change fastest
abbrev pub product : {A : Type 0} → List (List A) → List (List A)
product [] = [] ∷ []
product (list ∷ lists) = flat_map (λ one. map (λ others. one ∷ others) (product lists)) list

-- the rows of a table of FROM
abbrev pub rows_of : List Table → TableUse → List (List Value)
rows_of tables used = (table_at tables used.table).rows

-- what the columns stand for where these rows are chosen, one of each table of FROM in order
abbrev pub choice_of_rows : List (List Value) → Choice
choice_of_rows rows = record {
  cell = λ position column. value_in (slice_index_or rows position []) column;
  slot = λ number. Null;
}

-- every choice of one row for each table of FROM
abbrev pub choices : List Table → List TableUse → List Choice
choices tables uses = map choice_of_rows (product (map (rows_of tables) uses))

-- the choices that the filter keeps
abbrev pub kept_choices : List Table → Query → List Choice
kept_choices tables query =
    filter (λ choice. is_true (holds choice query.filter)) (choices tables query.tables)
