use Rattle.std.proofs.Common.{ℤ, Bool, List, map, ap, ◌∙◌}
use Rattle.sa_index.specs.inner.Columns.{number_in, marked, column_of}
use Rattle.sa_index.proofs.ColumnLemmas.{marked_column}
use Rattle.sa_index.proofs.columns.number_column.Goals as goal

pub returns : goal.returns
returns c =
    ap (λ (numbers : List ℤ). marked numbers c.in_ok-nulls.nulls.items) c.in_ok-numbers.ensures
    ∙ ap (λ (marks : List Bool). marked (map number_in (column_of c.args.tables.now c.args.table c.args.rows.now c.args.part)) marks) c.in_ok-nulls.ensures
    ∙ marked_column c.args.tables.now c.args.table c.args.part c.args.rows.now c.requires.numbers
