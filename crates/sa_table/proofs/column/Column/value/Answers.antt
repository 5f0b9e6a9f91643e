use Rattle.std.proofs.Common.{arith, ap, length}
use Rattle.std.proofs.lemmas.List.{length-map}
use Rattle.sa_table.specs.inner.Cells.{cells_in}
use Rattle.sa_table.specs.inner.Column.{values_in, number_value, text_value}
use Rattle.sa_table.proofs.CellsLemmas.{cells_length}
use Rattle.sa_table.proofs.column.Column.value.Goals as goal

pub get-requires : goal.get-requires
get-requires c =
    let cells = c.in-Numbers.cells in
    omega (arith, c.requires, ap (λ column. length (values_in column)) c.in-Numbers.is, length-map (cells_in cells) number_value, cells_length cells.nulls.items cells.items.items)

pub get-requires-in-Texts : goal.get-requires-in-Texts
get-requires-in-Texts c =
    let cells = c.in-Texts.cells in
    omega (arith, c.requires, ap (λ column. length (values_in column)) c.in-Texts.is, length-map (cells_in cells) text_value, cells_length cells.nulls.items cells.items.items)
