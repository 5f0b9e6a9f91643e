use Rattle.sa_cond.specs.Cited.{Name, IsThere}
use Rattle.sa_cond.proofs.Arithmetic.{column_name, slot_name}
use Rattle.sa_cond.proofs.value.value_of.Goals as goal

pub cell-requires : goal.cell-requires
cell-requires g c =
    let there : Name → Type 0 = IsThere (g.R.Cells.has_cell c.args.rows.now) (g.R.Cells.has_slot c.args.rows.now) in
    column_name there c.in-Column.table c.in-Column.column c.args.expr.now c.in-Column.is c.requires.there

pub slot-requires : goal.slot-requires
slot-requires g c =
    let there : Name → Type 0 = IsThere (g.R.Cells.has_cell c.args.rows.now) (g.R.Cells.has_slot c.args.rows.now) in
    slot_name there c.in-Slot.number c.args.expr.now c.in-Slot.is c.requires.there
