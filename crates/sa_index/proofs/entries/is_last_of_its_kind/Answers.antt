use Rattle.std.proofs.Common.{arith}
use Rattle.sa_index.specs.Entries.{is_alike}
use Rattle.sa_index.proofs.AlikeLemmas.{last_at_end}
use Rattle.sa_index.proofs.entries.is_last_of_its_kind.Goals as goal

pub returns-then-next-rows : goal.returns-then-next-rows
returns-then-next-rows c =
    last_at_end (is_alike c.args.tables.now c.args.table c.args.parts.now) c.args.rows.now c.args.index (omega arith)
