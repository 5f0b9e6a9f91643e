-- All is known of a SELECT once its clauses are read, whatever its slots are.
use Rattle.std.proofs.Common.{◌≡◌, List, Option, None, option_map, sym, ◌∙◌}
use Rattle.sa_table.specs.Table.{Table}
use Rattle.sa_resolve.specs.declared.resolver.Known.{Known}
use Rattle.sa_resolve.specs.declared.slots.Slots.{Slots as Held}
use Rattle.sa_resolve.specs.Clauses.{clauses_with, slots_of}
use Rattle.sa_resolve.specs.Node.{Slots}
use Rattle.sa_resolve.specs.inner.Building.{slots_at}
use Rattle.sa_resolve.specs.inner.Judging.{IsReady}
use Rattle.sa_resolve.specs.inner.Knowing.{AreKnown, Knows}
use Rattle.sa_resolve.proofs.judging.Resolving.{first_slots}

pub ready_is : (tables : List Table) (known : Known) (slots : Option Held)
    → ((found : Option Slots) → Knows tables known.tree.now found known.reader)
    → ((found : Option Slots) → AreKnown tables known.tree.now found known.reader.rows.sight.now known.clauses)
    → ((found : Option Slots) → option_map slots_at slots ≡ slots_of (clauses_with tables known.tree.now found))
    → IsReady tables (first_slots tables known.tree.now) known slots
ready_is tables known slots reader clauses_are slots_are = record {
  reader = reader (first_slots tables known.tree.now);
  clauses_are = clauses_are (first_slots tables known.tree.now);
  slots_are = slots_are None;
  settled = sym (slots_are (first_slots tables known.tree.now)) ∙ slots_are None;
}
