use Rattle.std.proofs.Common.{◌≤◌, length, sym, subst, arith}
use Rattle.sa_index.specs.Indexed.{Indexed, key_parts}
use Rattle.sa_access.specs.Offered.{key_at}
use Rattle.sa_access.specs.inner.Asking.{asked_at}
use Rattle.sa_access.proofs.SoughtLemmas.{sought_few}
use Rattle.sa_access.proofs.offer.ref_offer.Goals as goal

pub rows_of_value-estimate-requires : goal.rows_of_value-estimate-requires
rows_of_value-estimate-requires g c = record {
  fits = subst (λ (index : Indexed). c.args.tally.count ≤ length (key_parts index)) (sym c.index_of.ensures)
      (omega (arith, c.requires.tally.count, sought_few (asked_at c.args.asking.now) (key_at (asked_at c.args.asking.now) c.args.key).parts));
}
