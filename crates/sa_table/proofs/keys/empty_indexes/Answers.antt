use Rattle.std.proofs.Common.{sym, subst, get_or, arith, []}
use Rattle.std.proofs.lemmas.List.{length_push}
use Rattle.std.proofs.lemmas.List.Elements.{All-push}
use Rattle.sa_table.specs.inner.Keys.{IsIndexed}
use Rattle.sa_table.proofs.IndexLemmas.{empty_indexed}
use Rattle.sa_table.proofs.keys.empty_indexes.Goals as goal

pub loop-key-preserved : goal.loop-key-preserved
loop-key-preserved c = record {
  each_one = omega (arith, c.loop-key.invariant.each_one, c.in_ok-push.ensures.len);
  each = λ k key index h.
      subst (λ items. IsIndexed [] key (get_or items k index)) (sym c.in_ok-push.ensures.items)
      (All-push (IsIndexed [] key) c.loop-key.indexes.items c.new.result
      (λ k d there. c.loop-key.invariant.each k key d (omega (arith, c.loop-key.invariant.each_one)))
      (empty_indexed key c.new.result c.new.ensures.before c.new.ensures.none)
      k index (omega (arith, length_push c.loop-key.indexes.items c.new.result, c.loop-key.invariant.each_one)));
}
