use Rattle.std.proofs.Common.{◌<◌, ◌^◌, ℕ, length, sym, subst, arith}
use Rattle.sa_ast.specs.declared.select.TableTree.{TableTree}
use Rattle.sa_resolve.specs.Tables.{on_reading}
use Rattle.sa_resolve.specs.inner.Knowing.{AreLooked}
use Rattle.sa_resolve.proofs.judging.Numbered.{numbered_all, numbered_more}
use Rattle.sa_resolve.proofs.clauses.Reader.joins.Goals as goal

pub loop-number-preserved : goal.loop-number-preserved
loop-number-preserved c = λ tables sight seeks.
    let few : length c.args.from.now < 2 ^ 64 = omega arith in
    subst (AreLooked c.put_join.new.joins.items)
    (sym (numbered_more (λ (numbered : ℕ × TableTree). on_reading tables c.args.from.now numbered.0 numbered.1.on) c.args.from.now c.loop-number.number
    c.index-from-number.result c.loop-number-test.true c.index-from-number.is))
    (c.in_ok-put_join.ensures tables c.args.from.now _ sight seeks c.loop-number-test.true few (c.loop-number.invariant tables sight seeks))

pub returns : goal.returns
returns c = λ tables sight seeks.
    subst (AreLooked c.loop-number.joins.items)
    (numbered_all (λ (numbered : ℕ × TableTree). on_reading tables c.args.from.now numbered.0 numbered.1.on) c.args.from.now c.loop-number.number c.loop-number-test.false)
    (c.loop-number.invariant tables sight seeks)
