use Rattle.std.proofs.Common.{◌<◌, ◌^◌, ℕ, List, length, map, sym, ap, ◌∙◌, arith}
use Rattle.sa_ast.specs.declared.select.TableTree.{TableTree}
use Rattle.sa_cond.specs.declared.cond.Cond.TheVariants.{And}
use Rattle.sa_resolve.specs.Clauses.{option_list}
use Rattle.sa_resolve.specs.Expression.{reading}
use Rattle.sa_resolve.specs.Reading.{Reading}
use Rattle.sa_resolve.specs.Tables.{on_reading, on_readings, over_rows, sources_of}
use Rattle.sa_resolve.proofs.judging.Numbered.{numbered_all, numbered_more}
use Rattle.sa_resolve.proofs.judging.Uses.{conds_more}
use Rattle.sa_resolve.proofs.query.filter.Goals as goal

pub loop-number-preserved : goal.loop-number-preserved
loop-number-preserved c = λ tables sight seeks.
    let few : length c.args.from.now < 2 ^ 64 = omega arith in
    conds_more _ (on_reading tables c.args.from.now c.loop-number.number c.index-from-number.result.on) c.loop-number.conds.items _
    (c.in_ok-put_join.ensures tables c.args.from.now sight seeks c.loop-number-test.true few) (c.loop-number.invariant tables sight seeks)
    ∙ ap (λ (ones : List Reading). map (λ (one : Reading). one.cond) ones)
    (sym (numbered_more (λ (numbered : ℕ × TableTree). on_reading tables c.args.from.now numbered.0 numbered.1.on) c.args.from.now c.loop-number.number
    c.index-from-number.result c.loop-number-test.true c.index-from-number.is))

pub returns : goal.returns
returns c = λ tables sight count seeks.
    ap (λ conds. And conds) (c.from_vec.ensures
    ∙ conds_more (on_readings tables c.args.from.now) (option_list (reading tables (over_rows (sources_of tables c.args.from.now))) c.args.filter.now) c.loop-number.conds.items _
    (c.in_ok-put_filter.ensures tables c.args.from.now sight count seeks)
    (c.loop-number.invariant tables sight seeks
    ∙ ap (λ (ones : List Reading). map (λ (one : Reading). one.cond) ones)
    (numbered_all (λ (numbered : ℕ × TableTree). on_reading tables c.args.from.now numbered.0 numbered.1.on) c.args.from.now c.loop-number.number c.loop-number-test.false)))
