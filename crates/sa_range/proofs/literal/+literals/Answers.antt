use Rattle.std.proofs.Common.{◌≡◌, ◌++◌, OnOk, List, subst}
use Rattle.sa_value.specs.declared.value.Value.{Value}
use Rattle.sa_range.proofs.Gathered.{and_gathered, or_gathered}
use Rattle.sa_range.proofs.literal.+literals.Goals as goal

pub put_literals-returns-in-And : goal.put_literals-returns-in-And
put_literals-returns-in-And t c =
    subst (λ (added : List Value). OnOk c.put_all.result (c.put_all.new.literals.items ≡ c.args.literals.now.items ++ added))
    (and_gathered c.args.table c.args.column c.args.cond.now c.in-And.members c.as_slice.result.now c.as_slice.ensures c.in-And.is) c.put_all.ensures

pub put_literals-returns-in-Or : goal.put_literals-returns-in-Or
put_literals-returns-in-Or t c =
    subst (λ (added : List Value). OnOk c.put_all-in-Or.result (c.put_all-in-Or.new.literals.items ≡ c.args.literals.now.items ++ added))
    (or_gathered c.args.table c.args.column c.args.cond.now c.in-Or.members c.as_slice-in-Or.result.now c.as_slice-in-Or.ensures c.in-Or.is) c.put_all-in-Or.ensures
