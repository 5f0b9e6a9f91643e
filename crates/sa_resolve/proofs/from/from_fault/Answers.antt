use Rattle.std.proofs.Common.{◌≡◌, ◌<◌, length, get_or, Some, refl, sym, ap, ◌∙◌, rules}
use Rattle.std.proofs.lemmas.Option.{slice_get_read}
use Rattle.std.specs.List.{slice_get}
use Rattle.sa_ast.specs.declared.select.TableTree.{TableTree}
use Rattle.sa_resolve.specs.Fault.{least}
use Rattle.sa_resolve.specs.inner.Least.{fault_of, sooner}
use Rattle.sa_resolve.proofs.names.TableFaults.{faults_to, faults_to-push}
use Rattle.sa_resolve.proofs.from.from_fault.Goals as goal

pub loop-number-preserved : goal.loop-number-preserved
loop-number-preserved c =
    λ tables is.
    let within : c.loop-number.number < length c.args.from.now = search rules in
    let tree : TableTree = c.index-from-number.result in
    let at : tree ≡ get_or c.args.from.now c.loop-number.number tree = search rules in
    let there : slice_get c.args.from.now c.loop-number.number ≡ Some tree = slice_get_read c.args.from.now (length c.args.from.now) c.loop-number.number tree refl within at in
    c.sooner-fault.ensures ∙ ap (λ fault. sooner fault (fault_of c.table_fault.result)) (c.loop-number.invariant tables is)
    ∙ ap (sooner (least (faults_to tables c.args.from.now c.loop-number.number))) (c.table_fault.ensures tables c.args.from.now is there)
    ∙ sym (faults_to-push tables c.args.from.now c.loop-number.number tree there)
