use mir.Syntax.{w128}
use mir.Val.{SFits}
use Rattle.std.proofs.Common.{◌||◌, false, List, ◌∷◌, map, Some, None, rules, refl, sym, ap, subst, ◌∙◌}
use Rattle.std.specs.List.{list_any}
use Rattle.std.proofs.lemmas.Int.{to_z-of_z}
use Rattle.std.proofs.lemmas.List.{take_all}
use Rattle.std.proofs.lemmas.Result.{IfOk-weaker}
use Rattle.sa_ast.specs.declared.expression.ExprNode.{ExprNode-F}
use Rattle.sa_ast.specs.declared.expression.ExprNode.TheVariants as node
use Rattle.sa_resolve.specs.NodeFaults.{clashes, no_condition, no_value}
use Rattle.sa_resolve.specs.Reading.{Reading}
use Rattle.sa_resolve.specs.inner.Gist.{PartsGist, gist_at, no_parts, parts_of_list, with_condition, with_value}
use Rattle.sa_resolve.specs.inner.Walking.{HaveMentioned}
use Rattle.sa_resolve.proofs.NodeGists.{one_value}
use Rattle.sa_resolve.proofs.walk.Built.{row_made}
use Rattle.sa_resolve.proofs.walk.Leaves.{looked-Call, looked-Known}
use Rattle.sa_resolve.proofs.walk.Loops.{clashes_more, conditions_more, looked-Among, looked-And, mentioned_more, values_more}
use Rattle.sa_resolve.proofs.walk.Mentions.{nothing_mentioned, then_mentioned}
use Rattle.sa_resolve.proofs.walk.Looked.{looked-Or, made, read, test_gist, looked_as, looked_at, looked_ok, looked-Add, looked-Between, looked-Compare, looked-IsNull, looked-Multiply, looked-Negate, looked-Not, looked-Subtract}
use Rattle.sa_resolve.proofs.walk.Readings.{reading-Add, reading-Aggregate, reading-Among, reading-And, reading-Between, reading-Compare, reading-IsNull, reading-Known, reading-Multiply, reading-Name, reading-Negate, reading-Not, reading-Null, reading-Number, reading-Or, reading-Subtract}
use Rattle.sa_resolve.proofs.scope.Scope.+look.Goals as goal

pub look_at-returns-in-Number : goal.look_at-returns-in-Number
look_at-returns-in-Number t c = λ tables scope listed sees.
    let fits : SFits w128 c.in-Number.number = search rules in
    looked_ok c.look_at_number.result _ _ _ _
    (reading-Number tables scope c.args.tree.now c.in-Number.number c.in-Number.is
    ∙ ap (λ number. made tables scope (ExprNode-F.Number number) c.args.tree.now.place)
    (sym (to_z-of_z w128 c.in-Number.number fits)))
    (c.look_at_number.ensures tables scope)

pub look_at-returns-in-Null : goal.look_at-returns-in-Null
look_at-returns-in-Null t c = λ tables scope listed sees.
    looked_ok c.literal-in-Null.result _ _ _ _ (reading-Null tables scope c.args.tree.now c.in-Null.is)
    (c.literal-in-Null.ensures tables scope ExprNode-F.Null refl)

pub look_at-returns-in-Known : goal.look_at-returns-in-Known
look_at-returns-in-Known t c = λ tables scope listed sees.
    looked_as tables scope c.args.mentions.now c.args.mentions.now c.condition.result _ _
    (reading-Known tables scope c.args.tree.now c.in-Known.field-0 c.in-Known.is)
    (looked-Known tables scope c.args.mentions.now c.condition.result c.in-Known.field-0 c.args.tree.now.place
    c.condition.ensures)

pub look_at-returns-in-Name : goal.look_at-returns-in-Name
look_at-returns-in-Name t c = λ tables scope listed sees.
    looked_ok c.look_at_name.result _ _ _ _ (reading-Name tables scope c.args.tree.now c.in-Name.table
    c.in-Name.column c.in-Name.is)
    (c.look_at_name.ensures tables scope listed sees)

pub look_at-returns-in-None : goal.look_at-returns-in-None
look_at-returns-in-None t c = λ tables scope listed sees.
    let rows = c.in-Aggregate.is ∙ ap (λ argument. node.Aggregate c.in-Aggregate.call argument) c.in-None.is
    in
    looked_ok c.look_at_rows.result _ _ _ _ (reading-Aggregate tables scope c.args.tree.now
    c.in-Aggregate.call None rows)
    (c.look_at_rows.ensures tables scope)

pub look_at-returns-in-Some : goal.look_at-returns-in-Some
look_at-returns-in-Some t c = λ tables scope listed sees.
    let got = c.in-Aggregate.is ∙ ap (λ argument. node.Aggregate c.in-Aggregate.call argument) c.in-Some.is
    ∙ ap (λ argument. node.Aggregate c.in-Aggregate.call (Some argument)) (sym c.get.ensures) in
    looked_ok c.look_at_call.result _ _ _ _ (reading-Aggregate tables scope c.args.tree.now
    c.in-Aggregate.call (Some c.get.result.now) got)
    (c.look_at_call.ensures tables scope listed sees)

pub look_at-returns-in-And : goal.look_at-returns-in-And
look_at-returns-in-And t c = λ tables scope listed sees.
    let all = c.in-And.is ∙ ap (λ members. node.And members) (sym c.as_slice.ensures) in
    looked_ok c.look_at_members.result _ _ _ _ (reading-And tables scope c.args.tree.now c.as_slice.result.now
    all)
    (c.look_at_members.ensures tables scope listed sees)

pub look_at-returns-in-Or : goal.look_at-returns-in-Or
look_at-returns-in-Or t c = λ tables scope listed sees.
    let all = c.in-Or.is ∙ ap (λ members. node.Or members) (sym c.as_slice-in-Or.ensures) in
    looked_ok c.look_at_members-in-Or.result _ _ _ _
    (reading-Or tables scope c.args.tree.now c.as_slice-in-Or.result.now all)
    (IfOk-weaker c.look_at_members-in-Or.result _ _
    (λ facts. looked-Or tables scope (map (read tables scope) c.as_slice-in-Or.result.now)
    c.args.tree.now.place _ _ facts)
    (c.look_at_members-in-Or.ensures tables scope listed sees))

pub look_at-returns-in_ok-x-in-Not : goal.look_at-returns-in_ok-x-in-Not
look_at-returns-in_ok-x-in-Not t c = λ tables scope listed sees.
    looked_as tables scope c.args.mentions.now c.look_at.new.mentions c.test.result _ _
    (reading-Not tables scope c.args.tree.now c.in-Not.x c.in-Not.is)
    (looked-Not tables scope c.args.mentions.now c.look_at.new.mentions c.in_ok-x-in-Not.x c.test.result
    (read tables scope c.in-Not.x) c.args.tree.now.place
    (looked_at tables scope _ _ _ _ _ c.get-in-Not.ensures
    (c.in_ok-x-in-Not.ensures tables scope listed sees))
    (c.test.ensures ∙ ap (λ (parts : PartsGist). test_gist c.args.tree.now.place parts false)
    (c.with_condition.ensures ∙ ap (λ parts. with_condition parts (gist_at c.in_ok-x-in-Not.x))
    c.none.ensures)))

pub look_at_sum-returns-in_ok-x-in-Negate : goal.look_at_sum-returns-in_ok-x-in-Negate
look_at_sum-returns-in_ok-x-in-Negate t c = λ tables scope listed sees.
    looked_as tables scope c.args.mentions.now c.look_at.new.mentions c.negation.result _ _
    (reading-Negate tables scope c.args.tree.now c.in-Negate.x c.in-Negate.is)
    (looked-Negate tables scope c.args.mentions.now c.look_at.new.mentions c.in_ok-x-in-Negate.x
    c.negation.result (read tables scope c.in-Negate.x) c.args.tree.now.place
    (looked_at tables scope _ _ _ _ _ c.get.ensures (c.in_ok-x-in-Negate.ensures tables scope listed sees))
    c.negation.ensures)

pub look_at_sum-returns-in_ok-y-in-Add : goal.look_at_sum-returns-in_ok-y-in-Add
look_at_sum-returns-in_ok-y-in-Add t c = λ tables scope listed sees.
    looked_as tables scope c.args.mentions.now c.look_at-in-Add-2.new.mentions c.operation.result _ _
    (reading-Add tables scope c.args.tree.now c.in-Add.x c.in-Add.y c.in-Add.is)
    (looked-Add tables scope c.args.mentions.now c.look_at-in-Add.new.mentions c.look_at-in-Add-2.new.mentions
    c.in_ok-x-in-Add.x c.in_ok-y-in-Add.y c.operation.result (read tables scope c.in-Add.x)
    (read tables scope c.in-Add.y) c.args.tree.now.place
    (looked_at tables scope _ _ _ _ _ c.get-in-Add.ensures
    (c.in_ok-x-in-Add.ensures tables scope listed sees))
    (looked_at tables scope _ _ _ _ _ c.get-in-Add-2.ensures
    (c.in_ok-y-in-Add.ensures tables scope listed sees)) c.operation.ensures)

pub look_at_sum-returns-in_ok-y-in-Subtract : goal.look_at_sum-returns-in_ok-y-in-Subtract
look_at_sum-returns-in_ok-y-in-Subtract t c = λ tables scope listed sees.
    looked_as tables scope c.args.mentions.now c.look_at-in-Subtract-2.new.mentions
    c.operation-in-Subtract.result _ _
    (reading-Subtract tables scope c.args.tree.now c.in-Subtract.x c.in-Subtract.y c.in-Subtract.is)
    (looked-Subtract tables scope c.args.mentions.now c.look_at-in-Subtract.new.mentions
    c.look_at-in-Subtract-2.new.mentions
    c.in_ok-x-in-Subtract.x c.in_ok-y-in-Subtract.y c.operation-in-Subtract.result
    (read tables scope c.in-Subtract.x) (read tables scope c.in-Subtract.y) c.args.tree.now.place
    (looked_at tables scope _ _ _ _ _ c.get-in-Subtract.ensures
    (c.in_ok-x-in-Subtract.ensures tables scope listed sees))
    (looked_at tables scope _ _ _ _ _ c.get-in-Subtract-2.ensures
    (c.in_ok-y-in-Subtract.ensures tables scope listed sees)) c.operation-in-Subtract.ensures)

pub look_at_sum-returns-in_ok-y-in-Multiply : goal.look_at_sum-returns-in_ok-y-in-Multiply
look_at_sum-returns-in_ok-y-in-Multiply t c = λ tables scope listed sees.
    looked_as tables scope c.args.mentions.now c.look_at-in-Multiply-2.new.mentions
    c.operation-in-Multiply.result _ _
    (reading-Multiply tables scope c.args.tree.now c.in-Multiply.x c.in-Multiply.y c.in-Multiply.is)
    (looked-Multiply tables scope c.args.mentions.now c.look_at-in-Multiply.new.mentions
    c.look_at-in-Multiply-2.new.mentions
    c.in_ok-x-in-Multiply.x c.in_ok-y-in-Multiply.y c.operation-in-Multiply.result
    (read tables scope c.in-Multiply.x) (read tables scope c.in-Multiply.y) c.args.tree.now.place
    (looked_at tables scope _ _ _ _ _ c.get-in-Multiply.ensures
    (c.in_ok-x-in-Multiply.ensures tables scope listed sees))
    (looked_at tables scope _ _ _ _ _ c.get-in-Multiply-2.ensures
    (c.in_ok-y-in-Multiply.ensures tables scope listed sees)) c.operation-in-Multiply.ensures)

pub look_at_list-loop-member-init : goal.look_at_list-loop-member-init
look_at_list-loop-member-init t c = λ tables scope listed one sees known. (
  c.with_value-parts.ensures ∙ ap (λ parts. with_value parts (gist_at c.args.x.now)) c.none.ensures
      ∙ ap (with_value no_parts) known ∙ sym (one_value one),
  refl,
  nothing_mentioned c.args.mentions.now,
)

pub look_at_list-loop-member-preserved : goal.look_at_list-loop-member-preserved
look_at_list-loop-member-preserved t c = λ tables scope listed one sees known.
    let so_far = c.loop-member.invariant tables scope listed one sees known in
    let looked = c.in_ok-y.ensures tables scope listed sees in (
      values_more tables scope c.args.list.now c.loop-member.member-index c.member-item.result
          c.loop-member-test.true c.member-item.is
          c.loop-member.mentions c.look_at.new.mentions c.in_ok-y.y looked one _ _ so_far.0
          c.with_value-parts-in-loop-member.ensures,
      clashes_more tables scope c.args.list.now c.loop-member.member-index c.member-item.result
          c.loop-member-test.true c.member-item.is
          c.loop-member.mentions c.look_at.new.mentions c.in_ok-y.y looked one c.args.x.now _ _ known so_far.1
          (ap (λ clash. c.loop-member.clashes || clash) c.clashes-clashes.ensures),
      mentioned_more tables scope c.args.list.now c.loop-member.member-index c.member-item.result
          c.loop-member-test.true c.member-item.is
          c.loop-member.mentions c.look_at.new.mentions c.in_ok-y.y looked c.args.mentions.now so_far.2,
    )

pub look_at_list-returns : goal.look_at_list-returns
look_at_list-returns t c = λ tables scope listed before one negated sees looked.
    let so_far = c.loop-member.invariant tables scope listed one sees looked.gist in
    let all = ap (map (read tables scope)) (take_all c.loop-member.member-index c.args.list.now
    c.loop-member-test.false) in
    let Have : List Reading → Type 0 = λ ones. HaveMentioned c.args.mentions.now c.loop-member.mentions ones
    in
    looked-Among tables scope c.args.list.now before c.loop-member.mentions c.test.result one negated
    c.args.place _ _
    (so_far.0 ∙ ap (λ ones. parts_of_list no_value (one ∷ ones)) all)
    (so_far.1 ∙ ap (list_any (clashes one)) all)
    (then_mentioned before c.args.mentions.now c.loop-member.mentions c.args.x.now one
    (map (read tables scope) c.args.list.now) looked
    (subst Have all so_far.2))
    c.test.ensures

pub look_at_call-returns : goal.look_at_call-returns
look_at_call-returns t c = λ tables scope listed sees.
    looked-Call tables scope c.args.mentions.now (record c.args.mentions.now
    { aggregates = c.push.new.self; literals = c.append.new.self })
    c.call.result c.args.place c.args.call refl c.new-inner.result c.look_at.new.mentions c.in_ok-x.x
    (read tables scope c.args.argument.now) c.in_ok-row.row
    (c.in_ok-x.ensures tables scope listed sees) c.new-inner.ensures.literals
    (row_made _ _ _ _ _ c.over_rows.ensures.scope c.over_rows.ensures.stage c.in_ok-row.ensures tables scope
    listed sees)
    c.call.ensures c.in_ok-push.ensures.items c.in_ok-append.ensures.items

pub look_at_members-loop-member-preserved : goal.look_at_members-loop-member-preserved
look_at_members-loop-member-preserved t c = λ tables scope listed sees.
    let so_far = c.loop-member.invariant tables scope listed sees in
    let looked = c.in_ok-look_at.ensures tables scope listed sees in (
      conditions_more tables scope c.args.members.now c.loop-member.member-index c.member-item.result
          c.loop-member-test.true c.member-item.is
          c.loop-member.mentions c.look_at.new.mentions c.in_ok-look_at.field-0 looked _ _ so_far.0
          c.with_condition-parts.ensures,
      mentioned_more tables scope c.args.members.now c.loop-member.member-index c.member-item.result
          c.loop-member-test.true c.member-item.is
          c.loop-member.mentions c.look_at.new.mentions c.in_ok-look_at.field-0 looked c.args.mentions.now
          so_far.1,
    )

pub look_at_members-returns : goal.look_at_members-returns
look_at_members-returns t c = λ tables scope listed sees.
    let so_far = c.loop-member.invariant tables scope listed sees in
    let all = ap (map (read tables scope)) (take_all c.loop-member.member-index c.args.members.now
    c.loop-member-test.false) in
    let Have : List Reading → Type 0 = λ ones. HaveMentioned c.args.mentions.now c.loop-member.mentions ones
    in
    looked-And tables scope c.args.members.now c.args.mentions.now c.loop-member.mentions c.test.result
    c.args.place _
    (so_far.0 ∙ ap (parts_of_list no_condition) all) (subst Have all so_far.1) c.test.ensures

pub look_at_test-returns-in_ok-y-in-Compare : goal.look_at_test-returns-in_ok-y-in-Compare
look_at_test-returns-in_ok-y-in-Compare t c = λ tables scope listed sees.
    let parts = c.with_value-parts.ensures
    ∙ ap (λ parts. with_value parts (gist_at c.in_ok-y-in-Compare.y))
    (c.with_value.ensures ∙ ap (λ parts. with_value parts (gist_at c.in_ok-x-in-Compare.x)) c.none.ensures) in
    looked_as tables scope c.args.mentions.now c.look_at-in-Compare.new.mentions c.test.result _ _
    (reading-Compare tables scope c.args.tree.now c.in-Compare.op c.in-Compare.left c.in-Compare.right
    c.in-Compare.is)
    (looked-Compare tables scope c.args.mentions.now c.look_at.new.mentions c.look_at-in-Compare.new.mentions
    c.in_ok-x-in-Compare.x c.in_ok-y-in-Compare.y c.test.result (read tables scope c.in-Compare.left)
    (read tables scope c.in-Compare.right) c.args.tree.now.place
    (looked_at tables scope _ _ _ _ _ c.get.ensures (c.in_ok-x-in-Compare.ensures tables scope listed sees))
    (looked_at tables scope _ _ _ _ _ c.get-in-Compare.ensures
    (c.in_ok-y-in-Compare.ensures tables scope listed sees))
    c.in-Compare.op
    (c.test.ensures ∙ ap (λ (parts : PartsGist). test_gist c.args.tree.now.place parts c.clashes.result) parts
    ∙ ap (test_gist c.args.tree.now.place (with_value (with_value no_parts (gist_at c.in_ok-x-in-Compare.x))
    (gist_at c.in_ok-y-in-Compare.y))) c.clashes.ensures))

pub look_at_test-returns-in_ok-high-in-Between : goal.look_at_test-returns-in_ok-high-in-Between
look_at_test-returns-in_ok-high-in-Between t c = λ tables scope listed sees.
    looked_as tables scope c.args.mentions.now c.look_at-in-Between-3.new.mentions c.between.result _ _
    (reading-Between tables scope c.args.tree.now c.in-Between.value c.in-Between.low c.in-Between.high
    c.in-Between.negated c.in-Between.is)
    (looked-Between tables scope c.args.mentions.now c.look_at-in-Between.new.mentions
    c.look_at-in-Between-2.new.mentions c.look_at-in-Between-3.new.mentions
    c.in_ok-x-in-Between.x c.in_ok-low-in-Between.low c.in_ok-high-in-Between.high c.between.result
    (read tables scope c.in-Between.value) (read tables scope c.in-Between.low)
    (read tables scope c.in-Between.high) c.args.tree.now.place
    (looked_at tables scope _ _ _ _ _ c.get-in-Between.ensures
    (c.in_ok-x-in-Between.ensures tables scope listed sees))
    (looked_at tables scope _ _ _ _ _ c.get-in-Between-2.ensures
    (c.in_ok-low-in-Between.ensures tables scope listed sees))
    (looked_at tables scope _ _ _ _ _ c.get-in-Between-3.ensures
    (c.in_ok-high-in-Between.ensures tables scope listed sees))
    c.in-Between.negated c.between.ensures)

pub look_at_test-returns-in_ok-x-in-Among : goal.look_at_test-returns-in_ok-x-in-Among
look_at_test-returns-in_ok-x-in-Among t c = λ tables scope listed sees.
    let all = c.in-Among.is ∙ ap (λ list. node.Among c.in-Among.value list c.in-Among.negated)
    (sym c.as_slice.ensures) in
    looked_ok c.look_at_list.result _ _ _ _
    (reading-Among tables scope c.args.tree.now c.in-Among.value c.as_slice.result.now c.in-Among.negated all)
    (c.look_at_list.ensures tables scope listed c.args.mentions.now (read tables scope c.in-Among.value)
    c.in-Among.negated sees
    (looked_at tables scope _ _ _ _ _ c.get-in-Among.ensures
    (c.in_ok-x-in-Among.ensures tables scope listed sees)))

pub look_at_test-returns-in_ok-x-in-IsNull : goal.look_at_test-returns-in_ok-x-in-IsNull
look_at_test-returns-in_ok-x-in-IsNull t c = λ tables scope listed sees.
    looked_as tables scope c.args.mentions.now c.look_at-in-IsNull.new.mentions c.test-in-IsNull.result _ _
    (reading-IsNull tables scope c.args.tree.now c.in-IsNull.value c.in-IsNull.negated c.in-IsNull.is)
    (looked-IsNull tables scope c.args.mentions.now c.look_at-in-IsNull.new.mentions c.in_ok-x-in-IsNull.x
    c.test-in-IsNull.result
    (read tables scope c.in-IsNull.value) c.in-IsNull.negated c.args.tree.now.place
    (looked_at tables scope _ _ _ _ _ c.get-in-IsNull.ensures
    (c.in_ok-x-in-IsNull.ensures tables scope listed sees))
    (c.test-in-IsNull.ensures ∙ ap (λ (parts : PartsGist). test_gist c.args.tree.now.place parts false)
    (c.with_value-in-IsNull.ensures ∙ ap (λ parts. with_value parts (gist_at c.in_ok-x-in-IsNull.x))
    c.none-in-IsNull.ensures)))
