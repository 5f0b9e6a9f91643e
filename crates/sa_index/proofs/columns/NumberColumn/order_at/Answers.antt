use mir.Syntax.{w64}
use mir.Val.{SFits}
use Rattle.std.proofs.Common.{ℤ, sym, ◌∙◌, ap, get_or, List, Bool, false, arith, rules}
use Rattle.std.proofs.lemmas.Int.{to_z-of_z}
use Rattle.sa_value.specs.Compare.{order_of}
use Rattle.sa_value.specs.Value.{value_at}
use Rattle.sa_value.specs.declared.value.Value.TheVariants.{Int}
use Rattle.sa_index.proofs.ColumnLemmas.{order_past, order_marked, order_unmarked}
use Rattle.sa_index.proofs.columns.NumberColumn.order_at.Goals as goal

pub returns-then-position-len : goal.returns-then-position-len
returns-then-position-len c =
    order_past c.args.self.now c.self.inside.numbers.items c.self.inside.nulls.items c.args.position _ c.order_null.result
    c.self.view_is (omega arith) c.order_null.ensures

pub returns-then-is_marked : goal.returns-then-is_marked
returns-then-is_marked c =
    let marked = ap (λ (marks : List Bool). get_or marks c.args.position false) (sym c.deref.ensures.value) ∙ sym c.is_marked.ensures ∙ c.if-is_marked.true in
    order_marked c.args.self.now c.self.inside.numbers.items c.self.inside.nulls.items c.args.position _ c.order_null-then-is_marked.result
    c.self.view_is (omega arith) marked c.order_null-then-is_marked.ensures

pub returns : goal.returns
returns c =
    let marked = ap (λ (marks : List Bool). get_or marks c.args.position false) (sym c.deref.ensures.value) ∙ sym c.is_marked.ensures ∙ c.if-is_marked.false in
    let fits : SFits w64 c.index.result.now = search rules in
    let stands = c.order_number.ensures ∙ ap (λ (number : ℤ). order_of (Int number) (value_at c.args.value)) (to_z-of_z w64 c.index.result.now fits) in
    order_unmarked c.args.self.now c.self.inside.numbers.items c.self.inside.nulls.items c.args.position (value_at c.args.value) c.order_number.result c.index.result.now
    c.self.view_is (omega arith) marked c.index.ensures stands
