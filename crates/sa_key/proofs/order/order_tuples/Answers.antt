use Rattle.std.proofs.Common.{List, length, ◌∙◌, ap, arith}
use Rattle.std.proofs.lemmas.List.{take_all}
use Rattle.sa_value.specs.declared.value.Value.{Value}
use Rattle.sa_key.specs.Order.{order_of_tuples}
use Rattle.sa_key.proofs.order.order_tuples.Goals as goal

pub returns : goal.returns
returns c =
    c.order_front.ensures
    ∙ ap (λ (front : List Value). order_of_tuples front c.args.b.now) (take_all (length c.args.b.now) c.args.a.now (omega arith))
