use Rattle.std.proofs.Common.{◌≡◌, Bool, true, false, List, [], ◌∷◌, ◌++◌, sym, subst, ap, ap₂, ◌∙◌}
use Rattle.std.specs.Ordering.{is_ge, is_lt}
use Rattle.sa_key.specs.declared.range.KeyRange.{KeyRange}
use Rattle.sa_key.specs.Range.{order_of_cuts}
use Rattle.sa_interval.specs.inner.Growing.{IsWith, united}
use Rattle.sa_interval.proofs.CutLemmas.{ge_not_lt, not_ge_lt, upto_back}
use Rattle.sa_interval.proofs.PutLemmas.{with_apart, with_united}
use Rattle.sa_interval.proofs.growing.put_behind.Goals as goal

pub returns-then-is_ge : goal.returns-then-is_ge
returns-then-is_ge c =
    let order = c.order_cuts.ensures ∙ ap₂ order_of_cuts c.view.ensures c.view-2.ensures in
    let meets = upto_back c.order_of_cuts_is_total.ensures c.args.last.to c.args.next.from (ge_not_lt (order_of_cuts c.args.last.to c.args.next.from) (sym (c.is_ge.ensures ∙ ap is_ge order) ∙ c.if-is_ge.true)) in
    let made : c.push.new.self.items ≡ c.args.list.now.items ++ united c.args.last c.args.next ∷ [] = c.in_ok-push.ensures.items ∙ ap (λ range. c.args.list.now.items ++ range ∷ []) c.joined.ensures in
    subst (λ new. IsWith (c.args.list.now.items ++ c.args.last ∷ []) c.args.next new) (sym made)
    (with_united c.order_of_cuts_is_total.ensures c.args.list.now.items c.args.last c.args.next c.requires.list c.requires.next c.requires.begin meets)

pub returns : goal.returns
returns c =
    let order = c.order_cuts.ensures ∙ ap₂ order_of_cuts c.view.ensures c.view-2.ensures in
    let apart = not_ge_lt (order_of_cuts c.args.last.to c.args.next.from) (sym (c.is_ge.ensures ∙ ap is_ge order) ∙ c.if-is_ge.false) in
    let made : c.push-3.new.self.items ≡ (c.args.list.now.items ++ c.args.last ∷ []) ++ c.args.next ∷ [] = c.in_ok-push-3.ensures.items ∙ ap (λ list. list ++ c.args.next ∷ []) c.in_ok-push-2.ensures.items in
    subst (λ new. IsWith (c.args.list.now.items ++ c.args.last ∷ []) c.args.next new) (sym made)
    (with_apart c.order_of_cuts_is_total.ensures c.args.list.now.items c.args.last c.args.next c.requires.list c.requires.next c.requires.begin apart)
