use Rattle.std.proofs.Common.{◌≡◌, ◌-◌, Bool, true, false, List, [], ◌∷◌, ◌++◌, take, sym, subst, ap, ap₂, ◌∙◌, append-nil}
use Rattle.std.specs.Ordering.{is_ge, is_lt}
use Rattle.sa_key.specs.declared.range.KeyRange.{KeyRange}
use Rattle.sa_key.specs.Range.{order_of_cuts}
use Rattle.sa_key.proofs.RangeLemmas.{lt_less}
use Rattle.sa_interval.specs.Canonical.{AreCanonical, IsCanonicalRange}
use Rattle.sa_interval.specs.inner.Growing.{BeginBy, IsWith}
use Rattle.sa_interval.proofs.CutLemmas.{ge_not_lt, not_ge_lt}
use Rattle.sa_interval.proofs.PutLemmas.{with_empty, with_first}
use Rattle.sa_interval.proofs.growing.put.Goals as goal

pub returns-then-is_ge : goal.returns-then-is_ge
returns-then-is_ge c =
    let order = c.order_cuts.ensures ∙ ap₂ order_of_cuts c.view.ensures c.view-2.ensures in
    let empty = ge_not_lt (order_of_cuts c.args.range.from c.args.range.to) (sym (c.is_ge.ensures ∙ ap is_ge order) ∙ c.if-is_ge.true) in
    with_empty c.order_of_cuts_is_total.ensures c.args.list.now.items c.args.range c.requires.list c.requires.from c.requires.to c.requires.begin empty

pub put_behind-requires : goal.put_behind-requires
put_behind-requires c =
    let order = c.order_cuts.ensures ∙ ap₂ order_of_cuts c.view.ensures c.view-2.ensures in
    let rises = not_ge_lt (order_of_cuts c.args.range.from c.args.range.to) (sym (c.is_ge.ensures ∙ ap is_ge order) ∙ c.if-is_ge.false) in
    record {
      list = subst AreCanonical c.in-Some.ensures.items c.requires.list;
      next = record { from = c.requires.from; to = c.requires.to; rises = lt_less (order_of_cuts c.args.range.from c.args.range.to) rises };
      begin = subst (BeginBy c.args.range.from) c.in-Some.ensures.items c.requires.begin;
    }

pub returns-in_ok-push-in-None : goal.returns-in_ok-push-in-None
returns-in_ok-push-in-None c =
    let order = c.order_cuts.ensures ∙ ap₂ order_of_cuts c.view.ensures c.view-2.ensures in
    let rises = not_ge_lt (order_of_cuts c.args.range.from c.args.range.to) (sym (c.is_ge.ensures ∙ ap is_ge order) ∙ c.if-is_ge.false) in
    let new : IsCanonicalRange c.args.range = record { from = c.requires.from; to = c.requires.to; rises = lt_less (order_of_cuts c.args.range.from c.args.range.to) rises } in
    let left : c.pop.new.self.items ≡ [] = c.in-None.ensures.rest ∙ ap (λ length. take (length - 1) c.args.list.now.items) c.in-None.ensures.cases.0 in
    let old : [] ≡ c.args.list.now.items = sym (c.in-None.ensures.items ∙ append-nil c.pop.new.self.items ∙ left) in
    let made : c.args.range ∷ [] ≡ c.push.new.self.items = sym (c.in_ok-push-in-None.ensures.items ∙ ap (λ list. list ++ c.args.range ∷ []) left) in
    subst (λ list. IsWith list c.args.range c.push.new.self.items) old
    (subst (λ list. IsWith [] c.args.range list) made (with_first c.order_of_cuts_is_total.ensures c.args.range new))

pub returns-in_ok-put_behind-in-Some : goal.returns-in_ok-put_behind-in-Some
returns-in_ok-put_behind-in-Some c =
    subst (λ old. IsWith old c.args.range c.put_behind.new.list.items) (sym c.in-Some.ensures.items) c.in_ok-put_behind-in-Some.ensures
