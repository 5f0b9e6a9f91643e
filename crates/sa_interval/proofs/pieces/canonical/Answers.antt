use Rattle.std.proofs.Common.{◌≡◌, List, [], ◌∷◌, ◌++◌, sym, subst, subst₂, ap, ◌∙◌, arith}
use Rattle.std.proofs.lemmas.List.{nil_from_length}
use Rattle.sa_key.specs.declared.range.KeyRange.{KeyRange}
use Rattle.sa_key.specs.Range.{IsCanonicalCut, canonical_cut}
use Rattle.sa_key.proofs.RangeLemmas.{canonical_cut-again}
use Rattle.sa_interval.specs.Canonical.{IsListOf, lies_in}
use Rattle.sa_interval.specs.inner.Growing.{BeginBy, IsWith}
use Rattle.sa_interval.proofs.Gathering.{Gathering, gathered, gathering_begins, gathering_ends}
use Rattle.sa_interval.proofs.pieces.canonical.Goals as goal

pub loop-piece-init : goal.loop-piece-init
loop-piece-init c =
    subst₂ (λ list rest. Gathering c.args.pieces list [] rest) (sym c.new-list.ensures.items)
    (sym (c.into_iter-piece-iterator.ensures.into_iter_gives.0 ∙ c.into_vec-piece-items.ensures))
    (gathering_begins c.args.pieces c.requires)

pub put-requires-clause-list : goal.put-requires-clause-list
put-requires-clause-list c = c.loop-piece.invariant.canonical

pub put-requires-clause-from : goal.put-requires-clause-from
put-requires-clause-from c =
    subst (λ (range : KeyRange). IsCanonicalCut range.from) (sym c.canonical.ensures) (canonical_cut-again c.in-Some.piece.from)

pub put-requires-clause-to : goal.put-requires-clause-to
put-requires-clause-to c =
    subst (λ (range : KeyRange). IsCanonicalCut range.to) (sym c.canonical.ensures) (canonical_cut-again c.in-Some.piece.to)

pub put-requires-clause-begin : goal.put-requires-clause-begin
put-requires-clause-begin c =
    let at = subst (λ rest. Gathering c.args.pieces c.loop-piece.list.items c.loop-piece.yielded rest) c.in-Some.ensures.steps.0 c.loop-piece.invariant in
    subst (λ (range : KeyRange). BeginBy range.from c.loop-piece.list.items) (sym c.canonical.ensures) at.begin

pub loop-piece-preserved : goal.loop-piece-preserved
loop-piece-preserved c =
    let at = subst (λ rest. Gathering c.args.pieces c.loop-piece.list.items c.loop-piece.yielded rest) c.in-Some.ensures.steps.0 c.loop-piece.invariant in
    let made = subst (λ range. IsWith c.loop-piece.list.items range c.put.new.list.items) c.canonical.ensures c.in_ok-put.ensures in
    gathered c.order_of_cuts_is_total.ensures c.args.pieces c.loop-piece.list.items c.put.new.list.items c.loop-piece.yielded c.in-Some.piece c.next.new.self.rest.items at made

pub returns : goal.returns
returns c =
    let none = nil_from_length c.loop-piece.piece-iterator.rest.items (omega (arith, c.loop-piece.piece-iterator.rest.ok.0, c.in-None.ensures.steps.0)) in
    subst (IsListOf (lies_in c.args.pieces)) (sym c.from_vec.ensures)
    (gathering_ends c.args.pieces c.loop-piece.list.items c.loop-piece.yielded
    (subst (λ rest. Gathering c.args.pieces c.loop-piece.list.items c.loop-piece.yielded rest) none c.loop-piece.invariant))
