use Rattle.std.proofs.Common.{◌≡◌, ◌<◌, ◌≤◌, ◌-◌, ℕ, ◌+◌, List, length, get_or, drop, Some, None, refl, ap, subst, arith}
use Rattle.std.specs.List.{flat_map, slice_get}
use Rattle.std.proofs.lemmas.Option.{slice_get_read}
use Rattle.sa_query.specs.declared.refusal.ResolveKind.TheVariants.{TooManyConstants}
use Rattle.sa_resolve.specs.declared.look.Looked.{Looked}
use Rattle.sa_resolve.specs.inner.Judging.{literals_at}
use Rattle.sa_resolve.proofs.judging.Constants.{literal_behind, literal_here, literal_told, no_literal}
use Rattle.sa_resolve.proofs.clauses.Clauses.constant_fault.Goals as goal

pub loop-one-init : goal.loop-one-init
loop-one-init c = refl

pub overflow_sub-left : goal.overflow_sub-left
overflow_sub-left c =
    let past = c.in-None.ensures.lookup.3 in
    let same = ap length c.deref.ensures.value in
    let kept = c.one-item.result.literals.ok.0 in
    omega (arith, past, same, kept)

pub loop-one-preserved : goal.loop-one-preserved
loop-one-preserved c =
    let filters = c.args.self.now.filters.items in
    let past = c.in-None.ensures.lookup.3 in
    let same = ap length c.deref.ensures.value in
    let kept = c.one-item.result.literals.ok.0 in
    let few : length c.one-item.result.literals.items ≤ c.loop-one.left = omega (arith, past, same, kept) in
    let less : c.loop-one.left - length c.one-item.result.literals.items ≡ c.loop-one.left - c.len-left.result = omega (arith, kept) in
    subst (λ (left : ℕ). slice_get (flat_map literals_at (drop (c.loop-one.one-index + 1) filters)) left ≡ slice_get (flat_map literals_at filters) 1024) less
    (literal_behind filters c.loop-one.one-index c.loop-one.left c.one-item.result _
    (subst (λ (items : List Looked). c.loop-one.one-index < length items) c.deref-one-items.ensures.value c.loop-one-test.true)
    (subst (λ (items : List Looked). c.one-item.result ≡ get_or items c.loop-one.one-index c.one-item.result) c.deref-one-items.ensures.value c.one-item.is)
    c.loop-one.invariant few)

pub returns-in-Some : goal.returns-in-Some
returns-in-Some c = λ ones are.
    let filters = c.args.self.now.filters.items in
    let items = c.one-item.result.literals.items in
    let at : slice_get items c.loop-one.left ≡ Some c.in-Some.place.now =
    slice_get_read items (length items) c.loop-one.left c.in-Some.place.now refl
    (subst (λ (places : List ℕ). c.loop-one.left < length places) c.deref.ensures.value c.in-Some.ensures.lookup.3.0)
    (subst (λ (places : List ℕ). c.in-Some.place.now ≡ get_or places c.loop-one.left c.in-Some.place.now) c.deref.ensures.value c.in-Some.ensures.lookup.1) in
    literal_told TooManyConstants filters ones (Some c.in-Some.place.now) _ are
    (literal_here filters c.loop-one.one-index c.loop-one.left c.one-item.result _
    (subst (λ (items : List Looked). c.loop-one.one-index < length items) c.deref-one-items.ensures.value c.loop-one-test.true)
    (subst (λ (items : List Looked). c.one-item.result ≡ get_or items c.loop-one.one-index c.one-item.result) c.deref-one-items.ensures.value c.one-item.is)
    c.loop-one.invariant c.in-Some.place.now at)
    c.told.ensures

pub returns : goal.returns
returns c = λ ones are.
    let filters = c.args.self.now.filters.items in
    literal_told TooManyConstants filters ones None _ are
    (no_literal filters c.loop-one.one-index c.loop-one.left _
    (subst (λ (items : List Looked). length items ≤ c.loop-one.one-index) c.deref-one-items.ensures.value c.loop-one-test.false)
    c.loop-one.invariant)
    refl
