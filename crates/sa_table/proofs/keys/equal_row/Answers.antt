use Rattle.std.proofs.Common.{◌≡◌, ◌∙◌, ◌<◌, ◌-◌, [], length, get_or, true, false, Some, None, sym, ap, subst, arith, ⊎_elim}
use Rattle.std.proofs.lemmas.Bool.{cases_eq}
use Rattle.std.proofs.lemmas.List.FromFn.{length-map-range_with_len}
use Rattle.sa_table.specs.Table.{key_tuple}
use Rattle.sa_table.specs.AddRow.{collides, same_tuple}
use Rattle.sa_table.specs.inner.Digest.{digest_of}
use Rattle.sa_table.specs.inner.Keys.{IsAfterLast}
use Rattle.sa_table.specs.inner.Store.{rows_in, row_in}
use Rattle.sa_table.proofs.IndexLemmas.{NoneFrom, none_between, position_is, position_none, others_differ}
use Rattle.sa_table.proofs.StoreLemmas.{rows_of_at}
use Rattle.sa_table.proofs.TupleLemmas.{collides_without_digest, collides_with_digest}
use Rattle.sa_table.proofs.keys.equal_row.Goals as goal

pub returns-in_err-digest : goal.returns-in_err-digest
returns-in_err-digest c =
    let key = c.args.key.now in
    let row = c.args.row.now in
    let rows = rows_in c.args.store.now in
    let none : digest_of (key_tuple key.parts row) ≡ None = ap (λ parts. digest_of (key_tuple parts row)) (sym c.as_slice-parts.ensures) ∙ sym c.in_err-digest.ensures in
    c.from_residual.ensures ∙ sym (position_none (collides key row) rows [] (λ i there. collides_without_digest key row (get_or rows i []) none))

pub loop-bound-init : goal.loop-bound-init
loop-bound-init c =
    let key = c.args.key.now in
    let row = c.args.row.now in
    let rows = rows_in c.args.store.now in
    let digest = c.in_ok-digest.digest in
    let is : digest_of (key_tuple key.parts row) ≡ Some digest = ap (λ parts. digest_of (key_tuple parts row)) (sym c.as_slice-parts.ensures) ∙ sym c.in_ok-digest.ensures in
    let last : IsAfterLast key.parts rows digest (length rows) c.last-bound.result = subst (λ given. IsAfterLast key.parts rows digest (length rows) given) (sym c.last-bound.ensures) (c.requires.indexed.last digest) in
    record {
      within = omega (arith, last.within, length-map-range_with_len (row_in c.args.store.now.columns.items) 0 c.args.store.now.count);
      last = λ some. last.last some ∙ sym is;
      none = none_between key rows row digest (length rows) c.last-bound.result is last (λ k from to. absurd (omega arith));
    }

pub loop-bound-preserved : goal.loop-bound-preserved
loop-bound-preserved c =
    let key = c.args.key.now in
    let row = c.args.row.now in
    let columns = c.args.store.now.columns.items in
    let rows = rows_in c.args.store.now in
    let other = c.loop-bound.bound - 1 in
    let digest = c.in_ok-digest.digest in
    let long : length rows ≡ c.args.store.now.count = length-map-range_with_len (row_in columns) 0 c.args.store.now.count in
    let is : digest_of (key_tuple key.parts row) ≡ Some digest = ap (λ parts. digest_of (key_tuple parts row)) (sym c.as_slice-parts.ensures) ∙ sym c.in_ok-digest.ensures in
    let there : other < c.args.store.now.count = omega (arith, c.loop-bound.invariant.within) in
    let last : IsAfterLast key.parts rows digest other c.before-bound.result =
    subst (λ given. IsAfterLast key.parts rows digest other given) (sym c.before-bound.ensures) (c.requires.indexed.before other digest (omega arith) (c.loop-bound.invariant.last c.loop-bound-test.true ∙ is)) in
    let differs : collides key row (get_or rows other []) ≡ false =
    collides_with_digest key row (get_or rows other []) digest is
    ∙ ap (λ at. same_tuple (key_tuple key.parts row) (key_tuple key.parts at)) (rows_of_at columns c.args.store.now.count other [] there)
    ∙ ap (λ parts. same_tuple (key_tuple parts row) (key_tuple parts (row_in columns other))) (sym c.as_slice-parts.ensures)
    ∙ sym c.has_equal.ensures ∙ c.if-has_equal.false in
    let none : NoneFrom key rows row other = λ k from to.
    ⊎_elim (λ same. ap (λ at. collides key row (get_or rows at [])) same ∙ differs) (λ apart. c.loop-bound.invariant.none k (omega arith) to) (cases_eq k other) in
    record {
      within = omega (arith, last.within);
      last = λ some. last.last some ∙ sym is;
      none = none_between key rows row digest other c.before-bound.result is last none;
    }

pub returns-then-has_equal : goal.returns-then-has_equal
returns-then-has_equal c =
    let key = c.args.key.now in
    let row = c.args.row.now in
    let columns = c.args.store.now.columns.items in
    let rows = rows_in c.args.store.now in
    let other = c.loop-bound.bound - 1 in
    let digest = c.in_ok-digest.digest in
    let long : length rows ≡ c.args.store.now.count = length-map-range_with_len (row_in columns) 0 c.args.store.now.count in
    let is : digest_of (key_tuple key.parts row) ≡ Some digest = ap (λ parts. digest_of (key_tuple parts row)) (sym c.as_slice-parts.ensures) ∙ sym c.in_ok-digest.ensures in
    let there : other < c.args.store.now.count = omega (arith, c.loop-bound.invariant.within) in
    let stands : collides key row (get_or rows other []) ≡ true =
    collides_with_digest key row (get_or rows other []) digest is
    ∙ ap (λ at. same_tuple (key_tuple key.parts row) (key_tuple key.parts at)) (rows_of_at columns c.args.store.now.count other [] there)
    ∙ ap (λ parts. same_tuple (key_tuple parts row) (key_tuple parts (row_in columns other))) (sym c.as_slice-parts.ensures)
    ∙ sym c.has_equal.ensures ∙ c.if-has_equal.true in
    sym (position_is (collides key row) rows other [] (omega arith) stands (others_differ key rows row other c.requires.unique c.requires.searchable.distinct (omega arith) stands))

pub returns : goal.returns
returns c =
    sym (position_none (collides c.args.key.now c.args.row.now) (rows_in c.args.store.now) [] (λ i there. c.loop-bound.invariant.none i (omega arith) there))
