use Rattle.std.proofs.Common.{◌≡◌, ◌∙◌, ◌++◌, ◌∷◌, [], List, take, drop, length, sym, ap, subst, arith}
use Rattle.std.proofs.lemmas.List.FromFn.{length-map-range_with_len}
use Rattle.std.specs.Prelude.{All}
use Rattle.sa_table.specs.declared.index.Index.{Index}
use Rattle.sa_table.specs.Table.{Table}
use Rattle.sa_table.specs.AddRow.{with_row}
use Rattle.sa_table.specs.inner.Column.{IsRanged}
use Rattle.sa_table.specs.inner.Keys.{SameIndexes, AddDigests}
use Rattle.sa_table.specs.inner.Store.{row_in, rows_in, held_row}
use Rattle.sa_table.specs.inner.Stored.{Keeps}
use Rattle.sa_table.proofs.GrowthLemmas.{IsFaultless, Grows, faultless_now, table_of, same_view, grows, on_err}
use Rattle.sa_table.proofs.RowLemmas.{ranged_row}
use Rattle.sa_table.proofs.SameLemmas.{same_itself, same_keeps, written_back}
use Rattle.sa_table.proofs.stored.StoredTable.add_row.Goals as goal

pub reserve-requires-clause-ranged : goal.reserve-requires-clause-ranged
reserve-requires-clause-ranged c =
    let inside = c.self.inside in
    let is : IsFaultless (table_of inside.def (rows_in inside.store)) c.args.row = faultless_now (table_of inside.def (rows_in inside.store)) c.args.self.now c.args.row c.as_slice.result.now c.row_fault.result c.self.view_is c.as_slice.ensures c.row_fault.ensures c.in_default.is in
    subst (λ row. All IsRanged row) (sym c.as_slice-2.ensures) (ranged_row inside.def.columns c.args.row is.wide is.columns)

pub invariant_of-self : goal.invariant_of-self
invariant_of-self c =
    let inside = c.self.inside in
    same_keeps inside.def inside.store c.reserve.new.self inside.indexes.items inside.indexes.items c.reserve.ensures.same (same_itself inside.indexes.items) c.self.invariant

pub returns-in_err-reserve-clause-err : goal.returns-in_err-reserve-clause-err
returns-in_err-reserve-clause-err c =
    on_err c.from_residual.result _ (same_view c.self.inside.def c.args.self.now c.self.inside.store c.reserve.new.self c.reserve.ensures.same c.self.view_is)

pub returns-in_err-reserve-clause-sound : goal.returns-in_err-reserve-clause-sound
returns-in_err-reserve-clause-sound c =
    let inside = c.self.inside in
    (same_keeps inside.def inside.store c.reserve.new.self inside.indexes.items inside.indexes.items c.reserve.ensures.same (same_itself inside.indexes.items) c.self.invariant).sound

pub invariant_of-self-in_err-reserve_indexes : goal.invariant_of-self-in_err-reserve_indexes
invariant_of-self-in_err-reserve_indexes c =
    let inside = c.self.inside in
    let between = c.reserve_indexes.new.indexes in
    let index : SameIndexes inside.indexes.items between = subst (λ was. SameIndexes was between) c.deref_mut.ensures.value c.reserve_indexes.ensures.same in
    let back : take inside.indexes.len (between ++ drop (length between) inside.indexes.items) ≡ between = written_back inside.indexes.len inside.indexes.items between (omega arith) index.each_one in
    subst (λ others. Keeps inside.def c.reserve.new.self others) (sym back) (same_keeps inside.def inside.store c.reserve.new.self inside.indexes.items between c.reserve.ensures.same index c.self.invariant)

pub returns-in_err-reserve_indexes-clause-err : goal.returns-in_err-reserve_indexes-clause-err
returns-in_err-reserve_indexes-clause-err c =
    on_err c.from_residual-in_err-reserve_indexes.result _ (same_view c.self.inside.def c.args.self.now c.self.inside.store c.reserve.new.self c.reserve.ensures.same c.self.view_is)

pub returns-in_err-reserve_indexes-clause-sound : goal.returns-in_err-reserve_indexes-clause-sound
returns-in_err-reserve_indexes-clause-sound c =
    let inside = c.self.inside in
    (same_keeps inside.def inside.store c.reserve.new.self inside.indexes.items inside.indexes.items c.reserve.ensures.same (same_itself inside.indexes.items) c.self.invariant).sound

pub push_digests-requires-clause-few : goal.push_digests-requires-clause-few
push_digests-requires-clause-few c =
    let inside = c.self.inside in
    let is : IsFaultless (table_of inside.def (rows_in inside.store)) c.args.row = faultless_now (table_of inside.def (rows_in inside.store)) c.args.self.now c.args.row c.as_slice.result.now c.row_fault.result c.self.view_is c.as_slice.ensures c.row_fault.ensures c.in_default.is in
    omega (arith, is.few, c.reserve.ensures.same.count, length-map-range_with_len (row_in inside.store.columns.items) 0 inside.store.count)

pub push_digests-requires-clause-ranged : goal.push_digests-requires-clause-ranged
push_digests-requires-clause-ranged c =
    let inside = c.self.inside in
    let is : IsFaultless (table_of inside.def (rows_in inside.store)) c.args.row = faultless_now (table_of inside.def (rows_in inside.store)) c.args.self.now c.args.row c.as_slice.result.now c.row_fault.result c.self.view_is c.as_slice.ensures c.row_fault.ensures c.in_default.is in
    subst (λ row. All IsRanged row) (sym c.as_slice-5.ensures) (ranged_row inside.def.columns c.args.row is.wide is.columns)

pub push-requires-clause-few : goal.push-requires-clause-few
push-requires-clause-few c =
    let inside = c.self.inside in
    let is : IsFaultless (table_of inside.def (rows_in inside.store)) c.args.row = faultless_now (table_of inside.def (rows_in inside.store)) c.args.self.now c.args.row c.as_slice.result.now c.row_fault.result c.self.view_is c.as_slice.ensures c.row_fault.ensures c.in_default.is in
    omega (arith, is.few, c.reserve.ensures.same.count, length-map-range_with_len (row_in inside.store.columns.items) 0 inside.store.count)

pub push-requires-clause-ranged : goal.push-requires-clause-ranged
push-requires-clause-ranged c =
    let inside = c.self.inside in
    let is : IsFaultless (table_of inside.def (rows_in inside.store)) c.args.row = faultless_now (table_of inside.def (rows_in inside.store)) c.args.self.now c.args.row c.as_slice.result.now c.row_fault.result c.self.view_is c.as_slice.ensures c.row_fault.ensures c.in_default.is in
    subst (λ row. All IsRanged row) (sym c.into_vec.ensures) (ranged_row inside.def.columns c.args.row is.wide is.columns)

pub invariant_of-self-2 : goal.invariant_of-self-2
invariant_of-self-2 c =
    let inside = c.self.inside in
    let is : IsFaultless (table_of inside.def (rows_in inside.store)) c.args.row = faultless_now (table_of inside.def (rows_in inside.store)) c.args.self.now c.args.row c.as_slice.result.now c.row_fault.result c.self.view_is c.as_slice.ensures c.row_fault.ensures c.in_default.is in
    let between = c.reserve_indexes.new.indexes in
    let index : SameIndexes inside.indexes.items between = subst (λ was. SameIndexes was between) c.deref_mut.ensures.value c.reserve_indexes.ensures.same in
    let back : take inside.indexes.len (between ++ drop (length between) inside.indexes.items) ≡ between = written_back inside.indexes.len inside.indexes.items between (omega arith) index.each_one in
    let mid = c.reserve.new.self in
    let others = c.push_digests.new.indexes in
    let adds : AddDigests inside.def.keys c.args.row mid.count between others =
    subst (λ was. AddDigests inside.def.keys c.args.row mid.count was others) (c.deref_mut-2.ensures.value ∙ back)
    (subst (λ keys. AddDigests keys c.args.row mid.count c.deref_mut-2.result.now others) c.as_slice-4.ensures
    (subst (λ row. AddDigests c.as_slice-4.result.now row mid.count c.deref_mut-2.result.now others) c.as_slice-5.ensures c.push_digests.ensures)) in
    let grown : Grows inside.def inside.store c.push.new.self c.args.row others =
    grows inside.def inside.store mid c.push.new.self c.args.row inside.indexes.items between others c.self.invariant is c.reserve.ensures.same index
    (subst (λ row. rows_in c.push.new.self ≡ rows_in mid ++ held_row mid.columns.items row ∷ []) c.into_vec.ensures c.push.ensures.rows)
    c.push.ensures.filled c.push.ensures.kinds c.push.ensures.wide adds in
    let once : List Index = take inside.indexes.len (between ++ drop (length between) inside.indexes.items) in
    let back_again : take inside.indexes.len (others ++ drop (length others) once) ≡ others =
    written_back inside.indexes.len once others (omega (arith, ap length back, index.each_one)) (adds.each_one ∙ sym (ap length back)) in
    subst (λ others. Keeps inside.def c.push.new.self others) (sym back_again) grown.keeps

pub returns-clause-ok : goal.returns-clause-ok
returns-clause-ok c =
    let inside = c.self.inside in
    let is : IsFaultless (table_of inside.def (rows_in inside.store)) c.args.row = faultless_now (table_of inside.def (rows_in inside.store)) c.args.self.now c.args.row c.as_slice.result.now c.row_fault.result c.self.view_is c.as_slice.ensures c.row_fault.ensures c.in_default.is in
    let between = c.reserve_indexes.new.indexes in
    let index : SameIndexes inside.indexes.items between = subst (λ was. SameIndexes was between) c.deref_mut.ensures.value c.reserve_indexes.ensures.same in
    let back : take inside.indexes.len (between ++ drop (length between) inside.indexes.items) ≡ between = written_back inside.indexes.len inside.indexes.items between (omega arith) index.each_one in
    let mid = c.reserve.new.self in
    let others = c.push_digests.new.indexes in
    let adds : AddDigests inside.def.keys c.args.row mid.count between others =
    subst (λ was. AddDigests inside.def.keys c.args.row mid.count was others) (c.deref_mut-2.ensures.value ∙ back)
    (subst (λ keys. AddDigests keys c.args.row mid.count c.deref_mut-2.result.now others) c.as_slice-4.ensures
    (subst (λ row. AddDigests c.as_slice-4.result.now row mid.count c.deref_mut-2.result.now others) c.as_slice-5.ensures c.push_digests.ensures)) in
    let grown : Grows inside.def inside.store c.push.new.self c.args.row others =
    grows inside.def inside.store mid c.push.new.self c.args.row inside.indexes.items between others c.self.invariant is c.reserve.ensures.same index
    (subst (λ row. rows_in c.push.new.self ≡ rows_in mid ++ held_row mid.columns.items row ∷ []) c.into_vec.ensures c.push.ensures.rows)
    c.push.ensures.filled c.push.ensures.kinds c.push.ensures.wide adds in
    ap (table_of inside.def) grown.rows ∙ ap (λ table. with_row table c.args.row) c.self.view_is

pub returns-clause-number : goal.returns-clause-number
returns-clause-number c =
    let inside = c.self.inside in
    c.reserve.ensures.same.count ∙ sym (length-map-range_with_len (row_in inside.store.columns.items) 0 inside.store.count) ∙ ap (λ (table : Table). length table.rows) c.self.view_is

pub returns-clause-sound : goal.returns-clause-sound
returns-clause-sound c =
    let inside = c.self.inside in
    let is : IsFaultless (table_of inside.def (rows_in inside.store)) c.args.row = faultless_now (table_of inside.def (rows_in inside.store)) c.args.self.now c.args.row c.as_slice.result.now c.row_fault.result c.self.view_is c.as_slice.ensures c.row_fault.ensures c.in_default.is in
    let between = c.reserve_indexes.new.indexes in
    let index : SameIndexes inside.indexes.items between = subst (λ was. SameIndexes was between) c.deref_mut.ensures.value c.reserve_indexes.ensures.same in
    let back : take inside.indexes.len (between ++ drop (length between) inside.indexes.items) ≡ between = written_back inside.indexes.len inside.indexes.items between (omega arith) index.each_one in
    let mid = c.reserve.new.self in
    let others = c.push_digests.new.indexes in
    let adds : AddDigests inside.def.keys c.args.row mid.count between others =
    subst (λ was. AddDigests inside.def.keys c.args.row mid.count was others) (c.deref_mut-2.ensures.value ∙ back)
    (subst (λ keys. AddDigests keys c.args.row mid.count c.deref_mut-2.result.now others) c.as_slice-4.ensures
    (subst (λ row. AddDigests c.as_slice-4.result.now row mid.count c.deref_mut-2.result.now others) c.as_slice-5.ensures c.push_digests.ensures)) in
    let grown : Grows inside.def inside.store c.push.new.self c.args.row others =
    grows inside.def inside.store mid c.push.new.self c.args.row inside.indexes.items between others c.self.invariant is c.reserve.ensures.same index
    (subst (λ row. rows_in c.push.new.self ≡ rows_in mid ++ held_row mid.columns.items row ∷ []) c.into_vec.ensures c.push.ensures.rows)
    c.push.ensures.filled c.push.ensures.kinds c.push.ensures.wide adds in
    grown.keeps.sound
