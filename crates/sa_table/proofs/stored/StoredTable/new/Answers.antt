use Rattle.std.proofs.Common.{◌≡◌, ◌∙◌, [], map, sym, ap, subst}
use Rattle.std.specs.List.{enumerate_from, range_with_len}
use Rattle.sa_table.specs.Table.{raised, raised_column}
use Rattle.sa_table.specs.Sound.{IsSoundTable}
use Rattle.sa_table.specs.inner.Keys.{AreIndexed}
use Rattle.sa_table.specs.inner.Store.{HoldKinds, row_in, rows_in}
use Rattle.sa_table.proofs.GrowthLemmas.{new_sound}
use Rattle.sa_table.proofs.stored.StoredTable.new.Goals as goal

pub invariant_of-result : goal.invariant_of-result
invariant_of-result c =
    let def = c.args.def in
    let store = c.in_ok-store.store in
    let columns : c.from_vec.result ≡ (raised def).columns =
    c.from_vec.ensures ∙ c.raise-columns.ensures
    ∙ ap (λ keys. map (raised_column keys) (enumerate_from 0 c.into_vec.result.items)) c.as_slice.ensures
    ∙ ap (λ columns. map (raised_column def.keys) (enumerate_from 0 columns)) c.into_vec.ensures in
    let none : rows_in store ≡ [] = ap (λ count. map (row_in store.columns.items) (range_with_len 0 count)) c.in_ok-store.ensures.none in
    record {
      sound = subst (λ columns. IsSoundTable record { def = record def { columns = columns }; rows = rows_in store }) (sym columns)
          (subst (λ rows. IsSoundTable record { def = raised def; rows = rows }) (sym none) (new_sound def c.requires));
      kinds = subst (λ defs. HoldKinds defs store.columns.items) (c.deref.ensures.value ∙ sym c.from_vec.ensures) c.in_ok-store.ensures.kinds;
      filled = c.in_ok-store.ensures.filled;
      indexed = subst (λ rows. AreIndexed rows def.keys c.in_ok-indexes.indexes.items) (sym none)
          (subst (λ keys. AreIndexed [] keys c.in_ok-indexes.indexes.items) c.as_slice-2.ensures c.in_ok-indexes.ensures);
    }

pub returns-clause-sound : goal.returns-clause-sound
returns-clause-sound c =
    let def = c.args.def in
    let store = c.in_ok-store.store in
    let columns : c.from_vec.result ≡ (raised def).columns =
    c.from_vec.ensures ∙ c.raise-columns.ensures
    ∙ ap (λ keys. map (raised_column keys) (enumerate_from 0 c.into_vec.result.items)) c.as_slice.ensures
    ∙ ap (λ columns. map (raised_column def.keys) (enumerate_from 0 columns)) c.into_vec.ensures in
    let none : rows_in store ≡ [] = ap (λ count. map (row_in store.columns.items) (range_with_len 0 count)) c.in_ok-store.ensures.none in
    subst (λ columns. IsSoundTable record { def = record def { columns = columns }; rows = rows_in store }) (sym columns)
    (subst (λ rows. IsSoundTable record { def = raised def; rows = rows }) (sym none) (new_sound def c.requires))
