-- A statement that sets tables up makes one list of tables of those that are there, or has one fault.
use Rattle.std.proofs.Common.{◌≡◌, ℕ, ◌+◌, List, length, Some, refl, sym, ap, ◌∙◌, subst, inl, inr}
use Rattle.std.specs.Prelude.{slice_get, slice_set}
use Rattle.std.proofs.lemmas.Option.{slice_get_within}
use Rattle.sa_ast.specs.declared.create.CreateTree.{CreateTree}
use Rattle.sa_ast.specs.declared.insert.InsertTree.{InsertTree}
use Rattle.sa_ast.specs.declared.insert.TupleTree.{TupleTree}
use Rattle.sa_ast.specs.declared.name.NameTree.{NameTree}
use Rattle.sa_ast.specs.declared.statement.Statement.{Statement}
use Rattle.sa_ast.specs.declared.statement.Statement.TheVariants.{Create, Insert}
use Rattle.sa_table.specs.declared.def.TableDef.{TableDef}
use Rattle.sa_table.specs.declared.fault.RowFault.{RowFault}
use Rattle.sa_table.specs.Create.{table_faults}
use Rattle.sa_table.specs.Table.{Table, table_at}
use Rattle.sa_script.specs.declared.fault.ScriptKind.{ScriptKind}
use Rattle.sa_script.specs.Create.{Creates, CantCreate, def_of, table_kind}
use Rattle.sa_script.specs.Fault.{Fault, fault_at, row_fault_at}
use Rattle.sa_script.specs.Insert.{Inserts, CantInsert, CantInsertInto, HasBadName, HasGoodNames, HasBadTuple, InsertsFirst, name_fault_at, faults_at, rows_for, row_kind, listed, with_rows}
use Rattle.sa_script.specs.Named.{table_named}
use Rattle.sa_script.specs.Says.{SetsUp, CantSetUp}
use Rattle.sa_script.proofs.one_answer.Firsts.{same_first, told_same, none_told, nothing_first}

pub fault_same : (kind other : ScriptKind) (place there : ℕ) → kind ≡ other → place ≡ there → fault_at kind place ≡ fault_at other there
fault_same kind other place there e f = rw (e, f) refl

pub row_fault_same : (kind other : ScriptKind) (place there number next : ℕ) → kind ≡ other → place ≡ there → number ≡ next → row_fault_at kind place number ≡ row_fault_at other there next
row_fault_same kind other place there number next e f g = rw (e, f, g) refl

-- ---- CREATE TABLE

same_uncreated : (tables : List Table) (tree : CreateTree) (f g : Fault) → CantCreate tables tree f → CantCreate tables tree g → f ≡ g
same_uncreated tables tree f g h too =
    let told : h.told ≡ too.told = told_same (slice_get (table_faults tables (def_of tree)) 0) h.told too.told h.first too.first in
    let kind : h.kind ≡ too.kind = told_same (table_kind h.told) h.kind too.kind h.called (ap table_kind told ∙ too.called) in
    h.fault_is ∙ fault_same h.kind too.kind tree.name.place tree.name.place kind refl ∙ sym too.fault_is

created_or_not : (tables after : List Table) (tree : CreateTree) (f : Fault) → Creates tables tree after → CantCreate tables tree f → ⊥
created_or_not tables after tree f is h = nothing_first (table_faults tables (def_of tree)) h.told is.faultless h.first

-- ---- INSERT

-- the name at this place is faulty
abbrev HasFaultAt : TableDef → List NameTree → ℕ → Type 0
HasFaultAt def names index = (name : NameTree) × (kind : ScriptKind) × (slice_get names index ≡ Some name) × (name_fault_at def names index name ≡ Some kind)

same_bad_name : (def : TableDef) (names : List NameTree) (f g : Fault) → HasBadName def names f → HasBadName def names g → f ≡ g
same_bad_name def names f g h too =
    let index : h.index ≡ too.index = same_first (HasFaultAt def names) h.index too.index (h.name, h.kind, h.there, h.bad) (too.name, too.kind, too.there, too.bad)
    (λ k lt bad. none_told (name_fault_at def names k bad.0) bad.1 (h.first k bad.0 lt bad.2) bad.3)
    (λ k lt bad. none_told (name_fault_at def names k bad.0) bad.1 (too.first k bad.0 lt bad.2) bad.3) in
    let name : h.name ≡ too.name = told_same (slice_get names h.index) h.name too.name h.there (ap (slice_get names) index ∙ too.there) in
    let bad : name_fault_at def names h.index h.name ≡ Some too.kind = ap (λ (n : ℕ). name_fault_at def names n h.name) index ∙ ap (name_fault_at def names too.index) name ∙ too.bad in
    let kind : h.kind ≡ too.kind = told_same (name_fault_at def names h.index h.name) h.kind too.kind h.bad bad in
    h.fault_is ∙ fault_same h.kind too.kind h.name.place too.name.place kind (ap (λ (tree : NameTree). tree.place) name) ∙ sym too.fault_is

good_or_bad : (def : TableDef) (names : List NameTree) (f : Fault) → HasGoodNames def names → HasBadName def names f → ⊥
good_or_bad def names f good h = none_told (name_fault_at def names h.index h.name) h.kind (good h.index h.name h.there) h.bad

-- the row of the tuple at this place is faulty
abbrev HasRowFaultAt : Table → InsertTree → ℕ → Type 0
HasRowFaultAt table tree index = (told : RowFault) × (slice_get (faults_at table (rows_for table.def tree) index) 0 ≡ Some told)

same_bad_tuple : (table : Table) (tree : InsertTree) (f g : Fault) → HasBadTuple table tree f → HasBadTuple table tree g → f ≡ g
same_bad_tuple table tree f g h too =
    let rows = rows_for table.def tree in
    let index : h.index ≡ too.index = same_first (HasRowFaultAt table tree) h.index too.index (h.told, h.first) (too.told, too.first)
    (λ k lt bad. nothing_first (faults_at table rows k) bad.0 (h.before k lt) bad.1)
    (λ k lt bad. nothing_first (faults_at table rows k) bad.0 (too.before k lt) bad.1) in
    let tuple : h.tuple ≡ too.tuple = told_same (slice_get tree.tuples h.index) h.tuple too.tuple h.there (ap (slice_get tree.tuples) index ∙ too.there) in
    let told : h.told ≡ too.told = told_same (slice_get (faults_at table rows h.index) 0) h.told too.told h.first (ap (λ (n : ℕ). slice_get (faults_at table rows n) 0) index ∙ too.first) in
    let kind : h.kind ≡ too.kind = told_same (row_kind h.told) h.kind too.kind h.called (ap row_kind told ∙ too.called) in
    h.fault_is ∙ row_fault_same h.kind too.kind h.tuple.place too.tuple.place (h.index + 1) (too.index + 1) kind (ap (λ (t : TupleTree). t.place) tuple) (ap (λ (n : ℕ). n + 1) index) ∙ sym too.fault_is

rows_or_bad : (table : Table) (tree : InsertTree) (f : Fault) → InsertsFirst (length tree.tuples) table (rows_for table.def tree) → HasBadTuple table tree f → ⊥
rows_or_bad table tree f rows h = nothing_first (faults_at table (rows_for table.def tree) h.index) h.told (rows h.index (slice_get_within tree.tuples h.index h.tuple h.there)) h.first

same_uninserted_into : (table : Table) (tree : InsertTree) (f g : Fault) → CantInsertInto table tree f → CantInsertInto table tree g → f ≡ g
same_uninserted_into table tree f g (inl name) (inl other) = same_bad_name table.def (listed tree.columns) f g name other
same_uninserted_into table tree f g (inl name) (inr tuple) = absurd (good_or_bad table.def (listed tree.columns) f tuple.0 name)
same_uninserted_into table tree f g (inr tuple) (inl name) = absurd (good_or_bad table.def (listed tree.columns) g tuple.0 name)
same_uninserted_into table tree f g (inr tuple) (inr other) = same_bad_tuple table tree f g tuple.1 other.1

same_uninserted : (tables : List Table) (tree : InsertTree) (f g : Fault) → CantInsert tables tree f → CantInsert tables tree g → f ≡ g
same_uninserted tables tree f g (inl unknown) (inl other) = unknown.1 ∙ sym other.1
same_uninserted tables tree f g (inl unknown) (inr h) = absurd (none_told (table_named tables tree.table.name) h.0 unknown.0 h.1)
same_uninserted tables tree f g (inr h) (inl unknown) = absurd (none_told (table_named tables tree.table.name) h.0 unknown.0 h.1)
same_uninserted tables tree f g (inr h) (inr too) =
    let table : too.0 ≡ h.0 = told_same (table_named tables tree.table.name) too.0 h.0 too.1 h.1 in
    same_uninserted_into (table_at tables h.0) tree f g h.2 (subst (λ (n : ℕ). CantInsertInto (table_at tables n) tree g) table too.2)

-- the tables with the rows in this one
abbrev inserted : List Table → InsertTree → ℕ → List Table
inserted tables tree table = slice_set tables table (with_rows (table_at tables table) (rows_for (table_at tables table).def tree))

same_inserted : (tables after others : List Table) (tree : InsertTree) → Inserts tables tree after → Inserts tables tree others → after ≡ others
same_inserted tables after others tree h too =
    let table : h.table ≡ too.table = told_same (table_named tables tree.table.name) h.table too.table h.named too.named in
    h.after_is ∙ ap (inserted tables tree) table ∙ sym too.after_is

inserted_into_or_not : (table : Table) (tree : InsertTree) (f : Fault) → HasGoodNames table.def (listed tree.columns) → InsertsFirst (length tree.tuples) table (rows_for table.def tree) → CantInsertInto table tree f → ⊥
inserted_into_or_not table tree f names rows (inl name) = good_or_bad table.def (listed tree.columns) f names name
inserted_into_or_not table tree f names rows (inr tuple) = rows_or_bad table tree f rows tuple.1

inserted_or_not : (tables after : List Table) (tree : InsertTree) (f : Fault) → Inserts tables tree after → CantInsert tables tree f → ⊥
inserted_or_not tables after tree f is (inl unknown) = none_told (table_named tables tree.table.name) is.table unknown.0 is.named
inserted_or_not tables after tree f is (inr h) =
    let table : h.0 ≡ is.table = told_same (table_named tables tree.table.name) h.0 is.table h.1 is.named in
    inserted_into_or_not (table_at tables is.table) tree f is.names is.rows (subst (λ (n : ℕ). CantInsertInto (table_at tables n) tree f) table h.2)

-- ---- either

pub same_set_up : (tables after others : List Table) (tree : Statement) → SetsUp tables tree after → SetsUp tables tree others → after ≡ others
same_set_up tables after others (Create tree) h too = h.after_is ∙ sym too.after_is
same_set_up tables after others (Insert tree) h too = same_inserted tables after others tree h too
same_set_up tables after others tree h too = absurd h

pub same_not_set_up : (tables : List Table) (tree : Statement) (f g : Fault) → CantSetUp tables tree f → CantSetUp tables tree g → f ≡ g
same_not_set_up tables (Create tree) f g h too = same_uncreated tables tree f g h too
same_not_set_up tables (Insert tree) f g h too = same_uninserted tables tree f g h too
same_not_set_up tables tree f g h too = absurd h

pub set_up_or_not : (tables after : List Table) (tree : Statement) (f : Fault) → SetsUp tables tree after → CantSetUp tables tree f → ⊥
set_up_or_not tables after (Create tree) f is h = created_or_not tables after tree f is h
set_up_or_not tables after (Insert tree) f is h = inserted_or_not tables after tree f is h
set_up_or_not tables after tree f is h = is
