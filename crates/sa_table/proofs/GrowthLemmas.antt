-- What a table keeps as its lists get room, and as it takes one more row.
use Rattle.std.proofs.Common.{◌≡◌, ◌≢◌, ℕ, ◌+◌, ◌-◌, ◌<◌, ◌≤◌, List, [], ◌∷◌, ◌++◌, map, length, get_or, vec_len, true, false, cond, nat_eq, nat_le, not, ◌==◌, Option, Some, None, refl, sym, ap, subst, ◌∙◌, arith, ⊎_elim}
use Rattle.std.proofs.lemmas.Bool.{cases_lt, cases_eq}
use Rattle.std.proofs.lemmas.Bool.Decides.{nat_tests, Decides-eqb}
use Rattle.std.proofs.lemmas.List.{length_push, get_or_append_left, get_or_push, length-map}
use Rattle.std.proofs.lemmas.List.Elements.{All-push, All-nil}
use Rattle.std.proofs.lemmas.List.Quantifiers.{all_pairs_push}
use Rattle.std.proofs.lemmas.List.FromFn.{length-map-range_with_len, length-enumerate_from}
use Rattle.std.specs.Prelude.{All, Result, Ok, Err, OnErr}
use Rattle.std.specs.List.{enumerate_from, slice_index}
use Rattle.sa_value.specs.declared.value.Value.{Value}
use Rattle.sa_table.specs.declared.def.TableDef.{TableDef}
use Rattle.sa_table.specs.declared.def.KeyDef.{KeyDef}
use Rattle.sa_table.specs.declared.index.Index.{Index}
use Rattle.sa_table.specs.declared.store.Store.{Store}
use Rattle.sa_table.specs.Table.{Table, new_table, raised, raised_column, is_unique}
use Rattle.sa_table.specs.AddRow.{row_faults, column_faults, key_faults, kept_value, collides, told_row}
use Rattle.sa_table.specs.declared.fault.RowFault.TheVariants.{RowFull, Arity}
use Rattle.sa_table.specs.Sound.{IsSoundTable, IsRow}
use Rattle.sa_table.specs.inner.Stored.{Keeps, IsDefinition}
use Rattle.sa_table.specs.Create.{told}
use Rattle.sa_table.specs.Table.{key_tuple}
use Rattle.sa_table.specs.declared.fault.RowFault.{RowFault}
use Rattle.sa_table.specs.inner.Digest.{digest_of}
use Rattle.sa_table.specs.inner.First.{first}
use Rattle.sa_table.specs.inner.Index.{bound_in, bound_before, bound_after, AddsDigest}
use Rattle.sa_table.specs.inner.Keys.{row_digest, IsAfterLast, IsIndexed, AreIndexed, AddDigests, IsSearchable, SameIndexes}
use Rattle.sa_table.specs.inner.Store.{row_in, rows_in, held_row, Fills, SameKinds, SameStore}
use Rattle.sa_table.proofs.FirstLemmas.{nil_from_first, nil_left, nil_right, all_empty, first_before, first_after}
use Rattle.sa_table.proofs.IndexLemmas.{position_found, false_unless}
use Rattle.sa_table.proofs.KeyFaultLemmas.{unique_fault, fault_at, key_faults_is}
use Rattle.sa_table.proofs.RaisedLemmas.{raised_again}
use Rattle.sa_table.proofs.RowLemmas.{ranged_row, kept_fits, held_is_kept, told_false, not_false}
use Rattle.sa_table.proofs.SameLemmas.{same_rows, same_keeps}
use Rattle.sa_table.proofs.TupleLemmas.{kept_tuple, digest_of-kept, collides-kept}

pub new_sound : (def : TableDef) → IsDefinition def → IsSoundTable (new_table def)
new_sound def is =
    let wide : length (raised def).columns ≡ length def.columns = length-map (enumerate_from 0 def.columns) (raised_column def.keys) ∙ length-enumerate_from 0 def.columns in
    record {
      few_columns = omega (arith, is.few_columns, wide);
      few_keys = is.few_keys;
      few_rows = omega arith;
      keys = λ k key there. record {
        few = (is.keys k key there).few;
        there = λ i part inside. omega (arith, (is.keys k key there).there i part inside, wide);
      };
      raised_is = ap (λ columns. record def { columns = columns }) (raised_again def.keys 0 def.columns);
      rows = All-nil (IsRow (raised def));
      distinct = λ k key there unique i j d before inside. absurd (omega arith);
    }

earlier_digest : (parts : List ℕ) (rows : List (List Value)) (row : List Value) (k : ℕ) → k < length rows → row_digest parts (rows ++ map kept_value row ∷ []) k ≡ row_digest parts rows k
earlier_digest parts rows row k there = ap (λ at. digest_of (key_tuple parts at)) (get_or_append_left rows (map kept_value row ∷ []) [] k there)

last_digest : (parts : List ℕ) (rows : List (List Value)) (row : List Value) → row_digest parts (rows ++ map kept_value row ∷ []) (length rows) ≡ digest_of (key_tuple parts row)
last_digest parts rows row =
    ap (λ at. digest_of (key_tuple parts at)) (get_or_push rows (map kept_value row) [] (length rows) refl)
    ∙ ap digest_of (kept_tuple parts row) ∙ digest_of-kept (key_tuple parts row)

-- what is said of earlier rows stays
still_after : (parts : List ℕ) (rows : List (List Value)) (row : List Value) (digest below given : ℕ) → below ≤ length rows → IsAfterLast parts rows digest below given → IsAfterLast parts (rows ++ map kept_value row ∷ []) digest below given
still_after parts rows row digest below given few last = record {
  within = last.within;
  last = λ some. earlier_digest parts rows row (given - 1) (omega (arith, last.within)) ∙ last.last some;
  others = λ k from to is. last.others k from to (sym (earlier_digest parts rows row k (omega arith)) ∙ is);
}

-- another digest is still last where it was
after_other : (parts : List ℕ) (rows : List (List Value)) (row : List Value) (digest given : ℕ) → digest_of (key_tuple parts row) ≢ Some digest → IsAfterLast parts rows digest (length rows) given → IsAfterLast parts (rows ++ map kept_value row ∷ []) digest (length (rows ++ map kept_value row ∷ [])) given
after_other parts rows row digest given other last =
    let before : IsAfterLast parts (rows ++ map kept_value row ∷ []) digest (length rows) given = still_after parts rows row digest (length rows) given (omega arith) last in
    record {
      within = omega (arith, last.within, length_push rows (map kept_value row));
      last = before.last;
      others = λ k from to is. ⊎_elim (λ inside. before.others k from inside is)
          (λ outside.
          let at : k ≡ length rows = omega (arith, length_push rows (map kept_value row)) in
          other (sym (last_digest parts rows row) ∙ ap (row_digest parts (rows ++ map kept_value row ∷ [])) (sym at) ∙ is))
          (cases_lt k (length rows));
    }

-- the digest of the new row is last there
after_same : (parts : List ℕ) (rows : List (List Value)) (row : List Value) (digest : ℕ) → digest_of (key_tuple parts row) ≡ Some digest → IsAfterLast parts (rows ++ map kept_value row ∷ []) digest (length (rows ++ map kept_value row ∷ [])) (length rows + 1)
after_same parts rows row digest is = record {
  within = omega (arith, length_push rows (map kept_value row));
  last = λ some. ap (row_digest parts (rows ++ map kept_value row ∷ [])) (the_last (length rows)) ∙ last_digest parts rows row ∙ is;
  others = λ k from to. absurd (omega (arith, length_push rows (map kept_value row)));
}
  where
    the_last : (n : ℕ) → n + 1 - 1 ≡ n
    the_last n = omega arith

none_other : (digest : ℕ) → None ≢ Some digest
none_other digest = λ e. cc

last_grows : (key : KeyDef) (rows : List (List Value)) (row : List Value) (old : Index) (added : Option ℕ) → digest_of (key_tuple key.parts row) ≡ added → IsIndexed rows key old → (digest : ℕ) → IsAfterLast key.parts (rows ++ map kept_value row ∷ []) digest (length (rows ++ map kept_value row ∷ [])) (bound_after old (length rows) added digest)
last_grows key rows row old None is indexed digest = after_other key.parts rows row digest (bound_in old digest) (λ e. none_other digest (sym is ∙ e)) (indexed.last digest)
last_grows key rows row old (Some added) is indexed digest =
    ⊎_elim
    (λ same. subst (λ given. IsAfterLast key.parts (rows ++ map kept_value row ∷ []) digest (length (rows ++ map kept_value row ∷ [])) given)
    (ap (λ at. cond at (length rows + 1) (bound_in old digest)) (sym ((Decides-eqb added digest).1 same)))
    (after_same key.parts rows row digest (is ∙ ap Some same)))
    (λ apart. subst (λ given. IsAfterLast key.parts (rows ++ map kept_value row ∷ []) digest (length (rows ++ map kept_value row ∷ [])) given)
    (ap (λ at. cond at (length rows + 1) (bound_in old digest)) (sym (false_unless (nat_eq added digest) (λ e. apart ((Decides-eqb added digest).0 e)))))
    (after_other key.parts rows row digest (bound_in old digest) (λ e. apart (some_same added digest (sym is ∙ e))) (indexed.last digest)))
    (cases_eq added digest)
  where
    some_same : (a b : ℕ) → Some a ≡ Some b → a ≡ b
    some_same a b e = cc

index_grows : (key : KeyDef) (rows : List (List Value)) (row : List Value) (old new : Index) → IsIndexed rows key old → AddsDigest old new (length rows) (digest_of (key_tuple key.parts row)) → IsIndexed (rows ++ map kept_value row ∷ []) key new
index_grows key rows row old new indexed adds = record {
  before_all = omega (arith, ap length adds.before, length_push old.before.items (bound_before old (digest_of (key_tuple key.parts row))), length_push rows (map kept_value row), indexed.before_all);
  last = λ digest. subst (λ given. IsAfterLast key.parts (rows ++ map kept_value row ∷ []) digest (length (rows ++ map kept_value row ∷ [])) given) (sym (adds.bounds digest)) (last_grows key rows row old (digest_of (key_tuple key.parts row)) refl indexed digest);
  before = λ k digest there is. ⊎_elim
      (λ inside. subst (λ given. IsAfterLast key.parts (rows ++ map kept_value row ∷ []) digest k given)
      (sym (ap (λ (items : List ℕ). get_or items k 0) adds.before ∙ get_or_append_left old.before.items (bound_before old (digest_of (key_tuple key.parts row)) ∷ []) 0 k (omega (arith, indexed.before_all))))
      (still_after key.parts rows row digest k (slice_index old.before.items k) (omega arith) (indexed.before k digest inside (sym (earlier_digest key.parts rows row k inside) ∙ is))))
      (λ outside.
      let at : k ≡ length rows = omega (arith, length_push rows (map kept_value row)) in
      let digest_is : digest_of (key_tuple key.parts row) ≡ Some digest = sym (last_digest key.parts rows row) ∙ ap (row_digest key.parts (rows ++ map kept_value row ∷ [])) (sym at) ∙ is in
      subst (λ given. IsAfterLast key.parts (rows ++ map kept_value row ∷ []) digest k given)
      (sym (ap (λ (items : List ℕ). get_or items k 0) adds.before ∙ get_or_push old.before.items (bound_before old (digest_of (key_tuple key.parts row))) 0 k (omega (arith, indexed.before_all)) ∙ ap (bound_before old) digest_is))
      (subst (λ below. IsAfterLast key.parts (rows ++ map kept_value row ∷ []) digest below (bound_in old digest)) (sym at)
      (still_after key.parts rows row digest (length rows) (bound_in old digest) (omega arith) (indexed.last digest))))
      (cases_lt k (length rows));
}

pub indexes_grow : (keys : List KeyDef) (rows : List (List Value)) (row : List Value) (old new : List Index) → AreIndexed rows keys old → AddDigests keys row (length rows) old new → AreIndexed (rows ++ map kept_value row ∷ []) keys new
indexes_grow keys rows row old new indexed adds = record {
  each_one = adds.each_one ∙ indexed.each_one;
  each = λ k key index there unique. index_grows (get_or keys k key) rows row (get_or old k index) (get_or new k index) (indexed.each k key index there unique) (adds.each k key index there unique);
}

position_free : (found : Option ℕ) → told_row found ≡ [] → found ≡ None
position_free None e = refl
position_free (Some row) e = cc

keys_free : (keys : List KeyDef) (rows : List (List Value)) (row : List Value) → key_faults keys rows row ≡ [] → (k : ℕ) (key : KeyDef) → k < length keys → is_unique (get_or keys k key) ≡ true → (i : ℕ) (d : List Value) → i < length rows → collides (get_or keys k key) row (get_or rows i d) ≡ false
keys_free keys rows row none k key there unique i d inside =
    position_found (collides (get_or keys k key) row) rows d
    (position_free _ (ap (λ is. cond is (fault_at rows row (get_or keys k key)) []) (sym unique) ∙ all_empty (unique_fault rows row) keys (key_faults_is keys rows row ∙ none) k key there))
    i inside

same_length : (a b : ℕ) → (a == b) ≡ true → a ≡ b
same_length a b e = (Decides-eqb a b).0 e

few_rows : (n : ℕ) → nat_le 1000000 n ≡ false → n < 1000000
few_rows n e = grind (arith, nat_tests)

-- what a row without a fault is
pub record IsFaultless (table : Table) (row : List Value) : Type 0 where
  pub few : length table.rows < 1000000
  pub wide : length row ≡ length table.def.columns
  pub columns : column_faults table.def.columns row ≡ []
  pub keys : key_faults table.def.keys table.rows row ≡ []

pub faultless : (table : Table) (row : List Value) → row_faults table row ≡ [] → IsFaultless table row
faultless table row none =
    let full = told (nat_le 1000000 (length table.rows)) RowFull in
    let arity = told (not (length row == length table.def.columns)) Arity in
    let columns = column_faults table.def.columns row in
    let keys = key_faults table.def.keys table.rows row in
    let first_three : full ++ arity ++ columns ≡ [] = nil_left (full ++ arity ++ columns) keys none in
    let first_two : full ++ arity ≡ [] = nil_left (full ++ arity) columns first_three in
    record {
      few = few_rows (length table.rows) (told_false (nat_le 1000000 (length table.rows)) RowFull (nil_left full arity first_two));
      wide = same_length (length row) (length table.def.columns) (not_false (length row == length table.def.columns) (told_false (not (length row == length table.def.columns)) Arity (nil_right full arity first_two)));
      columns = nil_right (full ++ arity) columns first_three;
      keys = nil_right (full ++ arity ++ columns) keys none;
    }

pub grown_sound : (def : TableDef) (rows : List (List Value)) (row : List Value) → IsSoundTable record { def = def; rows = rows } → IsFaultless record { def = def; rows = rows } row → IsSoundTable record { def = def; rows = rows ++ map kept_value row ∷ [] }
grown_sound def rows row sound is = record {
  few_columns = sound.few_columns;
  few_keys = sound.few_keys;
  few_rows = omega (arith, is.few, length_push rows (map kept_value row));
  keys = sound.keys;
  raised_is = sound.raised_is;
  rows = All-push (IsRow def) rows (map kept_value row) sound.rows (kept_fits def row is.wide is.columns);
  distinct = λ k key there unique. all_pairs_push (λ earlier later. collides (get_or def.keys k key) later earlier ≡ false) rows (map kept_value row) (sound.distinct k key there unique)
      (λ i d inside. collides-kept (get_or def.keys k key) row (get_or rows i d) ∙ keys_free def.keys rows row is.keys k key there unique i d inside);
}

-- A table takes a row without a fault.
pub grown_keeps : (def : TableDef) (old new : Store) (row : List Value) (indexes others : List Index) → Keeps def old indexes → IsFaultless record { def = def; rows = rows_in old } row
    → rows_in new ≡ rows_in old ++ held_row old.columns.items row ∷ [] → Fills new → SameKinds old new → vec_len new.columns ≡ vec_len old.columns → AddDigests def.keys row old.count indexes others → Keeps def new others
grown_keeps def old new row indexes others keeps is rows filled kinds wide adds =
    let rows_are : rows_in new ≡ rows_in old ++ map kept_value row ∷ [] = rows ∙ ap (λ last. rows_in old ++ last ∷ []) (held_is_kept def.columns old.columns.items row keeps.kinds is.wide is.columns) in
    let long : length (rows_in old) ≡ old.count = length-map-range_with_len (row_in old.columns.items) 0 old.count in
    record {
      sound = subst (λ rows. IsSoundTable record { def = def; rows = rows }) (sym rows_are) (grown_sound def (rows_in old) row keeps.sound is);
      kinds = record {
        wide = omega (arith, keeps.kinds.wide, wide);
        each = λ k column_def column there. kinds k column (get_or def.columns k column_def).kind (omega (arith, keeps.kinds.wide)) (keeps.kinds.each k column_def column there);
      };
      filled = filled;
      indexed = subst (λ rows. AreIndexed rows def.keys others) (sym rows_are) (indexes_grow def.keys (rows_in old) row indexes others keeps.indexed (subst (λ number. AddDigests def.keys row number indexes others) (sym long) adds));
    }

full_when : (n : ℕ) → 1000000 ≤ n → nat_le 1000000 n ≡ true
full_when n h = grind (arith, nat_tests)

not_full_when : (n : ℕ) → n < 1000000 → nat_le 1000000 n ≡ false
not_full_when n h = grind (arith, nat_tests)

pub full_first : (table : Table) (row : List Value) → 1000000 ≤ length table.rows → Some RowFull ≡ first (row_faults table row)
full_first table row full =
    ap (λ full. first (told full RowFull ++ told (not (length row == length table.def.columns)) Arity ++ column_faults table.def.columns row ++ key_faults table.def.keys table.rows row))
    (sym (full_when (length table.rows) full))

pub arity_first : (table : Table) (row : List Value) → length table.rows < 1000000 → length row ≢ length table.def.columns → Some Arity ≡ first (row_faults table row)
arity_first table row few other =
    ap (λ same. first (told false RowFull ++ told (not same) Arity ++ column_faults table.def.columns row ++ key_faults table.def.keys table.rows row))
    (sym (false_unless (length row == length table.def.columns) (λ e. other ((Decides-eqb (length row) (length table.def.columns)).0 e))))
    ∙ ap (λ full. first (told full RowFull ++ told (not (length row == length table.def.columns)) Arity ++ column_faults table.def.columns row ++ key_faults table.def.keys table.rows row))
    (sym (not_full_when (length table.rows) few))

rest_first : (table : Table) (row : List Value) → length table.rows < 1000000 → length row ≡ length table.def.columns → first (column_faults table.def.columns row ++ key_faults table.def.keys table.rows row) ≡ first (row_faults table row)
rest_first table row few wide =
    ap (λ same. first (told false RowFull ++ told (not same) Arity ++ column_faults table.def.columns row ++ key_faults table.def.keys table.rows row))
    (sym ((Decides-eqb (length row) (length table.def.columns)).1 wide))
    ∙ ap (λ full. first (told full RowFull ++ told (not (length row == length table.def.columns)) Arity ++ column_faults table.def.columns row ++ key_faults table.def.keys table.rows row))
    (sym (not_full_when (length table.rows) few))

pub column_first : (table : Table) (row : List Value) (fault : RowFault) → length table.rows < 1000000 → length row ≡ length table.def.columns → first (column_faults table.def.columns row) ≡ Some fault → Some fault ≡ first (row_faults table row)
column_first table row fault few wide told = sym (first_before (column_faults table.def.columns row) (key_faults table.def.keys table.rows row) fault told) ∙ rest_first table row few wide

pub key_first : (table : Table) (row : List Value) → length table.rows < 1000000 → length row ≡ length table.def.columns → first (column_faults table.def.columns row) ≡ None → first (key_faults table.def.keys table.rows row) ≡ first (row_faults table row)
key_first table row few wide none = sym (first_after (column_faults table.def.columns row) (key_faults table.def.keys table.rows row) none) ∙ rest_first table row few wide

-- each unique key can be searched for a row whose values are without a fault
pub searchable : (def : TableDef) (store : Store) (indexes : List Index) (row : List Value) → Keeps def store indexes → length row ≡ length def.columns → column_faults def.columns row ≡ [] → All (λ key. is_unique key ≡ true → IsSearchable store key row) def.keys
searchable def store indexes row keeps wide none k key there unique = record {
  filled = keeps.filled;
  wide = omega (arith, wide, keeps.kinds.wide);
  ranged = ranged_row def.columns row wide none;
  parts = λ i part inside. omega (arith, (keeps.sound.keys k key there).there i part inside, keeps.kinds.wide);
  distinct = keeps.sound.distinct k key there;
}

pub faultless_now : (table now : Table) (row slice : List Value) (found : Option RowFault) → table ≡ now → slice ≡ row → found ≡ first (row_faults now slice) → found ≡ None → IsFaultless table row
faultless_now table now row slice found view lent is none =
    faultless table row (nil_from_first (row_faults table row) (ap (λ table. first (row_faults table row)) view ∙ ap (λ row. first (row_faults now row)) (sym lent) ∙ sym is ∙ none))

abbrev pub table_of : TableDef → List (List Value) → Table
table_of def rows = record { def = def; rows = rows }

pub same_view : (def : TableDef) (now : Table) (old new : Store) → SameStore old new → table_of def (rows_in old) ≡ now → table_of def (rows_in new) ≡ now
same_view def now old new same view = ap (table_of def) (same_rows old new same) ∙ view

-- the table after room was made and the row was put in
pub record Grows (def : TableDef) (old new : Store) (row : List Value) (others : List Index) : Type 0 where
  pub keeps : Keeps def new others
  pub rows : rows_in new ≡ rows_in old ++ map kept_value row ∷ []

pub grows : (def : TableDef) (old mid new : Store) (row : List Value) (indexes between others : List Index) → Keeps def old indexes → IsFaultless (table_of def (rows_in old)) row → SameStore old mid → SameIndexes indexes between
    → rows_in new ≡ rows_in mid ++ held_row mid.columns.items row ∷ [] → Fills new → SameKinds mid new → vec_len new.columns ≡ vec_len mid.columns → AddDigests def.keys row mid.count between others → Grows def old new row others
grows def old mid new row indexes between others keeps is store index rows filled kinds wide adds =
    let middle : Keeps def mid between = same_keeps def old mid indexes between store index keeps in
    let is_middle : IsFaultless (table_of def (rows_in mid)) row = subst (λ rows. IsFaultless (table_of def rows) row) (sym (same_rows old mid store)) is in
    record {
      keeps = grown_keeps def mid new row between others middle is_middle rows filled kinds wide adds;
      rows = rows ∙ ap (λ last. rows_in mid ++ last ∷ []) (held_is_kept def.columns mid.columns.items row middle.kinds is.wide is.columns)
          ∙ ap (λ rows. rows ++ map kept_value row ∷ []) (same_rows old mid store);
    }

pub on_err : {A B : Type 0} (result : Result A B) (P : Type 0) → P → OnErr result P
on_err (Ok value) P p = tt
on_err (Err error) P p = p
