-- A table while the records of a text are loaded into it, one after another.
use Rattle.std.proofs.Common.{◌≡◌, ◌<◌, ◌≤◌, ◌+◌, ℕ, suc, List, [], ◌∷◌, ◌++◌, length, map, take, drop, get_or, set, true, false, refl, sym, ap, subst, ◌∙◌, arith, append_assoc, add-zero, Ok, Err, below_more, Bor}
use Rattle.std.proofs.lemmas.Bool.{leb-false}
use Rattle.std.proofs.lemmas.List.{append-nil, map-append, set-set, set-get_or, get_or-set_same, length-set, length-append, length-map, length-take, length-drop, drop-drop, get_or-drop, take_more}
use Rattle.std.specs.Prelude.{slice_get}
use Rattle.csv.specs.declared.reader.Reader.{Reader}
use Rattle.sa_table.specs.Table.{Table, no_table, table_at}
use Rattle.sa_load.specs.declared.fault.LoadCause.{LoadCause}
use Rattle.sa_load.specs.declared.fault.LoadCause.TheVariants as causes
use Rattle.sa_load.specs.declared.fault.LoadFault.{LoadFault}
use Rattle.sa_load.specs.declared.fault.LoadFault.TheVariants as faults
use Rattle.sa_load.specs.declared.refusal.Refusal.{Refusal}
use Rattle.sa_load.specs.declared.refusal.Refusal.TheVariants.{Cause, OutOfMemory}
use Rattle.sa_load.specs.Csv.{Fields}
use Rattle.sa_load.specs.Record.{record_causes, row_of}
use Rattle.sa_load.specs.Load.{Loads, LoadsFirst, causes_at, with_records}
use Rattle.sa_load.specs.inner.Reading.{HasLeft, TakesNext}
use Rattle.sa_load.specs.inner.Refusal.{TellsFirst, fault_at}
use Rattle.sa_load.proofs.RowCauses.{append_none, untold}

-- So many records are in the table, and the others are left in the reader.
pub record IsLoading (initial : List Table) (table : ℕ) (records : List Fields) (loaded : ℕ) (now : List Table) (reader : Reader (Bor (List ℕ))) : Type 0 where
  pub left : List Fields
  pub reading : HasLeft reader left
  pub left_are : drop loaded records ≡ left
  pub there : table < length now
  pub loads : LoadsFirst loaded (table_at initial table) records (table_at now table)
  pub others : now ≡ set initial table (table_at now table)
  pub few : loaded ≤ 1000000

with_none : (table : Table) → table ≡ with_records table []
with_none table = ap (λ (rows : List (List _)). record table { rows = rows }) (sym (append-nil table.rows))

pub loading_none : (initial : List Table) (table : ℕ) (records : List Fields) (reader : Reader (Bor (List ℕ))) → table < length initial
    → HasLeft reader records → IsLoading initial table records 0 initial reader
loading_none initial table records reader there reading = record {
  left = records;
  reading = reading;
  left_are = refl;
  there = there;
  loads = record {
    there = omega arith;
    faultless = λ index below. absurd (omega (arith, below));
    rows = with_none (table_at initial table);
  };
  others = sym (set-get_or initial table no_table);
  few = omega arith;
}

-- the rows of some records, and then of one more
with_one_more : (table : Table) (records : List Fields) (fields : Fields)
    → with_records (with_records table records) (fields ∷ []) ≡ with_records table (records ++ fields ∷ [])
with_one_more table records fields =
    ap (λ (rows : List (List _)). record table { rows = rows })
    (append_assoc table.rows (map (row_of table.def.columns) records) _ ∙ rw (map-append (row_of table.def.columns) records (fields ∷ [])) refl)

-- the next record of those that are left
pub record IsNext (records : List Fields) (index : ℕ) (fields : Fields) : Type 0 where
  pub there : index < length records
  pub is : get_or records index [] ≡ fields

head_at : (records rest : List Fields) (index : ℕ) (fields : Fields) → drop index records ≡ fields ∷ rest → get_or records index [] ≡ fields
head_at records rest index fields e =
    let found : get_or records (index + 0) [] ≡ fields = sym (get_or-drop index records 0 []) ∙ ap (λ (xs : List Fields). get_or xs 0 []) e in
    ap (λ (n : ℕ). get_or records n []) (sym (add-zero index)) ∙ found

next_is : (records rest : List Fields) (index : ℕ) (fields : Fields) → drop index records ≡ fields ∷ rest → IsNext records index fields
next_is records rest index fields e =
    let long : length (drop index records) ≡ suc (length rest) = ap length e in
    record {
      there = omega (arith, simp length-drop at long);
      is = head_at records rest index fields e;
    }

drop_next : (records rest : List Fields) (index : ℕ) (fields : Fields) → drop index records ≡ fields ∷ rest → drop (index + 1) records ≡ rest
drop_next records rest index fields e = sym (drop-drop 1 index records) ∙ ap (drop 1) e

-- the causes of a record in the table that has the rows of those before it
causes_is : (before : Table) (records : List Fields) (index : ℕ) (at : Table) (fields : Fields) → at ≡ with_records before (take index records)
    → get_or records index [] ≡ fields → causes_at before records index ≡ record_causes at fields
causes_is before records index at fields a b =
    ap (λ (t : Table). record_causes t (get_or records index [])) (sym a) ∙ ap (record_causes at) b

-- the next record, where it is put into the table
loads_more : (before : Table) (records : List Fields) (loaded : ℕ) (at after : Table) (fields : Fields) → LoadsFirst loaded before records at
    → IsNext records loaded fields → record_causes at fields ≡ [] → after ≡ with_records at (fields ∷ [])
    → LoadsFirst (loaded + 1) before records after
loads_more before records loaded at after fields loads next none e =
    let taken : take (loaded + 1) records ≡ take loaded records ++ fields ∷ [] =
    take_more records loaded [] next.there ∙ ap (λ (field : Fields). take loaded records ++ field ∷ []) next.is in
    record {
      there = omega (arith, next.there);
      faultless = below_more _ _ loads.faultless (causes_is before records loaded at fields loads.rows next.is ∙ none);
      rows = e ∙ rw (loads.rows, taken) (with_one_more before (take loaded records) fields);
    }

taken_all : (n : ℕ) (xs : List Fields) → n ≤ length xs → length (take n xs) ≡ n
taken_all n xs few = omega (arith, length-take n xs)

-- how many rows there are once so many records are loaded
few_rows : (before : Table) (records : List Fields) (loaded : ℕ) (at : Table) (fields : Fields) → LoadsFirst loaded before records at
    → record_causes at fields ≡ [] → loaded < 1000000
few_rows before records loaded at fields loads none =
    let rows : length at.rows ≡ length before.rows + loaded =
    ap (λ (t : Table). length t.rows) loads.rows
    ∙ length-append before.rows (map (row_of before.def.columns) (take loaded records))
    ∙ ap (λ n. length before.rows + n) (length-map (take loaded records) (row_of before.def.columns) ∙ taken_all loaded records loads.there) in
    let below = leb-false 1000000 (length at.rows) (untold _ causes.RowFull (append_none _ _ (append_none _ _ (append_none _ _ none).0).0).0) in
    omega (arith, rows, below)

pub loading_more : (initial now after : List Table) (table : ℕ) (records : List Fields) (loaded : ℕ) (fields : Fields) (reader next : Reader (Bor (List ℕ)))
    → (loading : IsLoading initial table records loaded now reader) → TakesNext loading.left true fields next
    → record_causes (table_at now table) fields ≡ [] → after ≡ set now table (with_records (table_at now table) (fields ∷ []))
    → IsLoading initial table records (loaded + 1) after next
loading_more initial now after table records loaded fields reader next loading takes none e =
    let row = next_is records takes.0 loaded fields (loading.left_are ∙ takes.1) in
    let same : table_at after table ≡ with_records (table_at now table) (fields ∷ []) =
    ap (λ (tables : List Table). get_or tables table no_table) e ∙ get_or-set_same now table _ no_table loading.there in
    record {
      left = takes.0;
      reading = takes.2;
      left_are = drop_next records takes.0 loaded fields (loading.left_are ∙ takes.1);
      there = rw (e, length-set now table _) loading.there;
      loads = loads_more (table_at initial table) records loaded (table_at now table) (table_at after table) fields loading.loads row none same;
      others = e ∙ ap (λ (tables : List Table). set tables table (with_records (table_at now table) (fields ∷ []))) loading.others
          ∙ set-set initial table _ _ ∙ ap (set initial table) (sym same);
      few = omega (arith, few_rows (table_at initial table) records loaded (table_at now table) fields loading.loads none);
    }

pub loads_all : (initial now : List Table) (table : ℕ) (records : List Fields) (loaded : ℕ) (reader next : Reader (Bor (List ℕ))) (fields : Fields)
    → (loading : IsLoading initial table records loaded now reader) → TakesNext loading.left false fields next
    → Loads (table_at initial table) records (table_at now table) (Ok loaded)
loads_all initial now table records loaded reader next fields loading none =
    let past : length (drop loaded records) ≡ 0 = ap length (loading.left_are ∙ none) in
    (omega (arith, simp length-drop at past, loading.loads.there), loading.loads)

pub loads_some : (initial now : List Table) (table : ℕ) (records : List Fields) (loaded : ℕ) (reader : Reader (Bor (List ℕ)))
    → IsLoading initial table records loaded now reader
    → Loads (table_at initial table) records (table_at now table) (Err faults.OutOfMemory)
loads_some initial now table records loaded reader loading = (loaded, loading.loads)

pub loads_to_fault : (initial now : List Table) (table : ℕ) (records : List Fields) (loaded : ℕ) (fields : Fields) (reader next : Reader (Bor (List ℕ)))
    (number : ℕ) (refusal : Refusal) (loading : IsLoading initial table records loaded now reader) → TakesNext loading.left true fields next
    → TellsFirst (record_causes (table_at now table) fields) refusal → number ≡ loaded + 1
    → Loads (table_at initial table) records (table_at now table) (Err (fault_at number refusal))
loads_to_fault initial now table records loaded fields reader next number (Cause cause) loading takes tells is =
    let row = next_is records takes.0 loaded fields (loading.left_are ∙ takes.1) in (
      loaded,
      is,
      record {
        there = row.there;
        first = ap (λ (list : List LoadCause). slice_get list 0) (causes_is (table_at initial table) records loaded (table_at now table) fields loading.loads.rows row.is) ∙ tells;
        loaded = loading.loads;
      },
    )
loads_to_fault initial now table records loaded fields reader next number OutOfMemory loading takes tells is = (loaded, loading.loads)

-- the same, of tables that a refused call left as they were
pub stopped : (initial now after : List Table) (table : ℕ) (records : List Fields) (fault told_fault : LoadFault) → after ≡ now → fault ≡ told_fault
    → Loads (table_at initial table) records (table_at now table) (Err told_fault) → Loads (table_at initial table) records (table_at after table) (Err fault)
stopped initial now after table records fault told_fault same e loads =
    subst (λ (f : LoadFault). Loads (table_at initial table) records (table_at after table) (Err f)) (sym e)
    (subst (λ (tables : List Table). Loads (table_at initial table) records (table_at tables table) (Err told_fault)) (sym same) loads)
