-- A table while the rows of an INSERT's tuples are put into it, one after another.
use Rattle.std.proofs.Common.{◌≡◌, ℕ, ◌+◌, ◌<◌, ◌≤◌, zero, suc, List, [], ◌∷◌, ◌++◌, length, map, take, drop, reverse, get_or, set, Option, Some, None, Result, Ok, Err, OnOk, IfErr, refl, sym, ap, subst, ◌∙◌, arith, inl, inr, add-zero, below_more}
use Rattle.std.proofs.lemmas.List.{set-set, set-get_or, get_or-set_same, length-map, length-drop, drop-drop, get_or-drop, get_or-map, reverse-append, take_more, take_all}
use Rattle.std.specs.Prelude.{slice_get, slice_index_or, if◌then◌else◌, ◌==◌}
use Rattle.std.specs.List.{position_or_len}
use Rattle.sa_value.specs.declared.value.Value.{Value}
use Rattle.sa_value.specs.declared.value.Value.TheVariants.{Null}
use Rattle.sa_ast.specs.declared.insert.InsertTree.{InsertTree}
use Rattle.sa_ast.specs.declared.insert.TupleTree.{TupleTree}
use Rattle.sa_ast.specs.declared.name.NameTree.{NameTree}
use Rattle.sa_table.specs.declared.def.ColumnDef.{ColumnDef}
use Rattle.sa_table.specs.declared.def.TableDef.{TableDef}
use Rattle.sa_table.specs.declared.fault.RowFault.{RowFault}
use Rattle.sa_table.specs.declared.fault.RowFault.TheVariants as faults
use Rattle.sa_table.specs.AddRow.{row_faults, with_row}
use Rattle.sa_table.specs.Create.{same_name, first_or}
use Rattle.sa_table.specs.Table.{Table, no_table, table_at}
use Rattle.sa_script.specs.declared.fault.ScriptFault.{ScriptFault}
use Rattle.sa_script.specs.declared.fault.ScriptFault.TheVariants.{Bad, OutOfMemory}
use Rattle.sa_script.specs.declared.fault.ScriptKind.{ScriptKind}
use Rattle.sa_script.specs.declared.layout.Layout.{Layout}
use Rattle.sa_script.specs.Fault.{Fault}
use Rattle.sa_script.specs.Insert.{CantInsert, HasBadName, HasGoodNames, Inserts, InsertsFirst, faults_at, listed, row_for, row_kind, rows_for, with_rows}
use Rattle.sa_script.specs.Named.{IsUnknown, table_named}
use Rattle.sa_script.specs.inner.Setup.{IsBadTuple, TellsRow, fault_of, layout_of, row_in, rows_in}
use Rattle.sa_script.specs.inner.Tells.{Tells}

-- ---- tuple by tuple

-- So many tuples are in the table, and the others are left, the last one in front.
pub record IsPutting (initial : List Table) (table : ℕ) (layout : Layout) (tuples : List TupleTree) (done : ℕ) (now : List Table) (left : List TupleTree) : Type 0 where
  pub left_are : drop done tuples ≡ reverse left
  pub there : table < length initial
  pub faultless : InsertsFirst done (table_at initial table) (rows_in layout tuples)
  pub now_is : now ≡ set initial table (with_rows (table_at initial table) (take done (rows_in layout tuples)))

pub putting_none : (initial : List Table) (table : ℕ) (layout : Layout) (tuples left : List TupleTree) → table < length initial → reverse left ≡ tuples
    → IsPutting initial table layout tuples 0 initial left
putting_none initial table layout tuples left there e = record {
  left_are = sym e;
  there = there;
  faultless = λ index below. absurd (omega (arith, below));
  now_is = sym (set-get_or initial table no_table);
}

with_rows-push : (table : Table) (rows : List (List Value)) (row : List Value) → with_rows table (rows ++ row ∷ []) ≡ with_row (with_rows table rows) row
with_rows-push table [] row = refl
with_rows-push table (first ∷ rows) row = with_rows-push (with_row table first) rows row

-- the table as it stands now
now_at : (initial now : List Table) (table : ℕ) (layout : Layout) (tuples left : List TupleTree) (done : ℕ) → IsPutting initial table layout tuples done now left
    → table_at now table ≡ with_rows (table_at initial table) (take done (rows_in layout tuples))
now_at initial now table layout tuples left done putting =
    ap (λ (tables : List Table). table_at tables table) putting.now_is ∙ get_or-set_same initial table _ no_table putting.there

-- the next tuple of those that are left
pub record IsNext (tuples : List TupleTree) (done : ℕ) (tuple : TupleTree) (rest : List TupleTree) : Type 0 where
  pub there : done < length tuples
  pub is : get_or tuples done tuple ≡ tuple
  pub got : slice_get tuples done ≡ Some tuple
  pub rest_are : drop (done + 1) tuples ≡ rest

got_at : (tuples rest : List TupleTree) (done : ℕ) (tuple : TupleTree) → drop done tuples ≡ tuple ∷ rest → slice_get tuples done ≡ Some tuple
got_at [] rest zero tuple e = cc
got_at [] rest (suc done) tuple e = cc
got_at (first ∷ tuples) rest zero tuple e = cc
got_at (first ∷ tuples) rest (suc done) tuple e = got_at tuples rest done tuple e

next_is : (tuples rest : List TupleTree) (done : ℕ) (tuple : TupleTree) → drop done tuples ≡ tuple ∷ rest → IsNext tuples done tuple rest
next_is tuples rest done tuple e =
    let long : length (drop done tuples) ≡ suc (length rest) = ap length e in
    record {
      there = omega (arith, simp length-drop at long);
      is = ap (λ (n : ℕ). get_or tuples n tuple) (sym (add-zero done)) ∙ sym (get_or-drop done tuples 0 tuple) ∙ ap (λ (list : List TupleTree). get_or list 0 tuple) e;
      got = got_at tuples rest done tuple e;
      rest_are = sym (drop-drop 1 done tuples) ∙ ap (drop 1) e;
    }

next_of : (initial now : List Table) (table : ℕ) (layout : Layout) (tuples left rest : List TupleTree) (done : ℕ) (tuple : TupleTree)
    → IsPutting initial table layout tuples done now left → left ≡ rest ++ tuple ∷ [] → IsNext tuples done tuple (reverse rest)
next_of initial now table layout tuples left rest done tuple putting e =
    next_is tuples (reverse rest) done tuple (putting.left_are ∙ ap reverse e ∙ reverse-append rest (tuple ∷ []))

-- the row of the next tuple
row_at : (layout : Layout) (tuples rest : List TupleTree) (done : ℕ) (tuple : TupleTree) → IsNext tuples done tuple rest
    → get_or (rows_in layout tuples) done [] ≡ row_in layout tuple.values
row_at layout tuples rest done tuple next =
    get_or-map (λ (tuple : TupleTree). row_in layout tuple.values) tuples done tuple [] next.there
    ∙ ap (λ (tuple : TupleTree). row_in layout tuple.values) next.is

-- the faults of that row
faults_now : (initial now : List Table) (table : ℕ) (layout : Layout) (tuples left rest : List TupleTree) (done : ℕ) (tuple : TupleTree)
    → IsPutting initial table layout tuples done now left → IsNext tuples done tuple rest
    → faults_at (table_at initial table) (rows_in layout tuples) done ≡ row_faults (table_at now table) (row_in layout tuple.values)
faults_now initial now table layout tuples left rest done tuple putting next =
    ap (λ (at : Table). row_faults at (get_or (rows_in layout tuples) done [])) (sym (now_at initial now table layout tuples left done putting))
    ∙ ap (row_faults (table_at now table)) (row_at layout tuples rest done tuple next)

pub putting_more : (initial now after : List Table) (table : ℕ) (layout : Layout) (tuples left rest : List TupleTree) (done : ℕ) (tuple : TupleTree)
    → IsPutting initial table layout tuples done now left → left ≡ rest ++ tuple ∷ []
    → row_faults (table_at now table) (row_in layout tuple.values) ≡ []
    → after ≡ set now table (with_row (table_at now table) (row_in layout tuple.values))
    → IsPutting initial table layout tuples (done + 1) after rest
putting_more initial now after table layout tuples left rest done tuple putting e none is =
    let next = next_of initial now table layout tuples left rest done tuple putting e in
    let before = table_at initial table in
    let rows = rows_in layout tuples in
    let row = row_in layout tuple.values in
    let taken : take (done + 1) rows ≡ take done rows ++ row ∷ [] =
    take_more rows done [] (omega (arith, next.there, length-map tuples (λ (tuple : TupleTree). row_in layout tuple.values)))
    ∙ ap (λ (row : List Value). take done rows ++ row ∷ []) (row_at layout tuples (reverse rest) done tuple next) in
    record {
      left_are = next.rest_are;
      there = putting.there;
      faultless = below_more _ _ putting.faultless (faults_now initial now table layout tuples left (reverse rest) done tuple putting next ∙ none);
      now_is = is
          ∙ ap (λ (at : Table). set now table (with_row at row)) (now_at initial now table layout tuples left done putting)
          ∙ ap (set now table) (sym (with_rows-push before (take done rows) row) ∙ ap (with_rows before) (sym taken))
          ∙ ap (λ (tables : List Table). set tables table (with_rows before (take (done + 1) rows))) putting.now_is
          ∙ set-set initial table _ _;
    }

-- the number of the tuples that are done stays within that of all
pub done_few : (initial now : List Table) (table : ℕ) (layout : Layout) (tuples left rest : List TupleTree) (done : ℕ) (tuple : TupleTree)
    → IsPutting initial table layout tuples done now left → left ≡ rest ++ tuple ∷ [] → done < length tuples
done_few initial now table layout tuples left rest done tuple putting e = (next_of initial now table layout tuples left rest done tuple putting e).there

-- all tuples are in the table
pub record ArePut (initial : List Table) (table : ℕ) (layout : Layout) (tuples : List TupleTree) (now : List Table) : Type 0 where
  pub faultless : InsertsFirst (length tuples) (table_at initial table) (rows_in layout tuples)
  pub now_is : now ≡ set initial table (with_rows (table_at initial table) (rows_in layout tuples))

pub putting_all : (initial now : List Table) (table : ℕ) (layout : Layout) (tuples left : List TupleTree) (done : ℕ)
    → IsPutting initial table layout tuples done now left → length left ≡ 0 → ArePut initial table layout tuples now
putting_all initial now table layout tuples left done putting none =
    let past : length (drop done tuples) ≡ 0 = ap length (putting.left_are ∙ empty left none) in
    let all : length tuples ≤ done = omega (arith, simp length-drop at past) in
    record {
      faultless = λ index below. putting.faultless index (omega (arith, below, all));
      now_is = putting.now_is
          ∙ ap (λ (rows : List (List Value)). set initial table (with_rows (table_at initial table) rows))
          (take_all done (rows_in layout tuples) (omega (arith, all, length-map tuples (λ (tuple : TupleTree). row_in layout tuple.values))));
    }
  where
    empty : (left : List TupleTree) → length left ≡ 0 → reverse left ≡ []
    empty [] e = refl
    empty (tuple ∷ left) e = absurd (omega (arith, e))

-- ---- the fault of a tuple

told_kind : (table : Table) (tuples : List TupleTree) (rows : List (List Value)) (index : ℕ) (tuple : TupleTree) (fault : RowFault) (kind : Option ScriptKind)
    → row_kind fault ≡ kind → slice_get tuples index ≡ Some tuple → InsertsFirst index table rows → slice_get (faults_at table rows index) 0 ≡ Some fault
    → Tells (IsBadTuple table tuples rows) (fault_of kind tuple.place (Some (index + 1)))
told_kind table tuples rows index tuple fault None called there before first = tt
told_kind table tuples rows index tuple fault (Some kind) called there before first = record {
  index = index;
  tuple = tuple;
  told = fault;
  kind = kind;
  there = there;
  before = before;
  first = first;
  called = called;
  fault_is = refl;
}

told_row : (table : Table) (tuples : List TupleTree) (rows : List (List Value)) (index : ℕ) (tuple : TupleTree) (list : List RowFault) (fault : RowFault)
    → faults_at table rows index ≡ list → slice_get tuples index ≡ Some tuple → InsertsFirst index table rows → TellsRow list fault
    → Tells (IsBadTuple table tuples rows) (fault_of (row_kind fault) tuple.place (Some (index + 1)))
told_row table tuples rows index tuple list faults.OutOfMemory e there before tells = tt
told_row table tuples rows index tuple list fault e there before tells =
    told_kind table tuples rows index tuple fault (row_kind fault) refl there before (ap (λ (list : List RowFault). slice_get list 0) e ∙ tells)

pub stopped_at : (initial now : List Table) (table : ℕ) (layout : Layout) (tuples left rest : List TupleTree) (done number : ℕ) (tuple : TupleTree) (fault : RowFault) (answer : ScriptFault)
    → IsPutting initial table layout tuples done now left → left ≡ rest ++ tuple ∷ []
    → TellsRow (row_faults (table_at now table) (row_in layout tuple.values)) fault
    → number ≡ done + 1 → answer ≡ fault_of (row_kind fault) tuple.place (Some number)
    → Tells (IsBadTuple (table_at initial table) tuples (rows_in layout tuples)) answer
stopped_at initial now table layout tuples left rest done number tuple fault answer putting e tells counted is =
    let next = next_of initial now table layout tuples left rest done tuple putting e in
    subst (λ (answer : ScriptFault). Tells (IsBadTuple (table_at initial table) tuples (rows_in layout tuples)) answer)
    (sym (is ∙ ap (λ (n : ℕ). fault_of (row_kind fault) tuple.place (Some n)) counted))
    (told_row (table_at initial table) tuples (rows_in layout tuples) done tuple (row_faults (table_at now table) (row_in layout tuple.values)) fault
    (faults_now initial now table layout tuples left (reverse rest) done tuple putting next) next.got putting.faultless tells)

-- what `Tables::add_row` answers
pub tells_first : (list : List RowFault) (fault : RowFault) → fault ≡ first_or faults.OutOfMemory list → TellsRow list fault
tells_first [] fault e = subst (λ (fault : RowFault). TellsRow [] fault) (sym e) tt
tells_first (first ∷ list) fault e = subst (λ (fault : RowFault). TellsRow (first ∷ list) fault) (sym e) (itself first)
  where
    itself : (fault : RowFault) → TellsRow (fault ∷ list) fault
    itself faults.OutOfMemory = tt
    itself fault = refl

-- ---- the rows of the whole statement

map-map : {A B C : Type 0} (f : B → C) (g : A → B) (xs : List A) → map f (map g xs) ≡ map (λ x. f (g x)) xs
map-map f g [] = refl
map-map f g (x ∷ xs) = ap (λ rest. f (g x) ∷ rest) (map-map f g xs)

row_same : (def : TableDef) (names : Option (List NameTree)) (values : List Value) → row_in (layout_of def names) values ≡ row_for def names values
row_same def None values = refl
row_same def (Some names) values =
    ap (λ (row : List Value). if length values == length names then row else [])
    (map-map (λ place. slice_index_or values place Null)
    (λ (column : ColumnDef). position_or_len (λ (other : NameTree). same_name other.name column.name) names) def.columns)

pub rows_same : (def : TableDef) (names : Option (List NameTree)) (tuples : List TupleTree)
    → rows_in (layout_of def names) tuples ≡ map (λ (tuple : TupleTree). row_for def names tuple.values) tuples
rows_same def names [] = refl
rows_same def names (tuple ∷ tuples) =
    ap (λ row. row ∷ rows_in (layout_of def names) tuples) (row_same def names tuple.values)
    ∙ ap (λ rows. row_for def names tuple.values ∷ rows) (rows_same def names tuples)

-- ---- the whole statement

pub inserts : (tables after : List Table) (tree : InsertTree) (table : ℕ) (layout : Layout) → table_named tables tree.table.name ≡ Some table
    → HasGoodNames (table_at tables table).def (listed tree.columns) → layout ≡ layout_of (table_at tables table).def tree.columns
    → InsertsFirst (length tree.tuples) (table_at tables table) (rows_in layout tree.tuples)
    → after ≡ set tables table (with_rows (table_at tables table) (rows_in layout tree.tuples)) → Inserts tables tree after
inserts tables after tree table layout named names is faultless done =
    let same : rows_in layout tree.tuples ≡ rows_for (table_at tables table).def tree =
    ap (λ (layout : Layout). rows_in layout tree.tuples) is ∙ rows_same (table_at tables table).def tree.columns tree.tuples in
    record {
      table = table;
      named = named;
      names = names;
      rows = subst (λ (rows : List (List Value)). InsertsFirst (length tree.tuples) (table_at tables table) rows) same faultless;
      after_is = done ∙ ap (λ (rows : List (List Value)). set tables table (with_rows (table_at tables table) rows)) same;
    }

pub fails_unknown : (tables : List Table) (tree : InsertTree) (answer : ScriptFault) → Tells (IsUnknown tables tree.table) answer → Tells (CantInsert tables tree) answer
fails_unknown tables tree (Bad kind place line) is = inl is
fails_unknown tables tree OutOfMemory is = tt

pub fails_names : (tables : List Table) (tree : InsertTree) (table : ℕ) (answer : ScriptFault) → table_named tables tree.table.name ≡ Some table
    → Tells (HasBadName (table_at tables table).def (listed tree.columns)) answer → Tells (CantInsert tables tree) answer
fails_names tables tree table (Bad kind place line) named is = inr (table, named, inl is)
fails_names tables tree table OutOfMemory named is = tt

pub fails_tuple : (tables : List Table) (tree : InsertTree) (table : ℕ) (layout : Layout) (answer : ScriptFault) → table_named tables tree.table.name ≡ Some table
    → HasGoodNames (table_at tables table).def (listed tree.columns) → layout ≡ layout_of (table_at tables table).def tree.columns
    → Tells (IsBadTuple (table_at tables table) tree.tuples (rows_in layout tree.tuples)) answer → Tells (CantInsert tables tree) answer
fails_tuple tables tree table layout (Bad kind place line) named names is bad =
    let same : rows_in layout tree.tuples ≡ rows_for (table_at tables table).def tree =
    ap (λ (layout : Layout). rows_in layout tree.tuples) is ∙ rows_same (table_at tables table).def tree.columns tree.tuples in
    let fault : Fault = record { kind = kind; place = place; line = line } in
    let there : IsBadTuple (table_at tables table) tree.tuples (rows_for (table_at tables table).def tree) fault =
    subst (λ (rows : List (List Value)). IsBadTuple (table_at tables table) tree.tuples rows fault) same bad in
    inr (
      table,
      named,
      inr (
        names,
        record {
          index = there.index;
          tuple = there.tuple;
          told = there.told;
          kind = there.kind;
          there = there.there;
          before = there.before;
          first = there.first;
          called = there.called;
          fault_is = there.fault_is;
        },
      ),
    )
fails_tuple tables tree table layout OutOfMemory named names is bad = tt

-- what follows where a call goes well, and where it doesn't
pub on_both : {T E : Type 0} (answer : Result T E) (A B C : Type 0) → OnOk answer A → OnOk answer B → (A → B → C) → OnOk answer C
on_both (Ok x) A B C a b f = f a b
on_both (Err e) A B C a b f = tt

pub on_fault : {T E : Type 0} (answer : Result T E) (P Q : E → Type 0) → IfErr answer P → ((e : E) → P e → Q e) → IfErr answer Q
on_fault (Ok x) P Q p f = tt
on_fault (Err e) P Q p f = f e p
