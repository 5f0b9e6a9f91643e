-- The faults of a row's values, as a loop goes over them.
use Rattle.std.proofs.Common.{◌≡◌, ℕ, ◌+◌, ◌<◌, ◌≤◌, List, length, get_or, drop, Some, None, ap, ◌∙◌, zero-add, arith}
use Rattle.std.proofs.lemmas.List.{drop_all}
use Rattle.std.proofs.lemmas.List.FromFn.{length-enumerate_from, get_or-enumerate_from}
use Rattle.std.proofs.lemmas.Slice.Zip.{length-zip, get_or-zip}
use Rattle.std.specs.List.{flat_map, enumerate_from, zip}
use Rattle.sa_value.specs.declared.value.Value.{Value}
use Rattle.sa_table.specs.declared.def.ColumnDef.{ColumnDef}
use Rattle.sa_table.specs.declared.fault.RowFault.{RowFault}
use Rattle.sa_table.specs.AddRow.{value_faults}
use Rattle.sa_table.specs.inner.First.{first}
use Rattle.sa_table.proofs.FirstLemmas.{first_here, first_later}

abbrev pub faults_at : ℕ × (ColumnDef × Value) → List RowFault
faults_at numbered = value_faults numbered.0 numbered.1.0 numbered.1.1

abbrev pub numbered_values : List ColumnDef → List Value → List (ℕ × (ColumnDef × Value))
numbered_values columns row = enumerate_from 0 (zip columns row)

-- the faults from one column on
abbrev pub faults_from : List ColumnDef → List Value → ℕ → List RowFault
faults_from columns row column = flat_map faults_at (drop column (numbered_values columns row))

pub numbered_length : (columns : List ColumnDef) (row : List Value) → length row ≡ length columns → length (numbered_values columns row) ≡ length columns
numbered_length columns row e = omega (arith, length-enumerate_from 0 (zip columns row), length-zip columns row)

pub numbered_at : (columns : List ColumnDef) (row : List Value) (i : ℕ) (def : ColumnDef) (value : Value) → length row ≡ length columns → i < length columns → get_or (numbered_values columns row) i (0, (def, value)) ≡ (i, (get_or columns i def, get_or row i value))
numbered_at columns row i def value e h =
    get_or-enumerate_from 0 (zip columns row) i (0, (def, value)) (omega (arith, length-zip columns row))
    ∙ ap (λ number. (number, get_or (zip columns row) i (def, value))) (zero-add i)
    ∙ ap (λ pair. (i, pair)) (get_or-zip columns row i (def, value) h (omega arith))

pub fault_here : (columns : List ColumnDef) (row : List Value) (i : ℕ) (def : ColumnDef) (value : Value) (fault : RowFault) → length row ≡ length columns → i < length columns → first (value_faults i (get_or columns i def) (get_or row i value)) ≡ Some fault → first (faults_from columns row i) ≡ Some fault
fault_here columns row i def value fault e h told =
    first_here faults_at (numbered_values columns row) i (0, (def, value)) fault (omega (arith, numbered_length columns row e)) (ap (λ at. first (faults_at at)) (numbered_at columns row i def value e h) ∙ told)

pub fault_later : (columns : List ColumnDef) (row : List Value) (i : ℕ) (def : ColumnDef) (value : Value) → length row ≡ length columns → i < length columns → first (value_faults i (get_or columns i def) (get_or row i value)) ≡ None → first (faults_from columns row i) ≡ first (faults_from columns row (i + 1))
fault_later columns row i def value e h none =
    first_later faults_at (numbered_values columns row) i (0, (def, value)) (omega (arith, numbered_length columns row e)) (ap (λ at. first (faults_at at)) (numbered_at columns row i def value e h) ∙ none)

pub faults_end : (columns : List ColumnDef) (row : List Value) (i : ℕ) → length row ≡ length columns → length columns ≤ i → first (faults_from columns row i) ≡ None
faults_end columns row i e h = ap (λ rest. first (flat_map faults_at rest)) (drop_all i (numbered_values columns row) (omega (arith, numbered_length columns row e)))
