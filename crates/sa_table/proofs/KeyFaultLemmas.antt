-- The faults of a row in the unique keys, as a loop goes over them.
use Rattle.std.proofs.Common.{◌≡◌, ℕ, ◌+◌, ◌<◌, ◌≤◌, List, [], length, get_or, drop, Bool, true, false, cond, Some, None, refl, sym, ap, ◌∙◌}
use Rattle.std.proofs.lemmas.List.{drop_all}
use Rattle.std.specs.List.{flat_map, position}
use Rattle.sa_value.specs.declared.value.Value.{Value}
use Rattle.sa_table.specs.declared.def.KeyDef.{KeyDef}
use Rattle.sa_table.specs.declared.fault.RowFault.{RowFault}
use Rattle.sa_table.specs.declared.fault.RowFault.TheVariants.{DuplicateKey}
use Rattle.sa_table.specs.Table.{is_unique}
use Rattle.sa_table.specs.AddRow.{collides, told_row, key_faults}
use Rattle.sa_table.specs.inner.First.{first}
use Rattle.sa_table.proofs.FirstLemmas.{first_here, first_later, flat_map_filter}

abbrev pub fault_at : List (List Value) → List Value → KeyDef → List RowFault
fault_at rows row key = told_row (position (collides key row) rows)

abbrev pub unique_fault : List (List Value) → List Value → KeyDef → List RowFault
unique_fault rows row key = cond (is_unique key) (fault_at rows row key) []

-- the faults from one key on
abbrev pub faults_from : List KeyDef → List (List Value) → List Value → ℕ → List RowFault
faults_from keys rows row number = flat_map (unique_fault rows row) (drop number keys)

pub key_faults_is : (keys : List KeyDef) (rows : List (List Value)) (row : List Value) → faults_from keys rows row 0 ≡ key_faults keys rows row
key_faults_is keys rows row = sym (flat_map_filter is_unique (fault_at rows row) keys)

pub fault_here : (keys : List KeyDef) (rows : List (List Value)) (row : List Value) (i : ℕ) (key : KeyDef) (found : ℕ) → i < length keys → is_unique (get_or keys i key) ≡ true → position (collides (get_or keys i key) row) rows ≡ Some found → first (faults_from keys rows row i) ≡ Some (DuplicateKey found)
fault_here keys rows row i key found there unique at =
    first_here (unique_fault rows row) keys i key (DuplicateKey found) there
    (ap (λ is. first (cond is (fault_at rows row (get_or keys i key)) [])) unique ∙ ap (λ row. first (told_row row)) at)

pub fault_later : (keys : List KeyDef) (rows : List (List Value)) (row : List Value) (i : ℕ) (key : KeyDef) → i < length keys → position (collides (get_or keys i key) row) rows ≡ None → first (faults_from keys rows row i) ≡ first (faults_from keys rows row (i + 1))
fault_later keys rows row i key there none =
    first_later (unique_fault rows row) keys i key there
    (ap (λ row. first (cond (is_unique (get_or keys i key)) (told_row row) [])) none ∙ nothing (is_unique (get_or keys i key)))
  where
    nothing : (is : Bool) → first {A = RowFault} (cond is [] []) ≡ None
    nothing true = refl
    nothing false = refl

pub not_unique_later : (keys : List KeyDef) (rows : List (List Value)) (row : List Value) (i : ℕ) (key : KeyDef) → i < length keys → is_unique (get_or keys i key) ≡ false → first (faults_from keys rows row i) ≡ first (faults_from keys rows row (i + 1))
not_unique_later keys rows row i key there shared =
    first_later (unique_fault rows row) keys i key there (ap (λ is. first (cond is (fault_at rows row (get_or keys i key)) [])) shared)

pub faults_end : (keys : List KeyDef) (rows : List (List Value)) (row : List Value) (i : ℕ) → length keys ≤ i → first (faults_from keys rows row i) ≡ None
faults_end keys rows row i h = ap (λ rest. first (flat_map (unique_fault rows row) rest)) (drop_all i keys h)
