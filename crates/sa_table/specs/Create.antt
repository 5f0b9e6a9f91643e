-- Which faults a table's definition has, in the order in which they are told.
use Rattle.std.specs.Prelude.{ℕ, List, [], ◌∷◌, ◌++◌, length, Bool, false, ◌||◌, ◌&&◌, not, nat_lt, nat_le, nat_eq, if◌then◌else◌, count_by}
use Rattle.std.specs.List.{list_any}
use Rattle.std.specs.Cmp.Lexicographic.{pointwise}
use Rattle.sa_table.specs.declared.def.TableDef.{TableDef}
use Rattle.sa_table.specs.declared.def.KeyDef.{KeyDef}
use Rattle.sa_table.specs.declared.fault.TableFault.{TableFault}
use Rattle.sa_table.specs.declared.fault.TableFault.TheVariants.{TooManyTables, TooManyColumns, TooManyKeys, TooManyParts, DuplicateName, UnknownColumn, SecondPrimary}
use Rattle.sa_table.specs.Table.{Table}

-- whether two names are the same, byte for byte
abbrev pub same_name : List ℕ → List ℕ → Bool
same_name = pointwise nat_eq

-- whether two members of a list are alike
abbrev pub any_alike : {A : Type 0} → (A → A → Bool) → List A → Bool
any_alike alike [] = false
any_alike alike (x ∷ xs) = list_any (alike x) xs || any_alike alike xs

-- whether two keys have one name and aren't both primary, all primary keys being named alike
abbrev pub same_key_name : KeyDef → KeyDef → Bool
same_key_name a b = same_name a.name b.name && not (a.primary && b.primary)

abbrev pub has_duplicate_name : List Table → TableDef → Bool
has_duplicate_name tables def =
    list_any (λ table. same_name table.def.name def.name) tables
    || any_alike (λ a b. same_name a.name b.name) def.columns
    || list_any (λ key. any_alike nat_eq key.parts) def.keys
    || any_alike same_key_name def.keys

-- the fault where it stands
abbrev pub told : {A : Type 0} → Bool → A → List A
told stands fault = if stands then fault ∷ [] else []

-- the faults of a definition, in their order
abbrev pub table_faults : List Table → TableDef → List TableFault
table_faults tables def =
    told (nat_le 32 (length tables)) TooManyTables
    ++ told (nat_lt 32 (length def.columns)) TooManyColumns
    ++ told (nat_lt 8 (length def.keys)) TooManyKeys
    ++ told (list_any (λ key. nat_lt 4 (length key.parts)) def.keys) TooManyParts
    ++ told (has_duplicate_name tables def) DuplicateName
    ++ told (list_any (λ key. list_any (nat_le (length def.columns)) key.parts) def.keys) UnknownColumn
    ++ told (nat_lt 1 (count_by (λ key. key.primary) def.keys)) SecondPrimary

-- the first fault, or want of memory where there is none
abbrev pub first_or : {A : Type 0} → A → List A → A
first_or memory [] = memory
first_or memory (fault ∷ faults) = fault
