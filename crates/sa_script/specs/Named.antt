-- Which table a name of a script names, and the fault of a name of none.
use Rattle.std.specs.Prelude.{◌≡◌, ℕ, List, Option, None}
use Rattle.std.specs.List.{position}
use Rattle.sa_ast.specs.declared.name.NameTree.{NameTree}
use Rattle.sa_table.specs.Create.{same_name}
use Rattle.sa_table.specs.Table.{Table}
use Rattle.sa_script.specs.declared.fault.ScriptKind.TheVariants as script
use Rattle.sa_script.specs.Fault.{Fault, fault_at}

-- the number of the table with this name
abbrev pub table_named : List Table → List ℕ → Option ℕ
table_named tables name = position (λ (table : Table). same_name table.def.name name) tables

-- No table has the name.
abbrev pub IsUnknown : List Table → NameTree → Fault → Type 0
IsUnknown tables name fault =
    (table_named tables name.name ≡ None) × (fault ≡ fault_at script.UnknownTable name.place)
