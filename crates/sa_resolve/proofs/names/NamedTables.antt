-- The one table that has a name.
use Rattle.std.proofs.Common.{◌≡◌, ◌≢◌, ℕ, ◌<◌, List, length, Bool, true, false, cond, ltb, Some, None, refl, sym, ap, ◌∙◌, arith}
use Rattle.std.proofs.lemmas.Bool.Decides.{nat_tests}
use Rattle.std.proofs.lemmas.List.Sums.{position_or_len_is}
use Rattle.std.proofs.lemmas.Slice.Eq.{bytes_eq-Decides}
use Rattle.std.specs.List.{position_or_len, All}
use Rattle.sa_table.specs.Create.{same_name}
use Rattle.sa_table.specs.Sound.{AreSound}
use Rattle.sa_table.specs.Table.{Table, no_table, table_at}
use Rattle.sa_resolve.specs.Sight.{table_named}

found : (n : ℕ) (i : ℕ) → i < n → cond (ltb i n) (Some i) None ≡ Some i
found n i h = grind (arith, nat_tests)

missing : (n : ℕ) → cond (ltb n n) (Some n) None ≡ None
missing n = grind (arith, nat_tests)

same_false : (a b : List ℕ) → a ≢ b → same_name a b ≡ false
same_false a b apart = false_of (same_name a b) (bytes_eq-Decides a b).0 apart
  where
    false_of : (r : Bool) → (r ≡ true → a ≡ b) → a ≢ b → r ≡ false
    false_of true tells apart = absurd (apart (tells refl))
    false_of false tells apart = refl

-- the table at this index has the name, and no other has it
pub named_there : (tables : List Table) (table : ℕ) (name : List ℕ) → AreSound tables → table < length tables
    → (table_at tables table).def.name ≡ name → table_named tables name ≡ Some table
named_there tables table name sound there e =
    let at : position_or_len (λ (other : Table). same_name other.def.name name) tables ≡ table =
    position_or_len_is (λ (other : Table). same_name other.def.name name) tables table no_table (omega arith)
    (λ k before. ap (same_name (table_at tables k).def.name) (sym e) ∙ sound.names k table no_table before there)
    (λ _. (bytes_eq-Decides (table_at tables table).def.name name).1 e) in
    rw at (found (length tables) table there)

-- no table has the name
pub named_nowhere : (tables : List Table) (name : List ℕ) → All (λ (table : Table). table.def.name ≢ name) tables → table_named tables name ≡ None
named_nowhere tables name none =
    let at : position_or_len (λ (other : Table). same_name other.def.name name) tables ≡ length tables =
    position_or_len_is (λ (other : Table). same_name other.def.name name) tables (length tables) no_table (omega arith)
    (λ k before. same_false (table_at tables k).def.name name (none k no_table before))
    (λ past. absurd (omega arith)) in
    rw at (missing (length tables))
