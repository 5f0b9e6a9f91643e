-- What is true of all tables as there comes one more.
use Rattle.std.proofs.Common.{◌≡◌, ℕ, ◌<◌, List, [], ◌∷◌, ◌++◌, zero, suc, length, get_or, Bool, true, false, ◌||◌, nat_lt, nat_le, nat_eq, refl, ap, ◌∙◌, arith}
use Rattle.std.proofs.lemmas.Bool.Decides.{nat_tests}
use Rattle.std.proofs.lemmas.List.{length_push}
use Rattle.std.proofs.lemmas.List.Elements.{All-push}
use Rattle.std.proofs.lemmas.List.Quantifiers.{all_pairs_push}
use Rattle.std.specs.List.{list_any}
use Rattle.std.specs.Prelude.{count_by}
use Rattle.sa_table.specs.declared.def.TableDef.{TableDef}
use Rattle.sa_table.specs.declared.fault.TableFault.TheVariants as faults
use Rattle.sa_table.specs.Table.{Table, new_table}
use Rattle.sa_table.specs.Create.{same_name, any_alike, same_key_name, has_duplicate_name, told, table_faults}
use Rattle.sa_table.specs.Sound.{IsSoundTable, AreSound}
use Rattle.sa_table.proofs.FirstLemmas.{nil_left, nil_right}
use Rattle.sa_table.proofs.RowLemmas.{told_false}

neither : (a b : Bool) → (a || b) ≡ false → a ≡ false
neither true b e = cc
neither false b e = refl

pub none_of : {A : Type 0} (test : A → Bool) (xs : List A) → list_any test xs ≡ false → (k : ℕ) (d : A) → k < length xs → test (get_or xs k d) ≡ false
none_of test [] e k d h = absurd (omega arith)
none_of test (x ∷ xs) e zero d h = neither (test x) (list_any test xs) e
none_of test (x ∷ xs) e (suc k) d h = none_of test xs (later (test x) (list_any test xs) e) k d (omega arith)
  where
    later : (a b : Bool) → (a || b) ≡ false → b ≡ false
    later true b e = cc
    later false b e = e

pub same_name_itself : (name : List ℕ) → same_name name name ≡ true
same_name_itself [] = refl
same_name_itself (byte ∷ name) = grind (arith, nat_tests, same_name_itself name)

few_tables : (n : ℕ) → nat_le 32 n ≡ false → n < 32
few_tables n e = grind (arith, nat_tests)

pub sound_more : (tables : List Table) (def : TableDef) (table : Table) → AreSound tables → table_faults tables def ≡ [] → table ≡ new_table def → IsSoundTable table → AreSound (tables ++ table ∷ [])
sound_more tables def table sound none made one =
    let many = told (nat_le 32 (length tables)) faults.TooManyTables in
    let wide = told (nat_lt 32 (length def.columns)) faults.TooManyColumns in
    let keyed = told (nat_lt 8 (length def.keys)) faults.TooManyKeys in
    let long = told (list_any (λ key. nat_lt 4 (length key.parts)) def.keys) faults.TooManyParts in
    let twice = told (has_duplicate_name tables def) faults.DuplicateName in
    let unknown = told (list_any (λ key. list_any (nat_le (length def.columns)) key.parts) def.keys) faults.UnknownColumn in
    let second = told (nat_lt 1 (count_by (λ key. key.primary) def.keys)) faults.SecondPrimary in
    let five : many ++ wide ++ keyed ++ long ++ twice ≡ [] = nil_left (many ++ wide ++ keyed ++ long ++ twice) unknown (nil_left (many ++ wide ++ keyed ++ long ++ twice ++ unknown) second none) in
    let four : many ++ wide ++ keyed ++ long ≡ [] = nil_left (many ++ wide ++ keyed ++ long) twice five in
    let few : length tables < 32 = few_tables (length tables) (told_false (nat_le 32 (length tables)) faults.TooManyTables (nil_left many wide (nil_left (many ++ wide) keyed (nil_left (many ++ wide ++ keyed) long four)))) in
    let apart : has_duplicate_name tables def ≡ false = told_false (has_duplicate_name tables def) faults.DuplicateName (nil_right (many ++ wide ++ keyed ++ long) twice five) in
    let named : Bool = list_any (λ (table : Table). same_name table.def.name def.name) tables in
    let columns : Bool = any_alike (λ a b. same_name a.name b.name) def.columns in
    let parts : Bool = list_any (λ key. any_alike nat_eq key.parts) def.keys in
    let keys : Bool = any_alike same_key_name def.keys in
    let fresh : named ≡ false = neither named columns (neither (named || columns) parts (neither (named || columns || parts) keys apart)) in
    record {
      few = omega (arith, few, length_push tables table);
      each = All-push IsSoundTable tables table sound.each one;
      names = all_pairs_push (λ earlier later. same_name earlier.def.name later.def.name ≡ false) tables table sound.names
          (λ k d there. ap (λ (table : Table). same_name (get_or tables k d).def.name table.def.name) made ∙ none_of (λ (table : Table). same_name table.def.name def.name) tables fresh k d there);
    }
