-- The faults of a definition that a tree gives, and what is told of them.
use Rattle.std.proofs.Common.{◌≡◌, ℕ, ◌+◌, ◌<◌, ◌≤◌, List, [], ◌∷◌, ◌++◌, zero, suc, length, get_or, take, map, add-zero, Bool, true, false, ◌||◌, nat_lt, nat_le, Option, Some, None, refl, sym, ap, subst, ◌∙◌, arith}
use Rattle.std.proofs.lemmas.Bool.{ltb-false}
use Rattle.std.proofs.lemmas.List.{length-map, length-take-le, map_push, take_more}
use Rattle.std.proofs.lemmas.List.FromFn.{length-enumerate_from}
use Rattle.std.specs.Prelude.{slice_get, All}
use Rattle.std.specs.List.{list_any, enumerate_from}
use Rattle.sa_ast.specs.declared.create.ColumnTree.{ColumnTree}
use Rattle.sa_ast.specs.declared.create.CreateTree.{CreateTree}
use Rattle.sa_ast.specs.declared.create.KeyTree.{KeyTree}
use Rattle.sa_table.specs.declared.def.KeyDef.{KeyDef}
use Rattle.sa_table.specs.declared.fault.TableFault.{TableFault}
use Rattle.sa_table.specs.declared.fault.TableFault.TheVariants as faults
use Rattle.sa_table.specs.Create.{told, table_faults, first_or}
use Rattle.sa_table.specs.Table.{Table}
use Rattle.sa_script.specs.declared.fault.ScriptFault.{ScriptFault}
use Rattle.sa_script.specs.declared.fault.ScriptKind.{ScriptKind}
use Rattle.sa_script.specs.Create.{CantCreate, column_of, def_of, key_of, part_of, table_kind}
use Rattle.sa_script.specs.inner.Setup.{IsSmall, fault_of, limits_passed}
use Rattle.sa_script.specs.inner.Tells.{Tells}

-- ---- the limits

first_before : {A : Type 0} (xs ys : List A) (x : A) → slice_get xs 0 ≡ Some x → slice_get (xs ++ ys) 0 ≡ Some x
first_before [] ys x e = cc
first_before (y ∷ xs) ys x e = e

nothing : {A : Type 0} (xs : List A) → slice_get xs 0 ≡ None → xs ≡ []
nothing [] e = refl
nothing (x ∷ xs) e = cc

nil_left : {A : Type 0} (xs ys : List A) → xs ++ ys ≡ [] → xs ≡ []
nil_left [] ys e = refl
nil_left (x ∷ xs) ys e = cc

nil_right : {A : Type 0} (xs ys : List A) → xs ++ ys ≡ [] → ys ≡ []
nil_right [] ys e = e
nil_right (x ∷ xs) ys e = cc

untold : {A : Type 0} (stands : Bool) (fault : A) → told stands fault ≡ [] → stands ≡ false
untold true fault e = cc
untold false fault e = refl

-- the keys of a definition have as many parts as those of its tree
same_long : (columns : List ColumnTree) (number : ℕ) (keys : List KeyTree)
    → list_any (λ (key : KeyDef). nat_lt 4 (length key.parts)) (map (key_of columns) (enumerate_from number keys))
    ≡ list_any (λ (key : KeyTree). nat_lt 4 (length key.columns)) keys
same_long columns number [] = refl
same_long columns number (key ∷ keys) = rw (length-map key.columns (part_of columns key.columns), same_long columns (number + 1) keys) refl

pub limit_told : (tables : List Table) (tree : CreateTree) (fault : TableFault) → slice_get (limits_passed (length tables) tree) 0 ≡ Some fault
    → slice_get (table_faults tables (def_of tree)) 0 ≡ Some fault
limit_told tables tree fault first =
    let def = def_of tree in
    let columns : length def.columns ≡ length tree.columns = length-map tree.columns column_of in
    let keys : length def.keys ≡ length tree.keys =
    length-map (enumerate_from 1 tree.keys) (key_of tree.columns) ∙ length-enumerate_from 1 tree.keys in
    let limits : List TableFault =
    told (nat_le 32 (length tables)) faults.TooManyTables
    ++ told (nat_lt 32 (length def.columns)) faults.TooManyColumns
    ++ told (nat_lt 8 (length def.keys)) faults.TooManyKeys
    ++ told (list_any (λ (key : KeyDef). nat_lt 4 (length key.parts)) def.keys) faults.TooManyParts in
    let same : limits ≡ limits_passed (length tables) tree = rw (columns, keys, same_long tree.columns 1 tree.keys) refl in
    first_before _ _ fault (first_before _ _ fault (first_before limits _ fault (ap (λ (list : List TableFault). slice_get list 0) same ∙ first)))

neither : (a b : Bool) → (a || b) ≡ false → (a ≡ false) × (b ≡ false)
neither true b e = cc
neither false b e = (refl, e)

few_parts : (keys : List KeyTree) → list_any (λ (key : KeyTree). nat_lt 4 (length key.columns)) keys ≡ false
    → All (λ (key : KeyTree). length key.columns ≤ 4) keys
few_parts [] e k d h = absurd (omega arith)
few_parts (key ∷ keys) e zero d h = ltb-false 4 (length key.columns) (neither _ _ e).0
few_parts (key ∷ keys) e (suc k) d h = few_parts keys (neither _ _ e).1 k d (omega arith)

pub small : (tables : ℕ) (tree : CreateTree) → slice_get (limits_passed tables tree) 0 ≡ None → IsSmall tree
small tables tree none =
    let empty = nothing (limits_passed tables tree) none in
    let three = nil_left _ (told (list_any (λ (key : KeyTree). nat_lt 4 (length key.columns)) tree.keys) faults.TooManyParts) empty in
    let two = nil_left _ (told (nat_lt 8 (length tree.keys)) faults.TooManyKeys) three in
    record {
      columns = ltb-false 32 (length tree.columns) (untold _ faults.TooManyColumns (nil_right (told (nat_le 32 tables) faults.TooManyTables) _ two));
      parts = few_parts tree.keys (untold _ faults.TooManyParts (nil_right _ _ empty));
    }

-- ---- what is told

tells_kind : (tables : List Table) (tree : CreateTree) (fault : TableFault) (kind : Option ScriptKind) → table_kind fault ≡ kind
    → slice_get (table_faults tables (def_of tree)) 0 ≡ Some fault → Tells (CantCreate tables tree) (fault_of kind tree.name.place None)
tells_kind tables tree fault None called first = tt
tells_kind tables tree fault (Some kind) called first = record { told = fault; kind = kind; first = first; called = called; fault_is = refl }

-- the first fault of a definition is told at the name of its table
pub tells_first : (tables : List Table) (tree : CreateTree) (fault : TableFault) (answer : ScriptFault) → answer ≡ fault_of (table_kind fault) tree.name.place None
    → slice_get (table_faults tables (def_of tree)) 0 ≡ Some fault → Tells (CantCreate tables tree) answer
tells_first tables tree fault answer e first =
    subst (λ (answer : ScriptFault). Tells (CantCreate tables tree) answer) (sym e) (tells_kind tables tree fault (table_kind fault) refl first)

tells_list : (tables : List Table) (tree : CreateTree) (list : List TableFault) → table_faults tables (def_of tree) ≡ list
    → Tells (CantCreate tables tree) (fault_of (table_kind (first_or faults.OutOfMemory list)) tree.name.place None)
tells_list tables tree [] e = tt
tells_list tables tree (fault ∷ list) e = tells_first tables tree fault _ refl (ap (λ (list : List TableFault). slice_get list 0) e)

-- the same of what `Tables::create` answers
pub tells_refusal : (tables : List Table) (tree : CreateTree) (fault : TableFault) (answer : ScriptFault) → answer ≡ fault_of (table_kind fault) tree.name.place None
    → fault ≡ first_or faults.OutOfMemory (table_faults tables (def_of tree)) → Tells (CantCreate tables tree) answer
tells_refusal tables tree fault answer e is =
    subst (λ (answer : ScriptFault). Tells (CantCreate tables tree) answer)
    (sym (e ∙ ap (λ (fault : TableFault). fault_of (table_kind fault) tree.name.place None) is))
    (tells_list tables tree (table_faults tables (def_of tree)) refl)

-- ---- the keys, one after another

enumerate_push : {A : Type 0} (n : ℕ) (xs : List A) (x : A) → enumerate_from n (xs ++ x ∷ []) ≡ enumerate_from n xs ++ (n + length xs, x) ∷ []
enumerate_push n [] x = ap (λ (m : ℕ). (m, x) ∷ []) (sym (add-zero n))
enumerate_push n (y ∷ xs) x =
    let same : (n + 1) + length xs ≡ n + suc (length xs) = omega arith in
    ap (λ (rest : List (ℕ × _)). (n, y) ∷ rest) (enumerate_push (n + 1) xs x ∙ ap (λ (m : ℕ). enumerate_from (n + 1) xs ++ (m, x) ∷ []) same)

pub keys_more : (columns : List ColumnTree) (keys : List KeyTree) (index : ℕ) (key : KeyTree) (defs after : List KeyDef) (def : KeyDef) → index < length keys
    → key ≡ get_or keys index key → defs ≡ map (key_of columns) (enumerate_from 1 (take index keys)) → def ≡ key_of columns (index + 1, key)
    → after ≡ defs ++ def ∷ [] → after ≡ map (key_of columns) (enumerate_from 1 (take (index + 1) keys))
keys_more columns keys index key defs after def there is before made pushed =
    let taken : take (index + 1) keys ≡ take index keys ++ key ∷ [] =
    take_more keys index key there ∙ ap (λ (key : KeyTree). take index keys ++ key ∷ []) (sym is) in
    let number : 1 + length (take index keys) ≡ index + 1 = omega (arith, length-take-le index keys (omega arith)) in
    let numbered : enumerate_from 1 (take (index + 1) keys) ≡ enumerate_from 1 (take index keys) ++ (index + 1, key) ∷ [] =
    ap (λ (keys : List KeyTree). enumerate_from 1 keys) taken ∙ enumerate_push 1 (take index keys) key
    ∙ ap (λ (n : ℕ). enumerate_from 1 (take index keys) ++ (n, key) ∷ []) number in
    pushed
    ∙ ap (λ (def : KeyDef). defs ++ def ∷ []) made
    ∙ ap (λ (defs : List KeyDef). defs ++ key_of columns (index + 1, key) ∷ []) before
    ∙ sym (ap (map (key_of columns)) numbered ∙ map_push (key_of columns) (enumerate_from 1 (take index keys)) (index + 1, key))
