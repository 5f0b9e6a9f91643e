-- Where the columns' values stand, one column after another.
use Rattle.std.proofs.Common.{◌≡◌, ℕ, ◌+◌, ◌<◌, List, [], ◌∷◌, ◌++◌, length, get_or, take, sym, ap, ◌∙◌}
use Rattle.std.proofs.lemmas.List.{map_more}
use Rattle.std.specs.List.{position_or_len}
use Rattle.sa_ast.specs.declared.name.NameTree.{NameTree}
use Rattle.sa_table.specs.declared.def.ColumnDef.{ColumnDef}
use Rattle.sa_table.specs.Create.{same_name}
use Rattle.sa_script.specs.inner.Setup.{places_in}

place_in : List NameTree → List ℕ → ℕ
place_in names name = position_or_len (λ (other : NameTree). same_name other.name name) names

pub places_more : (names : List NameTree) (columns : List ColumnDef) (index : ℕ) (column : ColumnDef) (name : List ℕ) (places after : List ℕ) (place : ℕ)
    → index < length columns → column ≡ get_or columns index column → name ≡ column.name → places ≡ places_in names (take index columns)
    → place ≡ position_or_len (λ (other : NameTree). same_name other.name name) names → after ≡ places ++ place ∷ []
    → after ≡ places_in names (take (index + 1) columns)
unfolding place_in
places_more names columns index column name places after place there is named before found pushed =
    pushed
    ∙ ap (λ (place : ℕ). places ++ place ∷ []) (found ∙ ap (place_in names) named ∙ ap (λ (column : ColumnDef). place_in names column.name) is)
    ∙ ap (λ (places : List ℕ). places ++ place_in names (get_or columns index column).name ∷ []) before
    ∙ sym (map_more (λ (column : ColumnDef). place_in names column.name) columns index column there)
