-- The choices of one row of a table: by the numbers of its rows, and as a list.
use Rattle.std.proofs.Common.{◌≡◌, ℕ, zero, suc, ◌<◌, if◌then◌else◌, List, [], ◌∷◌, map, length, get_or, refl, ap, sym, subst, ◌∙◌, zero-add}
use Rattle.std.proofs.Math.Dec.{eqb-zero-suc}
use Rattle.std.proofs.Math.Path.{fun_ext}
use Rattle.std.proofs.lemmas.List.{ext_get_or}
use Rattle.std.proofs.lemmas.List.Concat.{flat_map_single}
use Rattle.std.proofs.lemmas.List.FromFn.{length-map-range_with_len, get_or-map-range_with_len}
use Rattle.std.specs.List.{range_with_len}
use Rattle.sa_value.specs.declared.value.Value.{Value}
use Rattle.sa_value.specs.declared.value.Value.TheVariants.{Null}
use Rattle.sa_cond.specs.Choice.{Choice}
use Rattle.sa_table.specs.Table.{Table, cell_at, row_at, row_count}
use Rattle.sa_query.specs.declared.query.TableUse.{TableUse}
use Rattle.sa_query.specs.Choices.{rows_of, choice_of_rows, choices}
use Rattle.sa_plan.specs.Chosen.{Chosen, chosen_cell, choice_of}

-- the members of a list, by their numbers
by_number : {A : Type 0} (list : List A) (default : A)
    → map (λ number. get_or list number default) (range_with_len 0 (length list)) ≡ list
by_number {A} list default =
    let member : ℕ → A = λ number. get_or list number default in
    let long = length-map-range_with_len member 0 (length list) in
    ext_get_or default _ list long
    (λ i less. get_or-map-range_with_len member 0 (length list) i i default
    (subst (λ many. i < many) long less) (zero-add i))

map_twice : {A B C : Type 0} (g : B → C) (f : A → B) (list : List A)
    → map g (map f list) ≡ map (λ one. g (f one)) list
map_twice g f [] = refl
map_twice g f (one ∷ others) = ap (λ rest. g (f one) ∷ rest) (map_twice g f others)

abbrev pub one_row : List Value → Choice
one_row row = choice_of_rows (row ∷ [])

-- the row of a table with this number, as it is chosen first in FROM
abbrev pub chosen_row : (table row : ℕ) → List Chosen
chosen_row table row = record { position = 0; table = table; row = row } ∷ []

module _ (tables : List Table) where
  same_cell : (table row position column : ℕ)
      → chosen_cell tables (chosen_row table row) position column
      ≡ (one_row (row_at tables table row)).cell position column
  same_cell table row zero column = refl
  same_cell table row (suc position) column =
      ap (λ here. if here then cell_at tables table row column else Null) (eqb-zero-suc position)

  same_choice : (table row : ℕ)
      → choice_of tables (chosen_row table row) ≡ one_row (row_at tables table row)
  same_choice table row =
      ap (λ (cell : ℕ → ℕ → Value). record { cell = cell; slot = λ number. Null })
      (fun_ext (λ position. fun_ext (λ column. same_cell table row position column)))

  choices_of_one : (used : TableUse)
      → choices tables (used ∷ []) ≡ map one_row (rows_of tables used)
  choices_of_one used =
      ap (map choice_of_rows) (flat_map_single (λ row. row ∷ []) (rows_of tables used))
      ∙ map_twice choice_of_rows (λ row. row ∷ []) (rows_of tables used)

  -- Each row by its number is each choice of one row.
  pub choices_by_number : (used : TableUse)
      → map (λ row. choice_of tables (chosen_row used.table row))
      (range_with_len 0 (row_count tables used.table))
      ≡ choices tables (used ∷ [])
  choices_by_number used =
      let numbers : List ℕ = range_with_len 0 (row_count tables used.table) in
      ap (λ f. map f numbers) (fun_ext (λ row. same_choice used.table row))
      ∙ sym (map_twice one_row (row_at tables used.table) numbers)
      ∙ ap (map one_row) (by_number (rows_of tables used) [])
      ∙ sym (choices_of_one used)
