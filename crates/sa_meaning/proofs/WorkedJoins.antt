-- The definitions at plans of more than one level, and at one without conditions.
use Rattle.std.proofs.Common.{◌≡◌, ℕ, pos, true, false, List, [], ◌∷◌, length, refl}
use Rattle.sa_count.specs.declared.counters.Counters.{Counters}
use Rattle.sa_value.specs.declared.truth.CompareOp.TheVariants.{Eq}
use Rattle.sa_value.specs.declared.value.Value.{Value}
use Rattle.sa_value.specs.declared.value.Value.TheVariants.{Null, Int}
use Rattle.sa_cond.specs.declared.cond.Cond.{Cond, the_lemmas as cond_lemmas}
use Rattle.sa_cond.specs.declared.cond.Cond.TheVariants as cond
use Rattle.sa_cond.specs.declared.expr.Expr.{the_lemmas as expr_lemmas}
use Rattle.sa_cond.specs.declared.expr.Expr.TheVariants as expr
use Rattle.sa_query.specs.declared.item.Item.{Item}
use Rattle.sa_table.specs.declared.def.TableDef.{TableDef}
use Rattle.sa_table.specs.Table.{Table}
use Rattle.sa_plan.specs.declared.access.Access.TheVariants.{All}
use Rattle.sa_plan.specs.declared.plan.Level.{Level}
use Rattle.sa_plan.specs.declared.plan.Plan.{Plan}
use Rattle.sa_meaning.specs.Items.{open_level, read_row, emit_row, passes, selected, items}
use Rattle.sa_meaning.specs.Counts.{level_counters}
use Rattle.sa_meaning.specs.Output.{kept, output}

abbrev number : ℕ → Value
number n = Int (pos n)

abbrev counted : (loops rows passed : ℕ) → Counters
counted loops rows passed = record { loops = loops; rows = rows; passed = passed }

module _ (def : TableDef) (name : List ℕ) where
  abbrev table : List (List Value) → Table
  table rows = record { def = def; rows = rows }

  -- the level of the table in this place of FROM and of the script
  abbrev level : ℕ → List Cond → Level
  level place conditions =
      record { position = place; table = place; alias = name; access = All; conditions = conditions; estimate = 1 }

  abbrev item : (place column : ℕ) → Item
  item place column = record { name = name; value = expr.Column place column }

  abbrev plan : List Level → List Item → Plan
  plan levels select = record { levels = levels; select = select; cost = 1 }

  -- `SELECT t.a, u.b FROM t, u WHERE t.a = u.b` over 7, 7 and 7, 7, 7

  abbrev pub sevens : List Table
  sevens =
      table ((number 7 ∷ []) ∷ (number 7 ∷ []) ∷ [])
      ∷ table ((number 7 ∷ []) ∷ (number 7 ∷ []) ∷ (number 7 ∷ []) ∷ [])
      ∷ []

  abbrev pub equal_sevens : Plan
  equal_sevens =
      plan (level 0 [] ∷ level 1 (cond.Compare Eq (expr.Column 0 0) (expr.Column 1 0) ∷ []) ∷ []) (item 0 0 ∷ item 1 0 ∷ [])

  abbrev row_of_sevens : List Value
  row_of_sevens = number 7 ∷ number 7 ∷ []

  pub equal_sevens-items : length (items equal_sevens sevens) ≡ 17
  unfolding items passes selected
  equal_sevens-items = simp (cond_lemmas, expr_lemmas)

  pub equal_sevens-counters : level_counters equal_sevens sevens 17 ≡ counted 1 2 2 ∷ counted 2 6 6 ∷ []
  unfolding items passes selected level_counters
  equal_sevens-counters = simp (cond_lemmas, expr_lemmas)

  pub equal_sevens-rows : output equal_sevens sevens
      ≡ row_of_sevens ∷ row_of_sevens ∷ row_of_sevens ∷ row_of_sevens ∷ row_of_sevens ∷ row_of_sevens ∷ []
  unfolding items passes selected output
  equal_sevens-rows = simp (cond_lemmas, expr_lemmas)

  -- `SELECT a, b FROM t` over (NULL, 1), (2, 2), (2, 3), (1, 4)

  abbrev pub four_pairs : List Table
  four_pairs =
      table ((Null ∷ number 1 ∷ []) ∷ (number 2 ∷ number 2 ∷ []) ∷ (number 2 ∷ number 3 ∷ []) ∷ (number 1 ∷ number 4 ∷ []) ∷ [])
      ∷ []

  abbrev pub every_pair : Plan
  every_pair = plan (level 0 [] ∷ []) (item 0 0 ∷ item 0 1 ∷ [])

  pub every_pair-items : length (items every_pair four_pairs) ≡ 9
  unfolding items passes selected
  every_pair-items = refl

  pub every_pair-counters : level_counters every_pair four_pairs 9 ≡ counted 1 4 4 ∷ []
  unfolding items passes selected level_counters
  every_pair-counters = refl

  pub every_pair-kept : kept every_pair four_pairs 5 ≡ (Null ∷ number 1 ∷ []) ∷ (number 2 ∷ number 2 ∷ []) ∷ []
  unfolding items passes selected kept
  every_pair-kept = simp expr_lemmas

  -- customers 1, 2, 3 and the orders 10 and 11 of 1, 12 of 2 and 13 of nobody, all pairs of which are read

  abbrev pub shop : List Table
  shop =
      table ((number 1 ∷ []) ∷ (number 2 ∷ []) ∷ (number 3 ∷ []) ∷ [])
      ∷ table ((number 10 ∷ number 1 ∷ []) ∷ (number 11 ∷ number 1 ∷ []) ∷ (number 12 ∷ number 2 ∷ []) ∷ (number 13 ∷ Null ∷ []) ∷ [])
      ∷ []

  abbrev pub orders_of_customers : Plan
  orders_of_customers =
      plan (level 0 [] ∷ level 1 (cond.Compare Eq (expr.Column 1 1) (expr.Column 0 0) ∷ []) ∷ []) (item 0 0 ∷ item 1 0 ∷ [])

  -- 1 open and 3 reads of customers, 3 opens and 12 reads of orders, and 3 emits
  pub orders_of_customers-items : length (items orders_of_customers shop) ≡ 22
  unfolding items passes selected
  orders_of_customers-items = simp (cond_lemmas, expr_lemmas)

  pub orders_of_customers-counters : level_counters orders_of_customers shop 22 ≡ counted 1 3 3 ∷ counted 3 12 3 ∷ []
  unfolding items passes selected level_counters
  orders_of_customers-counters = simp (cond_lemmas, expr_lemmas)

  pub orders_of_customers-rows : output orders_of_customers shop
      ≡ (number 1 ∷ number 10 ∷ []) ∷ (number 1 ∷ number 11 ∷ []) ∷ (number 2 ∷ number 12 ∷ []) ∷ []
  unfolding items passes selected output
  orders_of_customers-rows = simp (cond_lemmas, expr_lemmas)

  -- three tables, the last of which has one row; the middle row has to be the outer one

  abbrev pub three_tables : List Table
  three_tables =
      table ((number 1 ∷ []) ∷ (number 2 ∷ []) ∷ [])
      ∷ table ((number 2 ∷ []) ∷ (number 3 ∷ []) ∷ [])
      ∷ table ((number 9 ∷ []) ∷ [])
      ∷ []

  abbrev pub three_levels : Plan
  three_levels =
      plan (level 0 [] ∷ level 1 (cond.Compare Eq (expr.Column 0 0) (expr.Column 1 0) ∷ []) ∷ level 2 [] ∷ []) (item 2 0 ∷ item 0 0 ∷ [])

  pub three_levels-items : items three_levels three_tables
      ≡ open_level 0 ∷ read_row 0 true ∷ open_level 1 ∷ read_row 1 false ∷ read_row 1 false
      ∷ read_row 0 true ∷ open_level 1 ∷ read_row 1 true ∷ open_level 2 ∷ read_row 2 true ∷ emit_row (number 9 ∷ number 2 ∷ [])
      ∷ read_row 1 false ∷ []
  unfolding items passes selected
  three_levels-items = simp (cond_lemmas, expr_lemmas)

  pub three_levels-counters : level_counters three_levels three_tables 12 ≡ counted 1 2 2 ∷ counted 2 4 1 ∷ counted 1 1 1 ∷ []
  unfolding items passes selected level_counters
  three_levels-counters = simp (cond_lemmas, expr_lemmas)
