-- The definitions at a worked example: `SELECT a FROM t WHERE a >= 2` over the values 1, 2 and 3.
use Rattle.std.proofs.Common.{◌≡◌, ℕ, pos, true, false, List, [], ◌∷◌}
use Rattle.sa_value.specs.declared.truth.CompareOp.TheVariants.{Ge}
use Rattle.sa_value.specs.declared.value.Value.{Value}
use Rattle.sa_value.specs.declared.value.Value.TheVariants.{Int}
use Rattle.sa_cond.specs.declared.cond.Cond.{Cond, the_lemmas as cond_lemmas}
use Rattle.sa_cond.specs.declared.cond.Cond.TheVariants as cond
use Rattle.sa_cond.specs.declared.expr.Expr.{the_lemmas as expr_lemmas}
use Rattle.sa_cond.specs.declared.expr.Expr.TheVariants as expr
use Rattle.sa_table.specs.declared.def.TableDef.{TableDef}
use Rattle.sa_table.specs.Table.{Table}
use Rattle.sa_plan.specs.declared.access.Access.TheVariants.{All}
use Rattle.sa_plan.specs.declared.plan.Plan.{Plan}
use Rattle.sa_meaning.specs.Items.{open_level, read_row, emit_row, passes, selected, items}
use Rattle.sa_meaning.specs.Counts.{counts, level_counters, sent_count}
use Rattle.sa_meaning.specs.Output.{kept, output}

abbrev number : ℕ → Value
number n = Int (pos n)

-- `t.a >= 2`
abbrev at_least_two : Cond
at_least_two = cond.Compare Ge (expr.Column 0 0) (expr.Literal (number 2))

module _ (def : TableDef) (name : List ℕ) where
  abbrev pub tables : List Table
  tables = record { def = def; rows = (number 1 ∷ []) ∷ (number 2 ∷ []) ∷ (number 3 ∷ []) ∷ [] } ∷ []

  abbrev pub plan : Plan
  plan = record {
    levels = record { position = 0; table = 0; alias = name; access = All; conditions = at_least_two ∷ []; estimate = 3 } ∷ [];
    select = record { name = name; value = expr.Column 0 0 } ∷ [];
    cost = 35;
  }

  -- It opens the table, reads 1, reads and emits 2, reads and emits 3.
  pub six_items : items plan tables ≡ open_level 0 ∷ read_row 0 false ∷ read_row 0 true ∷ emit_row (number 2 ∷ []) ∷ read_row 0 true ∷ emit_row (number 3 ∷ []) ∷ []
  unfolding items passes selected
  six_items = simp (cond_lemmas, expr_lemmas)

  -- After four items it has read two rows, and one has passed and was given out.
  pub counts_at_four : counts 1 plan tables 4 ≡ record { statement = 1; steps = 4; sent = 1; tables = record { items = record { loops = 1; rows = 2; passed = 1 } ∷ [] } }
  unfolding items passes selected level_counters sent_count
  counts_at_four = simp (cond_lemmas, expr_lemmas)

  -- So it keeps one row there, and gives two in all.
  pub kept_at_four : kept plan tables 4 ≡ (number 2 ∷ []) ∷ []
  unfolding items passes selected kept
  kept_at_four = simp (cond_lemmas, expr_lemmas)

  pub two_rows : output plan tables ≡ (number 2 ∷ []) ∷ (number 3 ∷ []) ∷ []
  unfolding items passes selected output
  two_rows = simp (cond_lemmas, expr_lemmas)
