-- The documents of worked examples: `SELECT a FROM t WHERE a >= 2` over three rows, in the middle of its run and at its end; and
-- plans that read by keys.
use Rattle.std.proofs.Common.{◌≡◌, ℕ, pos, List, [], ◌∷◌, codes, Some, None}
use Rattle.serde_json.specs.Written.{compact_text}
use Rattle.serde_json.proofs.OnLiterals.{serde_json_on_literals}
use Rattle.std.specs.Fmt.{digits}
use Rattle.sa_lexer.specs.Reserved.{is_reserved}
use Rattle.sa_print.specs.Name.{canonical_name}
use Rattle.sa_print.specs.Quoted.{between_quotes}
use Rattle.sa_value.specs.declared.truth.CompareOp.TheVariants.{Eq, Ge}
use Rattle.sa_value.specs.declared.value.Value.{Value}
use Rattle.sa_value.specs.declared.value.Value.TheVariants.{Int, Text}
use Rattle.sa_cond.specs.declared.cond.Cond.{Cond, the_lemmas as cond_lemmas}
use Rattle.sa_cond.specs.declared.cond.Cond.TheVariants as cond
use Rattle.sa_cond.specs.declared.expr.Expr.{Expr, the_lemmas as expr_lemmas}
use Rattle.sa_cond.specs.declared.expr.Expr.TheVariants as expr
use Rattle.sa_count.specs.declared.report.Report.{Report}
use Rattle.sa_key.specs.declared.cut.Side.TheVariants.{Below, Above}
use Rattle.sa_key.specs.declared.range.KeyRange.{KeyRange}
use Rattle.sa_plan.specs.declared.names.TableNames.{TableNames}
use Rattle.sa_plan.specs.declared.access.Access.TheVariants.{All, Range, Ref, Const}
use Rattle.sa_plan.specs.declared.access.RefPart.TheVariants.{Literal, Column}
use Rattle.sa_plan.specs.declared.plan.Level.{Level}
use Rattle.sa_plan.specs.declared.plan.Plan.{Plan}
use Rattle.sa_explain.specs.Written.{cond_text}
use Rattle.sa_explain.specs.Document.{document}

abbrev names : List TableNames
names = record { columns = codes "a" ∷ []; keys = [] } ∷ []

-- `t.a >= 2`
abbrev at_least_two : Cond
at_least_two = cond.Compare Ge (expr.Column 0 0) (expr.Literal (Int (pos 2)))

abbrev levels : List Level
levels = record { position = 0; table = 0; alias = codes "t"; access = All; conditions = at_least_two ∷ []; estimate = 3 } ∷ []

abbrev plan : Plan
plan = record { levels = levels; select = record { name = codes "a"; value = expr.Column 0 0 } ∷ []; cost = 35 }

-- What the run has counted: its steps, the rows that it gave, and the rows of the table that it read and that passed.
abbrev report : (steps sent rows passed : ℕ) → Report
report steps sent rows passed = record {
  statement = 1;
  steps = steps;
  sent = sent;
  tables = record { items = record { loops = 1; rows = rows; passed = passed } ∷ [] };
}

pub condition-text : cond_text names levels at_least_two ≡ codes "(t.a >= 2)"
unfolding canonical_name is_reserved digits
condition-text = simp (cond_lemmas, expr_lemmas)

pub plan-text : compact_text (document names plan None)
    ≡ codes "{\"query_block\":{\"cost\":\"35\",\"nested_loop\":[{\"table\":{\"access_type\":\"ALL\",\"attached_condition\":\"(t.a >= 2)\",\"rows\":3,\"table_name\":\"t\"}}],\"select_id\":1}}"
unfolding document serde_json_on_literals canonical_name is_reserved digits
plan-text = simp (cond_lemmas, expr_lemmas)

pub middle-text : compact_text (document names plan (Some (report 4 1 2 1)))
    ≡ codes "{\"query_block\":{\"cost\":\"35\",\"nested_loop\":[{\"table\":{\"access_type\":\"ALL\",\"attached_condition\":\"(t.a >= 2)\",\"r_filtered\":\"50.00\",\"r_loops\":1,\"r_rows\":\"2.00\",\"r_total_passed\":1,\"r_total_rows\":2,\"rows\":3,\"table_name\":\"t\"}}],\"r_sent\":1,\"r_steps\":4,\"select_id\":1}}"
unfolding document serde_json_on_literals canonical_name is_reserved digits
middle-text = simp (cond_lemmas, expr_lemmas)

pub end-text : compact_text (document names plan (Some (report 6 2 3 2)))
    ≡ codes "{\"query_block\":{\"cost\":\"35\",\"nested_loop\":[{\"table\":{\"access_type\":\"ALL\",\"attached_condition\":\"(t.a >= 2)\",\"r_filtered\":\"66.66\",\"r_loops\":1,\"r_rows\":\"3.00\",\"r_total_passed\":2,\"r_total_rows\":3,\"rows\":3,\"table_name\":\"t\"}}],\"r_sent\":2,\"r_steps\":6,\"select_id\":1}}"
unfolding document serde_json_on_literals canonical_name is_reserved digits
end-text = simp (cond_lemmas, expr_lemmas)

-- the number as a literal
abbrev number : ℕ → Expr
number n = expr.Literal (Int (pos n))

-- `t.a = a AND t.b = b`
abbrev are : (a b : ℕ) → Cond
are a b = cond.And (cond.Compare Eq (expr.Column 0 0) (number a) ∷ cond.Compare Eq (expr.Column 0 1) (number b) ∷ [])

-- the range of all that begin with these two values
abbrev both : (a b : ℕ) → KeyRange
both a b =
    let values : List Value = Int (pos a) ∷ Int (pos b) ∷ [] in
    record { from = record { tuple = values; side = Below }; to = record { tuple = values; side = Above } }

-- A table t with the columns a and b, and a key k1 of both.
abbrev range_names : List TableNames
range_names = record { columns = codes "a" ∷ codes "b" ∷ []; keys = codes "k1" ∷ [] } ∷ []

-- `SELECT a, b FROM t WHERE (a = 1 AND b = 2) OR (a = 3 AND b = 4)`, by two ranges of k1
abbrev range_plan : Plan
range_plan = record {
  levels = record {
    position = 0;
    table = 0;
    alias = codes "t";
    access = Range 0 (record { parts = 2; ranges = both 1 2 ∷ both 3 4 ∷ [] });
    conditions = cond.Or (are 1 2 ∷ are 3 4 ∷ []) ∷ [];
    estimate = 2;
  } ∷ [];
  select = record { name = codes "a"; value = expr.Column 0 0 } ∷ record { name = codes "b"; value = expr.Column 0 1 } ∷ [];
  cost = 52;
}

pub range-text : compact_text (document range_names range_plan None)
    ≡ codes "{\"query_block\":{\"cost\":\"52\",\"nested_loop\":[{\"table\":{\"access_type\":\"range\",\"attached_condition\":\"(((t.a = 1) AND (t.b = 2)) OR ((t.a = 3) AND (t.b = 4)))\",\"key\":\"k1\",\"key_parts\":2,\"ranges\":[{\"from\":{\"side\":\"below\",\"values\":[1,2]},\"to\":{\"side\":\"above\",\"values\":[1,2]}},{\"from\":{\"side\":\"below\",\"values\":[3,4]},\"to\":{\"side\":\"above\",\"values\":[3,4]}}],\"rows\":2,\"table_name\":\"t\"}}],\"select_id\":1}}"
unfolding document serde_json_on_literals canonical_name is_reserved digits
range-text = simp (cond_lemmas, expr_lemmas)

-- A table c with a unique key `name`, and a table o with a key `cust`.
abbrev sought_names : List TableNames
sought_names =
    record { columns = codes "id" ∷ codes "name" ∷ []; keys = codes "name" ∷ [] }
    ∷ record { columns = codes "cust" ∷ []; keys = codes "cust" ∷ [] } ∷ []

-- `SELECT c.id FROM c JOIN o ON o.cust = c.id WHERE c.name = 'Ann'`, c by the literal and o by the column c.id
abbrev sought_plan : Plan
sought_plan = record {
  levels = record {
    position = 0;
    table = 0;
    alias = codes "c";
    access = Const 0 (Literal (Text (codes "Ann")) ∷ []);
    conditions = cond.Compare Eq (expr.Column 0 1) (expr.Literal (Text (codes "Ann"))) ∷ [];
    estimate = 1;
  } ∷ record {
    position = 1;
    table = 1;
    alias = codes "o";
    access = Ref 0 (Column 0 0 ∷ []);
    conditions = cond.Compare Eq (expr.Column 1 0) (expr.Column 0 0) ∷ [];
    estimate = 2;
  } ∷ [];
  select = record { name = codes "id"; value = expr.Column 0 0 } ∷ [];
  cost = 58;
}

pub sought-text : compact_text (document sought_names sought_plan None)
    ≡ codes "{\"query_block\":{\"cost\":\"58\",\"nested_loop\":[{\"table\":{\"access_type\":\"const\",\"attached_condition\":\"(c.name = 'Ann')\",\"key\":\"name\",\"key_parts\":1,\"ref\":[\"'Ann'\"],\"rows\":1,\"table_name\":\"c\"}},{\"table\":{\"access_type\":\"ref\",\"attached_condition\":\"(o.cust = c.id)\",\"key\":\"cust\",\"key_parts\":1,\"ref\":[\"c.id\"],\"rows\":2,\"table_name\":\"o\"}}],\"select_id\":1}}"
unfolding document serde_json_on_literals canonical_name is_reserved between_quotes digits
sought-text = simp (cond_lemmas, expr_lemmas)
