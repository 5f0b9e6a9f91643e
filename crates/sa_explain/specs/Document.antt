-- The document of a plan, and of a run of it.
-- Source of the names: MariaDB Knowledge Base, "EXPLAIN FORMAT=JSON" and "ANALYZE FORMAT=JSON".
use Rattle.std.specs.Prelude.{◌≡◌, ℕ, ◌*◌, List, [], ◌∷◌, map, codes, slice_get, Option, None, Some, option_and_then}
use Rattle.std.specs.Fmt.{decimal}
use Rattle.std.specs.List.{enumerate_from}
use Rattle.serde_json.specs.Data.{Data, string, array, object, Members, put, no_members}
use Rattle.serde_json.specs.View.{items_of}
use Rattle.sa_print.specs.Lists.{joined}
use Rattle.sa_cond.specs.declared.cond.Cond.{Cond}
use Rattle.sa_count.specs.declared.counters.Counters.{Counters}
use Rattle.sa_count.specs.declared.report.Report.{Report}
use Rattle.sa_table.specs.Table.{Table}
use Rattle.sa_plan.specs.declared.names.TableNames.{TableNames}
use Rattle.sa_plan.specs.declared.plan.Level.{Level}
use Rattle.sa_plan.specs.declared.plan.Plan.{Plan}
use Rattle.sa_plan.specs.Access.{kind_of}
use Rattle.sa_plan.specs.Lawful.{IsLawful}
use Rattle.sa_plan.specs.Names.{names_of}
use Rattle.sa_explain.specs.Access.{kind_name, with_access}
use Rattle.sa_explain.specs.Number.{count, quotient}
use Rattle.sa_explain.specs.Written.{cond_text}

-- the members with the condition of a level, where it has one
abbrev pub with_condition : List TableNames → List Level → List Cond → Members → Members
with_condition names levels [] members = members
with_condition names levels (first ∷ rest) members =
    put (codes "attached_condition")
    (string (joined (codes " AND ") (map (cond_text names levels) (first ∷ rest)))) members

-- The members with what a run has counted of a table: how many of a hundred rows passed, and how
-- many were read each time.
abbrev pub with_counters : Option Counters → Members → Members
with_counters None members = members
with_counters (Some counters) members =
    put (codes "r_filtered") (quotient (10000 * counters.passed) counters.rows)
    (put (codes "r_loops") (count counters.loops)
    (put (codes "r_rows") (quotient (100 * counters.rows) counters.loops)
    (put (codes "r_total_passed") (count counters.passed)
    (put (codes "r_total_rows") (count counters.rows)
    members))))

-- A level: its access and what that reads by, its condition, what was counted, the rows it is
-- reckoned to give, and its alias.
abbrev pub level_members : List TableNames → List Level → Level → Option Counters → Members
level_members names levels level counters =
    with_counters counters
    (with_condition names levels level.conditions
    (with_access names levels level.table level.access
    (put (codes "access_type") (string (kind_name (kind_of level.access)))
    (put (codes "rows") (count level.estimate)
    (put (codes "table_name") (string level.alias)
    no_members)))))

abbrev pub level_data : List TableNames → List Level → Level → Option Counters → Data
level_data names levels level counters =
    object (put (codes "table") (object (level_members names levels level counters)) no_members)

-- what a report counts of the level with this index
abbrev pub counters_at : Option Report → ℕ → Option Counters
counters_at report index =
    option_and_then (λ (report : Report). slice_get report.tables.items index) report

-- the members with what a run has counted in all
abbrev pub with_steps : Option Report → Members → Members
with_steps None members = members
with_steps (Some report) members =
    put (codes "r_sent") (count report.sent) (put (codes "r_steps") (count report.steps) members)

-- the levels of a plan
abbrev pub nested_loop : List TableNames → List Level → Option Report → Data
nested_loop names levels report =
    array (items_of
    (map (λ numbered. level_data names levels numbered.1 (counters_at report numbered.0))
    (enumerate_from 0 levels)))

abbrev pub block_members : List TableNames → Plan → Option Report → Members
block_members names plan report =
    with_steps report
    (put (codes "cost") (string (decimal plan.cost))
    (put (codes "nested_loop") (nested_loop names plan.levels report)
    (put (codes "select_id") (count 1)
    no_members)))

-- The document of a plan; with a report it is that of a run, which tells what was counted too.
unfoldable pub document : List TableNames → Plan → Option Report → Data
document names plan report =
    object (put (codes "query_block") (object (block_members names plan report)) no_members)

-- The names are those of tables for which the plan is lawful.
pub record AreNamesFor (plan : Plan) (names : List TableNames) : Type 0 where
  pub tables : List Table
  pub lawful : IsLawful tables plan
  pub names_are : names ≡ names_of tables
