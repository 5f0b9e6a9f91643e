-- What the worked journals share: the query `SELECT a FROM t` over the values 1, 2 and 3, which has seven items, as session 1 runs it.
use Rattle.std.proofs.Common.{ℕ, ◌-◌, pos, List, [], ◌∷◌, ◌++◌, take, drop, Some, None}
use Rattle.sa_value.specs.declared.value.Value.TheVariants.{Int}
use Rattle.sa_count.specs.declared.report.Report.{Report}
use Rattle.sa_cond.specs.declared.expr.Expr.TheVariants.{Column}
use Rattle.sa_table.specs.declared.def.TableDef.{TableDef}
use Rattle.sa_plan.specs.declared.access.Access.TheVariants as access
use Rattle.sa_plan.specs.declared.plan.Plan.{Plan}
use Rattle.sa_meaning.specs.Data.{RunData}
use Rattle.sa_desk.specs.declared.entry.Entry.{Entry}
use Rattle.sa_desk.specs.declared.entry.Event.{Event}
use Rattle.sa_desk.specs.declared.entry.Event.TheVariants.{Begin}
use Rattle.sa_desk.specs.declared.outcome.Outcome.{Outcome}
use Rattle.sa_desk.specs.declared.outcome.Outcome.TheVariants.{Rows}
use Rattle.sa_desk.specs.State.{Terms}
use Rattle.sa_desk.specs.Runs.{IsDeskRun}

-- What the examples leave open: the bytes of the texts and names, and how the table is defined.
pub record Open : Type 0 where
  pub query_text : List ℕ
  pub other_text : List ℕ
  pub alias : List ℕ
  pub column : List ℕ
  pub def : TableDef

-- an entry on desk 1, and one on desk 2
abbrev pub on_1 : (actor seq turn : ℕ) → Event → Entry
on_1 actor seq turn event = record { desk = 1; actor = actor; seq = seq; turn = turn; event = event }

abbrev pub on_2 : (actor seq turn : ℕ) → Event → Entry
on_2 actor seq turn event = record { desk = 2; actor = actor; seq = seq; turn = turn; event = event }

module _ (given : Open) where
  abbrev pub plan : Plan
  plan = record {
    levels = record {
      position = 0;
      table = 0;
      alias = given.alias;
      access = access.All;
      conditions = [];
      estimate = 3;
    } ∷ [];
    select = record { name = given.column; value = Column 0 0 } ∷ [];
    cost = 35;
  }

  abbrev pub tables : RunData
  tables = record { def = given.def; rows = (Int (pos 1) ∷ []) ∷ (Int (pos 2) ∷ []) ∷ (Int (pos 3) ∷ []) ∷ [] } ∷ []

  -- The query begins as this statement.
  abbrev pub begin_query : ℕ → Event
  begin_query number = Begin number given.query_text 0 (Some plan) (Some tables)

  -- A statement without a plan begins.
  abbrev pub begin_plain : ℕ → Event
  begin_plain number = Begin number given.other_text 0 None None

  -- its rows
  abbrev pub all_rows : Outcome
  all_rows = Rows (given.column ∷ []) ((Int (pos 1) ∷ []) ∷ (Int (pos 2) ∷ []) ∷ (Int (pos 3) ∷ []) ∷ [])

-- Entries are counted from 1. The journal with another entry at this index, without the entry there, with that entry and the
-- next one exchanged, and with a further entry behind it.
abbrev pub changed : ℕ → Entry → List Entry → List Entry
changed index entry journal = take (index - 1) journal ++ entry ∷ drop index journal

abbrev pub dropped : ℕ → List Entry → List Entry
dropped index journal = take (index - 1) journal ++ drop index journal

abbrev pub swapped : List Entry → List Entry
swapped [] = []
swapped (first ∷ []) = first ∷ []
swapped (first ∷ second ∷ rest) = second ∷ first ∷ rest

abbrev pub exchanged : ℕ → List Entry → List Entry
exchanged index journal = take (index - 1) journal ++ swapped (drop (index - 1) journal)

abbrev pub inserted : ℕ → Entry → List Entry → List Entry
inserted index entry journal = take index journal ++ entry ∷ drop index journal

-- No desk with these terms writes this journal.
abbrev pub IsRefused : Terms → List Entry → Type 0
IsRefused terms journal = IsDeskRun terms journal → ⊥

-- Steps are made four in a turn.
abbrev pub terms_of : (desk : ℕ) → Terms
terms_of desk = record { desk = desk; quantum = 4; turns = 1000000 }

-- The report of statement 1 after so many steps: its table was opened, so many rows were read, so many passed and so many were given out.
abbrev pub report : (steps rows passed sent : ℕ) → Report
report steps rows passed sent =
    record { statement = 1; steps = steps; sent = sent; tables = record { items = record { loops = 1; rows = rows; passed = passed } ∷ [] } }
