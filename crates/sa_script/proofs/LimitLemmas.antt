-- What each piece of a script says keeps the limits of scripts.
use Rattle.std.proofs.Common.{◌≡◌, ℕ, ◌+◌, ◌<◌, ◌≤◌, true, List, [], ◌∷◌, ◌++◌, length, get_or, None, sym, subst, inl, inr, arith, length-append}
use Rattle.std.specs.Prelude.{All}
use Rattle.std.proofs.lemmas.Bool.Decides.{nat_tests}
use Rattle.std.proofs.lemmas.List.{length-map}
use Rattle.std.proofs.lemmas.List.Elements.{All-nil, All-cons, All-head, All-tail, All-push, All-map, All-weaker}
use Rattle.std.proofs.lemmas.Option.{slice_get_cases, slice_get-get_or}
use Rattle.sa_ast.specs.declared.directive.Directive.{Directive}
use Rattle.sa_ast.specs.declared.directive.Directive.TheVariants.{Quantum, Turns, Load, Session, Schedule}
use Rattle.sa_ast.specs.declared.directive.NumberTree.{NumberTree}
use Rattle.sa_table.specs.Table.{Table}
use Rattle.sa_script.specs.declared.kind.Kind.{Kind}
use Rattle.sa_script.specs.declared.kind.Kind.TheVariants as kinds
use Rattle.sa_script.specs.declared.said.Said.{Said}
use Rattle.sa_script.specs.declared.said.Stage.{Stage}
use Rattle.sa_script.specs.declared.said.Stage.TheVariants.{InSession, Scheduled}
use Rattle.sa_script.specs.declared.script.Script.{Script}
use Rattle.sa_script.specs.Direct.{Directs, HasGoodNumbers, is_from_to, session_fault, schedule_fault, numbers_in}
use Rattle.sa_script.specs.Limits.{IsWithinLimits}
use Rattle.sa_script.specs.Piece.{Piece, kind_at, source_of}
use Rattle.sa_script.specs.Said.{nothing_said, with_statement, last_session}
use Rattle.sa_script.specs.Says.{Says, SaysAs, LeadTo, statement_fault}
use Rattle.sa_script.specs.Script.{IsScript, script_said}
use Rattle.sa_script.proofs.Sessions.{with_statement-length}

-- ---- what the tests of a limit tell

from_to_tells : (least most number : ℕ) → is_from_to least most number ≡ true → (least ≤ number) × (number ≤ most)
from_to_tells least most number h = grind (arith, nat_tests)

session_within : (sessions : ℕ) (tree : NumberTree) → session_fault sessions tree ≡ None → sessions + 1 ≤ 16
session_within sessions tree h = grind (arith, nat_tests)

number_within : (sessions before : ℕ) (tree : NumberTree) → schedule_fault sessions before tree ≡ None → (1 ≤ tree.number) × (tree.number ≤ sessions) × (before < 65536)
number_within sessions before tree h = grind (arith, nat_tests)

statement_within : (sessions : List (List (List ℕ))) (piece : Piece) → statement_fault sessions piece ≡ None → length (last_session sessions) < 256
statement_within sessions piece h = grind (arith, nat_tests)

-- ---- the numbers of a SCHEDULE

-- a number is that of one of so many sessions
abbrev IsOf : ℕ → ℕ → Type 0
IsOf sessions session = (1 ≤ session) × (session ≤ sessions)

few_numbers : (sessions : ℕ) (trees : List NumberTree) → HasGoodNumbers sessions trees → length (numbers_in trees) ≤ 65536
few_numbers sessions trees good = elim (slice_get_cases trees 65536).1 [
  | inl more ↦ absurd (omega (arith, (number_within sessions 65536 more.0 (good 65536 more.0 more.2)).2))
  | inr none ↦ simp length-map none.0
]

known_numbers : (sessions : ℕ) (trees : List NumberTree) → HasGoodNumbers sessions trees → All (IsOf sessions) (numbers_in trees)
known_numbers sessions trees good =
    All-map (IsOf sessions) (λ (tree : NumberTree). tree.number) trees
    (λ (k : ℕ) (d : NumberTree) (lt : k < length trees).
    let told = number_within sessions k (get_or trees k d) (good k (get_or trees k d) (slice_get-get_or trees k d lt)) in (told.0, told.1))

more_sessions : (sessions : ℕ) (numbers : List ℕ) → All (IsOf sessions) numbers → All (IsOf (sessions + 1)) numbers
more_sessions sessions numbers known =
    All-weaker (IsOf sessions) (IsOf (sessions + 1)) (λ (session : ℕ) (is : IsOf sessions session). (is.0, omega arith)) numbers known

-- ---- the statements of the sessions

abbrev HasFew : List (List ℕ) → Type 0
HasFew texts = length texts ≤ 256

one_statement_more : (sessions : List (List (List ℕ))) (text : List ℕ) → All HasFew sessions → length (last_session sessions) < 256 → All HasFew (with_statement sessions text)
one_statement_more [] text few room = few
one_statement_more (last ∷ []) text few room = All-cons HasFew (last ++ text ∷ []) [] (simp length-append (omega arith)) (All-nil HasFew)
one_statement_more (session ∷ next ∷ rest) text few room =
    All-cons HasFew session (with_statement (next ∷ rest) text) (All-head HasFew session (next ∷ rest) few)
    (one_statement_more (next ∷ rest) text (All-tail HasFew session (next ∷ rest) few) room)

-- ---- what was said so far

-- what was said so far would be a script within the limits
abbrev Keeps : Said → Type 0
Keeps said = IsWithinLimits (script_said said)

nothing_keeps : Keeps nothing_said
nothing_keeps = record {
  sessions = omega arith;
  statements = All-nil HasFew;
  least_quantum = omega arith;
  most_quantum = omega arith;
  least_turns = omega arith;
  most_turns = omega arith;
  scheduled = omega arith;
  schedule = All-nil (IsOf 0);
}

with_tables : (said : Said) (tables : List Table) → Keeps said → Keeps (record said { tables = tables })
with_tables said tables keeps = record {
  sessions = keeps.sessions;
  statements = keeps.statements;
  least_quantum = keeps.least_quantum;
  most_quantum = keeps.most_quantum;
  least_turns = keeps.least_turns;
  most_turns = keeps.most_turns;
  scheduled = keeps.scheduled;
  schedule = keeps.schedule;
}

with_quantum : (said : Said) (number : ℕ) → (1 ≤ number) × (number ≤ 64) → Keeps said → Keeps (record said { quantum = number })
with_quantum said number within keeps = record {
  sessions = keeps.sessions;
  statements = keeps.statements;
  least_quantum = within.0;
  most_quantum = within.1;
  least_turns = keeps.least_turns;
  most_turns = keeps.most_turns;
  scheduled = keeps.scheduled;
  schedule = keeps.schedule;
}

with_turns : (said : Said) (number : ℕ) → (1 ≤ number) × (number ≤ 1000000000) → Keeps said → Keeps (record said { turns = number })
with_turns said number within keeps = record {
  sessions = keeps.sessions;
  statements = keeps.statements;
  least_quantum = keeps.least_quantum;
  most_quantum = keeps.most_quantum;
  least_turns = within.0;
  most_turns = within.1;
  scheduled = keeps.scheduled;
  schedule = keeps.schedule;
}

-- sessions of a number that the numbers of the schedule keep
with_sessions : (said : Said) (stage : Stage) (sessions : List (List (List ℕ))) → length sessions ≤ 16 → All HasFew sessions → All (IsOf (length sessions)) said.schedule → Keeps said
    → Keeps (record said { stage = stage; sessions = sessions })
with_sessions said stage sessions most few known keeps = record {
  sessions = most;
  statements = few;
  least_quantum = keeps.least_quantum;
  most_quantum = keeps.most_quantum;
  least_turns = keeps.least_turns;
  most_turns = keeps.most_turns;
  scheduled = keeps.scheduled;
  schedule = known;
}

with_session : (said : Said) (tree : NumberTree) → session_fault (length said.sessions) tree ≡ None → Keeps said → Keeps (record said { stage = InSession; sessions = said.sessions ++ [] ∷ [] })
with_session said tree good keeps =
    let one_more : length (said.sessions ++ [] ∷ []) ≡ length said.sessions + 1 = simp length-append in
    with_sessions said InSession (said.sessions ++ [] ∷ [])
    (subst (λ (n : ℕ). n ≤ 16) (sym one_more) (session_within (length said.sessions) tree good))
    (All-push HasFew said.sessions [] keeps.statements (omega arith))
    (subst (λ (n : ℕ). All (IsOf n) said.schedule) (sym one_more) (more_sessions (length said.sessions) said.schedule keeps.schedule)) keeps

with_source : (said : Said) (text : List ℕ) → length (last_session said.sessions) < 256 → Keeps said → Keeps (record said { sessions = with_statement said.sessions text })
with_source said text room keeps =
    let same : length (with_statement said.sessions text) ≡ length said.sessions = with_statement-length said.sessions text in
    with_sessions said said.stage (with_statement said.sessions text)
    (subst (λ (n : ℕ). n ≤ 16) (sym same) keeps.sessions)
    (one_statement_more said.sessions text keeps.statements room)
    (subst (λ (n : ℕ). All (IsOf n) said.schedule) (sym same) keeps.schedule) keeps

with_schedule : (said : Said) (trees : List NumberTree) → HasGoodNumbers (length said.sessions) trees → Keeps said → Keeps (record said { stage = Scheduled; schedule = numbers_in trees })
with_schedule said trees good keeps = record {
  sessions = keeps.sessions;
  statements = keeps.statements;
  least_quantum = keeps.least_quantum;
  most_quantum = keeps.most_quantum;
  least_turns = keeps.least_turns;
  most_turns = keeps.most_turns;
  scheduled = few_numbers (length said.sessions) trees good;
  schedule = known_numbers (length said.sessions) trees good;
}

-- ---- from piece to piece

directed_keeps : (said : Said) (piece : Piece) (tree : Directive) (behind : List ℕ) (next : Said) (skipped : ℕ) → Directs said piece tree behind next skipped → Keeps said → Keeps next
directed_keeps said piece (Quantum tree) behind next skipped h keeps = subst Keeps (sym h.1) (with_quantum said tree.number (from_to_tells 1 64 tree.number h.0) keeps)
directed_keeps said piece (Turns tree) behind next skipped h keeps = subst Keeps (sym h.1) (with_turns said tree.number (from_to_tells 1 1000000000 tree.number h.0) keeps)
directed_keeps said piece (Load name count) behind next skipped h keeps = subst Keeps (sym h.2) (with_tables said h.0 keeps)
directed_keeps said piece (Session tree) behind next skipped h keeps = subst Keeps (sym h.1) (with_session said tree h.0 keeps)
directed_keeps said piece (Schedule trees) behind next skipped h keeps = subst Keeps (sym h.1) (with_schedule said trees h.0 keeps)

kind_keeps : (kind : Kind) (said : Said) (piece : Piece) (behind : List ℕ) (next : Said) (skipped : ℕ) → SaysAs kind said piece behind next skipped → Keeps said → Keeps next
kind_keeps kinds.Blank said piece behind next skipped h keeps = subst Keeps (sym h.0) keeps
kind_keeps kinds.Directive said piece behind next skipped h keeps = directed_keeps said piece h.0 behind next skipped h.2 keeps
kind_keeps kinds.Setup said piece behind next skipped h keeps = subst Keeps (sym h.4) (with_tables said h.1 keeps)
kind_keeps kinds.Statement said piece behind next skipped h keeps = subst Keeps (sym h.1) (with_source said (source_of piece.text) (statement_within said.sessions piece h.0) keeps)
kind_keeps (kinds.Late place) said piece behind next skipped h keeps = absurd h

says_keeps : (text : List ℕ) (said : Said) (from : ℕ) (piece : Piece) (next : Said) (to : ℕ) → Says text said from piece next to → Keeps said → Keeps next
says_keeps text said from piece next to h keeps = kind_keeps (kind_at said.stage piece h.first) said piece h.behind next h.skipped h.says keeps

lead_keeps : (text : List ℕ) (said : Said) (from : ℕ) (pieces : List Piece) (last : Said) (to : ℕ) → LeadTo text said from pieces last to → Keeps said → Keeps last
lead_keeps text said from [] last to h keeps = subst Keeps (sym h.0) keeps
lead_keeps text said from (piece ∷ pieces) last to h keeps = lead_keeps text h.0 h.1 pieces last to h.4 (says_keeps text said from piece h.0 h.1 h.3 keeps)

pub script_keeps_limits : (text : List ℕ) (script : Script) → IsScript text script → IsWithinLimits script
script_keeps_limits text script h =
    subst IsWithinLimits (sym h.script_is)
    (says_keeps text h.said h.from h.piece h.next h.to h.last (lead_keeps text nothing_said 0 h.pieces h.said h.from h.lead nothing_keeps))
