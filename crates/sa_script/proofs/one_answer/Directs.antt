-- A directive says one thing, or has one fault.
use Rattle.std.proofs.Common.{◌≡◌, ℕ, Bool, true, false, List, Some, sym, ap, ◌∙◌}
use Rattle.std.specs.Prelude.{slice_get}
use Rattle.sa_ast.specs.declared.directive.Directive.{Directive}
use Rattle.sa_ast.specs.declared.directive.Directive.TheVariants.{Quantum, Turns, Load, Session, Schedule}
use Rattle.sa_ast.specs.declared.directive.NumberTree.{NumberTree}
use Rattle.sa_table.specs.Table.{Table}
use Rattle.sa_script.specs.declared.fault.ScriptKind.{ScriptKind}
use Rattle.sa_script.specs.declared.said.Said.{Said}
use Rattle.sa_script.specs.Direct.{Directs, CantDirect, HasBadNumber, schedule_fault, session_fault, is_from_to}
use Rattle.sa_script.specs.Fault.{Fault, fault_at}
use Rattle.sa_script.specs.Piece.{Piece}
use Rattle.sa_script.proofs.one_answer.Firsts.{same_first, told_same, none_told}
use Rattle.sa_script.proofs.one_answer.Loads.{same_unloaded, same_loaded, loads_or_not}
use Rattle.sa_script.proofs.one_answer.Setup.{fault_same}

-- what is said next, and where
pub record SameStep (next other : Said) (skipped more : ℕ) : Type 0 where
  pub said : next ≡ other
  pub far : skipped ≡ more

yes_or_no : (test : Bool) → test ≡ true → test ≡ false → ⊥
yes_or_no test e f = cc

-- the number at this place is faulty
abbrev HasFaultAt : ℕ → List NumberTree → ℕ → Type 0
HasFaultAt sessions trees index = (tree : NumberTree) × (kind : ScriptKind) × (slice_get trees index ≡ Some tree) × (schedule_fault sessions index tree ≡ Some kind)

same_bad_number : (sessions : ℕ) (trees : List NumberTree) (f g : Fault) → HasBadNumber sessions trees f → HasBadNumber sessions trees g → f ≡ g
same_bad_number sessions trees f g h too =
    let index : h.index ≡ too.index = same_first (HasFaultAt sessions trees) h.index too.index (h.tree, h.kind, h.there, h.bad) (too.tree, too.kind, too.there, too.bad)
    (λ k lt bad. none_told (schedule_fault sessions k bad.0) bad.1 (h.first k bad.0 lt bad.2) bad.3)
    (λ k lt bad. none_told (schedule_fault sessions k bad.0) bad.1 (too.first k bad.0 lt bad.2) bad.3) in
    let tree : h.tree ≡ too.tree = told_same (slice_get trees h.index) h.tree too.tree h.there (ap (slice_get trees) index ∙ too.there) in
    let bad : schedule_fault sessions h.index h.tree ≡ Some too.kind = ap (λ (n : ℕ). schedule_fault sessions n h.tree) index ∙ ap (schedule_fault sessions too.index) tree ∙ too.bad in
    let kind : h.kind ≡ too.kind = told_same (schedule_fault sessions h.index h.tree) h.kind too.kind h.bad bad in
    h.fault_is ∙ fault_same h.kind too.kind h.tree.place too.tree.place kind (ap (λ (t : NumberTree). t.place) tree) ∙ sym too.fault_is

pub same_directed : (said : Said) (piece : Piece) (tree : Directive) (behind : List ℕ) (next other : Said) (skipped more : ℕ) → Directs said piece tree behind next skipped → Directs said piece tree behind other more → SameStep next other skipped more
same_directed said piece (Quantum tree) behind next other skipped more h too = record { said = h.1 ∙ sym too.1; far = h.2 ∙ sym too.2 }
same_directed said piece (Turns tree) behind next other skipped more h too = record { said = h.1 ∙ sym too.1; far = h.2 ∙ sym too.2 }
same_directed said piece (Load name count) behind next other skipped more h too =
    let same = same_loaded said.tables piece name count behind h.0 too.0 skipped more h.1 too.1 in
    record { said = h.2 ∙ ap (λ (tables : List Table). record said { tables = tables }) same.tables ∙ sym too.2; far = same.far }
same_directed said piece (Session tree) behind next other skipped more h too = record { said = h.1 ∙ sym too.1; far = h.2 ∙ sym too.2 }
same_directed said piece (Schedule trees) behind next other skipped more h too = record { said = h.1 ∙ sym too.1; far = h.2 ∙ sym too.2 }

pub same_undirected : (said : Said) (piece : Piece) (tree : Directive) (behind : List ℕ) (f g : Fault) → CantDirect said piece tree behind f → CantDirect said piece tree behind g → f ≡ g
same_undirected said piece (Quantum tree) behind f g h too = h.1 ∙ sym too.1
same_undirected said piece (Turns tree) behind f g h too = h.1 ∙ sym too.1
same_undirected said piece (Load name count) behind f g h too = same_unloaded said.tables piece name count behind f g h too
same_undirected said piece (Session tree) behind f g h too =
    let kind : h.0 ≡ too.0 = told_same (session_fault _ tree) h.0 too.0 h.1 too.1 in
    h.2 ∙ ap (λ (k : ScriptKind). fault_at k tree.place) kind ∙ sym too.2
same_undirected said piece (Schedule trees) behind f g h too = same_bad_number _ trees f g h too

pub directs_or_not : (said : Said) (piece : Piece) (tree : Directive) (behind : List ℕ) (next : Said) (skipped : ℕ) (f : Fault) → Directs said piece tree behind next skipped → CantDirect said piece tree behind f → ⊥
directs_or_not said piece (Quantum tree) behind next skipped f is h = yes_or_no (is_from_to 1 64 tree.number) is.0 h.0
directs_or_not said piece (Turns tree) behind next skipped f is h = yes_or_no (is_from_to 1 1000000000 tree.number) is.0 h.0
directs_or_not said piece (Load name count) behind next skipped f is h = loads_or_not said.tables is.0 piece name count behind skipped f is.1 h
directs_or_not said piece (Session tree) behind next skipped f is h = none_told (session_fault _ tree) h.0 is.0 h.1
directs_or_not said piece (Schedule trees) behind next skipped f is h = none_told (schedule_fault _ h.index h.tree) h.kind (is.0 h.index h.tree h.there) h.bad
