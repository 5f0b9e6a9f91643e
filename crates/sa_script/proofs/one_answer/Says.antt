-- A piece says one thing after those before it, or has one fault.
use Rattle.std.proofs.Common.{◌≡◌, ℕ, ◌+◌, List, sym, ap, ◌∙◌, subst, inl, inr}
use Rattle.sa_lexer.specs.declared.first.FirstToken.{FirstToken}
use Rattle.sa_lexer.specs.First.{IsFirst}
use Rattle.sa_lexer.proofs.FirstLemmas.{one_first}
use Rattle.sa_ast.specs.declared.directive.Directive as tree
use Rattle.sa_ast.specs.declared.statement.Statement as statement
use Rattle.sa_parser.specs.Parse.{IsSetup, IsDirective}
use Rattle.sa_table.specs.Table.{Table}
use Rattle.sa_script.specs.declared.kind.Kind.{Kind}
use Rattle.sa_script.specs.declared.kind.Kind.TheVariants.{Blank, Directive, Setup, Statement, Late}
use Rattle.sa_script.specs.declared.said.Said.{Said}
use Rattle.sa_script.specs.Direct.{Directs, CantDirect}
use Rattle.sa_script.specs.Fault.{Fault}
use Rattle.sa_script.specs.Piece.{Piece, IsPiece, kind_at, place_behind}
use Rattle.sa_script.specs.Says.{SaysAs, FailsAs, Says, Fails, FailsAt, IsLeftOpen, SetsUp, CantSetUp, statement_fault}
use Rattle.sa_script.proofs.one_answer.Directs.{SameStep, same_directed, same_undirected, directs_or_not}
use Rattle.sa_script.proofs.one_answer.Firsts.{told_same, none_told}
use Rattle.sa_script.proofs.one_answer.Pieces.{same_piece, ends_or_open, same_open}
use Rattle.sa_script.proofs.one_answer.Reads.{HasOneAnswer, same_tree, same_unread, read_or_not}
use Rattle.sa_script.proofs.one_answer.Setup.{same_set_up, same_not_set_up, set_up_or_not}

-- The two grammars of a script have one answer each.
pub record Grammars : Type 0 where
  pub setup : HasOneAnswer IsSetup
  pub directive : HasOneAnswer IsDirective

-- ---- by the kind of a piece

same_said_as : (g : Grammars) (kind : Kind) (said : Said) (piece : Piece) (behind : List ℕ) (next other : Said) (skipped more : ℕ) → SaysAs kind said piece behind next skipped → SaysAs kind said piece behind other more → SameStep next other skipped more
same_said_as g Blank said piece behind next other skipped more h too = record { said = h.0 ∙ sym too.0; far = h.1 ∙ sym too.1 }
same_said_as g Directive said piece behind next other skipped more h too =
    let same : too.0 ≡ h.0 = same_tree IsDirective piece too.0 h.0 g.directive too.1 h.1 in
    same_directed said piece h.0 behind next other skipped more h.2 (subst (λ (t : tree.Directive). Directs said piece t behind other more) same too.2)
same_said_as g Setup said piece behind next other skipped more h too =
    let same : too.0 ≡ h.0 = same_tree IsSetup piece too.0 h.0 g.setup too.2 h.2 in
    let after : h.1 ≡ too.1 = same_set_up said.tables h.1 too.1 h.0 h.3 (subst (λ (t : statement.Statement). SetsUp said.tables t too.1) same too.3) in
    record { said = h.4 ∙ ap (λ (tables : List Table). record said { tables = tables }) after ∙ sym too.4; far = h.5 ∙ sym too.5 }
same_said_as g Statement said piece behind next other skipped more h too = record { said = h.1 ∙ sym too.1; far = h.2 ∙ sym too.2 }
same_said_as g (Late place) said piece behind next other skipped more h too = absurd h

same_failed_as : (g : Grammars) (kind : Kind) (said : Said) (piece : Piece) (behind : List ℕ) (f k : Fault) → FailsAs kind said piece behind f → FailsAs kind said piece behind k → f ≡ k
same_failed_as g Blank said piece behind f k h too = absurd h
same_failed_as g Directive said piece behind f k (inl unread) (inl too) = same_unread IsDirective piece f k g.directive unread too
same_failed_as g Directive said piece behind f k (inl unread) (inr h) = absurd (read_or_not IsDirective piece h.0 f g.directive h.1 unread)
same_failed_as g Directive said piece behind f k (inr h) (inl unread) = absurd (read_or_not IsDirective piece h.0 k g.directive h.1 unread)
same_failed_as g Directive said piece behind f k (inr h) (inr too) =
    let same : too.0 ≡ h.0 = same_tree IsDirective piece too.0 h.0 g.directive too.1 h.1 in
    same_undirected said piece h.0 behind f k h.2 (subst (λ (t : tree.Directive). CantDirect said piece t behind k) same too.2)
same_failed_as g Setup said piece behind f k (inl unread) (inl too) = same_unread IsSetup piece f k g.setup unread too
same_failed_as g Setup said piece behind f k (inl unread) (inr h) = absurd (read_or_not IsSetup piece h.0 f g.setup h.1 unread)
same_failed_as g Setup said piece behind f k (inr h) (inl unread) = absurd (read_or_not IsSetup piece h.0 k g.setup h.1 unread)
same_failed_as g Setup said piece behind f k (inr h) (inr too) =
    let same : too.0 ≡ h.0 = same_tree IsSetup piece too.0 h.0 g.setup too.1 h.1 in
    same_not_set_up said.tables h.0 f k h.2 (subst (λ (t : statement.Statement). CantSetUp said.tables t k) same too.2)
same_failed_as g Statement said piece behind f k h too = told_same (statement_fault said.sessions piece) f k h too
same_failed_as g (Late place) said piece behind f k h too = h ∙ sym too

says_or_fails_as : (g : Grammars) (kind : Kind) (said : Said) (piece : Piece) (behind : List ℕ) (next : Said) (skipped : ℕ) (f : Fault) → SaysAs kind said piece behind next skipped → FailsAs kind said piece behind f → ⊥
says_or_fails_as g Blank said piece behind next skipped f is h = h
says_or_fails_as g Directive said piece behind next skipped f is (inl unread) = read_or_not IsDirective piece is.0 f g.directive is.1 unread
says_or_fails_as g Directive said piece behind next skipped f is (inr h) =
    let same : h.0 ≡ is.0 = same_tree IsDirective piece h.0 is.0 g.directive h.1 is.1 in
    directs_or_not said piece is.0 behind next skipped f is.2 (subst (λ (t : tree.Directive). CantDirect said piece t behind f) same h.2)
says_or_fails_as g Setup said piece behind next skipped f is (inl unread) = read_or_not IsSetup piece is.0 f g.setup is.2 unread
says_or_fails_as g Setup said piece behind next skipped f is (inr h) =
    let same : h.0 ≡ is.0 = same_tree IsSetup piece h.0 is.0 g.setup h.1 is.2 in
    set_up_or_not said.tables is.1 is.0 f is.3 (subst (λ (t : statement.Statement). CantSetUp said.tables t f) same h.2)
says_or_fails_as g Statement said piece behind next skipped f is h = none_told (statement_fault said.sessions piece) f is.0 h
says_or_fails_as g (Late place) said piece behind next skipped f is h = is

-- ---- at a place

kind_same : (said : Said) (piece : Piece) (first other : FirstToken) → IsFirst piece.text first → IsFirst piece.text other → kind_at said.stage piece other ≡ kind_at said.stage piece first
kind_same said piece first other is too = ap (kind_at said.stage piece) (one_first piece.text first other is too)

-- two pieces at one place, and what they say
pub record SameSaid (piece other : Piece) (next said : Said) (to there : ℕ) : Type 0 where
  pub same : piece ≡ other
  pub told : next ≡ said
  pub far : to ≡ there

-- what a piece is told to be and say, where another piece is the same
moved_says : (said next : Said) (piece more : Piece) (behind rest : List ℕ) (first other : FirstToken) (skipped : ℕ) → more ≡ piece → rest ≡ behind → IsFirst piece.text first → IsFirst more.text other
    → SaysAs (kind_at said.stage more other) said more rest next skipped → SaysAs (kind_at said.stage piece first) said piece behind next skipped
moved_says said next piece more behind rest first other skipped same back first_is other_is says =
    let is : IsFirst piece.text other = subst (λ (p : Piece). IsFirst p.text other) same other_is in
    let there : SaysAs (kind_at said.stage piece other) said piece rest next skipped = subst (λ (p : Piece). SaysAs (kind_at said.stage p other) said p rest next skipped) same says in
    subst (λ (k : Kind). SaysAs k said piece behind next skipped) (kind_same said piece first other first_is is)
    (subst (λ (bytes : List ℕ). SaysAs (kind_at said.stage piece other) said piece bytes next skipped) back there)

moved_fails : (said : Said) (piece more : Piece) (behind rest : List ℕ) (first other : FirstToken) (f : Fault) → more ≡ piece → rest ≡ behind → IsFirst piece.text first → IsFirst more.text other
    → FailsAs (kind_at said.stage more other) said more rest f → FailsAs (kind_at said.stage piece first) said piece behind f
moved_fails said piece more behind rest first other f same back first_is other_is fails =
    let is : IsFirst piece.text other = subst (λ (p : Piece). IsFirst p.text other) same other_is in
    let there : FailsAs (kind_at said.stage piece other) said piece rest f = subst (λ (p : Piece). FailsAs (kind_at said.stage p other) said p rest f) same fails in
    subst (λ (k : Kind). FailsAs k said piece behind f) (kind_same said piece first other first_is is)
    (subst (λ (bytes : List ℕ). FailsAs (kind_at said.stage piece other) said piece bytes f) back there)

pub same_said : (g : Grammars) (text : List ℕ) (said : Said) (from : ℕ) (piece more : Piece) (next other : Said) (to there : ℕ) → Says text said from piece next to → Says text said from more other there → SameSaid piece more next other to there
same_said g text said from piece more next other to there h too =
    let same = same_piece text piece more h.behind too.behind (h.place ∙ sym too.place) h.is too.is in
    let says = moved_says said other piece more h.behind too.behind h.first too.first too.skipped (sym same.same) (sym same.back) h.first_is too.first_is too.says in
    let step = same_said_as g (kind_at said.stage piece h.first) said piece h.behind next other h.skipped too.skipped h.says says in
    record {
      same = same.same;
      told = step.said;
      far = h.to_is ∙ ap (λ (p : Piece). place_behind p + h.skipped) same.same ∙ ap (λ (n : ℕ). place_behind more + n) step.far ∙ sym too.to_is;
    }

same_failed : (g : Grammars) (text : List ℕ) (said : Said) (from : ℕ) (f k : Fault) → Fails text said from f → Fails text said from k → f ≡ k
same_failed g text said from f k h too =
    let same = same_piece text h.piece too.piece h.behind too.behind (h.place ∙ sym too.place) h.is too.is in
    let fails = moved_fails said h.piece too.piece h.behind too.behind h.first too.first k (sym same.same) (sym same.back) h.first_is too.first_is too.fails in
    same_failed_as g (kind_at said.stage h.piece h.first) said h.piece h.behind f k h.fails fails

open_or_not : (text : List ℕ) (from : ℕ) (piece : Piece) (behind : List ℕ) (f : Fault) → piece.place ≡ from → IsPiece text piece behind → IsLeftOpen text from f → ⊥
open_or_not text from piece behind f place is left = ends_or_open text piece behind f is (subst (λ (n : ℕ). IsLeftOpen text n f) (sym place) left)

pub same_failed_at : (g : Grammars) (text : List ℕ) (said : Said) (from : ℕ) (f k : Fault) → FailsAt text said from f → FailsAt text said from k → f ≡ k
same_failed_at g text said from f k (inl left) (inl too) = same_open text from f k left too
same_failed_at g text said from f k (inl left) (inr h) = absurd (open_or_not text from h.piece h.behind f h.place h.is left)
same_failed_at g text said from f k (inr h) (inl left) = absurd (open_or_not text from h.piece h.behind k h.place h.is left)
same_failed_at g text said from f k (inr h) (inr too) = same_failed g text said from f k h too

pub says_or_fails : (g : Grammars) (text : List ℕ) (said : Said) (from : ℕ) (piece : Piece) (next : Said) (to : ℕ) (f : Fault) → Says text said from piece next to → FailsAt text said from f → ⊥
says_or_fails g text said from piece next to f is (inl left) = open_or_not text from piece is.behind f is.place is.is left
says_or_fails g text said from piece next to f is (inr h) =
    let same = same_piece text piece h.piece is.behind h.behind (is.place ∙ sym h.place) is.is h.is in
    let fails = moved_fails said piece h.piece is.behind h.behind is.first h.first f (sym same.same) (sym same.back) is.first_is h.first_is h.fails in
    says_or_fails_as g (kind_at said.stage piece is.first) said piece is.behind next is.skipped f is.says fails
