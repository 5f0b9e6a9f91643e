-- What one piece says or how it fails, from what its kind does.
use Rattle.std.proofs.Common.{◌≡◌, ℕ, List, subst, inr}
use Rattle.sa_lexer.specs.declared.first.FirstToken.{FirstToken}
use Rattle.sa_lexer.specs.First.{IsFirst}
use Rattle.sa_ast.specs.declared.directive.Directive as tree
use Rattle.sa_parser.specs.Parse.{IsDirective}
use Rattle.sa_script.specs.declared.kind.Kind.{Kind}
use Rattle.sa_script.specs.declared.kind.Kind.TheVariants.{Directive, Setup}
use Rattle.sa_script.specs.declared.said.Said.{Said}
use Rattle.sa_script.specs.Direct.{CantDirect}
use Rattle.sa_script.specs.Fault.{Fault}
use Rattle.sa_script.specs.Piece.{Piece, kind_at}
use Rattle.sa_script.specs.Reads.{ReadsAs}
use Rattle.sa_script.specs.Says.{FailsAs}
use Rattle.sa_script.specs.inner.Step.{FailsWith, CantSetUpAs}

abbrev HasKind : Said → Piece → Kind → Type 0
HasKind said piece kind = (first : FirstToken) × IsFirst piece.text first × (kind ≡ kind_at said.stage piece first)

pub set_up_fails : (said : Said) (piece : Piece) (behind : List ℕ) (fault : Fault) → HasKind said piece Setup → CantSetUpAs said.tables piece fault → FailsWith said piece behind fault
set_up_fails said piece behind fault kind cant = (kind.0, kind.1, subst (λ (k : Kind). FailsAs k said piece behind fault) kind.2 cant)

pub direct_fails : (said : Said) (piece : Piece) (behind : List ℕ) (tree : tree.Directive) (fault : Fault) → HasKind said piece Directive → ReadsAs IsDirective piece tree → CantDirect said piece tree behind fault
    → FailsWith said piece behind fault
direct_fails said piece behind tree fault kind reads cant = (kind.0, kind.1, subst (λ (k : Kind). FailsAs k said piece behind fault) kind.2 (inr (tree, reads, cant)))
