-- Expressions that are read back from their canonical text.
use Rattle.std.proofs.Common.{◌≡◌, ◌≢◌, ℕ, suc, ℤ, pos, negsuc, ◌+◌, ◌^◌, ◌<◌, ◌≤◌, Bool, true, false, List, ◌++◌, refl, sym, ap, ◌∙◌}
use Rattle.std.specs.Prelude.{slice_index}
use Rattle.sa_lexer.specs.declared.token.Token.{Token}
use Rattle.sa_ast.specs.declared.expression.ExprNode.{ExprNode, ExprNode-F, out-ExprNode, map-ExprNode}
use Rattle.sa_ast.specs.declared.expression.ExprTree.{ExprTree, out-ExprTree, the_lemmas}
use Rattle.sa_ast.specs.Place.{unplaced_expr}
use Rattle.sa_print.specs.Expression.{canonical_expr}
use Rattle.sa_print.specs.Lists.{bracketed}
use Rattle.sa_parser.specs.Form.{Form}
use Rattle.sa_parser.specs.ExprGrammar.{Factor, Disjunction, nested}
use Rattle.sa_parser.proofs.canonical_text.Lexed.{Quiet, Lexed, same-Lexed}
use Rattle.sa_parser.proofs.canonical_text.Lift.{bracketed-Factor}
use Rattle.sa_parser.proofs.canonical_text.Pieces.{brackets-Lexed}

-- Where the text stands, tokens of a form are read whose value is this one, places left aside.
pub record Reads {A B : Type 0} (Is : Form A) (bare : A → B) (Before : List ℕ → Type 0) (place : ℕ) (text : List ℕ) (value : B) : Type 0 where
  pub tokens : List Token
  pub again : A
  pub lexed : Lexed Before place text tokens
  pub is : Is tokens again
  pub same : bare again ≡ value

-- what is read in a form is read in a wider one
pub wider : {A B : Type 0} {Is : Form A} (Wide : Form A) {bare : A → B} {Before : List ℕ → Type 0} {place : ℕ} {text : List ℕ} {value : B}
    → ((tokens : List Token) (again : A) → Is tokens again → Wide tokens again) → Reads Is bare Before place text value → Reads Wide bare Before place text value
wider Wide within reads = record {
  tokens = reads.tokens;
  again = reads.again;
  lexed = reads.lexed;
  is = within reads.tokens reads.again reads.is;
  same = reads.same;
}

-- the same text, written another way
pub rewritten : {A B : Type 0} {Is : Form A} {bare : A → B} {Before : List ℕ → Type 0} {place : ℕ} {text other : List ℕ} {value : B}
    → text ≡ other → Reads Is bare Before place text value → Reads Is bare Before place other value
rewritten e reads = record {
  tokens = reads.tokens;
  again = reads.again;
  lexed = same-Lexed e reads.lexed;
  is = reads.is;
  same = reads.same;
}

abbrev pub is_number : {X Y : Type 0} → ExprNode-F X Y → Bool
is_number (ExprNode-F.Number number) = true
is_number other = false

-- a number of up to 38 digits
abbrev pub IsShort : ℤ → Type 0
IsShort (pos number) = number < 10 ^ 38
IsShort (negsuc number) = suc number < 10 ^ 38

abbrev pub HasShort : {X Y : Type 0} → ExprNode-F X Y → Type 0
HasShort (ExprNode-F.Number number) = IsShort number
HasShort other = Unit {0}

abbrev pub layer_of : ExprTree → ExprNode-F ExprNode ExprTree
layer_of tree = out-ExprNode (out-ExprTree tree).node

-- An expression is read back, from so many levels on. Its text begins with a minus only if it is a number.
pub record Fine (tree : ExprTree) : Type 0 where
  pub levels : ℕ
  pub reads : (more place : ℕ) → levels ≤ more → Reads (Factor (nested more)) unplaced_expr Quiet place (canonical_expr tree) (unplaced_expr tree)
  pub short : HasShort (layer_of tree)
  pub begins : is_number (layer_of tree) ≡ false → (after : List ℕ) → slice_index (canonical_expr tree ++ after) 0 ≢ 45

number-map : (f : ExprNode → ExprNode) (g : ExprTree → ExprTree) (layer : ExprNode-F ExprNode ExprTree)
    → is_number (map-ExprNode ExprNode ExprTree ExprNode ExprTree f g layer) ≡ is_number layer
number-map f g (ExprNode-F.Number number) = refl
number-map f g _ = refl

number-layer : (x : ExprTree) → is_number (layer_of (unplaced_expr x)) ≡ is_number (layer_of x)
number-layer x = simp (the_lemmas, number-map)

-- whether it is a number doesn't depend on places
pub number-unplaced : (x other : ExprTree) → unplaced_expr x ≡ unplaced_expr other → is_number (layer_of x) ≡ is_number (layer_of other)
number-unplaced x other e = sym (number-layer x) ∙ ap (λ tree. is_number (layer_of tree)) e ∙ number-layer other

-- an expression in brackets
pub closed : (levels place : ℕ) (text : List ℕ) (value : ExprTree) → Reads (Disjunction (nested levels)) unplaced_expr Quiet (place + 1) text value
    → Reads (Factor (nested (suc levels))) unplaced_expr Quiet place (bracketed text) value
closed levels place text value reads = record {
  again = reads.again;
  lexed = brackets-Lexed reads.lexed;
  is = bracketed-Factor levels place _ reads.tokens reads.again reads.is;
  same = reads.same;
  tokens = _;
}
