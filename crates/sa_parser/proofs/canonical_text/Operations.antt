-- Operations on two expressions, with a sign between them, are read back.
use Rattle.std.proofs.Common.{◌≡◌, ℕ, ◌+◌, true, false, List, [], ◌∷◌, ◌++◌, length, Some, refl, ap, ap₂, ◌∙◌, arith, append_assoc}
use Rattle.sa_lexer.specs.declared.sign.Sign.{Sign}
use Rattle.sa_lexer.specs.declared.sign.Sign.TheVariants as signs
use Rattle.sa_lexer.specs.declared.token.Token.{Token}
use Rattle.sa_lexer.specs.declared.token.TokenKind.TheVariants as kinds
use Rattle.sa_lexer.specs.Sign.{spelling}
use Rattle.sa_value.specs.declared.truth.CompareOp.{CompareOp}
use Rattle.sa_value.specs.declared.truth.CompareOp.TheVariants as ops
use Rattle.sa_ast.specs.declared.expression.ExprNode.{ExprNode, ExprNode-F, out-ExprNode}
use Rattle.sa_ast.specs.declared.expression.ExprNode.TheVariants as node
use Rattle.sa_ast.specs.declared.expression.ExprTree.{ExprTree}
use Rattle.sa_ast.specs.Place.{unplaced_expr}
use Rattle.sa_print.specs.Expression.{canonical_expr, comparison_sign, operation_text}
use Rattle.sa_print.specs.Lists.{bracketed}
use Rattle.sa_parser.specs.declared.rule.Rule.{Rule}
use Rattle.sa_parser.specs.Token.{is_sign}
use Rattle.sa_parser.specs.Tree.{tree, times_tree, additive_in, sum_tree, comparison_of, comparison_in, compare_tail, predicate_tree}
use Rattle.sa_parser.specs.Form.{Form}
use Rattle.sa_parser.specs.ExprGrammar.{Factor, Term, Sum, CompareTail, PredicateTail, Predicate, Disjunction, nested}
use Rattle.sa_parser.proofs.canonical_text.Build.{one, made, then, first, some, only, chained}
use Rattle.sa_parser.proofs.canonical_text.Fine.{Fine, HasShort}
use Rattle.sa_parser.proofs.canonical_text.Inside.{fine_inside}
use Rattle.sa_parser.proofs.canonical_text.Lexed.{quiet_at, token_at, joined-Lexed}
use Rattle.sa_parser.proofs.canonical_text.Lift.{factor-Term, factor-Sum, term-Sum, sum-Disjunction, predicate-Disjunction}
use Rattle.sa_parser.proofs.canonical_text.Nodes.{text-Compare, text-Add, text-Subtract, text-Multiply, bare-Compare, bare-Add, bare-Subtract, bare-Multiply}
use Rattle.sa_parser.proofs.canonical_text.Pieces.{spaced_sign-Lexed}
use Rattle.sa_parser.proofs.canonical_text.Tokens.{sign_is}

-- the tokens of an operation
abbrev operated : Sign → List Token → ℕ → ℕ → List Token → List Token
operated sign left place len right = left ++ (token_at (kinds.Sign sign) place len ∷ [] ++ right)

-- its text, with a sign between spaces
abbrev between : List ℕ → Sign → List ℕ → List ℕ
between left sign right = left ++ (32 ∷ (spelling sign ++ 32 ∷ []) ++ right)

same_text : (left : List ℕ) (sign : Sign) (right : List ℕ) → operation_text left (spelling sign) right ≡ bracketed (between left sign right)
same_text left sign right = ap bracketed (simp append_assoc)

-- an operation of the grammar
record IsOperation (sign : Sign) (make : ExprTree → ExprTree → ExprNode) : Type 1 where
  is : (inner : Rule → Form ExprTree) (place len : ℕ) (left right : List Token) (x y : ExprTree) → Factor inner left x → Factor inner right y
      → Disjunction inner (operated sign left place len right) (tree place (make x y))
  written : (place : ℕ) (x y : ExprTree) → canonical_expr (tree place (make x y)) ≡ operation_text (canonical_expr x) (spelling sign) (canonical_expr y)
  bare : (place : ℕ) (x y : ExprTree) → unplaced_expr (tree place (make x y)) ≡ tree 0 (make (unplaced_expr x) (unplaced_expr y))
  layer : ExprTree → ExprTree → ExprNode-F ExprNode ExprTree
  opens : (x y : ExprTree) → out-ExprNode (make x y) ≡ layer x y
  short : (x y : ExprTree) → HasShort (layer x y)

fine_operation : (sign : Sign) (make : ExprTree → ExprTree → ExprNode) → IsOperation sign make → (place : ℕ) (x y : ExprTree) → Fine x → Fine y → Fine (tree place (make x y))
fine_operation sign make operation place x y left right =
    fine_inside place (make x y) (record {
      layer = operation.layer x y;
      opens = operation.opens x y;
      text = between (canonical_expr x) sign (canonical_expr y);
      written = λ there. operation.written there x y ∙ same_text (canonical_expr x) sign (canonical_expr y);
      value = tree 0 (make (unplaced_expr x) (unplaced_expr y));
      bare = λ there. operation.bare there x y;
      short = operation.short x y;
      levels = left.levels + right.levels;
      reads = λ more there enough.
          let at = there + length (canonical_expr x) in
          let one = left.reads more there (omega (arith, enough)) in
          let other = right.reads more (at + length (32 ∷ (spelling sign ++ 32 ∷ []))) (omega (arith, enough)) in
          record {
            tokens = _;
            again = tree (at + 1) (make one.again other.again);
            lexed =
                joined-Lexed one.lexed (joined-Lexed (spaced_sign-Lexed at sign) other.lexed (λ after quiet. tt)) (λ after quiet. quiet_at 32 _ refl);
            is = operation.is (nested more) (at + 1) (length (spelling sign)) one.tokens other.tokens one.again other.again one.is other.is;
            same = operation.bare (at + 1) one.again other.again ∙ ap₂ (λ x y. tree 0 (make x y)) one.same other.same;
          };
    })

add_is : (inner : Rule → Form ExprTree) (place len : ℕ) (left right : List Token) (x y : ExprTree) → Factor inner left x → Factor inner right y
    → Disjunction inner (operated signs.Plus left place len right) (tree place (node.Add x y))
unfolding Sum additive_in is_sign
add_is inner place len left right x y one_is other_is =
    let sign = one additive_in (token_at (kinds.Sign signs.Plus) place len) (false, place) refl in
    let next = then _ _ (made _ (λ sign next. (sign, next)) sign) (factor-Term inner right y other_is) in
    sum-Disjunction inner _ _ (chained (Term inner) sum_tree _ _ _ (factor-Term inner left x one_is) (only _ next))

subtract_is : (inner : Rule → Form ExprTree) (place len : ℕ) (left right : List Token) (x y : ExprTree) → Factor inner left x → Factor inner right y
    → Disjunction inner (operated signs.Minus left place len right) (tree place (node.Subtract x y))
unfolding Sum additive_in is_sign
subtract_is inner place len left right x y one_is other_is =
    let sign = one additive_in (token_at (kinds.Sign signs.Minus) place len) (true, place) refl in
    let next = then _ _ (made _ (λ sign next. (sign, next)) sign) (factor-Term inner right y other_is) in
    sum-Disjunction inner _ _ (chained (Term inner) sum_tree _ _ _ (factor-Term inner left x one_is) (only _ next))

multiply_is : (inner : Rule → Form ExprTree) (place len : ℕ) (left right : List Token) (x y : ExprTree) → Factor inner left x → Factor inner right y
    → Disjunction inner (operated signs.Star left place len right) (tree place (node.Multiply x y))
unfolding Term
multiply_is inner place len left right x y one_is other_is =
    let next = then _ _ (made _ (λ place next. (place, next)) (sign_is signs.Star place len)) other_is in
    sum-Disjunction inner _ _ (term-Sum inner _ _ (chained (Factor inner) times_tree _ _ _ one_is (only _ next)))

-- the sign that a comparison is written with
abbrev sign_of : CompareOp → Sign
sign_of ops.Eq = signs.Equal
sign_of ops.NullEq = signs.NullSafeEqual
sign_of ops.Ne = signs.NotEqual
sign_of ops.Lt = signs.Less
sign_of ops.Le = signs.LessEqual
sign_of ops.Gt = signs.Greater
sign_of ops.Ge = signs.GreaterEqual

comparison_of-sign : (op : CompareOp) → comparison_of (kinds.Sign (sign_of op)) ≡ Some op
comparison_of-sign ops.Eq = refl
comparison_of-sign ops.NullEq = refl
comparison_of-sign ops.Ne = refl
comparison_of-sign ops.Lt = refl
comparison_of-sign ops.Le = refl
comparison_of-sign ops.Gt = refl
comparison_of-sign ops.Ge = refl

spelling-sign : (op : CompareOp) → comparison_sign op ≡ spelling (sign_of op)
spelling-sign ops.Eq = refl
spelling-sign ops.NullEq = refl
spelling-sign ops.Ne = refl
spelling-sign ops.Lt = refl
spelling-sign ops.Le = refl
spelling-sign ops.Gt = refl
spelling-sign ops.Ge = refl

compare_is : (op : CompareOp) (inner : Rule → Form ExprTree) (place len : ℕ) (left right : List Token) (x y : ExprTree) → Factor inner left x → Factor inner right y
    → Disjunction inner (operated (sign_of op) left place len right) (tree place (node.Compare op x y))
unfolding Predicate PredicateTail CompareTail
compare_is op inner place len left right x y one_is other_is =
    let told : comparison_in (token_at (kinds.Sign (sign_of op)) place len) ≡ Some (op, place) = rw comparison_of-sign refl in
    let sign = one comparison_in (token_at (kinds.Sign (sign_of op)) place len) (op, place) told in
    let tail = then _ _ (made _ compare_tail sign) (factor-Sum inner right y other_is) in
    predicate-Disjunction inner _ _ (then _ _ (made (Sum inner) predicate_tree (factor-Sum inner left x one_is)) (some _ (first _ _ tail)))

pub fine-Add : (place : ℕ) (x y : ExprTree) → Fine x → Fine y → Fine (tree place (node.Add x y))
fine-Add =
    fine_operation signs.Plus (λ x y. node.Add x y) (record {
      is = add_is;
      written = text-Add;
      bare = bare-Add;
      layer = λ x y. ExprNode-F.Add x y;
      opens = λ x y. node.outs-Add x y;
      short = λ x y. tt;
    })

pub fine-Subtract : (place : ℕ) (x y : ExprTree) → Fine x → Fine y → Fine (tree place (node.Subtract x y))
fine-Subtract =
    fine_operation signs.Minus (λ x y. node.Subtract x y) (record {
      is = subtract_is;
      written = text-Subtract;
      bare = bare-Subtract;
      layer = λ x y. ExprNode-F.Subtract x y;
      opens = λ x y. node.outs-Subtract x y;
      short = λ x y. tt;
    })

pub fine-Multiply : (place : ℕ) (x y : ExprTree) → Fine x → Fine y → Fine (tree place (node.Multiply x y))
fine-Multiply =
    fine_operation signs.Star (λ x y. node.Multiply x y) (record {
      is = multiply_is;
      written = text-Multiply;
      bare = bare-Multiply;
      layer = λ x y. ExprNode-F.Multiply x y;
      opens = λ x y. node.outs-Multiply x y;
      short = λ x y. tt;
    })

pub fine-Compare : (place : ℕ) (op : CompareOp) (x y : ExprTree) → Fine x → Fine y → Fine (tree place (node.Compare op x y))
fine-Compare place op =
    fine_operation (sign_of op) (λ x y. node.Compare op x y) (record {
      is = compare_is op;
      written = λ there x y. text-Compare there op x y ∙ ap (λ sign. operation_text (canonical_expr x) sign (canonical_expr y)) (spelling-sign op);
      bare = λ there. bare-Compare there op;
      layer = λ x y. ExprNode-F.Compare op x y;
      opens = λ x y. node.outs-Compare op x y;
      short = λ x y. tt;
    }) place
