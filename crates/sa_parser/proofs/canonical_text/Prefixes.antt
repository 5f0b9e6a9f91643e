-- Expressions with a minus or NOT before them are read back.
use Rattle.std.proofs.Common.{◌≡◌, ℕ, zero, suc, ◌+◌, ◌≤◌, false, ◌∷◌, ◌++◌, codes, refl, ap, ◌∙◌, arith}
use Rattle.std.proofs.lemmas.Bool.{true≢false}
use Rattle.sa_lexer.specs.declared.sign.Sign.TheVariants as signs
use Rattle.sa_ast.specs.declared.expression.ExprNode.{ExprNode, ExprNode-F}
use Rattle.sa_ast.specs.declared.expression.ExprNode.TheVariants as node
use Rattle.sa_ast.specs.declared.expression.ExprTree.{ExprTree}
use Rattle.sa_ast.specs.Place.{unplaced_expr}
use Rattle.sa_print.specs.Expression.{canonical_expr}
use Rattle.sa_parser.specs.Tree.{tree, minus_node, minus_tree, not_tree}
use Rattle.sa_parser.specs.ExprGrammar.{Factor, Negation, Disjunction, nested}
use Rattle.sa_parser.proofs.canonical_text.Build.{made, then, first}
use Rattle.sa_parser.proofs.canonical_text.Fine.{Reads, Fine, is_number, layer_of, number-unplaced}
use Rattle.sa_parser.proofs.canonical_text.Inside.{fine_inside}
use Rattle.sa_parser.proofs.canonical_text.Lexed.{Quiet, joined-Lexed}
use Rattle.sa_parser.proofs.canonical_text.Lift.{factor-Sum, sum-Disjunction, factor-Negation, negation-Disjunction}
use Rattle.sa_parser.proofs.canonical_text.Nodes.{text-Negate, text-Not, bare-Negate, bare-Not}
use Rattle.sa_parser.proofs.canonical_text.Pieces.{minus-Lexed, word_space-Lexed}
use Rattle.sa_parser.proofs.canonical_text.Tokens.{sign_is, word_is}

negates : (x : ExprTree) (layer : ExprNode-F ExprNode ExprTree) → is_number layer ≡ false → minus_node x layer ≡ node.Negate x
negates x (ExprNode-F.Number number) other = absurd (true≢false other)
negates x _ other = refl

-- a minus before anything but a number
minus-other : (place : ℕ) (x : ExprTree) → is_number (layer_of x) ≡ false → minus_tree place x ≡ tree place (node.Negate x)
unfolding minus_tree
minus-other place x other = ap (tree place) (negates x (layer_of x) other)

module _ (x : ExprTree) (is : Fine x) where
  negate_reads : is_number (layer_of x) ≡ false → (more place : ℕ) → suc is.levels ≤ more
      → Reads (Disjunction (nested more)) unplaced_expr Quiet place (45 ∷ canonical_expr x) (tree 0 (node.Negate (unplaced_expr x)))
  unfolding Factor nested
  negate_reads other zero place enough = absurd (omega (arith, enough))
  negate_reads other (suc more) place enough =
      let inner = is.reads more (place + 1) (omega (arith, enough)) in
      let factor = first _ _ (then _ _ (made _ minus_tree (sign_is signs.Minus place 1)) inner.is) in
      let same : minus_tree place inner.again ≡ tree place (node.Negate inner.again) =
      minus-other place inner.again (number-unplaced inner.again x inner.same ∙ other) in
      record {
        tokens = _;
        again = minus_tree place inner.again;
        lexed = joined-Lexed (minus-Lexed place) inner.lexed (λ after quiet. is.begins other after);
        is = sum-Disjunction (nested (suc more)) _ _ (factor-Sum (nested (suc more)) _ _ factor);
        same = ap unplaced_expr same ∙ bare-Negate place inner.again ∙ ap (λ some. tree 0 (node.Negate some)) inner.same;
      }

  pub fine-Negate : (place : ℕ) → is_number (layer_of x) ≡ false → Fine (tree place (node.Negate x))
  fine-Negate place other =
      fine_inside place (node.Negate x) (record {
        layer = ExprNode-F.Negate x;
        opens = node.outs-Negate x;
        text = 45 ∷ canonical_expr x;
        written = λ there. text-Negate there x;
        value = tree 0 (node.Negate (unplaced_expr x));
        bare = λ there. bare-Negate there x;
        short = tt;
        levels = suc is.levels;
        reads = negate_reads other;
      })

  not_reads : (more place : ℕ) → suc is.levels ≤ more
      → Reads (Disjunction (nested more)) unplaced_expr Quiet place (codes "NOT " ++ canonical_expr x) (tree 0 (node.Not (unplaced_expr x)))
  unfolding Negation nested
  not_reads zero place enough = absurd (omega (arith, enough))
  not_reads (suc more) place enough =
      let inner = is.reads more (place + 4) (omega (arith, enough)) in
      let argument = factor-Negation (nested more) inner.tokens inner.again inner.is in
      let negation = first _ _ (then _ _ (made _ not_tree (word_is (codes "NOT") place 3)) argument) in
      record {
        tokens = _;
        again = tree place (node.Not inner.again);
        lexed = joined-Lexed (word_space-Lexed place (codes "NOT") refl) inner.lexed (λ after quiet. tt);
        is = negation-Disjunction (nested (suc more)) _ _ negation;
        same = bare-Not place inner.again ∙ ap (λ some. tree 0 (node.Not some)) inner.same;
      }

  pub fine-Not : (place : ℕ) → Fine (tree place (node.Not x))
  fine-Not place =
      fine_inside place (node.Not x) (record {
        layer = ExprNode-F.Not x;
        opens = node.outs-Not x;
        text = codes "NOT " ++ canonical_expr x;
        written = λ there. text-Not there x;
        value = tree 0 (node.Not (unplaced_expr x));
        bare = λ there. bare-Not there x;
        short = tt;
        levels = suc is.levels;
        reads = not_reads;
      })
