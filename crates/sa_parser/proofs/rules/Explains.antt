-- EXPLAIN and ANALYZE of a query.
use Rattle.std.proofs.Common.{ℕ, false, codes, List, refl}
use Rattle.sa_ast.specs.declared.expression.ExprTree.{ExprTree}
use Rattle.sa_parser.specs.Form.{Form}
use Rattle.sa_parser.specs.inner.Reading.{Reader}
use Rattle.sa_parser.specs.SelectGrammar.{Select}
use Rattle.sa_parser.specs.inner.SelectReading.{select}
use Rattle.sa_parser.specs.StatementGrammar.{Explain, Analyze}
use Rattle.sa_parser.specs.inner.StatementReading.{explain, for_connection, analyze}
use Rattle.sa_parser.proofs.Heads.{Heads, only_word, apart, within}
use Rattle.sa_parser.proofs.Law.{Shape}
use Rattle.sa_parser.proofs.Looks.{sees_word-Looks}
use Rattle.sa_parser.proofs.rules.Agrees.{word-Agrees, made-Agrees, then-Agrees}
use Rattle.sa_parser.proofs.rules.AgreesIf.{AgreesIf, always-AgreesIf, made-AgreesIf, then-AgreesIf, either-AgreesIf}
use Rattle.sa_parser.proofs.rules.Commands.{format-Agrees}
use Rattle.sa_parser.proofs.rules.Numbers.{any_number-Agrees}

-- a statement that begins with this word and may end with a query
abbrev pub query_shape : List ℕ → Heads → Shape
query_shape text following = record { opens = only_word text; blank = false; goes_on = following }

module _ {Sure : Type 0} (Expr WideExpr : Form ExprTree) (expr deeper : Reader ExprTree) {following : Heads} {levels : ℕ}
    (query : AgreesIf Sure (Select Expr) (Select WideExpr) (query_shape (codes "SELECT") following) levels (select expr) (select deeper)) where
  pub explain-AgreesIf : AgreesIf Sure (Explain Expr) (Explain WideExpr) (query_shape (codes "EXPLAIN") following) levels (explain expr) (explain deeper)
  unfolding Explain explain for_connection apart within
  explain-AgreesIf =
      then-AgreesIf (always-AgreesIf (then-Agrees (made-Agrees _ (word-Agrees (codes "EXPLAIN"))) format-Agrees refl))
      (either-AgreesIf (sees_word-Looks (codes "FOR"))
      (always-AgreesIf
      (then-Agrees (then-Agrees (made-Agrees _ (word-Agrees (codes "FOR"))) (word-Agrees (codes "CONNECTION")) refl) any_number-Agrees refl))
      (made-AgreesIf _ query) refl refl refl refl)
      refl

  pub analyze-AgreesIf : AgreesIf Sure (Analyze Expr) (Analyze WideExpr) (query_shape (codes "ANALYZE") following) levels (analyze expr) (analyze deeper)
  unfolding Analyze analyze apart within
  analyze-AgreesIf =
      then-AgreesIf (always-AgreesIf (then-Agrees (made-Agrees _ (word-Agrees (codes "ANALYZE"))) format-Agrees refl)) query refl
