-- A query over any form of expressions.
use Rattle.std.proofs.Common.{ℕ, suc, true, false, codes, List, [], ◌∷◌, ◌++◌, refl}
use Rattle.sa_lexer.specs.declared.sign.Sign.TheVariants as signs
use Rattle.sa_ast.specs.declared.expression.ExprTree.{ExprTree}
use Rattle.sa_lexer.specs.Reserved.{is_reserved}
use Rattle.sa_parser.specs.Form.{Form}
use Rattle.sa_parser.specs.inner.Reading.{Reader}
use Rattle.sa_parser.specs.SelectGrammar.{Select}
use Rattle.sa_parser.specs.inner.SelectReading.{select}
use Rattle.sa_parser.proofs.Heads.{only_word, apart, within}
use Rattle.sa_parser.proofs.Law.{Shape}
use Rattle.sa_parser.proofs.LooksAhead.{Suffices}
use Rattle.sa_parser.proofs.rules.Agrees.{Agrees, word-Agrees, made-Agrees, then-Agrees}
use Rattle.sa_parser.proofs.rules.AgreesIf.{AgreesIf, always-AgreesIf, reshaped-AgreesIf, then-AgreesIf_inside, commas-AgreesIf}
use Rattle.sa_parser.proofs.rules.Clauses.{distinct-Agrees, where-Agrees, group-Agrees, having-Agrees, order-Agrees}
use Rattle.sa_parser.proofs.rules.From.{behind_table, tables-Agrees}
use Rattle.sa_parser.proofs.rules.Item.{dotted, item-AgreesIf}
use Rattle.sa_parser.proofs.rules.Limit.{limit-Agrees}
use Rattle.sa_parser.proofs.rules.Refuses.{Refuses}
use Rattle.sa_parser.proofs.rules.Shapes.{disjunction_shape, after_predicate}
use Rattle.sa_parser.proofs.rules.TableStar.{table_star}

abbrev pub clause_words : List (List ℕ)
clause_words = codes "WHERE" ∷ codes "GROUP" ∷ codes "HAVING" ∷ codes "ORDER" ∷ codes "ASC" ∷ codes "DESC" ∷ codes "LIMIT" ∷ codes "OFFSET" ∷ []

abbrev pub select_shape : Shape
select_shape = record {
  opens = only_word (codes "SELECT");
  blank = false;
  goes_on = record {
    names = true;
    numbers = false;
    texts = false;
    words = clause_words ++ behind_table;
    signs = signs.Comma ∷ signs.AndAnd ∷ after_predicate;
  };
}

module _ {Expr Wide : Form ExprTree} {levels : ℕ} {read deeper : Reader ExprTree} (expr : Agrees Expr Wide disjunction_shape levels read deeper)
    (refuses : Refuses table_star read) where
  -- SELECT stands before any expression, so a query is kept one level further. It looks one token ahead if two names
  -- with a dot between them are an expression.
  pub select-AgreesIf : AgreesIf (Suffices dotted Expr) (Select Expr) (Select Wide) select_shape (suc levels) (select read) (select deeper)
  unfolding Select select apart within is_reserved
  select-AgreesIf =
      let begins = always-AgreesIf (then-Agrees (made-Agrees _ (word-Agrees (codes "SELECT"))) distinct-Agrees refl) in
      let chosen = then-AgreesIf_inside begins (commas-AgreesIf (item-AgreesIf expr refuses) refl) refl refl in
      let from = then-AgreesIf_inside (then-AgreesIf_inside chosen (always-AgreesIf (word-Agrees (codes "FROM"))) refl refl) (always-AgreesIf (tables-Agrees expr)) refl refl in
      let filtered = then-AgreesIf_inside from (always-AgreesIf (where-Agrees expr)) refl refl in
      let grouped = then-AgreesIf_inside filtered (always-AgreesIf (group-Agrees expr)) refl refl in
      let kept = then-AgreesIf_inside grouped (always-AgreesIf (having-Agrees expr)) refl refl in
      let ordered = then-AgreesIf_inside kept (always-AgreesIf (order-Agrees expr)) refl refl in
      reshaped-AgreesIf (then-AgreesIf_inside ordered (always-AgreesIf limit-Agrees) refl refl) select_shape refl refl refl
