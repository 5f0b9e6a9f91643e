-- No query passes for the name of the trace, unless a dot stands behind it.
use Rattle.std.proofs.Common.{ℕ, Bool, codes, List, [], ◌∷◌, refl}
use Rattle.sa_lexer.specs.declared.sign.Sign.TheVariants as signs
use Rattle.sa_lexer.specs.declared.token.TokenKind.{TokenKind}
use Rattle.sa_ast.specs.declared.expression.ExprTree.{ExprTree}
use Rattle.sa_lexer.specs.Reserved.{is_reserved}
use Rattle.sa_parser.specs.Form.{Form}
use Rattle.sa_parser.specs.inner.Reading.{Reader}
use Rattle.sa_parser.specs.SelectGrammar.{Distinct, Item, Table, Joined, Tables, Select}
use Rattle.sa_parser.proofs.Heads.{Heads, only_word, only_sign, apart, within, has}
use Rattle.sa_parser.proofs.Looks.{sees_word-Looks}
use Rattle.sa_parser.proofs.LooksAhead.{Fails}
use Rattle.sa_parser.proofs.laws.Begins.{word-Suffices, sign-Suffices, made-Suffices, then-Suffices, first-Suffices, none-Suffices, no_parts-Suffices}
use Rattle.sa_parser.proofs.laws.Exactly.{name-Exactly, made-Exactly}
use Rattle.sa_parser.proofs.laws.Fails.{made-Fails, then-Fails}
use Rattle.sa_parser.proofs.rules.Agrees.{Agrees, word-Agrees, sign-Agrees, made-Agrees, then-Agrees, perhaps-Agrees, after-Agrees}
use Rattle.sa_parser.proofs.rules.AgreesIf.{always-AgreesIf, then-AgreesIf, commas-AgreesIf}
use Rattle.sa_parser.proofs.rules.Alias.{alias-Agrees}
use Rattle.sa_parser.proofs.rules.Clauses.{distinct-Agrees, where-Agrees, group-Agrees, having-Agrees, order-Agrees}
use Rattle.sa_parser.proofs.rules.From.{table-Agrees, join-Agrees, joined-Agrees}
use Rattle.sa_parser.proofs.rules.Item.{item-AgreesIf}
use Rattle.sa_parser.proofs.rules.Limit.{limit-Agrees}
use Rattle.sa_parser.proofs.rules.Prefix.{opens-Fails, behind-Fails, chain-Fails}
use Rattle.sa_parser.proofs.rules.Refuses.{Refuses, then_first-Fails}
use Rattle.sa_parser.proofs.rules.Shapes.{disjunction_shape}
use Rattle.sa_parser.proofs.rules.TableStar.{table_star}
use Rattle.sa_parser.proofs.rules.TraceRows.{trace_tests}

abbrev dot : Heads
dot = only_sign signs.Dot

-- the name of a table, up to a dot
abbrev schema_tests : List (TokenKind → Bool)
schema_tests = has (only_word (codes "information_schema")) ∷ has dot ∷ []

table-Fails : Fails schema_tests dot Table
unfolding Table apart within
table-Fails =
    then-Fails (has (only_word (codes "information_schema")) ∷ []) (made-Exactly _ name-Exactly) refl
    (opens-Fails dot [] dot (alias-Agrees {levels = 0}).law refl refl)

module _ {Expr Wide : Form ExprTree} {levels : ℕ} {read deeper : Reader ExprTree} (expr : Agrees Expr Wide disjunction_shape levels read deeper)
    (refuses : Refuses table_star read) where
  tables-Fails : Fails schema_tests dot (Tables Expr)
  unfolding Tables Joined apart within is_reserved
  tables-Fails =
      let further = then-Agrees (made-Agrees _ (sign-Agrees signs.Comma)) (joined-Agrees expr) refl in
      let another =
      then-Agrees (then-Agrees (made-Agrees _ join-Agrees) table-Agrees refl)
      (perhaps-Agrees (sees_word-Looks (codes "ON")) (after-Agrees (codes "ON") expr) refl refl) refl in
      chain-Fails further.law refl dot refl _ (chain-Fails another.law refl dot refl _ (made-Fails _ table-Fails))

  pub trace_query-Fails : Fails trace_tests dot (Select Expr)
  unfolding Select Distinct Item apart is_reserved
  trace_query-Fails =
      let begins = always-AgreesIf (then-Agrees (made-Agrees _ (word-Agrees (codes "SELECT"))) distinct-Agrees refl) in
      let chosen = then-AgreesIf begins (commas-AgreesIf (item-AgreesIf expr refuses) refl) refl in
      let from = then-AgreesIf chosen (always-AgreesIf (word-Agrees (codes "FROM"))) refl in
      let suffices =
      then-Suffices
      (then-Suffices (then-Suffices (made-Suffices _ (word-Suffices (codes "SELECT"))) (made-Suffices _ (none-Suffices _)))
      (then-Suffices (made-Suffices _ (made-Suffices _ (first-Suffices _ (made-Suffices _ (sign-Suffices signs.Star))))) (no_parts-Suffices _)))
      (word-Suffices (codes "FROM")) in
      then_first-Fails
      (then_first-Fails
      (then_first-Fails
      (then_first-Fails (then_first-Fails (behind-Fails from.law suffices tables-Fails) (where-Agrees expr).law refl) (group-Agrees expr).law refl)
      (having-Agrees expr).law refl)
      (order-Agrees expr).law refl)
      (limit-Agrees {levels = 0}).law refl
