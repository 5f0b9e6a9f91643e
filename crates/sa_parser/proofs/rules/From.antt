-- The tables that a query reads.
use Rattle.std.proofs.Common.{ℕ, true, false, codes, List, [], ◌∷◌, refl}
use Rattle.sa_lexer.specs.declared.sign.Sign.TheVariants as signs
use Rattle.sa_ast.specs.declared.expression.ExprTree.{ExprTree}
use Rattle.sa_lexer.specs.Reserved.{is_reserved}
use Rattle.sa_parser.specs.Form.{Form}
use Rattle.sa_parser.specs.inner.Reading.{Reader}
use Rattle.sa_parser.specs.SelectGrammar.{Table, Join, Joined, Tables}
use Rattle.sa_parser.specs.inner.SelectReading.{table, join, joined, tables, sees_join}
use Rattle.sa_parser.proofs.Heads.{Heads, only_names, apart, within}
use Rattle.sa_parser.proofs.Law.{Shape}
use Rattle.sa_parser.proofs.Looks.{Looks, or-Looks, sees_word-Looks, sees_sign-Looks}
use Rattle.sa_parser.proofs.laws.One.{one_shape}
use Rattle.sa_parser.proofs.rules.Agrees.{Agrees, word-Agrees, name-Agrees, sign-Agrees, made-Agrees, reshaped-Agrees, perhaps-Agrees, then-Agrees, either-Agrees, chain-Agrees, after-Agrees}
use Rattle.sa_parser.proofs.rules.Alias.{alias_heads, alias-Agrees}
use Rattle.sa_parser.proofs.rules.Shapes.{disjunction_shape, predicate_words, after_predicate}

abbrev joins : Heads
joins = record { names = false; numbers = false; texts = false; words = codes "INNER" ∷ codes "CROSS" ∷ codes "JOIN" ∷ []; signs = [] }

-- An alias, a further table, and a condition that goes on.
abbrev pub behind_table : List (List ℕ)
behind_table = codes "AS" ∷ codes "INNER" ∷ codes "CROSS" ∷ codes "JOIN" ∷ codes "ON" ∷ codes "OR" ∷ codes "AND" ∷ predicate_words

abbrev joined_shape : Shape
joined_shape = record {
  opens = only_names;
  blank = false;
  goes_on = record { names = true; numbers = false; texts = false; words = behind_table; signs = signs.AndAnd ∷ after_predicate };
}

abbrev pub tables_shape : Shape
tables_shape = record {
  opens = only_names;
  blank = false;
  goes_on = record { names = true; numbers = false; texts = false; words = behind_table; signs = signs.Comma ∷ signs.AndAnd ∷ after_predicate };
}

abbrev table_shape : Shape
table_shape = record { opens = only_names; blank = false; goes_on = alias_heads }

pub table-Agrees : {levels : ℕ} → Agrees Table Table table_shape levels table table
unfolding Table table apart within
table-Agrees = reshaped-Agrees (then-Agrees (made-Agrees _ name-Agrees) alias-Agrees refl) table_shape refl refl refl

pub join-Agrees : {levels : ℕ} → Agrees Join Join (one_shape joins) levels join join
unfolding Join join apart within
join-Agrees =
    then-Agrees
    (made-Agrees _
    (perhaps-Agrees (or-Looks (sees_word-Looks (codes "INNER")) (sees_word-Looks (codes "CROSS")))
    (either-Agrees (sees_word-Looks (codes "INNER")) (word-Agrees (codes "INNER")) (word-Agrees (codes "CROSS")) refl refl refl refl) refl refl))
    (word-Agrees (codes "JOIN")) refl

pub sees_join-Looks : Looks joins sees_join
sees_join-Looks = or-Looks (or-Looks (sees_word-Looks (codes "INNER")) (sees_word-Looks (codes "CROSS"))) (sees_word-Looks (codes "JOIN"))

module _ {Expr Wide : Form ExprTree} {levels : ℕ} {read deeper : Reader ExprTree} (expr : Agrees Expr Wide disjunction_shape levels read deeper) where
  pub joined-Agrees : Agrees (Joined Expr) (Joined Wide) joined_shape levels (joined read) (joined deeper)
  unfolding Joined joined apart within is_reserved
  joined-Agrees =
      reshaped-Agrees
      (chain-Agrees _ sees_join-Looks (made-Agrees _ table-Agrees)
      (then-Agrees (then-Agrees (made-Agrees _ join-Agrees) table-Agrees refl)
      (perhaps-Agrees (sees_word-Looks (codes "ON")) (after-Agrees (codes "ON") expr) refl refl) refl)
      refl refl refl refl)
      joined_shape refl refl refl

  pub tables-Agrees : Agrees (Tables Expr) (Tables Wide) tables_shape levels (tables read) (tables deeper)
  unfolding Tables tables apart within
  tables-Agrees =
      reshaped-Agrees
      (chain-Agrees _ (sees_sign-Looks signs.Comma) joined-Agrees
      (then-Agrees (made-Agrees _ (sign-Agrees signs.Comma)) joined-Agrees refl) refl refl refl refl)
      tables_shape refl refl refl
