-- The conditions, the groups and the order of a query.
use Rattle.std.proofs.Common.{ℕ, true, false, codes, List, [], ◌∷◌, refl}
use Rattle.sa_lexer.specs.declared.sign.Sign.TheVariants as signs
use Rattle.sa_ast.specs.declared.expression.ExprTree.{ExprTree}
use Rattle.sa_parser.specs.Form.{Form}
use Rattle.sa_parser.specs.inner.Reading.{Reader}
use Rattle.sa_parser.specs.SelectGrammar.{Distinct, Where, Group, Having, Direction, OrderItem, Order}
use Rattle.sa_parser.specs.inner.SelectReading.{distinct, where_part, group, having, direction, order_item_read, order}
use Rattle.sa_parser.proofs.Heads.{only_word, apart, within}
use Rattle.sa_parser.proofs.Law.{Shape}
use Rattle.sa_parser.proofs.Looks.{or-Looks, sees_word-Looks}
use Rattle.sa_parser.proofs.rules.Agrees.{Agrees, word-Agrees, made-Agrees, placed-Agrees, reshaped-Agrees, perhaps-Agrees, then-Agrees, either-Agrees, after-Agrees, commas-Agrees}
use Rattle.sa_parser.proofs.rules.Shapes.{disjunction_shape, predicate_words, after_predicate}

-- A clause that begins with this word and ends with an expression.
abbrev pub clause_shape : List ℕ → Shape
clause_shape word = record {
  opens = only_word word;
  blank = true;
  goes_on = record {
    names = false;
    numbers = false;
    texts = false;
    words = word ∷ codes "ASC" ∷ codes "DESC" ∷ codes "OR" ∷ codes "AND" ∷ predicate_words;
    signs = signs.Comma ∷ signs.AndAnd ∷ after_predicate;
  };
}

-- one of these two words, or none
abbrev pub choice_shape : List ℕ → List ℕ → Shape
choice_shape first second = record {
  opens = record { names = false; numbers = false; texts = false; words = first ∷ second ∷ []; signs = [] };
  blank = true;
  goes_on = record { names = false; numbers = false; texts = false; words = first ∷ second ∷ []; signs = [] };
}

pub distinct-Agrees : {levels : ℕ} → Agrees Distinct Distinct (choice_shape (codes "ALL") (codes "DISTINCT")) levels distinct distinct
unfolding Distinct distinct apart within
distinct-Agrees =
    reshaped-Agrees
    (made-Agrees _
    (perhaps-Agrees (or-Looks (sees_word-Looks (codes "ALL")) (sees_word-Looks (codes "DISTINCT")))
    (either-Agrees (sees_word-Looks (codes "ALL")) (made-Agrees _ (word-Agrees (codes "ALL"))) (made-Agrees _ (word-Agrees (codes "DISTINCT")))
    refl refl refl refl)
    refl refl))
    (choice_shape (codes "ALL") (codes "DISTINCT")) refl refl refl

direction-Agrees : {levels : ℕ} → Agrees Direction Direction (choice_shape (codes "ASC") (codes "DESC")) levels direction direction
unfolding Direction direction apart within
direction-Agrees =
    reshaped-Agrees
    (made-Agrees _
    (perhaps-Agrees (or-Looks (sees_word-Looks (codes "ASC")) (sees_word-Looks (codes "DESC")))
    (either-Agrees (sees_word-Looks (codes "ASC")) (made-Agrees _ (word-Agrees (codes "ASC"))) (made-Agrees _ (word-Agrees (codes "DESC")))
    refl refl refl refl)
    refl refl))
    (choice_shape (codes "ASC") (codes "DESC")) refl refl refl

-- what stands in an order
abbrev ordered_shape : Shape
ordered_shape = record {
  opens = disjunction_shape.opens;
  blank = false;
  goes_on = record {
    names = false;
    numbers = false;
    texts = false;
    words = codes "ASC" ∷ codes "DESC" ∷ codes "OR" ∷ codes "AND" ∷ predicate_words;
    signs = signs.AndAnd ∷ after_predicate;
  };
}

module _ {Expr Wide : Form ExprTree} {levels : ℕ} {read deeper : Reader ExprTree} (expr : Agrees Expr Wide disjunction_shape levels read deeper) where
  pub where-Agrees : Agrees (Where Expr) (Where Wide) (clause_shape (codes "WHERE")) levels (where_part read) (where_part deeper)
  unfolding Where where_part apart within
  where-Agrees =
      reshaped-Agrees (perhaps-Agrees (sees_word-Looks (codes "WHERE")) (after-Agrees (codes "WHERE") expr) refl refl)
      (clause_shape (codes "WHERE")) refl refl refl

  pub group-Agrees : Agrees (Group Expr) (Group Wide) (clause_shape (codes "GROUP")) levels (group read) (group deeper)
  unfolding Group group apart within
  group-Agrees =
      reshaped-Agrees
      (made-Agrees _
      (perhaps-Agrees (sees_word-Looks (codes "GROUP"))
      (then-Agrees (then-Agrees (made-Agrees _ (word-Agrees (codes "GROUP"))) (word-Agrees (codes "BY")) refl)
      (commas-Agrees (placed-Agrees _ expr refl) refl) refl)
      refl refl))
      (clause_shape (codes "GROUP")) refl refl refl

  pub having-Agrees : Agrees (Having Expr) (Having Wide) (clause_shape (codes "HAVING")) levels (having read) (having deeper)
  unfolding Having having apart within
  having-Agrees =
      reshaped-Agrees
      (perhaps-Agrees (sees_word-Looks (codes "HAVING")) (then-Agrees (made-Agrees _ (word-Agrees (codes "HAVING"))) expr refl) refl refl)
      (clause_shape (codes "HAVING")) refl refl refl

  order_item-Agrees : Agrees (OrderItem Expr) (OrderItem Wide) ordered_shape levels (order_item_read read) (order_item_read deeper)
  unfolding OrderItem order_item_read apart within
  order_item-Agrees = reshaped-Agrees (placed-Agrees _ (then-Agrees (made-Agrees _ expr) direction-Agrees refl) refl) ordered_shape refl refl refl

  pub order-Agrees : Agrees (Order Expr) (Order Wide) (clause_shape (codes "ORDER")) levels (order read) (order deeper)
  unfolding Order order apart within
  order-Agrees =
      reshaped-Agrees
      (made-Agrees _
      (perhaps-Agrees (sees_word-Looks (codes "ORDER"))
      (then-Agrees (then-Agrees (made-Agrees _ (word-Agrees (codes "ORDER"))) (word-Agrees (codes "BY")) refl)
      (commas-Agrees order_item-Agrees refl) refl)
      refl refl))
      (clause_shape (codes "ORDER")) refl refl refl
