-- What makes a predicate of a sum.
use Rattle.std.proofs.Common.{ℕ, suc, false, codes, [], refl}
use Rattle.sa_ast.specs.declared.expression.ExprTree.{ExprTree}
use Rattle.sa_parser.specs.declared.rule.Rule.{Rule}
use Rattle.sa_parser.specs.Form.{Form}
use Rattle.sa_parser.specs.inner.Reading.{Reader}
use Rattle.sa_parser.specs.Tree.{comparison_in}
use Rattle.sa_parser.specs.ExprGrammar.{CompareTail, NullTail, BetweenTail, AmongTail, PredicateTail}
use Rattle.sa_parser.specs.inner.ExprReading.{compare_part, null_part, between_part, among_part, range_part, predicate_part}
use Rattle.sa_parser.proofs.Heads.{Heads, only_word, apart, within}
use Rattle.sa_parser.proofs.Law.{Shape}
use Rattle.sa_parser.proofs.Looks.{sees_word-Looks}
use Rattle.sa_parser.proofs.laws.One.{one_shape}
use Rattle.sa_parser.proofs.rules.Agrees.{Agrees, one-Agrees, word-Agrees, made-Agrees, reshaped-Agrees, perhaps-Agrees, then-Agrees, either-Agrees, brackets-Agrees, commas-Agrees}
use Rattle.sa_parser.proofs.rules.Atoms.{comparisons, comparison-Law, sees_comparison-Looks}
use Rattle.sa_parser.proofs.rules.Shapes.{Inside, tail_shape, after_sum}
use Rattle.sa_parser.proofs.rules.Sum.{sum-Agrees}

-- a tail that begins with these and ends with a sum
abbrev sum_tail : Heads → Shape
sum_tail opens = record {
  opens = opens;
  blank = false;
  goes_on = record { names = false; numbers = false; texts = false; words = []; signs = after_sum };
}

null-Agrees : {levels : ℕ} → Agrees NullTail NullTail (one_shape (only_word (codes "IS"))) levels null_part null_part
unfolding NullTail null_part apart within
null-Agrees =
    then-Agrees
    (then-Agrees (made-Agrees _ (word-Agrees (codes "IS")))
    (perhaps-Agrees (sees_word-Looks (codes "NOT")) (word-Agrees (codes "NOT")) refl refl) refl)
    (word-Agrees (codes "NULL")) refl

module _ {inner wide : Rule → Form ExprTree} {levels : ℕ} {read deeper : Rule → Reader ExprTree} (inside : Inside inner wide levels read deeper) where
  compare-Agrees : Agrees (CompareTail inner) (CompareTail wide) (sum_tail comparisons) (suc levels) (compare_part read) (compare_part deeper)
  unfolding CompareTail compare_part apart within
  compare-Agrees = then-Agrees (made-Agrees _ (one-Agrees comparison_in comparison-Law)) (sum-Agrees inside) refl

  between-Agrees : Agrees (BetweenTail inner) (BetweenTail wide) (sum_tail (only_word (codes "BETWEEN"))) (suc levels) (between_part read) (between_part deeper)
  unfolding BetweenTail between_part apart within
  between-Agrees =
      then-Agrees
      (then-Agrees (then-Agrees (made-Agrees _ (word-Agrees (codes "BETWEEN"))) (sum-Agrees inside) refl) (word-Agrees (codes "AND")) refl)
      (sum-Agrees inside) refl

  among-Agrees : Agrees (AmongTail inner) (AmongTail wide) (one_shape (only_word (codes "IN"))) (suc levels) (among_part read) (among_part deeper)
  unfolding AmongTail among_part apart within
  among-Agrees =
      then-Agrees (made-Agrees _ (word-Agrees (codes "IN"))) (brackets-Agrees (commas-Agrees (sum-Agrees inside) refl) refl) refl

  pub tail-Agrees : Agrees (PredicateTail inner) (PredicateTail wide) tail_shape (suc levels) (predicate_part read) (predicate_part deeper)
  unfolding PredicateTail predicate_part range_part apart within
  tail-Agrees =
      reshaped-Agrees
      (either-Agrees sees_comparison-Looks compare-Agrees
      (either-Agrees (sees_word-Looks (codes "IS")) null-Agrees
      (then-Agrees
      (made-Agrees _ (perhaps-Agrees (sees_word-Looks (codes "NOT")) (word-Agrees (codes "NOT")) refl refl))
      (either-Agrees (sees_word-Looks (codes "BETWEEN")) between-Agrees among-Agrees refl refl refl refl) refl)
      refl refl refl refl)
      refl refl refl refl)
      tail_shape refl refl refl
