-- Statements of a session are read back.
use Rattle.std.proofs.Common.{ℕ, suc, [], codes, None, refl, ap}
use Rattle.std.proofs.Math.Nat.{le_refl}
use Rattle.sa_lexer.specs.declared.sign.Sign.TheVariants as signs
use Rattle.sa_ast.specs.declared.select.SelectTree.{SelectTree}
use Rattle.sa_ast.specs.declared.statement.Statement.{Statement}
use Rattle.sa_ast.specs.declared.statement.Statement.TheVariants as said
use Rattle.sa_ast.specs.Place.{unplaced}
use Rattle.sa_print.specs.Statement.{canonical_statement}
use Rattle.sa_parser.specs.Form.{Word}
use Rattle.sa_parser.specs.StatementGrammar.{Format, Explain, Analyze, TraceRows, statement}
use Rattle.sa_parser.proofs.canonical_text.Build.{made, then, first, second, nothing}
use Rattle.sa_parser.proofs.canonical_text.Fine.{Reads}
use Rattle.sa_parser.proofs.canonical_text.Lexed.{Quiet, quiet_at, joined-Lexed}
use Rattle.sa_parser.proofs.canonical_text.Pieces.{word-Lexed, word_space-Lexed, spaced_word-Lexed, star-Lexed, dot-Lexed}
use Rattle.sa_parser.proofs.canonical_text.Query.{IsQuery, query_levels, query_reads}
use Rattle.sa_parser.proofs.canonical_text.Tokens.{word_is, sign_is}

-- A statement is read back from its text.
pub record IsSaid (tree : Statement) : Type 0 where
  pub levels : ℕ
  pub reads : Reads (statement levels) unplaced Quiet 0 (canonical_statement tree) (unplaced tree)

-- `FORMAT` is left out
pub no_format : Format [] None
unfolding Format
no_format = nothing _

-- the query for the last trace

pub said-TraceRows : IsSaid said.TraceRows
unfolding TraceRows statement
said-TraceRows =
    let select = made (Word (codes "SELECT")) (λ _ _ _ _ _ _. said.TraceRows) (word_is (codes "SELECT") 0 6) in
    let from = then _ _ (then _ _ select (sign_is signs.Star 7 1)) (word_is (codes "FROM") 9 4) in
    let schema = then _ _ from (word_is (codes "information_schema") 14 18) in
    let table = then _ _ (then _ _ schema (sign_is signs.Dot 32 1)) (word_is (codes "optimizer_trace") 33 15) in
    let head = joined-Lexed (joined-Lexed (word_space-Lexed 0 (codes "SELECT") refl) (star-Lexed 7) (λ after free. tt)) (spaced_word-Lexed 8 (codes "FROM") refl) (λ after free. tt) in
    let dotted = joined-Lexed (joined-Lexed head (word-Lexed 14 (codes "information_schema") refl) (λ after quiet. tt)) (dot-Lexed 32) (λ after free. quiet_at 46 _ refl) in
    record {
      levels = 0;
      reads = record {
        tokens = _;
        again = said.TraceRows;
        lexed = joined-Lexed dotted (word-Lexed 33 (codes "optimizer_trace") refl) (λ after quiet. tt);
        is = first _ _ table;
        same = refl;
      };
    }

-- queries

pub said-Select : (tree : SelectTree) → IsQuery tree → IsSaid (said.Select tree)
unfolding statement
said-Select tree is =
    let deep = query_levels tree is in
    let query = query_reads tree is deep 0 (le_refl deep) in
    record {
      levels = suc deep;
      reads = record {
        tokens = query.tokens;
        again = said.Select query.again;
        lexed = query.lexed;
        is = second _ _ (first _ _ (made _ (λ tree. said.Select tree) query.is));
        same = ap (λ tree. said.Select tree) query.same;
      };
    }

pub said-Explain : (tree : SelectTree) → IsQuery tree → IsSaid (said.Explain tree)
unfolding statement Explain
said-Explain tree is =
    let deep = query_levels tree is in
    let query = query_reads tree is deep 8 (le_refl deep) in
    let head = then _ _ (made (Word (codes "EXPLAIN")) (λ _ _ statement. statement) (word_is (codes "EXPLAIN") 0 7)) no_format in
    record {
      levels = suc deep;
      reads = record {
        tokens = _;
        again = said.Explain query.again;
        lexed = joined-Lexed (word_space-Lexed 0 (codes "EXPLAIN") refl) query.lexed (λ after quiet. tt);
        is = second _ _ (second _ _ (first _ _ (then _ _ head (second _ _ (made _ (λ tree. said.Explain tree) query.is)))));
        same = ap (λ tree. said.Explain tree) query.same;
      };
    }

pub said-Analyze : (tree : SelectTree) → IsQuery tree → IsSaid (said.Analyze tree)
unfolding statement Analyze
said-Analyze tree is =
    let deep = query_levels tree is in
    let query = query_reads tree is deep 8 (le_refl deep) in
    let head = then _ _ (made (Word (codes "ANALYZE")) (λ _ _ tree. said.Analyze tree) (word_is (codes "ANALYZE") 0 7)) no_format in
    record {
      levels = suc deep;
      reads = record {
        tokens = _;
        again = said.Analyze query.again;
        lexed = joined-Lexed (word_space-Lexed 0 (codes "ANALYZE") refl) query.lexed (λ after quiet. tt);
        is = second _ _ (second _ _ (second _ _ (first _ _ (then _ _ head query.is))));
        same = ap (λ tree. said.Analyze tree) query.same;
      };
    }
