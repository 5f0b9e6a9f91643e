use Rattle.std.proofs.Common.{◌≡◌, ℕ, ◌∷◌, [], List, sym, ◌∙◌, arith}
use Rattle.sa_range.specs.declared.line.Piece.{Piece}
use Rattle.sa_range.specs.Atom.{piece_at}
use Rattle.sa_range.specs.inner.Placed.{chosen_at}
use Rattle.sa_range.proofs.Choosing.{at_further, at_last, not_last, past_columns, past_points}
use Rattle.sa_range.proofs.chosen.Chosen.piece_at.Goals as goal
use Rattle.sa_range.proofs.chosen.Chosen.piece_at.Goals.{then-loop-index-test+else-index-points, else-loop-index-test}

pub loop-index-preserved : goal.loop-index-preserved
loop-index-preserved c =
    at_further c.args.self.now.columns.now c.args.self.now.points.now ((c.args.self.now.column, c.args.self.now.piece.now) ∷ []) c.args.column c.loop-index.index
    0 c.args.self.now.piece.now (omega arith) (omega arith) c.if-columns-index.false
    ∙ c.loop-index.invariant

pub returns-then-self-column : goal.returns-then-self-column
returns-then-self-column c =
    let last : List (ℕ × Piece) = (c.args.self.now.column, c.args.self.now.piece.now) ∷ [] in
    let all : piece_at c.args.column last ≡ piece_at c.args.column (chosen_at c.args.self.now) =
    elim c.loop-index-test.branch [
      | then-loop-index-test+else-index-points w ↦ sym (past_points c.args.self.now.columns.now c.args.self.now.points.now last c.args.column c.loop-index.index (omega (arith, w.if-index-points.false))) ∙ c.loop-index.invariant
      | else-loop-index-test w ↦ sym (past_columns c.args.self.now.columns.now c.args.self.now.points.now last c.args.column c.loop-index.index (omega (arith, w.loop-index-test.false))) ∙ c.loop-index.invariant
    ] in
    at_last c.args.column c.args.self.now.column c.args.self.now.piece.now c.if-self-column.true ∙ all

pub returns-else-self-column : goal.returns-else-self-column
returns-else-self-column c =
    let last : List (ℕ × Piece) = (c.args.self.now.column, c.args.self.now.piece.now) ∷ [] in
    let all : piece_at c.args.column last ≡ piece_at c.args.column (chosen_at c.args.self.now) =
    elim c.loop-index-test.branch [
      | then-loop-index-test+else-index-points w ↦ sym (past_points c.args.self.now.columns.now c.args.self.now.points.now last c.args.column c.loop-index.index (omega (arith, w.if-index-points.false))) ∙ c.loop-index.invariant
      | else-loop-index-test w ↦ sym (past_columns c.args.self.now.columns.now c.args.self.now.points.now last c.args.column c.loop-index.index (omega (arith, w.loop-index-test.false))) ∙ c.loop-index.invariant
    ] in
    not_last c.args.column c.args.self.now.column c.args.self.now.piece.now c.if-self-column.false ∙ all
