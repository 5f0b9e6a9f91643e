use Rattle.std.proofs.Common.{◌≤◌, ℕ, List, length, drop, take, sym, ◌∙◌, subst}
use Rattle.sa_script.specs.Load.{HasNoLineEnd, IsLineEnd}
use Rattle.sa_script.specs.Piece.{place_behind}
use Rattle.sa_script.proofs.Blocks.{rest_is, missing_line_end, missing_bytes}
use Rattle.sa_script.proofs.load.block_behind.Goals as goal

pub returns-in_default-clause-fault : goal.returns-in_default-clause-fault
returns-in_default-clause-fault c =
    let behind = drop (place_behind c.args.piece.now) c.args.script.now in
    let rest = rest_is c.as_bytes.result.now c.args.script.now c.behind-behind.result (place_behind c.args.piece.now) c.as_bytes.ensures.value c.behind-behind.ensures in
    let none : HasNoLineEnd behind = subst HasNoLineEnd rest c.in_default.ensures in
    missing_line_end c.args.piece.now c.args.count.now behind c.at-in_default.result c.behind-behind.result c.at-in_default.ensures c.behind-behind.ensures
    (sym c.is_closed.ensures ∙ c.if-not-is_closed.false) none

pub returns-then-count-left-clause-fault : goal.returns-then-count-left-clause-fault
returns-then-count-left-clause-fault c =
    let behind = drop (place_behind c.args.piece.now) c.args.script.now in
    let len = c.in-Some.line_end in
    let rest = rest_is c.as_bytes.result.now c.args.script.now c.behind-behind.result (place_behind c.args.piece.now) c.as_bytes.ensures.value c.behind-behind.ensures in
    let found : (len ≤ length behind) × IsLineEnd (take len behind) = subst (λ (bytes : List ℕ). (len ≤ length bytes) × IsLineEnd (take len bytes)) rest c.in-Some.ensures in
    missing_bytes c.args.piece.now c.args.count.now c.args.script.now c.at-then-count-left.result c.behind-behind.result len c.at-then-count-left.ensures c.behind-behind.ensures
    (sym c.is_closed.ensures ∙ c.if-not-is_closed.false) found.0 found.1 c.if-count-left.true
