use Rattle.std.proofs.Common.{◌||◌, codes, ap, ◌∙◌}
use Rattle.sa_parser.specs.Token.{is_word}
use Rattle.sa_parser.specs.Depth.{Depth, with_token, ends_operand}
use Rattle.sa_parser.proofs.depth.Levels.count.Goals as goal

pub returns : goal.returns
unfolding with_token
returns c =
    let kind = c.args.token.now.kind in
    rw (c.ends_operand-self-inside.ensures, c.has_selected-selected.ensures)
    (ap (λ (seen : Depth). record seen { operand = ends_operand kind; selected = c.args.self.now.selected || is_word (codes "SELECT") kind }) (c.self.view_is ∙ c.nest.ensures))
