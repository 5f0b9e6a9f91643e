use Rattle.std.proofs.Common.{ℕ, drop, ap, ◌∙◌}
use Rattle.sa_script.specs.Piece.{trimmed_end}
use Rattle.sa_script.proofs.Trims.{front_dropped}
use Rattle.sa_script.proofs.source.source_of.Goals as goal

pub returns : goal.returns
returns c =
    c.without_end.ensures
    ∙ ap trimmed_end (c.range_from.ensures.value ∙ ap (λ (n : ℕ). drop n c.args.text.now) c.front_space.ensures.count ∙ front_dropped c.args.text.now)
