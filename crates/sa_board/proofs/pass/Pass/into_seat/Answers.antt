use Rattle.std.proofs.Common.{[], ◌∷◌, ap, ◌∙◌}
use Rattle.sa_board.specs.Pass.{PassState, known_of}
use Rattle.sa_board.specs.inner.Pass.{away_with}
use Rattle.sa_board.proofs.Passing.{known-pass}
use Rattle.sa_board.proofs.pass.Pass.into_seat.Goals as goal

pub returns-clause-away : goal.returns-clause-away
returns-clause-away c = c.self.invariant.away ∙ ap away_with (ap (λ (pass : PassState). pass.out) c.self.view_is ∙ c.requires)

pub returns-clause-known : goal.returns-clause-known
returns-clause-known c = known-pass c.self.inside c.self.invariant ∙ ap (λ (pass : PassState). known_of pass ∷ []) c.self.view_is
