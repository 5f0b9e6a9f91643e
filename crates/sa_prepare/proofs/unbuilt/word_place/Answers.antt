use Rattle.std.proofs.Common.{sym, ap, ◌∙◌}
use Rattle.std.specs.Option.{option_copied}
use Rattle.sa_prepare.proofs.PlaceLemmas.{start_of, word_place-find}
use Rattle.sa_prepare.proofs.unbuilt.word_place.Goals as goal

pub returns-in-Some : goal.returns-in-Some
returns-in-Some c =
    sym (word_place-find c.args.word.now c.args.tokens.now ∙ ap start_of (sym c.first_of.ensures ∙ ap option_copied c.in-Some.is))

pub returns-in-None : goal.returns-in-None
returns-in-None c =
    sym (word_place-find c.args.word.now c.args.tokens.now ∙ ap start_of (sym c.first_of.ensures ∙ ap option_copied c.in-None.is))
