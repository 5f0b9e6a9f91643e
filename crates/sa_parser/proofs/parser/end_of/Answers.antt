use Rattle.std.proofs.Common.{sym, ap, ◌∙◌}
use Rattle.sa_lexer.specs.declared.token.Token.{Token}
use Rattle.sa_parser.proofs.Answering.{end_of-last}
use Rattle.sa_parser.proofs.parser.end_of.Goals as goal

pub returns-in-len1-up : goal.returns-in-len1-up
returns-in-len1-up c =
    ap (λ (last : Token). last.end) c.last-item.is ∙ sym (end_of-last c.args.tokens.now c.last-item.result c.in-len1-up.len_at_least)
