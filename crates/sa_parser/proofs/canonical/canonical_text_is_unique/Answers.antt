use Rattle.sa_parser.proofs.canonical_text.Unique.{unique}
use Rattle.sa_parser.proofs.canonical.canonical_text_is_unique.Goals as goal

pub returns : goal.returns
returns c = unique
