use Rattle.sa_key.proofs.RangeLemmas.{canonical_before}
use Rattle.sa_key.proofs.law.canonical_form_has_the_same_before.Goals as goal

pub returns : goal.returns
returns c = canonical_before
