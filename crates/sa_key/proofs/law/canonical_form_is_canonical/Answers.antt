use Rattle.sa_key.proofs.RangeLemmas.{canonical_cut-again}
use Rattle.sa_key.proofs.law.canonical_form_is_canonical.Goals as goal

pub returns : goal.returns
returns c = canonical_cut-again
