use Rattle.sa_key.proofs.RangeLemmas.{tuple_as_cut}
use Rattle.sa_key.proofs.law.tuple_lies_where_its_cut_lies.Goals as goal

pub returns : goal.returns
returns c = tuple_as_cut
