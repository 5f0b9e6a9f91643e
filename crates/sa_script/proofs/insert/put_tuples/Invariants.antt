use Rattle.std.proofs.Common.{vec_len}
use Rattle.sa_script.proofs.InsertLemmas.{IsPutting}
use Rattle.sa_script.proofs.insert.put_tuples.Given as goal

abbrev pub invariant-loop-values : goal.invariant-loop-values
invariant-loop-values l = IsPutting l.fn.tables l.table l.layout l.fn.tuples l.number l.tables l.left.items

abbrev pub decreases-loop-values : goal.decreases-loop-values
decreases-loop-values l = vec_len l.left
