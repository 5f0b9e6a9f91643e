use Rattle.sa_load.proofs.Takes.{takes_next}
use Rattle.sa_load.proofs.load.take_record.Goals as goal
use Rattle.sa_load.proofs.load.take_record.Goals.{in-Ok, in-Err}

pub returns-clause-next : goal.returns-clause-next
returns-clause-next c =
    elim c.match-read_byte_record.branch [
      | in-Ok w ↦
          rw w.result-is
          (λ left has. takes_next _ _ _ _ left has
          (w.in-Ok.ensures.reads has.untrimmed has.ready) (w.in-Ok.ensures.ready has.untrimmed))
      | in-Err w ↦ rw w.result-is tt
    ]
