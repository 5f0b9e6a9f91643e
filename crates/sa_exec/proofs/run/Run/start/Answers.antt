use Rattle.std.proofs.Common.{subst, arith}
use Rattle.sa_table.specs.Sound.{AreSound}
use Rattle.sa_exec.proofs.IsAtLemmas.{IsAt-start}
use Rattle.sa_exec.proofs.run.Run.start.Goals as goal

pub invariant_of-result : goal.invariant_of-result
invariant_of-result c =
    let first = IsAt-start c.args.tables c.args.plan c.requires.runnable in
    record {
      sound = subst AreSound c.tables.ensures c.count_rows-count.ensures.sound;
      lawful = c.requires.lawful;
      runnable = c.requires.runnable;
      quantum = c.requires.most_quantum;
      row_limit = c.requires.most_limit;
      limited = omega arith;
      looked = omega arith;
      at = rw (c.new.ensures, c.new-2.ensures, c.count_rows-count.ensures.count, c.plan.ensures, c.tables.ensures) first;
    }
