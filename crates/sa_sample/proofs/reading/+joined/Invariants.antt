-- Each function is called by one above it in the same level, or by the level above.
use Rattle.std.proofs.Common.{◌+◌, ◌*◌}
use Rattle.sa_sample.proofs.reading.+joined.Given as goal

abbrev pub decreases-bracketed : goal.decreases-bracketed
decreases-bracketed l = 4 * l.levels + 3

abbrev pub decreases-disjunction : goal.decreases-disjunction
decreases-disjunction l = 4 * l.levels + 2

abbrev pub decreases-conjunction : goal.decreases-conjunction
decreases-conjunction l = 4 * l.levels + 1

abbrev pub decreases-negation : goal.decreases-negation
decreases-negation l = 4 * l.levels
