-- Each function is called by one above it in the same level, or by the level above.
use Rattle.std.proofs.Common.{◌+◌, ◌*◌}
use Rattle.sa_sample.proofs.arithmetic.+arithmetic.Given as goal

abbrev pub decreases-sum : goal.decreases-sum
decreases-sum l = 4 * l.levels + 2

abbrev pub decreases-product : goal.decreases-product
decreases-product l = 4 * l.levels + 1

abbrev pub decreases-factor : goal.decreases-factor
decreases-factor l = 4 * l.levels

abbrev pub decreases-minus : goal.decreases-minus
decreases-minus l = 4 * l.levels + 3
