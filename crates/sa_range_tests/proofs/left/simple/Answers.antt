use Rattle.sa_sample.specs.Sample.{sample_kinds}
use Rattle.sa_range_tests.proofs.left.simple.Goals as goal

pub simplify-requires : goal.simplify-requires
simplify-requires c = record { typed = record { kinds = sample_kinds; typed = c.requires.typed } }
