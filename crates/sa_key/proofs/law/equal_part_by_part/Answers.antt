use Rattle.std.proofs.Common.{refl, sym}
use Rattle.std.specs.Cmp.Lexicographic.{lists_ties}
use Rattle.sa_value.specs.Compare.{order_of}
use Rattle.sa_key.proofs.law.equal_part_by_part.Goals as goal

pub returns : goal.returns
returns c a b = sym (lists_ties order_of (λ x y. refl) a b)
