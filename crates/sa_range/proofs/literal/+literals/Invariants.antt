use Rattle.std.proofs.Common.{◌≡◌, ◌++◌, take, flat_map}
use Rattle.sa_range.specs.Atom.{literals_of}
use Rattle.sa_range.proofs.literal.+literals.Given as goal

abbrev pub invariant-put_all-loop-member : goal.invariant-put_all-loop-member
invariant-put_all-loop-member l = l.literals.items ≡ l.fn.literals.items ++ flat_map (literals_of l.table l.column) (take l.member-index l.members)
