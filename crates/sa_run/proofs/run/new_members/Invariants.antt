use Rattle.std.proofs.Common.{◌≡◌, ◌≤◌, map, length, drop}
use Rattle.std.specs.List.{range_with_len}
use Rattle.sa_run.specs.inner.Members.{member_in}
use Rattle.sa_run.proofs.run.new_members.Given as goal

-- So many members are there, and what is left of passes and statements is for the others.
abbrev pub invariant-loop-pass : goal.invariant-loop-pass
invariant-loop-pass l = record {
  members : l.members.items ≡ map (member_in l.board l.fn.statements.items) (range_with_len 1 (length l.members.items));
  within : length l.members.items ≤ length l.fn.statements.items;
  left : l.left.items ≡ drop (length l.members.items) l.fn.statements.items;
  passes : l.pass-iterator.rest.items ≡ drop (length l.members.items) l.fn.passes.items;
}
