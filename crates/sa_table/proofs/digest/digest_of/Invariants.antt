use Rattle.std.proofs.Common.{◌≡◌, drop}
use Rattle.sa_table.specs.Table.{key_tuple}
use Rattle.sa_table.specs.inner.Digest.{digest_of, digest_from}
use Rattle.sa_table.proofs.digest.digest_of.Given as goal

abbrev pub invariant-loop-part : goal.invariant-loop-part
invariant-loop-part l = digest_from l.digest (key_tuple (drop l.part-index l.parts) l.row) ≡ digest_of (key_tuple l.parts l.row)
