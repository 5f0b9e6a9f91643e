use Rattle.std.proofs.Common.{sym}
use Rattle.sa_resolve.proofs.names.NamedTables.{named_there, named_nowhere}
use Rattle.sa_resolve.proofs.sight.table_named.Goals as goal

pub returns-in_default-clause-named : goal.returns-in_default-clause-named
returns-in_default-clause-named c = sym (named_nowhere c.args.tables.now c.args.name.now c.in_default.ensures.absent)

pub returns-clause-named : goal.returns-clause-named
returns-clause-named c = sym (named_there c.args.tables.now c.in-Some.table c.args.name.now c.len.ensures.sound c.in-Some.ensures.there c.in-Some.ensures.found)
