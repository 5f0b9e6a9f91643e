use Rattle.std.proofs.Common.{rules}
use Rattle.sa_resolve.proofs.names.Indexes.{put_new}
use Rattle.sa_resolve.proofs.sight.put_alias.Goals as goal

pub returns-in_ok-insert : goal.returns-in_ok-insert
returns-in_ok-insert c = put_new c.args.alias.now c.args.aliases.now c.insert.new.self c.args.table c.in_ok-insert.ensures.updates (search rules)
