use Rattle.std.proofs.Common.{◌≡◌, Bor, List, ℕ, Some, rules}
use Rattle.std.specs.Str.{bytes_eq}
use Rattle.indexmap.specs.IndexMap.{get_by}
use Rattle.sa_resolve.specs.inner.Indexed.{with_alias}
use Rattle.sa_resolve.proofs.names.Indexes.{put_by}
use Rattle.sa_resolve.proofs.alias.Aliases.put.Goals as goal
use Rattle.sa_resolve.proofs.alias.Aliases.put.Goals.{in-None, in-Some}

pub returns : goal.returns
returns c =
    let is : Some c.match-get.found ≡ with_alias c.args.alias (get_by (λ (key : Bor (List ℕ)). bytes_eq c.args.name.now key.now) c.args.self.now.names) =
    elim c.match-get.branch [ in-None w ↦ search rules | in-Some w ↦ search rules ] in
    put_by c.args.name.now c.args.self.now.names c.insert.new.self _ c.in_ok-insert.ensures.updates (with_alias c.args.alias) is
