use Rattle.std.proofs.Common.{◌≡◌, Bor, List, ℕ, Option, Some, rules}
use Rattle.std.specs.Str.{bytes_eq}
use Rattle.indexmap.specs.IndexMap.{get_by}
use Rattle.sa_resolve.specs.declared.sight.Named.{Named}
use Rattle.sa_resolve.specs.inner.Indexed.{with_column}
use Rattle.sa_resolve.proofs.names.Indexes.{put_by}
use Rattle.sa_resolve.proofs.sight.put_name.Goals as goal
use Rattle.sa_resolve.proofs.sight.put_name.Goals.{in-None, in-Some}

pub returns : goal.returns
returns c =
    let is : Some c.match-get.named ≡ Some (with_column (get_by (λ (key : Bor (List ℕ)). bytes_eq c.args.name.now key.now) c.args.names.now) c.args.column) =
    elim c.match-get.branch [ in-None w ↦ search rules | in-Some w ↦ search rules ] in
    put_by c.args.name.now c.args.names.now c.insert.new.self _ c.in_ok-insert.ensures.updates (λ (found : Option Named). Some (with_column found c.args.column)) is
