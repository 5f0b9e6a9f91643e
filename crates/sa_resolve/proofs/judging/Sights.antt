-- How many tables of FROM the code has.
use Rattle.std.proofs.Common.{◌≡◌, List, length, vec_len, sym, ap, ◌∙◌}
use Rattle.std.proofs.lemmas.List.{length-map}
use Rattle.sa_ast.specs.declared.select.TableTree.{TableTree}
use Rattle.sa_table.specs.Table.{Table}
use Rattle.sa_resolve.specs.declared.sight.Sight.{Sight}
use Rattle.sa_resolve.specs.Sight.{source_of}
use Rattle.sa_resolve.specs.inner.Names.{IsSight, source_at}

pub sources_count : (tables : List Table) (from : List TableTree) (sight : Sight) → IsSight tables from sight
    → vec_len sight.sources ≡ length from
sources_count tables from sight is =
    sight.sources.ok.0 ∙ sym (length-map sight.sources.items source_at) ∙ ap length is.sources ∙ length-map from (source_of tables)
