use Rattle.std.proofs.Common.{ℕ, List, Bor, cond, Some, None, ap, ◌∙◌, arith}
use Rattle.std.specs.Option.{option_or}
use Rattle.std.specs.Str.{bytes_eq}
use Rattle.indexmap.specs.IndexMap.{get_by}
use Rattle.sa_table.specs.Create.{same_name}
use Rattle.sa_resolve.specs.declared.sight.Source.{Source as Item}
use Rattle.sa_resolve.specs.Sight.{table_named}
use Rattle.sa_resolve.proofs.names.Sights.{HasTables-push}
use Rattle.sa_resolve.proofs.sight.Sight.put_table.Goals as goal

pub returns : goal.returns
returns c =
    let item : Item = record { called = c.called.result; table = c.table_named-table.result; defs = c.defs_of.result; first = c.len-2.result } in
    λ done has. HasTables-push c.args.tables.now done c.args.tree.now item c.in_ok-number.number c.args.self.now _ has
    (record {
      called_is = c.called.ensures;
      table = c.table_named-table.ensures.named ∙ ap (table_named c.args.tables.now) c.as_str.ensures;
      defs = c.defs_of.ensures;
    })
    (record {
      number_is = omega (arith, c.in_ok-number.ensures, c.len.ensures, c.args.self.now.sources.ok.0);
      first = omega (arith, c.len-2.ensures, c.args.self.now.columns.ok.0);
      sources = c.in_ok-push.ensures.items;
      columns = c.in_ok-put_columns.ensures;
      names = c.in_ok-put_names.ensures;
      aliases = λ alias. c.in_ok-put_alias.ensures alias
          ∙ ap (λ (name : List ℕ). option_or (get_by (λ (key : Bor (List ℕ)). bytes_eq alias key.now) c.args.self.now.aliases)
          (cond (same_name name alias) (Some c.in_ok-number.number) None)) c.as_str-2.ensures;
    })
