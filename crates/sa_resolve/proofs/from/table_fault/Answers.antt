use Rattle.std.proofs.Common.{◌≡◌, ◌≤◌, ℕ, List, length, take, Bool, Some, option_map, refl, subst, ap, ◌∙◌, arith}
use Rattle.std.proofs.lemmas.Option.{slice_get_read, slice_get_within}
use Rattle.std.specs.List.{slice_get}
use Rattle.std.specs.Option.{is_some}
use Rattle.sa_ast.specs.declared.name.NameTree.{NameTree}
use Rattle.sa_query.specs.declared.refusal.ResolveKind.TheVariants.{UnknownTable, DuplicateAlias}
use Rattle.sa_resolve.specs.declared.sight.Source.{Source as Item}
use Rattle.sa_resolve.specs.Fault.{least, told}
use Rattle.sa_resolve.specs.Sight.{source_named}
use Rattle.sa_resolve.specs.Tables.{sources_of}
use Rattle.sa_resolve.specs.inner.Least.{fault_of, sooner}
use Rattle.sa_resolve.proofs.names.TableFaults.{table_faults-least, tells_none}
use Rattle.sa_resolve.proofs.from.table_fault.Goals as goal

pub returns : goal.returns
returns c =
    λ tables from is there.
    let few : c.args.number ≤ length from = omega (arith, slice_get_within from c.args.number c.args.tree.now there) in
    let found : slice_get c.args.sight.now.sources.items c.args.number ≡ Some c.in-Some.source.now =
    subst (λ (items : List Item). slice_get items c.args.number ≡ Some c.in-Some.source.now) c.deref.ensures.value
    (slice_get_read c.deref.result.now (length c.deref.result.now) c.args.number c.in-Some.source.now refl c.in-Some.ensures.lookup.3.0 c.in-Some.ensures.lookup.1) in
    c.sooner-2.ensures ∙ ap (sooner (fault_of c.told-unknown.result)) c.sooner.ensures
    ∙ table_faults-least tables from c.args.sight.now is c.args.number c.args.tree.now there c.in-Some.source.now
    (fault_of c.told-unknown.result) (fault_of c.told-duplicate.result) (fault_of c.told-ninth.result) found
    (c.told-unknown.ensures
    ∙ ap (λ (stands : Bool). least (told stands UnknownTable c.args.tree.now.name.place)) (tells_none c.in-Some.source.now.table c.is_none.result c.is_none.ensures))
    (c.told-duplicate.ensures
    ∙ ap (λ (stands : Bool). least (told stands DuplicateAlias c.called-name.result.now.place)) (c.is_some-is_second.ensures ∙ ap is_some (c.source_named.ensures tables from is few))
    ∙ ap (λ (name : List ℕ). least (told (is_some (option_map (λ numbered. numbered.0) (source_named (take c.args.number (sources_of tables from)) name)))
    DuplicateAlias c.called-name.result.now.place)) c.as_str.ensures
    ∙ ap (λ (called : NameTree). least (told (is_some (option_map (λ numbered. numbered.0) (source_named (take c.args.number (sources_of tables from)) called.name)))
    DuplicateAlias called.place)) c.called-name.ensures)
    c.told-ninth.ensures
