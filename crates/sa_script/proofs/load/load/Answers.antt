use Rattle.std.proofs.Common.{◌≡◌, ◌≤◌, ℕ, ◌+◌, length, take, drop, sym, subst, ap, ◌∙◌, arith, inr}
use Rattle.std.specs.Prelude.{slice_range}
use Rattle.std.specs.Str.{IsCharBoundary}
use Rattle.std.proofs.lemmas.Result.{err_from_is_err_and}
use Rattle.sa_table.specs.Table.{table_at}
use Rattle.sa_script.specs.Fault.{Fault}
use Rattle.sa_script.specs.Load.{CantLoad, CantLoadBlock}
use Rattle.sa_script.specs.Piece.{place_behind}
use Rattle.sa_script.proofs.Blocks.{line_end_cut, block_stands, line_end_long}
use Rattle.sa_script.proofs.Telling.{tells_more}
use Rattle.sa_script.proofs.load.load.Goals as goal

pub load_block-requires-clause-cut : goal.load_block-requires-clause-cut
load_block-requires-clause-cut c =
    let stands = c.in_ok-block.ensures.stands in
    let place = place_behind c.args.piece.now in
    let within : place + stands.len ≤ length c.args.script.now = omega (arith, stands.start_is, stands.end_is, stands.within) in
    subst (λ (n : ℕ). IsCharBoundary c.args.script.now n) (sym stands.start_is) (line_end_cut c.args.script.now place stands.len c.utf8.script within stands.ends_line)

pub returns-in_err-load_block-clause-fault : goal.returns-in_err-load_block-clause-fault
returns-in_err-load_block-clause-fault c =
    let script = c.args.script.now in
    let piece = c.args.piece.now in
    let block = c.in_ok-block.block in
    let behind = drop (place_behind piece) script in
    let stands = c.in_ok-block.ensures.stands in
    let table = c.in_ok-table.table in
    let there : block.start ≡ place_behind piece + length (take stands.len behind) = stands.start_is ∙ ap (λ (n : ℕ). place_behind piece + n) (sym (line_end_long script piece c.args.count.now block c.requires.within stands)) in
    let P : Fault → Type 0 = CantLoadBlock (table_at c.args.tables.now table) block.start (slice_range script block.start block.end) in
    let p = err_from_is_err_and c.from_residual-in_err-load_block.result c.from_residual-in_err-load_block.ensures.1 in
    rw (p.1, p.2) (tells_more P (CantLoad c.args.tables.now piece c.args.name.now c.args.count.now behind) _
    (λ (fault : Fault) (h : P fault). inr (
      table,
      c.in_ok-table.ensures.named,
      inr (record {
        line_end = take stands.len behind;
        block = slice_range script block.start block.end;
        rest = drop block.end script;
        closed = stands.closed;
        stands = block_stands script piece c.args.count.now block c.requires.within stands;
        cant = subst (λ (n : ℕ). CantLoadBlock (table_at c.args.tables.now table) n (slice_range script block.start block.end) fault) there h;
      }),
    ))
    c.in_err-load_block.ensures.fault)

pub returns-clause-loads : goal.returns-clause-loads
returns-clause-loads c =
    let script = c.args.script.now in
    let piece = c.args.piece.now in
    let block = c.in_ok-block.block in
    let behind = drop (place_behind piece) script in
    let stands = c.in_ok-block.ensures.stands in
    let has = block_stands script piece c.args.count.now block c.requires.within stands in
    let line = line_end_long script piece c.args.count.now block c.requires.within stands in
    record {
      table = c.in_ok-table.table;
      named = c.in_ok-table.ensures.named;
      closed = stands.closed;
      line_end = take stands.len behind;
      block = slice_range script block.start block.end;
      rest = drop block.end script;
      stands = has;
      loaded = table_at c.load_block.new.tables c.in_ok-table.table;
      loads = c.in_ok-load_block.ensures.loads;
      after_is = c.in_ok-load_block.ensures.others;
      skipped_is = omega (arith, c.behind.ensures, stands.start_is, stands.end_is, has.long, line);
    }
