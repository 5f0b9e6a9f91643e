use Rattle.std.proofs.Common.{◌≡◌, ◌≤◌, true, get_or, arith}
use Rattle.std.proofs.Math.Nat.{sub-zero}
use Rattle.std.specs.List.{prefix_len}
use Rattle.std.proofs.lemmas.Str.{IsCharBoundary-after_ascii}
use Rattle.sa_print.specs.Quoted.{is_doubled}
use Rattle.sa_print.proofs.Doubled.{is_single, single_run, first_doubled, doubled_byte, doubled_one, doubled_small, cut_after}
use Rattle.sa_print.proofs.quoted.first_unit.Goals as goal

pub range-requires-clause-end_boundary : goal.range-requires-clause-end_boundary
range-requires-clause-end_boundary c = rw (c.run_of_singles-run.ensures, c.as_bytes.ensures.value) (cut_after c.args.quote c.args.rest.now c.requires.quote)

pub doubled-requires : goal.doubled-requires
doubled-requires c =
    let run = rw c.as_bytes.ensures.value at c.run_of_singles-run.ensures in
    let none : prefix_len (is_single c.args.quote) c.args.rest.now ≤ 0 = omega arith in
    rw c.as_bytes-else-run-gt0.ensures.value (doubled_byte c.args.quote (get_or c.args.rest.now 0 0) c.requires.quote (first_doubled c.args.quote c.args.rest.now none c.requires.some))

pub returns-then-run-gt0-clause-written : goal.returns-then-run-gt0-clause-written
returns-then-run-gt0-clause-written c = rw (c.range.ensures.value, c.run_of_singles-run.ensures, c.as_bytes.ensures.value, sub-zero) (single_run c.args.quote c.args.rest.now)

pub returns-then-run-gt0-clause-cut : goal.returns-then-run-gt0-clause-cut
returns-then-run-gt0-clause-cut c = rw (c.run_of_singles-run.ensures, c.as_bytes.ensures.value) (cut_after c.args.quote c.args.rest.now c.requires.quote)

pub returns-else-run-gt0-clause-written : goal.returns-else-run-gt0-clause-written
returns-else-run-gt0-clause-written c =
    let run = rw c.as_bytes.ensures.value at c.run_of_singles-run.ensures in
    let none : prefix_len (is_single c.args.quote) c.args.rest.now ≤ 0 = omega arith in
    rw (c.doubled.ensures, c.as_bytes-else-run-gt0.ensures.value) (doubled_one c.args.quote c.args.rest.now c.requires.some (first_doubled c.args.quote c.args.rest.now none c.requires.some))

pub returns-else-run-gt0-clause-cut : goal.returns-else-run-gt0-clause-cut
returns-else-run-gt0-clause-cut c =
    let run = rw c.as_bytes.ensures.value at c.run_of_singles-run.ensures in
    let none : prefix_len (is_single c.args.quote) c.args.rest.now ≤ 0 = omega arith in
    let first : is_doubled c.args.quote (get_or c.args.rest.now 0 0) ≡ true = first_doubled c.args.quote c.args.rest.now none c.requires.some in
    IsCharBoundary-after_ascii c.args.rest.now 0 c.utf8.rest c.requires.some (doubled_small c.args.quote (get_or c.args.rest.now 0 0) c.requires.quote first)
