use Rattle.std.proofs.Common.{◌≡◌, ◌-◌, ◌<◌, ◌==◌, ◌&&◌, Bool, true, List, [], filter, slice_get, slice_index_or, get_or, length, Option, Some, option_and_then, sym, ap, subst, ◌∙◌, arith}
use Rattle.sa_desk.specs.declared.entry.Entry.{Entry}
use Rattle.sa_transcript.specs.Outcome.{plan_in}
use Rattle.sa_transcript.proofs.FirstFound.{first_is, both_same}
use Rattle.sa_transcript.proofs.outcome.plan_begun.Goals as goal

pub returns-then-entry-begin : goal.returns-then-entry-begin
returns-then-entry-begin c =
    let journal : List Entry = slice_index_or c.args.journals.now (c.args.desk - 1) [] in
    let test : Entry → Bool = λ entry. (entry.actor == c.args.desk) && (entry.seq == c.args.begin) in
    let within : c.loop-entry.entry-index < length journal = omega (arith, ap length c.journal_of-entry-items.ensures) in
    let here : c.entry-item.result ≡ get_or journal c.loop-entry.entry-index c.entry-item.result =
    c.entry-item.is ∙ ap (λ (entries : List Entry). get_or entries c.loop-entry.entry-index c.entry-item.result) c.journal_of-entry-items.ensures in
    let passes : test (get_or journal c.loop-entry.entry-index c.entry-item.result) ≡ true =
    subst (λ (entry : Entry). test entry ≡ true) here
    (both_same c.entry-item.result.actor c.entry-item.result.seq c.args.desk c.args.begin c.if-entry-desk.true c.if-entry-begin.true) in
    let first : slice_get (filter test journal) 0 ≡ Some (get_or journal c.loop-entry.entry-index c.entry-item.result) =
    first_is test journal c.loop-entry.entry-index c.entry-item.result within c.loop-entry.invariant passes in
    let found : slice_get (filter test journal) 0 ≡ Some c.entry-item.result = first ∙ ap (λ (entry : Entry). Some entry) (sym here) in
    c.plan_in.ensures ∙ ap (λ (entry : Option Entry). option_and_then (λ (entry : Entry). plan_in entry.event) entry) (sym found)
