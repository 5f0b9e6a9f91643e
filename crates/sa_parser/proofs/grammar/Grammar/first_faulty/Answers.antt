use Rattle.sa_parser.specs.Parse.{IsStatement, IsSetup, IsDirective}
use Rattle.sa_parser.proofs.Judging.{first-is}
use Rattle.sa_parser.proofs.grammar.Grammar.first_faulty.Goals as goal

pub returns-in_ok-judge_statement-in-Session : goal.returns-in_ok-judge_statement-in-Session
returns-in_ok-judge_statement-in-Session c =
    rw (c.in-Session.is, c.first_faulty.ensures, c.len-all.ensures)
    (first-is IsStatement c.args.tokens.now c.in_ok-judge_statement-in-Session.field-0 c.in_ok-judge_statement-in-Session.ensures)

pub returns-in_ok-judge_setup-in-Setup : goal.returns-in_ok-judge_setup-in-Setup
returns-in_ok-judge_setup-in-Setup c =
    rw (c.in-Setup.is, c.first_faulty-in-Setup.ensures, c.len-all.ensures)
    (first-is IsSetup c.args.tokens.now c.in_ok-judge_setup-in-Setup.field-0 c.in_ok-judge_setup-in-Setup.ensures)

pub returns-in_ok-judge_directive-in-Script : goal.returns-in_ok-judge_directive-in-Script
returns-in_ok-judge_directive-in-Script c =
    rw (c.in-Script.is, c.first_faulty-in-Script.ensures, c.len-all.ensures)
    (first-is IsDirective c.args.tokens.now c.in_ok-judge_directive-in-Script.field-0 c.in_ok-judge_directive-in-Script.ensures)
