use Rattle.std.proofs.Common.{length, ap, ◌≡◌, ◌∙◌}
use Rattle.std.proofs.lemmas.Result.{IfOk-weaker}
use Rattle.sa_parser.specs.declared.grammar.Grammar.TheVariants.{Session}
use Rattle.sa_parser.specs.Parse.{IsStatement}
use Rattle.sa_parser.specs.inner.Grammar.{read_by}
use Rattle.sa_parser.specs.inner.Judgement.{IsJudgement}
use Rattle.sa_parser.specs.inner.Reads.{Reads}
use Rattle.sa_parser.proofs.Judging.{read-within, read-judged}
use Rattle.sa_parser.proofs.judgement.judge_statement.Goals as goal

pub judged-requires : goal.judged-requires
judged-requires c =
    let tokens = c.args.tokens.now in
    let reads : Reads (read_by Session tokens) c.statement-read.result c.statement-read.new.cursor = rw (c.left-levels.ensures, c.new-cursor.ensures) at c.statement-read.ensures in
    let all : c.left-levels.result ≡ length tokens = c.left-levels.ensures ∙ ap length c.new-cursor.ensures in
    rw (all, c.left.ensures) (read-within Session tokens c.statement-read.result c.statement-read.new.cursor reads)

pub returns : goal.returns
returns c =
    let tokens = c.args.tokens.now in
    let reads : Reads (read_by Session tokens) c.statement-read.result c.statement-read.new.cursor = rw (c.left-levels.ensures, c.new-cursor.ensures) at c.statement-read.ensures in
    let all : c.left-levels.result ≡ length tokens = c.left-levels.ensures ∙ ap length c.new-cursor.ensures in
    IfOk-weaker c.judged.result _ (IsJudgement IsStatement tokens)
    (λ judgement tells. read-judged Session tokens c.statement-read.result c.statement-read.new.cursor judgement reads (rw (all, c.left.ensures) at tells))
    c.judged.ensures
