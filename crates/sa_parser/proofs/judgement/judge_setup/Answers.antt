use Rattle.std.proofs.Common.{length, ap, ◌≡◌, ◌∙◌}
use Rattle.std.proofs.lemmas.Result.{IfOk-weaker}
use Rattle.sa_parser.specs.declared.grammar.Grammar.TheVariants.{Setup}
use Rattle.sa_parser.specs.Parse.{IsSetup}
use Rattle.sa_parser.specs.inner.Grammar.{read_by}
use Rattle.sa_parser.specs.inner.Judgement.{IsJudgement}
use Rattle.sa_parser.specs.inner.Reads.{Reads}
use Rattle.sa_parser.proofs.Judging.{read-within, read-judged}
use Rattle.sa_parser.proofs.judgement.judge_setup.Goals as goal

pub judged-requires : goal.judged-requires
judged-requires c =
    let tokens = c.args.tokens.now in
    let reads : Reads (read_by Setup tokens) c.setup-read.result c.setup-read.new.cursor = rw c.new-cursor.ensures at c.setup-read.ensures in
    let all : c.left-all.result ≡ length tokens = c.left-all.ensures ∙ ap length c.new-cursor.ensures in
    rw (all, c.left.ensures) (read-within Setup tokens c.setup-read.result c.setup-read.new.cursor reads)

pub returns : goal.returns
returns c =
    let tokens = c.args.tokens.now in
    let reads : Reads (read_by Setup tokens) c.setup-read.result c.setup-read.new.cursor = rw c.new-cursor.ensures at c.setup-read.ensures in
    let all : c.left-all.result ≡ length tokens = c.left-all.ensures ∙ ap length c.new-cursor.ensures in
    IfOk-weaker c.judged.result _ (IsJudgement IsSetup tokens)
    (λ judgement tells. read-judged Setup tokens c.setup-read.result c.setup-read.new.cursor judgement reads (rw (all, c.left.ensures) at tells))
    c.judged.ensures
