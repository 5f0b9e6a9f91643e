use Rattle.std.proofs.Common.{◌≡◌, ◌⊎◌, sym, subst, arith}
use Rattle.sa_main.specs.declared.command.Command.TheVariants.{Step, Run}
use Rattle.sa_main.specs.Status.{Ran, CutShort}
use Rattle.sa_main.proofs.ScriptLaws.{is_no_usage, is_named, is_found, none_is_named}
use Rattle.sa_main.proofs.analysis.analyze_main.Goals as goal

-- ---- the word of `step`

pub returns-in-Some-Step-clause-usage : goal.returns-in-Some-Step-clause-usage
returns-in-Some-Step-clause-usage g c = λ none. absurd (none Step (is_named c.command_of.result c.args.words.now c.command_of.ensures Step (let at = c.in-Some-Step.field-0-is in let is = c.in-Some-Step.is in cc)))

pub returns-in-Some-Step-clause-command : goal.returns-in-Some-Step-clause-command
returns-in-Some-Step-clause-command g c = λ command named usage. is_no_usage c.step_script.result c.step_script.ensures.no_other usage

pub returns-in-Some-Step-clause-untouched : goal.returns-in-Some-Step-clause-untouched
returns-in-Some-Step-clause-untouched g c = λ usage. absurd (is_no_usage c.step_script.result c.step_script.ensures.no_other usage)

pub returns-in-Some-Step-clause-ran : goal.returns-in-Some-Step-clause-ran
returns-in-Some-Step-clause-ran g c =
    λ command named done.
    subst (λ command. Ran command (g.S.Source.left c.args.source.now) (g.S.Source.left c.step_script.new.source) (g.K.Sink.taken c.args.sink.now) (g.K.Sink.taken c.step_script.new.sink))
    (sym (is_found c.command_of.result c.args.words.now c.command_of.ensures command Step (let at = c.in-Some-Step.field-0-is in let is = c.in-Some-Step.is in cc) named))
    (c.step_script.ensures.ran done)

pub returns-in-Some-Step-clause-sink_cut : goal.returns-in-Some-Step-clause-sink_cut
returns-in-Some-Step-clause-sink_cut g c =
    λ command named failed.
    subst (λ command. CutShort command (g.S.Source.left c.args.source.now) (g.S.Source.left c.step_script.new.source) (g.K.Sink.taken c.args.sink.now) (g.K.Sink.taken c.step_script.new.sink))
    (sym (is_found c.command_of.result c.args.words.now c.command_of.ensures command Step (let at = c.in-Some-Step.field-0-is in let is = c.in-Some-Step.is in cc) named))
    ((c.step_script.ensures.sink_failed failed).1)

pub returns-in-Some-Step-clause-no_memory : goal.returns-in-Some-Step-clause-no_memory
returns-in-Some-Step-clause-no_memory g c =
    λ command named refused.
    subst (λ command. (g.K.Sink.taken c.step_script.new.sink ≡ g.K.Sink.taken c.args.sink.now) ⊎ CutShort command (g.S.Source.left c.args.source.now) (g.S.Source.left c.step_script.new.source) (g.K.Sink.taken c.args.sink.now) (g.K.Sink.taken c.step_script.new.sink))
    (sym (is_found c.command_of.result c.args.words.now c.command_of.ensures command Step (let at = c.in-Some-Step.field-0-is in let is = c.in-Some-Step.is in cc) named))
    (c.step_script.ensures.no_memory refused)

-- ---- the word of `run`

pub returns-in-Some-Run-clause-usage : goal.returns-in-Some-Run-clause-usage
returns-in-Some-Run-clause-usage g c = λ none. absurd (none Run (is_named c.command_of.result c.args.words.now c.command_of.ensures Run (let at = c.in-Some-Run.field-0-is in let is = c.in-Some-Run.is in cc)))

pub returns-in-Some-Run-clause-command : goal.returns-in-Some-Run-clause-command
returns-in-Some-Run-clause-command g c = λ command named usage. is_no_usage c.run_script.result c.run_script.ensures.no_other usage

pub returns-in-Some-Run-clause-untouched : goal.returns-in-Some-Run-clause-untouched
returns-in-Some-Run-clause-untouched g c = λ usage. absurd (is_no_usage c.run_script.result c.run_script.ensures.no_other usage)

pub returns-in-Some-Run-clause-ran : goal.returns-in-Some-Run-clause-ran
returns-in-Some-Run-clause-ran g c =
    λ command named done.
    subst (λ command. Ran command (g.S.Source.left c.args.source.now) (g.S.Source.left c.run_script.new.source) (g.K.Sink.taken c.args.sink.now) (g.K.Sink.taken c.run_script.new.sink))
    (sym (is_found c.command_of.result c.args.words.now c.command_of.ensures command Run (let at = c.in-Some-Run.field-0-is in let is = c.in-Some-Run.is in cc) named))
    (c.run_script.ensures.ran done)

pub returns-in-Some-Run-clause-sink_cut : goal.returns-in-Some-Run-clause-sink_cut
returns-in-Some-Run-clause-sink_cut g c =
    λ command named failed.
    subst (λ command. CutShort command (g.S.Source.left c.args.source.now) (g.S.Source.left c.run_script.new.source) (g.K.Sink.taken c.args.sink.now) (g.K.Sink.taken c.run_script.new.sink))
    (sym (is_found c.command_of.result c.args.words.now c.command_of.ensures command Run (let at = c.in-Some-Run.field-0-is in let is = c.in-Some-Run.is in cc) named))
    ((c.run_script.ensures.sink_failed failed).1)

pub returns-in-Some-Run-clause-no_memory : goal.returns-in-Some-Run-clause-no_memory
returns-in-Some-Run-clause-no_memory g c =
    λ command named refused.
    subst (λ command. (g.K.Sink.taken c.run_script.new.sink ≡ g.K.Sink.taken c.args.sink.now) ⊎ CutShort command (g.S.Source.left c.args.source.now) (g.S.Source.left c.run_script.new.source) (g.K.Sink.taken c.args.sink.now) (g.K.Sink.taken c.run_script.new.sink))
    (sym (is_found c.command_of.result c.args.words.now c.command_of.ensures command Run (let at = c.in-Some-Run.field-0-is in let is = c.in-Some-Run.is in cc) named))
    (c.run_script.ensures.no_memory refused)

-- ---- no command

pub returns-in-None-clause-command : goal.returns-in-None-clause-command
returns-in-None-clause-command g c = λ command named usage. none_is_named c.command_of.result c.args.words.now c.command_of.ensures (cc) command named

pub returns-in-None-clause-ran : goal.returns-in-None-clause-ran
returns-in-None-clause-ran g c = λ command named done. absurd (omega arith)

pub returns-in-None-clause-sink_cut : goal.returns-in-None-clause-sink_cut
returns-in-None-clause-sink_cut g c = λ command named failed. absurd (omega arith)

pub returns-in-None-clause-no_memory : goal.returns-in-None-clause-no_memory
returns-in-None-clause-no_memory g c = λ command named refused. absurd (omega arith)
