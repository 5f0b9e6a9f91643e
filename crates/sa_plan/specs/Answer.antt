-- Which answers preparing a statement may have.
use Rattle.std.specs.Prelude.{⊤}
use Rattle.std.specs.declared.result.Result.{Result}
use Rattle.std.specs.declared.result.Result.TheVariants.{Ok, Err}
use Rattle.sa_query.specs.declared.refusal.Refusal.{Refusal}
use Rattle.sa_query.specs.declared.refusal.Refusal.TheVariants.{Lex, Syntax, NotSupported, TooDeep, Resolve, OutOfMemory}
use Rattle.sa_plan.specs.declared.prepared.Prepared.{Prepared}

-- Memory may run out; any other answer is one of these.
abbrev pub MayAnswer : (Result Prepared Refusal → Type 0) → Result Prepared Refusal → Type 0
MayAnswer Answers (Ok prepared) = Answers (Ok prepared)
MayAnswer Answers (Err (Lex kind place)) = Answers (Err (Lex kind place))
MayAnswer Answers (Err (Syntax place)) = Answers (Err (Syntax place))
MayAnswer Answers (Err (NotSupported place)) = Answers (Err (NotSupported place))
MayAnswer Answers (Err (TooDeep place)) = Answers (Err (TooDeep place))
MayAnswer Answers (Err (Resolve fault place)) = Answers (Err (Resolve fault place))
MayAnswer Answers (Err OutOfMemory) = ⊤
