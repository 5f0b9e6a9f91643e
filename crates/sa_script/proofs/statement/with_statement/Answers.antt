use Rattle.std.proofs.Common.{ℕ, List, [], ◌∷◌, ◌++◌, ap, sym, ◌∙◌}
use Rattle.sa_script.specs.Said.{with_statement}
use Rattle.sa_script.proofs.Sessions.{with_statement-last}
use Rattle.sa_script.proofs.statement.with_statement.Goals as goal

pub returns : goal.returns
returns c =
    let before = c.pop.new.self.items in
    let all = sym c.in-Some.ensures.items ∙ c.into_vec-all.ensures ∙ c.replace.ensures.value in
    c.from_vec.ensures ∙ c.in_ok-push-2.ensures.items ∙ ap (λ (last : List (List ℕ)). before ++ last ∷ []) c.in_ok-push.ensures.ok
    ∙ sym (with_statement-last before c.in-Some.last c.args.source) ∙ ap (λ (sessions : List (List (List ℕ))). with_statement sessions c.args.source) all
