use Rattle.std.proofs.Common.{◌==◌, sym, ◌∙◌}
use Rattle.sa_desk.proofs.Lists.{remove-found, filter-absent, position-missing}
use Rattle.sa_desk.proofs.desk.seats.take_out.Goals as goal

pub returns-in-Some : goal.returns-in-Some
returns-in-Some c =
    let found = sym c.request_index.ensures ∙ c.in-Some.is in
    c.remove.ensures.items ∙ remove-found (λ request. request.asker == c.args.session) c.args.queue.now.items c.in-Some.index c.requires found

pub returns-in_default : goal.returns-in_default
returns-in_default c =
    sym (filter-absent (λ request. request.asker == c.args.session) c.args.queue.now.items (position-missing (λ request. request.asker == c.args.session) c.args.queue.now.items (sym c.request_index.ensures ∙ c.in_default.is)))
