use Rattle.std.proofs.Common.{◌==◌, sym, ◌∙◌}
use Rattle.sa_desk.proofs.Lists.{remove-found, find-found, find-missing, filter-absent, position-missing}
use Rattle.sa_desk.proofs.desk.seats.take_reply.Goals as goal

pub returns-in-Some-clause-reply : goal.returns-in-Some-clause-reply
returns-in-Some-clause-reply c =
    find-found (λ reply. reply.asker == c.args.session) c.args.replies.now.items c.in-Some.index c.remove.result (sym c.reply_index.ensures ∙ c.in-Some.is) c.remove.ensures.value

pub returns-in-Some-clause-others : goal.returns-in-Some-clause-others
returns-in-Some-clause-others c =
    c.remove.ensures.items ∙ remove-found (λ reply. reply.asker == c.args.session) c.args.replies.now.items c.in-Some.index c.requires (sym c.reply_index.ensures ∙ c.in-Some.is)

pub returns-in-None-clause-reply : goal.returns-in-None-clause-reply
returns-in-None-clause-reply c = find-missing (λ reply. reply.asker == c.args.session) c.args.replies.now.items (sym c.reply_index.ensures ∙ c.in-None.is)

pub returns-in-None-clause-others : goal.returns-in-None-clause-others
returns-in-None-clause-others c =
    sym (filter-absent (λ reply. reply.asker == c.args.session) c.args.replies.now.items (position-missing (λ reply. reply.asker == c.args.session) c.args.replies.now.items (sym c.reply_index.ensures ∙ c.in-None.is)))
