use Rattle.std.proofs.Common.{sym, ap, ◌∙◌}
use Rattle.sa_range.specs.inner.Joined.{put_last}
use Rattle.sa_range.proofs.Neighbours.{put_last-front}
use Rattle.sa_range.proofs.united.put_last.Goals as goal

pub returns-in_ok-put_both-in-Some : goal.returns-in_ok-put_both-in-Some
returns-in_ok-put_both-in-Some c =
    c.in_ok-put_both-in-Some.ensures
    ∙ sym (put_last-front c.pop.new.self.items c.in-Some.last c.args.range)
    ∙ ap (λ ranges. put_last ranges c.args.range) (sym c.in-Some.ensures.items)
