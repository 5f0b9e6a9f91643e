use Rattle.std.proofs.Common.{◌≡◌, ◌+◌, ◌≤◌, ◌++◌, length, drop, vec_capacity}
use Rattle.sa_desk.specs.Contents.{later}
use Rattle.sa_desk.specs.inner.Parts.{served_from, answers_with}
use Rattle.sa_desk.proofs.desk.serving.serve.Given as goal

-- With what is still to come, the journal and the answers are those of all requests.
abbrev pub invariant-loop-index : goal.invariant-loop-index
invariant-loop-index l =
    (l.journal.items ++ served_from l.server.desk (later l.index l.server.stamp) l.report (drop l.index l.queue) ≡ l.initial.journal.items ++ served_from l.server.desk l.server.stamp l.report l.queue)
    × (l.replies.items ++ answers_with l.report l.server.begin (drop l.index l.queue) ≡ l.initial.replies.items ++ answers_with l.report l.server.begin l.queue)
    × (vec_capacity l.journal ≡ vec_capacity l.initial.journal)
    × (length l.journal.items ≡ length l.initial.journal.items + l.index)
    × (length l.replies.items ≡ length l.initial.replies.items + l.index)
    × (l.index ≤ length l.queue)
