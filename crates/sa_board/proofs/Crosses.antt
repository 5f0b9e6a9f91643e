-- Desks may go to other threads.
use denote.Param.Send.{IsSend, IsSync, sendable}
use denote.Param.SendFields.{variants_send, variants_sync, declared_send, declared_sync}
use Rattle.std.proofs.Crossing.{crosses}
use Rattle.std.specs.contracts.option.Option as option
use Rattle.sa_value.specs.contracts.text.Text as text
use Rattle.sa_count.specs.contracts.report.Report as report
use Rattle.sa_plan.specs.contracts.shared.SharedPlan as plan
use Rattle.sa_table.specs.contracts.shared.SharedTables as tables
use Rattle.sa_desk.specs.contracts.outcome.Outcome as outcome
use Rattle.sa_query.specs.contracts.refusal.Refusal as refusal
use Rattle.sa_value.specs.contracts.sequence.Sequence as sequence
use Rattle.sa_value.specs.contracts.value.Value as value
use Rattle.sa_desk.specs.contracts.entry.Event as event
use Rattle.sa_desk.specs.contracts.entry.Entry as entry

pub event_sends : IsSend text.the_row → IsSend report.the_row → IsSend (option.the_row plan.the_row) → IsSend (option.the_row tables.the_row) → IsSend outcome.the_row → IsSend event.the_row
event_sends text_sends report_sends plans_send tables_send outcome_sends = variants_send event.enum ((search sendable, (text_sends, (search sendable, (plans_send, (tables_send, tt))))), ((search sendable, (search (sendable, crosses), (search sendable, (search sendable, tt)))), ((search sendable, (search (sendable, crosses), tt)), ((search sendable, (search sendable, (report_sends, tt))), ((search sendable, tt), ((search sendable, (search sendable, tt)), ((search sendable, tt), ((search sendable, (search (sendable, crosses), tt)), ((search sendable, (search sendable, tt)), ((search sendable, (search sendable, (search sendable, tt))), ((search sendable, (outcome_sends, (search sendable, tt))), ((search sendable, tt), (tt, tt)))))))))))))

pub entry_sends : IsSend event.the_row → IsSend entry.the_row
entry_sends sends = declared_send entry.the_type (search sendable, (search sendable, (search sendable, (search sendable, (sends, tt)))))

pub event_syncs : IsSync text.the_row → IsSync report.the_row → IsSync (option.the_row plan.the_row) → IsSync (option.the_row tables.the_row) → IsSync outcome.the_row → IsSync event.the_row
event_syncs text_sends report_sends plans_send tables_send outcome_sends = variants_sync event.enum ((search sendable, (text_sends, (search sendable, (plans_send, (tables_send, tt))))), ((search sendable, (search (sendable, crosses), (search sendable, (search sendable, tt)))), ((search sendable, (search (sendable, crosses), tt)), ((search sendable, (search sendable, (report_sends, tt))), ((search sendable, tt), ((search sendable, (search sendable, tt)), ((search sendable, tt), ((search sendable, (search (sendable, crosses), tt)), ((search sendable, (search sendable, tt)), ((search sendable, (search sendable, (search sendable, tt))), ((search sendable, (outcome_sends, (search sendable, tt))), ((search sendable, tt), (tt, tt)))))))))))))

pub entry_syncs : IsSync event.the_row → IsSync entry.the_row
entry_syncs sends = declared_sync entry.the_type (search sendable, (search sendable, (search sendable, (search sendable, (sends, tt)))))

pub outcome_syncs : IsSync plan.the_row → IsSync report.the_row → IsSync (sequence.the_row text.the_row) → IsSync (sequence.the_row (sequence.the_row value.the_row)) → IsSync (option.the_row text.the_row)
    → IsSync refusal.the_row → IsSync outcome.the_row
outcome_syncs plan report texts rows trace refusal = variants_sync outcome.enum ((texts, (rows, tt)), ((plan, tt), ((plan, (report, tt)), ((search (sendable, crosses), (search sendable, (search sendable, (report, tt)))), ((trace, tt), (tt, (tt, ((search sendable, tt), ((refusal, tt), (tt, (tt, ((search sendable, tt), ((search sendable, (search sendable, tt)), (tt, (tt, (tt, (tt, tt)))))))))))))))))
