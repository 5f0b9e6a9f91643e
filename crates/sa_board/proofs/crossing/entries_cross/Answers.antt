use Rattle.sa_board.proofs.Crosses.{event_sends, entry_sends, event_syncs, entry_syncs, outcome_syncs}
use Rattle.sa_board.proofs.crossing.entries_cross.Goals as goal

pub returns-clause-send : goal.returns-clause-send
returns-clause-send c =
    entry_sends (event_sends c.texts_and_reports_cross.ensures.text_send c.texts_and_reports_cross.ensures.report_send c.plan_options_cross.ensures.send c.table_options_cross.ensures.send c.outcomes_send.ensures)

pub returns-clause-sync : goal.returns-clause-sync
returns-clause-sync c =
    entry_syncs (event_syncs c.texts_and_reports_cross.ensures.text_sync c.texts_and_reports_cross.ensures.report_sync c.plan_options_cross.ensures.sync c.table_options_cross.ensures.sync (outcome_syncs c.plans_cross.ensures.sync c.texts_and_reports_cross.ensures.report_sync c.outcome_parts_share.ensures.texts c.outcome_parts_share.ensures.rows c.outcome_parts_share.ensures.trace c.outcome_parts_share.ensures.refusal))
