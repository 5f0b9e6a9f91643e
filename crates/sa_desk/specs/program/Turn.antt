-- One call of a desk as data: what it asks for, the entries that it makes and what it leaves.
use Rattle.std.specs.Prelude.{ℕ, List, [], Option}
use Rattle.sa_ast.specs.declared.kind.AskKind.{AskKind}
use Rattle.sa_ast.specs.declared.kind.KillKind.{KillKind}
use Rattle.sa_plan.specs.declared.plan.Plan.{Plan}
use Rattle.sa_meaning.specs.Data.{RunData}
use Rattle.sa_meaning.specs.Progress.{Progress}
use Rattle.sa_desk.specs.declared.entry.Entry.{Entry}
use Rattle.sa_desk.specs.declared.entry.Event.{Event}
use Rattle.sa_desk.specs.declared.outcome.Finish.{Finish}
use Rattle.sa_desk.specs.declared.stamp.Stamp.{Stamp}
use Rattle.sa_desk.specs.Contents.{Contents}
use Rattle.sa_desk.specs.Serving.{served_entries}
use Rattle.sa_desk.specs.call.Ask.{MayAsk, ask_entries, after_ask}
use Rattle.sa_desk.specs.call.Begin.{MayBegin, begin_entries, after_begin}
use Rattle.sa_desk.specs.call.Close.{MayClose, close_entries, after_close}
use Rattle.sa_desk.specs.call.End.{MayEnd, end_entries, after_end, run_of, outcome_of}
use Rattle.sa_desk.specs.call.Kill.{MayKill, kill_entries, after_kill}
use Rattle.sa_desk.specs.call.Look.{MayLook, look_entries, after_look}
use Rattle.sa_desk.specs.call.LookOwn.{MayLookOwn}
use Rattle.sa_desk.specs.call.Point.{MayPoint, after_point}
use Rattle.sa_desk.specs.call.Poll.{MayPoll, poll_entries, after_poll}
use Rattle.sa_desk.specs.call.Withdraw.{MayWithdraw, withdraw_entries, after_withdraw}

pub data Call : Type 0 where
  begins : (event : Event) (version : ℕ) (plan : Option Plan) (tables : Option RunData) → Call
  points : (run : Progress) → Call
  looks_own : Call
  ends : (finish : Finish Progress) → Call
  asks : (kind : AskKind) (budget : ℕ) → Call
  polls : Call
  withdraws : Call
  kills : (kind : KillKind) → Call
  looks : (at budget : ℕ) → Call
  closes : Call

-- A run is given as its progress.
abbrev pub itself : Progress → Progress
itself run = run

module _ (desk : Contents) (stamp : Stamp) (number : ℕ) where
  abbrev pub May : Call → Type 0
  May (begins event version plan tables) = MayBegin desk stamp event number version plan tables
  May (points run) = MayPoint desk stamp run
  May looks_own = MayLookOwn desk stamp
  May (ends finish) = MayEnd itself desk stamp number finish
  May (asks kind budget) = MayAsk desk stamp number kind budget
  May polls = MayPoll desk stamp number
  May withdraws = MayWithdraw desk stamp number
  May (kills kind) = MayKill desk stamp number kind
  May (looks at budget) = MayLook desk stamp number at budget
  May closes = MayClose desk stamp

  abbrev pub made : Call → List Entry
  made (begins event version plan tables) = begin_entries desk stamp event number
  made (points run) = served_entries desk stamp run
  made looks_own = []
  made (ends finish) = end_entries desk stamp number (run_of itself finish) (outcome_of itself finish)
  made (asks kind budget) = ask_entries desk stamp number kind budget
  made polls = poll_entries desk stamp number
  made withdraws = withdraw_entries desk stamp number
  made (kills kind) = kill_entries desk stamp number kind
  made (looks at budget) = look_entries desk stamp number at
  made closes = close_entries desk stamp

  abbrev pub left : Call → Contents
  left (begins event version plan tables) = after_begin desk stamp event number
  left (points run) = after_point desk stamp run
  left looks_own = desk
  left (ends finish) = after_end desk stamp number (run_of itself finish) (outcome_of itself finish)
  left (asks kind budget) = after_ask desk stamp number kind budget
  left polls = after_poll desk stamp number
  left withdraws = after_withdraw desk stamp number
  left (kills kind) = after_kill desk stamp number kind
  left (looks at budget) = after_look desk stamp number at
  left closes = after_close desk stamp
