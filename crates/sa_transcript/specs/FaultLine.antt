-- The line that tells why a text is no script.
use Rattle.std.specs.Prelude.{ℕ, List, codes, Option, None, Some}
use Rattle.serde_json.specs.Data.{Data, string, object, Members, put, no_members}
use Rattle.sa_explain.specs.Number.{count}
use Rattle.sa_script.specs.declared.fault.ScriptKind.{ScriptKind}
use Rattle.sa_script.specs.declared.fault.ScriptKind.TheVariants as script
use Rattle.sa_script.specs.Fault.{Fault}
use Rattle.sa_transcript.specs.Transcript.{line_of}

abbrev pub kind_name : ScriptKind → List ℕ
kind_name script.TooLong = codes "TooLong"
kind_name script.NotUtf8 = codes "NotUtf8"
kind_name script.OpenText = codes "OpenText"
kind_name script.OpenComment = codes "OpenComment"
kind_name script.BadByte = codes "BadByte"
kind_name script.NumberTooLong = codes "NumberTooLong"
kind_name script.TextTooLong = codes "TextTooLong"
kind_name script.Syntax = codes "Syntax"
kind_name script.NotSupported = codes "NotSupported"
kind_name script.TooDeep = codes "TooDeep"
kind_name script.BadNumber = codes "BadNumber"
kind_name script.SessionOrder = codes "SessionOrder"
kind_name script.TooManySessions = codes "TooManySessions"
kind_name script.TooManyStatements = codes "TooManyStatements"
kind_name script.StatementTooLong = codes "StatementTooLong"
kind_name script.UnknownSession = codes "UnknownSession"
kind_name script.ScheduleTooLong = codes "ScheduleTooLong"
kind_name script.AfterSchedule = codes "AfterSchedule"
kind_name script.BlockMissing = codes "BlockMissing"
kind_name script.UnknownTable = codes "UnknownTable"
kind_name script.UnknownColumn = codes "UnknownColumn"
kind_name script.DuplicateName = codes "DuplicateName"
kind_name script.TooManyTables = codes "TooManyTables"
kind_name script.TooManyColumns = codes "TooManyColumns"
kind_name script.TooManyKeys = codes "TooManyKeys"
kind_name script.TooManyParts = codes "TooManyParts"
kind_name script.SecondPrimary = codes "SecondPrimary"
kind_name script.RowFull = codes "RowFull"
kind_name script.Arity = codes "Arity"
kind_name script.NotNumber = codes "NotNumber"
kind_name script.NullNotAllowed = codes "NullNotAllowed"
kind_name script.TypeMismatch = codes "TypeMismatch"
kind_name script.OutOfRange = codes "OutOfRange"
kind_name script.DuplicateKey = codes "DuplicateKey"

-- the members with the number of the row that is at fault, where one is
abbrev pub with_row : Option ℕ → Members → Members
with_row None members = members
with_row (Some number) members = put (codes "line") (count number) members

abbrev pub fault_data : Fault → Data
fault_data fault = object
    (put (codes "fault") (string (kind_name fault.kind))
    (with_row fault.line
    (put (codes "place") (count fault.place)
    no_members)))

abbrev pub fault_text : Fault → List ℕ
fault_text fault = line_of (fault_data fault)
