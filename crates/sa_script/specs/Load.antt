-- What a LOAD DATA of a script puts into its table: the block behind its `;`, whose records are
-- rows, and its fault.
use Rattle.std.specs.Prelude.{◌≡◌, ℕ, ◌+◌, ◌<◌, ◌⊎◌, true, false, List, [], ◌∷◌, ◌++◌, length, slice_set, Some}
use Rattle.std.specs.Str.{IsUtf8}
use Rattle.sa_ast.specs.declared.directive.NumberTree.{NumberTree}
use Rattle.sa_ast.specs.declared.name.NameTree.{NameTree}
use Rattle.sa_load.specs.declared.fault.LoadCause.{LoadCause}
use Rattle.sa_load.specs.declared.fault.LoadCause.TheVariants as load
use Rattle.sa_load.specs.Csv.{records_of}
use Rattle.sa_load.specs.Load.{LoadsFirst, StopsAt}
use Rattle.sa_table.specs.Table.{Table, table_at}
use Rattle.sa_script.specs.declared.fault.ScriptKind.{ScriptKind}
use Rattle.sa_script.specs.declared.fault.ScriptKind.TheVariants as script
use Rattle.sa_script.specs.Fault.{Fault, fault_at, row_fault_at}
use Rattle.sa_script.specs.Named.{table_named, IsUnknown}
use Rattle.sa_script.specs.Piece.{Piece, place_behind}

-- A line end: LF, or CR LF.
abbrev pub IsLineEnd : List ℕ → Type 0
IsLineEnd bytes = (bytes ≡ 10 ∷ []) ⊎ (bytes ≡ 13 ∷ 10 ∷ [])

-- Behind the `;` stand a line end, a block of so many bytes, and the rest of the script.
pub record HasBlock (behind : List ℕ) (count : ℕ) (line_end block rest : List ℕ) : Type 0 where
  pub ends_line : IsLineEnd line_end
  pub long : length block ≡ count
  pub source : behind ≡ line_end ++ block ++ rest

-- Behind the `;` no line end stands.
abbrev pub HasNoLineEnd : List ℕ → Type 0
HasNoLineEnd behind = (line_end rest : List ℕ) → IsLineEnd line_end → behind ≡ line_end ++ rest → ⊥

-- Behind the `;` stands a line end, and then fewer bytes than the block has.
pub record HasShortBlock (behind : List ℕ) (count : ℕ) (line_end : List ℕ) : Type 0 where
  pub rest : List ℕ
  pub ends_line : IsLineEnd line_end
  pub source : behind ≡ line_end ++ rest
  pub short : length rest < count

-- Behind the `;` no block of so many bytes stands. It would begin so many bytes behind the `;`.
abbrev pub HasNoBlock : List ℕ → ℕ → ℕ → Type 0
HasNoBlock behind count begins =
    ((begins ≡ 0) × HasNoLineEnd behind)
    ⊎ ((line_end : List ℕ) × HasShortBlock behind count line_end × (begins ≡ length line_end))

-- how the cause of a record is called
abbrev pub cause_kind : LoadCause → ScriptKind
cause_kind load.RowFull = script.RowFull
cause_kind load.Arity = script.Arity
cause_kind load.NotUtf8 = script.NotUtf8
cause_kind load.NotNumber = script.NotNumber
cause_kind (load.NullNotAllowed column) = script.NullNotAllowed
cause_kind (load.TypeMismatch column) = script.TypeMismatch
cause_kind (load.OutOfRange column) = script.OutOfRange
cause_kind (load.TooLong column) = script.TooLong
cause_kind (load.DuplicateKey row) = script.DuplicateKey

-- A block is loaded to its end, and ends with a whole character.
pub record LoadsBlock (before : Table) (block : List ℕ) (after : Table) : Type 0 where
  pub utf8 : IsUtf8 block
  pub loads : LoadsFirst (length (records_of block)) before (records_of block) after

-- The first record of a block that can't be a row, by its number from 1 on. The fault stands where
-- the block begins.
pub record HasBadRecord (table : Table) (begins : ℕ) (block : List ℕ) (fault : Fault) : Type 0 where
  pub index : ℕ
  pub cause : LoadCause
  pub after : Table
  pub stops : StopsAt index cause table (records_of block) after
  pub fault_is : fault ≡ row_fault_at (cause_kind cause) begins (index + 1)

-- Each record of a block can be a row, and the block ends inside a character.
pub record EndsInCharacter (table : Table) (begins : ℕ) (block : List ℕ) (fault : Fault) : Type 0 where
  pub after : Table
  pub loads : LoadsFirst (length (records_of block)) table (records_of block) after
  pub utf8 : IsUtf8 block → ⊥
  pub fault_is : fault ≡ row_fault_at script.NotUtf8 begins (length (records_of block))

-- A block that is there has this fault first.
abbrev pub CantLoadBlock : Table → (begins : ℕ) → List ℕ → Fault → Type 0
CantLoadBlock table begins block fault =
    HasBadRecord table begins block fault ⊎ EndsInCharacter table begins block fault

-- A LOAD DATA puts the rows of its block's records at the end of its table. The next piece begins
-- so many bytes behind the `;`.
pub record Loads (tables : List Table) (piece : Piece) (name : NameTree) (count : NumberTree)
    (behind : List ℕ) (after : List Table) (skipped : ℕ) : Type 0 where
  pub table : ℕ
  pub named : table_named tables name.name ≡ Some table
  pub closed : piece.closed ≡ true
  pub line_end : List ℕ
  pub block : List ℕ
  pub rest : List ℕ
  pub stands : HasBlock behind count.number line_end block rest
  pub loaded : Table
  pub loads : LoadsBlock (table_at tables table) block loaded
  pub after_is : after ≡ slice_set tables table loaded
  pub skipped_is : skipped ≡ length line_end + length block

-- The block isn't there: no `;` ends the piece, or no line end or too few bytes stand behind it.
abbrev pub IsBlockMissing : Piece → NumberTree → List ℕ → Fault → Type 0
IsBlockMissing piece count behind fault =
    ((piece.closed ≡ false) × (fault ≡ fault_at script.BlockMissing (place_behind piece)))
    ⊎ ((begins : ℕ) × (piece.closed ≡ true) × HasNoBlock behind count.number begins
    × (fault ≡ fault_at script.BlockMissing (place_behind piece + begins)))

-- The block is there, and has a fault.
pub record HasBadBlock (table : Table) (piece : Piece) (count : NumberTree) (behind : List ℕ)
    (fault : Fault) : Type 0 where
  pub line_end : List ℕ
  pub block : List ℕ
  pub rest : List ℕ
  pub closed : piece.closed ≡ true
  pub stands : HasBlock behind count.number line_end block rest
  pub cant : CantLoadBlock table (place_behind piece + length line_end) block fault

-- A LOAD DATA has this fault first, from left to right: its table, its block, a record of it.
abbrev pub CantLoad : List Table → Piece → NameTree → NumberTree → List ℕ → Fault → Type 0
CantLoad tables piece name count behind fault =
    IsUnknown tables name fault
    ⊎ ((table : ℕ) × (table_named tables name.name ≡ Some table)
    × (IsBlockMissing piece count behind fault
    ⊎ HasBadBlock (table_at tables table) piece count behind fault))
