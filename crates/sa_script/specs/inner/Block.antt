-- Where the block of a LOAD DATA stands in its script.
use Rattle.std.specs.Prelude.{◌≡◌, ℕ, ◌+◌, ◌≤◌, true, List, length, drop, take, Option, Some, None}
use Rattle.sa_ast.specs.declared.directive.NumberTree.{NumberTree}
use Rattle.sa_load.specs.declared.fault.LoadFault.{LoadFault}
use Rattle.sa_load.specs.declared.fault.LoadFault.TheVariants as load
use Rattle.sa_script.specs.declared.fault.ScriptFault.{ScriptFault}
use Rattle.sa_script.specs.declared.fault.ScriptFault.TheVariants.{Bad, OutOfMemory}
use Rattle.sa_script.specs.declared.load.Block.{Block}
use Rattle.sa_script.specs.Load.{IsLineEnd, HasNoLineEnd, cause_kind}
use Rattle.sa_script.specs.Piece.{Piece, place_behind}

-- The line end at the front, if one is there, by its length.
abbrev pub FindsLineEnd : List ℕ → Option ℕ → Type 0
FindsLineEnd bytes None = HasNoLineEnd bytes
FindsLineEnd bytes (Some len) = (len ≤ length bytes) × IsLineEnd (take len bytes)

-- A block of so many bytes stands here, behind a piece that its `;` ends and a line end.
pub record StandsIn (script : List ℕ) (piece : Piece) (count : NumberTree)
    (block : Block) : Type 0 where
  pub len : ℕ
  pub closed : piece.closed ≡ true
  pub start_is : block.start ≡ place_behind piece + len
  pub ends_line : IsLineEnd (take len (drop (place_behind piece) script))
  pub end_is : block.end ≡ block.start + count.number
  pub within : block.end ≤ length script

-- a fault of a record, at its block's place
abbrev pub load_fault : ℕ → LoadFault → ScriptFault
load_fault place (load.Bad number cause) = Bad (cause_kind cause) place (Some number)
load_fault place load.OutOfMemory = OutOfMemory
