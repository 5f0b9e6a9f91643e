-- Where the block of a LOAD DATA stands, and where it ends.
use Rattle.std.proofs.Common.{◌≡◌, ℕ, ◌+◌, ◌-◌, ◌<◌, ◌≤◌, true, Some, None, Ok, List, ◌++◌, length, get_or, take, drop, refl, sym, ap, subst, ◌∙◌, arith, inl, inr, append_assoc, length-drop}
use Rattle.std.specs.Prelude.{slice_range}
use Rattle.std.specs.Str.{IsUtf8, IsCharBoundary}
use Rattle.std.proofs.lemmas.List.{take-append-drop, take_rest, length-take-le, drop-drop, get_or-take, get_or-drop}
use Rattle.std.proofs.lemmas.Str.{IsUtf8-drop, IsCharBoundary-from_take, IsCharBoundary-from_rest, IsCharBoundary-after_ascii}
use Rattle.sa_ast.specs.declared.directive.NumberTree.{NumberTree}
use Rattle.sa_load.specs.Csv.{records_of}
use Rattle.sa_load.specs.Load.{LoadsFirst}
use Rattle.sa_load.specs.Load as csv
use Rattle.sa_table.specs.Table.{Table}
use Rattle.sa_script.specs.declared.fault.ScriptFault.{ScriptFault}
use Rattle.sa_script.specs.declared.fault.ScriptFault.TheVariants.{Bad}
use Rattle.sa_script.specs.declared.fault.ScriptKind.TheVariants.{BlockMissing, NotUtf8}
use Rattle.sa_script.specs.declared.load.Block.{Block}
use Rattle.sa_script.specs.Fault.{fault_at, row_fault_at}
use Rattle.sa_script.specs.Load.{IsLineEnd, HasBlock, HasNoLineEnd, IsBlockMissing, CantLoadBlock, LoadsBlock}
use Rattle.sa_script.specs.Piece.{Piece, place_behind}
use Rattle.sa_script.specs.inner.Block.{StandsIn}
use Rattle.sa_script.specs.inner.Tells.{Tells}

-- a block in UTF-8 ends where its script may be cut
pub utf8_ends : (script : List ℕ) (start end : ℕ) → IsUtf8 script → start ≤ end → end ≤ length script → IsCharBoundary script start → IsUtf8 (slice_range script start end) → IsCharBoundary script end
utf8_ends script start end utf8 from to cut block =
    let rest : IsUtf8 (drop start script) = IsUtf8-drop script start utf8 cut in
    let within : end - start ≤ length (drop start script) = omega (arith, length-drop start script) in
    let here = IsCharBoundary-from_take (drop start script) (end - start) rest within block in
    let there : start + (end - start) ≡ end = omega arith in
    subst (λ (n : ℕ). IsCharBoundary script n) there (IsCharBoundary-from_rest script start (end - start) (omega arith) here)

-- the last byte of a line end
last_of : (bytes : List ℕ) → IsLineEnd bytes → (last : ℕ) × (length bytes ≡ last + 1) × (get_or bytes last 0 ≡ 10)
last_of bytes h = elim h [ inl e ↦ (0, ap length e, ap (λ (b : List ℕ). get_or b 0 0) e) | inr e ↦ (1, ap length e, ap (λ (b : List ℕ). get_or b 1 0) e) ]

-- a script may be cut behind a line end
pub line_end_cut : (script : List ℕ) (from len : ℕ) → IsUtf8 script → from + len ≤ length script → IsLineEnd (take len (drop from script)) → IsCharBoundary script (from + len)
line_end_cut script from len utf8 within ends =
    let rest = drop from script in
    let long : length (take len rest) ≡ len = length-take-le len rest (omega (arith, length-drop from script)) in
    let last = last_of (take len rest) ends in
    let before : last.0 < len = omega (arith, long, last.1) in
    let ten : get_or script (from + last.0) 0 ≡ 10 = sym (get_or-drop from script last.0 0) ∙ sym (get_or-take len rest last.0 0 before) ∙ last.2 in
    let there : (from + last.0) + 1 ≡ from + len = omega (arith, long, last.1) in
    subst (λ (n : ℕ). IsCharBoundary script n) there (IsCharBoundary-after_ascii script (from + last.0) utf8 (omega arith) (omega (arith, ten)))

pub line_end_long : (script : List ℕ) (piece : Piece) (count : NumberTree) (block : Block) → place_behind piece ≤ length script → (h : StandsIn script piece count block)
    → length (take h.len (drop (place_behind piece) script)) ≡ h.len
line_end_long script piece count block behind h =
    length-take-le h.len (drop (place_behind piece) script) (omega (arith, length-drop (place_behind piece) script, h.start_is, h.end_is, h.within))

-- the block stands behind the line end, and the rest of the script behind it
pub block_stands : (script : List ℕ) (piece : Piece) (count : NumberTree) (block : Block) → place_behind piece ≤ length script → (h : StandsIn script piece count block)
    → HasBlock (drop (place_behind piece) script) count.number (take h.len (drop (place_behind piece) script)) (slice_range script block.start block.end) (drop block.end script)
block_stands script piece count block behind h =
    let place = place_behind piece in
    let all = drop place script in
    let size : block.end - block.start ≡ count.number = omega (arith, h.end_is) in
    let room : block.end - block.start ≤ length (drop block.start script) = omega (arith, length-drop block.start script, h.within) in
    let line = take-append-drop h.len all in
    let start : drop h.len all ≡ drop block.start script = drop-drop h.len place script ∙ ap (λ (n : ℕ). drop n script) (omega (arith, h.start_is)) in
    let end : drop (block.end - block.start) (drop block.start script) ≡ drop block.end script = drop-drop (block.end - block.start) block.start script ∙ ap (λ (n : ℕ). drop n script) (omega (arith, h.end_is)) in
    let parts = take-append-drop (block.end - block.start) (drop block.start script) in
    record {
      ends_line = h.ends_line;
      long = length-take-le (block.end - block.start) (drop block.start script) room ∙ size;
      source =
          sym line ∙ ap (λ (more : List ℕ). take h.len all ++ more) (start ∙ sym parts ∙ ap (λ (more : List ℕ). slice_range script block.start block.end ++ more) end)
          ∙ sym (append_assoc (take h.len all) (slice_range script block.start block.end) (drop block.end script));
    }

-- what stands behind a place, however it was cut
pub rest_is : (bytes script : List ℕ) (from place : ℕ) → bytes ≡ script → from ≡ place → take (length bytes - from) (drop from bytes) ≡ drop place script
rest_is bytes script from place same there = take_rest bytes from ∙ ap (drop from) same ∙ ap (λ (n : ℕ). drop n script) there

-- no line end stands behind the piece
pub missing_line_end : (piece : Piece) (count : NumberTree) (behind : List ℕ) (told : ScriptFault) (place : ℕ) → told ≡ Bad BlockMissing place None → place ≡ place_behind piece
    → piece.closed ≡ true → HasNoLineEnd behind → Tells (IsBlockMissing piece count behind) told
missing_line_end piece count behind told place e there closed none =
    let same : place ≡ place_behind piece + 0 = omega (arith, there) in
    subst (Tells (IsBlockMissing piece count behind)) (sym e) (inr (0, closed, inl (refl, none), ap (fault_at BlockMissing) same))

-- too few bytes stand behind the line end
pub missing_bytes : (piece : Piece) (count : NumberTree) (script : List ℕ) (told : ScriptFault) (place len : ℕ) → told ≡ Bad BlockMissing (place + len) None → place ≡ place_behind piece
    → piece.closed ≡ true → len ≤ length (drop (place_behind piece) script) → IsLineEnd (take len (drop (place_behind piece) script)) → length script - (place + len) < count.number
    → Tells (IsBlockMissing piece count (drop (place_behind piece) script)) told
missing_bytes piece count script told place len e there closed within ends short =
    let behind = drop (place_behind piece) script in
    let long : length (take len behind) ≡ len = length-take-le len behind within in
    let left : length (drop len behind) < count.number = omega (arith, length-drop len behind, length-drop (place_behind piece) script, there, short) in
    subst (Tells (IsBlockMissing piece count behind)) (sym e)
    (inr (len, closed, inr (take len behind, record { rest = drop len behind; ends_line = ends; source = sym (take-append-drop len behind); short = left }, sym long), ap (λ (n : ℕ). fault_at BlockMissing (n + len)) there))

-- a block that was loaded and ends inside a character
pub not_utf8_told : (script : List ℕ) (start end loaded : ℕ) (before after : Table) (told : ScriptFault) → told ≡ Bad NotUtf8 start (Some loaded)
    → csv.Loads before (records_of (slice_range script start end)) after (Ok loaded) → (IsUtf8 (slice_range script start end) → ⊥)
    → Tells (CantLoadBlock before start (slice_range script start end)) told
not_utf8_told script start end loaded before after told e loads not_utf8 =
    let block = slice_range script start end in
    subst (Tells (CantLoadBlock before start block)) (sym e)
    (inr (record {
      after = after;
      loads = subst (λ (n : ℕ). LoadsFirst n before (records_of block) after) loads.0 loads.1;
      utf8 = not_utf8;
      fault_is = ap (row_fault_at NotUtf8 start) loads.0;
    }))

-- a block that was loaded to its end
pub block_loaded : (script : List ℕ) (start end loaded : ℕ) (before after : Table)
    → csv.Loads before (records_of (slice_range script start end)) after (Ok loaded) → IsUtf8 (slice_range script start end) → LoadsBlock before (slice_range script start end) after
block_loaded script start end loaded before after loads utf8 =
    record { utf8 = utf8; loads = subst (λ (n : ℕ). LoadsFirst n before (records_of (slice_range script start end)) after) loads.0 loads.1 }
