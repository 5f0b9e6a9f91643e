-- A LOAD DATA puts one list of rows into its table, or has one fault.
use Rattle.std.proofs.Common.{◌≡◌, ℕ, ◌+◌, Bool, true, false, List, [], ◌∷◌, ◌++◌, length, take, Some, refl, sym, ap, ◌∙◌, subst, inl, inr, ◌⊎◌, arith, append_assoc, length-append}
use Rattle.std.specs.Prelude.{slice_get, slice_set, slice_index}
use Rattle.sa_ast.specs.declared.directive.NumberTree.{NumberTree}
use Rattle.sa_ast.specs.declared.name.NameTree.{NameTree}
use Rattle.sa_load.specs.declared.fault.LoadCause.{LoadCause}
use Rattle.sa_load.specs.Csv.{records_of, Fields}
use Rattle.sa_load.specs.Load.{LoadsFirst, causes_at, with_records}
use Rattle.sa_table.specs.Table.{Table, table_at}
use Rattle.sa_script.specs.Fault.{Fault, fault_at}
use Rattle.sa_script.specs.declared.fault.ScriptKind.TheVariants.{BlockMissing}
use Rattle.sa_script.specs.Load.{IsLineEnd, HasBlock, HasNoLineEnd, HasShortBlock, HasNoBlock, LoadsBlock, HasBadRecord, CantLoadBlock, Loads, IsBlockMissing, HasBadBlock, CantLoad, cause_kind}
use Rattle.sa_script.specs.Named.{table_named}
use Rattle.sa_script.specs.Piece.{Piece, place_behind}
use Rattle.sa_script.proofs.one_answer.Firsts.{same_first, told_same, none_told, nothing_first}
use Rattle.sa_script.proofs.one_answer.Pieces.{same_front}
use Rattle.sa_script.proofs.one_answer.Setup.{row_fault_same}

closed_or_not : (closed : Bool) → closed ≡ true → closed ≡ false → ⊥
closed_or_not closed e f = cc

-- ---- the block

first_of : (line_end rest : List ℕ) → IsLineEnd line_end → ((line_end ≡ 10 ∷ []) × (slice_index (line_end ++ rest) 0 ≡ 10)) ⊎ ((line_end ≡ 13 ∷ 10 ∷ []) × (slice_index (line_end ++ rest) 0 ≡ 13))
first_of line_end rest (inl e) = inl (e, ap (λ (bytes : List ℕ). slice_index (bytes ++ rest) 0) e)
first_of line_end rest (inr e) = inr (e, ap (λ (bytes : List ℕ). slice_index (bytes ++ rest) 0) e)

-- a text begins with one line end
same_line_end : (line_end other rest left : List ℕ) → IsLineEnd line_end → IsLineEnd other → line_end ++ rest ≡ other ++ left → line_end ≡ other
same_line_end line_end other rest left is too e =
    let first = ap (λ (bytes : List ℕ). slice_index bytes 0) e in
    elim (first_of line_end rest is) [
      | inl a ↦ elim (first_of other left too) [ inl b ↦ a.0 ∙ sym b.0 | inr b ↦ absurd (omega (arith, a.1, b.1, first)) ]
      | inr a ↦ elim (first_of other left too) [ inl b ↦ absurd (omega (arith, a.1, b.1, first)) | inr b ↦ a.0 ∙ sym b.0 ]
    ]

record SameBlock (line_end other block more : List ℕ) : Type 0 where
  line : line_end ≡ other
  bytes : block ≡ more

same_block : (behind : List ℕ) (count : ℕ) (line_end other block more rest left : List ℕ) → HasBlock behind count line_end block rest → HasBlock behind count other more left → SameBlock line_end other block more
same_block behind count line_end other block more rest left h too =
    let parted : line_end ++ (block ++ rest) ≡ other ++ (more ++ left) = sym (append_assoc line_end block rest) ∙ sym h.source ∙ too.source ∙ append_assoc other more left in
    let line = same_line_end line_end other (block ++ rest) (more ++ left) h.ends_line too.ends_line parted in
    let behind_line = same_front line_end (block ++ rest) other (more ++ left) (ap (λ (bytes : List ℕ). length bytes) line) parted in
    let blocks = same_front block rest more left (h.long ∙ sym too.long) behind_line.1 in
    record { line = line; bytes = blocks.0 }

no_line_or_block : (behind : List ℕ) (count : ℕ) (line_end block rest : List ℕ) → HasNoLineEnd behind → HasBlock behind count line_end block rest → ⊥
no_line_or_block behind count line_end block rest none h = none line_end (block ++ rest) h.ends_line (h.source ∙ append_assoc line_end block rest)

short_or_block : (behind : List ℕ) (count : ℕ) (line_end other block rest : List ℕ) → HasShortBlock behind count other → HasBlock behind count line_end block rest → ⊥
short_or_block behind count line_end other block rest short h =
    let parted : line_end ++ (block ++ rest) ≡ other ++ short.rest = sym (append_assoc line_end block rest) ∙ sym h.source ∙ short.source in
    let line = same_line_end line_end other (block ++ rest) short.rest h.ends_line short.ends_line parted in
    let behind_line = same_front line_end (block ++ rest) other short.rest (ap (λ (bytes : List ℕ). length bytes) line) parted in
    absurd (omega (arith, h.long, short.short, ap (λ (bytes : List ℕ). length bytes) behind_line.1, length-append block rest))

missing_or_block : (behind : List ℕ) (count begins : ℕ) (line_end block rest : List ℕ) → HasNoBlock behind count begins → HasBlock behind count line_end block rest → ⊥
missing_or_block behind count begins line_end block rest (inl none) h = no_line_or_block behind count line_end block rest none.1 h
missing_or_block behind count begins line_end block rest (inr short) h = short_or_block behind count line_end short.0 block rest short.1 h

same_missing : (behind : List ℕ) (count begins other : ℕ) → HasNoBlock behind count begins → HasNoBlock behind count other → begins ≡ other
same_missing behind count begins other (inl none) (inl too) = none.0 ∙ sym too.0
same_missing behind count begins other (inl none) (inr short) = absurd (none.1 short.0 short.1.rest short.1.ends_line short.1.source)
same_missing behind count begins other (inr short) (inl none) = absurd (none.1 short.0 short.1.rest short.1.ends_line short.1.source)
same_missing behind count begins other (inr short) (inr too) =
    let line = same_line_end short.0 too.0 short.1.rest too.1.rest short.1.ends_line too.1.ends_line (sym short.1.source ∙ too.1.source) in
    short.2 ∙ ap (λ (bytes : List ℕ). length bytes) line ∙ sym too.2

same_block_missing : (piece : Piece) (count : NumberTree) (behind : List ℕ) (f g : Fault) → IsBlockMissing piece count behind f → IsBlockMissing piece count behind g → f ≡ g
same_block_missing piece count behind f g (inl unclosed) (inl too) = unclosed.1 ∙ sym too.1
same_block_missing piece count behind f g (inl unclosed) (inr h) = absurd (closed_or_not piece.closed h.1 unclosed.0)
same_block_missing piece count behind f g (inr h) (inl unclosed) = absurd (closed_or_not piece.closed h.1 unclosed.0)
same_block_missing piece count behind f g (inr h) (inr too) =
    let begins = same_missing behind count.number h.0 too.0 h.2 too.2 in
    h.3 ∙ ap (λ (n : ℕ). fault_at BlockMissing (place_behind piece + n)) begins ∙ sym too.3

there_or_missing : (piece : Piece) (count : NumberTree) (behind line_end block rest : List ℕ) (f : Fault) → piece.closed ≡ true → HasBlock behind count.number line_end block rest → IsBlockMissing piece count behind f → ⊥
there_or_missing piece count behind line_end block rest f closed is (inl unclosed) = closed_or_not piece.closed closed unclosed.0
there_or_missing piece count behind line_end block rest f closed is (inr h) = missing_or_block behind count.number h.0 line_end block rest h.2 is

-- ---- its records

-- the record at this place is faulty
abbrev HasCauseAt : Table → List Fields → ℕ → Type 0
HasCauseAt table records index = (cause : LoadCause) × (slice_get (causes_at table records index) 0 ≡ Some cause)

same_bad_record : (table : Table) (begins : ℕ) (block : List ℕ) (f g : Fault) → HasBadRecord table begins block f → HasBadRecord table begins block g → f ≡ g
same_bad_record table begins block f g h too =
    let records = records_of block in
    let index : h.index ≡ too.index = same_first (HasCauseAt table records) h.index too.index (h.cause, h.stops.first) (too.cause, too.stops.first)
    (λ k lt bad. nothing_first (causes_at table records k) bad.0 (h.stops.loaded.faultless k lt) bad.1)
    (λ k lt bad. nothing_first (causes_at table records k) bad.0 (too.stops.loaded.faultless k lt) bad.1) in
    let cause : h.cause ≡ too.cause = told_same (slice_get (causes_at table records h.index) 0) h.cause too.cause h.stops.first (ap (λ (n : ℕ). slice_get (causes_at table records n) 0) index ∙ too.stops.first) in
    h.fault_is ∙ row_fault_same (cause_kind h.cause) (cause_kind too.cause) begins begins (h.index + 1) (too.index + 1) (ap cause_kind cause) refl (ap (λ (n : ℕ). n + 1) index) ∙ sym too.fault_is

all_or_bad : (table after : Table) (begins : ℕ) (block : List ℕ) (f : Fault) → LoadsFirst (length (records_of block)) table (records_of block) after → HasBadRecord table begins block f → ⊥
all_or_bad table after begins block f loads h = nothing_first (causes_at table (records_of block) h.index) h.cause (loads.faultless h.index h.stops.there) h.stops.first

same_unloaded_block : (table : Table) (begins : ℕ) (block : List ℕ) (f g : Fault) → CantLoadBlock table begins block f → CantLoadBlock table begins block g → f ≡ g
same_unloaded_block table begins block f g (inl bad) (inl too) = same_bad_record table begins block f g bad too
same_unloaded_block table begins block f g (inl bad) (inr ends) = absurd (all_or_bad table ends.after begins block f ends.loads bad)
same_unloaded_block table begins block f g (inr ends) (inl bad) = absurd (all_or_bad table ends.after begins block g ends.loads bad)
same_unloaded_block table begins block f g (inr ends) (inr too) = ends.fault_is ∙ sym too.fault_is

loaded_or_not : (table after : Table) (begins : ℕ) (block : List ℕ) (f : Fault) → LoadsBlock table block after → CantLoadBlock table begins block f → ⊥
loaded_or_not table after begins block f is (inl bad) = all_or_bad table after begins block f is.loads bad
loaded_or_not table after begins block f is (inr ends) = ends.utf8 is.utf8

-- ---- all of it

same_bad_block : (table : Table) (piece : Piece) (count : NumberTree) (behind : List ℕ) (f g : Fault) → HasBadBlock table piece count behind f → HasBadBlock table piece count behind g → f ≡ g
same_bad_block table piece count behind f g h too =
    let same = same_block behind count.number too.line_end h.line_end too.block h.block too.rest h.rest too.stands h.stands in
    same_unloaded_block table (place_behind piece + length h.line_end) h.block f g h.cant
    (subst (λ (bytes : List ℕ). CantLoadBlock table (place_behind piece + length h.line_end) bytes g) same.bytes
    (subst (λ (bytes : List ℕ). CantLoadBlock table (place_behind piece + length bytes) too.block g) same.line too.cant))

abbrev CantLoadInto : Table → Piece → NumberTree → List ℕ → Fault → Type 0
CantLoadInto table piece count behind fault = IsBlockMissing piece count behind fault ⊎ HasBadBlock table piece count behind fault

same_unloaded_into : (table : Table) (piece : Piece) (count : NumberTree) (behind : List ℕ) (f g : Fault) → CantLoadInto table piece count behind f → CantLoadInto table piece count behind g → f ≡ g
same_unloaded_into table piece count behind f g (inl missing) (inl too) = same_block_missing piece count behind f g missing too
same_unloaded_into table piece count behind f g (inl missing) (inr h) = absurd (there_or_missing piece count behind h.line_end h.block h.rest f h.closed h.stands missing)
same_unloaded_into table piece count behind f g (inr h) (inl missing) = absurd (there_or_missing piece count behind h.line_end h.block h.rest g h.closed h.stands missing)
same_unloaded_into table piece count behind f g (inr h) (inr too) = same_bad_block table piece count behind f g h too

pub same_unloaded : (tables : List Table) (piece : Piece) (name : NameTree) (count : NumberTree) (behind : List ℕ) (f g : Fault) → CantLoad tables piece name count behind f → CantLoad tables piece name count behind g → f ≡ g
same_unloaded tables piece name count behind f g (inl unknown) (inl too) = unknown.1 ∙ sym too.1
same_unloaded tables piece name count behind f g (inl unknown) (inr h) = absurd (none_told (table_named tables name.name) h.0 unknown.0 h.1)
same_unloaded tables piece name count behind f g (inr h) (inl unknown) = absurd (none_told (table_named tables name.name) h.0 unknown.0 h.1)
same_unloaded tables piece name count behind f g (inr h) (inr too) =
    let table : too.0 ≡ h.0 = told_same (table_named tables name.name) too.0 h.0 too.1 h.1 in
    same_unloaded_into (table_at tables h.0) piece count behind f g h.2 (subst (λ (n : ℕ). CantLoadInto (table_at tables n) piece count behind g) table too.2)

-- a table with the rows of all records of a block
abbrev all_loaded : Table → List ℕ → Table
all_loaded table block = with_records table (take (length (records_of block)) (records_of block))

pub record SameLoaded (after others : List Table) (skipped other : ℕ) : Type 0 where
  pub tables : after ≡ others
  pub far : skipped ≡ other

pub same_loaded : (tables : List Table) (piece : Piece) (name : NameTree) (count : NumberTree) (behind : List ℕ) (after others : List Table) (skipped other : ℕ)
    → Loads tables piece name count behind after skipped → Loads tables piece name count behind others other → SameLoaded after others skipped other
same_loaded tables piece name count behind after others skipped other h too =
    let table : h.table ≡ too.table = told_same (table_named tables name.name) h.table too.table h.named too.named in
    let same = same_block behind count.number h.line_end too.line_end h.block too.block h.rest too.rest h.stands too.stands in
    let loaded : h.loaded ≡ too.loaded =
    h.loads.loads.rows ∙ ap (λ (n : ℕ). all_loaded (table_at tables n) h.block) table ∙ ap (all_loaded (table_at tables too.table)) same.bytes ∙ sym too.loads.loads.rows in
    record {
      tables = h.after_is ∙ ap (λ (n : ℕ). slice_set tables n h.loaded) table ∙ ap (λ (t : Table). slice_set tables too.table t) loaded ∙ sym too.after_is;
      far = h.skipped_is ∙ ap (λ (bytes : List ℕ). length bytes + length h.block) same.line ∙ ap (λ (bytes : List ℕ). length too.line_end + length bytes) same.bytes ∙ sym too.skipped_is;
    }

loads_into_or_not : (table after : Table) (piece : Piece) (count : NumberTree) (behind line_end block rest : List ℕ) (f : Fault) → piece.closed ≡ true → HasBlock behind count.number line_end block rest → LoadsBlock table block after
    → CantLoadInto table piece count behind f → ⊥
loads_into_or_not table after piece count behind line_end block rest f closed stands is (inl missing) = there_or_missing piece count behind line_end block rest f closed stands missing
loads_into_or_not table after piece count behind line_end block rest f closed stands is (inr h) =
    let same = same_block behind count.number h.line_end line_end h.block block h.rest rest h.stands stands in
    loaded_or_not table after (place_behind piece + length h.line_end) block f is (subst (λ (bytes : List ℕ). CantLoadBlock table (place_behind piece + length h.line_end) bytes f) same.bytes h.cant)

pub loads_or_not : (tables after : List Table) (piece : Piece) (name : NameTree) (count : NumberTree) (behind : List ℕ) (skipped : ℕ) (f : Fault)
    → Loads tables piece name count behind after skipped → CantLoad tables piece name count behind f → ⊥
loads_or_not tables after piece name count behind skipped f is (inl unknown) = none_told (table_named tables name.name) is.table unknown.0 is.named
loads_or_not tables after piece name count behind skipped f is (inr h) =
    let table : h.0 ≡ is.table = told_same (table_named tables name.name) h.0 is.table h.1 is.named in
    loads_into_or_not (table_at tables is.table) is.loaded piece count behind is.line_end is.block is.rest f is.closed is.stands is.loads (subst (λ (n : ℕ). CantLoadInto (table_at tables n) piece count behind f) table h.2)
