-- At a place of a text stands one piece, or one that is left open in one way.
use Rattle.std.proofs.Common.{◌≡◌, ℕ, ◌+◌, Bool, List, [], ◌∷◌, ◌++◌, length, take, drop, Ok, Err, refl, sym, ap, ◌∙◌, arith, length-append}
use Rattle.std.specs.Prelude.{if◌then◌else◌}
use Rattle.std.proofs.Math.Seq.{take-append_seam, drop-append_seam}
use Rattle.sa_lexer.specs.declared.piece.PieceEnd.{PieceEnd}
use Rattle.sa_lexer.specs.Fault.{fault}
use Rattle.sa_lexer.specs.Fault as lexer
use Rattle.sa_lexer.specs.Piece.{end_from}
use Rattle.sa_lexer.proofs.Results.{ok_is, err_is}
use Rattle.sa_script.specs.Fault.{Fault, fault_at}
use Rattle.sa_script.specs.Piece.{Piece, IsPiece, closing}
use Rattle.sa_script.specs.Reads.{lex_kind}
use Rattle.sa_script.specs.Says.{IsLeftOpen}
use Rattle.sa_script.proofs.lexing.Cutting.{end_found, open_found}

-- fronts of one list that are as long are the same
pub same_front : (front back other rest : List ℕ) → length front ≡ length other → front ++ back ≡ other ++ rest → (front ≡ other) × (back ≡ rest)
same_front front back other rest long e = (
  sym (take-append_seam front back) ∙ ap (λ (n : ℕ). take n (front ++ back)) long ∙ ap (take (length other)) e ∙ take-append_seam other rest,
  sym (drop-append_seam front back) ∙ ap (λ (n : ℕ). drop n (front ++ back)) long ∙ ap (drop (length other)) e ∙ drop-append_seam other rest,
)

abbrev piece_of : ℕ → List ℕ → Bool → Piece
piece_of place text closed = record { place = place; text = text; closed = closed }

made_of : (place other : ℕ) (text more : List ℕ) (closed ends : Bool) → place ≡ other → text ≡ more → closed ≡ ends
    → piece_of place text closed ≡ piece_of other more ends
made_of place other text more closed ends e f g = rw (e, f, g) refl

pub record SamePiece (piece other : Piece) (behind rest : List ℕ) : Type 0 where
  pub same : piece ≡ other
  pub back : behind ≡ rest

abbrev mark : Bool → List ℕ
mark closed = if closed then 59 ∷ [] else []

abbrev end_of : Piece → PieceEnd
end_of piece = record { end = piece.place + length piece.text; closed = piece.closed }

pub same_piece : (text : List ℕ) (piece other : Piece) (behind rest : List ℕ) → piece.place ≡ other.place → IsPiece text piece behind → IsPiece text other rest → SamePiece piece other behind rest
same_piece text piece other behind rest place is too =
    let found = end_found piece.place text (end_of piece) is.ends in
    let found_too = end_found other.place text (end_of other) too.ends in
    let ends : end_of piece ≡ end_of other = ok_is (end_of piece) (end_of other) (sym found ∙ ap (λ (n : ℕ). end_from 0 n (drop n text)) place ∙ found_too) in
    let closed : piece.closed ≡ other.closed = ap (λ (end : PieceEnd). end.closed) ends in
    let long : length piece.text ≡ length other.text = omega (arith, ap (λ (end : PieceEnd). end.end) ends, place) in
    let marks : length (closing piece) ≡ length (closing other) = ap (λ (b : Bool). length (mark b)) closed in
    let whole : (piece.text ++ closing piece) ++ behind ≡ (other.text ++ closing other) ++ rest = sym is.source ∙ ap (λ (n : ℕ). drop n text) place ∙ too.source in
    let both = same_front (piece.text ++ closing piece) behind (other.text ++ closing other) rest (omega (arith, long, marks, length-append piece.text (closing piece), length-append other.text (closing other))) whole in
    let texts = same_front piece.text (closing piece) other.text (closing other) long both.0 in
    record { same = made_of piece.place other.place piece.text other.text piece.closed other.closed place texts.0 closed; back = both.1 }

ok_or_err : {A : Type 0} {x : A} {f : lexer.Fault} → Ok x ≡ Err f → ⊥
ok_or_err e = cc

-- a piece that ends isn't left open
pub ends_or_open : (text : List ℕ) (piece : Piece) (behind : List ℕ) (fault : Fault) → IsPiece text piece behind → IsLeftOpen text piece.place fault → ⊥
ends_or_open text piece behind fault is left =
    let found = end_found piece.place text (end_of piece) is.ends in
    let open_ = open_found piece.place text left.kind left.place left.unclosed in
    ok_or_err (sym found ∙ open_)

-- what is left open is so in one way
pub same_open : (text : List ℕ) (from : ℕ) (fault other : Fault) → IsLeftOpen text from fault → IsLeftOpen text from other → fault ≡ other
same_open text from told other left too =
    let one = open_found from text left.kind left.place left.unclosed in
    let two = open_found from text too.kind too.place too.unclosed in
    let same : fault left.kind left.place ≡ fault too.kind too.place = err_is {A = PieceEnd} (fault left.kind left.place) (fault too.kind too.place) (sym one ∙ two) in
    left.fault_is ∙ ap (λ (f : lexer.Fault). fault_at (lex_kind f.kind) f.place) same ∙ sym too.fault_is
