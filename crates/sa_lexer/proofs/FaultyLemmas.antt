-- The first fault that reading comes to is the text's: tokens and blanks alone stand up to it.
use Rattle.std.proofs.Common.{◌≡◌, ℕ, zero, suc, ◌+◌, ◌-◌, ◌<◌, ◌≤◌, List, [], ◌∷◌, ◌++◌, length, take, drop, Option, Some, None, Result, Ok, Err, true, refl, sym, ap, ◌∙◌, subst, arith, inl, inr, append_assoc, length-append, add-zero}
use Rattle.std.specs.Prelude.{◌==◌}
use Rattle.std.specs.List.{concat}
use Rattle.std.proofs.lemmas.Bool.{eqb-false}
use Rattle.std.proofs.lemmas.List.{take-append-drop, length-take-le}
use Rattle.sa_lexer.specs.declared.fault.LexFault.{LexFault}
use Rattle.sa_lexer.specs.declared.fault.LexFault.TheVariants.{Bad, OutOfMemory}
use Rattle.sa_lexer.specs.declared.lexeme.Lexeme.{Lexeme}
use Rattle.sa_lexer.specs.declared.piece.PieceEnd.{PieceEnd}
use Rattle.sa_lexer.specs.declared.token.Token.{Token}
use Rattle.sa_lexer.specs.declared.token.TokenKind.{TokenKind}
use Rattle.sa_lexer.specs.Fault.{Fault, fault, Gives, Answers, ◌>>=◌}
use Rattle.sa_lexer.specs.Opening.{len_at}
use Rattle.sa_lexer.specs.Lexeme.{lexeme_at}
use Rattle.sa_lexer.specs.Tokens.{token_of, tokens_from, tokens_of}
use Rattle.sa_lexer.specs.Grammar.{Follow}
use Rattle.sa_lexer.specs.Piece.{end_from, piece_end_at, IsStretch}
use Rattle.sa_lexer.specs.Faulty.{IsWrong, IsTokenOrBlank, IsFaulty, TellsFault, LeavesOpen, IsOpenPiece, TellsOpen}
use Rattle.sa_lexer.proofs.Lexemes.{IsKind, IsLexeme, lexeme_is}
use Rattle.sa_lexer.proofs.OpenLemmas.{OpensAt, len_wrong}
use Rattle.sa_lexer.proofs.Pieces.{IsPassed, len_passed}
use Rattle.sa_lexer.proofs.Results.{bind_err, chosen}
use Rattle.sa_lexer.proofs.WrongLemmas.{IsWrongAt, lexeme_wrong}

-- ---- a text

-- The bytes of a text from a place on are tokens and blanks, and then what the fault says.
record IsFaultyFrom (start : ℕ) (bytes : List ℕ) (f : Fault) : Type 0 where
  front : List (List ℕ)
  rest : List ℕ
  count : ℕ
  source : bytes ≡ concat front ++ rest
  before : Follow IsTokenOrBlank front rest
  there : f.place ≡ (start + length (concat front)) + count
  wrong : IsWrong f.kind rest count

faulty_here : (start : ℕ) (bytes : List ℕ) (f : Fault) → IsWrongAt start bytes f → IsFaultyFrom start bytes f
faulty_here start bytes f (count, there, wrong) =
    record { front = []; rest = bytes; count = count; source = refl; before = tt; there = omega (arith, there); wrong = wrong }

token_or_blank : (bytes after : List ℕ) (kind : Option TokenKind) → IsKind bytes after kind → IsTokenOrBlank bytes after
token_or_blank bytes after None is = inr is
token_or_blank bytes after (Some kind) is = inl (kind, is.0, is.1)

with_lexeme : (start : ℕ) (bytes : List ℕ) (lexeme : Lexeme) (f : Fault) → IsLexeme bytes lexeme → IsFaultyFrom (start + lexeme.len) (drop lexeme.len bytes) f → IsFaultyFrom start bytes f
with_lexeme start bytes lexeme f is h =
    let part = take lexeme.len bytes in
    let all : length part ≡ lexeme.len = length-take-le lexeme.len bytes is.within in
    record {
      front = part ∷ h.front;
      rest = h.rest;
      count = h.count;
      source = sym (take-append-drop lexeme.len bytes) ∙ ap (λ (more : List ℕ). part ++ more) h.source ∙ sym (append_assoc part (concat h.front) h.rest);
      before = (subst (IsTokenOrBlank part) h.source (token_or_blank part (drop lexeme.len bytes) lexeme.kind is.is), h.before);
      there = omega (arith, h.there, length-append part (concat h.front), all);
      wrong = h.wrong;
    }

from_rest : (start n byte : ℕ) (bytes : List ℕ) (f : Fault) → 0 < n → IsFaultyFrom ((start + 1) + (n - 1)) (drop (n - 1) bytes) f → IsFaultyFrom (start + n) (drop n (byte ∷ bytes)) f
from_rest start zero byte bytes f some h = absurd (omega arith)
from_rest start (suc k) byte bytes f some h =
    let back : suc k - 1 ≡ k = omega arith in
    let there : (start + 1) + k ≡ start + suc k = omega arith in
    subst (λ (n : ℕ). IsFaultyFrom n (drop k bytes) f) there (subst (λ (j : ℕ). IsFaultyFrom ((start + 1) + j) (drop j bytes) f) back h)

faulty_from : (inside start : ℕ) (bytes : List ℕ) (f : Fault) → inside ≤ length bytes → tokens_from inside start bytes ≡ Err f → IsFaultyFrom (start + inside) (drop inside bytes) f
unfolding tokens_from
faulty_from zero start [] f within e = absurd cc
faulty_from (suc inside) start [] f within e = absurd (omega arith)
faulty_from (suc inside) start (byte ∷ bytes) f within e =
    let there : (start + 1) + inside ≡ start + suc inside = omega arith in
    subst (λ (n : ℕ). IsFaultyFrom n (drop inside bytes) f) there (faulty_from inside (start + 1) bytes f (omega arith) e)
faulty_from zero start (byte ∷ bytes) f within e =
    subst (λ (n : ℕ). IsFaultyFrom n (byte ∷ bytes) f) (sym (add-zero start))
    (elim (bind_err (lexeme_at start (byte ∷ bytes)) (λ lexeme. tokens_from (lexeme.len - 1) (start + 1) bytes >>= λ tokens. Ok (token_of start (start + lexeme.len) lexeme.kind ++ tokens)) f e) [
      | inl here ↦ faulty_here start (byte ∷ bytes) f (lexeme_wrong start (byte ∷ bytes) f (omega arith) here)
      | inr (lexeme, read, later) ↦
          let is = lexeme_is start (byte ∷ bytes) lexeme (omega arith) read in
          elim (bind_err (tokens_from (lexeme.len - 1) (start + 1) bytes) (λ tokens. Ok (token_of start (start + lexeme.len) lexeme.kind ++ tokens)) f later) [
            | inl refused ↦
                with_lexeme start (byte ∷ bytes) lexeme f is
                (from_rest start lexeme.len byte bytes f is.some (faulty_from (lexeme.len - 1) (start + 1) bytes f (omega (arith, is.some, is.within)) refused))
            | inr (tokens, _, done) ↦ absurd cc
          ]
    ])

-- What reading a text tells of it is its fault.
faulty_text : (text : List ℕ) (f : Fault) → tokens_of text ≡ Err f → IsFaulty text f.kind f.place
faulty_text text f e =
    let h = faulty_from 0 0 text f (omega arith) e in
    record { front = h.front; rest = h.rest; count = h.count; source = h.source; before = h.before; there = omega (arith, h.there); wrong = h.wrong }

pub text_told : (text : List ℕ) (told : LexFault) → Gives {T = List Token} (Err told) (tokens_of text) → TellsFault text told
text_told text OutOfMemory e = tt
text_told text (Bad kind place) e = faulty_text text (fault kind place) e

-- ---- a piece

-- The bytes of a text from a place on are stretches, and then what the fault says is left open.
record IsOpenFrom (start : ℕ) (bytes : List ℕ) (f : Fault) : Type 0 where
  front : List (List ℕ)
  rest : List ℕ
  source : bytes ≡ concat front ++ rest
  before : Follow IsStretch front rest
  there : f.place ≡ start + length (concat front)
  unclosed : LeavesOpen f.kind rest

open_here : (start : ℕ) (bytes : List ℕ) (f : Fault) → OpensAt start bytes f → IsOpenFrom start bytes f
open_here start bytes f (there, unclosed) = record { front = []; rest = bytes; source = refl; before = tt; there = omega (arith, there); unclosed = unclosed }

with_stretch : (start : ℕ) (bytes : List ℕ) (len : ℕ) (f : Fault) → IsPassed bytes len → IsOpenFrom (start + len) (drop len bytes) f → IsOpenFrom start bytes f
with_stretch start bytes len f is h =
    let part = take len bytes in
    let all : length part ≡ len = length-take-le len bytes is.within in
    record {
      front = part ∷ h.front;
      rest = h.rest;
      source = sym (take-append-drop len bytes) ∙ ap (λ (more : List ℕ). part ++ more) h.source ∙ sym (append_assoc part (concat h.front) h.rest);
      before = (subst (IsStretch part) h.source is.is, h.before);
      there = omega (arith, h.there, length-append part (concat h.front), all);
      unclosed = h.unclosed;
    }

open_rest : (start n byte : ℕ) (bytes : List ℕ) (f : Fault) → 0 < n → IsOpenFrom ((start + 1) + (n - 1)) (drop (n - 1) bytes) f → IsOpenFrom (start + n) (drop n (byte ∷ bytes)) f
open_rest start zero byte bytes f some h = absurd (omega arith)
open_rest start (suc k) byte bytes f some h =
    let back : suc k - 1 ≡ k = omega arith in
    let there : (start + 1) + k ≡ start + suc k = omega arith in
    subst (λ (n : ℕ). IsOpenFrom n (drop k bytes) f) there (subst (λ (j : ℕ). IsOpenFrom ((start + 1) + j) (drop j bytes) f) back h)

open_from : (inside start : ℕ) (bytes : List ℕ) (f : Fault) → inside ≤ length bytes → end_from inside start bytes ≡ Err f → IsOpenFrom (start + inside) (drop inside bytes) f
unfolding end_from
open_from zero start [] f within e = absurd cc
open_from (suc inside) start [] f within e = absurd (omega arith)
open_from (suc inside) start (byte ∷ bytes) f within e =
    let there : (start + 1) + inside ≡ start + suc inside = omega arith in
    subst (λ (n : ℕ). IsOpenFrom n (drop inside bytes) f) there (open_from inside (start + 1) bytes f (omega arith) e)
open_from zero start (byte ∷ bytes) f within e =
    let go_on : Result PieceEnd Fault = len_at start (byte ∷ bytes) >>= λ len. end_from (len - 1) (start + 1) bytes in
    subst (λ (n : ℕ). IsOpenFrom n (byte ∷ bytes) f) (sym (add-zero start))
    (elim (chosen (byte == 59) (Ok (record { end = start; closed = true })) go_on (Err f) e) [
      | inl a ↦ absurd cc
      | inr a ↦ elim (bind_err (len_at start (byte ∷ bytes)) (λ len. end_from (len - 1) (start + 1) bytes) f a.1) [
        | inl here ↦ open_here start (byte ∷ bytes) f (len_wrong start (byte ∷ bytes) f here)
        | inr (len, takes, later) ↦
            let is = len_passed start (byte ∷ bytes) len (omega arith) (eqb-false byte 59 a.0) takes in
            with_stretch start (byte ∷ bytes) len f is
            (open_rest start len byte bytes f is.some (open_from (len - 1) (start + 1) bytes f (omega (arith, is.some, is.within)) later))
      ]
    ])

open_piece : (from : ℕ) (text : List ℕ) (f : Fault) → from ≤ length text → piece_end_at from text ≡ Err f → IsOpenPiece from text f.kind f.place
open_piece from text f within e =
    let h = open_from from 0 text f within e in
    record { front = h.front; rest = h.rest; source = h.source; before = h.before; there = omega (arith, h.there); unclosed = h.unclosed }

-- What the search for a piece's end tells is what the piece leaves open.
pub piece_told : (from : ℕ) (text : List ℕ) (told : LexFault) → from ≤ length text → Answers {T = PieceEnd} (Err told) (piece_end_at from text) → TellsOpen from text told
piece_told from text OutOfMemory within e = absurd e
piece_told from text (Bad kind place) within e = open_piece from text (fault kind place) within e
