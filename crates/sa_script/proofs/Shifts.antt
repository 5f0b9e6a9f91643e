-- Tokens and faults of a piece at their places in the script.
use Rattle.std.proofs.Common.{◌≡◌, ℕ, ◌+◌, ◌<◌, ◌≤◌, List, [], ◌∷◌, ◌++◌, map, length, get_or, take, drop, append_assoc, sym, ap, ◌∙◌, arith, length-append, inl, inr}
use Rattle.std.specs.Prelude.{slice_set, slice_index_or}
use Rattle.std.specs.List.{concat, AllByRecursion}
use Rattle.std.proofs.Math.Seq.{get_or-append_seam, set-append_seam}
use Rattle.std.proofs.lemmas.List.{drop_more, take_more, map-append, length-map, length-take-le}
use Rattle.std.proofs.lemmas.List.Elements.{All-from_recursion}
use Rattle.sa_lexer.specs.declared.fault.LexKind.{LexKind}
use Rattle.sa_lexer.specs.declared.fault.LexKind.TheVariants.{BadByte, OpenText, OpenComment, NumberTooLong, TextTooLong}
use Rattle.sa_lexer.specs.declared.token.Token.{Token}
use Rattle.sa_lexer.specs.Faulty.{IsFaulty, IsWrong}
use Rattle.sa_lexer.specs.Grammar.{AreTokens}
use Rattle.sa_lexer.specs.Spans.{SpansRise}
use Rattle.sa_script.specs.inner.Places.{moved, EndBelow}

-- the tokens of a text, wherever it stands
pub tokens_moved : (by place : ℕ) (bytes : List ℕ) (tokens : List Token) → AreTokens place bytes tokens → AreTokens (place + by) bytes (map (moved by) tokens)
tokens_moved by place bytes [] h = h
tokens_moved by place bytes (token ∷ tokens) h = (
  h.0,
  h.1,
  h.2,
  h.3,
  h.4,
  omega (arith, h.5),
  omega (arith, h.6),
  h.7,
  h.8,
  tokens_moved by token.end h.2 tokens h.9,
)

wrong_within : (kind : LexKind) (rest : List ℕ) (count : ℕ) → IsWrong kind rest count → count ≤ length rest
wrong_within BadByte rest count h = elim h [ inl a ↦ omega (arith, a.0) | inr f ↦ omega (arith, f.all, ap length f.source, length-append f.digits (f.byte ∷ f.after)) ]
wrong_within OpenText rest count h = omega (arith, h.0)
wrong_within OpenComment rest count h = omega (arith, h.0)
wrong_within NumberTooLong rest count h = omega (arith, h.0)
wrong_within TextTooLong rest count h = omega (arith, h.0)

-- a fault stands within its text
pub fault_within : (text : List ℕ) (kind : LexKind) (place : ℕ) → IsFaulty text kind place → place ≤ length text
fault_within text kind place h =
    let within = wrong_within kind h.rest h.count h.wrong in
    omega (arith, within, h.there, ap length h.source, length-append (concat h.front) h.rest)

-- one more of the tokens was moved
pub moved_more : (by : ℕ) (items tokens : List Token) (index : ℕ) (past : Token) → index < length tokens → items ≡ map (moved by) (take index tokens) ++ drop index tokens
    → slice_set items index (moved by (slice_index_or items index past)) ≡ map (moved by) (take (index + 1) tokens) ++ drop (index + 1) tokens
moved_more by items tokens index past within e =
    let front = map (moved by) (take index tokens) in
    let token = get_or tokens index past in
    let rest = drop (index + 1) tokens in
    let long : length front ≡ index = length-map (take index tokens) (moved by) ∙ length-take-le index tokens (omega arith) in
    let parts : items ≡ front ++ (token ∷ rest) = e ∙ ap (λ (more : List Token). front ++ more) (drop_more tokens index past within) in
    let here : get_or items index past ≡ token = ap (λ (list : List Token). get_or list index past) parts ∙ ap (λ (n : ℕ). get_or (front ++ (token ∷ rest)) n past) (sym long) ∙ get_or-append_seam front token rest past in
    let changed : slice_set items index (moved by (get_or items index past)) ≡ front ++ (moved by token ∷ rest) =
    ap (λ (t : Token). slice_set items index (moved by t)) here ∙ ap (λ (list : List Token). slice_set list index (moved by token)) parts
    ∙ ap (λ (n : ℕ). slice_set (front ++ (token ∷ rest)) n (moved by token)) (sym long) ∙ set-append_seam front token rest (moved by token) in
    let whole : map (moved by) (take (index + 1) tokens) ≡ front ++ (moved by token ∷ []) =
    ap (map (moved by)) (take_more tokens index past within) ∙ map-append (moved by) (take index tokens) (token ∷ []) in
    changed ∙ sym (append_assoc front (moved by token ∷ []) rest) ∙ ap (λ (list : List Token). list ++ rest) (sym whole)

rise_within : (from end : ℕ) (tokens : List Token) → SpansRise from end tokens → from ≤ end
rise_within from end [] h = h
rise_within from end (token ∷ tokens) h = omega (arith, h.0, h.1, rise_within token.end end tokens h.2)

ends_below : (bound by from end : ℕ) (tokens : List Token) → end + by < bound → SpansRise from end tokens → AllByRecursion (λ (token : Token). (token.start + by < bound) × (token.end + by < bound)) tokens
ends_below bound by from end [] below h = tt
ends_below bound by from end (token ∷ tokens) below h =
    let within = rise_within token.end end tokens h.2 in
    ((omega (arith, h.1, within, below), omega (arith, within, below)), ends_below bound by token.end end tokens below h.2)

-- tokens of a text that ends below a bound do so too
pub all_below : (bound by from end : ℕ) (tokens : List Token) → end + by < bound → SpansRise from end tokens → EndBelow bound by tokens
all_below bound by from end tokens below h = All-from_recursion (λ (token : Token). (token.start + by < bound) × (token.end + by < bound)) tokens (ends_below bound by from end tokens below h)
