-- A piece is read as one tree, or has one fault of the lexer or of the grammar.
use Rattle.std.proofs.Common.{◌≡◌, ◌≢◌, ℕ, ◌+◌, List, Some, None, Result, Ok, Err, sym, ap, ◌∙◌, subst, inl, inr}
use Rattle.sa_lexer.specs.declared.token.Token.{Token}
use Rattle.sa_lexer.specs.Fault.{fault}
use Rattle.sa_lexer.specs.Fault as lexer
use Rattle.sa_lexer.specs.Grammar.{AreTokens}
use Rattle.sa_lexer.proofs.Results.{ok_is, err_is}
use Rattle.sa_parser.specs.declared.answer.ParseFault.{ParseFault}
use Rattle.sa_parser.specs.declared.answer.ParseFault.TheVariants.{OutOfMemory}
use Rattle.sa_parser.specs.Form.{Form}
use Rattle.sa_parser.specs.Parse.{IsAnswer}
use Rattle.sa_script.specs.Fault.{Fault, fault_at}
use Rattle.sa_script.specs.Piece.{Piece}
use Rattle.sa_script.specs.Reads.{ReadsAs, HasLexFault, HasParseFault, CantRead, lex_kind, parse_fault}
use Rattle.sa_script.proofs.lexing.Reading.{tokens_read, fault_read}
use Rattle.sa_script.proofs.one_answer.Firsts.{told_same}

-- Tokens have one answer in the form.
abbrev pub HasOneAnswer : {A : Type 0} → Form A → Type 0
HasOneAnswer {A} Is = (tokens : List Token) (answer other : Result A ParseFault) → IsAnswer Is tokens answer → IsAnswer Is tokens other → answer ≢ Err OutOfMemory → other ≢ Err OutOfMemory → answer ≡ other

abbrev tree_done : {A : Type 0} → A → Result A ParseFault
tree_done tree = Ok tree

abbrev tree_failed : {A : Type 0} → ParseFault → Result A ParseFault
tree_failed fault = Err fault

ok_or_err : {A : Type 0} (x : A) (f : lexer.Fault) → Ok x ≡ Err f → ⊥
ok_or_err x f e = cc

tree_or_fault : {A : Type 0} (x : A) (f : ParseFault) → Ok x ≡ Err f → ⊥
tree_or_fault x f e = cc

tree_is : {A : Type 0} (x y : A) → tree_done x ≡ tree_done y → x ≡ y
tree_is x y e = cc

tree_known : {A : Type 0} (x : A) → tree_done x ≢ Err OutOfMemory
tree_known x e = tree_or_fault x OutOfMemory e

fault_is : {A : Type 0} (f g : ParseFault) → tree_failed {A = A} f ≡ tree_failed {A = A} g → f ≡ g
fault_is f g e = cc

fault_known : {A : Type 0} (told : ParseFault) (f : Fault) → parse_fault told ≡ Some f → tree_failed {A = A} told ≢ Err OutOfMemory
fault_known {A} told f e lost = let none : told ≡ OutOfMemory = fault_is {A = A} told OutOfMemory lost in let clash : None ≡ Some f = sym (ap parse_fault none) ∙ e in cc

same_tokens : (place : ℕ) (bytes : List ℕ) (tokens others : List Token) → AreTokens place bytes tokens → AreTokens place bytes others → tokens ≡ others
same_tokens place bytes tokens others are too = ok_is tokens others (sym (tokens_read place bytes tokens are) ∙ tokens_read place bytes others too)

pub same_tree : {A : Type 0} (Is : Form A) (piece : Piece) (tree other : A) → HasOneAnswer Is → ReadsAs Is piece tree → ReadsAs Is piece other → tree ≡ other
same_tree Is piece tree other one reads too =
    let tokens = same_tokens piece.place piece.text too.tokens reads.tokens too.are reads.are in
    let is : IsAnswer Is reads.tokens (Ok other) = subst (λ (ts : List Token). IsAnswer Is ts (Ok other)) tokens too.is in
    tree_is tree other (one reads.tokens (Ok tree) (Ok other) reads.is is (tree_known tree) (tree_known other))

same_lex : (piece : Piece) (f g : Fault) → HasLexFault piece f → HasLexFault piece g → f ≡ g
same_lex piece f g h too =
    let one = fault_read piece.place piece.text h.kind h.place h.found in
    let two = fault_read piece.place piece.text too.kind too.place too.found in
    let same : fault h.kind (piece.place + h.place) ≡ fault too.kind (piece.place + too.place) = err_is {A = List Token} (fault h.kind (piece.place + h.place)) (fault too.kind (piece.place + too.place)) (sym one ∙ two) in
    h.fault_is ∙ ap (λ (told : lexer.Fault). fault_at (lex_kind told.kind) told.place) same ∙ sym too.fault_is

lexed_or_not : (piece : Piece) (tokens : List Token) (f : Fault) → AreTokens piece.place piece.text tokens → HasLexFault piece f → ⊥
lexed_or_not piece tokens f are h = ok_or_err tokens (fault h.kind (piece.place + h.place)) (sym (tokens_read piece.place piece.text tokens are) ∙ fault_read piece.place piece.text h.kind h.place h.found)

same_parse : {A : Type 0} (Is : Form A) (piece : Piece) (f g : Fault) → HasOneAnswer Is → HasParseFault Is piece f → HasParseFault Is piece g → f ≡ g
same_parse {A} Is piece f g one h too =
    let tokens = same_tokens piece.place piece.text too.tokens h.tokens too.are h.are in
    let is : IsAnswer Is h.tokens (Err too.told) = subst (λ (ts : List Token). IsAnswer Is ts (Err too.told)) tokens too.is in
    let told : h.told ≡ too.told = fault_is {A = A} h.told too.told (one h.tokens (Err h.told) (Err too.told) h.is is (fault_known {A = A} h.told f h.fault_is) (fault_known {A = A} too.told g too.fault_is)) in
    told_same (parse_fault h.told) f g h.fault_is (ap parse_fault told ∙ too.fault_is)

parsed_or_not : {A : Type 0} (Is : Form A) (piece : Piece) (tree : A) (f : Fault) → HasOneAnswer Is → ReadsAs Is piece tree → HasParseFault Is piece f → ⊥
parsed_or_not {A} Is piece tree f one reads h =
    let tokens = same_tokens piece.place piece.text h.tokens reads.tokens h.are reads.are in
    let is : IsAnswer Is reads.tokens (Err h.told) = subst (λ (ts : List Token). IsAnswer Is ts (Err h.told)) tokens h.is in
    tree_or_fault tree h.told (one reads.tokens (Ok tree) (Err h.told) reads.is is (tree_known tree) (fault_known {A = A} h.told f h.fault_is))

-- what can't be read can't be for one reason
pub same_unread : {A : Type 0} (Is : Form A) (piece : Piece) (f g : Fault) → HasOneAnswer Is → CantRead Is piece f → CantRead Is piece g → f ≡ g
same_unread Is piece f g one (inl lex) (inl other) = same_lex piece f g lex other
same_unread Is piece f g one (inl lex) (inr parse) = absurd (lexed_or_not piece parse.tokens f parse.are lex)
same_unread Is piece f g one (inr parse) (inl lex) = absurd (lexed_or_not piece parse.tokens g parse.are lex)
same_unread Is piece f g one (inr parse) (inr other) = same_parse Is piece f g one parse other

-- what is read can be read
pub read_or_not : {A : Type 0} (Is : Form A) (piece : Piece) (tree : A) (f : Fault) → HasOneAnswer Is → ReadsAs Is piece tree → CantRead Is piece f → ⊥
read_or_not Is piece tree f one reads (inl lex) = lexed_or_not piece reads.tokens f reads.are lex
read_or_not Is piece tree f one reads (inr parse) = parsed_or_not Is piece tree f one reads parse
