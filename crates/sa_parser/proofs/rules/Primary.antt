-- Expressions that no sign divides.
use Rattle.std.proofs.Common.{◌≡◌, ℕ, suc, Bool, true, false, ◌&&◌, List, [], ◌∷◌, ◌++◌, length, Ok, Err, refl, ap, inl, inr, arith}
use Rattle.std.proofs.lemmas.Bool.{false≢true, and_parts, and_from}
use Rattle.sa_lexer.specs.declared.sign.Sign.TheVariants as signs
use Rattle.sa_lexer.specs.declared.token.Token.{Token}
use Rattle.sa_lexer.specs.declared.token.TokenKind.{TokenKind}
use Rattle.sa_ast.specs.declared.expression.ExprTree.{ExprTree}
use Rattle.sa_lexer.specs.Reserved.{is_reserved}
use Rattle.sa_parser.specs.declared.rule.Rule.{Rule}
use Rattle.sa_parser.specs.declared.rule.Rule.TheVariants as rule
use Rattle.sa_parser.specs.Form.{Form, One, Either}
use Rattle.sa_parser.specs.inner.Reading.{Reader, one, either, sees_name}
use Rattle.sa_parser.specs.Tree.{atom_in}
use Rattle.sa_parser.specs.ExprGrammar.{Column, Call, Primary}
use Rattle.sa_parser.specs.inner.ExprReading.{column, call, primary, sees_call}
use Rattle.sa_parser.proofs.Consequences.{found-alone, faulty-alone}
use Rattle.sa_parser.proofs.Heads.{or, only_names, only_sign, apart, within, has}
use Rattle.sa_parser.proofs.Law.{Shape}
use Rattle.sa_parser.proofs.Looks.{sees_sign-Looks, sees_name-Looks}
use Rattle.sa_parser.proofs.Matches.{matches_part}
use Rattle.sa_parser.proofs.Starts.{starts-fewer}
use Rattle.sa_parser.proofs.LooksAhead.{Fails}
use Rattle.sa_parser.proofs.laws.Begins.{first-Suffices}
use Rattle.sa_parser.proofs.laws.Either.{either-cases, either-Deeper}
use Rattle.sa_parser.proofs.laws.EitherAhead.{either_ahead_shape, either_ahead-Law}
use Rattle.sa_parser.proofs.laws.Exactly.{made-Exactly, name-Exactly}
use Rattle.sa_parser.proofs.laws.Fails.{Law-Fails, then-Fails, perhaps-Fails, either-Fails}
use Rattle.sa_parser.proofs.rules.Agrees.{Agrees, one-Agrees, sign-Agrees, name-Agrees, made-Agrees, reshaped-Agrees, then-Agrees, either-Agrees, brackets-Agrees_inside}
use Rattle.sa_parser.proofs.rules.Atoms.{atoms, atom-Law}
use Rattle.sa_parser.proofs.rules.Call.{called, call_shape, call_tests, sees_call-LooksAhead, call-Agrees, call-Passes, call-fails_not}
use Rattle.sa_parser.proofs.rules.Column.{column-Agrees, column-Suffices}
use Rattle.sa_parser.proofs.rules.Names.{free-name}
use Rattle.sa_parser.proofs.rules.OpenLooks.{GoesPast, past-Ahead}
use Rattle.sa_parser.proofs.rules.Shapes.{Inside, primary_shape}

-- a column, or a value of one token
abbrev Simple : Form ExprTree
Simple = Either Column (One atom_in)

abbrev simple : Reader ExprTree
simple = either sees_name column (one atom_in)

abbrev simple_shape : Shape
simple_shape = record { opens = or only_names atoms; blank = false; goes_on = only_sign signs.Dot }

simple-Agrees : {levels : ℕ} → Agrees Simple Simple simple_shape levels simple simple
unfolding apart within is_reserved
simple-Agrees = either-Agrees sees_name-Looks column-Agrees (one-Agrees atom_in atom-Law) refl refl refl refl

simple-Fails : Fails call_tests (only_sign signs.LeftParen) Simple
unfolding Column apart within
simple-Fails =
    either-Fails
    (then-Fails (has called ∷ []) (made-Exactly _ name-Exactly) refl
    (perhaps-Fails (only_sign signs.LeftParen)
    (Law-Fails (only_sign signs.LeftParen) [] (only_sign signs.LeftParen) (then-Agrees {levels = 0} (made-Agrees _ (sign-Agrees signs.Dot)) name-Agrees refl).law refl refl)
    refl))
    (Law-Fails called (has (only_sign signs.LeftParen) ∷ []) (only_sign signs.LeftParen) atom-Law refl refl)

-- the name of an aggregate is a name
called-name : (kind : TokenKind) → has called kind ≡ true → has only_names kind ≡ true
unfolding apart
called-name kind h = free-name called.words refl kind h

simple-begins : (token : Token) → has called token.kind ≡ true → (value : ExprTree) × Simple (token ∷ []) value
simple-begins token h =
    (first-Suffices (One atom_in) column-Suffices).is (token ∷ []) (and_from (has only_names token.kind) true (called-name token.kind h) refl)

-- Tokens that may begin a call are its name, if a bracket isn't seen yet.
open_call : (first second : TokenKind → Bool) (before : List Token) (token : Token) → matches_part (first ∷ second ∷ []) (before ++ token ∷ []) ≡ true
    → (before ≡ []) × (first token.kind ≡ true)
open_call first second [] token p = (refl, (and_parts (first token.kind) true p).0)
open_call first second (one ∷ []) token p = absurd (false≢true (and_parts (second token.kind) false (and_parts (first one.kind) (second token.kind && false) p).1).1)
open_call first second (one ∷ other ∷ before) token p = absurd (false≢true (and_parts (second other.kind) false (and_parts (first one.kind) (second other.kind && false) p).1).1)

module _ {inner wide : Rule → Form ExprTree} {levels : ℕ} {read deeper : Rule → Reader ExprTree} (inside : Inside inner wide levels read deeper) where
  abbrev called_or_simple : Reader ExprTree
  called_or_simple = either sees_call (call read) simple

  past-found : (token : Token) (behind : List Token) (value : ExprTree) → has called token.kind ≡ true
      → called_or_simple (token ∷ behind) ≡ Ok (value, token ∷ behind) → ⊥
  past-found token behind value h e =
      elim (either-cases sees_call (call read) simple (token ∷ behind) (Ok (value, token ∷ behind)) e) [
        | inl (sees, found) ↦
            let (front, parts, is) = (call-Agrees inside).law.sound (token ∷ behind) value (token ∷ behind) found in
            let fewer = starts-fewer called front (token ∷ behind) ((call-Agrees inside).law.opens front value is) in
            absurd (omega (arith, fewer, ap length parts))
        | inr (sees, found) ↦
            let (other, is) = simple-begins token h in
            found-alone (simple-Agrees {levels = 0}).law (simple-Agrees {levels = 0}).ahead [] token behind [] value other found is
      ]

  past-faulty : (token : Token) (behind : List Token) → has called token.kind ≡ true
      → called_or_simple (token ∷ behind) ≡ Err (suc (length behind)) → ⊥
  past-faulty token behind h e =
      elim (either-cases sees_call (call read) simple (token ∷ behind) (Err (suc (length behind))) e) [
        | inl (sees, fails) ↦ call-fails_not inside token behind h fails
        | inr (sees, fails) ↦
            let (other, is) = simple-begins token h in
            faulty-alone (simple-Agrees {levels = 0}).law (simple-Agrees {levels = 0}).ahead [] token behind [] other fails is
      ]

  called_or_simple-GoesPast : GoesPast call_tests called_or_simple
  called_or_simple-GoesPast = record {
    found = λ before token behind value p e.
        let (nothing, h) = open_call (has called) (has (only_sign signs.LeftParen)) before token p in
        past-found token behind value h (rw nothing at e);
    faulty = λ before token behind p e.
        let (nothing, h) = open_call (has called) (has (only_sign signs.LeftParen)) before token p in
        past-faulty token behind h (rw nothing at e);
  }

  called_or_simple-Agrees : Agrees (Either (Call inner) Simple) (Either (Call wide) Simple)
      (either_ahead_shape (only_sign signs.LeftParen) call_shape simple_shape) (suc levels) called_or_simple (either sees_call (call deeper) simple)
  called_or_simple-Agrees = record {
    law = either_ahead-Law sees_call-LooksAhead (call-Agrees inside).law (simple-Agrees {levels = 0}).law (call-Passes inside) simple-Fails;
    ahead = past-Ahead sees_call-LooksAhead (call-Agrees inside).ahead (simple-Agrees {levels = 0}).ahead called_or_simple-GoesPast;
    keeps = either-Deeper sees_call (call-Agrees inside).keeps simple-Agrees.keeps;
  }

  pub primary-Agrees : Agrees (Primary inner) (Primary wide) primary_shape (suc levels) (primary read) (primary deeper)
  unfolding Primary primary apart within
  primary-Agrees =
      reshaped-Agrees
      (either-Agrees (sees_sign-Looks signs.LeftParen) (brackets-Agrees_inside (inside rule.Expression) refl) called_or_simple-Agrees refl refl refl refl)
      primary_shape refl refl refl
