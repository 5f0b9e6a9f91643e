-- What a query selects.
use Rattle.std.proofs.Common.{ℕ, Bool, true, false, ◌&&◌, codes, List, [], ◌∷◌, refl, sym, ap₂, ◌∙◌}
use Rattle.std.proofs.Math.Bool.{and-false, and-true}
use Rattle.std.proofs.lemmas.Bool.{and_right}
use Rattle.sa_lexer.specs.declared.sign.Sign.TheVariants as signs
use Rattle.sa_lexer.specs.declared.token.Token.{Token}
use Rattle.sa_lexer.specs.declared.token.TokenKind.{TokenKind}
use Rattle.sa_lexer.specs.declared.token.TokenKind.TheVariants as kinds
use Rattle.sa_ast.specs.declared.expression.ExprTree.{ExprTree}
use Rattle.sa_ast.specs.declared.select.ItemTree.{ItemTree}
use Rattle.sa_lexer.specs.Reserved.{is_reserved}
use Rattle.sa_parser.specs.Token.{is_word, is_sign, name_of}
use Rattle.sa_parser.specs.SelectTree.{table_star_item, value_item}
use Rattle.sa_parser.specs.Form.{Form, Made, Then, Either, Placed, Name, Sign}
use Rattle.sa_parser.specs.inner.Reading.{Reader, made, then_read, either, placed, name, sign}
use Rattle.sa_parser.specs.SelectGrammar.{Alias, Item}
use Rattle.sa_parser.specs.inner.SelectReading.{alias, item, sees_table_star}
use Rattle.sa_parser.proofs.Heads.{Heads, only_names, only_sign, apart, within, has, only_names-has, only_sign-has}
use Rattle.sa_parser.proofs.Law.{Shape}
use Rattle.sa_parser.proofs.Looks.{sees_sign-Looks}
use Rattle.sa_parser.proofs.LooksAhead.{LooksAhead, Passes, Fails, Suffices, Begins}
use Rattle.sa_parser.proofs.laws.Begins.{name-Suffices, sign-Suffices, made-Suffices, placed-Suffices, then-Suffices, none-Suffices, Suffices-Begins}
use Rattle.sa_parser.proofs.laws.Either.{either-Deeper}
use Rattle.sa_parser.proofs.laws.EitherAhead.{either_ahead_shape, either_ahead-Law, either_ahead-Ahead}
use Rattle.sa_parser.proofs.laws.Exactly.{name-Exactly, sign-Exactly, made-Exactly, then-Exactly, Exactly-Passes}
use Rattle.sa_parser.proofs.laws.Fails.{made-Fails, placed-Fails}
use Rattle.sa_parser.proofs.laws.One.{one_shape}
use Rattle.sa_parser.proofs.rules.Agrees.{Agrees, name-Agrees, sign-Agrees, made-Agrees, placed-Agrees, then-Agrees, reshaped-Agrees}
use Rattle.sa_parser.proofs.rules.AgreesIf.{AgreesIf, always-AgreesIf, reshaped-AgreesIf, either-AgreesIf}
use Rattle.sa_parser.proofs.rules.Alias.{alias-Agrees}
use Rattle.sa_parser.proofs.rules.Examples.{first_token}
use Rattle.sa_parser.proofs.rules.Refuses.{Refuses, Refuses-Fails, then_first-Fails}
use Rattle.sa_parser.proofs.rules.Shapes.{disjunction_shape, value_shape, predicate_words, after_predicate, signed}
use Rattle.sa_parser.proofs.rules.TableStar.{table_star}

-- An expression, and then an alias.
abbrev pub behind_value : Heads
behind_value = record {
  names = true;
  numbers = false;
  texts = false;
  words = codes "AS" ∷ codes "OR" ∷ codes "AND" ∷ predicate_words;
  signs = signs.AndAnd ∷ after_predicate;
}

abbrev named_shape : Shape
named_shape = record { opens = disjunction_shape.opens; blank = false; goes_on = behind_value }

abbrev pub item_shape : Shape
item_shape = record { opens = (value_shape (codes "NOT" ∷ []) (signs.Star ∷ signed) [] []).opens; blank = false; goes_on = behind_value }

-- `t.*`
abbrev Starred : Form ItemTree
Starred = Then (Then (Made table_star_item Name) (Sign signs.Dot)) (Sign signs.Star)

abbrev starred : Reader ItemTree
starred = then_read (then_read (made table_star_item name) (sign signs.Dot)) (sign signs.Star)

-- an expression with its alias
abbrev Valued : Form ExprTree → Form ItemTree
Valued Expr = Placed value_item (Then (Made (λ value alias. (value, alias)) Expr) Alias)

abbrev valued : Reader ExprTree → Reader ItemTree
valued expr = placed value_item (then_read (made (λ value alias. (value, alias)) expr) alias)

-- two names with a dot between them
abbrev pub dotted : List (TokenKind → Bool)
dotted = has only_names ∷ has (only_sign signs.Dot) ∷ has only_names ∷ []

sees_table_star-LooksAhead : LooksAhead table_star sees_table_star
unfolding sees_table_star
sees_table_star-LooksAhead = record {
  is = elim [
    | [] ↦ refl
    | first ∷ [] ↦ sym (and-false (has only_names first.kind))
    | first ∷ second ∷ [] ↦
        sym (and_right (has only_names first.kind) (has (only_sign signs.Dot) second.kind && false) (and-false (has (only_sign signs.Dot) second.kind)))
    | first ∷ second ∷ third ∷ rest ↦
        ap₂ ◌&&◌ (sym (only_names-has first.kind))
        (ap₂ ◌&&◌ (sym (only_sign-has signs.Dot second.kind))
        (sym (only_sign-has signs.Star third.kind) ∙ sym (and-true (has (only_sign signs.Star) third.kind))))
  ];
}

starred-Agrees : {levels : ℕ} → Agrees Starred Starred (one_shape only_names) levels starred starred
unfolding apart
starred-Agrees = then-Agrees (then-Agrees (made-Agrees _ name-Agrees) (sign-Agrees signs.Dot) refl) (sign-Agrees signs.Star) refl

starred-Passes : Passes table_star Starred
starred-Passes = Exactly-Passes (then-Exactly (then-Exactly (made-Exactly _ name-Exactly) (sign-Exactly signs.Dot)) (sign-Exactly signs.Star))

starred-Suffices : Suffices table_star Starred
starred-Suffices = then-Suffices (then-Suffices (made-Suffices _ name-Suffices) (sign-Suffices signs.Dot)) (sign-Suffices signs.Star)

abbrev star_example : List Token
star_example = first_token (kinds.QuotedName []) ∷ first_token (kinds.Sign signs.Dot) ∷ first_token (kinds.Sign signs.Star) ∷ []

abbrev dotted_example : List Token
dotted_example = first_token (kinds.QuotedName []) ∷ first_token (kinds.Sign signs.Dot) ∷ first_token (kinds.QuotedName []) ∷ []

starred-Begins : Begins table_star Starred
unfolding has is_word is_sign name_of
starred-Begins =
    Suffices-Begins (has only_names ∷ has (only_sign signs.Dot) ∷ []) (has (only_sign signs.Star) ∷ []) (has (only_sign signs.Star)) star_example
    starred-Suffices refl

valued-Begins : {Expr : Form ExprTree} → Suffices dotted Expr → Begins table_star (Valued Expr)
unfolding has is_word is_sign name_of Alias
valued-Begins suffices =
    Suffices-Begins (has only_names ∷ has (only_sign signs.Dot) ∷ []) (has only_names ∷ []) (has (only_sign signs.Star)) dotted_example
    (placed-Suffices _ (then-Suffices (made-Suffices _ suffices) (none-Suffices _))) refl

module _ {Expr Wide : Form ExprTree} {levels : ℕ} {read deeper : Reader ExprTree} (expr : Agrees Expr Wide disjunction_shape levels read deeper)
    (refuses : Refuses table_star read) where
  valued-Agrees : Agrees (Valued Expr) (Valued Wide) named_shape levels (valued read) (valued deeper)
  unfolding apart within is_reserved
  valued-Agrees = reshaped-Agrees (placed-Agrees _ (then-Agrees (made-Agrees _ expr) alias-Agrees refl) refl) named_shape refl refl refl

  valued-Fails : Fails table_star disjunction_shape.goes_on (Valued Expr)
  unfolding apart is_reserved
  valued-Fails = placed-Fails _ (then_first-Fails (made-Fails _ (Refuses-Fails expr.law refuses)) (alias-Agrees {levels = 0}).law refl)

  starred_or_valued-AgreesIf : AgreesIf (Suffices dotted Expr) (Either Starred (Valued Expr)) (Either Starred (Valued Wide))
      (either_ahead_shape disjunction_shape.goes_on (one_shape only_names) named_shape) levels
      (either sees_table_star starred (valued read)) (either sees_table_star starred (valued deeper))
  starred_or_valued-AgreesIf = record {
    law = either_ahead-Law sees_table_star-LooksAhead (starred-Agrees {levels = 0}).law valued-Agrees.law starred-Passes valued-Fails;
    ahead = λ suffices.
        either_ahead-Ahead sees_table_star-LooksAhead (starred-Agrees {levels = 0}).law valued-Agrees.law starred-Begins (valued-Begins suffices)
        (starred-Agrees {levels = 0}).ahead valued-Agrees.ahead;
    keeps = either-Deeper sees_table_star starred-Agrees.keeps valued-Agrees.keeps;
  }

  pub item-AgreesIf : AgreesIf (Suffices dotted Expr) (Item Expr) (Item Wide) item_shape levels (item read) (item deeper)
  unfolding Item item apart within
  item-AgreesIf =
      reshaped-AgreesIf
      (either-AgreesIf (sees_sign-Looks signs.Star) (always-AgreesIf (made-Agrees _ (sign-Agrees signs.Star))) starred_or_valued-AgreesIf
      refl refl refl refl)
      item_shape refl refl refl
