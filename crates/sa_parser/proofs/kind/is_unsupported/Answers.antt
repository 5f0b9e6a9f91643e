use Rattle.std.proofs.Common.{rules, ◌≡◌, ◌↔◌, IsTrue, ◌∙◌, sym}
use Rattle.std.proofs.lemmas.Result.{IfOk-weaker}
use Rattle.sa_lexer.specs.declared.sign.Sign.TheVariants as signs
use Rattle.sa_lexer.specs.declared.token.TokenKind.TheVariants as kinds
use Rattle.sa_lexer.specs.declared.token.TokenKind.TheVariants.{Word}
use Rattle.sa_parser.specs.Fault.{AsksForMore}
use Rattle.sa_parser.specs.inner.Grammar.{form_of}
use Rattle.sa_parser.proofs.Asking.{word-listed, word-other}
use Rattle.sa_parser.proofs.kind.is_unsupported.Goals as goal

pub returns-in-Sign-LeftParen : goal.returns-in-Sign-LeftParen
returns-in-Sign-LeftParen c =
    let paren : c.args.token.now.kind ≡ kinds.Sign signs.LeftParen = search rules in
    rw paren c.is_read_as_name.ensures

pub returns-in_ok-from_str-in-Text : goal.returns-in_ok-from_str-in-Text
returns-in_ok-from_str-in-Text c = rw c.in-Text.is (rw c.in_ok-from_str-in-Text.ensures at c.begins_with.ensures)

pub returns-in-Word : goal.returns-in-Word
returns-in-Word c =
    let listed = rw c.in-Word.is at (sym c.is_among.ensures ∙ c.if-is_among.true) in
    rw c.in-Word.is (word-listed (form_of c.args.grammar) c.args.before.now c.args.token.now c.in-Word.field-0 listed)

pub returns-in-Word-2 : goal.returns-in-Word-2
returns-in-Word-2 c =
    let other = rw c.in-Word-2.is at (sym c.is_among.ensures ∙ c.if-is_among.false) in
    rw c.in-Word-2.is
    (IfOk-weaker c.stands_for_kind.result _ (λ found. IsTrue found ↔ AsksForMore (form_of c.args.grammar) c.args.before.now c.args.token.now (Word c.in-Word-2.field-0))
    (λ found stands. word-other (form_of c.args.grammar) c.args.before.now c.args.token.now c.in-Word-2.field-0 found other stands)
    c.stands_for_kind.ensures)
