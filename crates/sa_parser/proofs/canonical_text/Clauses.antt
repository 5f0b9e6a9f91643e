-- Expressions, aliases and clauses of a query are read back.
use Rattle.std.proofs.Common.{◌≡◌, ℕ, suc, ◌+◌, ◌≤◌, true, List, [], ◌∷◌, ◌++◌, length, codes, Option, Some, None, option_map, refl, sym, ap, subst, append_assoc, arith}
use Rattle.std.specs.List.{AllByRecursion}
use Rattle.sa_ast.specs.declared.name.NameTree.{NameTree}
use Rattle.sa_ast.specs.declared.expression.ExprTree.{ExprTree}
use Rattle.sa_ast.specs.Place.{unplaced_name, unplaced_expr}
use Rattle.sa_print.specs.Expression.{canonical_expr}
use Rattle.sa_print.specs.Lists.{clause}
use Rattle.sa_print.specs.Name.{is_word, canonical_name, alias_text}
use Rattle.sa_print.specs.Select.{name_in}
use Rattle.sa_parser.specs.declared.rule.Rule.TheVariants as rule
use Rattle.sa_parser.specs.Form.{Form, Perhaps, Word, After}
use Rattle.sa_parser.specs.ExprGrammar.{nested}
use Rattle.sa_parser.specs.SelectGrammar.{Alias}
use Rattle.sa_parser.proofs.canonical_text.Build.{made, then, first, nothing, some}
use Rattle.sa_parser.proofs.canonical_text.Each.{IfThere}
use Rattle.sa_parser.proofs.canonical_text.EachPart.{IsNamed}
use Rattle.sa_parser.proofs.canonical_text.Fine.{Reads, Fine, wider}
use Rattle.sa_parser.proofs.canonical_text.Lexed.{Quiet, quiet_at, joined-Lexed}
use Rattle.sa_parser.proofs.canonical_text.Lift.{factor-Negation, negation-Disjunction}
use Rattle.sa_parser.proofs.canonical_text.Lists.{AllRead, empty-Lexed}
use Rattle.sa_parser.proofs.canonical_text.Pieces.{name-Lexed, spaced_word-Lexed}
use Rattle.sa_parser.proofs.canonical_text.Tokens.{name_at, name_is, word_is}

-- expressions of at least one level
abbrev pub expression : ℕ → Form ExprTree
expression more = nested (suc more) rule.Expression

-- Something that holds expressions is read back, from so many levels on.
pub record IsBack {A B : Type 0} (Is : Form ExprTree → Form A) (bare : A → B) (text : A → List ℕ) (value : A) : Type 0 where
  pub levels : ℕ
  pub reads : (more place : ℕ) → levels ≤ more → Reads (Is (expression more)) bare Quiet place (text value) (bare value)

module _ {A B : Type 0} (Is : Form ExprTree → Form A) (bare : A → B) (text : A → List ℕ) where
  abbrev pub AllBack : List A → Type 0
  AllBack items = AllByRecursion (IsBack Is bare text) items

  abbrev pub levels_for : (items : List A) → AllBack items → ℕ
  levels_for [] are = 0
  levels_for (item ∷ items) are = are.0.levels + levels_for items are.1

  pub all_back : (items : List A) (are : AllBack items) (more : ℕ) → levels_for items are ≤ more → AllRead (Is (expression more)) bare text bare items
  all_back [] are more enough = tt
  all_back (item ∷ items) are more enough =
      ((λ place. are.0.reads more place (omega (arith, enough))), all_back items are.1 more (omega (arith, enough)))

pub expression_reads : (tree : ExprTree) (is : Fine tree) (more place : ℕ) → is.levels ≤ more
    → Reads (expression more) unplaced_expr Quiet place (canonical_expr tree) (unplaced_expr tree)
unfolding nested
expression_reads tree is more place enough =
    wider (expression more) (λ tokens again factor. negation-Disjunction (nested more) tokens again (factor-Negation (nested more) tokens again factor))
    (is.reads more place enough)

-- A text in front of which a word may stand, where what follows it lets a word stand before it.
abbrev pub IsMild : List ℕ → Type 0
IsMild text = (after : List ℕ) → Quiet after → Quiet (text ++ after)

pub mild-append : (text other : List ℕ) → IsMild text → IsMild other → IsMild (text ++ other)
mild-append text other one two after quiet = subst Quiet (sym (append_assoc text other after)) (one (other ++ after) (two after quiet))

-- AS and a name

abbrev pub alias_of : Option NameTree → List ℕ
alias_of alias = alias_text (option_map name_in alias)

pub alias_mild : (alias : Option NameTree) → IsMild (alias_of alias)
alias_mild None after quiet = quiet
alias_mild (Some name) after quiet = quiet_at 32 _ refl

pub alias_reads : (alias : Option NameTree) (place : ℕ) → IfThere IsNamed alias
    → Reads Alias (option_map unplaced_name) Quiet place (alias_of alias) (option_map unplaced_name alias)
unfolding Alias
alias_reads None place there = record { tokens = []; again = None; lexed = empty-Lexed Quiet place; is = nothing _; same = refl }
alias_reads (Some alias) place there =
    let name = name_is alias.name (place + 4) (length (canonical_name alias.name)) in
    let is = then _ _ (made (Word (codes "AS")) (λ _ value. value) (word_is (codes "AS") (place + 1) 2)) name in
    record {
      tokens = _;
      again = Some (name_at alias.name (place + 4));
      lexed = joined-Lexed (spaced_word-Lexed place (codes "AS") refl) (name-Lexed (place + 4) alias.name there) (λ after quiet. tt);
      is = some _ (first _ _ is);
      same = refl;
    }

-- clauses of one expression

abbrev pub levels_in : (found : Option ExprTree) → IfThere Fine found → ℕ
levels_in None there = 0
levels_in (Some tree) there = there.levels

abbrev pub spaced : List ℕ → List ℕ
spaced word = 32 ∷ (word ++ 32 ∷ [])

abbrev pub clause_of : List ℕ → Option ExprTree → List ℕ
clause_of word found = clause (spaced word) (option_map canonical_expr found)

pub clause_mild : (word : List ℕ) (found : Option ExprTree) → IsMild (clause_of word found)
clause_mild word None after quiet = quiet
clause_mild word (Some tree) after quiet = quiet_at 32 _ refl

-- an expression behind a word of its own, where there is one
pub clause_reads : (word : List ℕ) → is_word word ≡ true → (found : Option ExprTree) (there : IfThere Fine found) (more place : ℕ) → levels_in found there ≤ more
    → Reads (Perhaps (After word (expression more))) (option_map unplaced_expr) Quiet place (clause_of word found) (option_map unplaced_expr found)
clause_reads word sound None there more place enough = record { tokens = []; again = None; lexed = empty-Lexed Quiet place; is = nothing _; same = refl }
clause_reads word sound (Some tree) there more place enough =
    let inner = expression_reads tree there more (place + length (spaced word)) enough in
    let is = then _ _ (made (Word word) (λ _ value. value) (word_is word (place + 1) (length word))) inner.is in
    record {
      tokens = _;
      again = Some inner.again;
      lexed = joined-Lexed (spaced_word-Lexed place word sound) inner.lexed (λ after quiet. tt);
      is = some _ is;
      same = ap Some inner.same;
    }
