-- What is kept of members, with one member more.
use Rattle.std.proofs.Common.{◌≡◌, ℕ, ◌+◌, ◌<◌, Bool, true, false, ◌||◌, List, [], ◌∷◌, ◌++◌, length, get_or, map, take, refl, sym, ap, subst, ◌∙◌}
use Rattle.std.specs.List.{list_any}
use Rattle.std.proofs.lemmas.List.{take_more, map_push}
use Rattle.std.proofs.lemmas.List.Folds.{list_any-append}
use Rattle.sa_ast.specs.declared.expression.ExprNode.{ExprNode-F}
use Rattle.sa_ast.specs.declared.expression.ExprTree.{ExprTree}
use Rattle.sa_table.specs.Table.{Table}
use Rattle.sa_resolve.specs.declared.facts.Facts.{Facts}
use Rattle.sa_resolve.specs.declared.mentions.Mentions.{Mentions}
use Rattle.sa_resolve.specs.Expression.{Scope, node_reading, reading}
use Rattle.sa_resolve.specs.Node.{kind_of}
use Rattle.sa_resolve.specs.NodeFaults.{clashes, no_value, no_condition}
use Rattle.sa_resolve.specs.Reading.{Reading}
use Rattle.sa_resolve.specs.inner.Gist.{PartsGist, gist_at, gist_of, parts_of_list, with_condition, with_value}
use Rattle.sa_resolve.specs.inner.Kind.{kind_in, kinds_clash}
use Rattle.sa_resolve.specs.inner.Looking.{HasLooked}
use Rattle.sa_resolve.specs.inner.Walking.{HaveMentioned}
use Rattle.sa_resolve.proofs.GistLemmas.{parts-push}
use Rattle.sa_resolve.proofs.NodeGists.{gist-And, gist-Among, kind_of-is}
use Rattle.sa_resolve.proofs.walk.Looked.{gists_clash, test_gist}
use Rattle.sa_resolve.proofs.walk.Mentions.{more_mentioned}

or_false : (x : Bool) → (x || false) ≡ x
or_false true = refl
or_false false = refl

clash_is : (one two : Reading) → clashes one two ≡ kinds_clash (kind_in one.sort) (kind_in two.sort)
clash_is one two =
    ap (λ kind. kinds_clash kind (kind_of two)) (kind_of-is one)
    ∙ ap (kinds_clash (kind_in one.sort)) (kind_of-is two)

module _ (tables : List Table) (scope : Scope) (members : List ExprTree) where
  abbrev read : ExprTree → Reading
  read = reading tables scope

  -- the readings of the first members
  abbrev pub done : ℕ → List Reading
  done index = map read (take index members)

  pub done-more : (index : ℕ) (member : ExprTree) → index < length members → member
      ≡ get_or members index member
      → done (index + 1) ≡ done index ++ read member ∷ []
  done-more index member within is =
      ap (map read) (take_more members index member within
      ∙ ap (λ one. take index members ++ one ∷ []) (sym is))
      ∙ map_push read (take index members) member

  module _ (index : ℕ) (member : ExprTree) (within : index < length members)
      (is : member ≡ get_or members index member)
      (now after : Mentions) (facts : Facts) (looked : HasLooked now after facts (read member)) where
    pub mentioned_more : (before : Mentions) → HaveMentioned before now (done index)
        → HaveMentioned before after (done (index + 1))
    mentioned_more before so_far =
        let Have : List Reading → Type 0 = λ ones. HaveMentioned before after ones in
        subst Have (sym (done-more index member within is))
        (more_mentioned before now after (done index) facts (read member) so_far looked)

    pub conditions_more : (old new : PartsGist) → old ≡ parts_of_list no_condition (done index)
        → new ≡ with_condition old (gist_at facts) → new ≡ parts_of_list no_condition (done (index + 1))
    conditions_more old new so_far more =
        more ∙ ap (λ parts. with_condition parts (gist_at facts)) so_far
        ∙ ap (with_condition (parts_of_list no_condition (done index))) looked.gist
        ∙ sym (parts-push no_condition (done index) (read member))
        ∙ ap (parts_of_list no_condition) (sym (done-more index member within is))

    pub values_more : (one : Reading) (old new : PartsGist) → old ≡ parts_of_list no_value (one ∷ done index)
        → new ≡ with_value old (gist_at facts) → new ≡ parts_of_list no_value (one ∷ done (index + 1))
    values_more one old new so_far more =
        more ∙ ap (λ parts. with_value parts (gist_at facts)) so_far
        ∙ ap (with_value (parts_of_list no_value (one ∷ done index))) looked.gist
        ∙ sym (parts-push no_value (one ∷ done index) (read member))
        ∙ ap (λ ones. parts_of_list no_value (one ∷ ones)) (sym (done-more index member within is))

    pub clashes_more : (one : Reading) (x : Facts) (old new : Bool) → gist_at x ≡ gist_of one
        → old ≡ list_any (clashes one) (done index)
        → new ≡ (old || gists_clash (gist_at x) (gist_at facts)) → new
        ≡ list_any (clashes one) (done (index + 1))
    clashes_more one x old new known so_far more =
        more ∙ ap (λ old. old || gists_clash (gist_at x) (gist_at facts)) so_far
        ∙ ap (λ part. list_any (clashes one) (done index) || gists_clash part (gist_at facts)) known
        ∙ ap (λ part. list_any (clashes one) (done index) || gists_clash (gist_of one) part) looked.gist
        ∙ ap (λ clash. list_any (clashes one) (done index) || clash)
        (sym (clash_is one (read member)) ∙ sym (or_false (clashes one (read member))))
        ∙ sym (list_any-append (clashes one) (done index) (read member ∷ []))
        ∙ ap (list_any (clashes one)) (sym (done-more index member within is))

  -- all members of AND
  pub looked-And : (before after : Mentions) (facts : Facts) (place : ℕ) (parts : PartsGist)
      → parts ≡ parts_of_list no_condition (map read members) → HaveMentioned before after (map read members)
      → gist_at facts ≡ test_gist place parts false
      → HasLooked before after facts (node_reading tables scope (ExprNode-F.And (map read members)) place)
  looked-And before after facts place parts all mentioned is = record {
    gist = is ∙ ap (λ parts. test_gist place parts false) all
        ∙ sym (gist-And tables scope (map read members) place);
    loose = mentioned.loose;
    aggregates = mentioned.aggregates;
    literals = mentioned.literals;
  }

  -- a value and all members of its list
  pub looked-Among : (before after : Mentions) (facts : Facts) (one : Reading) (negated : Bool) (place : ℕ)
      (parts : PartsGist) (clash : Bool)
      → parts ≡ parts_of_list no_value (one ∷ map read members) → clash
      ≡ list_any (clashes one) (map read members)
      → HaveMentioned before after (one ∷ map read members)
      → gist_at facts ≡ test_gist place parts clash
      → HasLooked before after facts (node_reading tables scope
      (ExprNode-F.Among one (map read members) negated) place)
  looked-Among before after facts one negated place parts clash all any mentioned is = record {
    gist = is ∙ ap (λ parts. test_gist place parts clash) all
        ∙ ap (test_gist place (parts_of_list no_value (one ∷ map read members))) any
        ∙ sym (gist-Among tables scope one (map read members) negated place);
    loose = mentioned.loose;
    aggregates = mentioned.aggregates;
    literals = mentioned.literals;
  }
