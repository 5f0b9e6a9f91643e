-- What is mentioned, part by part.
use Rattle.std.proofs.Common.{◌≡◌, List, [], ◌∷◌, ◌++◌, append-nil, append_assoc, sym, ap, ◌∙◌}
use Rattle.std.specs.List.{flat_map}
use Rattle.std.proofs.lemmas.List.Concat.{flat_map-append}
use Rattle.sa_resolve.specs.declared.facts.Facts.{Facts}
use Rattle.sa_resolve.specs.declared.mentions.Mentions.{Mentions}
use Rattle.sa_resolve.specs.Reading.{Reading}
use Rattle.sa_resolve.specs.inner.Looking.{HasLooked, loose_at}
use Rattle.sa_resolve.specs.inner.Walking.{HaveMentioned}

-- one list more behind those that stand there
put : {A : Type 0} (f : Reading → List A) (before now after : List A) (done : List Reading) (one : Reading)
    → now ≡ before ++ flat_map f done → after ≡ now ++ f one → after ≡ before ++ flat_map f (done ++ one ∷ [])
put f before now after done one so_far more =
    more ∙ ap (λ (all : List _). all ++ f one) so_far
    ∙ append_assoc before (flat_map f done) (f one)
    ∙ ap (λ (all : List _). before ++ (flat_map f done ++ all)) (sym (append-nil (f one)))
    ∙ ap (λ (all : List _). before ++ all) (sym (flat_map-append f done (one ∷ [])))

pub nothing_mentioned : (before : Mentions) → HaveMentioned before before []
nothing_mentioned before = record {
  loose = sym (append-nil (loose_at before.loose.items));
  aggregates = sym (append-nil before.aggregates.items);
  literals = sym (append-nil before.literals.items);
}

pub more_mentioned : (before now after : Mentions) (done : List Reading) (facts : Facts) (one : Reading)
    → HaveMentioned before now done → HasLooked now after facts one
    → HaveMentioned before after (done ++ one ∷ [])
more_mentioned before now after done facts one so_far looked = record {
  loose = put (λ (one : Reading). one.loose) _ _ _ done one so_far.loose looked.loose;
  aggregates = put (λ (one : Reading). one.aggregates) _ _ _ done one so_far.aggregates looked.aggregates;
  literals = put (λ (one : Reading). one.literals) _ _ _ done one so_far.literals looked.literals;
}

pub one_mentioned : (before after : Mentions) (facts : Facts) (one : Reading)
    → HasLooked before after facts one → HaveMentioned before after (one ∷ [])
one_mentioned before after facts one looked = more_mentioned before before after [] facts one
    (nothing_mentioned before) looked

pub two_mentioned : (before now after : Mentions) (facts : Facts) (one : Reading) (other : Facts)
    (two : Reading)
    → HasLooked before now facts one → HasLooked now after other two
    → HaveMentioned before after (one ∷ two ∷ [])
two_mentioned before now after facts one other two first second =
    more_mentioned before now after (one ∷ []) other two (one_mentioned before now facts one first) second

-- what stands before the others
before_all : {A : Type 0} (f : Reading → List A) (before now after : List A) (one : Reading)
    (ones : List Reading)
    → now ≡ before ++ f one → after ≡ now ++ flat_map f ones → after ≡ before ++ flat_map f (one ∷ ones)
before_all f before now after one ones first more =
    more ∙ ap (λ (all : List _). all ++ flat_map f ones) first ∙ append_assoc before (f one) (flat_map f ones)

pub then_mentioned : (before now after : Mentions) (facts : Facts) (one : Reading) (ones : List Reading)
    → HasLooked before now facts one → HaveMentioned now after ones → HaveMentioned before after (one ∷ ones)
then_mentioned before now after facts one ones first more = record {
  loose = before_all (λ (one : Reading). one.loose) _ _ _ one ones first.loose more.loose;
  aggregates = before_all (λ (one : Reading). one.aggregates) _ _ _ one ones first.aggregates more.aggregates;
  literals = before_all (λ (one : Reading). one.literals) _ _ _ one ones first.literals more.literals;
}
