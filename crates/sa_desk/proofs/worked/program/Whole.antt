-- Whole sessions, on examples: a SET and the Close, and a session that a KILL CONNECTION ended.
use Rattle.std.proofs.Common.{◌≡◌, ℕ, List, [], ◌∷◌, None, refl, inl, rules}
use Rattle.sa_plan.specs.declared.prepared.Work.TheVariants as work
use Rattle.sa_meaning.specs.Data.{RunData}
use Rattle.sa_desk.specs.declared.entry.Entry.{Entry}
use Rattle.sa_desk.specs.declared.entry.Event.TheVariants.{Begin, End, Gone, Close}
use Rattle.sa_desk.specs.declared.outcome.Outcome.TheVariants as outcome
use Rattle.sa_desk.specs.program.Course.{Given, prepared, at_first, says}
use Rattle.sa_desk.specs.program.Statement.{EndsAs}
use Rattle.sa_desk.specs.program.SoFar.{closed, Tail, IsSoFar}
use Rattle.sa_desk.proofs.worked.program.Rows.{at, given_of}

module _ (tables : RunData) (text : List ℕ) (journals : ℕ → List Entry) where
  abbrev given : Given
  given = given_of tables (text ∷ [])

  abbrev begin : Entry
  begin = at 2 1 1 (Begin 1 text 0 None None)

  abbrev end : Entry
  end = at 2 2 2 (End 1 outcome.Set 0)

  -- One SET, and then nothing is left but the Close.
  pub set_and_close : IsSoFar given journals (prepared text (work.SetLimit 5) ∷ []) (begin ∷ end ∷ at 2 3 3 Close ∷ []) 3 closed
  set_and_close = record {
    by = search rules;
    numbered = search rules;
    told = search rules;
    settings = record at_first { limit = 5 };
    last = 2;
    done = begin ∷ end ∷ [];
    tail = at 2 3 3 Close ∷ [];
    parts = refl;
    taken = text ∷ [];
    texts = [];
    texts_are = refl;
    number = 2;
    ended = (
      begin ∷ end ∷ [],
      [],
      2,
      outcome.Set,
      refl,
      record {
        begin = begin;
        between = [];
        end = end;
        parts = refl;
        begin_own = (refl, refl);
        begins = search rules;
        before = 1;
        end_own = (refl, refl);
        ends_so = (refl, refl, refl, refl, outcome.Set, (refl, refl), inl refl);
      },
      (refl, refl, refl, refl),
    );
    tail_is = search rules;
  }

  -- The End stands in the next turn, has no steps, and says what is due or Interrupted.
  pub ended_late : EndsAs given 5 1 1 1 (says outcome.Set) [] 3 (End 1 outcome.Set 0) outcome.Set → ⊥
  ended_late row = search rules

  pub ended_with_steps : EndsAs given 5 1 1 1 (says outcome.Set) [] 2 (End 1 outcome.Set 1) outcome.Set → ⊥
  ended_with_steps row = search rules

  pub ended_otherwise : EndsAs given 5 1 1 1 (says outcome.Set) [] 2 (End 1 outcome.OutOfMemory 0) outcome.OutOfMemory → ⊥
  ended_otherwise row = search rules

  -- Where the first statement couldn't begin, only the Close follows.
  pub gone_and_closed : Tail given at_first 1 0 (text ∷ []) closed (at 2 1 1 (Gone 1) ∷ at 2 2 2 Close ∷ []) 2
  gone_and_closed = ((λ none. let some : text ∷ [] ≡ [] = none in cc), refl, (refl, refl), refl, (refl, refl), refl)

  pub closed_too_early : Tail given at_first 1 0 (text ∷ []) closed (at 2 1 1 Close ∷ []) 1 → ⊥
  closed_too_early row = let none : text ∷ [] ≡ [] = row.0 in cc

  pub closed_late : Tail given at_first 1 0 [] closed (at 2 1 2 Close ∷ []) 2 → ⊥
  closed_late row = search rules
