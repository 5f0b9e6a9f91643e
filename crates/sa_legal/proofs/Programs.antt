-- Each entry of a session's program is a part of it.
use Rattle.std.proofs.Common.{◌≡◌, ℕ, ◌+◌, ◌-◌, List, [], ◌∷◌, ◌++◌, append_assoc, length, length-append, Some, slice_get, All, refl, sym, subst, ap, ◌∙◌, arith}
use Rattle.std.proofs.lemmas.List.Elements.{All-nil, All-cons, All-append, All-same}
use Rattle.sa_desk.specs.declared.entry.Entry.{Entry}
use Rattle.sa_desk.specs.declared.entry.Event.{Event}
use Rattle.sa_desk.specs.declared.entry.Event.TheVariants.{Gone}
use Rattle.sa_desk.specs.Legal.{Sessions, given_of, HasProgram}
use Rattle.sa_desk.specs.program.Course.{Given, Answer, Settings, settings_after, at_first}
use Rattle.sa_desk.specs.program.Prepares.{Answers, AreAnswers}
use Rattle.sa_desk.specs.program.Statement.{Statements}
use Rattle.sa_desk.specs.program.SoFar.{IsGone, Tail, closed}
use Rattle.sa_legal.proofs.Parts.{Part, IsPartOf, IsPart, statement_parts}

-- the element behind the first ones
here : {X : Type 0} (first rest : List X) (x : X) → slice_get (first ++ x ∷ rest) (length first) ≡ Some x
here [] rest x = refl
here (y ∷ first) rest x = here first rest x

module _ (gives : Answers) (given : Given) where
  -- Statements follow those whose texts were taken before.
  statements_parts : (settings : Settings) (number turn : ℕ) (gone taken more : List (List ℕ)) (answers : List Answer) (entries : List Entry) (left : Settings) (next last : ℕ)
      → given.texts ≡ gone ++ (taken ++ more) → number ≡ length gone + 1 → AreAnswers gives (taken ++ more) answers
      → Statements given settings number turn taken answers entries left next last → All (IsPart gives given) entries
  statements_parts settings number turn gone [] more [] entries left next last texts place are row =
      All-same (IsPart gives given) entries [] row.0 (All-nil (IsPart gives given))
  statements_parts settings number turn gone [] more (answer ∷ answers) entries left next last texts place are row = absurd row
  statements_parts settings number turn gone (text ∷ taken) more [] entries left next last texts place are row = absurd row
  statements_parts settings number turn gone (text ∷ taken) more (answer ∷ answers) entries left next last texts place are row =
      let index : number - 1 ≡ length gone = omega arith in
      let part : Part gives given number = record {
        least = omega arith;
        source = text;
        text = ap (λ xs. slice_get xs (number - 1)) texts ∙ ap (slice_get (gone ++ text ∷ (taken ++ more))) index ∙ here gone (taken ++ more) text;
        settings = settings;
        answer = answer;
        gives_it = are.0;
      } in
      let after : given.texts ≡ (gone ++ text ∷ []) ++ (taken ++ more) = texts ∙ sym (append_assoc gone (text ∷ []) (taken ++ more)) in
      let count : number + 1 ≡ length (gone ++ text ∷ []) + 1 = omega (arith, length-append gone (text ∷ [])) in
      All-same (IsPart gives given) entries (row.0 ++ row.1) row.4
      (All-append (IsPart gives given) row.0 row.1
      (statement_parts gives given number (turn + 1) part row.0 row.2 row.3 row.5)
      (statements_parts (settings_after settings answer row.3) (number + 1) row.2 (gone ++ text ∷ []) taken more answers row.1 left next last after count are.1 row.6))

  gone_part : (number : ℕ) (entry : Entry) (event : Event) → IsGone number event → IsPartOf gives given entry event
  gone_part number entry (Gone own) is = tt
  gone_part number entry event is = absurd is

  tail_parts : (settings : Settings) (number last : ℕ) (texts : List (List ℕ)) (tail : List Entry) (t : ℕ)
      → Tail given settings number last texts closed tail t → All (IsPart gives given) tail
  tail_parts settings number last texts (entry ∷ []) t is =
      All-cons (IsPart gives given) entry [] (subst (IsPartOf gives given entry) (sym is.3) tt) (All-nil (IsPart gives given))
  tail_parts settings number last texts (entry ∷ close ∷ []) t is =
      All-cons (IsPart gives given) entry (close ∷ []) (gone_part number entry entry.event is.3)
      (All-cons (IsPart gives given) close [] (subst (IsPartOf gives given close) (sym is.5) tt) (All-nil (IsPart gives given)))
  tail_parts settings number last texts tail t is = absurd is

pub program_parts : (gives : Answers) (sessions : Sessions) (journals : List (List Entry)) (session : ℕ)
    → (has : HasProgram gives sessions journals session) → All (IsPart gives (given_of sessions session)) has.mine
program_parts gives sessions journals session has =
    let given : Given = given_of sessions session in
    let so_far = has.program.1 in
    let are : AreAnswers gives (so_far.taken ++ so_far.texts) has.answers = subst (λ texts. AreAnswers gives texts has.answers) so_far.texts_are has.given in
    let done : All (IsPart gives given) so_far.done =
    statements_parts gives given at_first 1 0 [] so_far.taken so_far.texts has.answers so_far.done so_far.settings so_far.number so_far.last so_far.texts_are refl are so_far.ended in
    let tail = tail_parts gives given so_far.settings so_far.number so_far.last so_far.texts so_far.tail has.program.0 so_far.tail_is in
    All-same (IsPart gives given) has.mine (so_far.done ++ so_far.tail) so_far.parts (All-append (IsPart gives given) so_far.done so_far.tail done tail)
