-- What a poll answers is what the desk's journal says.
use Rattle.std.proofs.Common.{◌≡◌, ℕ, ◌+◌, ◌==◌, Bool, true, List, [], ◌∷◌, find, All, inl, inr, refl, subst}
use Rattle.std.specs.Prelude.{⊤, Option, Some, None}
use Rattle.std.proofs.lemmas.Bool.{cases_Bool, cases_eq, eq-eqb, ne_eqb, eqb-true}
use Rattle.std.proofs.lemmas.List.Elements.{All-head, All-tail}
use Rattle.sa_desk.specs.declared.answer.Polled.{Polled}
use Rattle.sa_desk.specs.declared.answer.Polled.TheVariants as polled
use Rattle.sa_desk.specs.declared.request.Reply.{Reply}
use Rattle.sa_desk.specs.Contents.{Contents, state}
use Rattle.sa_desk.specs.World.{World, Meets, standing_on}
use Rattle.sa_desk.specs.Own.{request_from, HasOpen, HasOne}
use Rattle.sa_desk.specs.call.Poll.{reply_to, poll_answer}
use Rattle.sa_desk.specs.law.Answered.{IsAnswered}
use Rattle.sa_desk.proofs.laws.Answered.{replies_are_served}
use Rattle.sa_desk.proofs.laws.Request.{request_is_own}

-- What is found passes, and has what all have.
found_passes : {X : Type 0} (p : X → Bool) (xs : List X) (x : X) → find p xs ≡ Some x → p x ≡ true
found_passes p [] x is = cc
found_passes p (y ∷ ys) x is =
    elim (cases_Bool (p y)) [
      | inl here ↦ let same : Some y ≡ Some x = rw here at is in let own : y ≡ x = cc in subst (λ z. p z ≡ true) own here
      | inr not ↦ found_passes p ys x (rw not at is)
    ]

found_has : {X : Type 0} (P : X → Type 0) (p : X → Bool) (xs : List X) (x : X) → find p xs ≡ Some x → All P xs → P x
found_has P p [] x is all = cc
found_has P p (y ∷ ys) x is all =
    elim (cases_Bool (p y)) [
      | inl here ↦ let same : Some y ≡ Some x = rw here at is in let own : y ≡ x = cc in subst P own (All-head P y ys all)
      | inr not ↦ found_has P p ys x (rw not at is) (All-tail P y ys all)
    ]

module _ (world : World) (desk session number : ℕ) (met : Meets world desk session) (some : request_from None (standing_on desk (world.mine session)) ≡ Some number) where
  abbrev found : Contents
  found = world.contents desk

  open_request : HasOne session number (state found)
  open_request =
      let had : HasOpen (request_from None (standing_on desk (world.mine session))) session (state found) =
      subst (λ entries. HasOpen (request_from None entries) session (state found)) met.own (request_is_own found.terms found.journal session met.sound.run) in
      subst (λ request. HasOpen request session (state found)) some had

  pub reply_answers : (reply : Reply) → reply_to session (state found).replies ≡ Some reply → IsAnswered found.terms found.journal session number reply.report reply.begin
  reply_answers reply is =
      let replies = (state found).replies in
      let asker : reply.asker ≡ session = eqb-true reply.asker session (found_passes (λ (reply : Reply). reply.asker == session) replies reply is) in
      let request : reply.request ≡ number = found_has (λ (reply : Reply). reply.asker ≡ session → reply.request ≡ number) (λ reply. reply.asker == session) replies reply is open_request.served asker in
      let answered : IsAnswered found.terms found.journal reply.asker reply.request reply.report reply.begin =
      found_has (λ (reply : Reply). IsAnswered found.terms found.journal reply.asker reply.request reply.report reply.begin) (λ reply. reply.asker == session) replies reply is
      (replies_are_served found.terms found.journal met.sound.run) in
      subst (λ request. IsAnswered found.terms found.journal session request reply.report reply.begin) request
      (subst (λ asker. IsAnswered found.terms found.journal asker reply.request reply.report reply.begin) asker answered)

-- What an answer to a poll tells, after so many polls of a budget.
abbrev pub FitsPolled : Contents → (session number count turns : ℕ) → Polled → Type 0
FitsPolled desk session number count turns (polled.Taken report begin) = IsAnswered desk.terms desk.journal session number report begin
FitsPolled desk session number count turns (polled.Spent spent) = (spent ≡ turns) × (count + 1 ≡ turns)
FitsPolled desk session number count turns polled.NotYet = ⊤

pub poll_fits : (desk : Contents) (session number : ℕ) (reply : Option Reply) (count turns : ℕ)
    → ((given : Reply) → reply ≡ Some given → IsAnswered desk.terms desk.journal session number given.report given.begin)
    → FitsPolled desk session number count turns (poll_answer reply count turns)
poll_fits desk session number (Some reply) count turns answers = answers reply refl
poll_fits desk session number None count turns answers =
    elim (cases_eq (count + 1) turns) [
      | inl last ↦ rw (eq-eqb (count + 1) turns last) (refl, last)
      | inr apart ↦ rw (ne_eqb (count + 1) turns apart) tt
    ]
