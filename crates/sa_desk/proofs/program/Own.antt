-- What the entries of one call do to what a session's own entries say.
use Rattle.std.proofs.Common.{◌≡◌, ℕ, ◌==◌, true, false, List, [], ◌∷◌, ◌++◌, Option, inl, inr, refl, ap, ◌∙◌, arith}
use Rattle.std.proofs.lemmas.Grind.{common_steps}
use Rattle.std.proofs.lemmas.Bool.{cases_eq, eq-eqb, ne_eqb}
use Rattle.std.proofs.lemmas.List.Elements.{filter-append}
use Rattle.sa_count.specs.declared.report.Report.{Report}
use Rattle.sa_desk.specs.declared.entry.Entry.{Entry}
use Rattle.sa_desk.specs.declared.request.Request.{Request}
use Rattle.sa_desk.specs.declared.stamp.Stamp.{Stamp}
use Rattle.sa_desk.specs.Charge.{charge}
use Rattle.sa_desk.specs.Contents.{Contents, phase, later}
use Rattle.sa_desk.specs.Serving.{served_with}
use Rattle.sa_desk.specs.World.{World, Meets, made_by, standing_on}
use Rattle.sa_desk.specs.Own.{Outline, free, outline, own_event, own_from, request_event, request_from}
use Rattle.sa_desk.proofs.laws.Outline.{outline_is_own, made_by-own, made_by-other}

-- Entries one after another.
pub own_from-append : (was : Outline) (first last : List Entry) → own_from was (first ++ last) ≡ own_from (own_from was first) last
own_from-append was [] last = refl
own_from-append was (entry ∷ rest) last = own_from-append (own_event was entry entry.event) rest last

pub request_from-append : (was : Option ℕ) (first last : List Entry) → request_from was (first ++ last) ≡ request_from (request_from was first) last
request_from-append was [] last = refl
request_from-append was (entry ∷ rest) last = request_from-append (request_event was entry.event) rest last

-- What is served changes neither, and costs nothing.
pub own_from-served : (was : Outline) (desk : Contents) (report : Report) (stamp : Stamp) (queue : List Request) → own_from was (served_with desk report stamp queue) ≡ was
own_from-served was desk report stamp [] = refl
own_from-served was desk report stamp (request ∷ rest) = own_from-served was desk report (later 1 stamp) rest

pub request_from-served : (was : Option ℕ) (desk : Contents) (report : Report) (stamp : Stamp) (queue : List Request) → request_from was (served_with desk report stamp queue) ≡ was
request_from-served was desk report stamp [] = refl
request_from-served was desk report stamp (request ∷ rest) = request_from-served was desk report (later 1 stamp) rest

pub charge-served : (session : ℕ) (desk : Contents) (report : Report) (stamp : Stamp) (queue : List Request) → charge session (served_with desk report stamp queue) ≡ 0
charge-served session desk report stamp [] = refl
charge-served session desk report stamp (request ∷ rest) =
    let more : charge session (served_with desk report (later 1 stamp) rest) ≡ 0 = charge-served session desk report (later 1 stamp) rest in
    elim (cases_eq stamp.actor session) [
      | inl own ↦ let is : (stamp.actor == session) ≡ true = eq-eqb stamp.actor session own in grind (arith, common_steps)
      | inr other ↦ let is : (stamp.actor == session) ≡ false = ne_eqb stamp.actor session other in grind (arith, common_steps)
    ]

-- What a session has paid is the cost of its own entries.
pub charge-made_by : (session : ℕ) (journal : List Entry) → charge session journal ≡ charge session (made_by session journal)
charge-made_by session [] = refl
charge-made_by session (entry ∷ rest) =
    let more : charge session rest ≡ charge session (made_by session rest) = charge-made_by session rest in
    elim (cases_eq entry.actor session) [
      | inl same ↦ let parts : made_by session (entry ∷ rest) ≡ entry ∷ made_by session rest = made_by-own session entry rest same in grind (arith, common_steps)
      | inr other ↦
          let parts : made_by session (entry ∷ rest) ≡ made_by session rest = made_by-other session entry rest other in
          let apart : (entry.actor == session) ≡ false = ne_eqb entry.actor session other in grind (arith, common_steps)
    ]

-- Where a session meets a desk, its own entries there tell its outline and its charge.
pub outline-met : (world : World) (session : ℕ) → Meets world session session
    → outline (phase (world.contents session)) ≡ own_from free (standing_on session (world.mine session))
outline-met world session met =
    outline_is_own (world.contents session).terms (world.contents session).journal met.sound.run
    ∙ ap (λ desk. own_from free (made_by desk (world.contents session).journal)) met.number ∙ ap (own_from free) met.own

pub charge-met : (world : World) (desk session : ℕ) → Meets world desk session
    → charge session (world.contents desk).journal ≡ charge session (standing_on desk (world.mine session))
charge-met world desk session met = charge-made_by session (world.contents desk).journal ∙ ap (charge session) met.own

-- A call's entries stand on one desk, and come last there.
pub standing-append : (desk : ℕ) (mine entries : List Entry) → standing_on desk (mine ++ entries) ≡ standing_on desk mine ++ standing_on desk entries
standing-append desk mine entries = filter-append (λ (entry : Entry). entry.desk == desk) mine entries
