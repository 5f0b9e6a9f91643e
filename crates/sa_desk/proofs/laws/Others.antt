-- What others do leaves what a session knows, but that journals grow.
use Rattle.std.proofs.Common.{◌≡◌, ◌≢◌, ℕ, ◌==◌, false, inl, inr, List, [], ◌∷◌, ◌++◌, All, sym, ap, ◌∙◌, append-nil}
use Rattle.std.proofs.lemmas.Bool.{cases_eq, ne_eqb}
use Rattle.std.proofs.lemmas.List.{append_cancel_left}
use Rattle.std.proofs.lemmas.List.Elements.{All-nil, All-cons, All-weaker, filter-append}
use Rattle.sa_desk.specs.declared.entry.Entry.{Entry}
use Rattle.sa_desk.specs.Contents.{Contents}
use Rattle.sa_desk.specs.World.{World, made_by, standing_on, Meets, IsCall}
use Rattle.sa_desk.specs.law.Others.{StaysFor}
use Rattle.sa_desk.proofs.Numbered.{filter-nothing}
use Rattle.sa_desk.proofs.laws.Outline.{made_by-own, made_by-other}

-- Where a session has made none of them, they are others'.
none_of : (session : ℕ) (entries : List Entry) → made_by session entries ≡ [] → All (λ entry. entry.actor ≢ session) entries
none_of session [] none = All-nil (λ entry. entry.actor ≢ session)
none_of session (entry ∷ rest) none =
    elim (cases_eq entry.actor session) [
      | inl same ↦ let some : entry ∷ made_by session rest ≡ [] = sym (made_by-own session entry rest same) ∙ none in cc
      | inr other ↦ All-cons (λ entry. entry.actor ≢ session) entry rest other (none_of session rest (sym (made_by-other session entry rest other) ∙ none))
    ]

-- what it made of what it has seen, where others alone came after
seen_own : (world : World) (desk session : ℕ) → Meets world desk session → made_by session (world.seen session desk) ≡ standing_on desk (world.mine session)
seen_own world desk session met =
    let seen = world.seen session desk in
    let nothing : made_by session met.others ≡ [] =
    filter-nothing (λ entry. entry.actor == session) met.others
    (All-weaker (λ entry. entry.actor ≢ session) (λ entry. (entry.actor == session) ≡ false) (λ entry apart. ne_eqb entry.actor session apart) met.others met.of_others) in
    sym (append-nil (made_by session seen)) ∙ ap (λ more. made_by session seen ++ more) (sym nothing)
    ∙ sym (filter-append (λ entry. entry.actor == session) seen met.others) ∙ ap (made_by session) (sym met.grown) ∙ met.own

pub others_leave : (before later : World) (desk session other at : ℕ) (entries : List Entry) (left : Contents) → IsCall before later desk other entries left → session ≢ other
    → Meets before at session → Meets later at session → StaysFor before later session at
others_leave before later desk session other at entries left call apart was is =
    let grown = call.seen_more session at in
    let seen = before.seen session at in
    let mine : later.mine session ≡ before.mine session = call.others_mine session apart in
    let same : made_by session seen ++ made_by session grown.0 ≡ made_by session seen ++ [] =
    sym (filter-append (λ entry. entry.actor == session) seen grown.0) ∙ ap (made_by session) (sym grown.1)
    ∙ seen_own later at session is ∙ ap (standing_on at) mine ∙ sym (seen_own before at session was) ∙ sym (append-nil (made_by session seen)) in
    record {
      mine = mine;
      quiet = λ index. call.others_quiet session index apart;
      terms = call.same_terms;
      shares = call.same_shares;
      more = grown.0;
      seen = grown.1;
      of_others = none_of session grown.0 (append_cancel_left (made_by session seen) (made_by session grown.0) [] same);
    }
