-- A kill that was seen is still one that was seen after a call.
use Rattle.std.proofs.Common.{◌≡◌, ◌≢◌, ℕ, ◌==◌, true, List, [], ◌++◌, sym, subst, ap, ap₂, ◌∙◌, append_assoc, append-nil, eq-eqb}
use Rattle.std.proofs.lemmas.List.Elements.{All-weaker, filter-append}
use Rattle.sa_desk.specs.declared.entry.Entry.{Entry}
use Rattle.sa_desk.specs.Contents.{Contents}
use Rattle.sa_desk.specs.Runs.{state_of}
use Rattle.sa_desk.specs.Serving.{is_killed}
use Rattle.sa_desk.specs.World.{World, IsCall, Begins, made_by, standing_on}
use Rattle.sa_desk.proofs.Numbered.{filter-everything}
use Rattle.sa_worker.specs.View.{Stage, View, desk_at}
use Rattle.sa_worker.specs.Next.{goes_to}
use Rattle.sa_worker.specs.Keeps.{WasKilled, KeepsAt}
use Rattle.sa_worker.proofs.keeps.Moves.{mine_here, mine_elsewhere}

pub Begins-more : (first middle last : List Entry) → Begins first middle → Begins middle last → Begins first last
Begins-more first middle last one two = (one.0 ++ two.0, two.1 ∙ ap (λ xs. xs ++ two.0) one.1 ∙ append_assoc first one.0 two.0)

module _ (world later : World) (view : View) (stage : Stage) (keeps : KeepsAt world view stage) (entries : List Entry) (after : Contents)
    (call : IsCall world later (desk_at view stage) view.given.session entries after) (next : Stage) where
  abbrev session : ℕ
  session = view.given.session

  -- a call at another desk
  pub still_elsewhere : desk_at view stage ≢ session → WasKilled world view → WasKilled later (goes_to view next)
  still_elsewhere apart was = record {
    journal = was.journal;
    seen = Begins-more was.journal (world.seen session session) (later.seen session session) was.seen (call.seen_more session session);
    own = was.own ∙ sym (mine_elsewhere world later view stage keeps entries after call session (λ same. apart (sym same)));
    killed = subst (λ terms. is_killed (state_of terms was.journal).phase ≡ true) (sym (call.same_terms session)) was.killed;
  }

  -- what the session has made of all that the call left at the desk
  own_left : made_by session after.journal ≡ standing_on (desk_at view stage) (later.mine session)
  own_left =
      let own = filter-everything (λ (entry : Entry). entry.actor == session) entries
      (All-weaker (λ (entry : Entry). entry.actor ≡ session) (λ entry. (entry.actor == session) ≡ true) (λ entry is. eq-eqb entry.actor session is) entries call.leaves.own) in
      ap (made_by session) call.leaves.grown ∙ filter-append (λ (entry : Entry). entry.actor == session) (world.contents (desk_at view stage)).journal entries
      ∙ ap₂ (λ first last. first ++ last) call.met.own own ∙ sym (mine_here world later view stage keeps entries after call)

  -- a call at its own desk, which leaves it killed
  pub still_here : desk_at view stage ≡ session → is_killed (state_of (world.terms session) after.journal).phase ≡ true → WasKilled later (goes_to view next)
  still_here same killed = record {
    journal = after.journal;
    seen = ([], subst (λ at. later.seen session at ≡ after.journal) same call.seen_is ∙ sym (append-nil after.journal));
    own = subst (λ at. made_by session after.journal ≡ standing_on at (later.mine session)) same own_left;
    killed = subst (λ terms. is_killed (state_of terms after.journal).phase ≡ true) (sym (call.same_terms session)) killed;
  }
