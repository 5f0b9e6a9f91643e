-- What one call changes of how a session's entries stand to its program.
use Rattle.std.proofs.Common.{◌≡◌, ℕ, ◌+◌, List, [], ◌∷◌, ◌++◌, length, map, All, refl, sym, subst, ap, ◌∙◌, append_assoc, append-nil, arith}
use Rattle.std.specs.List.{range_with_len}
use Rattle.std.proofs.lemmas.List.Elements.{All-append, All-cons, All-nil}
use Rattle.sa_desk.specs.declared.entry.Entry.{Entry}
use Rattle.sa_desk.specs.Contents.{Contents}
use Rattle.sa_desk.specs.World.{World, IsCall}
use Rattle.sa_desk.specs.program.Course.{Given, Answer, Settings, at_first, settings_after, course_of}
use Rattle.sa_desk.specs.program.Between.{Due, Between}
use Rattle.sa_desk.specs.program.SoFar.{IsTold}
use Rattle.sa_desk.specs.program.Statement.{IsStatement}
use Rattle.sa_desk.specs.declared.outcome.Outcome.{Outcome}
use Rattle.sa_desk.proofs.Numbered.{AreNumbered, AreNumbered-append}
use Rattle.sa_desk.proofs.program.Statements.{Statements-push}
use Rattle.sa_desk.proofs.program.Told.{all_told-grow}
use Rattle.sa_worker.specs.View.{Stage, prepares, View}
use Rattle.sa_worker.specs.Follows.{IsWithin, TailAt, FollowsAt}

-- A statement without a run has made more entries, or none.
pub IsWithin-more : (given : Given) (settings : Settings) (number last : ℕ) (texts : List (List ℕ)) (began : ℕ) (answer : Answer) (tail : List Entry) (turn : ℕ) (between : List Entry) (is : Due)
    → IsWithin given settings number last texts began answer tail turn between is → (more : List Entry) (next : ℕ) (due : Due)
    → Between given number began (course_of given settings answer) (between ++ more) next due → IsWithin given settings number last texts began answer (tail ++ more) next (between ++ more) due
IsWithin-more given settings number last texts began answer tail turn between is within more next due row = record {
  begin = within.begin;
  tail_is = ap (λ entries. entries ++ more) within.tail_is;
  open_is = within.open_is;
  row = row;
}

-- One entry tells what it tells, and none tells nothing.
pub told_one : (given : Given) (journals : ℕ → List Entry) (entry : Entry) → IsTold given journals entry.event → All (λ entry. IsTold given journals entry.event) (entry ∷ [])
told_one given journals entry told =
    let Told : Entry → Type 0 = λ entry. IsTold given journals entry.event in All-cons Told entry [] told (All-nil Told)

pub told_none : (given : Given) (journals : ℕ → List Entry) → All (λ (entry : Entry). IsTold given journals entry.event) []
told_none given journals = All-nil (λ (entry : Entry). IsTold given journals entry.event)

module _ (world later : World) (view : View) (stage : Stage) (answers : List Answer)
    (follows : FollowsAt view stage (world.seen view.given.session) answers (world.mine view.given.session)) (desk : ℕ) (entries : List Entry) (left : Contents)
    (call : IsCall world later desk view.given.session entries left) where
  abbrev session : ℕ
  session = view.given.session

  pub by_now : All (λ entry. entry.actor ≡ session) (later.mine session)
  by_now = subst (All (λ (entry : Entry). entry.actor ≡ session)) (sym call.mine_is)
      (All-append (λ (entry : Entry). entry.actor ≡ session) (world.mine session) entries follows.by call.leaves.own)

  pub numbered_now : map (λ entry. entry.seq) (later.mine session) ≡ range_with_len 1 (length (later.mine session))
  numbered_now =
      let from : length (world.mine session) + 1 ≡ 1 + length (world.mine session) = omega arith in
      let more : AreNumbered (1 + length (world.mine session)) entries = subst (λ start. AreNumbered start entries) from call.leaves.numbered in
      subst (AreNumbered 1) (sym call.mine_is) (AreNumbered-append 1 (world.mine session) entries follows.numbered more)

  pub told_now : All (λ entry. IsTold view.given (later.seen session) entry.event) entries → All (λ entry. IsTold view.given (later.seen session) entry.event) (later.mine session)
  told_now told = subst (All (λ (entry : Entry). IsTold view.given (later.seen session) entry.event)) (sym call.mine_is)
      (All-append (λ (entry : Entry). IsTold view.given (later.seen session) entry.event) (world.mine session) entries
      (all_told-grow view.given (world.seen session) (later.seen session) (call.seen_more session) (world.mine session) follows.told) told)

  -- The entries come last, and no statement has ended.
  pub Follows-on : (turn began : ℕ) (next : Stage) → All (λ entry. IsTold view.given (later.seen session) entry.event) entries
      → (let after : View = record { given = view.given; settings = view.settings; turn = turn; number = view.number; answer = view.answer; began = began; stage = next } in
      TailAt after (later.seen session) follows.last follows.texts (follows.tail ++ entries) next → FollowsAt after next (later.seen session) answers (later.mine session))
  Follows-on turn began next told tail = record {
    by = by_now;
    numbered = numbered_now;
    told = told_now told;
    last = follows.last;
    before = follows.before;
    tail = follows.tail ++ entries;
    parts = call.mine_is ∙ ap (λ mine. mine ++ entries) follows.parts ∙ append_assoc follows.before follows.tail entries;
    taken = follows.taken;
    texts = follows.texts;
    texts_are = follows.texts_are;
    ended = follows.ended;
    tail_is = tail;
  }

  -- The statement has ended with these entries.
  pub Follows-ended : (text : List ℕ) (rest : List (List ℕ)) (result : Outcome) → follows.texts ≡ text ∷ rest
      → IsStatement view.given view.settings view.number (follows.last + 1) text view.answer (follows.tail ++ entries) (view.turn + 1) result
      → All (λ entry. IsTold view.given (later.seen session) entry.event) entries
      → (let after : View = record {
        given = view.given;
        settings = settings_after view.settings view.answer result;
        turn = view.turn + 1;
        number = view.number + 1;
        answer = view.answer;
        began = view.began;
        stage = prepares;
      } in FollowsAt after prepares (later.seen session) (answers ++ view.answer ∷ []) (later.mine session))
  Follows-ended text rest result next_text whole told = record {
    by = by_now;
    numbered = numbered_now;
    told = told_now told;
    last = view.turn + 1;
    before = follows.before ++ (follows.tail ++ entries);
    tail = [];
    parts = call.mine_is ∙ ap (λ mine. mine ++ entries) follows.parts ∙ append_assoc follows.before follows.tail entries ∙ sym (append-nil (follows.before ++ (follows.tail ++ entries)));
    taken = follows.taken ++ text ∷ [];
    texts = rest;
    texts_are = follows.texts_are ∙ ap (λ texts. follows.taken ++ texts) next_text ∙ sym (append_assoc follows.taken (text ∷ []) rest);
    ended = Statements-push view.given at_first 1 0 follows.taken answers follows.before view.settings view.number follows.last text view.answer (follows.tail ++ entries) (view.turn + 1) result follows.ended whole;
    tail_is = (refl, refl);
  }
