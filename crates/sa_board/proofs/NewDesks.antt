-- Desks as they were founded, and a session that has left no trace.
use Rattle.std.proofs.Common.{◌≡◌, ℕ, ◌+◌, ◌-◌, ◌<◌, ◌≤◌, ◌==◌, inl, inr, List, [], ◌++◌, length, replicate, slice_index, Option, None, refl, sym, ap, ◌∙◌, arith}
use Rattle.std.specs.Prelude.{nat_lt, slice_index_or}
use Rattle.std.proofs.lemmas.Bool.{cases_Bool}
use Rattle.std.proofs.lemmas.Bool.Decides.{nat_tests}
use Rattle.std.proofs.lemmas.List.{get_or-replicate, get_or_past, length-replicate}
use Rattle.std.proofs.lemmas.List.Elements.{All-nil}
use Rattle.sa_desk.specs.declared.entry.Entry.{Entry}
use Rattle.sa_desk.specs.declared.request.OpenWait.{OpenWait}
use Rattle.sa_desk.specs.Contents.{Contents}
use Rattle.sa_desk.specs.New.{new_desk, AreNew}
use Rattle.sa_desk.specs.World.{no_quiet, quiet_of, made_by}
use Rattle.sa_board.specs.View.{desk_in, newcomer}
use Rattle.sa_board.specs.Rule.{StandsThere, IsKnown, IsUnborn}

-- A list of one thing alone has it everywhere, and past its end too.
pub slice_index_or-replicate : {X : Type 0} (count index : ℕ) (thing : X) → slice_index_or (replicate count thing) index thing ≡ thing
slice_index_or-replicate count index thing =
    elim (cases_Bool (nat_lt index count)) [
      | inl below ↦ let within : index < count = grind (arith, nat_tests) in get_or-replicate count index thing thing within
      | inr past ↦ let many = length-replicate count thing in let past : length (replicate count thing) ≤ index = grind (arith, nat_tests) in get_or_past (replicate count thing) index thing past
    ]

-- A new desk counts nothing.
pub quiet_of-new : (number quantum turns : ℕ) (shares : List ℕ) (session : ℕ) → quiet_of (new_desk number quantum turns shares) session ≡ no_quiet
quiet_of-new number quantum turns shares session =
    let polls : slice_index (replicate (length shares) 0) (session - 1) ≡ 0 = slice_index_or-replicate (length shares) (session - 1) 0 in
    let none : Option OpenWait = None in
    let waits : slice_index_or (replicate (length shares) none) (session - 1) None ≡ None = slice_index_or-replicate (length shares) (session - 1) none in
    elim (cases_Bool (session == number)) [
      | inl own ↦ rw (own, polls, waits) refl
      | inr other ↦ rw (other, polls, waits) refl
    ]

module _ (founded : List Contents) (are : AreNew founded) (index : ℕ) (within : index < length founded) where
  pub founded-journal : (desk_in founded index).journal ≡ []
  founded-journal = ap (λ (desk : Contents). desk.journal) (are.new index within)

  pub founded-number : (desk_in founded index).terms.desk ≡ index + 1
  founded-number = ap (λ (desk : Contents). desk.terms.desk) (are.new index within)

  -- Nobody has left a trace.
  pub founded-unborn : (session : ℕ) → IsUnborn session (desk_in founded index)
  founded-unborn session =
      let desk = desk_in founded index in
      record {
        none = ap (made_by session) founded-journal;
        quiet = ap (λ (desk : Contents). quiet_of desk session) (are.new index within)
            ∙ quiet_of-new (index + 1) desk.terms.quantum desk.terms.turns desk.shares session;
      }

-- A session that has left no trace is known to have met the desks as they were founded.
pub IsKnown-newcomer : (founded now : List Contents) (session : ℕ) → AreNew founded → length now ≡ length founded
    → ((index : ℕ) → index < length founded → IsUnborn session (desk_in now index))
    → ((index : ℕ) → index < length founded → (desk_in now index).terms ≡ (desk_in founded index).terms)
    → ((index : ℕ) → index < length founded → (desk_in now index).shares ≡ (desk_in founded index).shares)
    → IsKnown now (newcomer session founded)
IsKnown-newcomer founded now session are long unborn terms shares = record {
  wide = sym long;
  fits = λ index lt.
      let within : index < length founded = omega arith in
      let first = founded-unborn founded are index within session in
      let none = unborn index within in
      record {
        begins = ((desk_in now index).journal, ap (λ (start : List Entry). start ++ (desk_in now index).journal) (sym (founded-journal founded are index within)));
        same_own = first.none ∙ sym none.none;
        quiet = first.quiet ∙ sym none.quiet;
        own = first.none;
        terms = sym (terms index within);
        shares = sym (shares index within);
      };
  numbered = refl;
  there = All-nil (StandsThere (length now));
}
