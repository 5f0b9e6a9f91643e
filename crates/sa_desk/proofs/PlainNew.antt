-- New desks on one thread.
use Rattle.std.proofs.Common.{◌≡◌, ℕ, ◌+◌, ◌-◌, ◌<◌, ◌≤◌, ◌==◌, inl, inr, List, [], length, nat_lt, replicate, slice_index_or, slice_index, map, filter, Option, None, refl, sym, ap, ◌∙◌, arith}
use Rattle.std.specs.List.{flat_map, range_with_len}
use Rattle.std.proofs.lemmas.Bool.{cases_Bool}
use Rattle.std.proofs.lemmas.Bool.Decides.{nat_tests}
use Rattle.std.proofs.lemmas.List.{get_or-replicate, get_or_past, length-replicate}
use Rattle.sa_desk.specs.declared.entry.Entry.{Entry}
use Rattle.sa_desk.specs.declared.request.OpenWait.{OpenWait}
use Rattle.sa_desk.specs.Contents.{Contents}
use Rattle.sa_desk.specs.New.{new_desk, no_desk, AreNew}
use Rattle.sa_desk.specs.World.{no_quiet, quiet_of, made_by, standing_on, IsFirst}
use Rattle.sa_desk.specs.Plain.{Plain, is_numbered, all_entries, entries_of, desk_at, are_there, quiet_at, world_of, AreOwn, IsPlain}
use Rattle.sa_desk.specs.inner.NextPlain.{made_of}
use Rattle.sa_desk.proofs.PlainCall.{are_there-is, Meets-plain}

-- A list of one thing alone has it everywhere, and past its end too.
slice_index_or-replicate : {X : Type 0} (count index : ℕ) (thing : X) → slice_index_or (replicate count thing) index thing ≡ thing
slice_index_or-replicate count index thing =
    elim (cases_Bool (nat_lt index count)) [
      | inl below ↦ let within : index < count = grind (arith, nat_tests) in get_or-replicate count index thing thing within
      | inr past ↦ let many = length-replicate count thing in let past : length (replicate count thing) ≤ index = grind (arith, nat_tests) in get_or_past (replicate count thing) index thing past
    ]

-- A new desk counts nothing.
quiet_of-new : (number quantum turns : ℕ) (shares : List ℕ) (session : ℕ) → quiet_of (new_desk number quantum turns shares) session ≡ no_quiet
quiet_of-new number quantum turns shares session =
    let polls : slice_index (replicate (length shares) 0) (session - 1) ≡ 0 = slice_index_or-replicate (length shares) (session - 1) 0 in
    let none : Option OpenWait = None in
    let waits : slice_index_or (replicate (length shares) none) (session - 1) None ≡ None = slice_index_or-replicate (length shares) (session - 1) none in
    elim (cases_Bool (session == number)) [
      | inl own ↦ rw (own, polls, waits) refl
      | inr other ↦ rw (other, polls, waits) refl
    ]

module _ (desks : List Contents) (are : AreNew desks) where
  abbrev plain : Plain
  plain = record { desks = desks; made = replicate (length desks) 0 }

  -- Nothing stands anywhere.
  no_journal : (index : ℕ) → (slice_index_or desks index no_desk).journal ≡ []
  no_journal index =
      elim (cases_Bool (nat_lt index (length desks))) [
        | inl below ↦ ap (λ desk. desk.journal) (are.new index (grind (arith, nat_tests)))
        | inr past ↦ ap (λ desk. desk.journal) (get_or_past desks index no_desk (grind (arith, nat_tests)))
      ]

  none_made : (session : ℕ) → made_of plain session ≡ 0
  none_made session = slice_index_or-replicate (length desks) (session - 1) 0

  no_entries : (session : ℕ) → entries_of plain session ≡ []
  no_entries session =
      let find = λ (number : ℕ). filter (is_numbered session number) (all_entries desks) in
      ap (λ count. flat_map find (range_with_len 1 count)) (none_made session)

  AreOwn-new : (session : ℕ) → AreOwn plain session
  AreOwn-new session = record {
    own = λ desk least most. ap (made_by session) (no_journal (desk - 1)) ∙ ap (standing_on desk) (sym (no_entries session));
    numbered = ap (map (λ (entry : Entry). entry.seq)) (no_entries session) ∙ ap (range_with_len 1) (sym (none_made session));
    within = let none = none_made session in omega (arith, none);
  }

  pub IsPlain-new : IsPlain plain
  IsPlain-new =
      let index : (desk : ℕ) → 1 ≤ desk → desk ≤ length desks → desk - 1 < length desks = λ desk least most. omega arith in
      record {
        few = are.few;
        sessions = length-replicate (length desks) 0;
        sound = λ desk least most. are.sound (desk - 1) (index desk least most);
        numbers = λ desk least most. ap (λ desk. desk.terms.desk) (are.new (desk - 1) (index desk least most)) ∙ (omega arith);
        shares = λ desk least most. are.shares (desk - 1) (index desk least most);
        entries = λ session least most. AreOwn-new session;
      }

  -- Nothing is counted.
  no_count : (session desk : ℕ) → quiet_at plain session desk ≡ no_quiet
  no_count session desk =
      elim (cases_Bool (are_there plain desk session)) [
        | inl are_both ↦
            let there = are_there-is plain desk session are_both in
            let new = are.new (desk - 1) (let least = there.desk_least in let most = there.desk_most in omega arith) in
            let at = desk_at plain desk in
            rw are_both (ap (λ desk. quiet_of desk session) new ∙ quiet_of-new (desk - 1 + 1) at.terms.quantum at.terms.turns at.shares session)
        | inr not ↦ rw not refl
      ]

  pub IsFirst-new : IsFirst (world_of plain)
  IsFirst-new = record {
    met = Meets-plain plain IsPlain-new;
    mine = no_entries;
    seen = λ session desk. no_journal (desk - 1);
    quiet = no_count;
  }
