-- A text is one script, or it has one first fault.
use Rattle.std.proofs.Common.{◌≡◌, ◌≢◌, ℕ, Bool, true, false, List, [], ◌∷◌, Result, Ok, Err, refl, sym, ap, ◌∙◌, subst, inl, inr, arith}
use Rattle.std.proofs.lemmas.Str.{utf8_valid_len-IsValidUpTo}
use Rattle.sa_script.specs.declared.fault.ScriptFault.{ScriptFault}
use Rattle.sa_script.specs.declared.fault.ScriptFault.TheVariants.{Bad, OutOfMemory}
use Rattle.sa_script.specs.declared.fault.ScriptKind.TheVariants as script
use Rattle.sa_script.specs.declared.said.Said.{Said}
use Rattle.sa_script.specs.declared.script.Script.{Script}
use Rattle.sa_script.specs.Fault.{Fault, fault_at}
use Rattle.sa_script.specs.Piece.{Piece}
use Rattle.sa_script.specs.Said.{nothing_said}
use Rattle.sa_script.specs.Says.{Says, LeadTo, FailsAt}
use Rattle.sa_script.specs.Script.{IsScript, IsNotUtf8, HasFaultyPiece, IsFault, IsScriptOf, script_said}
use Rattle.sa_script.proofs.one_answer.Says.{Grammars, same_said, same_failed_at, says_or_fails}

abbrev done : Script → Result Script Fault
done read = Ok read

abbrev failed : Fault → Result Script Fault
failed fault = Err fault

done_or_failed : (read : Script) (fault : Fault) → done read ≡ failed fault → ⊥
done_or_failed read fault e = cc

done_is : (read more : Script) → done read ≡ done more → read ≡ more
done_is read more e = cc

failed_is : (fault other : Fault) → failed fault ≡ failed other → fault ≡ other
failed_is fault other e = cc

-- how a script ends at a place: its last piece says something, or a piece fails
abbrev Ends : List ℕ → Said → ℕ → Result Script Fault → Type 0
Ends text said from (Ok read) = (piece : Piece) × (next : Said) × (to : ℕ) × (piece.closed ≡ false) × Says text said from piece next to × (read ≡ script_said next)
Ends text said from (Err fault) = FailsAt text said from fault

closed_or_not : (closed : Bool) → closed ≡ true → closed ≡ false → ⊥
closed_or_not closed e f = cc

same_end : (g : Grammars) (text : List ℕ) (said : Said) (from : ℕ) (answer other : Result Script Fault) → Ends text said from answer → Ends text said from other → answer ≡ other
same_end g text said from (Ok read) (Ok more) h too =
    let same = same_said g text said from h.0 too.0 h.1 too.1 h.2 too.2 h.4 too.4 in
    ap (λ (script : Script). Ok script) (h.5 ∙ ap script_said same.told ∙ sym too.5)
same_end g text said from (Ok read) (Err fault) h too = absurd (says_or_fails g text said from h.0 h.1 h.2 fault h.4 too)
same_end g text said from (Err fault) (Ok read) h too = absurd (says_or_fails g text said from too.0 too.1 too.2 fault too.4 h)
same_end g text said from (Err fault) (Err other) h too = ap (λ (f : Fault). Err f) (same_failed_at g text said from fault other h too)

-- where a piece goes on, the script doesn't end
goes_on_or_ends : (g : Grammars) (text : List ℕ) (said : Said) (from : ℕ) (piece : Piece) (next : Said) (to : ℕ) (answer : Result Script Fault) → piece.closed ≡ true → Says text said from piece next to → Ends text said from answer → ⊥
goes_on_or_ends g text said from piece next to (Ok read) closed says h =
    let same = same_said g text said from piece h.0 next h.1 to h.2 says h.4 in
    closed_or_not h.0.closed (subst (λ (p : Piece). p.closed ≡ true) same.same closed) h.3
goes_on_or_ends g text said from piece next to (Err fault) closed says h = says_or_fails g text said from piece next to fault says h

moved_end : (text : List ℕ) (said last : Said) (from to : ℕ) (answer : Result Script Fault) → last ≡ said → to ≡ from → Ends text last to answer → Ends text said from answer
moved_end text said last from to answer e f h = subst (λ (s : Said). Ends text s from answer) e (subst (λ (n : ℕ). Ends text last n answer) f h)

one_way : (g : Grammars) (text : List ℕ) (said last other : Said) (from to there : ℕ) (pieces more : List Piece) (answer else_ : Result Script Fault) → LeadTo text said from pieces last to → LeadTo text said from more other there
    → Ends text last to answer → Ends text other there else_ → answer ≡ else_
one_way g text said last other from to there [] [] answer else_ lead too ends end =
    same_end g text said from answer else_ (moved_end text said last from to answer lead.0 lead.1 ends) (moved_end text said other from there else_ too.0 too.1 end)
one_way g text said last other from to there [] (next ∷ more) answer else_ lead too ends end =
    absurd (goes_on_or_ends g text said from next too.0 too.1 answer too.2 too.3 (moved_end text said last from to answer lead.0 lead.1 ends))
one_way g text said last other from to there (piece ∷ pieces) [] answer else_ lead too ends end =
    absurd (goes_on_or_ends g text said from piece lead.0 lead.1 else_ lead.2 lead.3 (moved_end text said other from there else_ too.0 too.1 end))
one_way g text said last other from to there (piece ∷ pieces) (next ∷ more) answer else_ lead too ends end =
    let same = same_said g text said from piece next lead.0 too.0 lead.1 too.1 lead.3 too.3 in
    let rest : LeadTo text lead.0 lead.1 more other there =
    subst (λ (s : Said). LeadTo text s lead.1 more other there) (sym same.told) (subst (λ (n : ℕ). LeadTo text too.0 n more other there) (sym same.far) too.4) in
    one_way g text lead.0 last other lead.1 to there pieces more answer else_ lead.4 rest ends end

-- ---- the whole text

same_read : (g : Grammars) (text : List ℕ) (read more : Script) → IsScript text read → IsScript text more → done read ≡ done more
same_read g text read more h too =
    one_way g text nothing_said h.said too.said 0 h.from too.from h.pieces too.pieces (Ok read) (Ok more) h.lead too.lead
    (h.piece, h.next, h.to, h.unclosed, h.last, h.script_is) (too.piece, too.next, too.to, too.unclosed, too.last, too.script_is)

read_or_fails : (g : Grammars) (text : List ℕ) (read : Script) (fault : Fault) → IsScript text read → HasFaultyPiece text fault → done read ≡ Err fault
read_or_fails g text read fault h too =
    one_way g text nothing_said h.said too.said 0 h.from too.from h.pieces too.pieces (Ok read) (Err fault) h.lead too.lead
    (h.piece, h.next, h.to, h.unclosed, h.last, h.script_is) too.fails

same_faulty : (g : Grammars) (text : List ℕ) (fault other : Fault) → HasFaultyPiece text fault → HasFaultyPiece text other → failed fault ≡ failed other
same_faulty g text fault other h too = one_way g text nothing_said h.said too.said 0 h.from too.from h.pieces too.pieces (Err fault) (Err other) h.lead too.lead h.fails too.fails

same_not_utf8 : (text : List ℕ) (fault other : Fault) → IsNotUtf8 text fault → IsNotUtf8 text other → fault ≡ other
same_not_utf8 text fault other h too =
    let place : h.place ≡ too.place = sym (utf8_valid_len-IsValidUpTo text h.place h.valid) ∙ utf8_valid_len-IsValidUpTo text too.place too.valid in
    h.fault_is ∙ ap (fault_at script.NotUtf8) place ∙ sym too.fault_is

same_fault : (g : Grammars) (text : List ℕ) (fault other : Fault) → IsFault text fault → IsFault text other → failed fault ≡ failed other
same_fault g text fault other (inl long) (inl too) = ap failed (long.fault_is ∙ sym too.fault_is)
same_fault g text fault other (inl long) (inr (inl bad)) = absurd (omega (arith, long.size, bad.size))
same_fault g text fault other (inl long) (inr (inr faulty)) = absurd (omega (arith, long.size, faulty.size))
same_fault g text fault other (inr (inl bad)) (inl long) = absurd (omega (arith, long.size, bad.size))
same_fault g text fault other (inr (inl bad)) (inr (inl too)) = ap failed (same_not_utf8 text fault other bad too)
same_fault g text fault other (inr (inl bad)) (inr (inr faulty)) = absurd (bad.utf8 faulty.utf8)
same_fault g text fault other (inr (inr faulty)) (inl long) = absurd (omega (arith, long.size, faulty.size))
same_fault g text fault other (inr (inr faulty)) (inr (inl bad)) = absurd (bad.utf8 faulty.utf8)
same_fault g text fault other (inr (inr faulty)) (inr (inr too)) = same_faulty g text fault other faulty too

read_or_fault : (g : Grammars) (text : List ℕ) (read : Script) (fault : Fault) → IsScript text read → IsFault text fault → ⊥
read_or_fault g text read fault h (inl long) = omega (arith, h.size, long.size)
read_or_fault g text read fault h (inr (inl bad)) = bad.utf8 h.utf8
read_or_fault g text read fault h (inr (inr faulty)) = done_or_failed read fault (read_or_fails g text read fault h faulty)

-- ---- the answer

abbrev answered_read : Script → Result Script ScriptFault
answered_read read = Ok read

abbrev told : Fault → Result Script ScriptFault
told fault = Err (Bad fault.kind fault.place fault.line)

pub same_answer : (g : Grammars) (text : List ℕ) (answer other : Result Script ScriptFault) → IsScriptOf text answer → IsScriptOf text other → answer ≢ Err OutOfMemory → other ≢ Err OutOfMemory → answer ≡ other
same_answer g text (Err OutOfMemory) other h too known met = absurd (known refl)
same_answer g text (Ok read) (Err OutOfMemory) h too known met = absurd (met refl)
same_answer g text (Err (Bad kind place line)) (Err OutOfMemory) h too known met = absurd (met refl)
same_answer g text (Ok read) (Ok more) h too known met = ap answered_read (done_is read more (same_read g text read more h too))
same_answer g text (Ok read) (Err (Bad kind place line)) h too known met = absurd (read_or_fault g text read (record { kind = kind; place = place; line = line }) h too)
same_answer g text (Err (Bad kind place line)) (Ok read) h too known met = absurd (read_or_fault g text read (record { kind = kind; place = place; line = line }) too h)
same_answer g text (Err (Bad kind place line)) (Err (Bad other there row)) h too known met =
    ap told (failed_is (record { kind = kind; place = place; line = line }) (record { kind = other; place = there; line = row })
    (same_fault g text (record { kind = kind; place = place; line = line }) (record { kind = other; place = there; line = row }) h too))
