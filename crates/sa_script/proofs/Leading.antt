-- From piece to piece: what the pieces so far lead to, and how a script ends or fails behind them.
use Rattle.std.proofs.Common.{◌≡◌, ℕ, ◌+◌, ◌≤◌, true, false, List, [], ◌∷◌, ◌++◌, length, drop, Err, refl, subst, inl, inr}
use Rattle.std.specs.Str.{IsUtf8}
use Rattle.sa_script.specs.declared.fault.ScriptFault.{ScriptFault}
use Rattle.sa_script.specs.declared.fault.ScriptFault.TheVariants.{Bad, OutOfMemory}
use Rattle.sa_script.specs.declared.said.Said.{Said}
use Rattle.sa_script.specs.declared.script.Script.{Script}
use Rattle.sa_script.specs.Fault.{Fault}
use Rattle.sa_script.specs.Piece.{Piece, IsPiece, place_behind}
use Rattle.sa_script.specs.Said.{nothing_said}
use Rattle.sa_script.specs.Says.{Says, LeadTo, FailsAt, IsLeftOpen}
use Rattle.sa_script.specs.Script.{IsScript, IsFault, IsScriptOf, most_bytes, script_said}
use Rattle.sa_script.specs.inner.Step.{SaysThis, FailsWith, LeadsTo}
use Rattle.sa_script.specs.inner.Tells.{Tells}

lead_more : (text : List ℕ) (said middle last : Said) (from at to : ℕ) (pieces : List Piece) (piece : Piece) → LeadTo text said from pieces middle at → piece.closed ≡ true → Says text middle at piece last to
    → LeadTo text said from (pieces ++ piece ∷ []) last to
lead_more text said middle last from at to [] piece h closed says =
    (last, to, closed, subst (λ (s : Said). Says text s from piece last to) h.0 (subst (λ (n : ℕ). Says text middle n piece last to) h.1 says), (refl, refl))
lead_more text said middle last from at to (first ∷ pieces) piece h closed says =
    (h.0, h.1, h.2, h.3, lead_more text h.0 middle last h.1 at to pieces piece h.4 closed says)

-- one more piece that its `;` ends
pub leads_more : (text : List ℕ) (middle last : Said) (at to : ℕ) (piece : Piece) → LeadsTo text middle at → piece.closed ≡ true → Says text middle at piece last to → LeadsTo text last to
leads_more text middle last at to piece h closed says = (h.0 ++ piece ∷ [], lead_more text nothing_said middle last 0 at to h.0 piece h.1 closed says)

-- a piece where it stands, and what it says
pub says_there : (text : List ℕ) (said next : Said) (from skipped : ℕ) (piece : Piece) → piece.place ≡ from → IsPiece text piece (drop (place_behind piece) text)
    → SaysThis said piece (drop (place_behind piece) text) next skipped → Says text said from piece next (place_behind piece + skipped)
says_there text said next from skipped piece place is h =
    record { place = place; behind = drop (place_behind piece) text; is = is; first = h.0; first_is = h.1; skipped = skipped; says = h.2; to_is = refl }

-- behind the last piece the script is read
pub script_ends : (text : List ℕ) (said next : Said) (from to : ℕ) (piece : Piece) (script : Script) → length text ≤ most_bytes → IsUtf8 text → LeadsTo text said from → piece.closed ≡ false → Says text said from piece next to
    → script ≡ script_said next → IsScript text script
script_ends text said next from to piece script size utf8 leads unclosed says e = record {
  size = size;
  utf8 = utf8;
  pieces = leads.0;
  said = said;
  from = from;
  lead = leads.1;
  piece = piece;
  unclosed = unclosed;
  next = next;
  to = to;
  last = says;
  script_is = e;
}

faulty_piece : (text : List ℕ) (said : Said) (from : ℕ) (fault : Fault) → length text ≤ most_bytes → IsUtf8 text → LeadsTo text said from → FailsAt text said from fault → IsFault text fault
faulty_piece text said from fault size utf8 leads fails = inr (inr (record { size = size; utf8 = utf8; pieces = leads.0; said = said; from = from; lead = leads.1; fails = fails }))

answered : (text : List ℕ) (P : Fault → Type 0) (told : ScriptFault) → ((fault : Fault) → P fault → IsFault text fault) → Tells P told → IsScriptOf text (Err told)
answered text P (Bad kind place line) is h = is (record { kind = kind; place = place; line = line }) h
answered text P OutOfMemory is h = tt

-- the next piece fails
pub fails_answered : (text : List ℕ) (said : Said) (from : ℕ) (piece : Piece) (told : ScriptFault) → length text ≤ most_bytes → IsUtf8 text → LeadsTo text said from → piece.place ≡ from
    → IsPiece text piece (drop (place_behind piece) text) → Tells (FailsWith said piece (drop (place_behind piece) text)) told → IsScriptOf text (Err told)
fails_answered text said from piece told size utf8 leads place is h =
    answered text (FailsWith said piece (drop (place_behind piece) text)) told (λ (fault : Fault) (f : FailsWith said piece (drop (place_behind piece) text) fault).
    faulty_piece text said from fault size utf8 leads (inr (record { piece = piece; behind = drop (place_behind piece) text; place = place; is = is; first = f.0; first_is = f.1; fails = f.2 }))) h

-- the next piece is left open
pub open_answered : (text : List ℕ) (said : Said) (from : ℕ) (told : ScriptFault) → length text ≤ most_bytes → IsUtf8 text → LeadsTo text said from → Tells (IsLeftOpen text from) told → IsScriptOf text (Err told)
open_answered text said from told size utf8 leads h =
    answered text (IsLeftOpen text from) told (λ (fault : Fault) (f : IsLeftOpen text from fault). faulty_piece text said from fault size utf8 leads (inl f)) h
