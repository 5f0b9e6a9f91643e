-- What a read of a reader takes of the records that are left.
use Rattle.std.proofs.Common.{◌≡◌, ℕ, List, [], ◌∷◌, Some, None, true, false, Bool, refl, ◌∙◌, inl, inr, Bor}
use Rattle.csv.specs.Machine.{Read, next_record}
use Rattle.csv.specs.Reading.{Reached, ReadRecord, default_config, names_headers, reader_config, reader_headers, reader_state, reader_trim, source_of, strip_bom, took_first}
use Rattle.csv.specs.declared.reader.Trim.TheVariants as trim
use Rattle.csv.specs.declared.parser.State.{State}
use Rattle.csv.specs.declared.parser.State.TheVariants as st
use Rattle.csv.specs.declared.reader.Reader.{Reader}
use Rattle.csv.proofs.ReadFacts.{rows-end, rows-more}
use Rattle.sa_load.specs.Csv.{Fields, records_of}
use Rattle.sa_load.specs.inner.Reading.{HasLeft, TakesNext, records_left}
use Rattle.sa_load.proofs.Records.{next_record-taken, records_left-none, records_left-some}

-- one record that was reached is the next one
reached_one : (state after : State) (bytes rest : List ℕ) (fields : Fields) → Reached default_config state bytes (fields ∷ []) after rest
    → (p : Read) × (next_record default_config state [] [] bytes ≡ Some p) × (fields ≡ p.0) × (p.1 ≡ after) × (p.2 ≡ rest)
unfolding Reached
reached_one state after bytes rest fields h = (h.0, h.1, h.2, h.3.0, h.3.1)

none_reached : (state : State) (bytes : List ℕ) → Reached default_config state bytes [] state bytes
unfolding Reached
none_reached state bytes = (refl, refl)

same_left : (p : Read) (fields : Fields) (after : State) (rest : List ℕ) → fields ≡ p.0 → p.1 ≡ after → p.2 ≡ rest
    → p.0 ∷ records_left default_config p.1 p.2 ≡ fields ∷ records_left default_config after rest
same_left p fields after rest a b c = rw (← a, b, c) refl

pub takes_next : (old new : Reader (Bor (List ℕ))) (found : Bool) (fields : Fields) (left : List Fields) → HasLeft old left
    → ReadRecord (λ s. Some s.now) old new found fields → took_first new ≡ true → TakesNext left found fields new
takes_next old new true fields left has read first =
    let more = rows-more (λ (s : Bor (List ℕ)). Some s.now) old new fields default_config old.state has.bytes has.bytes [] has.plain has.unread (none_reached old.state has.bytes) read in
    let one = reached_one old.state new.state has.bytes more.0 fields more.2 in
    let taken = next_record-taken default_config old.state [] [] has.bytes one.0 one.1 in (
      records_left default_config new.state more.0,
      has.left_are ∙ records_left-some default_config old.state has.bytes one.0 has.between one.1
          ∙ same_left one.0 fields new.state more.0 one.2 one.3 one.4,
      record {
        untrimmed = read.3 ∙ has.untrimmed;
        ready = inl first;
        plain = read.2 ∙ has.plain;
        between = rw one.3 at taken.between;
        bytes = more.0;
        unread = more.1;
        left_are = refl;
      },
    )
takes_next old new false fields left has read first =
    has.left_are ∙ records_left-none default_config old.state has.bytes
    (rows-end (λ (s : Bor (List ℕ)). Some s.now) old new fields default_config has.bytes has.plain has.unread read)

-- a new reader of a text has its records left
pub starts : (reader : Reader (Bor (List ℕ))) (text : List ℕ) → reader_trim reader ≡ trim.None → names_headers reader ≡ false
    → reader_headers reader ≡ None → reader_config reader ≡ default_config → reader_state reader ≡ st.StartRecord
    → source_of (λ (s : Bor (List ℕ)). Some s.now) reader ≡ Some (strip_bom text) → HasLeft reader (records_of text)
unfolding records_of
starts reader text untrimmed named none plain start source = record {
  untrimmed = untrimmed;
  ready = inr (inr (named, none));
  plain = plain;
  between = rw start refl;
  bytes = strip_bom text;
  unread = source;
  left_are = rw start refl;
}
