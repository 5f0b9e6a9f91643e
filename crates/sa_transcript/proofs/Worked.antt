-- The lines of two faults: a text without its end, and the second row of an INSERT.
use Rattle.std.proofs.Common.{◌≡◌, [], ◌∷◌, ◌++◌, codes, refl}
use Rattle.std.specs.Fmt.{digits}
use Rattle.serde_json.proofs.OnLiterals.{serde_json_on_literals}
use Rattle.sa_script.specs.declared.fault.ScriptKind.TheVariants.{OpenText, DuplicateKey}
use Rattle.sa_script.specs.Fault.{fault_at, row_fault_at}
use Rattle.sa_transcript.specs.Transcript.{line_of}
use Rattle.sa_transcript.specs.FaultLine.{fault_text}

pub open-text : fault_text (fault_at OpenText 53) ≡ codes "{\"fault\":\"OpenText\",\"place\":53}" ++ 10 ∷ []
unfolding line_of serde_json_on_literals digits
open-text = refl

pub second-row : fault_text (row_fault_at DuplicateKey 62 2) ≡ codes "{\"fault\":\"DuplicateKey\",\"line\":2,\"place\":62}" ++ 10 ∷ []
unfolding line_of serde_json_on_literals digits
second-row = refl
