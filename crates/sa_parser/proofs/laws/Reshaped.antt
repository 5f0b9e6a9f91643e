-- The same law with larger sets.
use Rattle.std.proofs.Common.{◌≡◌, true, sym, ◌∙◌}
use Rattle.sa_parser.specs.Form.{Form}
use Rattle.sa_parser.specs.inner.Reading.{Reader}
use Rattle.sa_parser.proofs.Heads.{within}
use Rattle.sa_parser.proofs.Law.{Shape, Law}
use Rattle.sa_parser.proofs.Opens.{Opens-wider}
use Rattle.sa_parser.proofs.Starts.{starts-narrower}

pub reshaped-Law : {A : Type 0} {Is Wide : Form A} {shape : Shape} {read : Reader A} (larger : Shape) → Law Is Wide shape read
    → shape.blank ≡ larger.blank → within shape.opens larger.opens ≡ true → within shape.goes_on larger.goes_on ≡ true → Law Is Wide larger read
reshaped-Law {shape} larger law blank opens goes_on = record {
  sound = law.sound;
  complete = λ before rest value is quiet.
      law.complete before rest value is (starts-narrower shape.goes_on larger.goes_on rest goes_on quiet);
  opens = λ tokens value is.
      Opens-wider shape.blank larger.blank shape.opens larger.opens tokens (λ e. sym blank ∙ e) opens (law.opens tokens value is);
  widens = law.widens;
  begun = law.begun;
  some = law.some;
}
