-- What readers keep over any number of levels.
use Rattle.std.proofs.Common.{ℕ, ◌≤◌, arith}
use Rattle.sa_parser.specs.inner.Reading.{Reader}
use Rattle.sa_parser.proofs.Law.{Deeper}

pub same-Deeper : {A : Type 0} (levels : ℕ) (read : Reader A) → Deeper levels read read
same-Deeper levels read = record { found = λ tokens value rest e. e; faulty = λ tokens left e few. e }

pub fewer-Deeper : {A : Type 0} {fewer levels : ℕ} {read deeper : Reader A} → fewer ≤ levels → Deeper levels read deeper → Deeper fewer read deeper
fewer-Deeper few keeps = record {
  found = keeps.found;
  faulty = λ tokens left e short. keeps.faulty tokens left e (omega (arith, few, short));
}

-- a reader, a deeper one, and one that is deeper still
pub further-Deeper : {A : Type 0} {levels more : ℕ} {read deeper deepest : Reader A} → levels ≤ more
    → Deeper levels read deeper → Deeper more deeper deepest → Deeper levels read deepest
further-Deeper few keeps also = record {
  found = λ tokens value rest e. also.found tokens value rest (keeps.found tokens value rest e);
  faulty = λ tokens left e short. also.faulty tokens left (keeps.faulty tokens left e short) (omega (arith, few, short));
}
