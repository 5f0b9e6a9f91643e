-- What is reached, by whether it was found within the range of BIGINT.
use Rattle.std.proofs.Common.{◌≡◌, Bool, true, false, not, Some, is_some, if◌then◌else◌, refl}
use Rattle.sa_cond.specs.Interval.{Interval, number, faulty, is_within, number_within, interval_of}
use Rattle.sa_resolve.specs.NodeFaults.{leaves, is_faulty}
use Rattle.sa_resolve.specs.inner.Kind.{found_kind}

found_by : (within : Bool) (interval : Interval)
    → found_kind (interval_of (if within then number interval else faulty))
    ≡ (if within then number interval else faulty)
found_by true interval = refl
found_by false interval = refl

pub found_kind_within : (interval : Interval)
    → found_kind (interval_of (number_within interval)) ≡ number_within interval
found_kind_within interval = found_by (is_within interval) interval

past_by : (within : Bool) (interval : Interval)
    → not (is_some (interval_of (if within then number interval else faulty)))
    ≡ is_faulty (if within then number interval else faulty)
past_by true interval = refl
past_by false interval = refl

pub leaves_within : (interval : Interval)
    → not (is_some (interval_of (number_within interval))) ≡ leaves (Some interval)
leaves_within interval = past_by (is_within interval) interval
