-- The interval that two ends bound.
use Rattle.sa_resolve.specs.declared.ends.Ends.{Ends}
use Rattle.sa_cond.specs.Interval.{Interval}

abbrev pub interval_at : Ends → Interval
interval_at ends = record { least = ends.least; greatest = ends.greatest }
