-- The lent list keeps its length and all that stands past the table, and a refused call changes nothing.
use Prim.Native.Nat.{◌*◌}
use lib.ListN.{length}
use Rattle.files.proofs.First.{if-refused}
use Rattle.acceptance.specs.Outcomes.{tasks_of}
use Rattle.acceptance.proofs.Written.{kept-past}
use Rattle.least_delays.specs.LeastDelays.{table_of, delays_refusal, delays_after}
use Rattle.least_delays.specs.Theorems.{DelaysKept, DelaysPast}
use Rattle.least_delays.proofs.Meanings.{table-long, delays_given}

pub delays_kept : DelaysKept
unfolding delays_after
delays_kept s table some = if-refused (delays_refusal s (length table)).number _ table some

pub delays_past : DelaysPast
unfolding delays_after
delays_past s table =
    kept-past 0 (delays_refusal s (length table)).number (tasks_of s * tasks_of s) (table_of s) table (table-long s)
    (λ none. ((delays_given s (length table)).0 none).1)
