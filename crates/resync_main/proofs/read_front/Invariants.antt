-- `resync_main::read_front` meets its contract. The loop's invariant: what was read is within the list.
use Rattle.std.proofs.Common.{length, ◌-◌, ◌≡◌, ◌≤◌}
use Rattle.resync_main.proofs.read_front.Given as goal

abbrev pub invariant-loop-length : goal.invariant-loop-length
invariant-loop-length l = (l.length ≤ length l.front) × (length l.front ≡ length l.initial.front)

abbrev pub decreases-loop-length : goal.decreases-loop-length
decreases-loop-length l = length l.initial.front - l.length
