-- `marks::places_of` meets its contract: up to the last place found the list is whole, the next place lies past marks that are not set, and once no
-- mark is left the list is whole for all 256.
use Prim.Native.Nat.{◌-◌, ◌≤◌}
use Rattle.marks.specs.Marks.{mark_at}
use Rattle.marks.proofs.Listing.{Listed}
use Rattle.marks.proofs.places_of.Given as goal

abbrev pub invariant-loop-place : goal.invariant-loop-place
invariant-loop-place l = (l.last ≤ 256) × Listed (mark_at l.marks) l.last l.list

abbrev pub decreases-loop-place : goal.decreases-loop-place
decreases-loop-place l = 256 - l.last
