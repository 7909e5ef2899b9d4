-- `marks::places_of` meets its contract: up to the last place found the list is whole, the next place lies past marks that are not set, and once no
-- mark is left the list is whole for all 256.
use mathlib.Core.Path.{refl}
use Prim.Native.Nat.{◌-◌, ◌<◌}
use native.Mathlib.Omega.{arith}
use Rattle.marks.specs.Marks.{mark_at}
use Rattle.marks.proofs.Laws.{set-below-le}
use Rattle.marks.proofs.Listing.{listed-none, listed-further, listed_more, listed-all}
use Rattle.marks.proofs.places_of.Goals as goal
use Rattle.marks.proofs.places_of.Goals.{In-Some}

pub loop-place-init : goal.loop-place-init
loop-place-init c = (omega arith, listed-none (mark_at c.args.marks))

-- fewer than 256 places stand in the list where another is found
room : (c : In-Some) → c.loop-place.list.count < 256
room c = let found = c.in-Some.ensures in omega (arith, set-below-le c.loop-place.last (mark_at c.args.marks))

pub overflow_cast-list : goal.overflow_cast-list
overflow_cast-list c = omega (arith, room (goal.at.overflow_cast-list c).In-Some)

pub offset_bounds-list-list : goal.offset_bounds-list-list
offset_bounds-list-list c = omega (arith, room (goal.at.offset_bounds-list-list c).In-Some)

pub bounds-list-list : goal.bounds-list-list
bounds-list-list c = omega (arith, room (goal.at.bounds-list-list c).In-Some)

pub overflow_add-list : goal.overflow_add-list
overflow_add-list c = omega (arith, room (goal.at.overflow_add-list c).In-Some)

pub loop-place-preserved : goal.loop-place-preserved
loop-place-preserved c =
    let found = c.in-Some.ensures in
    let place = c.in-Some.place in
    let further = listed-further (place - 1) (omega arith) found.3 c.loop-place.invariant.1 in
    (found.1, listed_more (place - 1) further (omega arith) (omega arith) found.2 refl refl)

pub returns : goal.returns
returns c = listed-all (listed-further 256 (omega arith) c.in_default.ensures c.loop-place.invariant.1)
