-- `files::checks::repeats_seen` meets its contract: an edge whose place is not marked repeats no earlier one, and of any other the earlier ones are
-- compared; the place is marked in each case.
use mathlib.Core.Path.{sym}
use Rattle.files.proofs.Repeated.{marked-before, marked-now, not_marked}
use Rattle.files.proofs.checks.repeats_seen.Goals as goal

pub returns-then-not-seen-place : goal.returns-then-not-seen-place
returns-then-not-seen-place c =
    let marked = c.requires.seen_before in
    let is = c.edge_place-place.ensures in
    record { value = sym (not_marked marked is c.if-not-seen-place.true); seen_before_2 = marked-now marked is }

pub returns : goal.returns
returns c = record {
  value = c.repeats_earlier.ensures;
  seen_before_2 = marked-before c.requires.seen_before c.edge_place-place.ensures c.if-not-seen-place.false;
}
