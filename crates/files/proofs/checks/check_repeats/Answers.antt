-- `files::checks::check_repeats` meets its contract: none of the edges looked at so far repeats an earlier one, each is marked, and its key is listed.
use mathlib.Core.Path.{◌≡◌, refl, sym, ◌∙◌}
use native.Mathlib.Omega.{arith}
use lib.ListN.{length}
use borrow.Author.Count.{below_none, below_more}
use Rattle.records.specs.Columns.{edges_in}
use Rattle.files.specs.Refusals.{not_refused}
use Rattle.files.specs.Files.{repeat_refusal}
use Rattle.files.proofs.First.{stops_at, stops_nowhere}
use Rattle.files.proofs.Repeats.{repeat-stops, repeat-passes}
use Rattle.files.proofs.Repeated.{marked-none, keyed-none, keyed-more}
use Rattle.files.proofs.checks.check_repeats.Goals as goal

pub loop-j-init : goal.loop-j-init
loop-j-init c = (marked-none _ refl, below_none (λ i. repeat_refusal (edges_in c.args.edges.now) i ≡ not_refused), keyed-none _ _)

pub repeats_seen-requires : goal.repeats_seen-requires
repeats_seen-requires c = record { j_in_bounds = c.loop-j-test.true; keyed = c.loop-j.invariant.2; seen_before = c.loop-j.invariant.0 }

pub returns-then-repeats_seen : goal.returns-then-repeats_seen
returns-then-repeats_seen c =
    let rs = c.args.edges.now in
    sym
    (stops_at (length rs) (repeat_refusal (edges_in rs)) c.loop-j-test.true c.loop-j.invariant.1
    (repeat-stops (edges_in rs) c.loop-j.j (sym c.repeats_seen.ensures.value ∙ c.if-repeats_seen.true))
    (λ z. omega arith))

pub loop-j-preserved : goal.loop-j-preserved
loop-j-preserved c =
    let es = edges_in c.args.edges.now in
    let j = c.loop-j.j in (
      c.repeats_seen.ensures.seen_before_2,
      below_more (λ i. repeat_refusal es i ≡ not_refused) j c.loop-j.invariant.1
          (repeat-passes es j (sym c.repeats_seen.ensures.value ∙ c.if-repeats_seen.false)),
      keyed-more c.loop-j.invariant.2 (omega (arith, c.requires, c.loop-j-test.true, c.loop-j-test.array_long)) c.edge_key.ensures,
    )

pub returns : goal.returns
returns c =
    let rs = c.args.edges.now in
    sym (stops_nowhere (length rs) (repeat_refusal (edges_in rs)) c.loop-j-test.false c.loop-j.invariant.1)
