-- `files::checks::repeats_earlier` meets its contract: a search of the keys is one of the edges.
use mathlib.Core.Path.{sym, ◌∙◌}
use native.Mathlib.Omega.{arith}
use lib.Seq.{length-take-le}
use Rattle.files.specs.Files.{repeats_earlier}
use Rattle.files.proofs.Repeated.{keys-search}
use Rattle.files.proofs.checks.repeats_earlier.Goals as goal

pub slice_bounds-holds-end : goal.slice_bounds-holds-end
slice_bounds-holds-end c = sym (length-take-le c.args.j c.args.keys.now c.requires.keyed.few)

pub returns : goal.returns
unfolding repeats_earlier
returns c = c.holds.ensures ∙ keys-search c.requires.keyed c.edge_key.ensures c.args.j (omega arith)
