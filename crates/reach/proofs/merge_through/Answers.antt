-- `reach::merge_through` meets its contract: after a steps the first a words are merged with the row, which was read before any of them changed.
use mathlib.Core.Path.{◌≡◌, subst}
use Prim.Native.Nat.{ℕ, ◌≤◌}
use native.Mathlib.Omega.{arith}
use lib.ListN.{length, get_or, take}
use Rattle.std.proofs.lemmas.List.{length-take-le}
use Rattle.reach.proofs.Rounds.{PartMerged, merged-all}
use Rattle.reach.proofs.merge_through.Goals as goal

pub returns : goal.returns
returns c =
    let count = c.args.count in
    let words = c.args.words.now in
    let some : count ≤ length words = omega arith in
    let long : length (take count words) ≡ count = length-take-le count words some in
    let all : c.loop-word.word-index ≡ count = omega arith in
    let part = subst (λ (i : ℕ). PartMerged i c.args.k (get_or words c.args.k 0) (take count words) c.loop-word.word-items) all c.loop-word.invariant in
    merged-all part (omega arith) c.requires.1 c.requires.2
