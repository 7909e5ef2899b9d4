-- `reach::merge_through` meets its contract: after a steps the first a words are merged with the row, which was read before any of them changed.
use Rattle.reach.proofs.Rounds.{PartMerged}
use Rattle.reach.proofs.merge_through.Given as goal

abbrev pub invariant-loop-word : goal.invariant-loop-word
invariant-loop-word l = PartMerged l.word-index l.k l.row l.initial.word-items l.word-items
