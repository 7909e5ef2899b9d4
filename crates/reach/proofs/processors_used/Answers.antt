-- `reach::processors_used` meets its contract: the greatest of the processors is one of them, so below 16, and none is above it.
use mathlib.Core.Path.{◌≡◌}
use mathlib.Core.List.{List}
use Prim.Native.Nat.{ℕ, ◌+◌, ◌≤◌, ◌<◌}
use native.Mathlib.Omega.{arith}
use borrow.Author.Rules.{rules}
use lib.ListN.{length, get_or}
use Rattle.std.proofs.Common.{Option, None, Some, MatchOption, unwrap_or}
use Rattle.records.specs.Columns.{at}
use Rattle.reach.proofs.processors_used.Goals as goal

-- the greatest of the processors, if there is one
abbrev Greatest : List ℕ → Option ℕ → Type 0
Greatest processor greatest =
    MatchOption greatest (length processor ≡ 0) (λ m. (k : ℕ) × (k < length processor) × (m ≡ get_or processor k 0) × ((v : ℕ) → v < length processor → get_or processor v 0 ≤ m))

above :
    (processor : List ℕ) (greatest : Option ℕ) → Greatest processor greatest → ((v : ℕ) → v < length processor → at processor v < 16)
    → (unwrap_or greatest 0 + 1 ≤ 16) × ((v : ℕ) → v < length processor → at processor v < unwrap_or greatest 0 + 1)
unfolding at
above processor None empty few = (omega arith, λ v l. absurd (omega arith))
above processor (Some m) is few = (omega (arith, few is.0 is.1), λ v l. omega (arith, is.3 v l))

pub returns : goal.returns
returns c =
    let processor = c.args.processor.now in
    let is : Greatest processor c.max.result = search rules in
    let held = above processor c.max.result is c.requires in
    rw c.unwrap_or-highest.ensures held
