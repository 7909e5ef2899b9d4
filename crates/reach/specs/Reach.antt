-- Only for contracts inside: words hold which processors a path leads to. Between processors go edges too, whose ends are processors.
use Rattle.std.specs.Prelude.{◌≡◌, Bool, ◌||◌, ◌&&◌, List, ℕ, ◌/◌, ◌%◌, ◌^◌, ◌<◌, eqb, length, get_or}
use Rattle.model.specs.Tasks.{Edge, Ends, no_edge}
use Rattle.model.specs.Paths.{Path}
use Rattle.model.specs.Compute.{present, least_delay, through}
use Rattle.records.specs.Columns.{at}

-- bit b of a word is set, bit 0 the least significant
unfoldable pub bit : ℕ → ℕ → Bool
bit word b = eqb (word / 2 ^ b % 2) 1

-- bit b of word a
abbrev pub bit_in : List ℕ → ℕ → ℕ → Bool
bit_in words a b = bit (get_or words a 0) b

-- bit b of word a says that a path of es leads from a to b, for the first n processors
pub record Reaches (n : ℕ) (es : List Edge) (words : List ℕ) : Type 0 where
  pub room : length words ≡ 16
  pub paths : (a b : ℕ) → a < n → b < n → bit_in words a b ≡ present (least_delay n es a b)

-- the same for the paths whose inner processors are below k
pub record ReachesThrough (k n : ℕ) (es : List Edge) (words : List ℕ) : Type 0 where
  pub room : length words ≡ 16
  pub paths : (a b : ℕ) → a < n → b < n → bit_in words a b ≡ present (through es k a b)

-- one round: where its bit k is set, each of the first n words has taken the bits of word k
pub record Merged (n k : ℕ) (before after : List ℕ) : Type 0 where
  pub room : length after ≡ 16
  pub bits : (a b : ℕ) → a < n → bit_in after a b ≡ bit_in before a b || (bit_in before a k && bit_in before k b)

-- ── Between tasks ──

-- an edge between the processors of its ends
unfoldable pub between : List ℕ → Edge → Edge
between processor e = record { source = at processor e.source; sink = at processor e.sink; delay = e.delay }

-- paths of es lead from each of n tasks to each one of its processor
abbrev pub Circled : ℕ → List Edge → List ℕ → Type 0
Circled n es processor = (a b : ℕ) → a < n → b < n → at processor a ≡ at processor b → (d : ℕ) × Path es a b d

-- bit q of word p says that a path of es leads from a task of processor p to a task of processor q, for n tasks
pub record ReachesOn (n : ℕ) (es : List Edge) (processor words : List ℕ) : Type 0 where
  pub room : length words ≡ 16
  pub paths : (a b : ℕ) → a < n → b < n → bit_in words (at processor a) (at processor b) ≡ present (least_delay n es a b)

-- ── Whatever the delays (proved in proofs/Delays.antt) ──

-- two lists of edges have the same ends, place by place; their delays are free
pub record SameEnds (es fs : List Edge) : Type 0 where
  pub as_many : length es ≡ length fs
  pub sources : (i : ℕ) → (get_or es i no_edge).source ≡ (get_or fs i no_edge).source
  pub sinks : (i : ℕ) → (get_or es i no_edge).sink ≡ (get_or fs i no_edge).sink

-- words that say where paths of es lead say the same of edges with the same ends and other delays
abbrev pub WhateverDelays : Type 0
WhateverDelays =
    (n : ℕ) (es fs : List Edge) (processor words : List ℕ) → Ends n es → Ends n fs → SameEnds es fs →
    ReachesOn n es processor words → ReachesOn n fs processor words

-- and where tasks lead to each one of their processor over es, they do over edges with the same ends and other delays
abbrev pub CircledWhateverDelays : Type 0
CircledWhateverDelays = (n : ℕ) (es fs : List Edge) (processor : List ℕ) → SameEnds es fs → Circled n es processor → Circled n fs processor
