-- Only for contracts inside: the edges that let a turn wait for earlier ones, as entries of three lists, and the ends that these ask for.
use Rattle.std.specs.Prelude.{◌≡◌, List, ℕ, ◌+◌, ◌-◌, ◌*◌, ◌≤◌, ◌<◌, leb, length, get_or}
use Rattle.model.specs.Lists.{counted}
use Rattle.model.specs.Tasks.{Edge, ◌∈◌}
use Rattle.records.specs.Columns.{at}

-- An edge among n tasks as an entry: the sink, how many places before the turn's own row the start of the source stands in a list of starts, turn by turn,
-- and the source's time.
abbrev pub StandsFor : ℕ → (ℕ → ℕ) → Edge → ℕ → ℕ → ℕ → Type 0
StandsFor n time e back lasting sink = (back + e.source ≡ e.delay * n) × (lasting ≡ time e.source) × (sink ≡ e.sink)

-- The first `count` entries of three lists stand for edges that let one of so many turns wait for an earlier one, and for all of them.
pub record LaterEdges (es : List Edge) (n : ℕ) (time : ℕ → ℕ) (turns : ℕ) (back lastings sinks : List ℕ) (count : ℕ) : Type 0 where
  pub sound :
      (k : ℕ) → k < count →
      (e : Edge) × (e ∈ es) × (0 < e.delay) × (e.delay < turns) × StandsFor n time e (get_or back k 0) (get_or lastings k 0) (get_or sinks k 0)
  pub whole :
      (e : Edge) → e ∈ es → 0 < e.delay → e.delay < turns →
      (k : ℕ) × (k < count) × StandsFor n time e (get_or back k 0) (get_or lastings k 0) (get_or sinks k 0)

-- the end that an entry asks for, where the starts of the turns so far stand in a list: 0 if it reaches back before the first turn
unfoldable pub asked_end : List ℕ → ℕ → ℕ → ℕ
asked_end starts back lasting = counted (leb back (length starts)) (get_or starts (length starts - back) 0 + lasting)

-- Starts f heed the first k entries: each sink starts no earlier than the end that its entry asks for.
abbrev pub Heeds : List ℕ → List ℕ → List ℕ → List ℕ → ℕ → (ℕ → ℕ) → Type 0
Heeds back lastings sinks starts k f = (i : ℕ) → i < k → asked_end starts (get_or back i 0) (get_or lastings i 0) ≤ f (get_or sinks i 0)

-- The starts of n tasks heed the first k entries, and are no later than any that heed all.
pub record Awaited (back lastings sinks starts : List ℕ) (n k : ℕ) (row : List ℕ) : Type 0 where
  pub size : length row ≡ n
  pub heeds : Heeds back lastings sinks starts k (at row)
  pub lowest : (f : ℕ → ℕ) → Heeds back lastings sinks starts (length back) f → (v : ℕ) → v < n → at row v ≤ f v
