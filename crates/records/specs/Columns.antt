-- Lists of numbers that hold tasks, one number of each task in each list; edge records as edges; and what is written into lists.
use Rattle.std.specs.Prelude.{◌≡◌, List, [], ◌++◌, ℕ, zero, suc, ◌-◌, ◌<◌, map, length, get_or, take, drop, replicate}
use Rattle.model.specs.Lists.{tabulate}
use Rattle.model.specs.Tasks.{Task, Edge, no_task}
use Rattle.layout.specs.declared.EdgeRecord.{EdgeRecord}

-- A list of numbers holds one number of each of a list's elements, in their sequence.
pub record Column {A : Type 0} (missing : A) (part : A → ℕ) (rows : List A) (column : List ℕ) : Type 0 where
  pub as_many : length column ≡ length rows
  pub same : (i : ℕ) → i < length rows → get_or column i 0 ≡ part (get_or rows i missing)

abbrev pub ProcessorsOf : List Task → List ℕ → Type 0
ProcessorsOf ts column = Column no_task (λ t. t.processor) ts column

abbrev pub TimesOf : List Task → List ℕ → Type 0
TimesOf ts column = Column no_task (λ t. t.time) ts column

-- the number at a place of a list, counted from 0; past the end 0
unfoldable pub at : List ℕ → ℕ → ℕ
at column v = get_or column v 0

-- an edge record as an edge
unfoldable pub edge_of : EdgeRecord → Edge
edge_of r = record { source = r.source; sink = r.sink; delay = r.delay }

-- an edge as an edge record
unfoldable pub record_of : Edge → EdgeRecord
record_of e = record { source = e.source; sink = e.sink; delay = e.delay }

-- edge records as edges, in their sequence
abbrev pub edges_in : List EdgeRecord → List Edge
edges_in rs = map edge_of rs

-- what stands at a place where no edge record is
abbrev pub no_record : EdgeRecord
no_record = record { source = 0; sink = 0; delay = 0 }

-- the list with f 0, f 1, .. in the places from a start up to an end, which is left out; places count from 0
unfoldable pub with_part : {A : Type 0} → ℕ → ℕ → (ℕ → A) → List A → List A
with_part start end f xs = take start xs ++ (tabulate (end - start) f ++ drop end xs)

-- n zeros
unfoldable pub zeros : ℕ → List ℕ
zeros n = replicate n 0

-- the lists f 0, f 1, .., the first n of them, one after the other
unfoldable pub rows : ℕ → (ℕ → List ℕ) → List ℕ
rows zero f = []
rows (suc n) f = rows n f ++ f n
