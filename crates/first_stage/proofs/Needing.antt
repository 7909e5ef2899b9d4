-- The needed edges of a list of records, place by place: what is kept of one place more is one edge more if that edge is neither marked nor on a cycle, else
-- the same.
use mathlib.Core.Path.{◌≡◌, sym, ap, ◌∙◌}
use mathlib.Core.Bool.{Bool, true, false, not, ◌&&◌}
use mathlib.Core.List.{List, [], ◌∷◌, ◌++◌}
use Prim.Native.Nat.{ℕ, ◌+◌, ◌<◌}
use native.Mathlib.Omega.{arith}
use lib.ListN.{length, get_or, take}
use lib.Seq.{take-length}
use Rattle.std.proofs.lemmas.List.{map_more, length-map, length-take-le}
use Rattle.layout.specs.declared.EdgeRecord.{EdgeRecord}
use Rattle.model.specs.Lists.{keep_places}
use Rattle.model.specs.Tasks.{Edge}
use Rattle.model.specs.Compute.{present, least_delay, on_cycle}
use Rattle.records.specs.Columns.{edge_of, edges_in, no_record}
use Rattle.records.proofs.EdgesIn.{edge-in-at}
use Rattle.results.proofs.Keeping.{places-more, places_same}
use Rattle.first_stage.specs.FirstStage.{is_needed, needed}

-- the needed ones of the first j edges
abbrev pub needed_below : ℕ → List Edge → (ℕ → Bool) → List EdgeRecord → ℕ → List Edge
needed_below n es marked rs j = keep_places (is_needed n es marked (edges_in rs)) 0 (edges_in (take j rs))

-- edge j is not marked, and there is no path back from its sink to its source
abbrev pub passes : ℕ → List Edge → (ℕ → Bool) → List EdgeRecord → ℕ → Bool
passes n es marked rs j = not (marked j) && not (present (least_delay n es ((get_or rs j no_record).sink) ((get_or rs j no_record).source)))

pub marked-fails :
    (n : ℕ) (es : List Edge) (marked : ℕ → Bool) (rs : List EdgeRecord) (j : ℕ) → not (marked j) ≡ false → passes n es marked rs j ≡ false
marked-fails n es marked rs j is =
    ap (λ (b : Bool). b && not (present (least_delay n es ((get_or rs j no_record).sink) ((get_or rs j no_record).source)))) is

module _ (n : ℕ) (es : List Edge) (marked : ℕ → Bool) (rs : List EdgeRecord) where
  abbrev test : ℕ → Bool
  test = is_needed n es marked (edges_in rs)

  test-is : (j : ℕ) → j < length rs → test (length (edges_in (take j rs))) ≡ passes n es marked rs j
  unfolding is_needed on_cycle edge_of
  test-is j below =
      ap test (length-map (take j rs) edge_of ∙ length-take-le j rs (omega arith)) ∙
      ap (λ (e : Edge). not (marked j) && not (on_cycle n es e)) (edge-in-at rs j)

  pub needed-more :
      (j : ℕ) → j < length rs → passes n es marked rs j ≡ true →
      needed_below n es marked rs (j + 1) ≡ needed_below n es marked rs j ++ (edge_of (get_or rs j no_record) ∷ [])
  needed-more j below passed =
      ap (keep_places test 0) (map_more edge_of rs j no_record below) ∙
      places-more test (edges_in (take j rs)) (edge_of (get_or rs j no_record)) (test-is j below ∙ passed)

  pub needed-same :
      (j : ℕ) → j < length rs → passes n es marked rs j ≡ false → needed_below n es marked rs (j + 1) ≡ needed_below n es marked rs j
  needed-same j below failed =
      ap (keep_places test 0) (map_more edge_of rs j no_record below) ∙
      places_same test (edges_in (take j rs)) (edge_of (get_or rs j no_record)) (test-is j below ∙ failed)

  pub needed-all : needed n es marked (edges_in rs) ≡ needed_below n es marked rs (length rs)
  unfolding needed
  needed-all = ap (λ (xs : List EdgeRecord). keep_places test 0 (edges_in xs)) (sym (take-length rs))
