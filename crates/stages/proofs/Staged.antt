-- A stage that holds edges: their ends, and one edge more stored behind them.
use mathlib.Core.Path.{◌≡◌, sym, ap, subst, ◌∙◌}
use mathlib.Core.List.{List, [], ◌∷◌, ◌++◌}
use Prim.Native.Nat.{ℕ, ◌+◌, ◌≤◌, ◌<◌}
use native.Mathlib.Omega.{arith}
use lib.ListN.{length, get_or, take, set, length-set, length-append}
use Rattle.std.proofs.lemmas.List.{get_or-take, length-take-le}
use Rattle.layout.specs.declared.EdgeRecord.{EdgeRecord}
use Rattle.model.specs.Tasks.{Edge, Ends}
use Rattle.records.specs.Columns.{edge_of, edges_in, no_record}
use Rattle.records.proofs.EdgesIn.{ends_at}
use Rattle.stages.specs.declared.StageEdges.{StageEdges}
use Rattle.stages.specs.Stages.{HeldStage, listed}
use Rattle.stages.proofs.Listed.{listed-is, listed-length, listed-stored}

-- any stage holds the edges of its first records
pub stage-listed : (r : StageEdges) → r.count ≤ 256 → length r.edges ≡ 256 → HeldStage r (listed r.count r.edges)
stage-listed r few room = record {
  as_many = sym (listed-length r.count r.edges (omega arith));
  few = few;
  room = room;
  held = λ i. listed r.count r.edges;
}

module _ {r : StageEdges} {es : List Edge} (held : HeldStage r es) where
  -- its records up to its count are those of its edges
  pub stage-edges : edges_in (take r.count r.edges) ≡ es
  stage-edges = sym (listed-is r.count r.edges) ∙ held.held

  -- the ends of the edges
  pub stage_ends :
      {tasks : ℕ} → Ends tasks es → (j : ℕ) → j < r.count
      → ((get_or r.edges j no_record).source < tasks) × ((get_or r.edges j no_record).sink < tasks)
  stage_ends {tasks} ends j l =
      let inside : j < length (take r.count r.edges) = omega (arith, length-take-le r.count r.edges (omega (arith, held.few, held.room))) in
      subst (λ (e : EdgeRecord). (e.source < tasks) × (e.sink < tasks)) (get_or-take r.count r.edges j no_record l)
      (ends_at (take r.count r.edges) (subst (λ (xs : List Edge). Ends tasks xs) (sym stage-edges) ends) j inside)

  -- one edge more, stored behind the others
  pub stage_more : (e : EdgeRecord) {after : StageEdges} → r.count < 256 → after.count ≡ r.count + 1 → after.edges ≡ set r.edges r.count e
      → HeldStage after (es ++ (edge_of e ∷ []))
  stage_more e {after} few more stored = record {
    as_many = more ∙ (ap (λ (n : ℕ). n + 1) held.as_many ∙ sym (length-append es (edge_of e ∷ [])));
    few = omega arith;
    room = ap (λ (rs : List EdgeRecord). length rs) stored ∙ (length-set r.edges r.count e ∙ held.room);
    held =
        (λ i. listed (more i) (stored i)) ∙
        (listed-stored r.count r.edges e (omega (arith, held.room)) ∙ ap (λ (xs : List Edge). xs ++ (edge_of e ∷ [])) held.held);
  }
