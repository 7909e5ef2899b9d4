-- The first stage of edges in a list, those of processors first: the needed ones among those behind these, by the marks of the redundant edges.
use mathlib.Core.Path.{◌≡◌, sym, ap, ◌∙◌, subst}
use mathlib.Core.Bool.{not, ◌&&◌}
use mathlib.Core.List.Memᴰ
use mathlib.Core.List.{List}
use Prim.Native.Nat.{ℕ, ◌+◌, ◌-◌, ◌≤◌, ◌<◌}
use native.Mathlib.Omega.{arith}
use lib.ListN.{length, get_or, take, drop, length-drop, take-append-drop}
use lib.Seq.{get_or-drop, take-length}
use Rattle.std.proofs.lemmas.List.{length-map, drop-map}
use Rattle.layout.specs.declared.EdgeRecord.{EdgeRecord}
use Rattle.model.specs.Tasks.{Edge, ◌∈◌, Ends, no_edge}
use Rattle.model.specs.Compute.{on_cycle}
use Rattle.records.specs.Columns.{edge_of, edges_in}
use Rattle.marks.specs.declared.Marks.{Marks}
use Rattle.marks.specs.Marks.{marks_of, mark_at}
use Rattle.marks.proofs.Laws.{mark_of}
use Rattle.results.proofs.Keeping.{places-agree}
use Rattle.redundancy.specs.Redundancy.{redundant_in}
use Rattle.first_stage.specs.FirstStage.{is_needed, needed, first_stage_in}

drop-in : {e : Edge} (n : ℕ) (es : List Edge) → e ∈ drop n es → e ∈ es
drop-in {e} n es m = subst (λ (xs : List Edge). e ∈ xs) (take-append-drop n es) (Memᴰ.append_right (take n es) m)

module _ (n : ℕ) (rs : List EdgeRecord) where
  abbrev es : List Edge
  es = edges_in rs

  -- the part of the list behind the first n, as it is lent
  abbrev part : List EdgeRecord
  part = take (length rs - n) (drop n rs)

  part-is : edges_in part ≡ drop n es
  part-is =
      ap (λ (m : ℕ). edges_in (take m (drop n rs))) (sym (length-drop n rs)) ∙
      (ap (λ (xs : List EdgeRecord). edges_in xs) (take-length (drop n rs)) ∙ sym (drop-map edge_of n rs))

  pub part-ends : Ends n es → Ends n (edges_in part)
  part-ends ends = subst (λ (xs : List Edge). Ends n xs) (sym part-is) (λ e m. ends e (drop-in n es m))

  module _ (few : length rs ≤ n + 256) where
    needed-first : needed n es (mark_at (marks_of (redundant_in n es))) (drop n es) ≡ first_stage_in n es
    unfolding needed is_needed first_stage_in
    needed-first =
        places-agree (is_needed n es (mark_at (marks_of (redundant_in n es))) (drop n es))
        (λ i. not (redundant_in n es i) && not (on_cycle n es (get_or es (n + i) no_edge))) 0 (drop n es)
        (λ i l.
        let behind : length (drop n es) ≡ length es - n = length-drop n es in
        let inside : 0 + i < 256 = omega (arith, behind, length-map rs edge_of, few, l) in
        λ x. not (mark_of (redundant_in n es) (0 + i) inside x) && not (on_cycle n es (get_or-drop n es (0 + i) no_edge x)))

    pub first-is :
        {marks : Marks} → marks ≡ marks_of (redundant_in n (edges_in rs)) →
        needed n (edges_in rs) (mark_at marks) (edges_in (take (length rs - n) (drop n rs))) ≡ first_stage_in n (edges_in rs)
    first-is marks-are = (λ x. needed n es (mark_at (marks-are x)) (part-is x)) ∙ needed-first
