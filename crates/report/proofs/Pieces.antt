-- Each line in the pieces that are put one behind the other, and the sum of their lengths.
use mathlib.Core.Path.{◌≡◌, sym, ap, ◌∙◌}
use mathlib.Core.List.{List, [], ◌∷◌, ◌++◌, append_assoc}
use Prim.Native.Nat.{ℕ, suc, ◌+◌}
use lib.ListN.{length, length-append}
use Rattle.text.specs.Text.{space, newline, decimal, signed, spaced, numbers, line}
use Rattle.marks.specs.Marks.{mark_at, places_below}
use Rattle.acceptance.specs.declared.Outcome.{Outcome}
use Rattle.figures.specs.declared.GraphFigures.{GraphFigures}
use Rattle.redundant.specs.declared.RedundantSet.{RedundantSet}
use Rattle.verdict.specs.declared.ProposalVerdict.{ProposalVerdict}
use Rattle.report.specs.Report.{graph_word, redundant_word, accepted_word, refused_word, graph_line, redundant_line, accepted_line, refused_line}

-- a line's first field may stand with its word
next_field : (word f : List ℕ) (fs : List (List ℕ)) → line (word ++ (space ∷ f)) fs ≡ line word (f ∷ fs)
unfolding line spaced
next_field word f fs =
    append_assoc word (space ∷ f) (spaced fs ++ (newline ∷ [])) ∙
    ap (λ (z : List ℕ). word ++ z) (sym (append_assoc (space ∷ f) (spaced fs) (newline ∷ [])))

-- ── The lines ──

pub graph-pieces :
    (f : GraphFigures) →
    (((graph_word ++ (space ∷ decimal f.tasks)) ++ (space ∷ decimal f.edges)) ++ (space ∷ decimal f.latency)) ++ (newline ∷ []) ≡ graph_line f
unfolding graph_line line spaced
graph-pieces f =
    next_field ((graph_word ++ (space ∷ decimal f.tasks)) ++ (space ∷ decimal f.edges)) (decimal f.latency) [] ∙
    (next_field (graph_word ++ (space ∷ decimal f.tasks)) (decimal f.edges) (decimal f.latency ∷ []) ∙
    next_field graph_word (decimal f.tasks) (decimal f.edges ∷ decimal f.latency ∷ []))

pub redundant-pieces :
    (set : RedundantSet) →
    ((redundant_word ++ (space ∷ decimal set.count)) ++ spaced (numbers (places_below 256 (mark_at set.marks)))) ++ (newline ∷ []) ≡ redundant_line set
unfolding redundant_line line
redundant-pieces set =
    append_assoc (redundant_word ++ (space ∷ decimal set.count)) (spaced (numbers (places_below 256 (mark_at set.marks)))) (newline ∷ []) ∙
    next_field redundant_word (decimal set.count) (numbers (places_below 256 (mark_at set.marks)))

pub accepted-pieces :
    (v : ProposalVerdict) →
    ((accepted_word ++ (space ∷ decimal v.latency)) ++ (space ∷ signed v.margin)) ++ (newline ∷ []) ≡ accepted_line v
unfolding accepted_line line spaced
accepted-pieces v =
    next_field (accepted_word ++ (space ∷ decimal v.latency)) (signed v.margin) [] ∙
    next_field accepted_word (decimal v.latency) (signed v.margin ∷ [])

pub refused-pieces :
    (o : Outcome) →
    ((((refused_word ++ (space ∷ decimal o.number)) ++ (space ∷ decimal o.place)) ++ (space ∷ decimal o.latency)) ++ (space ∷ signed o.margin)) ++
    (newline ∷ []) ≡ refused_line o
unfolding refused_line line spaced
refused-pieces o =
    next_field (((refused_word ++ (space ∷ decimal o.number)) ++ (space ∷ decimal o.place)) ++ (space ∷ decimal o.latency)) (signed o.margin) [] ∙
    (next_field ((refused_word ++ (space ∷ decimal o.number)) ++ (space ∷ decimal o.place)) (decimal o.latency) (signed o.margin ∷ []) ∙
    (next_field (refused_word ++ (space ∷ decimal o.number)) (decimal o.place) (decimal o.latency ∷ signed o.margin ∷ []) ∙
    next_field refused_word (decimal o.number) (decimal o.place ∷ decimal o.latency ∷ signed o.margin ∷ [])))

-- ── Their lengths ──

pub graph-length :
    (f : GraphFigures) →
    length (graph_line f) ≡ 5 + suc (length (decimal f.tasks)) + suc (length (decimal f.edges)) + suc (length (decimal f.latency)) + 1
graph-length f = ap length (sym (graph-pieces f)) ∙ simp length-append

pub redundant-length :
    (set : RedundantSet) →
    length (redundant_line set) ≡ 9 + suc (length (decimal set.count)) + length (spaced (numbers (places_below 256 (mark_at set.marks)))) + 1
redundant-length set = ap length (sym (redundant-pieces set)) ∙ simp length-append

pub accepted-length :
    (v : ProposalVerdict) → length (accepted_line v) ≡ 8 + suc (length (decimal v.latency)) + suc (length (signed v.margin)) + 1
accepted-length v = ap length (sym (accepted-pieces v)) ∙ simp length-append

pub refused-length :
    (o : Outcome) →
    length (refused_line o) ≡
    7 + suc (length (decimal o.number)) + suc (length (decimal o.place)) + suc (length (decimal o.latency)) + suc (length (signed o.margin)) + 1
refused-length o = ap length (sym (refused-pieces o)) ∙ simp length-append
