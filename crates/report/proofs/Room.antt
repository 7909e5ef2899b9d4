-- Room for what is printed: a 32-bit number has at most ten digits, and the places 1 to 256 with the spaces before them take 916 bytes.
use mathlib.Core.Path.{◌≡◌, refl, ap, ◌∙◌}
use mathlib.Core.Logic.{⊎_elim}
use mathlib.Core.Bool.{Bool, true, false}
use mathlib.Core.List.{List, [], ◌∷◌, ◌++◌}
use Prim.Native.Nat.{ℕ, zero, suc, ◌+◌, ◌^◌, ◌≤◌, ◌<◌}
use native.Mathlib.Omega.{arith}
use lib.IntN.{ℤ, pos, negsuc}
use lib.ListN.{length, length-append}
use lib.Signed.{mag}
use Rattle.model.specs.Lists.{put}
use Rattle.model.specs.Compute.{is_redundant}
use Rattle.files.specs.Files.{graph_of}
use Rattle.files.proofs.First.{zero_or_not, if-passed, if-refused}
use Rattle.text.specs.Text.{digit, digits_within, decimal, signed, spaced, numbers}
use Rattle.text.proofs.Decimal.{digits-within}
use Rattle.text.proofs.Fields.{fields, fields-append, field-one}
use Rattle.marks.specs.Marks.{mark_at, set_below, places_below}
use Rattle.marks.proofs.Laws.{set-below-le}
use Rattle.acceptance.specs.declared.Outcome.{Outcome}
use Rattle.acceptance.specs.Acceptance.{acceptance_refusal}
use Rattle.figures.specs.declared.GraphFigures.{GraphFigures}
use Rattle.redundant.specs.declared.RedundantSet.{RedundantSet}
use Rattle.redundant.specs.Redundant.{redundant_of}
use Rattle.verdict.specs.declared.ProposalVerdict.{ProposalVerdict}
use Rattle.report.specs.Report.{graph_line, redundant_line, accepted_line, refused_line, verdict_line, printed}
use Rattle.report.proofs.Pieces.{graph-length, redundant-length, accepted-length, refused-length}
use Rattle.report.proofs.Whole.{verdict-accepted, verdict_refused, printed-refused, whole_length}

-- ── Numbers ──

ten-digits : (n : ℕ) → n < 2 ^ 32 → length (decimal n) ≤ 10
ten-digits n h = let small : n < 10 ^ 10 = omega arith in digits-within 9 n small

three-digits : (n : ℕ) → n ≤ 256 → length (decimal n) ≤ 3
three-digits n h = let small : n < 10 ^ 3 = omega arith in digits-within 2 n small

signed-digits : (z : ℤ) → mag z < 2 ^ 31 → length (signed z) ≤ 11
unfolding signed
signed-digits (pos n) h = let small : n < 2 ^ 32 = omega arith in omega (arith, ten-digits n small)
signed-digits (negsuc n) h = let small : suc n < 2 ^ 32 = omega arith in omega (arith, ten-digits (suc n) small)

-- ── Places ──

-- what the places 1 to n take as fields
most : ℕ → ℕ
most zero = 0
most (suc n) = most n + suc (length (decimal (suc n)))

places-room : (n : ℕ) (marked : ℕ → Bool) → length (fields (places_below n marked)) ≤ most n
unfolding places_below spaced numbers put most
places-room zero marked = omega arith
places-room (suc n) marked = go (marked n) (places-room n marked)
  where
    go : (b : Bool) → length (fields (places_below n marked)) ≤ most n → length (fields (places_below n marked ++ put b (suc n) [])) ≤ most (suc n)
    go true rest =
        let long = ap length (fields-append (places_below n marked) (suc n ∷ []) ∙ ap (λ (z : List ℕ). fields (places_below n marked) ++ z) (field-one (suc n))) ∙
        length-append (fields (places_below n marked)) (32 ∷ decimal (suc n)) in
        omega (arith, rest, long)
    go false rest =
        let long = ap length (fields-append (places_below n marked) []) ∙ length-append (fields (places_below n marked)) [] in
        omega (arith, rest, long)

most-is : most 256 ≡ 916
unfolding most decimal digits_within digit
most-is = refl

-- ── Lines ──

-- the numbers of an outcome fit 32 bits; likewise those of the other answers
pub record OutcomeFits (o : Outcome) : Type 0 where
  pub number : o.number < 2 ^ 32
  pub place : o.place < 2 ^ 32
  pub latency : o.latency < 2 ^ 32
  pub margin : mag o.margin < 2 ^ 31

pub record FiguresFit (f : GraphFigures) : Type 0 where
  pub outcome : OutcomeFits f.outcome
  pub tasks : f.tasks < 2 ^ 32
  pub edges : f.edges < 2 ^ 32
  pub latency : f.latency < 2 ^ 32

pub record VerdictFits (v : ProposalVerdict) : Type 0 where
  pub outcome : OutcomeFits v.outcome
  pub latency : v.latency < 2 ^ 32
  pub margin : mag v.margin < 2 ^ 31

refused-room : (o : Outcome) → OutcomeFits o → length (refused_line o) ≤ 53
refused-room o f =
    omega (arith, refused-length o, ten-digits o.number f.number, ten-digits o.place f.place, ten-digits o.latency f.latency, signed-digits o.margin f.margin)

graph-room : (g : GraphFigures) → FiguresFit g → length (graph_line g) ≤ 39
graph-room g f =
    omega (arith, graph-length g, ten-digits g.tasks f.tasks, ten-digits g.edges f.edges, ten-digits g.latency f.latency)

redundant-room : (set : RedundantSet) → set.count ≤ 256 → length (redundant_line set) ≤ 930
redundant-room set few =
    omega (arith, redundant-length set, three-digits set.count few, places-room 256 (mark_at set.marks), most-is)

accepted-room : (v : ProposalVerdict) → VerdictFits v → length (accepted_line v) ≤ 32
accepted-room v f = omega (arith, accepted-length v, ten-digits v.latency f.latency, signed-digits v.margin f.margin)

verdict-room : (v : ProposalVerdict) → VerdictFits v → length (verdict_line v) ≤ 53
verdict-room v f =
    ⊎_elim
    (λ passed. omega (arith, accepted-room v f, ap length (verdict-accepted v passed)))
    (λ some. omega (arith, refused-room v.outcome f.outcome, ap length (verdict_refused v some)))
    (zero_or_not v.outcome.number)

pub printed-room :
    (g : GraphFigures) (set : RedundantSet) (v : ProposalVerdict) → FiguresFit g → set.count ≤ 256 → VerdictFits v →
    length (printed g set v) ≤ 1024
printed-room g set v f few h =
    ⊎_elim
    (λ passed. omega (arith, whole_length g set v passed, graph-room g f, redundant-room set few, verdict-room v h))
    (λ some. omega (arith, ap length (printed-refused g set v some), refused-room g.outcome f.outcome))
    (zero_or_not g.outcome.number)

-- no more than 256 edges are counted
pub redundant-few : (s : List ℕ) {set : RedundantSet} → set ≡ redundant_of s → set.count ≤ 256
unfolding redundant_of
redundant-few s {set} is =
    let same = ap (λ (r : RedundantSet). r.count) is in
    ⊎_elim
    (λ passed. omega (arith, same, if-passed (acceptance_refusal s).number (set_below 256 (is_redundant (graph_of s))) 0 passed, set-below-le 256 (is_redundant (graph_of s))))
    (λ some. omega (arith, same, if-refused (acceptance_refusal s).number (set_below 256 (is_redundant (graph_of s))) 0 some))
    (zero_or_not (acceptance_refusal s).number)
