-- What the first turn tells of a graph: the tasks reached from the input tell whether it is joined to the output.
use mathlib.Core.Path.{◌≡◌, subst}
use mathlib.Core.Bool.{not, ◌&&◌}
use mathlib.Core.List.{List}
use Prim.Native.Nat.{ℕ, ◌≤◌, ◌<◌}
use lib.Dec.{eqb}
use Rattle.model.specs.Tasks.{Edge, Ends}
use Rattle.model.specs.Compute.{joined}
use Rattle.reach.specs.Reach.{bit}
use Rattle.turn.specs.Turn.{Turned}
use Rattle.acceptance.proofs.Reached.{joined-marked}

pub below-same : {b x y : ℕ} → b < x → x ≡ y → b < y
below-same {b} l same = subst (λ (z : ℕ). b < z) same l

pub at-most-same : {b x y : ℕ} → x ≤ b → x ≡ y → y ≤ b
at-most-same {b} l same = subst (λ (z : ℕ). z ≤ b) same l

module _
    {n : ℕ} {es : List Edge} (ends : Ends n es) {time : ℕ → ℕ} {input reached : ℕ} {given row : List ℕ}
    (turned : Turned n es time input reached given row)
  where
    pub turn-joined : (output : ℕ) → not (eqb input output) && bit reached output ≡ joined n es input output
    turn-joined output = joined-marked ends input (bit reached) turned.first turned.on output turned.by
