-- Paths by the entries of the table of least delays: a least delay is at most 255 times 64, never 65,535.
use mathlib.Core.Path.{◌≡◌, refl, ap}
use mathlib.Core.Bool.{not}
use mathlib.Core.List.{List}
use mathlib.Core.Option.{Option, none, some}
use Prim.Native.Nat.{ℕ, ◌*◌, ◌≤◌}
use native.Mathlib.Omega.{arith}
use lib.Dec.{eqb}
use Rattle.model.specs.Tasks.{Edge}
use Rattle.model.specs.Paths.{Least}
use Rattle.model.specs.Compute.{least_delay, present}
use Rattle.model.proofs.Tests.{eqb-decides, decides-no}
use Rattle.model.proofs.Theorems.{least-delay-is, least-bound}
use Rattle.delays.specs.Delays.{entry, Fit}

pub path-by-entry : {n : ℕ} {es : List Edge} → n ≤ 64 → Fit n es → (a b : ℕ) → not (eqb (entry (least_delay n es a b)) 65535) ≡ present (least_delay n es a b)
unfolding entry present
path-by-entry {n} {es} few fit a b = go (least_delay n es a b) (least-delay-is n es fit.ends a b)
  where
    go : (o : Option ℕ) → Least es a b o → not (eqb (entry o) 65535) ≡ present o
    go (some d) least =
        let bound : d ≤ 255 * n = least-bound n 255 es fit.ends fit.delays a b d least in
        ap not (decides-no (eqb-decides d 65535) (λ q. omega arith))
    go none least = refl
