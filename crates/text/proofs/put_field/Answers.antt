-- `text::put_field` meets its contract: a space, then the number behind it.
use native.Mathlib.Omega.{arith}
use Prim.Native.Nat.{ℕ, ◌+◌, ◌/◌, ◌≤◌}
use lib.ListN.{length}
use mathlib.Core.Path.{◌≡◌, ap}
use mathlib.Core.List.{◌∷◌}
use Rattle.text.specs.Text.{space, decimal, Appended}
use Rattle.text.proofs.Decimal.{digits_alike}
use Rattle.text.proofs.Appending as appending
use Rattle.text.proofs.put_field.Goals as goal

-- the room serves each number that differs in its last digit alone
pub put_number-requires : goal.put_number-requires
put_number-requires c =
    let e = c.put-next.ensures in
    let room : (m : ℕ) → m / 10 ≡ c.args.n / 10 → c.put-next.result + length (decimal m) ≤ length c.put-next.new.out =
    λ m tens. omega (arith, c.requires, e.next_is, appending.same_length e, digits_alike m c.args.n tens) in
    room _ (omega arith)

pub returns : goal.returns
returns c =
    let n = c.args.n in
    let after = c.put_number.new.out in
    let told : (m : ℕ) → Appended c.args.at (space ∷ decimal m) c.args.out.now after c.put_number.result → m ≡ n → Appended c.args.at (space ∷ decimal n) c.args.out.now after c.put_number.result =
    λ m put same. appending.renamed (ap (λ (k : ℕ). space ∷ decimal k) same) put in
    told _ (appending.followed c.put-next.ensures c.put_number.ensures) (omega arith)
