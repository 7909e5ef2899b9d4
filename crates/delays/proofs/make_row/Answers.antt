-- `delays::make_row` meets its contract: the row is made, has as many numbers as before, and is kept.
use mathlib.Core.Path.{◌≡◌, sym, ap, ◌∙◌, subst}
use Prim.Native.Nat.{ℕ, ◌<◌}
use lib.ListN.{length}
use Rattle.delays.specs.Delays.{delay_row}
use Rattle.delays.specs.Rows.{Known}
use Rattle.delays.proofs.Table.{row-length}
use Rattle.delays.proofs.make_row.Goals as goal

pub keep_row-requires : goal.keep_row-requires
keep_row-requires c =
    let size : length c.least_row.new.row ≡ length c.args.row.now = ap length (c.least_row.ensures c.requires.1.0 c.requires.1.1) ∙ row-length (length c.args.row.now) c.requires.1.0 c.args.a in
    (subst (λ (k : ℕ). c.args.a < k) (sym size) c.requires.0, (c.requires.1.0, subst (λ (k : ℕ). Known k c.requires.1.0 c.args.done c.args.known.now) (sym size) c.requires.1.1))

pub returns : goal.returns
returns c =
    let size : length c.least_row.new.row ≡ length c.args.row.now = ap length (c.least_row.ensures c.requires.1.0 c.requires.1.1) ∙ row-length (length c.args.row.now) c.requires.1.0 c.args.a in record {
      done = c.keep_row.ensures.done;
      row = c.least_row.ensures;
      known = λ es square.
          subst (λ (k : ℕ). Known k es c.keep_row.result c.keep_row.new.known) size
          (c.keep_row.ensures.known es (subst (λ (k : ℕ). Known k es c.args.done c.args.known.now) (sym size) square)
          (c.least_row.ensures es square ∙ ap (λ (k : ℕ). delay_row k es c.args.a) (sym size)));
    }
