-- `passes::make_turn` meets its contract: the pass is over the starts that were copied.
use mathlib.Core.Path.{sym, ap, ◌∙◌, subst}
use mathlib.Core.List.{List}
use Prim.Native.Nat.{ℕ}
use native.Mathlib.Omega.{arith}
use lib.ListN.{length}
use Rattle.turn.specs.Turn.{Leads}
use Rattle.passes.specs.Passes.{Passable, Lowest}
use Rattle.passes.proofs.make_turn.Goals as goal

pub pass_along-requires : goal.pass_along-requires
pass_along-requires c =
    let same = sym c.copy_from_slice.ensures.after in
    let long = ap length c.copy_from_slice.ensures.after ∙ c.requires.words_len.4 in
    record {
      words_len = (c.requires.words_len.0, c.requires.words_len.1, c.requires.words_len.2 ∙ sym long, omega (arith, long, c.requires.words_len.3));
      leads = (subst (λ (m : ℕ). Leads c.args.words.now m c.args.sequence.now) (sym long) c.requires.leads.0, subst (λ (xs : List ℕ). Passable c.args.words.now c.args.time.now xs) same c.requires.leads.1);
    }

pub returns : goal.returns
returns c = subst (λ (xs : List ℕ). Lowest c.args.words.now c.args.time.now xs c.pass_along.new.row) c.copy_from_slice.ensures.after c.pass_along.ensures
