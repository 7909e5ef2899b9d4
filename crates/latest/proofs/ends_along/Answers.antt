-- `latest::ends_along` meets its contract: the first turn's starts, at the front of the list of starts, and each task's own time.
use mathlib.Core.Path.{◌≡◌, refl, sym, ap, ◌∙◌, subst}
use mathlib.Core.List.{List, ◌++◌}
use Prim.Native.Nat.{ℕ, ◌-◌, ◌≤◌, ◌<◌}
use native.Mathlib.Nat.{sub-zero}
use native.Mathlib.Omega.{arith}
use lib.ListN.{length, take, replicate}
use lib.Seq.{take_at}
use Rattle.records.specs.Columns.{at}
use Rattle.sets.specs.Sets.{Crossed}
use Rattle.turn.specs.Turn.{WalkedAll}
use Rattle.turn.proofs.Sequence.{leads-back}
use Rattle.starts.proofs.Fronts.{front_length, front_at}
use Rattle.latest.proofs.Firsts.{all-walked, walked-ends}
use Rattle.latest.proofs.ends_along.Goals as goal
use Rattle.latest.proofs.ends_along.Goals.{Start, After-walk_tasks}

-- the part that the walk is given: a start of 0 for each task
abbrev blank : Start → List ℕ
blank s = take (length s.args.time.now - 0) (replicate 64 0)

long : (s : Start) → length (blank s) ≡ length s.args.time.now
long s = front_length 64 0 refl s.requires.sinks_len.5

abbrev begin : After-walk_tasks → Start
begin t = (goal.at.After-walk_tasks t).Start

row-long : (t : After-walk_tasks) → length t.walk_tasks.new.row ≡ length (begin t).args.time.now
row-long t = t.walk_tasks.ensures.size ∙ long (begin t)

walked : (t : After-walk_tasks) →
    let args = (begin t).args in
    WalkedAll args.sinks.now args.time.now (length args.time.now) 0 t.walk_tasks.result.reached t.walk_tasks.new.row t.walk_tasks.new.sequence
walked t =
    let args = (begin t).args in
    let whole = long (begin t) in
    subst (λ (m : ℕ). WalkedAll args.sinks.now args.time.now m 0 t.walk_tasks.result.reached t.walk_tasks.new.row t.walk_tasks.new.sequence) whole
    (all-walked (begin t).requires.worked.1 whole t.walk_tasks.ensures.walked t.walk_tasks.ensures.all)

-- the front of the list is then the walk's row, whatever stands behind
front : (t : After-walk_tasks) (past : List ℕ) → take (length (begin t).args.time.now - 0) (t.walk_tasks.new.row ++ past) ≡ t.walk_tasks.new.row
front t past = take_at t.walk_tasks.new.row past (length (begin t).args.time.now - 0) (row-long t ∙ sym (sub-zero (length (begin t).args.time.now)))

pub walk_tasks-requires : goal.walk_tasks-requires
walk_tasks-requires c =
    let same = sym (long (goal.at.walk_tasks-requires c).Start) in
    record {
      sinks_len = (c.requires.sinks_len.0, c.requires.sinks_len.1, same);
      input_in_bounds = (subst (λ (m : ℕ). 0 < m) same c.requires.sinks_len.4, subst (λ (m : ℕ). m ≤ 64) same c.requires.sinks_len.5, c.requires.sinks_len.2);
      crossed = subst (λ (m : ℕ). Crossed c.args.sinks.now c.args.sources.now m) same c.requires.worked.1.cross;
      by_index = λ v l. front_at 64 0 refl c.requires.sinks_len.5 v (subst (λ (m : ℕ). v < m) (sym same) l);
    }

pub ends_into-requires : goal.ends_into-requires
ends_into-requires c =
    let t = (goal.at.ends_into-requires c).After-walk_tasks in
    let same = front t _ in
    let size = ap length same ∙ row-long t in
    record {
      row_len = (size, c.requires.sinks_len.3);
      by_index = λ v l. let low = (walked t).walked.low v (subst (λ (m : ℕ). v < m) size l) in let is = ap (λ (xs : List ℕ). at xs v) same in omega (arith, low, is, c.requires.sinks_len.5);
    }

pub returns : goal.returns
returns c =
    let t = (goal.at.returns c).After-walk_tasks in
    record {
      ends = λ es worked. walked-ends worked _ (walked t) (front_at 64 0 refl c.requires.sinks_len.5) (front t _) c.ends_into.ensures;
      order = leads-back (walked t) c.requires.worked.1.cross;
    }
