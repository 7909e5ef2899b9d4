-- `present::next_times` meets its contract: the edges with the pair order the tasks as the next stage's present graph does, so their times are its own; a pair
-- that asks for nothing new keeps those there are. The pair is one bit more in the sets.
use Rattle.present.proofs.Ordering.{with_pair_lem, pair-below, pair-sets, sources-long, pair-crossed, pair_ends, pair-order, pair-ordered, pair-timed, few-times, output-there, bound-small, times-within, times-worked, times-timed}
use Rattle.present.proofs.next_times.Goals as goal

pub asks_nothing-requires : goal.asks_nothing-requires
asks_nothing-requires c = pair-below c.requires.2

pub returns-then-asks_nothing : goal.returns-then-asks_nothing
returns-then-asks_nothing c =
    let on = c.with_bit in
    let back = c.with_bit-2 in
    record {
      ordered = λ g list adding. pair-ordered adding on.result back.result on.ensures back.ensures;
      timed = λ g list adding. let none = c.asks_nothing.ensures c.if-asks_nothing.true in pair-timed adding none.0 none.1;
    }

pub task_times-requires : goal.task_times-requires
task_times-requires c =
    let adding = c.requires.2 in
    let staged = adding.next_staged in
    let clocked = adding.ordered.clocked in
    let sizes = pair-below adding in
    let on = c.with_bit in
    let back = c.with_bit-2 in
    let sets = pair-sets adding on.result on.ensures in
    let ends = pair_ends adding in
    let alike = pair-order adding in
    let worked = times-worked staged clocked ends alike sets (pair-crossed adding on.result back.result on.ensures back.ensures) in
    record {
      sinks_len = (
        sets.room,
        sources-long adding back.result,
        few-times staged clocked,
        sizes.0,
        sizes.1,
        output-there staged clocked,
        bound-small staged clocked,
      );
      worked = (with_pair_lem adding, worked, times-within staged clocked ends alike);
    }

pub returns : goal.returns
returns c =
    let on = c.with_bit in
    let back = c.with_bit-2 in
    let times = c.task_times.ensures in
    record {
      ordered = λ g list adding. pair-ordered adding on.result back.result on.ensures back.ensures;
      timed = λ g list adding.
          let staged = adding.next_staged in
          let clocked = adding.ordered.clocked in
          let ends = pair_ends adding in
          let alike = pair-order adding in
          let sets = pair-sets adding on.result on.ensures in
          let worked = times-worked staged clocked ends alike sets (pair-crossed adding on.result back.result on.ensures back.ensures) in
          times-timed staged clocked ends alike (times.end _ worked) (times.latest _ worked (times-within staged clocked ends alike));
    }
