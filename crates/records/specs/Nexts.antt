-- What is found of the tasks on a processor, by the numbers of processors that a list holds.
use Rattle.std.specs.Prelude.{◌≡◌, List, ℕ, ◌+◌, ◌≤◌, ◌<◌, length, get_or}

-- r is the first task on processor p from a task on; a number that is no task's, if there is none.
pub record FirstOn (processor : List ℕ) (p from r : ℕ) : Type 0 where
  pub later : from ≤ r
  pub on : r < length processor → get_or processor r 0 ≡ p
  pub none_between : (k : ℕ) → from ≤ k → k < r → k < length processor → get_or processor k 0 ≡ p → ⊥

-- The list has the first task from a task on, for each processor.
pub record FirstTasks (processor : List ℕ) (from : ℕ) (first : List ℕ) : Type 0 where
  pub room : length first ≡ 256
  pub each : (p : ℕ) → p < 256 → FirstOn processor p from (get_or first p 0)

-- r is a task; or 64, which stands for none.
pub data TaskOrNone (processor : List ℕ) (r : ℕ) : Type 0 where
  task : r < length processor → TaskOrNone processor r
  none : r ≡ 64 → TaskOrNone processor r

-- The list has the next task on its processor, for each task from a task on; 64, if there is none.
pub record NextTasks (processor : List ℕ) (from : ℕ) (next : List ℕ) : Type 0 where
  pub room : length processor ≤ length next
  pub each : (v : ℕ) → from ≤ v → v < length processor → FirstOn processor (get_or processor v 0) (v + 1) (get_or next v 0)
  pub told : (v : ℕ) → from ≤ v → v < length processor → TaskOrNone processor (get_or next v 0)
