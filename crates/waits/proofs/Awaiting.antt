-- Starts raised to the ends that entries ask for, one after the other: one entry more is heeded, and nothing is raised further than starts that heed all.
use mathlib.Core.Path.{◌≡◌, sym, subst, ap, ◌∙◌}
use mathlib.Core.List.{List}
use Prim.Native.Nat.{ℕ, ◌+◌, ◌≤◌, ◌<◌, max}
use native.Mathlib.Nat.{le_trans}
use native.Mathlib.Omega.{arith}
use lib.ListN.{length, get_or, set, length-set, get_or-replicate}
use borrow.Author.Count.{below_more}
use Rattle.records.specs.Columns.{at, zeros}
use Rattle.records.proofs.Parts.{zeros-length}
use Rattle.waits.specs.Later.{asked_end, Awaited}
use Rattle.waits.proofs.Lifts.{lifted-there, lifted-above, lifted-below}

module _ (back lastings sinks starts : List ℕ) where
  -- starts of 0
  pub awaited-none : {n : ℕ} {row : List ℕ} → row ≡ zeros n → Awaited back lastings sinks starts n 0 row
  unfolding at zeros
  awaited-none {n} blank = record {
    size = ap length blank ∙ zeros-length n;
    heeds = λ i l. absurd (omega arith);
    lowest = λ f good v l. let none = ap (λ (xs : List ℕ). get_or xs v 0) blank ∙ get_or-replicate n v 0 0 l in omega arith;
  }

  module _ {n k : ℕ} {row : List ℕ} (so_far : Awaited back lastings sinks starts n k row) (l : k < length back) (task : get_or sinks k 0 < n) where
    abbrev t : ℕ
    t = get_or sinks k 0

    -- the later of the start so far and the end that entry k asks for
    abbrev later : ℕ
    later = max (at row t) (asked_end starts (get_or back k 0) (get_or lastings k 0))

    there : t < length row
    there = let size = so_far.size in omega arith

    up : (v : ℕ) → at row v ≤ at (set row t later) v
    up = lifted-above row t later there (omega arith)

    pub awaited-more : Awaited back lastings sinks starts n (k + 1) (set row t later)
    awaited-more = record {
      size = length-set row t later ∙ so_far.size;
      heeds = below_more (λ i. asked_end starts (get_or back i 0) (get_or lastings i 0) ≤ at (set row t later) (get_or sinks i 0)) k
          (λ i m. le_trans (so_far.heeds i m) (up (get_or sinks i 0))) (let is = lifted-there row t later there in omega arith);
      lowest = λ f good v m.
          let low = so_far.lowest f good in
          lifted-below row t later there v (f v) (λ e. subst (λ (u : ℕ). later ≤ f u) (sym e) (let here = low t task in let end = good k l in omega arith)) (low v m);
    }
