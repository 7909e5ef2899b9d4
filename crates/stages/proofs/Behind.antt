-- A list that is written at its front while it is read from a place on: what lies from that place on is as it was.
use mathlib.Core.Path.{◌≡◌, ap, ◌∙◌}
use Prim.Native.Nat.{ℕ, ◌+◌, ◌≤◌}
use mathlib.Core.List.{List}
use native.Mathlib.Omega.{arith}
use lib.ListN.{get_or, set}
use lib.Seq.{get_or-set_other}
use Rattle.layout.specs.declared.EdgeRecord.{EdgeRecord}
use Rattle.records.specs.Columns.{no_record}

abbrev pub Behind : ℕ → List EdgeRecord → List EdgeRecord → Type 0
Behind j before after = (i : ℕ) → j ≤ i → get_or after i no_record ≡ get_or before i no_record

-- one place on
pub behind-step :
    {j : ℕ} (before after : List EdgeRecord) {after' : List EdgeRecord} → after' ≡ after → Behind j before after → Behind (j + 1) before after'
behind-step before after same behind i l = ap (λ (xs : List EdgeRecord). get_or xs i no_record) same ∙ behind i (omega arith)

-- after a write in front of it
pub behind-set :
    {j : ℕ} (before after : List EdgeRecord) {after' : List EdgeRecord} (kept : ℕ) (e : EdgeRecord) → kept ≤ j → after' ≡ set after kept e
    → Behind j before after → Behind (j + 1) before after'
behind-set before after kept e below written behind i l =
    ap (λ (xs : List EdgeRecord). get_or xs i no_record) written ∙ (get_or-set_other after kept i e no_record (λ q. omega arith) ∙ behind i (omega arith))
