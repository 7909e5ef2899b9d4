-- 8's test and its refusal, and the comparison of two edges by their records: the test is true exactly if some earlier
-- edge is the same.
use mathlib.Core.Path.{◌≡◌, sym, ap, ◌∙◌}
use mathlib.Core.Bool.{true, false}
use mathlib.Core.List.{List}
use Prim.Native.Nat.{ℕ, suc, ◌+◌, ◌<◌}
use native.Mathlib.Numerals.{add-one}
use lib.ListN.{get_or}
use Rattle.layout.specs.declared.EdgeRecord.{EdgeRecord}
use Rattle.model.specs.Tasks.{Edge}
use Rattle.model.specs.Compute.{same_edge}
use Rattle.model.proofs.Basics.{any-in, any_out}
use Rattle.model.proofs.Tests.{same-edge, decides-iff, decides-true, decides-yes}
use Rattle.files.specs.Theorems.{RepeatsEarlierIs}
use Rattle.files.specs.Refusals.{not_refused}
use Rattle.files.specs.Files.{edge_in, repeats_earlier, repeat_refusal}
use Rattle.records.specs.Columns.{edge_of, edges_in, no_record}
use Rattle.files.proofs.First.{refused, not-refused}
use Rattle.files.proofs.Single.{refusal, edge-is}

pub repeats-earlier-is : RepeatsEarlierIs
unfolding repeats_earlier
repeats-earlier-is es j =
    decides-iff
    (λ t.
    let r = any_out j (λ i. same_edge (edge_in es i) (edge_in es j)) t in
    (r.0, r.1, (same-edge (edge_in es r.0) (edge_in es j)).if_true r.2))
    (λ r. any-in j (λ i. same_edge (edge_in es i) (edge_in es j)) r.0 r.1 (decides-true (same-edge (edge_in es r.0) (edge_in es j)) r.2))

pub repeats : (es : List Edge) (j i : ℕ) → i < j → edge_in es i ≡ edge_in es j → repeats_earlier es j ≡ true
repeats es j i earlier same = decides-yes (repeats-earlier-is es j) (i, earlier, same)

-- the check from the test
pub repeat-stops : (es : List Edge) (j : ℕ) → repeats_earlier es j ≡ true → repeat_refusal es j ≡ refusal 8 (j + 1)
unfolding repeat_refusal
repeat-stops es j is = refused 8 (suc j) is ∙ ap (refusal 8) (sym (add-one j))

pub repeat-passes : (es : List Edge) (j : ℕ) → repeats_earlier es j ≡ false → repeat_refusal es j ≡ not_refused
unfolding repeat_refusal
repeat-passes es j is = not-refused _ _ is

-- the comparison of two edges is that of their records
pub same_records : (rs : List EdgeRecord) (i j : ℕ) →
    same_edge (edge_in (edges_in rs) i) (edge_in (edges_in rs) j) ≡ same_edge (edge_of (get_or rs i no_record)) (edge_of (get_or rs j no_record))
same_records rs i j = λ d. same_edge (edge-is rs i d) (edge-is rs j d)
