-- Edges stored one behind the other: one record more is one edge more, if it counts. So the first records of the list hold the edges stored.
use mathlib.Core.Path.{◌≡◌, sym, ap, ◌∙◌}
use mathlib.Core.Bool.{Bool, true, false}
use mathlib.Core.List.{List, [], ◌∷◌, ◌++◌}
use Prim.Native.Nat.{ℕ, ◌+◌, ◌-◌, ◌≤◌, ◌<◌}
use native.Mathlib.Nat.{add-zero}
use native.Mathlib.Numerals.{add-one}
use native.Mathlib.Omega.{arith}
use lib.ListN.{length, take, set}
use borrow.Rule.Slice.PartMut.{put_mid, mid_len, same_len_mid}
use Rattle.std.proofs.lemmas.List.{map-append, length-map, length-take-le, take_more_set, take-set}
use Rattle.std.proofs.lemmas.Slice.{take-put_mid}
use Rattle.std.specs.Int.{from_bool}
use Rattle.layout.specs.declared.EdgeRecord.{EdgeRecord}
use Rattle.model.specs.Lists.{tabulate, keep}
use Rattle.model.specs.Tasks.{Edge}
use Rattle.records.specs.Columns.{edge_of, edges_in}
use Rattle.results.specs.declared.ResultEdges.{ResultEdges}
use Rattle.results.specs.Results.{HeldResult, result_in}
use Rattle.results.proofs.Keeping.{keep-more, keep_same}

pub counted-one : (b : Bool) → from_bool b ≤ 1
counted-one true = omega arith
counted-one false = omega arith

-- a record stored behind those kept, whose edge counts if it passes the test
pub kept_more :
    (t : Edge → Bool) (xs : List Edge) {kept one : ℕ} (list : List EdgeRecord) (r : EdgeRecord) (b : Bool) → t (edge_of r) ≡ b → one ≡ from_bool b
    → edges_in (take kept list) ≡ keep t xs → kept < length list → edges_in (take (kept + one) (set list kept r)) ≡ keep t (xs ++ (edge_of r ∷ []))
kept_more t xs {kept} list r true is one-is held below =
    ap (λ (k : ℕ). edges_in (take (kept + k) (set list kept r))) one-is ∙
    (ap edges_in (take_more_set list kept r below) ∙
    (map-append edge_of (take kept list) (r ∷ []) ∙
    (ap (λ (es : List Edge). es ++ (edge_of r ∷ [])) held ∙ sym (keep-more t xs (edge_of r) is))))
kept_more t xs {kept} list r false is one-is held below =
    ap (λ (k : ℕ). edges_in (take k (set list kept r))) (ap (λ (k : ℕ). kept + k) one-is ∙ add-zero kept) ∙
    (ap edges_in (take-set list kept r) ∙ (held ∙ sym (keep_same t xs (edge_of r) is)))

-- records copied behind the first ones
pub behind : (kept count : ℕ) (list more : List EdgeRecord) → count ≡ kept + length more → kept ≤ length list
    → edges_in (take count (put_mid kept (count - kept) list more)) ≡ edges_in (take kept list) ++ edges_in more
behind kept count list more ends within =
    ap edges_in (take-put_mid kept (count - kept) list more count ends within) ∙ map-append edge_of (take kept list) more

pub behind-room : (kept count : ℕ) (list more : List EdgeRecord) → count ≡ kept + length more → count ≤ length list
    → length (put_mid kept (count - kept) list more) ≡ length list
behind-room kept count list more ends fits =
    let long : length more ≡ count - kept = omega (arith, ends) in
    same_len_mid kept (count - kept) list more (long ∙ sym (mid_len kept count list fits))

-- one entry more of a list made place by place
pub tabulate-more : {A : Type 0} (f : ℕ → A) (j : ℕ) → tabulate (j + 1) f ≡ tabulate j f ++ (f j ∷ [])
unfolding tabulate
tabulate-more f j = ap (λ (n : ℕ). tabulate n f) (add-one j)

-- a result whose list holds these edges
pub held-result : {r : ResultEdges} {es : List Edge} → r.count ≤ 576 → length r.edges ≡ 576 → edges_in (take r.count r.edges) ≡ es → HeldResult r es
unfolding result_in
held-result {r} few room held = record {
  as_many = sym (length-map (take r.count r.edges) edge_of ∙ length-take-le r.count r.edges (omega (arith, few, room))) ∙ ap (λ (es : List Edge). length es) held;
  few = few;
  room = room;
  held = held;
}
