-- The edges of a list's first records: as many as there are records, one record more is one edge more, and written as records they are those records again.
use mathlib.Core.Path.{◌≡◌, refl, sym, ap, ◌∙◌}
use mathlib.Core.List.{List, [], ◌∷◌, ◌++◌}
use Prim.Native.Nat.{ℕ, zero, suc, ◌+◌, ◌≤◌, ◌<◌}
use native.Mathlib.Numerals.{add-one}
use lib.ListN.{length, get_or, take, drop, set}
use lib.Seq.{take-suc-set}
use Rattle.std.proofs.lemmas.List.{map_more, map-append, length-map, length-take-le}
use Rattle.layout.specs.declared.EdgeRecord.{EdgeRecord}
use Rattle.model.specs.Tasks.{Edge}
use Rattle.records.specs.Columns.{edge_of, edges_in, no_record}
use Rattle.stages.specs.Stages.{records_of, written_into, listed}
use Rattle.records.specs.Columns.{record_of}

pub records-length : (es : List Edge) → length (records_of es) ≡ length es
unfolding records_of
records-length [] = refl
records-length (e ∷ es) = ap suc (records-length es)

-- the edges of records, as records
records-again : (rs : List EdgeRecord) → records_of (edges_in rs) ≡ rs
unfolding records_of record_of edge_of
records-again [] = refl
records-again (r ∷ rs) = ap (λ (qs : List EdgeRecord). r ∷ qs) (records-again rs)

pub listed-is : (n : ℕ) (rs : List EdgeRecord) → listed n rs ≡ edges_in (take n rs)
unfolding listed
listed-is zero rs = refl
listed-is (suc n) [] = refl
listed-is (suc n) (r ∷ rs) = ap (λ (es : List Edge). edge_of r ∷ es) (listed-is n rs)

module _ (n : ℕ) (rs : List EdgeRecord) where
  pub listed-length : n ≤ length rs → length (listed n rs) ≡ n
  listed-length l = ap (λ (es : List Edge). length es) (listed-is n rs) ∙ (length-map (take n rs) edge_of ∙ length-take-le n rs l)

  -- one record more
  pub listed-more : n < length rs → listed (n + 1) rs ≡ listed n rs ++ (edge_of (get_or rs n no_record) ∷ [])
  listed-more l =
      listed-is (n + 1) rs ∙
      (map_more edge_of rs n no_record l ∙ ap (λ (es : List Edge). es ++ (edge_of (get_or rs n no_record) ∷ [])) (sym (listed-is n rs)))

  -- a record stored behind the first ones
  pub listed-stored : (e : EdgeRecord) → n < length rs → listed (n + 1) (set rs n e) ≡ listed n rs ++ (edge_of e ∷ [])
  listed-stored e l =
      listed-is (n + 1) (set rs n e) ∙
      (ap (λ (m : ℕ). edges_in (take m (set rs n e))) (add-one n) ∙
      (ap edges_in (take-suc-set rs n e l) ∙
      (map-append edge_of (take n rs) (e ∷ []) ∙ ap (λ (es : List Edge). es ++ (edge_of e ∷ [])) (sym (listed-is n rs)))))

  -- the first records at the front of another list
  pub listed-written : (list : List EdgeRecord) → n ≤ length rs → take n rs ++ drop n list ≡ written_into list (listed n rs)
  unfolding written_into
  listed-written list l =
      (λ i. (sym (ap records_of (listed-is n rs) ∙ records-again (take n rs)) i) ++ drop (sym (listed-length l) i) list)
