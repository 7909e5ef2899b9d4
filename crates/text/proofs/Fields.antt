-- Numbers listed as fields: the fields of a list's front, one number more at a time, and their room in those of the whole list.
use mathlib.Core.Path.{◌≡◌, refl, sym, ap, ◌∙◌}
use mathlib.Core.List.{List, [], ◌∷◌, ◌++◌, append_assoc, append-nil}
use Prim.Native.Nat.{ℕ, ◌+◌, ◌≤◌, ◌<◌}
use native.Mathlib.Numerals.{add-one}
use native.Mathlib.Omega.{arith}
use lib.ListN.{length, take, drop, get_or, length-append, take-append-drop}
use lib.Seq.{take-suc}
use Rattle.text.specs.Text.{space, decimal, spaced, numbers}

-- the bytes of a list of numbers as fields
abbrev pub fields : List ℕ → List ℕ
fields ns = spaced (numbers ns)

pub fields-append : (ms ns : List ℕ) → fields (ms ++ ns) ≡ fields ms ++ fields ns
unfolding spaced numbers
fields-append [] ns = refl
fields-append (m ∷ ms) ns =
    ap (λ (z : List ℕ). (space ∷ decimal m) ++ z) (fields-append ms ns) ∙ sym (append_assoc (space ∷ decimal m) (fields ms) (fields ns))

pub field-one : (n : ℕ) → fields (n ∷ []) ≡ space ∷ decimal n
unfolding spaced numbers
field-one n = append-nil (space ∷ decimal n)

module _ (ns : List ℕ) (i : ℕ) (inside : i < length ns) where
  pub fields-more : fields (take (i + 1) ns) ≡ fields (take i ns) ++ (space ∷ decimal (get_or ns i 0))
  fields-more =
      ap (λ (k : ℕ). fields (take k ns)) (add-one i) ∙
      (ap fields (take-suc ns i 0 inside) ∙
      (fields-append (take i ns) (get_or ns i 0 ∷ []) ∙ ap (λ (z : List ℕ). fields (take i ns) ++ z) (field-one (get_or ns i 0))))

  pub field_room : length (fields (take i ns)) + length (space ∷ decimal (get_or ns i 0)) ≤ length (fields ns)
  field_room =
      let front : length (fields (take (i + 1) ns)) ≡ length (fields (take i ns)) + length (space ∷ decimal (get_or ns i 0))
      = ap length fields-more ∙ length-append (fields (take i ns)) (space ∷ decimal (get_or ns i 0)) in
      let whole : length (fields ns) ≡ length (fields (take (i + 1) ns)) + length (fields (drop (i + 1) ns))
      = ap (λ (z : List ℕ). length (fields z)) (sym (take-append-drop (i + 1) ns)) ∙
      (ap length (fields-append (take (i + 1) ns) (drop (i + 1) ns)) ∙ length-append (fields (take (i + 1) ns)) (fields (drop (i + 1) ns))) in
      omega (arith, front, whole)
