-- Pieces put one behind the other are their bytes put at once: the part in front of the second piece is what was there and the first piece.
use mathlib.Core.Path.{◌≡◌, sym, ap, ◌∙◌, subst}
use mathlib.Core.List.{List, [], ◌++◌, append_assoc}
use Prim.Native.Nat.{ℕ, ◌+◌, ◌≤◌}
use native.Mathlib.Nat.{add-zero}
use native.Mathlib.Omega.{arith}
use lib.ListN.{length, take, drop, length-append, length-drop, take-append-drop}
use lib.Seq.{length-take-le, take_at, drop-append-add, drop-drop}
use Rattle.text.specs.Text.{Appended}

pub nothing : (at : ℕ) (xs : List ℕ) → at ≤ length xs → Appended at [] xs xs at
nothing at xs within = record { next_is = sym (add-zero at); room = within; after_is = sym (take-append-drop at xs) }

-- the same bytes by another name
pub renamed : {at next : ℕ} {x y xs ys : List ℕ} → x ≡ y → Appended at x xs ys next → Appended at y xs ys next
renamed {at} {next} {x} {y} {xs} {ys} same put = subst (λ (z : List ℕ). Appended at z xs ys next) same put

module _ {at b : ℕ} {x xs ys : List ℕ} (put : Appended at x xs ys b) where
  head : List ℕ
  head = take at xs ++ x

  in-front : length (take at xs) ≡ at
  in-front = length-take-le at xs (omega (arith, put.next_is, put.room))

  head-length : length (take at xs ++ x) ≡ b
  head-length = length-append (take at xs) x ∙ (ap (λ (n : ℕ). n + length x) in-front ∙ sym put.next_is)

  split : ys ≡ (take at xs ++ x) ++ drop b xs
  split = put.after_is ∙ sym (append_assoc (take at xs) x (drop b xs))

  pub same_length : length ys ≡ length xs
  same_length =
      let whole : length ys ≡ length (take at xs ++ x) + length (drop b xs) = ap length split ∙ length-append (take at xs ++ x) (drop b xs) in
      omega (arith, whole, head-length, length-drop b xs, put.room)

  pub followed : {c : ℕ} {y zs : List ℕ} → Appended b y ys zs c → Appended at (x ++ y) xs zs c
  followed {c} {y} {zs} more =
      let both : length (x ++ y) ≡ length x + length y = length-append x y in
      let front : take b ys ≡ take at xs ++ x = ap (take b) split ∙ take_at (take at xs ++ x) (drop b xs) b head-length in
      let behind : c ≡ length (take at xs ++ x) + length y = omega (arith, more.next_is, head-length) in
      let there : b + length y ≡ c = sym more.next_is in
      let back : drop c ys ≡ drop c xs
      = ap (drop c) split ∙
      (ap (λ (n : ℕ). drop n ((take at xs ++ x) ++ drop b xs)) behind ∙
      (drop-append-add (take at xs ++ x) (drop b xs) (length y) ∙ (drop-drop (length y) b xs ∙ ap (λ (n : ℕ). drop n xs) there))) in
      record {
        next_is = omega (arith, more.next_is, put.next_is, both);
        room = omega (arith, more.room, same_length);
        after_is =
            more.after_is ∙
            (ap (λ (z : List ℕ). z ++ (y ++ drop c ys)) front ∙
            (ap (λ (z : List ℕ). (take at xs ++ x) ++ (y ++ z)) back ∙
            (append_assoc (take at xs) x (y ++ drop c xs) ∙ ap (λ (z : List ℕ). take at xs ++ z) (sym (append_assoc x y (drop c xs))))));
      }
