-- What is put into a list of zeros is a text; the lines by the numbers of the outcomes; the lent front of a list of places.
use mathlib.Core.Path.{◌≡◌, sym, ap, ◌∙◌, subst}
use mathlib.Core.Logic.{◌≢◌}
use mathlib.Core.List.{List, ◌++◌, append_assoc}
use Prim.Native.Nat.{ℕ, ◌+◌, ◌-◌, ◌≤◌}
use native.Mathlib.Nat.{zero-add}
use native.Mathlib.Omega.{arith}
use lib.ListN.{length, take, drop, replicate, length-append, length-replicate, replicate-append-replicate}
use lib.Seq.{take_at, drop_at, length-take-le}
use Rattle.files.proofs.First.{if-passed, if-refused}
use Rattle.text.specs.Text.{Appended}
use Rattle.marks.specs.declared.Marks.{Marks}
use Rattle.marks.specs.declared.Places.{Places}
use Rattle.marks.specs.Marks.{mark_at, set_below, places_below, places_of}
use Rattle.marks.proofs.Laws.{set-below-le}
use Rattle.marks.proofs.Listed.{places_counted}
use Rattle.figures.specs.declared.GraphFigures.{GraphFigures}
use Rattle.figures.specs.Figures.{figures_of}
use Rattle.redundant.specs.declared.RedundantSet.{RedundantSet}
use Rattle.redundant.specs.Redundant.{redundant_of}
use Rattle.verdict.specs.declared.ProposalVerdict.{ProposalVerdict}
use Rattle.verdict.specs.Verdict.{verdict_of}
use Rattle.report.specs.declared.Text.{Text}
use Rattle.report.specs.Report.{graph_line, redundant_line, accepted_line, refused_line, verdict_line, printed, text_of, report_of}

-- ── A text ──

drop-zeros : (n m : ℕ) → n ≤ m → drop {A = ℕ} n (replicate m 0) ≡ replicate (m - n) 0
drop-zeros n m h =
    let split : n + (m - n) ≡ m = omega arith in
    ap (λ (k : ℕ). drop {A = ℕ} n (replicate k 0)) (sym split) ∙
    (ap (drop {A = ℕ} n) (sym (replicate-append-replicate n (m - n) 0)) ∙
    drop_at (replicate n 0) (replicate (m - n) 0) n (length-replicate n 0))

pub text-whole :
    {bytes after : List ℕ} {next : ℕ} → Appended 0 bytes (replicate 1024 0) after next → record { length = next; bytes = after } ≡ text_of bytes
unfolding text_of
text-whole {bytes} {after} {next} put =
    let long : next ≡ length bytes = put.next_is ∙ zero-add (length bytes) in
    let rest : drop next (replicate 1024 0) ≡ replicate (1024 - next) 0
    = drop-zeros next 1024 (omega (arith, put.room, length-replicate {A = ℕ} 1024 0)) in
    let is : after ≡ bytes ++ replicate (1024 - length bytes) 0
    = put.after_is ∙
    (ap (λ (z : List ℕ). bytes ++ z) rest ∙ ap (λ (n : ℕ). bytes ++ replicate (1024 - n) 0) long) in
    λ i. record { length = long i; bytes = is i }

-- a text's bytes are at the front of its list
pub text-within : (bytes : List ℕ) → (text_of bytes).length ≤ length (text_of bytes).bytes
unfolding text_of
text-within bytes = omega (arith, length-append bytes (replicate (1024 - length bytes) 0))

pub reported-within : (s p : List ℕ) {text : Text} → text ≡ report_of s p → text.length ≤ length text.bytes
unfolding report_of
reported-within s p is = subst (λ (t : Text). t.length ≤ length t.bytes) (sym is) (text-within (printed (figures_of s) (redundant_of s) (verdict_of s p)))

pub reported-counted : (s p : List ℕ) {text : Text} → text ≡ report_of s p → text.length ≡ length (take text.length text.bytes)
reported-counted s p {text} is = sym (length-take-le text.length text.bytes (reported-within s p is))

-- ── Which lines ──

pub verdict-accepted : (v : ProposalVerdict) → v.outcome.number ≡ 0 → accepted_line v ≡ verdict_line v
unfolding verdict_line
verdict-accepted v h = sym (if-passed v.outcome.number (accepted_line v) (refused_line v.outcome) h)

pub verdict_refused : (v : ProposalVerdict) → v.outcome.number ≢ 0 → refused_line v.outcome ≡ verdict_line v
unfolding verdict_line
verdict_refused v h = sym (if-refused v.outcome.number (accepted_line v) (refused_line v.outcome) h)

module _ (f : GraphFigures) (set : RedundantSet) (v : ProposalVerdict) where
  pub printed-refused : f.outcome.number ≢ 0 → refused_line f.outcome ≡ printed f set v
  unfolding printed
  printed-refused h =
      sym (if-refused f.outcome.number (graph_line f ++ (redundant_line set ++ verdict_line v)) (refused_line f.outcome) h)

  pub printed-lines : f.outcome.number ≡ 0 → (graph_line f ++ redundant_line set) ++ verdict_line v ≡ printed f set v
  unfolding printed
  printed-lines h =
      append_assoc (graph_line f) (redundant_line set) (verdict_line v) ∙
      sym (if-passed f.outcome.number (graph_line f ++ (redundant_line set ++ verdict_line v)) (refused_line f.outcome) h)

  pub whole_length :
      f.outcome.number ≡ 0 → length (printed f set v) ≡ length (graph_line f) + length (redundant_line set) + length (verdict_line v)
  whole_length h =
      ap length (sym (printed-lines h)) ∙
      (length-append (graph_line f ++ redundant_line set) (verdict_line v) ∙
      ap (λ (n : ℕ). n + length (verdict_line v)) (length-append (graph_line f) (redundant_line set)))

-- ── Places ──

module _ (m : Marks) (r : Places) (is : r ≡ places_of (mark_at m)) where
  count-is : r.count ≡ length (places_below 256 (mark_at m))
  unfolding places_of
  count-is = ap (λ (x : Places). x.count) is ∙ sym (places_counted 256 (mark_at m))

  list-is : r.place ≡ places_below 256 (mark_at m) ++ replicate (256 - set_below 256 (mark_at m)) 0
  unfolding places_of
  list-is = ap (λ (x : Places). x.place) is

  pub places_within : r.count ≤ 256
  unfolding places_of
  places_within =
      let same = ap (λ (x : Places). x.count) is in
      omega (arith, same, set-below-le 256 (mark_at m))

  -- the front of the list, as it is lent
  pub places-front : take r.count r.place ≡ places_below 256 (mark_at m)
  places-front =
      ap (take r.count) list-is ∙ take_at (places_below 256 (mark_at m)) (replicate (256 - set_below 256 (mark_at m)) 0) r.count (sym count-is)
