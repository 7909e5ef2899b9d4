-- A file longer than any that its counts allow is refused by 2 or 3, which its header alone decides, or else by 4; so a front of it that is longer,
-- too, gets the same refusal.
use mathlib.Core.Path.{◌≡◌, refl, sym, ap, ◌∙◌}
use mathlib.Core.Logic.{◌≢◌}
use mathlib.Core.Bool.{Bool, true, false, not, ◌||◌}
use mathlib.Core.List.{List, [], ◌∷◌}
use Prim.Native.Nat.{ℕ, zero, suc, ◌+◌, ◌-◌, ◌*◌, ◌/◌, ◌%◌, ◌^◌, ◌≤◌, ◌<◌}
use native.Mathlib.Omega.{arith}
use lib.Dec.{eqb, ltb}
use lib.ListN.{length, take}
use lib.Seq.{get_or-take, length-take-le}
use borrow.Author.Tests.{ltb-false, lt-ltb, le-ltb}
use Rattle.bits.specs.Bits.{bit_at, field}
use Rattle.layout.specs.declared.GraphHeader.{GraphHeader}
use Rattle.layout.specs.declared.ProposalHeader.{ProposalHeader}
use Rattle.layout.specs.Layout.{graph_header, proposal_header, bytes_for}
use Rattle.files.specs.declared.Refusal.{Refusal}
use Rattle.files.specs.Files.{task_count, edge_count, graph_of, proposal_of, graph_bits, proposal_bits, graph_header_refusal, proposal_header_refusal, length_refusal, filling_refusal, zeros_refusal, header_ends_refusal, graph_frame_refusal, graph_records_refusal, graph_refusal, proposal_frame_refusal, proposed_edges_refusal, proposal_refusal}
use Rattle.files.specs.Refusals.{not_refused, refuse, first}
use Rattle.files.proofs.First.{check-passes, check-stops, no-checks, goes_on, ends_with}
use Rattle.readings.proofs.Passed.{or_left_false, or_right_false}

-- ── A field depends on the bytes that it covers ──

module _ (s : List ℕ) (n : ℕ) where
  bit_kept : (i : ℕ) → i < 8 * n → bit_at (take n s) i ≡ bit_at s i
  unfolding bit_at
  bit_kept i h =
      let inside : i / 8 < n = omega arith in
      ap (λ (b : ℕ). b / 2 ^ (7 - i % 8) % 2) (get_or-take n s (i / 8) 0 inside)

  field-kept : (at width : ℕ) → at + width ≤ 8 * n → field (take n s) at width ≡ field s at width
  unfolding field
  field-kept at zero h = refl
  field-kept at (suc width) h =
      let before : at + width ≤ 8 * n = omega arith in
      let inside : at + width < 8 * n = omega arith in
      λ i. 2 * field-kept at width before i + bit_kept (at + width) inside i

  graph-header-kept : 7 ≤ n → graph_header (take n s) ≡ graph_header s
  unfolding graph_header
  graph-header-kept h =
      λ i.
      record {
        version = field-kept 0 5 (omega arith) i;
        tasks = field-kept 5 7 (omega arith) i;
        edges = field-kept 12 9 (omega arith) i;
        input = field-kept 21 6 (omega arith) i;
        output = field-kept 27 6 (omega arith) i;
        bound = field-kept 33 23 (omega arith) i;
      }

  proposal-header-kept : 2 ≤ n → proposal_header (take n s) ≡ proposal_header s
  unfolding proposal_header
  proposal-header-kept h =
      λ i. record { version = field-kept 0 5 (omega arith) i; edges = field-kept 5 9 (omega arith) i; zeros = field-kept 14 2 (omega arith) i }

-- ── The refusal of a long file ──

-- by its tests of 2 and 3
pub long_refusal : Bool → Bool → Refusal
long_refusal true b = record { number = 2; place = 0 }
long_refusal false true = record { number = 3; place = 0 }
long_refusal false false = record { number = 4; place = 0 }

pub record LongNumber (n : ℕ) : Type 0 where
  pub some : n ≢ 0
  pub small : n ≤ 4

long-number : (b c : Bool) → LongNumber (long_refusal b c).number
unfolding long_refusal
long-number true b = record { some = λ e. omega arith; small = omega arith }
long-number false true = record { some = λ e. omega arith; small = omega arith }
long-number false false = record { some = λ e. omega arith; small = omega arith }

-- the checks of header and length, for a header of so many bytes and so many bits in all
long-frame :
    (s : List ℕ) (head used : ℕ) (b c : Bool) (later : List Refusal) → head ≤ length s → (c ≡ false → bytes_for used < length s) →
    first (first (refuse (ltb (length s) head) 1 0 ∷ refuse b 2 0 ∷ refuse c 3 0 ∷ []) ∷ length_refusal s used ∷ later) ≡ long_refusal b c
unfolding long_refusal length_refusal
long-frame s head used true c later enough long =
    let header : record { number = 2; place = 0 } ≡ first (refuse (ltb (length s) head) 1 0 ∷ refuse true 2 0 ∷ refuse c 3 0 ∷ [])
    = sym (check-passes 1 0 (refuse true 2 0 ∷ refuse c 3 0 ∷ []) (le-ltb (length s) head enough) ∙ check-stops 2 0 (refuse c 3 0 ∷ []) (λ z. omega arith) refl) in
    ends_with (length_refusal s used ∷ later) header (λ z. omega arith)
long-frame s head used false true later enough long =
    let header : record { number = 3; place = 0 } ≡ first (refuse (ltb (length s) head) 1 0 ∷ refuse false 2 0 ∷ refuse true 3 0 ∷ [])
    = sym (check-passes 1 0 (refuse false 2 0 ∷ refuse true 3 0 ∷ []) (le-ltb (length s) head enough) ∙
    (check-passes 2 0 (refuse true 3 0 ∷ []) refl ∙ check-stops 3 0 [] (λ z. omega arith) refl)) in
    ends_with (length_refusal s used ∷ later) header (λ z. omega arith)
long-frame s head used false false later enough long =
    let header : not_refused ≡ first (refuse (ltb (length s) head) 1 0 ∷ refuse false 2 0 ∷ refuse false 3 0 ∷ [])
    = sym (check-passes 1 0 (refuse false 2 0 ∷ refuse false 3 0 ∷ []) (le-ltb (length s) head enough) ∙
    (check-passes 2 0 (refuse false 3 0 ∷ []) refl ∙ (check-passes 3 0 [] refl ∙ no-checks))) in
    let below : bytes_for used < length s = long refl in
    let by_length : record { number = 4; place = 0 } ≡ length_refusal s used
    = sym (check-passes 1 0 (refuse (ltb (bytes_for used) (length s)) 4 0 ∷ []) (le-ltb (length s) (bytes_for used) (omega (arith, below))) ∙
    check-stops 4 0 [] (λ z. omega arith) (lt-ltb (bytes_for used) (length s) below)) in
    goes_on (length_refusal s used ∷ later) header refl ∙ ends_with later by_length (λ z. omega arith)

-- ── Graph files ──

-- the tests of 2 and 3
graph_version : GraphHeader → Bool
graph_version h = not (eqb h.version 1)

graph_counts : GraphHeader → Bool
graph_counts h = ltb h.tasks 2 || ltb 64 h.tasks || ltb 256 h.edges

pub long_graph : GraphHeader → Refusal
long_graph h = long_refusal (graph_version h) (graph_counts h)

pub long-graph-number : (h : GraphHeader) → LongNumber (long_graph h).number
unfolding long_graph
long-graph-number h = long-number (graph_version h) (graph_counts h)

pub long-graph : (s : List ℕ) → 807 < length s → graph_refusal s ≡ long_graph (graph_header s)
unfolding graph_refusal graph_frame_refusal graph_header_refusal graph_bits long_graph graph_version graph_counts
long-graph s h =
    let t = task_count s in
    let e = edge_count s in
    let frame : graph_frame_refusal s ≡ long_graph (graph_header s)
    = long-frame s 7 (graph_bits s) (graph_version (graph_header s)) (graph_counts (graph_header s))
    (filling_refusal s (graph_bits s) ∷ header_ends_refusal s ∷ []) (omega arith)
    (λ counts.
    let few : t ≤ 64 = ltb-false 64 t (or_right_false (ltb t 2) (ltb 64 t) (or_left_false (ltb t 2 || ltb 64 t) (ltb 256 e) counts)) in
    let some : e ≤ 256 = ltb-false 256 e (or_right_false (ltb t 2 || ltb 64 t) (ltb 256 e) counts) in
    omega (arith, few, some, h)) in
    ends_with (graph_records_refusal (graph_of s) ∷ []) (sym frame) (long-graph-number (graph_header s)).some

-- a front that is too long, too
pub graph-front : (s : List ℕ) (n : ℕ) → 807 < n → n ≤ length s → graph_refusal (take n s) ≡ graph_refusal s
graph-front s n h within =
    let long : length (take n s) ≡ n = length-take-le n s within in
    long-graph (take n s) (omega (arith, long, h)) ∙
    (ap long_graph (graph-header-kept s n (omega arith)) ∙ sym (long-graph s (omega arith)))

-- ── Proposal files ──

proposal_version : ProposalHeader → Bool
proposal_version h = not (eqb h.version 1)

pub long_proposal : ProposalHeader → Refusal
long_proposal h = long_refusal (proposal_version h) (ltb 256 h.edges)

pub long-proposal-number : (h : ProposalHeader) → LongNumber (long_proposal h).number
unfolding long_proposal
long-proposal-number h = long-number (proposal_version h) (ltb 256 h.edges)

pub long-proposal : (tasks : ℕ) (s : List ℕ) → 642 < length s → proposal_refusal tasks s ≡ long_proposal (proposal_header s)
unfolding proposal_refusal proposal_frame_refusal proposal_header_refusal proposal_bits long_proposal proposal_version
long-proposal tasks s h =
    let frame : proposal_frame_refusal s ≡ long_proposal (proposal_header s)
    = long-frame s 2 (proposal_bits s) (proposal_version (proposal_header s)) (ltb 256 (proposal_header s).edges)
    (zeros_refusal s ∷ filling_refusal s (proposal_bits s) ∷ []) (omega arith)
    (λ counts. let few : (proposal_header s).edges ≤ 256 = ltb-false 256 (proposal_header s).edges counts in omega (arith, few, h)) in
    ends_with (proposed_edges_refusal tasks (proposal_of s) ∷ []) (sym frame) (long-proposal-number (proposal_header s)).some

pub proposal-front : (tasks : ℕ) (s : List ℕ) (n : ℕ) → 642 < n → n ≤ length s → proposal_refusal tasks (take n s) ≡ proposal_refusal tasks s
proposal-front tasks s n h within =
    let long : length (take n s) ≡ n = length-take-le n s within in
    long-proposal tasks (take n s) (omega (arith, long, h)) ∙
    (ap long_proposal (proposal-header-kept s n (omega arith)) ∙ sym (long-proposal tasks s (omega arith)))
