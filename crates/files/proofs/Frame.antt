-- What the checks of header, length and filling say: each test is true or false by an order of two numbers, and the first that is true decides.
use mathlib.Core.Path.{◌≡◌, sym, ap, ◌∙◌}
use mathlib.Core.Logic.{◌⊎◌, inl, inr, ◌≢◌}
use mathlib.Core.Bool.{Bool, true, false, not, ◌||◌}
use mathlib.Core.List.{List, [], ◌∷◌}
use Prim.Native.Nat.{ℕ, ◌+◌, ◌*◌, ◌≤◌, ◌<◌}
use native.Mathlib.Omega.{arith}
use lib.Dec.{eqb, ltb}
use lib.ListN.{length}
use borrow.Author.Tests.{lt-ltb, le-ltb, eq-eqb, ne_eqb}
use Rattle.bits.proofs.Laws.{field_below}
use Rattle.model.proofs.Basics.{order}
use Rattle.layout.specs.Layout.{graph_header, proposal_header, bytes_for, filling}
use Rattle.layout.specs.declared.GraphHeader.{GraphHeader}
use Rattle.layout.specs.declared.ProposalHeader.{ProposalHeader}
use Rattle.files.specs.declared.Refusal.{Refusal}
use Rattle.files.specs.Refusals.{not_refused, refuse, first}
use Rattle.files.specs.Files.{graph_bits, proposal_bits, graph_header_refusal, proposal_header_refusal, length_refusal, filling_refusal, zeros_refusal, header_ends_refusal}
use Rattle.files.proofs.First.{refused, not-refused, check-passes, check-stops, no-checks, number_same}
use Rattle.files.proofs.Single.{refusal, or-true}

is-not : (n : ℕ) → n ≢ 1 → not (eqb n 1) ≡ true
is-not n differ = ap not (ne_eqb n 1 differ)

is_one : (n : ℕ) → n ≡ 1 → not (eqb n 1) ≡ false
is_one n same = ap not (eq-eqb n 1 same)

pub some-bit : (n : ℕ) → n ≢ 0 → not (eqb n 0) ≡ true
some-bit n some = ap not (ne_eqb n 0 some)

pub no-bit : (n : ℕ) → n ≡ 0 → not (eqb n 0) ≡ false
no-bit n none = ap not (eq-eqb n 0 none)

-- tasks outside 2 to 64, or edges over 256
abbrev pub counts_outside : ℕ → ℕ → Bool
counts_outside tasks edges = ltb tasks 2 || ltb 64 tasks || ltb 256 edges

pub too-few-tasks : (t e : ℕ) → t < 2 → counts_outside t e ≡ true
too-few-tasks t e l = ap (λ (b : Bool). b || ltb 64 t || ltb 256 e) (lt-ltb t 2 l)

pub too-many-tasks : (t e : ℕ) → 64 < t → counts_outside t e ≡ true
too-many-tasks t e l = ap (λ (b : Bool). b || ltb 256 e) (or-true (ltb t 2) (lt-ltb 64 t l))

pub too-many-edges : (t e : ℕ) → 256 < e → counts_outside t e ≡ true
too-many-edges t e l = or-true (ltb t 2 || ltb 64 t) (lt-ltb 256 e l)

pub counts-inside : (t e : ℕ) → 2 ≤ t → t ≤ 64 → e ≤ 256 → counts_outside t e ≡ false
counts-inside t e l m k =
    ap (λ (b : Bool). b || ltb 64 t || ltb 256 e) (le-ltb t 2 l) ∙ (ap (λ (b : Bool). b || ltb 256 e) (le-ltb 64 t m) ∙ le-ltb 256 e k)

module _ (s : List ℕ) {h : GraphHeader} (is : h ≡ graph_header s) where
  version_of : h.version ≡ (graph_header s).version
  version_of = ap (λ (x : GraphHeader). x.version) is

  pub graph-short : length s < 7 → graph_header_refusal s ≡ refusal 1 0
  unfolding graph_header_refusal
  graph-short short = check-stops 1 0 _ (λ z. omega arith) (lt-ltb (length s) 7 short)

  module _ (long : 7 ≤ length s) where
    pub graph-version : h.version ≢ 1 → graph_header_refusal s ≡ refusal 2 0
    unfolding graph_header_refusal
    graph-version other =
        check-passes 1 0 _ (le-ltb (length s) 7 long) ∙
        check-stops 2 0 _ (λ z. omega arith) (is-not (graph_header s).version (λ e. other (version_of ∙ e)))

    pub graph-counts : h.version ≡ 1 → counts_outside h.tasks h.edges ≡ true → graph_header_refusal s ≡ refusal 3 0
    unfolding graph_header_refusal
    graph-counts one out =
        check-passes 1 0 _ (le-ltb (length s) 7 long) ∙
        (check-passes 2 0 _ (is_one (graph_header s).version (sym version_of ∙ one)) ∙
        check-stops 3 0 _ (λ z. omega arith) (ap (λ (x : GraphHeader). counts_outside x.tasks x.edges) (sym is) ∙ out))

    pub graph_passes : h.version ≡ 1 → counts_outside h.tasks h.edges ≡ false → graph_header_refusal s ≡ not_refused
    unfolding graph_header_refusal
    graph_passes one inside =
        check-passes 1 0 _ (le-ltb (length s) 7 long) ∙
        (check-passes 2 0 _ (is_one (graph_header s).version (sym version_of ∙ one)) ∙
        (check-passes 3 0 _ (ap (λ (x : GraphHeader). counts_outside x.tasks x.edges) (sym is) ∙ inside) ∙ no-checks))

module _ (s : List ℕ) {h : ProposalHeader} (is : h ≡ proposal_header s) where
  pub proposal-short : length s < 2 → proposal_header_refusal s ≡ refusal 1 0
  unfolding proposal_header_refusal
  proposal-short short = check-stops 1 0 _ (λ z. omega arith) (lt-ltb (length s) 2 short)

  module _ (long : 2 ≤ length s) where
    pub proposal-version : h.version ≢ 1 → proposal_header_refusal s ≡ refusal 2 0
    unfolding proposal_header_refusal
    proposal-version other =
        check-passes 1 0 _ (le-ltb (length s) 2 long) ∙
        check-stops 2 0 _ (λ z. omega arith) (is-not (proposal_header s).version (λ e. other (ap (λ (x : ProposalHeader). x.version) is ∙ e)))

    module _ (one : h.version ≡ 1) where
      both : {r : Refusal} → first (refuse (ltb 256 (proposal_header s).edges) 3 0 ∷ []) ≡ r → proposal_header_refusal s ≡ r
      unfolding proposal_header_refusal
      both rest =
          check-passes 1 0 _ (le-ltb (length s) 2 long) ∙
          (check-passes 2 0 _ (is_one (proposal_header s).version (ap (λ (x : ProposalHeader). x.version) (sym is) ∙ one)) ∙ rest)

      pub proposal-edges : 256 < h.edges → proposal_header_refusal s ≡ refusal 3 0
      proposal-edges many =
          both (check-stops 3 0 [] (λ z. omega arith) (ap (λ (x : ProposalHeader). ltb 256 x.edges) (sym is) ∙ lt-ltb 256 h.edges many))

      pub proposal_passes : h.edges ≤ 256 → proposal_header_refusal s ≡ not_refused
      proposal_passes few =
          both (check-passes 3 0 [] (ap (λ (x : ProposalHeader). ltb 256 x.edges) (sym is) ∙ le-ltb 256 h.edges few) ∙ no-checks)

  pub zeros-stop : h.zeros ≢ 0 → zeros_refusal s ≡ refusal 4 0
  unfolding zeros_refusal
  zeros-stop some = refused 4 0 (ap (λ (x : ProposalHeader). not (eqb x.zeros 0)) (sym is) ∙ some-bit h.zeros some)

  pub zeros-pass : h.zeros ≡ 0 → zeros_refusal s ≡ not_refused
  unfolding zeros_refusal
  zeros-pass none = not-refused 4 0 (ap (λ (x : ProposalHeader). not (eqb x.zeros 0)) (sym is) ∙ no-bit h.zeros none)

module _ (s : List ℕ) (used : ℕ) where
  pub too_short : length s < bytes_for used → length_refusal s used ≡ refusal 1 0
  unfolding length_refusal
  too_short short = check-stops 1 0 _ (λ z. omega arith) (lt-ltb (length s) (bytes_for used) short)

  pub too_long : bytes_for used < length s → length_refusal s used ≡ refusal 4 0
  unfolding length_refusal
  too_long long =
      check-passes 1 0 _ (le-ltb (length s) (bytes_for used) (omega arith)) ∙
      check-stops 4 0 _ (λ z. omega arith) (lt-ltb (bytes_for used) (length s) long)

  pub length-passes : length s ≡ bytes_for used → length_refusal s used ≡ not_refused
  unfolding length_refusal
  length-passes same =
      check-passes 1 0 _ (le-ltb (length s) (bytes_for used) (omega arith)) ∙
      (check-passes 4 0 _ (le-ltb (bytes_for used) (length s) (omega arith)) ∙ no-checks)

  pub filling-stops : filling s used ≢ 0 → filling_refusal s used ≡ refusal 4 0
  unfolding filling_refusal
  filling-stops some = refused 4 0 (some-bit (filling s used) some)

  pub filling-passes : filling s used ≡ 0 → filling_refusal s used ≡ not_refused
  unfolding filling_refusal
  filling-passes none = not-refused 4 0 (no-bit (filling s used) none)

-- latency input or output not below the number of tasks
abbrev pub header_outside : GraphHeader → Bool
header_outside h = not (ltb h.input h.tasks) || not (ltb h.output h.tasks)

module _ (s : List ℕ) {h : GraphHeader} (is : h ≡ graph_header s) where
  pub input-stops : h.tasks ≤ h.input → header_ends_refusal s ≡ refusal 6 0
  unfolding header_ends_refusal
  input-stops out =
      refused 6 0
      (ap header_outside (sym is) ∙ ap (λ (b : Bool). not b || not (ltb h.output h.tasks)) (le-ltb h.input h.tasks out))

  pub output-stops : h.tasks ≤ h.output → header_ends_refusal s ≡ refusal 6 0
  unfolding header_ends_refusal
  output-stops out =
      refused 6 0
      (ap header_outside (sym is) ∙ or-true (not (ltb h.input h.tasks)) (ap not (le-ltb h.output h.tasks out)))

  pub header-ends-pass : h.input < h.tasks → h.output < h.tasks → header_ends_refusal s ≡ not_refused
  unfolding header_ends_refusal
  header-ends-pass i o =
      not-refused 6 0
      (ap header_outside (sym is) ∙
      (ap (λ (b : Bool). not b || not (ltb h.output h.tasks)) (lt-ltb h.input h.tasks i) ∙ ap not (lt-ltb h.output h.tasks o)))

-- ── What is known once the checks pass ──

-- a file whose length is not refused has as many bytes as its counts need
pub length-exact : (s : List ℕ) (used : ℕ) → (length_refusal s used).number ≡ 0 → length s ≡ bytes_for used
length-exact s used passed = go (order (length s) (bytes_for used)) (order (bytes_for used) (length s))
  where
    go : (length s ≤ bytes_for used) ⊎ (bytes_for used < length s) → (bytes_for used ≤ length s) ⊎ (length s < bytes_for used) → length s ≡ bytes_for used
    go (inl a) (inl b) = omega arith
    go (inr l) b =
        let bad : ◌≡◌ {A = ℕ} 4 0 = number_same (sym (too_long s used l)) ∙ passed in
        absurd (omega arith)
    go (inl a) (inr l) =
        let bad : ◌≡◌ {A = ℕ} 1 0 = number_same (sym (too_short s used l)) ∙ passed in
        absurd (omega arith)

-- counts of 7 and 9 bits ask for few bits in all, whatever they are
pub graph-bits-few : (s : List ℕ) → graph_bits s ≤ 65536
unfolding graph_bits graph_header
graph-bits-few s = omega (arith, field_below s 5 7, field_below s 12 9)

pub proposal-bits-few : (s : List ℕ) → proposal_bits s ≤ 65536
unfolding proposal_bits proposal_header
proposal-bits-few s = omega (arith, field_below s 5 9)

pub graph-bits-are : (s : List ℕ) {h : GraphHeader} → h ≡ graph_header s → 56 + 20 * (h.tasks + h.edges) ≡ graph_bits s
unfolding graph_bits
graph-bits-are s is = ap (λ (x : GraphHeader). 56 + 20 * (x.tasks + x.edges)) is

pub proposal-bits-are : (s : List ℕ) {h : ProposalHeader} → h ≡ proposal_header s → 16 + 20 * h.edges ≡ proposal_bits s
unfolding proposal_bits
proposal-bits-are s is = ap (λ (x : ProposalHeader). 16 + 20 * x.edges) is
