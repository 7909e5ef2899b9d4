-- Each refusal of a file is nothing or that of a fault, so a result exists that carries it: shown of each single check, which has its fault, then of the
-- first of several, which is one of them or nothing.
use mathlib.Core.Path.{◌≡◌, refl, sym, subst}
use mathlib.Core.Logic.{◌⊎◌, inl, inr, ◌≢◌}
use mathlib.Core.Bool.{Bool, true, false}
use mathlib.Core.List.{List, [], ◌∷◌, ◌++◌}
use Prim.Native.Nat.{ℕ, zero, suc}
use Rattle.std.proofs.Common.{Result, Ok, Err}
use Rattle.model.specs.Lists.{tabulate}
use Rattle.model.specs.Tasks.{Task, Edge}
use Rattle.model.specs.Graph.{Graph}
use Rattle.files.specs.declared.Fault.{Fault}
use Rattle.files.specs.declared.Fault.TheVariants.{FewerBytes, OtherVersion, CountOutside, MoreBytes, FillingBit, TimeOfZero, EndOutside, HeaderOutside, WithinProcessor, RepeatedEdge}
use Rattle.files.specs.declared.Refusal.{Refusal}
use Rattle.files.specs.Refusals.{not_refused, refusal_of, Gives, refuse, first}
use Rattle.files.specs.Files.{graph_of, proposal_of, time_refusal, ends_refusal, edge_refusal, repeat_refusal, first_of, graph_header_refusal, proposal_header_refusal, length_refusal, filling_refusal, zeros_refusal, header_ends_refusal, graph_frame_refusal, graph_records_refusal, graph_refusal, proposal_frame_refusal, proposed_edges_refusal, proposal_refusal}
use Rattle.files.proofs.First.{refused, not-refused, passes, stops, no-checks, zero_or_not, passed-all, stopped-before}

-- a refusal that a result can carry
pub data Told (q : Refusal) : Type 0 where
  nothing : q ≡ not_refused → Told q
  of_fault : (fault : Fault) → refusal_of fault ≡ q → Told q

pub answered : {A : Type 0} {q : Refusal} (value : A) → Told q → (r : Result A Fault) × Gives r q value
answered value (nothing is) = (Ok value, record { refusal = sym is; value = refl })
answered value (of_fault fault is) = (Err fault, record { refusal = is; value = tt })

-- ── One check, and the first of several ──

pub check-told : (b : Bool) (fault : Fault) → Told (refuse b (refusal_of fault).number (refusal_of fault).place)
check-told true fault = of_fault fault (sym (refused (refusal_of fault).number (refusal_of fault).place refl))
check-told false fault = nothing (not-refused (refusal_of fault).number (refusal_of fault).place refl)

-- each refusal of a list is one
abbrev pub EachTold : List Refusal → Type 0
EachTold [] = Unit {0}
EachTold (r ∷ rs) = Told r × EachTold rs

pub first-told : (rs : List Refusal) → EachTold rs → Told (first rs)
first-told [] each = nothing no-checks
first-told (r ∷ rs) each = go (zero_or_not r.number) (first-told rs each.1)
  where
    go : (r.number ≡ 0) ⊎ (r.number ≢ 0) → Told (first rs) → Told (first (r ∷ rs))
    go (inl none) later = subst Told (sym (passes r rs none)) later
    go (inr some) later = subst Told (sym (stops r rs some)) each.0

pub places-told : (n : ℕ) (f : ℕ → Refusal) → ((i : ℕ) → Told (f i)) → Told (first_of n f)
unfolding first_of tabulate
places-told zero f each = first-told [] tt
places-told (suc n) f each = go (zero_or_not (first_of n f).number) (places-told n f each)
  where
    go : ((first_of n f).number ≡ 0) ⊎ ((first_of n f).number ≢ 0) → Told (first_of n f) → Told (first (tabulate n f ++ (f n ∷ [])))
    go (inl none) before = subst Told (sym (passed-all (tabulate n f) (f n ∷ []) none)) (first-told (f n ∷ []) (each n, tt))
    go (inr some) before = subst Told (sym (stopped-before (tabulate n f) (f n ∷ []) some)) before

-- ── The refusals of files ──

times-told : (n : ℕ) (g : Graph) → Told (first_of n (time_refusal g))
unfolding time_refusal
times-told n g = places-told n (time_refusal g) (λ v. check-told _ (TimeOfZero v))

ends-told : (n : ℕ) (es : List Edge) (j : ℕ) → Told (ends_refusal n es j)
unfolding ends_refusal
ends-told n es j = check-told _ (EndOutside (suc j))

edge-told : (ts : List Task) (es : List Edge) (j : ℕ) → Told (edge_refusal ts es j)
unfolding edge_refusal
edge-told ts es j = first-told _ (ends-told _ es j, (check-told _ (WithinProcessor (suc j)), tt))

repeats-told : (n : ℕ) (es : List Edge) → Told (first_of n (repeat_refusal es))
unfolding repeat_refusal
repeats-told n es = places-told n (repeat_refusal es) (λ j. check-told _ (RepeatedEdge (suc j)))

length-told : (s : List ℕ) (used : ℕ) → Told (length_refusal s used)
unfolding length_refusal
length-told s used = first-told _ (check-told _ FewerBytes, (check-told _ MoreBytes, tt))

filling-told : (s : List ℕ) (used : ℕ) → Told (filling_refusal s used)
unfolding filling_refusal
filling-told s used = check-told _ FillingBit

pub graph_refusal-told : (s : List ℕ) → Told (graph_refusal s)
unfolding graph_refusal graph_frame_refusal graph_header_refusal header_ends_refusal graph_records_refusal
graph_refusal-told s = first-told _ (frame, (records, tt))
  where
    header : Told (graph_header_refusal s)
    header = first-told _ (check-told _ FewerBytes, (check-told _ OtherVersion, (check-told _ CountOutside, tt)))

    frame : Told (graph_frame_refusal s)
    frame = first-told _ (header, (length-told s _, (filling-told s _, (check-told _ HeaderOutside, tt))))

    records : Told (graph_records_refusal (graph_of s))
    records = first-told _ (times-told _ (graph_of s), (places-told _ _ (edge-told _ _), (repeats-told _ _, tt)))

pub proposal_refusal-told : (n : ℕ) (s : List ℕ) → Told (proposal_refusal n s)
unfolding proposal_refusal proposal_frame_refusal proposal_header_refusal zeros_refusal proposed_edges_refusal
proposal_refusal-told n s = first-told _ (frame, (edges, tt))
  where
    header : Told (proposal_header_refusal s)
    header = first-told _ (check-told _ FewerBytes, (check-told _ OtherVersion, (check-told _ CountOutside, tt)))

    frame : Told (proposal_frame_refusal s)
    frame = first-told _ (header, (length-told s _, (check-told _ FillingBit, (filling-told s _, tt))))

    edges : Told (proposed_edges_refusal n (proposal_of s))
    edges = first-told _ (places-told _ _ (ends-told n _), (repeats-told _ _, tt))
