-- Document 01, "Who caused a refusal": 13 to 15, "Whoever made the proposal", of a graph and proposed edges, wherever they came from.
use Rattle.std.specs.Prelude.{◌≡◌, Bool, not, ◌||◌, List, [], ◌∷◌, ℕ, suc, eqb, ltb, length, Result, Ok, Err}
use Rattle.model.specs.Lists.{counted}
use Rattle.model.specs.Tasks.{Edge}
use Rattle.model.specs.Graph.{Graph, count, edges}
use Rattle.model.specs.Paths.{sync_at}
use Rattle.model.specs.Compute.{on_cycle, order_holds, latency_of}
use Rattle.model.specs.Proposals.{result}
use Rattle.files.specs.declared.Fault.{Fault}
use Rattle.files.specs.declared.Fault.TheVariants.{FewerBytes, OtherVersion, CountOutside, MoreBytes, FillingBit, TimeOfZero, EndOutside, HeaderOutside, WithinProcessor, RepeatedEdge, ZeroCycle, InputWaits, NotJoined, BoundBelow, OnCycle, LostOrder, Late, ShortList, TurnsOutside}
use Rattle.files.specs.declared.Refusal.{Refusal}
use Rattle.files.specs.Files.{edge_in, first_of}
use Rattle.files.specs.Refusals.{refusal_in, refuse, first}

-- "13: a proposed edge on a cycle": of the result; with 02 (iv) its place is that of "the earliest proposed edge that lies on a cycle of the result"
unfoldable pub cycle_refusal : Graph → List Edge → ℕ → Refusal
cycle_refusal g proposed j = refuse (on_cycle (count g) (edges (result g proposed)) (edge_in proposed j)) 13 (suc j)

-- "14: an original order lost; place is the first such graph edge."
unfoldable pub lost_refusal : Graph → List Edge → ℕ → Refusal
lost_refusal g proposed j = refuse (not (order_holds (count g) (edges (result g proposed)) (sync_at g j))) 14 (suc j)

-- "13, 14, 15": which of them proposed edges get
unfoldable pub judged_refusal : Graph → List Edge → Refusal
judged_refusal g proposed =
    first
    (first_of (length proposed) (cycle_refusal g proposed)
    ∷ first_of (length g.syncs) (lost_refusal g proposed)
    ∷ refuse (ltb g.bound (latency_of (result g proposed))) 15 0
    ∷ [])

-- the numbers that come with the result's latency: 0, "accepted", and 15, "late"
unfoldable pub tells_latency : ℕ → Bool
tells_latency number = eqb number 0 || eqb number 15

-- A judgement: the refusal, and the result's latency if the proposed edges are accepted or late, 0 otherwise.
pub record Judgement : Type 0 where
  pub refusal : Refusal
  pub latency : ℕ

-- the judgement of proposed edges: the refusal, and the result's latency where it is told
unfoldable pub judgement : Graph → List Edge → Judgement
judgement g proposed = record {
  refusal = judged_refusal g proposed;
  latency = counted (tells_latency (judged_refusal g proposed).number) (latency_of (result g proposed));
}

-- the latency that an answer tells: that of what is accepted, or late
abbrev pub latency_told : Result ℕ Fault → ℕ
latency_told (Ok latency) = latency
latency_told (Err FewerBytes) = 0
latency_told (Err OtherVersion) = 0
latency_told (Err CountOutside) = 0
latency_told (Err MoreBytes) = 0
latency_told (Err FillingBit) = 0
latency_told (Err (TimeOfZero task)) = 0
latency_told (Err (EndOutside edge)) = 0
latency_told (Err HeaderOutside) = 0
latency_told (Err (WithinProcessor edge)) = 0
latency_told (Err (RepeatedEdge edge)) = 0
latency_told (Err ZeroCycle) = 0
latency_told (Err InputWaits) = 0
latency_told (Err NotJoined) = 0
latency_told (Err BoundBelow) = 0
latency_told (Err (OnCycle edge)) = 0
latency_told (Err (LostOrder edge)) = 0
latency_told (Err (Late latency)) = latency
latency_told (Err ShortList) = 0
latency_told (Err TurnsOutside) = 0

-- An answer tells a judgement: its refusal, and its latency.
pub record Judges (answer : Result ℕ Fault) (j : Judgement) : Type 0 where
  pub refusal : refusal_in answer ≡ j.refusal
  pub latency : latency_told answer ≡ j.latency
