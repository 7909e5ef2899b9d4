-- Document 01, "Who caused a refusal": what a call says of a refusal, and refusal 16.
use Rattle.std.specs.Prelude.{List, ℕ, ltb, pos}
use Rattle.model.specs.Graph.{count}
use Rattle.files.specs.declared.Refusal.{Refusal}
use Rattle.files.specs.Files.{graph_of}
use Rattle.files.specs.Refusals.{refuse}
use Rattle.acceptance.specs.declared.Outcome.{Outcome}

-- "A refusal returns number, place, latency and margin. Place, latency and margin are 0 unless named below." Only 15 names latency and margin.
unfoldable pub outcome : Refusal → Outcome
outcome r = record { number = r.number; place = r.place; latency = 0; margin = pos 0 }

-- "16: a lent list too short"
unfoldable pub room_refusal : ℕ → ℕ → Refusal
room_refusal needed room = refuse (ltb room needed) 16 0

-- how many tasks the graph of a file has
unfoldable pub tasks_of : List ℕ → ℕ
tasks_of s = count (graph_of s)
