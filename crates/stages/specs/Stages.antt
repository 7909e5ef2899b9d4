-- Document 01, "What the calls hand over": the plan "written into a lent list of edge records".
use Rattle.std.specs.Prelude.{◌≡◌, List, [], ◌∷◌, ◌++◌, ℕ, zero, suc, ◌≤◌, length, drop}
use Rattle.model.specs.Tasks.{Edge}
use Rattle.layout.specs.declared.EdgeRecord.{EdgeRecord}
use Rattle.records.specs.Columns.{edge_of, record_of}
use Rattle.stages.specs.declared.StageEdges.{StageEdges}

-- edges as edge records
unfoldable pub records_of : List Edge → List EdgeRecord
records_of [] = []
records_of (e ∷ es) = record_of e ∷ records_of es

-- a lent list with edges written at its front: "elements past the written part hold what they held"
unfoldable pub written_into : List EdgeRecord → List Edge → List EdgeRecord
written_into list es = records_of es ++ drop (length es) list

-- the edges of the first n records of a list
unfoldable pub listed : ℕ → List EdgeRecord → List Edge
listed zero rs = []
listed (suc n) [] = []
listed (suc n) (r ∷ rs) = edge_of r ∷ listed n rs

-- Only for contracts inside: the first records of the list hold these edges.
pub record HeldStage (r : StageEdges) (es : List Edge) : Type 0 where
  pub as_many : r.count ≡ length es
  pub few : r.count ≤ 256
  pub room : length r.edges ≡ 256
  pub held : listed r.count r.edges ≡ es
