-- Every file gets an answer: its refusal is nothing, and the graph or the edges are handed over, or it is that of a fault, which the answer carries.
use Rattle.files.specs.Files.{graph_of, proposal_of}
use Rattle.files.proofs.Faults.{answered, graph_refusal-told, proposal_refusal-told}
use Rattle.readings.specs.Working.{working_graph, working_proposal}
use Rattle.readings.specs.Theorems.{GraphAnswered, ProposalAnswered}

pub graph-answered : GraphAnswered
graph-answered s = answered (working_graph (graph_of s)) (graph_refusal-told s)

pub proposal-answered : ProposalAnswered
proposal-answered n s = answered (working_proposal (proposal_of s)) (proposal_refusal-told n s)
