-- What a reader must believe: Tasks, Graph, Paths, Runs, Proposals, Plan, and those functions of Lists that its head names. What is proved of it: Theorems.
-- The example desk: Example. What only computes, and is proved to be what the others mean: Processors, Compute.
pub mod Lists
pub mod Tasks
pub mod Processors
pub mod Graph
pub mod Paths
pub mod Runs
pub mod Compute
pub mod Proposals
pub mod Plan
pub mod Theorems
pub mod PlanTheorems
pub mod Example
