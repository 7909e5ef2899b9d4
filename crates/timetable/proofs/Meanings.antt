-- What the starts are: the computed starts are the earliest run of an accepted file, and there is one such run only.
use mathlib.Core.Path.{◌≡◌, ◌∙◌, ap}
use mathlib.Core.List.{List}
use Prim.Native.Nat.{ℕ, suc, ◌-◌}
use native.Mathlib.Omega.{arith}
use lib.ListN.{length}
use Rattle.model.specs.Graph.{count, edges, time_of}
use Rattle.model.specs.Runs.{estimates, Earliest}
use Rattle.model.specs.Compute.{earliest}
use Rattle.model.proofs.Theorems.{earliest-run, earliest-unique}
use Rattle.files.specs.Files.{graph_of}
use Rattle.acceptance.specs.Outcomes.{tasks_of}
use Rattle.acceptance.specs.Theorems.{AcceptedFile}
use Rattle.acceptance.proofs.AcceptedFiles.{accepted, between-tasks}
use Rattle.timetable.specs.Theorems.{TimetableMean, TimetableRuns}
use Rattle.timetable.proofs.Given.{timetable_given}
use Rattle.timetable.proofs.Lists.{starts-at}

-- the computed starts are the earliest run of an accepted file
run :
    (s : List ℕ) (turns : ℕ) → AcceptedFile s →
    Earliest (tasks_of s) (edges (graph_of s)) turns (earliest (tasks_of s) (edges (graph_of s)) (estimates (time_of (graph_of s)))) (estimates (time_of (graph_of s)))
unfolding tasks_of
run s turns accepted =
    let g = graph_of s in
    earliest-run (count g) (edges g) (between-tasks s accepted) accepted.1.no_zero_cycle turns (estimates (time_of g))
    (λ v k l one most. (accepted.1.formed.times v l).0)

pub timetable-runs : TimetableRuns
timetable-runs s turns accepted = (earliest (tasks_of s) (edges (graph_of s)) (estimates (time_of (graph_of s))), run s turns accepted)

pub timetable-mean : TimetableMean
timetable-mean s turns starts none start fastest v k l one most =
    let n = tasks_of s in
    let es = edges (graph_of s) in
    let dur = estimates (time_of (graph_of s)) in
    let turn : suc (k - 1) ≡ k = omega arith in
    let accepted = ((timetable_given s turns (length starts)).0 none).2 in
    starts-at s turns starts none v (k - 1) l (omega arith) ∙
    (ap (λ (j : ℕ). earliest n es dur v j) turn ∙ earliest-unique n es turns (earliest n es dur) start dur (run s turns accepted) fastest v k l one most)
