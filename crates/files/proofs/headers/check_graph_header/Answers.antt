-- `files::headers::check_graph_header` meets its contract: at each return the tests before it passed, and the one that led there decides.
use mathlib.Core.Path.{sym}
use native.Mathlib.Omega.{arith}
use Rattle.files.proofs.Frame.{graph-short, graph-version, graph-counts, graph_passes, too-few-tasks, too-many-tasks, too-many-edges, counts-inside}
use Rattle.files.proofs.headers.check_graph_header.Goals as goal

pub returns-then-bytes-lt7 : goal.returns-then-bytes-lt7
returns-then-bytes-lt7 c = sym (graph-short _ c.requires (omega (arith, c.if-bytes-lt7.true)))

pub returns-then-header-ne1 : goal.returns-then-header-ne1
returns-then-header-ne1 c = sym (graph-version _ c.requires (omega (arith, c.if-bytes-lt7.false)) c.if-header-ne1.true)

pub returns-then-header-lt2 : goal.returns-then-header-lt2
returns-then-header-lt2 c =
    let h = c.args.header in
    sym
    (graph-counts _ c.requires (omega (arith, c.if-bytes-lt7.false)) c.if-header-ne1.false
    (too-few-tasks h.tasks h.edges (omega (arith, c.if-header-lt2.true))))

pub returns-then-header-gt64 : goal.returns-then-header-gt64
returns-then-header-gt64 c =
    let h = c.args.header in
    sym
    (graph-counts _ c.requires (omega (arith, c.if-bytes-lt7.false)) c.if-header-ne1.false
    (too-many-tasks h.tasks h.edges (omega (arith, c.if-header-gt64.true))))

pub returns-then-header-gt256 : goal.returns-then-header-gt256
returns-then-header-gt256 c =
    let h = c.args.header in
    sym
    (graph-counts _ c.requires (omega (arith, c.if-bytes-lt7.false)) c.if-header-ne1.false
    (too-many-edges h.tasks h.edges (omega (arith, c.if-header-gt256.true))))

pub returns : goal.returns
returns c =
    let h = c.args.header in
    sym
    (graph_passes _ c.requires (omega (arith, c.if-bytes-lt7.false)) c.if-header-ne1.false
    (counts-inside h.tasks h.edges (omega (arith, c.if-header-lt2.false)) (omega (arith, c.if-header-gt64.false)) (omega (arith, c.if-header-gt256.false))))
