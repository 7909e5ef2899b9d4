-- `report::report` meets its contract: the text is that of the three calls' answers, for which there is room.
use mathlib.Core.Path.{◌∙◌}
use Rattle.report.specs.Report.{printed, text_of, report_of}
use Rattle.report.proofs.Room.{printed-room, redundant-few}
use Rattle.report.proofs.report.Goals as goal

pub text_of-requires : goal.text_of-requires
text_of-requires c =
    let f = c.figures-figures.type_inv.1.1 in
    let fo = f.0.1.1 in
    let v = c.verdict-verdict.type_inv.1.1 in
    let vo = v.0.1.1 in
    printed-room c.figures-figures.result c.redundant-set.result c.verdict-verdict.result
    (record {
      outcome = record { number = fo.0.1; place = fo.1.0.1; latency = fo.1.1.0.1; margin = fo.1.1.1.0.1 };
      tasks = f.1.0.1;
      edges = f.1.1.0.1;
      latency = f.1.1.1.0.1;
    })
    (redundant-few c.args.graph.now c.redundant-set.ensures)
    (record {
      outcome = record { number = vo.0.1; place = vo.1.0.1; latency = vo.1.1.0.1; margin = vo.1.1.1.0.1 };
      latency = v.1.0.1;
      margin = v.1.1.0.1;
    })

pub returns : goal.returns
unfolding report_of
returns c =
    let figures-are = c.figures-figures.ensures in
    let set_is = c.redundant-set.ensures in
    let verdict-is = c.verdict-verdict.ensures in
    c.text_of.ensures ∙ (λ i. text_of (printed (figures-are i) (set_is i) (verdict-is i)))
