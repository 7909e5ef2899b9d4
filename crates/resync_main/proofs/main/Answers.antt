-- `resync_main::main` is safe: the fronts that were read, and the text, are within their lists.
use Rattle.report.proofs.Whole.{reported-within, reported-counted}
use Rattle.resync_main.proofs.main.Goals as goal

pub slice_bounds-bytes-end : goal.slice_bounds-bytes-end
slice_bounds-bytes-end c = reported-within _ _ c.report-length.ensures

pub slice_bounds-write_all-end : goal.slice_bounds-write_all-end
slice_bounds-write_all-end c = reported-counted _ _ c.report-length.ensures
