use Rattle.std.proofs.Common.{sym, arith}
use Rattle.graph.proofs.CutLemmas.{starts-at, cut-at}
use Rattle.graph.proofs.labels.text_at.Goals as goal

pub overflow_cast-result : goal.overflow_cast-result
overflow_cast-result c = let at = starts-at _ c.args.starts.now c.args.i c.requires.starts c.requires.below in search (arith, at.0, at.1, c.at.ensures)

pub overflow_cast-result-2 : goal.overflow_cast-result-2
overflow_cast-result-2 c = let at = starts-at _ c.args.starts.now c.args.i c.requires.starts c.requires.below in search (arith, at.0, at.1, c.at-2.ensures)

pub slice_bounds-result-count : goal.slice_bounds-result-count
slice_bounds-result-count c = let at = starts-at _ c.args.starts.now c.args.i c.requires.starts c.requires.below in search (arith, at.0, c.at.ensures, c.at-2.ensures)

pub slice_bounds-result-start : goal.slice_bounds-result-start
slice_bounds-result-start c = let at = starts-at _ c.args.starts.now c.args.i c.requires.starts c.requires.below in search (arith, at.0, at.1, c.at.ensures, c.at-2.ensures)

pub slice_bounds-result-end : goal.slice_bounds-result-end
slice_bounds-result-end c = let at = starts-at _ c.args.starts.now c.args.i c.requires.starts c.requires.below in search (arith, at.0, at.1, c.at.ensures, c.at-2.ensures)

pub returns : goal.returns
returns c = rw (c.at.ensures, c.at-2.ensures) (sym (cut-at c.args.bytes.now c.args.starts.now _ c.args.i c.requires.starts c.requires.below))
