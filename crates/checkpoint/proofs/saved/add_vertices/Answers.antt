use Rattle.std.proofs.Common.{◌∙◌, ◌<◌, ◌++◌, ◌+◌, ℕ, List, [], length, map, get_or, drop, refl, ap, sym, arith}
use Rattle.std.specs.Prelude.{false}
use Rattle.std.specs.List.{flat_map, range_with_len}
use Rattle.std.proofs.lemmas.Result.{err_from_is_err_and}
use Rattle.ball_model.specs.Checkpoint.{no_figures, vertex_bytes}
use Rattle.figures.specs.Values.{value_of}
use Rattle.figures.specs.declared.tally.Tally.{Tally}
use Rattle.checkpoint.proofs.RightLemmas.{first_all, first_more, vertex_here}
use Rattle.checkpoint.proofs.SavedLemmas.{told_more, told_none, zeros_first, zeros_then}
use Rattle.checkpoint.proofs.saved.add_vertices.Goals as goal

pub loop-i-init : goal.loop-i-init
loop-i-init c = record {
  count = refl;
  width = refl;
  told = told_none c.args.vertices.now c.args.bytes.now c.requires.none;
  zeros = zeros_first c.args.vertices.now c.requires.none;
  room = c.requires.room;
  right = λ v rest k count wide is. record {
    marks = c.requires.none.marks;
    tallies = ap (λ (l : List Tally). map value_of l) c.requires.none.tallies;
    rows = refl;
    stand = is;
  };
}

pub loop-i-preserved : goal.loop-i-preserved
loop-i-preserved c =
    let old = c.loop-i.vertices in
    let new = c.add_vertex.new.vertices in
    let i = c.loop-i.i in
    let lt : i < length old.rows.rows = omega (arith, c.loop-i-test.true, c.len-i-end.ensures.value, c.loop-i.invariant.count) in
    record {
      count = c.in_ok-rest.ensures.count ∙ c.loop-i.invariant.count;
      width = c.in_ok-rest.ensures.width ∙ c.loop-i.invariant.width;
      told = told_more old new i c.args.bytes.now c.loop-i.rest.now c.in_ok-rest.rest.now c.loop-i.invariant.told c.in_ok-rest.ensures.added lt;
      zeros = zeros_then old new i c.loop-i.rest.now c.in_ok-rest.rest.now c.in_ok-rest.ensures.added c.in_ok-rest.ensures.width c.loop-i.invariant.zeros;
      room = c.in_ok-rest.ensures.room;
      right = λ v rest k count wide is.
          let first = c.loop-i.invariant.right v rest k count wide is in
          let also : i < length v.part.preds = omega (arith, lt, count, c.loop-i.invariant.count) in
          let here = vertex_here v i old c.loop-i.rest.now rest k also first in
          let more : List ℕ = flat_map (vertex_bytes v) (drop (i + 1) (range_with_len 0 (length v.part.preds))) ++ rest in
          let next = c.in_ok-rest.ensures.right (get_or v.marks i false) (get_or v.tallies i no_figures) (get_or v.rows i []) more here.small (here.long ∙ wide ∙ sym c.loop-i.invariant.width) here.text in
          first_more v i old new c.loop-i.rest.now c.in_ok-rest.rest.now rest k also (c.loop-i.invariant.count ∙ sym count) first next.0 next.1;
    }

pub returns-in_err-rest-clause-right : goal.returns-in_err-rest-clause-right
returns-in_err-rest-clause-right c = λ v rest k count wide is.
    let i = c.loop-i.i in
    let first = c.loop-i.invariant.right v rest k count wide is in
    let also : i < length v.part.preds = omega (arith, c.loop-i-test.true, c.len-i-end.ensures.value, count) in
    let here = vertex_here v i c.loop-i.vertices c.loop-i.rest.now rest k also first in
    let more : List ℕ = flat_map (vertex_bytes v) (drop (i + 1) (range_with_len 0 (length v.part.preds))) ++ rest in
    let p = err_from_is_err_and c.from_residual.result c.from_residual.ensures.1 in
    rw (p.1, p.2) (c.in_err-rest.ensures.right (get_or v.marks i false) (get_or v.tallies i no_figures) (get_or v.rows i []) more here.small (here.long ∙ wide ∙ sym c.loop-i.invariant.width) here.text)

pub returns-clause-right : goal.returns-clause-right
returns-clause-right c = λ v rest k count wide is.
    let i = c.loop-i.i in
    first_all v i c.loop-i.vertices c.loop-i.rest.now rest k (omega (arith, c.loop-i-test.false, c.len-i-end.ensures.value, count)) (omega (arith, c.loop-i-test.false, c.len-i-end.ensures.value, c.loop-i.invariant.count)) (c.loop-i.invariant.right v rest k count wide is)
