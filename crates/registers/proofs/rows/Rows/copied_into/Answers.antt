use Rattle.std.proofs.Common.{◌≡◌, ℕ, List, ◌++◌, ◌*◌, ◌≤◌, true, arith, sym, ap₂, ◌∙◌, is_ok}
use Rattle.std.specs.Vec.{vec_capacity, vec_len}
use Rattle.registers.proofs.TableLemmas.{shown}
use Rattle.registers.proofs.rows.Rows.copied_into.Goals as goal

pub invariant_of-result : goal.invariant_of-result
invariant_of-result c =
    let r = c.self.inside in
    let is = shown r.width r.count r.cells.items c.args.self.now c.self.view_is in
    let fits : r.count * r.width ≤ vec_capacity c.args.room = rw (is.count, is.width) c.requires in
    let ok : is_ok c.extend_from_slice.result ≡ true = c.extend_from_slice.ensures.succeeds (omega (arith, fits, c.clear.ensures.len, c.clear.ensures.capacity, c.deref.ensures.len, c.self.invariant.filled)) in
    let len : vec_len c.extend_from_slice.new.self ≡ r.count * r.width = (rw ok at c.extend_from_slice.ensures.len) ∙ omega (arith, c.clear.ensures.len, c.deref.ensures.len, c.self.invariant.filled) in
    record {
      filled = rw (c.len.ensures.value, c.width.ensures.value, ← is.count, ← is.width) len;
      few = c.len.ensures.few;
      narrow = c.width.ensures.narrow;
    }

pub returns : goal.returns
returns c =
    let r = c.self.inside in
    let is = shown r.width r.count r.cells.items c.args.self.now c.self.view_is in
    let fits : r.count * r.width ≤ vec_capacity c.args.room = rw (is.count, is.width) c.requires in
    let ok : is_ok c.extend_from_slice.result ≡ true = c.extend_from_slice.ensures.succeeds (omega (arith, fits, c.clear.ensures.len, c.clear.ensures.capacity, c.deref.ensures.len, c.self.invariant.filled)) in
    let items : c.extend_from_slice.new.self.items ≡ r.cells.items = (rw ok at c.extend_from_slice.ensures.items) ∙ ap₂ (λ (xs ys : List ℕ). xs ++ ys) c.clear.ensures.items c.deref.ensures.value in
    let count : c.len.result ≡ r.count = c.len.ensures.value ∙ sym is.count in
    let width : c.width.result ≡ r.width = c.width.ensures.value ∙ sym is.width in
    rw (items, count, width) c.self.view_is
