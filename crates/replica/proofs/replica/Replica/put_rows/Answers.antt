use Rattle.std.proofs.Common.{◌≡◌, ◌+◌, ◌<◌, ◌++◌, ℕ, [], List, get_or, length, ap, sym, subst, ◌∙◌, arith}
use Rattle.replica.proofs.Names.{get_or_default, State, Table}
use Rattle.replica.specs.Seen.{IsState, state_of}
use Rattle.replica.specs.Sent.{changed_row, changed_rows}
use Rattle.replica.proofs.HearingLemmas.Accumulator.{state_is}
use Rattle.replica.proofs.SentLemmas.Changed.{changed_at, changed_begin, changed_go}
use Rattle.replica.proofs.SentLemmas.Told.{changed_more, changed_none, changed_over, row_of_changed}
use Rattle.replica.proofs.replica.Replica.put_rows.Goals as goal

pub loop-k-init : goal.loop-k-init
loop-k-init c =
    let v = c.args.self.now in
    let vertices = c.args.vertices.now in
    changed_over v 0 (get_or vertices 0 (length v.part.preds)) _ (changed_begin v vertices c.requires.vertices) (c.requires.empty ∙ sym (changed_none v))

pub row-requires : goal.row-requires
row-requires c =
    let is : state_of c.s.inside ≡ c.args.self.now = state_is c.s.view_is ∙ c.shown-s.ensures in
    let state : IsState c.args.self.now = subst (λ (u : State). IsState u) is c.s.invariant.state in
    omega (arith, (changed_at c.args.self.now c.args.vertices.now c.loop-k.k c.requires.vertices (omega (arith, c.loop-k-test.true))).place, ap (length {A = List ℕ}) (ap (λ (t : Table). t.rows) c.rows.ensures ∙ ap (λ (u : State). u.rows) is), state.count)

pub loop-k-preserved : goal.loop-k-preserved
loop-k-preserved c =
    let v = c.args.self.now in
    let vertices = c.args.vertices.now in
    let k = c.loop-k.k in
    let i : ℕ = get_or vertices k 0 in
    let lt : k < length vertices = omega (arith, c.loop-k-test.true) in
    let is : state_of c.s.inside ≡ v = state_is c.s.view_is ∙ c.shown-s.ensures in
    let rows = ap (λ (t : Table). t.rows) c.rows.ensures ∙ ap (λ (u : State). u.rows) is in
    let row = c.row.ensures.value ∙ ap (λ (l : List (List ℕ)). get_or l i []) rows ∙ sym (row_of_changed v i (changed_at v vertices k c.requires.vertices lt).mark) in
    let before = c.loop-k.invariant ∙ ap (changed_rows v) (get_or_default vertices k (length v.part.preds) 0 lt) in
    let more = c.in_ok-extend_from_slice.ensures.items ∙ ap (λ (l : List ℕ). c.loop-k.table.items ++ l) row ∙ ap (λ (l : List ℕ). l ++ changed_row v i) before ∙ sym (changed_more v i) in
    changed_over v (i + 1) (get_or vertices (k + 1) (length v.part.preds)) _ (changed_go v vertices k c.requires.vertices lt) more
