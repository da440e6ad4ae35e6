use Rattle.std.proofs.Common.{◌≡◌, ℕ, List, [], ◌∷◌, ◌++◌, false, ◌<◌, ◌∙◌, length, get_or, ap, arith}
use Rattle.std.proofs.lemmas.Result.{on_ok_weaker, on_err_weaker}
use Rattle.ball_model.specs.Checkpoint.{vertex_bytes}
use Rattle.figures.specs.Values.{value_of}
use Rattle.replica.proofs.SeenLemmas.Read.{length-tallies}
use Rattle.checkpoint.proofs.SpoolLemmas.{passes_as, stops_as}
use Rattle.checkpoint.proofs.TextLemmas.{mark_is, vertex_is, tally_is}
use Rattle.checkpoint.proofs.write.keep_vertex.Given as given
use Rattle.checkpoint.proofs.write.keep_vertex.Goals as goal
use Rattle.checkpoint.proofs.write.keep_vertex.Goals.{After-row}

-- the fields that are put, one after the other, are the vertex
fields : (g : given.Over) (c : After-row g) → (c.from.result ∷ []) ++ (c.to_be_bytes.result ++ (c.to_be_bytes-2.result ++ (c.to_be_bytes-3.result ++ (c.row.result.now ++ []))))
    ≡ vertex_bytes c.args.replica.now c.args.i
fields g c =
    let v = c.args.replica.now in
    let lt : c.args.i < length v.tallies = omega (arith, c.requires.place, length-tallies v c.requires.state) in
    vertex_is v c.args.i c.from.result c.to_be_bytes.result c.to_be_bytes-2.result c.to_be_bytes-3.result c.row.result.now c.changed-mark.result (value_of c.index-tallies-i.result)
    (mark_is c.from.result c.changed-mark.result c.from.ensures)
    (c.changed-mark.ensures.value ∙ ap (λ (i : ℕ). get_or v.marks i false) c.vertex.ensures.place)
    (tally_is v c.tallies.result.now c.args.i c.index-tallies-i.result lt c.tallies.ensures.value c.index-tallies-i.is)
    c.to_be_bytes.ensures c.to_be_bytes-2.ensures c.to_be_bytes-3.ensures
    (c.row.ensures.value ∙ ap (λ (rows : List (List ℕ)). get_or rows c.args.i []) c.rows.ensures.value)

pub returns-clause-done : goal.returns-clause-done
returns-clause-done g c =
    let text = fields g (goal.at.returns-clause-done g c).After-row in
    on_ok_weaker c.keep_all.result (λ p. passes_as g.W.Write.contents g.W.CountedWrite.failed_calls g.W.CountedWrite.sure_calls g.W.CountedWrite.room _ _ _ _ _ _ text p) c.keep_all.ensures.done

pub returns-clause-stops : goal.returns-clause-stops
returns-clause-stops g c =
    let text = fields g (goal.at.returns-clause-stops g c).After-row in
    on_err_weaker c.keep_all.result (λ p. stops_as g.W.Write.contents g.W.CountedWrite.failed_calls g.W.CountedWrite.sure_calls g.W.CountedWrite.room _ _ _ _ _ text p) c.keep_all.ensures.stops
