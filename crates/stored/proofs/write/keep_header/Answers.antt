use Rattle.std.proofs.Common.{◌≡◌, [], ◌∷◌, ◌++◌, ◌∙◌, sym}
use Rattle.std.proofs.lemmas.Result.{on_ok_weaker, on_err_weaker}
use Rattle.stored.specs.Stored.{head_bytes, stored_of}
use Rattle.stored.proofs.SpoolLemmas.{passes_as, stops_as}
use Rattle.stored.proofs.StoredLemmas.{preds_many, same_labels}
use Rattle.stored.proofs.TextLemmas.{edges_many, head_is}
use Rattle.stored.proofs.write.keep_header.Given as given
use Rattle.stored.proofs.write.keep_header.Goals as goal
use Rattle.stored.proofs.write.keep_header.Goals.{After-to_be_bytes-4}

-- the fields that are put, one after the other, are the header
front : (g : given.Over) (c : After-to_be_bytes-4 g) → c.to_be_bytes.result ++ ((1 ∷ []) ++ (c.to_be_bytes-2.result ++ (c.to_be_bytes-3.result ++ (c.to_be_bytes-4.result ++ [])))) ≡ head_bytes (stored_of c.args.graph.now)
front g c =
    let net = c.args.graph.now in
    head_is (stored_of net) c.to_be_bytes.result c.to_be_bytes-2.result c.to_be_bytes-3.result c.to_be_bytes-4.result c.vertices.result c.edges.result c.args.text
    c.to_be_bytes.ensures c.to_be_bytes-2.ensures (c.vertices.ensures.count ∙ sym (preds_many net)) c.to_be_bytes-3.ensures (c.edges.ensures ∙ edges_many net c.vertices.ensures.graph) c.to_be_bytes-4.ensures (c.requires ∙ same_labels net)

pub returns-clause-done : goal.returns-clause-done
returns-clause-done g c =
    let text = front g (goal.at.returns-clause-done g c).After-to_be_bytes-4 in
    on_ok_weaker c.keep_all.result (λ p. passes_as g.W.Write.contents g.W.CountedWrite.failed_calls g.W.CountedWrite.sure_calls g.W.CountedWrite.room _ _ _ _ _ _ text p) c.keep_all.ensures.done

pub returns-clause-stops : goal.returns-clause-stops
returns-clause-stops g c =
    let text = front g (goal.at.returns-clause-stops g c).After-to_be_bytes-4 in
    on_err_weaker c.keep_all.result (λ p. stops_as g.W.Write.contents g.W.CountedWrite.failed_calls g.W.CountedWrite.sure_calls g.W.CountedWrite.room _ _ _ _ _ text p) c.keep_all.ensures.stops
