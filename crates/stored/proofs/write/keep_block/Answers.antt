use Rattle.std.proofs.Common.{◌≡◌, [], ◌++◌, List, ℕ, length, refl, sym}
use Rattle.std.proofs.lemmas.Result.{on_ok_weaker, on_err_weaker}
use Rattle.gapcode.specs.Bits.{AreBytesOf}
use Rattle.stored.specs.Stored.{block_bytes, code_of}
use Rattle.stored.proofs.PackLemmas.{packed_are}
use Rattle.stored.proofs.SpoolLemmas.{passes_as, stops_as}
use Rattle.stored.proofs.TextLemmas.{block_is}
use Rattle.stored.proofs.write.keep_block.Given as given
use Rattle.stored.proofs.write.keep_block.Goals as goal
use Rattle.stored.proofs.write.keep_block.Goals.{After-to_be_bytes-2}

-- the fields that are put, one after the other, are the block
text : (g : given.Over) (c : After-to_be_bytes-2 g) (lists : List (List ℕ)) → length lists ≡ c.args.count → AreBytesOf (code_of lists) c.args.code.now
    → c.to_be_bytes.result ++ (c.to_be_bytes-2.result ++ (c.args.code.now ++ [])) ≡ block_bytes lists
text g c lists many spelled =
    let code = c.args.code.now in
    let is = packed_are code (code_of lists) (λ i. (c.type_inv.code i).fits) spelled in
    block_is lists c.to_be_bytes.result c.to_be_bytes-2.result code c.args.count (length code) c.to_be_bytes.ensures (sym many) c.to_be_bytes-2.ensures refl is

pub returns-clause-done : goal.returns-clause-done
returns-clause-done g c = λ lists many spelled.
    on_ok_weaker c.keep_all.result (λ p. passes_as g.W.Write.contents g.W.CountedWrite.failed_calls g.W.CountedWrite.sure_calls g.W.CountedWrite.room _ _ _ _ _ _ (text g (goal.at.returns-clause-done g c).After-to_be_bytes-2 lists many spelled) p) c.keep_all.ensures.done

pub returns-clause-stops : goal.returns-clause-stops
returns-clause-stops g c = λ lists many spelled.
    on_err_weaker c.keep_all.result (λ p. stops_as g.W.Write.contents g.W.CountedWrite.failed_calls g.W.CountedWrite.sure_calls g.W.CountedWrite.room _ _ _ _ _ (text g (goal.at.returns-clause-stops g c).After-to_be_bytes-2 lists many spelled) p) c.keep_all.ensures.stops
