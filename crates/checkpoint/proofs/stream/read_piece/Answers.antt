use Rattle.std.proofs.Common.{◌≡◌, length, arith}
use Rattle.checkpoint.proofs.ReaderLemmas.{piece_grows}
use Rattle.checkpoint.proofs.stream.read_piece.Goals as goal

pub returns-clause-done : goal.returns-clause-done
returns-clause-done g c =
    let n = c.args.count in
    let len : length c.read_full.new.buffer ≡ n = omega arith in
    piece_grows n c.in_ok-read_full.ensures.done len c.put.ensures
