use Rattle.std.proofs.Common.{ℕ, ◌≡◌, ◌<◌, ◌≤◌, ◌+◌, ◌++◌, List, length, get_or, take, drop, arith, sym, subst}
use Rattle.std.specs.List.{flat_map}
use Rattle.std.proofs.lemmas.List.{append-nil, take_all}
use Rattle.std.proofs.lemmas.Result.{err_from_is_err_and}
use Rattle.ball_model.specs.Input.{network_from}
use Rattle.edgelist.specs.Pieces.{IsThrough}
use Rattle.edgelist.specs.Reading.{Refuses, limits_of}
use Rattle.edgelist.specs.Rounds.{has_plain_lines, records_of}
use Rattle.edgelist.specs.declared.piece.Piece.{Piece}
use Rattle.edgelist.proofs.RoundLemmas.{pieces-more, pieces-rest}
use Rattle.edgelist.proofs.rounds.add_pieces.Goals as goal

pub loop-i-init : goal.loop-i-init
loop-i-init c = record {
  in_range = c.requires.number;
  within = c.requires.within;
  through = λ before plain t. subst (λ (rs : List (List (List ℕ))). IsThrough (limits_of c.args.limits) c.args.number rs c.args.reading.now.labels c.args.reading.now.edges.items) (sym (append-nil before)) t;
}

pub returns-in_err-n-clause-refused : goal.returns-in_err-n-clause-refused
returns-in_err-n-clause-refused c = λ before more plain t.
    let i = c.loop-i.i in
    let all = c.args.pieces.now in
    let lt : i < length all = omega (arith, c.loop-i-test.true) in
    let piece = c.index-pieces-i.result in
    let here : piece ≡ get_or all i piece = search (c.index-pieces-i.is) in
    let told = c.in_err-n.ensures.refused (before ++ flat_map records_of (take i all)) (flat_map records_of (drop (i + 1) all) ++ more)
    (subst has_plain_lines (sym here) (plain i piece lt)) (c.loop-i.invariant.through before plain t) in
    let p = err_from_is_err_and c.from_residual.result c.from_residual.ensures.1 in
    rw (p.1, p.2) (subst (λ (rs : List (List (List ℕ))). Refuses (network_from (limits_of c.args.limits) rs) c.in_err-n.field-0.0)
    (sym (pieces-rest all i piece before more lt here)) told)

pub loop-i-preserved : goal.loop-i-preserved
loop-i-preserved c = record {
  in_range = c.in_ok-n.ensures.number;
  within = c.in_ok-n.ensures.within;
  through = λ before plain t.
      let i = c.loop-i.i in
      let all = c.args.pieces.now in
      let lt : i < length all = omega (arith, c.loop-i-test.true) in
      let piece = c.index-pieces-i.result in
      let here : piece ≡ get_or all i piece = search (c.index-pieces-i.is) in
      subst (λ (rs : List (List (List ℕ))). IsThrough (limits_of c.args.limits) c.in_ok-n.n rs c.add_to.new.reading.labels c.add_to.new.reading.edges.items)
      (pieces-more all i piece before lt here)
      (c.in_ok-n.ensures.ok (before ++ flat_map records_of (take i all)) (subst has_plain_lines (sym here) (plain i piece lt)) (c.loop-i.invariant.through before plain t));
}

pub returns-clause-ok : goal.returns-clause-ok
returns-clause-ok c = λ before plain t.
    let all = c.args.pieces.now in
    let at : length all ≤ c.loop-i.i = omega (arith, c.loop-i-test.false, c.loop-i.auto.i-end) in
    subst (λ (ps : List Piece). IsThrough (limits_of c.args.limits) c.loop-i.n (before ++ flat_map records_of ps) c.loop-i.reading.labels c.loop-i.reading.edges.items)
    (take_all c.loop-i.i all at) (c.loop-i.invariant.through before plain t)
