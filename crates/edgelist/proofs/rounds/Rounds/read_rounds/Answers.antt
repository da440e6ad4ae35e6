use Rattle.std.proofs.Common.{rules, ◌≡◌, ◌∙◌, ◌++◌, [], List, ℕ, arith, append_assoc, length, subst, sym}
use Rattle.std.specs.List.{flat_map}
use Rattle.std.proofs.lemmas.List.{with_items_is}
use Rattle.std.proofs.lemmas.Result.{err_from_is_err_and}
use Rattle.ball_model.specs.Input.{network_from}
use Rattle.graph.specs.Records.{byte_of}
use Rattle.edgelist.specs.Reading.{Refuses, limits_of}
use Rattle.edgelist.specs.Rounds.{records_of}
use Rattle.edgelist.proofs.RoundLemmas.{on-done, on-ended, on-going, on-start}
use Rattle.edgelist.proofs.rounds.Rounds.read_rounds.Goals as goal

pub loop-turn-init : goal.loop-turn-init
loop-turn-init g c = record {
  some = omega (arith, c.in_ok-pieces.ensures.count, c.pieces_in_round-count.ensures.some);
  more = omega (arith, c.in_ok-coming.ensures.count, c.pieces_in_round-count.ensures.some);
  in_range = omega arith;
  within = rw (c.in_ok-reading.ensures.labels, c.in_ok-reading.ensures.edges) (record { below = tt; few_labels = omega arith; few_edges = omega arith });
  on = λ text known plain.
      on-start (limits_of c.args.self.now.limits) (byte_of c.args.self.now.delimiter) text c.in_ok-reading.reading.labels c.in_ok-reading.reading.edges.items c.in_ok-pieces.pieces.items c.in_ok-held.held.bytes.items (g.S.Read.remaining c.args.reader.now)
      c.in_ok-reading.ensures.labels c.in_ok-reading.ensures.edges c.in_ok-held.ensures c.in_ok-pieces.ensures.none known plain;
}

pub returns-in_err-n-clause-refused : goal.returns-in_err-n-clause-refused
returns-in_err-n-clause-refused g c = λ text known plain.
    let p = err_from_is_err_and c.from_residual-in_err-n.result c.from_residual-in_err-n.ensures.1 in
    rw (p.1, p.2) (c.in_err-n.ensures.refused text (rw c.deref.ensures.value (c.loop-turn.invariant.on text known plain)))

pub returns-in_err-n-2-clause-refused : goal.returns-in_err-n-2-clause-refused
returns-in_err-n-2-clause-refused g c = λ text known plain.
    let kept : length c.take_turn.new.coming ≡ c.loop-turn.coming.len = omega (arith, c.take_turn.auto.coming, c.deref_mut.ensures.len) in
    let same : c.deref-then-is_last.result.now ≡ c.take_turn.new.coming = c.deref-then-is_last.ensures.value ∙ with_items_is c.loop-turn.coming c.take_turn.new.coming kept in
    let now = c.in_ok-n.ensures.begun text (rw c.deref.ensures.value (c.loop-turn.invariant.on text known plain)) in
    let p = err_from_is_err_and c.from_residual-in_err-n-2.result c.from_residual-in_err-n-2.ensures.1 in
    rw (p.1, p.2) (subst (λ (rs : List (List (List ℕ))). Refuses (network_from (limits_of c.args.self.now.limits) rs) c.in_err-n-2.field-0.0)
    (sym (now.begun.all ∙ append_assoc now.before (flat_map records_of c.take_turn.new.coming) now.begun.more))
    ((rw same at (c.in_err-n-2.ensures.refused now.before now.begun.more)) now.plain now.through))

pub returns-then-is_last-clause-ok : goal.returns-then-is_last-clause-ok
returns-then-is_last-clause-ok g c = λ text known plain.
    let kept : length c.take_turn.new.coming ≡ c.loop-turn.coming.len = omega (arith, c.take_turn.auto.coming, c.deref_mut.ensures.len) in
    let same : c.deref-then-is_last.result.now ≡ c.take_turn.new.coming = c.deref-then-is_last.ensures.value ∙ with_items_is c.loop-turn.coming c.take_turn.new.coming kept in
    let both = on-ended c.in_ok-n.filled _ _ (c.in_ok-n.ensures.on text (rw c.deref.ensures.value (c.loop-turn.invariant.on text known plain))) c.in_ok-n.ensures.end (c.is_last.ensures.last (search rules)) c.in_ok-n-2.ensures.filled in
    rw (on-done _ _ _ _ _ _ _ _ _ both.0 both.1) ((rw same at (c.in_ok-n-2.ensures.ok both.0.before)) both.0.plain both.0.through)

pub loop-turn-preserved : goal.loop-turn-preserved
loop-turn-preserved g c =
    let kept : length c.take_turn.new.coming ≡ c.loop-turn.coming.len = omega (arith, c.take_turn.auto.coming, c.deref_mut.ensures.len) in
    record {
      some = rw (c.swap.ensures.x_after, with_items_is c.loop-turn.coming c.take_turn.new.coming kept) (search (rules, c.loop-turn.invariant.more));
      more = rw c.swap.ensures.y_after c.loop-turn.invariant.some;
      in_range = c.in_ok-n.ensures.number;
      within = c.in_ok-n.ensures.within;
      on = λ text known plain.
          rw (c.swap.ensures.x_after, with_items_is c.loop-turn.coming c.take_turn.new.coming kept)
          (on-going c.in_ok-n.filled _ (c.in_ok-n.ensures.on text (rw c.deref.ensures.value (c.loop-turn.invariant.on text known plain))) (c.is_last.ensures.goes (search rules)));
    }
