use Rattle.std.proofs.Common.{◌≡◌, false, ◌<◌, ◌++◌, ℕ, List, [], length, get_or, refl, ap, arith, rules, sym, ◌∙◌}
use Rattle.replica.proofs.Names.{nil_from_length, get_or_past, Table, list_any-append}
use Rattle.std.specs.Slice.Iter.{chunks_rest}
use Rattle.registers.proofs.TableLemmas.{same_table}
use Rattle.replica.specs.Heard.{MarksChanges}
use Rattle.replica.specs.Spread.{raised_at, rows_after, touched_at}
use Rattle.replica.proofs.SpreadLemmas.{spread-none, spread-append, length-spread, touched-none, both_marks, to_row, spread-at, spread_on, raised_above, raised_marked, all_last, raise_first}
use Rattle.replica.proofs.HeardLemmas.{accumulated_of-spread}
use Rattle.replica.proofs.spread.spread_row.Goals as goal

pub loop-block-init : goal.loop-block-init
loop-block-init c =
    let src = c.args.registers.now in
    let old = c.args.accumulated.now.rows in
    let given : chunks_rest c.into_iter-block-iterator.result ≡ c.places.result.now = search rules in
    let rest : chunks_rest c.into_iter-block-iterator.result ≡ get_or c.args.targets.now c.args.z [] = given ∙ c.places.ensures in
    record {
      can_next = search rules;
      is_finite = tt;
      inside = rw rest (grind (arith, get_or_past));
      width = refl;
      count = refl;
      rows = ap (λ (places : List ℕ). rows_after places src old) rest;
      marks = λ i lt. ap (λ (places : List ℕ). touched_at c.args.touched.now old (rows_after places src old) i) rest;
    }

pub mark_seen-requires : goal.mark_seen-requires
mark_seen-requires c = let inv = c.loop-block.invariant in raise_first (chunks_rest c.next.new.self) (rw c.in-Some.ensures.steps.1.0 at inv.inside) inv.count (c.requires.wide ∙ sym inv.width) (omega (arith, c.loop-block.auto.touched, c.requires.room.marks, inv.count))

pub raise_block-requires : goal.raise_block-requires
raise_block-requires c = let inv = c.loop-block.invariant in raise_first (chunks_rest c.next.new.self) (rw c.in-Some.ensures.steps.1.0 at inv.inside) inv.count (c.requires.wide ∙ sym inv.width) (omega (arith, c.loop-block.auto.touched, c.mark_seen.auto.touched, c.requires.room.marks, inv.count))

pub loop-block-preserved : goal.loop-block-preserved
loop-block-preserved c =
    let inv = c.loop-block.invariant in
    let block = c.in-Some.block.now in
    let left = chunks_rest c.next.new.self in
    let src = c.args.registers.now in
    let acc = c.loop-block.accumulated.rows in
    let old = c.loop-block.touched in
    let new = c.raise_block.new.touched in
    let split : chunks_rest c.loop-block.block-iterator ≡ block ++ left = c.in-Some.ensures.steps.1.0 in
    let rows : c.raise_block.new.accumulated.rows ≡ rows_after block src acc = ap (λ (t : Table). t.rows) c.raise_block.ensures.rows in
    let width = ap (λ (t : Table). t.width) c.raise_block.ensures.rows in
    let marks : (i : ℕ) → i < length acc → get_or new i false ≡ touched_at old acc (rows_after block src acc) i =
    λ i lt. c.raise_block.ensures.marks i lt ∙ ap (λ (rs : List (List ℕ)). touched_at c.mark_seen.new.touched acc rs i) rows ∙ c.mark_seen.ensures i lt in
    record {
      can_next = search rules;
      is_finite = tt;
      inside = all_last (λ i. i < length c.args.accumulated.now.rows) block left (rw split at inv.inside);
      width = width ∙ inv.width;
      count = ap length rows ∙ length-spread block src acc ∙ inv.count;
      rows = ap (λ (rs : List (List ℕ)). rows_after left src rs) rows ∙ spread-append block left src acc ∙ ap (λ (places : List ℕ). rows_after places src acc) (sym split) ∙ inv.rows;
      marks = λ i lt.
          let inside : i < length acc = omega (arith, inv.count) in
          let both : touched_at new (rows_after block src acc) (rows_after left src (rows_after block src acc)) i ≡ touched_at old acc (rows_after (block ++ left) src acc) i = grind (arith, spread-append, both_marks, spread-at, to_row, list_any-append, marks i inside) in
          ap (λ (rs : List (List ℕ)). touched_at new rs (rows_after left src rs) i) rows ∙ both
          ∙ ap (λ (places : List ℕ). touched_at old acc (rows_after places src acc) i) (sym split) ∙ inv.marks i lt;
    }

pub returns : goal.returns
returns c =
    let inv = c.loop-block.invariant in
    let src = c.args.registers.now in
    let places = get_or c.args.targets.now c.args.z [] in
    let old = c.args.accumulated.now.rows in
    let acc = c.loop-block.accumulated.rows in
    let new = c.loop-block.touched in
    let left = chunks_rest c.loop-block.block-iterator in
    let none : left ≡ [] = nil_from_length _ c.in-None.ensures.steps.1.0 in
    let all : acc ≡ rows_after places src old = spread-none src acc ∙ ap (λ (ps : List ℕ). rows_after ps src acc) (sym none) ∙ inv.rows in
    let marks : MarksChanges c.args.touched.now old acc new = λ i lt.
    touched-none src acc new i (omega (arith, inv.count))
    ∙ ap (λ (ps : List ℕ). touched_at new acc (rows_after ps src acc) i) (sym none)
    ∙ inv.marks i lt ∙ ap (λ (rs : List (List ℕ)). touched_at c.args.touched.now old rs i) (sym all) in
    let count : length new ≡ length c.args.touched.now = omega arith in
    record {
      rows = same_table c.loop-block.accumulated (raised_at places src c.args.accumulated.now) inv.width all;
      marks = marks;
      touched = λ rows h. grind (arith, length-spread, spread-at, raised_above, to_row, raised_marked, all, marks);
      stands = λ j p t heard job index changed true_row stands. all ∙ rw (true_row, stands, index) (accumulated_of-spread j p t c.args.z heard job changed);
      can = record {
        wide = c.requires.wide ∙ sym inv.width;
        room = spread_on c.args.targets.now (length old) c.loop-block.accumulated new c.requires.room.inside inv.count (omega (arith, c.loop-block.auto.touched, c.requires.room.marks));
      };
    }
