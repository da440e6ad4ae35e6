use Rattle.std.proofs.Common.{◌≡◌, ◌+◌, ◌<◌, ◌++◌, ◌∷◌, ◌/◌, ℕ, List, [], false, true, get_or, length, set, take, refl, ap, ap₂, sym, ◌∙◌, append_assoc, arith, subst}
use Rattle.replica.proofs.Names.{append-nil, length-set, max_each, PlanValue}
use Rattle.registers.specs.Laws.{max_each-repeats}
use Rattle.replica.specs.Pull.{is_told, raised_over, rows_at, told_rows}
use Rattle.replica.proofs.SpreadLemmas.{changed_is}
use Rattle.replica.proofs.PullLemmas.{above-on, inside-more, raised-here, raised-on, told-inside, told-none, told-yes, told-no, waits-more}
use Rattle.replica.proofs.pull.pull_row.Goals as goal
use Rattle.replica.proofs.pull.pull_row.Goals.{After-is_told}

parts : (c : After-is_told) → c.from-parts.result ≡ c.args.part.now.plan.parts
parts c = c.from-parts.ensures ∙ c.parts.ensures.value ∙ ap (λ (q : PlanValue). q.parts) c.plan.ensures

told : (c : After-is_told) → c.is_told.result ≡ is_told c.args.part.now.plan.parts c.args.part.now.number c.args.marks.now c.in-Some.z
told c =
    c.is_told.ensures ∙ ap₂ (λ n p. is_told n p c.args.marks.now c.in-Some.z) (parts c) (c.from-own.ensures ∙ c.partition.ensures.value)

pub loop-z-init : goal.loop-z-init
loop-z-init c =
    let part = c.args.part.now in
    record {
      left = sym c.preds-z-items.ensures.value ∙ sym c.into_iter-z-iterator.ensures.into_iter_gives;
      few = omega arith;
      long = refl;
      inside = λ k d lt. absurd (omega arith);
      row = raised-here c.args.row.now ∙ told-none part.plan.parts part.number c.args.rows.now.rows c.args.marks.now c.args.row.now;
      above = max_each-repeats c.args.row.now;
      raised = changed_is false c.args.row.now c.args.row.now (λ e. refl, λ e. refl);
    }

-- the place that the told predecessor has, and that it is one of those that there are
place : (c : After-is_told) (p : ℕ) → p ≡ c.in-Some.z / c.from-parts.result → p ≡ c.in-Some.z / c.args.part.now.plan.parts
place c p is = is ∙ ap (λ n. c.in-Some.z / n) (parts c)

below : (c : After-is_told) (p : ℕ) → p ≡ c.in-Some.z / c.from-parts.result → c.is_told.result ≡ true → p < length c.args.rows.now.rows
below c p is yes_told =
    let part = c.args.part.now in
    let lt = told-inside part.plan.parts part.number c.args.marks.now c.in-Some.z (length c.args.rows.now.rows) (c.requires.can.each ∙ sym c.requires.can.count) (sym (told c) ∙ yes_told) in
    subst (λ q. q < length c.args.rows.now.rows) (sym (place c p is)) lt

pub loop-z-preserved-then-count-eq-AHEAD : goal.loop-z-preserved-then-count-eq-AHEAD
loop-z-preserved-then-count-eq-AHEAD c =
    let part = c.args.part.now in
    let own = c.args.rows.now.rows in
    let marks = c.args.marks.now in
    let first = c.args.row.now in
    let z = c.in-Some.z in
    let p = c.placed.result.0 in
    let inv = c.loop-z.invariant in
    let turn : c.loop-z.z-iterator ≡ z ∷ c.next.new.self = rw c.in-Some.is at c.next.ensures.steps in
    let is = inv.left ∙ ap (λ (l : List ℕ). c.loop-z.yielded ++ l) turn in
    let at = (goal.at.loop-z-preserved-then-count-eq-AHEAD c).After-is_told in
    let room : c.loop-z.count < length c.loop-z.waiting = omega (arith, inv.few, inv.long) in
    let src : get_or own p [] ≡ get_or own (z / part.plan.parts) [] = ap (λ q. get_or own q []) (place at p c.placed.ensures.place) in
    let new = c.raise_by-raised.ensures.row in
    let others = rows_at own (take (c.loop-z.count + 1) (set c.loop-z.waiting c.loop-z.count p)) in
    record {
      left = is ∙ sym (append_assoc c.loop-z.yielded (z ∷ []) c.next.new.self);
      few = omega arith;
      long = length-set c.loop-z.waiting c.loop-z.count p ∙ inv.long;
      inside = λ k d lt. absurd (omega arith);
      row = raised-here c.raise_by-raised.new.row ∙ new ∙ waits-more own c.loop-z.row c.loop-z.waiting c.loop-z.count p room
          ∙ ap₂ max_each inv.row src ∙ told-yes part.plan.parts part.number own marks first c.loop-z.yielded z (sym (told at) ∙ c.if-is_told.true);
      above = above-on first c.loop-z.row c.raise_by-raised.new.row others inv.above new;
      raised = raised-on first c.loop-z.row c.raise_by-raised.new.row others c.loop-z.raised c.raise_by-raised.result inv.above new inv.raised c.raise_by-raised.ensures.tells;
    }

pub loop-z-preserved-else-count-eq-AHEAD : goal.loop-z-preserved-else-count-eq-AHEAD
loop-z-preserved-else-count-eq-AHEAD c =
    let part = c.args.part.now in
    let own = c.args.rows.now.rows in
    let marks = c.args.marks.now in
    let z = c.in-Some.z in
    let p = c.placed.result.0 in
    let inv = c.loop-z.invariant in
    let turn : c.loop-z.z-iterator ≡ z ∷ c.next.new.self = rw c.in-Some.is at c.next.ensures.steps in
    let is = inv.left ∙ ap (λ (l : List ℕ). c.loop-z.yielded ++ l) turn in
    let at = (goal.at.loop-z-preserved-else-count-eq-AHEAD c).After-is_told in
    let room : c.loop-z.count < length c.loop-z.waiting = omega (arith, inv.few, inv.long) in
    let src : get_or own p [] ≡ get_or own (z / part.plan.parts) [] = ap (λ q. get_or own q []) (place at p c.placed.ensures.place) in
    record {
      left = is ∙ sym (append_assoc c.loop-z.yielded (z ∷ []) c.next.new.self);
      few = omega (arith, inv.few, c.if-count-eq-AHEAD.false);
      long = length-set c.loop-z.waiting c.loop-z.count p ∙ inv.long;
      inside = inside-more (length own) c.loop-z.waiting c.loop-z.count p room inv.inside (below at p c.placed.ensures.place c.if-is_told.true);
      row = waits-more own c.loop-z.row c.loop-z.waiting c.loop-z.count p room
          ∙ ap₂ max_each inv.row src ∙ told-yes part.plan.parts part.number own marks c.args.row.now c.loop-z.yielded z (sym (told at) ∙ c.if-is_told.true);
      above = inv.above;
      raised = inv.raised;
    }

pub loop-z-preserved : goal.loop-z-preserved
loop-z-preserved c =
    let part = c.args.part.now in
    let inv = c.loop-z.invariant in
    let z = c.in-Some.z in
    let turn : c.loop-z.z-iterator ≡ z ∷ c.next.new.self = rw c.in-Some.is at c.next.ensures.steps in
    let is = inv.left ∙ ap (λ (l : List ℕ). c.loop-z.yielded ++ l) turn in
    let at = (goal.at.loop-z-preserved c).After-is_told in
    record {
      left = is ∙ sym (append_assoc c.loop-z.yielded (z ∷ []) c.next.new.self);
      few = inv.few;
      long = inv.long;
      inside = inv.inside;
      row = inv.row ∙ ap (raised_over c.args.row.now) (told-no part.plan.parts part.number c.args.rows.now.rows c.args.marks.now c.loop-z.yielded z (sym (told at) ∙ c.if-is_told.false));
      above = inv.above;
      raised = inv.raised;
    }

pub returns : goal.returns
returns c =
    let part = c.args.part.now in
    let own = c.args.rows.now.rows in
    let first = c.args.row.now in
    let inv = c.loop-z.invariant in
    let all : get_or part.preds c.args.i [] ≡ c.loop-z.yielded = inv.left ∙ ap (λ (l : List ℕ). c.loop-z.yielded ++ l) c.in-None.ensures.steps.0 ∙ append-nil c.loop-z.yielded in
    let new = c.raise_by.ensures.row in
    record {
      row = new ∙ inv.row ∙ ap (λ zs. raised_over first (told_rows part.plan.parts part.number own c.args.marks.now zs)) (sym all);
      tells = raised-on first c.loop-z.row c.raise_by.new.row (rows_at own (take c.loop-z.count c.loop-z.waiting)) c.loop-z.raised c.raise_by.result inv.above new inv.raised c.raise_by.ensures.tells;
    }
