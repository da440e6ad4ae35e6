use Rattle.std.proofs.Common.{◌≡◌, ℕ, ◌+◌, ◌*◌, List, [], true, false, get_or, set, refl, ap, sym, ◌∙◌}
use Rattle.replica.proofs.Names.{set-get_or, PlanValue}
use Rattle.ball_model.specs.Hash.{hash_of, index_of, rank_of}
use Rattle.replica.specs.Start.{first_row}
use Rattle.replica.proofs.StartLemmas.Start.{alone_is, first-counted, first-uncounted}
use Rattle.replica.proofs.start.start_row.Goals as goal

pub returns-then-counts : goal.returns-then-counts
returns-then-counts c =
    let part = c.args.part.now in
    let x = c.args.i * part.plan.parts + part.number in
    let old = get_or c.args.rows.now.rows c.args.i [] in
    let plan : c.plan-plan.result.now ≡ part.plan = c.plan-plan.ensures in
    let counted : get_or part.counted c.args.i false ≡ true = sym c.counts.ensures.value ∙ c.if-counts.true in
    let log2m : c.log2m.result ≡ part.plan.log2m = c.log2m.ensures.value ∙ ap (λ (a : PlanValue). a.log2m) plan in
    let hash : c.mix.result ≡ hash_of part.plan.seed x = c.mix.ensures ∙ rw (c.seed.ensures, c.vertex.ensures.value, ap (λ (a : PlanValue). a.seed) plan) refl in
    let index : c.from.result ≡ index_of part.plan.log2m (hash_of part.plan.seed x) = c.from.ensures ∙ c.place-index.ensures.index ∙ rw (log2m, hash) refl in
    let rank : c.place-index.result.1 ≡ rank_of part.plan.log2m (hash_of part.plan.seed x) = c.place-index.ensures.rank ∙ rw (log2m, hash) refl in
    let is = alone_is part.plan x c.from.result c.place-index.result.1 old c.requires.empty index rank ∙ sym (first-counted part c.args.i counted) in
    c.raise_one-raised.ensures.raised ∙ ap (λ (row : List ℕ). record c.args.rows.now { rows = set c.args.rows.now.rows c.args.i row }) is

pub returns-else-counts : goal.returns-else-counts
returns-else-counts c =
    let part = c.args.part.now in
    let counted : get_or part.counted c.args.i false ≡ false = sym c.counts.ensures.value ∙ c.if-counts.false in
    let empty : get_or c.args.rows.now.rows c.args.i [] ≡ first_row part c.args.i = c.requires.empty ∙ sym (first-uncounted part c.args.i counted) in
    ap (λ (rows : List (List ℕ)). record c.args.rows.now { rows = rows })
    (sym (set-get_or c.args.rows.now.rows c.args.i []) ∙ ap (λ (row : List ℕ). set c.args.rows.now.rows c.args.i row) empty)
