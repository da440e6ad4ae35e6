use Rattle.std.proofs.Common.{◌≡◌, ◌∙◌, ◌<◌, List, ℕ, arith, false, true, length, take, sym, subst}
use Rattle.std.specs.List.{All}
use Rattle.std.proofs.lemmas.List.{get_or-set_same, take-set}
use Rattle.edgelist.specs.Records.{HasForm, ReadsRecords}
use Rattle.edgelist.proofs.RowLemmas.{all-more, form-more, none-after, one-after}
use Rattle.edgelist.proofs.reading.read_rows.Goals as goal

pub returns-then-not-more-clause-end : goal.returns-then-not-more-clause-end
returns-then-not-more-clause-end g c = λ _.
    let none : c.in_ok-more.more ≡ false = search c.if-not-more.true in
    none-after g.R.Read.remaining c.args.reader.now c.loop-i.reader c.read.new.reader c.loop-i.rows c.loop-i.i c.read.new.self c.loop-i.invariant.reads (c.in_ok-more.ensures.end none)

pub returns-then-not-has_form-clause-one : goal.returns-then-not-has_form-clause-one
returns-then-not-has_form-clause-one g c = λ _.
    let more : c.in_ok-more.more ≡ true = search c.if-not-more.false in
    let lt : c.loop-i.i < length c.loop-i.rows = omega (arith, c.loop-i-test.true, c.requires, c.loop-i.auto.rows) in
    one-after g.R.Read.remaining c.args.reader.now c.loop-i.reader c.read.new.reader c.loop-i.rows c.loop-i.i c.read.new.self lt c.loop-i.invariant.reads (c.in_ok-more.ensures.one more)

pub loop-i-preserved : goal.loop-i-preserved
loop-i-preserved g c =
    let more : c.in_ok-more.more ≡ true = search c.if-not-more.false in
    let lt : c.loop-i.i < length c.loop-i.rows = omega (arith, c.loop-i-test.true, c.requires, c.loop-i.auto.rows) in
    let formed : HasForm c.read.new.self =
    subst (λ (r : List (List ℕ)). HasForm r) (get_or-set_same c.loop-i.rows c.loop-i.i c.read.new.self c.index-rows-i-in-loop-i.result lt) (sym c.has_form.ensures ∙ search c.if-not-has_form.false) in
    record {
      reads = all-more g.R.Read.remaining c.args.reader.now c.loop-i.reader c.read.new.reader c.loop-i.rows c.loop-i.i c.read.new.self lt c.loop-i.invariant.reads (c.in_ok-more.ensures.one more);
      form = form-more c.loop-i.rows c.loop-i.i c.read.new.self lt c.loop-i.invariant.form formed;
    }

pub returns-clause-form : goal.returns-clause-form
returns-clause-form g c =
    let at : c.loop-i.i ≡ c.args.most = omega (arith, c.loop-i-test.false, c.loop-i.auto.i-end) in
    subst (λ (rs : List (List (List ℕ))). All HasForm rs) (sym (take-set c.loop-i.rows c.args.most c.read-2.new.self))
    (subst (λ (k : ℕ). All HasForm (take k c.loop-i.rows)) at c.loop-i.invariant.form)

pub returns-clause-one : goal.returns-clause-one
returns-clause-one g c = λ more.
    let at : c.loop-i.i ≡ c.args.most = omega (arith, c.loop-i-test.false, c.loop-i.auto.i-end) in
    let reads = subst (λ (k : ℕ). ReadsRecords g.R.Read.remaining c.args.reader.now c.loop-i.reader (take k c.loop-i.rows)) at c.loop-i.invariant.reads in
    one-after g.R.Read.remaining c.args.reader.now c.loop-i.reader c.read-2.new.reader c.loop-i.rows c.args.most c.read-2.new.self (omega (arith, c.requires, c.loop-i.auto.rows)) reads (c.in_ok-more-2.ensures.one more)

pub returns-clause-end : goal.returns-clause-end
returns-clause-end g c = λ none.
    let at : c.loop-i.i ≡ c.args.most = omega (arith, c.loop-i-test.false, c.loop-i.auto.i-end) in
    let reads = subst (λ (k : ℕ). ReadsRecords g.R.Read.remaining c.args.reader.now c.loop-i.reader (take k c.loop-i.rows)) at c.loop-i.invariant.reads in
    none-after g.R.Read.remaining c.args.reader.now c.loop-i.reader c.read-2.new.reader c.loop-i.rows c.args.most c.read-2.new.self reads (c.in_ok-more-2.ensures.end none)
