use Rattle.std.proofs.Common.{◌≡◌, ◌∙◌, sym, ap}
use Rattle.std.specs.Prelude.{Result, Ok, Err, IfErr, IfOk, IsOk, OnErr, OnOk}
use Rattle.std.proofs.lemmas.Result.{IfErr-weaker}
use Rattle.ball_model.specs.Input.{Network}
use Rattle.graph.proofs.graph.Graph.count_only.Goals as goal

told-ok : {M T E : Type 0} (m : Result M E) (r : Result T E) (P Q : M → Type 0) (R : Type 0) → IfOk m P → IfOk m Q → IfErr m (λ e. r ≡ Err e) → ((x : M) → P x → Q x → R) → OnOk r R
told-ok (Ok x) (Ok y) P Q R p q same f = f x p q
told-ok (Ok x) (Err e) P Q R p q same f = tt
told-ok (Err e) r P Q R p q same f = rw same tt

told-err : {M T E : Type 0} (m : Result M E) (r : Result T E) (P : E → Type 0) → IfErr m P → IfErr m (λ e. r ≡ Err e) → IfOk m (λ _. IsOk r) → IfErr r P
told-err (Ok x) (Ok y) P p same ok = tt
told-err (Ok x) (Err e) P p same ok = absurd (cc)
told-err (Err e) r P p same ok = rw same p

told-kept : {M T E : Type 0} (m : Result M E) (r : Result T E) (P : Type 0) → IfErr m (λ _. P) → IfOk m (λ _. IsOk r) → OnErr r P
told-kept (Ok x) (Ok y) P p ok = tt
told-kept (Ok x) (Err e) P p ok = absurd (cc)
told-kept (Err e) (Ok y) P p ok = tt
told-kept (Err e) (Err f) P p ok = p

pub returns-clause-ok : goal.returns-clause-ok
returns-clause-ok c = λ plain.
    told-ok c.marks_of-marks.result c.count_marked.result _ _ _ (c.marks_of-marks.ensures.ok plain) c.count_marked.ensures.counts c.count_marked.ensures.fault
    (λ marks says is. says c.args.self.now (sym (ap (λ (net : Network). net.labels) c.self.view_is)) ∙ ap Ok (sym is))

pub returns-clause-refused : goal.returns-clause-refused
returns-clause-refused c = λ plain.
    told-err c.marks_of-marks.result c.count_marked.result _
    (IfErr-weaker c.marks_of-marks.result _ _ (λ e says. says c.args.self.now (sym (ap (λ (net : Network). net.labels) c.self.view_is))) (c.marks_of-marks.ensures.refused plain))
    c.count_marked.ensures.fault c.count_marked.ensures.ok

pub returns-clause-kept : goal.returns-clause-kept
returns-clause-kept c = told-kept c.marks_of-marks.result c.count_marked.result _ c.count_marked.ensures.kept c.count_marked.ensures.ok
