-- The plan that options give is of the graph.
use Rattle.std.proofs.Common.{◌≡◌, ◌<◌, ◌≤◌, ◌^◌, nat_lt, length, refl, sym, arith}
use Rattle.std.specs.Prelude.{Result, Ok, Err, IfOk, Bool, false, ℕ, List, ◌||◌}
use Rattle.sha2.proofs.Facts256.{length-sha256}
use Rattle.ball_model.specs.Graph.{Graph, IsGraph}
use Rattle.ball_model.specs.PlanValue.{PlanValue, IsPlan, most_vertices, plan_within}
use Rattle.ball_model.specs.declared.plan.PlanError.{PlanError}
use Rattle.ball_model.specs.Job.{IsJob, digest_of, digest_bytes, job_bytes}
use Rattle.ball_model.specs.RunText.{Numbers, plan_over}
use Rattle.graph.specs.Planning.{bare_plan, signed}
use Rattle.std.proofs.lemmas.Bool.{or_parts, ltb-false}
use Rattle.ball_model.proofs.BoolLemmas.{by_cases}

abbrev IsGood : PlanValue → PlanValue → Type 0
IsGood p q = IsPlan q × (q ≡ p)

-- a plan within the limits is one
plan-good : (most : ℕ) (p : PlanValue) → most ≤ most_vertices → p.seed < 2 ^ 64 → length p.job ≡ 32 → IfOk (plan_within most p) (λ q. IsGood p q)
plan-good most p few seed digest =
    by_cases (nat_lt p.log2m 4 || nat_lt 10 p.log2m) _ (λ t. rw t tt)
    (λ a. by_cases (nat_lt p.parts 1 || nat_lt 64 p.parts) _ (λ t. rw (a, t) tt)
    (λ b. by_cases (nat_lt p.limit 1 || nat_lt 4096 p.limit) _ (λ t. rw (a, b, t) tt)
    (λ d. by_cases (nat_lt most p.vertices) _ (λ t. rw (a, b, d, t) tt)
    (λ e.
    let widths = or_parts (nat_lt p.log2m 4) (nat_lt 10 p.log2m) a in
    let parts = or_parts (nat_lt p.parts 1) (nat_lt 64 p.parts) b in
    let limits = or_parts (nat_lt p.limit 1) (nat_lt 4096 p.limit) d in
    rw (a, b, d, e) (
      record {
        log2m_from = ltb-false p.log2m 4 widths.0;
        log2m_to = ltb-false 10 p.log2m widths.1;
        seed_to = seed;
        parts_from = ltb-false p.parts 1 parts.0;
        parts_to = ltb-false 64 p.parts parts.1;
        limit_from = ltb-false p.limit 1 limits.0;
        limit_to = ltb-false 4096 p.limit limits.1;
        vertices_to = omega (arith, few, ltb-false most p.vertices e);
        digest = digest;
      },
      refl,
    )))))

job-of : (g : Graph) (n : Numbers) (q : PlanValue) → IsGraph g → IsGood (plan_over n g) q → IsJob (record { graph = g; plan = q })
unfolding digest_of digest_bytes job_bytes
job-of g n q ok (plan, is) = record {
  graph = ok;
  plan = plan;
  vertices = rw is refl;
  digest = rw is refl;
}

length-digest : (p : PlanValue) (g : Graph) → length (digest_of p g) ≡ 32
unfolding digest_of
length-digest p g = length-sha256 (digest_bytes p g)

-- the plan of options is a job's
pub plan-job : (most : ℕ) (o : Result PlanValue PlanError) (g : Graph) (n : Numbers) → most ≤ most_vertices → IsGraph g → n.seed < 2 ^ 64 →
    o ≡ plan_within most (plan_over n g) → IfOk o (λ q. IsJob (record { graph = g; plan = q }))
plan-job most (Ok q) g n few ok fits is = job-of g n q ok (rw (← is) at (plan-good most (plan_over n g) few fits (length-digest (bare_plan n g) g)))
plan-job most (Err e) g n few ok fits is = tt

-- where numbers are those of a plan, they are whatever the digest is and however estimates are made
abbrev AreNumbers : ℕ → PlanValue → PlanValue → Bool → List ℕ → Type 0
AreNumbers most p q c d = (q ≡ p) × (plan_within most (record p { corrected = c; job = d }) ≡ Ok (record p { corrected = c; job = d }))

plan-numbers : (most : ℕ) (p : PlanValue) (c : Bool) (d : List ℕ) → IfOk (plan_within most p) (λ q. AreNumbers most p q c d)
plan-numbers most p c d =
    by_cases (nat_lt p.log2m 4 || nat_lt 10 p.log2m) _ (λ t. rw t tt)
    (λ a. by_cases (nat_lt p.parts 1 || nat_lt 64 p.parts) _ (λ t. rw (a, t) tt)
    (λ b. by_cases (nat_lt p.limit 1 || nat_lt 4096 p.limit) _ (λ t. rw (a, b, t) tt)
    (λ e. by_cases (nat_lt most p.vertices) _ (λ t. rw (a, b, e, t) tt)
    (λ f. rw (a, b, e, f) (refl, refl)))))

-- a plan of these numbers, signed, is the one that is asked for
pub signed-plan : (most : ℕ) (n : Numbers) (g : Graph) (d e : List ℕ) (q r : PlanValue) →
    ◌≡◌ {A = Result PlanValue PlanError} (Ok q) (plan_within most (record (bare_plan n g) { corrected = false; job = d })) →
    (q ≡ record (bare_plan n g) { corrected = false; job = d } → r ≡ record (bare_plan n g) { job = e }) →
    ◌≡◌ {A = Result PlanValue PlanError} (Ok (signed g r)) (plan_within most (plan_over n g))
unfolding digest_of digest_bytes job_bytes
signed-plan most n g d e q r is same =
    let raw : PlanValue = record (bare_plan n g) { corrected = false; job = d } in
    let both : AreNumbers most raw q n.corrected (digest_of (bare_plan n g) g) =
    rw (← is) at (plan-numbers most raw n.corrected (digest_of (bare_plan n g) g)) in
    rw (same both.0) (sym both.1)
