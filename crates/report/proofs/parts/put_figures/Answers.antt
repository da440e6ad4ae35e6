use Rattle.std.proofs.Common.{◌≡◌, ◌∙◌, ◌+◌, ◌++◌, ◌<◌, ◌∷◌, [], ℕ, List, Vec, map, take, get_or, length, ap, sym, subst, arith, inl, inr}
use Rattle.std.proofs.lemmas.Bool.{cases_lt}
use Rattle.std.specs.Global.{Global}
use Rattle.std.proofs.lemmas.List.{get_or_default, map-append, take_all, take_more}
use Rattle.figures.specs.declared.ends.Figures.{Figures}
use Rattle.ball_model.specs.State.{State}
use Rattle.report.specs.Parts.{HasSize, figures_among, lists_in}
use Rattle.report.proofs.parts.put_figures.Goals as goal

-- one partition more
figures_more : (first last : ℕ) (parts more : List (Vec Figures Global)) (own : Vec Figures Global) (vs : List State) (k : ℕ) (v : State) → k < length vs → v ≡ get_or vs k v →
    more ≡ parts ++ own ∷ [] → lists_in parts ≡ map (figures_among first last) (take k vs) →
    own.items ≡ figures_among first last v → lists_in more ≡ map (figures_among first last) (take (k + 1) vs)
figures_more first last parts more own vs k v lt is made before here =
    ap lists_in made
    ∙ map-append (λ (v : Vec Figures Global). v.items) parts (own ∷ [])
    ∙ ap (λ l. l ++ own.items ∷ []) before
    ∙ ap (λ f. map (figures_among first last) (take k vs) ++ f ∷ []) (here ∙ ap (figures_among first last) is)
    ∙ sym (map-append (figures_among first last) (take k vs) (get_or vs k v ∷ []))
    ∙ ap (map (figures_among first last)) (sym (take_more vs k v lt))

sizes_more : (vs : List State) (n : ℕ) (v : State) → n < length vs → v ≡ get_or vs n v → HasSize v → ((k : ℕ) (d : State) → k < n → HasSize (get_or vs k d)) →
    (k : ℕ) (d : State) → k < n + 1 → HasSize (get_or vs k d)
sizes_more vs n v inside is here before k d lt =
    elim (cases_lt k n) [
      | inl lower ↦ before k d lower
      | inr at ↦
          let same : k ≡ n = omega arith in
          subst (λ w. HasSize w) (is ∙ get_or_default vs n v d inside ∙ ap (λ i. get_or vs i d) (sym same)) here
    ]

pub loop-replica-preserved : goal.loop-replica-preserved
loop-replica-preserved g c = record {
  sizes = sizes_more c.args.replicas.now c.loop-replica.replica-index c.replica-item.result c.loop-replica-test.true c.replica-item.is c.in_ok-own_figures.ensures.size c.loop-replica.invariant.sizes;
  made = figures_more c.args.places.now.start c.args.places.now.end c.loop-replica.parts.items c.push.new.self.items c.in_ok-own_figures.field-0 c.args.replicas.now c.loop-replica.replica-index c.replica-item.result
      c.loop-replica-test.true c.replica-item.is c.in_ok-push.ensures.items c.loop-replica.invariant.made c.in_ok-own_figures.ensures.value;
}

pub returns-clause-value : goal.returns-clause-value
returns-clause-value g c = c.loop-replica.invariant.made ∙ ap (map (figures_among c.args.places.now.start c.args.places.now.end)) (take_all c.loop-replica.replica-index c.args.replicas.now c.loop-replica-test.false)

pub returns-clause-sizes : goal.returns-clause-sizes
returns-clause-sizes g c = λ k d lt. c.loop-replica.invariant.sizes k d (omega arith)
