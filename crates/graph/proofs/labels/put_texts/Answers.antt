use Rattle.std.proofs.Common.{◌∙◌, ◌∷◌, ◌++◌, [], List, ℕ, ap, arith}
use Rattle.graph.proofs.CutLemmas.{starts-none, cut-none, map-more}
use Rattle.graph.proofs.labels.put_texts.Goals as goal

pub loop-text-init : goal.loop-text-init
loop-text-init c = record {
  starts = rw (c.in_ok-starts.ensures, c.requires) starts-none;
  labels = rw (c.in_ok-starts.ensures, c.requires) (cut-none []);
}

pub loop-text-preserved : goal.loop-text-preserved
loop-text-preserved c = record {
  starts = c.in_ok-starts-2.ensures.starts;
  labels = c.in_ok-starts-2.ensures.texts ∙ ap (λ (ls : List (List ℕ)). ls ++ c.deref.result.now ∷ []) c.loop-text.invariant.labels
      ∙ map-more (λ text. text.items) c.args.texts.now c.loop-text.text-index c.text-item.result c.deref.result.now (omega (arith, c.loop-text-test.true)) c.text-item.is c.deref.ensures.value;
}
