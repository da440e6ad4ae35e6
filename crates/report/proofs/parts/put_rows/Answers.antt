use Rattle.std.proofs.Common.{◌≡◌, ◌∙◌, ◌+◌, ◌-◌, ◌≤◌, ◌++◌, [], ℕ, List, append-nil, refl, ap, sym, arith, slice_index_or}
use Rattle.std.specs.List.{flat_map, range_with_len}
use Rattle.figures.specs.declared.ends.Figures.{Figures}
use Rattle.report.specs.Parts.{figures_at, figures_line, lists_in, vertices_text}
use Rattle.report.specs.Rows.{text_in}
use Rattle.report.proofs.TextLemmas.{line_more}
use Rattle.report.proofs.parts.put_rows.Goals as goal

no_vertices : (labels : List (List ℕ)) (first : ℕ) (parts : List (List Figures)) (a : ℕ) (start : List ℕ) → start ≡ start ++ vertices_text labels first parts a (a - a)
unfolding vertices_text
no_vertices labels first parts a start =
    let none : a - a ≡ 0 = omega arith in
    rw none (sym (append-nil start))

vertex_more : (labels : List (List ℕ)) (first : ℕ) (parts : List (List Figures)) (a x : ℕ) (start text line label : List ℕ) (f : Figures) → a ≤ x →
    text ≡ start ++ vertices_text labels first parts a (x - a) →
    line ≡ figures_line label f → label ≡ slice_index_or labels x [] → f ≡ figures_at first parts x → text ++ line ≡ start ++ vertices_text labels first parts a (x + 1 - a)
unfolding vertices_text
vertex_more labels first parts a x start text line label f from before here name own =
    let at : x ≡ a + (x - a) = omega arith in
    let next : x - a + 1 ≡ x + 1 - a = omega arith in
    let F : ℕ → List ℕ = λ x. figures_line (slice_index_or labels x []) (figures_at first parts x) in
    line_more F a (x - a) start text line before (here ∙ rw (name, own) (ap F at)) ∙ ap (λ n. start ++ flat_map F (range_with_len a n)) next

pub loop-x-init : goal.loop-x-init
loop-x-init c = record {
  row = c.requires.row;
  text = no_vertices c.args.graph.now.labels c.args.block.now.first (lists_in c.args.block.now.parts.items) c.args.vertices.start (text_in c.args.rows.now);
}

pub loop-x-preserved : goal.loop-x-preserved
loop-x-preserved c = record {
  row = c.in_ok-put_vertex.ensures.row;
  text = c.in_ok-put_vertex.ensures.text
      ∙ vertex_more c.args.graph.now.labels c.args.block.now.first (lists_in c.args.block.now.parts.items) c.args.vertices.start c.loop-x.x (text_in c.args.rows.now) (text_in c.loop-x.rows) (figures_line c.label.result.now c.figures_at.result)
      c.label.result.now c.figures_at.result c.loop-x.auto.x c.loop-x.invariant.text refl c.label.ensures c.figures_at.ensures;
}

pub returns : goal.returns
returns c =
    let all : c.loop-x.x ≡ c.args.vertices.end = omega (arith, c.loop-x.auto.x-end, c.requires.from) in
    c.loop-x.invariant.text
    ∙ ap (λ n. text_in c.args.rows.now ++ vertices_text c.args.graph.now.labels c.args.block.now.first (lists_in c.args.block.now.parts.items) c.args.vertices.start (n - c.args.vertices.start)) all
