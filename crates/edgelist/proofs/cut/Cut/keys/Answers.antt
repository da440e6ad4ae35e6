use Rattle.std.proofs.Common.{◌≡◌, ◌∙◌, ◌<◌, List, ℕ, [], length, map, get_or, ap, arith, sym}
use Rattle.std.proofs.lemmas.List.{length-map}
use Rattle.edgelist.specs.Cutting.{cut_fields}
use Rattle.edgelist.proofs.CuttingLemmas.{at-record, first-key, record-cut, second-key}
use Rattle.edgelist.proofs.cut.Cut.keys.Goals as goal

pub returns-clause-source : goal.returns-clause-source
returns-clause-source c =
    let bytes = c.self.inside.bytes.items in
    let rs = c.self.inside.records.items in
    let r = c.index-record.result.now in
    let i = c.args.i in
    let here : r ≡ get_or rs i r = search (c.index-record.ensures) in
    let long : length (map (cut_fields bytes) rs) ≡ length rs = simp length-map in
    let lt : i < length rs = omega (arith, long, ap length c.self.view_is, c.requires) in
    first-key bytes r (get_or c.args.self.now i []) (ap (λ (l : List (List (List ℕ))). get_or l i []) (sym c.self.view_is) ∙ at-record bytes rs i r lt here) (record-cut bytes rs i r lt here c.self.invariant)

pub returns-clause-target : goal.returns-clause-target
returns-clause-target c =
    let bytes = c.self.inside.bytes.items in
    let rs = c.self.inside.records.items in
    let r = c.index-record.result.now in
    let i = c.args.i in
    let here : r ≡ get_or rs i r = search (c.index-record.ensures) in
    let long : length (map (cut_fields bytes) rs) ≡ length rs = simp length-map in
    let lt : i < length rs = omega (arith, long, ap length c.self.view_is, c.requires) in
    second-key bytes r (get_or c.args.self.now i []) (ap (λ (l : List (List (List ℕ))). get_or l i []) (sym c.self.view_is) ∙ at-record bytes rs i r lt here) (record-cut bytes rs i r lt here c.self.invariant)
