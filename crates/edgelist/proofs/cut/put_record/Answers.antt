use Rattle.std.proofs.Common.{◌≡◌, ◌++◌, ◌∷◌, [], List, map, subst, sym}
use Rattle.std.specs.List.{All}
use Rattle.edgelist.specs.Cutting.{IsCut, cut_fields}
use Rattle.edgelist.specs.declared.cut.CutRecord.{CutRecord}
use Rattle.edgelist.proofs.CuttingLemmas.{all-pushed, fields-pushed}
use Rattle.edgelist.proofs.cut.put_record.Goals as goal

pub returns-in-Ok-clause-cut : goal.returns-in-Ok-clause-cut
returns-in-Ok-clause-cut c =
    subst (λ (rs : List CutRecord). All (IsCut c.put_fields.new.bytes.items) rs) (sym c.in-Ok.ensures.items)
    (all-pushed c.args.bytes.now.items c.put_fields.new.bytes.items c.args.records.now.items c.in-Some.record c.in-Some.ensures.extends c.requires c.in-Some.ensures.cut)

pub returns-in-Ok-clause-fields : goal.returns-in-Ok-clause-fields
returns-in-Ok-clause-fields c =
    subst (λ (rs : List CutRecord). map (cut_fields c.put_fields.new.bytes.items) rs ≡ map (cut_fields c.args.bytes.now.items) c.args.records.now.items ++ c.args.row.now ∷ []) (sym c.in-Ok.ensures.items)
    (fields-pushed c.args.bytes.now.items c.put_fields.new.bytes.items c.args.records.now.items c.in-Some.record c.args.row.now c.in-Some.ensures.extends c.requires c.in-Some.ensures.fields)
