use Rattle.std.proofs.Common.{◌∙◌, sym}
use Rattle.edgelist.proofs.CuttingLemmas.{cut-fields-made, cut-made}
use Rattle.edgelist.proofs.cut.put_fields.Goals as goal

pub returns-clause-cut : goal.returns-clause-cut
returns-clause-cut c =
    let first = c.in-Some-put.ensures.items in
    let second = c.in-Some-put_second.ensures.items in
    rw (second, first) (cut-made c.args.bytes.now.items c.in-Some.source.now _ c.in-Some-end_of.start c.in-Some-put.middle c.in-Some-put_second.end c.args.row.now c.source_key.result c.target_key.result
    (rw c.in-Some.ensures.fields at c.in-Some.ensures.form) c.in-Some-end_of.ensures (rw first at c.in-Some-put.ensures.end) (rw (second, first) at c.in-Some-put_second.ensures.end)
    c.in-Some.ensures.fields c.source_key.ensures c.target_key.ensures)

pub returns-clause-fields : goal.returns-clause-fields
returns-clause-fields c =
    let first = c.in-Some-put.ensures.items in
    let second = c.in-Some-put_second.ensures.items in
    rw (second, first) (cut-fields-made c.args.bytes.now.items c.in-Some.source.now _ c.in-Some-end_of.start c.in-Some-put.middle c.in-Some-put_second.end c.source_key.result c.target_key.result
    (rw c.in-Some.ensures.fields at c.in-Some.ensures.form) c.in-Some-end_of.ensures (rw first at c.in-Some-put.ensures.end) (rw (second, first) at c.in-Some-put_second.ensures.end))
    ∙ sym c.in-Some.ensures.fields
