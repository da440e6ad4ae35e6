use Rattle.std.proofs.Common.{inr}
use Rattle.graph.specs.Records.{byte_of}
use Rattle.graph.proofs.RecordLemmas.{is_delimiter, left-start}
use Rattle.graph.proofs.records.reader_of.Goals as goal

pub returns : goal.returns
returns g c = λ text known plain.
    let h = c.from_reader.ensures in
    let configured = rw (c.delimiter.ensures, c.comment.ensures, c.quoting.ensures, c.flexible.ensures, c.has_headers.ensures, c.byte.ensures, c.new.ensures.config) at h.config in
    let named = rw (c.delimiter.ensures, c.comment.ensures, c.quoting.ensures, c.flexible.ensures, c.has_headers.ensures) at h.has_headers in
    let flexible = rw (c.delimiter.ensures, c.comment.ensures, c.quoting.ensures, c.flexible.ensures) at h.flexible in
    let trims = rw (c.delimiter.ensures, c.comment.ensures, c.quoting.ensures, c.flexible.ensures, c.has_headers.ensures, c.new.ensures.trim) at h.trim in
    left-start g.R.Read.remaining (byte_of c.args.delimiter) text c.from_reader.result (is_delimiter c.args.delimiter) plain.ends
    trims (inr (inr (named, h.headers))) configured flexible h.state (rw known at h.source)
