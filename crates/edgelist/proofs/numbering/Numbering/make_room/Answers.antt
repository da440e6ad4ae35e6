use Rattle.std.proofs.Common.{◌≡◌, length, ap, arith}
use Rattle.edgelist.specs.Guessing.{AreGuesses}
use Rattle.graph.specs.Labels.{texts}
use Rattle.edgelist.specs.declared.numbering.LabelGuess.{LabelGuess}
use Rattle.graph.proofs.FeedLemmas.{refill}
use Rattle.edgelist.proofs.GuessLemmas.{told-blank}
use Rattle.edgelist.proofs.numbering.Numbering.make_room.Goals as goal

pub invariant_of-self : goal.invariant_of-self
invariant_of-self c =
    let labels = texts c.self.inside.labels in
    let same : length c.put_entries.new.entries ≡ length c.in_ok-entries.entries.items = omega (arith, ap (length {A = LabelGuess}) c.deref_mut.ensures.value, c.put_entries.auto.entries) in
    let full : c.in_ok-entries.entries.len ≡ length c.in_ok-entries.entries.items = omega (arith, c.deref_mut.ensures.len, ap (length {A = LabelGuess}) c.deref_mut.ensures.value) in
    let smaller : AreGuesses labels c.deref.result.now = rw c.deref.ensures.value c.self.invariant in
    let blank : AreGuesses labels c.deref_mut.result.now = rw (c.deref_mut.ensures.value, c.in_ok-entries.ensures) (told-blank labels _) in
    rw (refill c.put_entries.new.entries c.in_ok-entries.entries.items c.in_ok-entries.entries.len full same) (c.put_entries.ensures labels smaller blank)

pub returns-in_ok-entries : goal.returns-in_ok-entries
returns-in_ok-entries c = c.self.view_is
