use Rattle.std.proofs.Common.{◌≡◌, ◌+◌, ◌*◌, get_or, ap, sym, ◌∙◌, arith}
use Rattle.replica.proofs.Names.{PartValue}
use Rattle.replica.specs.Stage.{StageValue}
use Rattle.replica.specs.Sent.{TellingValue}
use Rattle.replica.proofs.SentLemmas.Told.{counted, sent_same, told_fed, told_few}
use Rattle.replica.proofs.SentLemmas.Telling.{stands, told_here, told_next}
use Rattle.replica.proofs.telling.Telling.tell_row.Goals as goal

pub overflow_add-told : goal.overflow_add-told
overflow_add-told c =
    let t = c.args.self.now in
    let told = c.args.told.now in
    let s = stands _ t c.args.k c.self.view_is c.self.invariant c.requires.below in
    omega (arith, told_few t.state (get_or t.vertices c.args.k 0) told.changed s.state s.changed.place (told_here t c.args.k told.changed told.ids.items told.places.items s c.requires.so_far).few)

pub returns-in_ok-push-2 : goal.returns-in_ok-push-2
returns-in_ok-push-2 c =
    let t = c.args.self.now in
    let k = c.args.k in
    let told = c.args.told.now in
    let s = stands _ t k c.self.view_is c.self.invariant c.requires.below in
    let vertex : c.vertex.result ≡ get_or t.vertices k 0 * t.state.part.plan.parts + t.state.part.number =
    c.vertex.ensures.value
    ∙ ap (λ (a : PartValue). get_or c.self.inside.vertices.now k 0 * a.plan.parts + a.number) (c.deref.ensures ∙ ap (λ (r : StageValue). r.state.part) c.s.view_is)
    ∙ ap (λ (u : TellingValue). get_or u.vertices k 0 * u.state.part.plan.parts + u.state.part.number) c.self.view_is in
    told_next t k _ _ _ s
    (told_fed t.state t.target (get_or t.vertices k 0) told.changed c.vertex.result told.ids.items told.places.items c.push.new.self.items c.push-then-is_fed.new.self.items s.state s.changed.place (told_here t k told.changed told.ids.items told.places.items s c.requires.so_far)
    s.changed.mark (sym c.feeds-is_fed.ensures ∙ c.if-is_fed.true) vertex c.in_ok-push.ensures.items c.in_ok-push-2.ensures.items)

pub returns-else-is_fed : goal.returns-else-is_fed
returns-else-is_fed c =
    let t = c.args.self.now in
    let told = c.args.told.now in
    let s = stands _ t c.args.k c.self.view_is c.self.invariant c.requires.below in
    let is = told_here t c.args.k told.changed told.ids.items told.places.items s c.requires.so_far in
    let one = counted t.state t.target (get_or t.vertices c.args.k 0) told.changed told.ids.items told.places.items s.state s.changed.place is s.changed.mark in
    told_next t c.args.k _ _ _ s (grind (arith, sent_same, one, is, s.changed.mark, sym c.feeds-is_fed.ensures ∙ c.if-is_fed.false))
