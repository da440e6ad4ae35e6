use Rattle.std.proofs.Common.{◌≡◌, ◌+◌, ◌*◌, [], List, ℕ, ◌&&◌, false, get_or, ap, sym, ◌∙◌, arith}
use Rattle.replica.proofs.Names.{PartValue, Table}
use Rattle.ball_model.specs.Masks.{has_bit}
use Rattle.replica.specs.Stage.{StageValue}
use Rattle.replica.specs.Sent.{TellingValue}
use Rattle.replica.proofs.SentLemmas.Sent.{sent_above, sent_fits, sent_no, sent_room, sent_yes}
use Rattle.replica.proofs.SentLemmas.Telling.{Stands, sent_here, sent_next, stands}
use Rattle.replica.proofs.telling.Telling.send_row.Goals as goal
use Rattle.replica.proofs.telling.Telling.send_row.Goals.{After-row}

at : (c : After-row) → Stands c.args.self.now c.args.k
at c = stands _ c.args.self.now c.args.k c.self.view_is c.self.invariant c.requires.below

-- the vertex, and its row
vertex : (c : After-row) → c.vertex.result ≡ get_or c.args.self.now.vertices c.args.k 0 * c.args.self.now.state.part.plan.parts + c.args.self.now.state.part.number
vertex c =
    c.vertex.ensures.value
    ∙ ap (λ (a : PartValue). get_or c.self.inside.vertices.now c.args.k 0 * a.plan.parts + a.number) (c.deref.ensures ∙ ap (λ (k : StageValue). k.state.part) c.s.view_is)
    ∙ ap (λ (t : TellingValue). get_or t.vertices c.args.k 0 * t.state.part.plan.parts + t.state.part.number) c.self.view_is

row : (c : After-row) → c.row.result.now ≡ get_or c.args.self.now.state.rows (get_or c.args.self.now.vertices c.args.k 0) []
row c =
    c.row.ensures.value
    ∙ ap (λ (l : List (List ℕ)). get_or l (get_or c.self.inside.vertices.now c.args.k 0) []) (ap (λ (t : Table). t.rows) c.rows.ensures ∙ ap (λ (k : StageValue). k.state.rows) c.s.view_is)
    ∙ ap (λ (t : TellingValue). get_or t.state.rows (get_or t.vertices c.args.k 0) []) c.self.view_is

pub push-requires-clause-row : goal.push-requires-clause-row
push-requires-clause-row c =
    let t = c.args.self.now in
    let a = (goal.at.push-requires-clause-row c).After-row in
    let s = at a in
    sent_fits t.state t.target (get_or t.vertices c.args.k 0) c.vertex.result c.row.result.now c.args.batch.now s.state (sent_here t c.args.k c.args.batch.now s c.requires.so_far) s.changed.place (vertex a) (row a)

pub push-requires-clause-above : goal.push-requires-clause-above
push-requires-clause-above c =
    let t = c.args.self.now in
    let a = (goal.at.push-requires-clause-above c).After-row in
    let s = at a in
    sent_above t.state t.target (get_or t.vertices c.args.k 0) c.vertex.result c.args.batch.now s.state (sent_here t c.args.k c.args.batch.now s c.requires.so_far) (vertex a)

pub push-requires-clause-room : goal.push-requires-clause-room
push-requires-clause-room c =
    let t = c.args.self.now in
    let s = at (goal.at.push-requires-clause-room c).After-row in
    sent_room t.state t.target (get_or t.vertices c.args.k 0) c.args.batch.now (sent_here t c.args.k c.args.batch.now s c.requires.so_far) (omega (arith, s.changed.place, s.state.marks)) s.changed.mark

pub returns-in_ok-push : goal.returns-in_ok-push
returns-in_ok-push c =
    let t = c.args.self.now in
    let a = (goal.at.returns-in_ok-push c).After-row in
    let s = at a in
    sent_next t c.args.k _ s (c.in_ok-push.ensures.ok ∙ sent_yes t.state t.target (get_or t.vertices c.args.k 0) c.vertex.result c.row.result.now c.args.batch.now (sent_here t c.args.k c.args.batch.now s c.requires.so_far) s.changed.mark (sym c.feeds.ensures ∙ c.if-feeds.true) (vertex a) (row a))

pub returns-else-feeds : goal.returns-else-feeds
returns-else-feeds c =
    let t = c.args.self.now in
    let s = stands _ t c.args.k c.self.view_is c.self.invariant c.requires.below in
    let off : (get_or t.state.marks (get_or t.vertices c.args.k 0) false && has_bit (get_or t.state.part.feeds (get_or t.vertices c.args.k 0) 0) t.target) ≡ false = rw s.changed.mark (sym c.feeds.ensures ∙ c.if-feeds.false) in
    sent_next t c.args.k _ s (sent_no t.state t.target (get_or t.vertices c.args.k 0) c.args.batch.now (sent_here t c.args.k c.args.batch.now s c.requires.so_far) off)
