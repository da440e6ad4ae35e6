use Rattle.std.proofs.Common.{◌≡◌, length, take, map, replicate, option_map, arith, ◌∙◌, length-take, ap}
use Rattle.replica.proofs.Names.{None, arc_value, take_at, drop_at, map-append, drop-map}
use Rattle.replica.proofs.early.shift_slots.Goals as goal

pub returns : goal.returns
returns c =
    let front : length (take c.args.count c.args.slots.now) ≡ c.args.count = omega (arith, length-take c.args.count c.args.slots.now) in
    let long : length c.clear.new.slots ≡ c.args.count = c.clear.auto.slots ∙ front in
    let is : map (option_map arc_value) c.clear.new.slots ≡ replicate c.args.count None = c.clear.ensures ∙ ap (λ n. replicate n None) front in
    grind (arith, take_at, drop_at, map-append, drop-map)
