use Rattle.std.proofs.Common.{◌≡◌, false, Option, None, Some, is_some, refl, sym, ◌∙◌}
use Rattle.replica.specs.Relay.{shown_of}
use Rattle.replica.proofs.relay.rows.part.Goals as goal

-- without a table that is handed out the own one is shown
own_is_shown : {T : Type 0} → (own : T) (out : Option T) → is_some out ≡ false → own ≡ shown_of own out
unfolding shown_of
own_is_shown own None none = refl
own_is_shown own (Some table) none = absurd (cc)

pub returns-else-is_some-clause-own : goal.returns-else-is_some-clause-own
returns-else-is_some-clause-own c = own_is_shown c.args.own.now c.args.out.now (sym c.is_some.ensures ∙ c.if-is_some.false)
