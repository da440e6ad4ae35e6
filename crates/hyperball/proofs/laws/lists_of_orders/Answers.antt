use Rattle.std.proofs.Common.{◌≡◌, ℕ, [], ap, arith, codes, length, lit<, refl}
use Rattle.std.specs.Prelude.{decimal, ◌<◌, ◌^◌}
use Rattle.std.proofs.lemmas.Fmt.{decimal_digit, decimal_nonempty}
use Rattle.ball_model.specs.WorldText.{node_word}
use Rattle.ball_model.specs.declared.names.NodeId.{NodeId}
use Rattle.hyperball.specs.Orders.{IsOrder, order_text, orders_text}
use Rattle.hyperball.proofs.OrderLemmas.{node-cut, none-is-read, order-cut, order-uncut, read-other}
use Rattle.hyperball.proofs.laws.lists_of_orders.Goals as goal

pub returns-clause-one : goal.returns-clause-one
unfolding node_word order_text orders_text
returns-clause-one c = record {
  some = λ e. absurd (cc);
  spelled = rw (decimal_digit 0 (lit< tt), decimal_digit 1 (lit< tt), decimal_digit 2 (lit< tt)) refl;
  fit = (record { node = record { part = lit< tt; replica = lit< tt }; superstep = lit< tt }, tt);
}

pub returns-clause-two : goal.returns-clause-two
unfolding node_word order_text orders_text
returns-clause-two c = record {
  some = λ e. absurd (cc);
  spelled = rw (decimal_digit 0 (lit< tt), decimal_digit 1 (lit< tt), decimal_digit 2 (lit< tt), decimal_digit 3 (lit< tt)) refl;
  fit = (
    record { node = record { part = lit< tt; replica = lit< tt }; superstep = lit< tt },
    (record { node = record { part = lit< tt; replica = lit< tt }; superstep = lit< tt }, tt),
  );
}

empty_is_none : (n : ℕ) → [] ≡ decimal n → n < 10 ^ 9 → ⊥
empty_is_none n is small =
    let some = decimal_nonempty n (omega (arith, small)) in
    let none : 0 ≡ length (decimal n) = ap length is in
    omega (arith, some, none)

no_superstep : (o : NodeId × ℕ) → IsOrder o → codes "0.0@" ≡ order_text o → ⊥
no_superstep o fits is = empty_is_none o.1 (order-cut (codes "0.0@") (codes "0.0") [] refl o fits is).1 fits.superstep

two_zeros : (o : NodeId × ℕ) → IsOrder o → codes "00.0@1" ≡ order_text o → ⊥
two_zeros o fits is =
    let node = (order-cut (codes "00.0@1") (codes "00.0") (codes "1") refl o fits is).0 in
    let part = (node-cut (codes "00.0") (codes "00") (codes "0") refl o.0 fits.node node).0 in
    read-other (codes "00") refl o.0.part (omega (arith, fits.node.part)) part

pub returns-clause-unsaid : goal.returns-clause-unsaid
returns-clause-unsaid c = none-is-read (codes "0.0@") (codes "0.0@") 0 (lit< tt) refl no_superstep

pub returns-clause-zeros : goal.returns-clause-zeros
returns-clause-zeros c = none-is-read (codes "00.0@1") (codes "00.0@1") 0 (lit< tt) refl two_zeros

pub returns-clause-ended : goal.returns-clause-ended
returns-clause-ended c = none-is-read (codes "0.0@1,") [] 1 (lit< tt) refl (order-uncut [] refl)

pub returns-clause-empty : goal.returns-clause-empty
returns-clause-empty c = none-is-read [] [] 0 (lit< tt) refl (order-uncut [] refl)
