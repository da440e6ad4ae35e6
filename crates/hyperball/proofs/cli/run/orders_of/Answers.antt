use Rattle.std.proofs.Common.{◌∙◌, ◌||◌, Bool, ap, codes, sym}
use Rattle.std.proofs.Math.Bool.{or-true}
use Rattle.std.specs.Prelude.{is_some}
use Rattle.clap.specs.Words.{first_of, found_of, rows_of}
use Rattle.hyperball.proofs.OptionLemmas.{both_listed, given_is, given_listed, listed_back, listed_is, maybe_listed, unlisted_given}
use Rattle.hyperball.proofs.cli.run.orders_of.Goals as goal

pub returns-then-not-is_listed-clause-form : goal.returns-then-not-is_listed-clause-form
returns-then-not-is_listed-clause-form c = λ form.
    let f = found_of c.args.matches.now in
    ap (λ (b : Bool). is_some (first_of (codes "lose") (rows_of f)) || b) (given_is f (codes "restart") _ c.get_str-restart.ensures (unlisted_given _ (λ os are. c.is_listed.ensures.no os (search c.if-not-is_listed.true) are)))
    ∙ or-true (is_some (first_of (codes "lose") (rows_of f)))

pub returns-then-not-is_listed-clause-misspelt : goal.returns-then-not-is_listed-clause-misspelt
returns-then-not-is_listed-clause-misspelt c = λ form lists.
    let f = found_of c.args.matches.now in
    c.is_listed.ensures.no lists.restart (search c.if-not-is_listed.true) (listed_back f (codes "restart") _ lists.restart c.get_str-restart.ensures lists.restart_is)

pub returns-in-Err-clause-form : goal.returns-in-Err-clause-form
returns-in-Err-clause-form c = λ form.
    let f = found_of c.args.matches.now in
    ap (λ (b : Bool). b || is_some (first_of (codes "restart") (rows_of f))) (given_is f (codes "lose") _ c.get_str.ensures (c.in-Err.ensures.form form))

pub returns-in-Err-clause-misspelt : goal.returns-in-Err-clause-misspelt
returns-in-Err-clause-misspelt c = λ form lists.
    let f = found_of c.args.matches.now in
    let memory = c.in-Err.ensures.read lists.lose (listed_back f (codes "lose") _ lists.lose c.get_str.ensures lists.lose_is) in
    let both = sym form ∙ memory in
    absurd (cc)

pub returns-in-Err-clause-memory : goal.returns-in-Err-clause-memory
returns-in-Err-clause-memory c = λ memory.
    let f = found_of c.args.matches.now in
    both_listed f _ _ c.get_str.ensures c.get_str-restart.ensures (given_listed _ (c.in-Err.ensures.memory memory)) (maybe_listed _ (c.is_listed.ensures.yes (search c.if-not-is_listed.false)))

pub returns-in-Err-listed_orders-clause-form : goal.returns-in-Err-listed_orders-clause-form
returns-in-Err-listed_orders-clause-form c = λ form.
    let f = found_of c.args.matches.now in
    ap (λ (b : Bool). is_some (first_of (codes "lose") (rows_of f)) || b) (given_is f (codes "restart") _ c.get_str-restart.ensures (c.in-Err-listed_orders.ensures.form form)) ∙ or-true (is_some (first_of (codes "lose") (rows_of f)))

pub returns-in-Err-listed_orders-clause-misspelt : goal.returns-in-Err-listed_orders-clause-misspelt
returns-in-Err-listed_orders-clause-misspelt c = λ form lists.
    let f = found_of c.args.matches.now in
    let memory = c.in-Err-listed_orders.ensures.read lists.restart (listed_back f (codes "restart") _ lists.restart c.get_str-restart.ensures lists.restart_is) in
    let both = sym form ∙ memory in
    absurd (cc)

pub returns-in-Err-listed_orders-clause-memory : goal.returns-in-Err-listed_orders-clause-memory
returns-in-Err-listed_orders-clause-memory c = λ memory.
    let f = found_of c.args.matches.now in
    both_listed f _ _ c.get_str.ensures c.get_str-restart.ensures (record { orders = _; are = c.in-Ok.ensures.listed }) (given_listed _ (c.in-Err-listed_orders.ensures.memory memory))

pub returns-in-Ok-listed_orders-clause-listed : goal.returns-in-Ok-listed_orders-clause-listed
returns-in-Ok-listed_orders-clause-listed c =
    let f = found_of c.args.matches.now in
    record {
      lose = listed_is f (codes "lose") _ _ c.get_str.ensures c.in-Ok.ensures.listed;
      restart = listed_is f (codes "restart") _ _ c.get_str-restart.ensures c.in-Ok-listed_orders.ensures.listed;
    }
