-- What `clap` reads of an option is what its words say.
use Rattle.std.proofs.Common.{◌≡◌, ◌<◌, ◌^◌, ℕ, Bool, true, false, List, [], Option, Some, None, codes, refl, ap, sym, subst, ◌∙◌}
use Rattle.std.specs.Prelude.{⊤, MatchOption, Result, is_some, unwrap_or}
use Rattle.std.specs.Str.Parse.{ParsesUnsigned}
use Rattle.clap.specs.Words.{ReadsOne, Text, first_of, first_value, one_text, rows_of}
use Rattle.clap.specs.declared.parser.matches.Found.{Found}
use Rattle.clap.proofs.WalkLemmas.{first_value-rows, one_text-rows}
use Rattle.ball_model.specs.declared.plan.Estimate.{Estimate}
use Rattle.graph.specs.declared.delimiter.Delimiter.{Delimiter}
use Rattle.job.specs.declared.input.JobInput.{JobInput}
use Rattle.hyperball.specs.declared.cli.gather.GatherArgs.{GatherArgs}
use Rattle.hyperball.specs.declared.cli.one_node.NodeArgs.{NodeArgs}
use Rattle.hyperball.specs.declared.cli.replay.ReplayArgs.{ReplayArgs}
use Rattle.hyperball.specs.declared.cli.run.RunArgs.{RunArgs}
use Rattle.ball_model.specs.declared.names.NodeId.{NodeId}
use Rattle.hyperball.specs.Orders.{AreOrders, SpellsOrders}
use Rattle.hyperball.specs.Words.{IsFlag, IsListed, IsNamedOr, IsNumber, IsNumberOr, SpellLists, flag_text}

number_of : {E : Type 0} (A B : List ℕ → Result ℕ E → Type 0) (one : Option Text) (usual bits n : ℕ) (r : Option ℕ) → (one ≡ None → r ≡ None) →
    ((t : Text) → one ≡ Some t → ReadsOne (λ bs x. ParsesUnsigned bits 10 bs x × A bs x × B bs x) t r) →
    MatchOption one (n ≡ usual) (λ t. IsNumber bits t n) → unwrap_or r usual ≡ n
number_of A B None usual bits n r none value is = ap (λ o. unwrap_or o usual) (none refl) ∙ sym is
number_of A B (Some t) usual bits n None none value is = absurd ((value t refl).1.0 (is.numeral, subst (λ k. k < 2 ^ bits) is.value is.fits))
number_of A B (Some t) usual bits n (Some v) none value is = (value t refl).0.1 ∙ sym is.value

-- a number that was read, or the usual one
pub number_is : {E : Type 0} (A B : List ℕ → Result ℕ E → Type 0) (f : Found) (id : Text) (usual bits n : ℕ) (r : Option ℕ) → (one_text f id ≡ None → r ≡ None) →
    ((t : Text) → one_text f id ≡ Some t → ReadsOne (λ bs x. ParsesUnsigned bits 10 bs x × A bs x × B bs x) t r) →
    IsNumberOr usual bits (rows_of f) id n → unwrap_or r usual ≡ n
number_is A B f id usual bits n r none value is =
    number_of A B (one_text f id) usual bits n r none value (subst (λ o. MatchOption o (n ≡ usual) (λ t. IsNumber bits t n)) (sym (one_text-rows f id)) is)

-- a name that was read
pub name_is : {A : Type 0} (usual : A) (name_of : A → Text) (f : Found) (id : Text) (a : A) (name : Option Text) → name ≡ first_value f id → IsNamedOr usual name_of (rows_of f) id a →
    MatchOption name (a ≡ usual) (λ n. n ≡ name_of a)
name_is usual name_of f id a name read is = subst (λ o. MatchOption o (a ≡ usual) (λ n. n ≡ name_of a)) (sym (read ∙ first_value-rows f id)) is

flag_of : (one : Option Text) (given b : Bool) → (one ≡ None → given ≡ false) → (one ≡ Some (codes "true") → given ≡ true) → (one ≡ Some (codes "false") → given ≡ false) →
    MatchOption one (b ≡ false) (λ t. t ≡ flag_text b) → given ≡ b
flag_of None given b none value other is = none refl ∙ sym is
flag_of (Some t) given true none value other is = value (ap Some is)
flag_of (Some t) given false none value other is = other (ap Some is)

-- a flag that was read
pub flag_is : (f : Found) (id : Text) (given b : Bool) → (one_text f id ≡ None → given ≡ false) → (one_text f id ≡ Some (codes "true") → given ≡ true) → (one_text f id ≡ Some (codes "false") → given ≡ false) →
    IsFlag (rows_of f) id b → given ≡ b
flag_is f id given b none value other is =
    flag_of (one_text f id) given b none value other (subst (λ o. MatchOption o (b ≡ false) (λ t. t ≡ flag_text b)) (sym (one_text-rows f id)) is)

pub same_args : (log2m seed parts limit : ℕ) (e : Estimate) (d : Delimiter) (large : Bool) (replicas entries keep patience threads : ℕ) (counted progress : Bool) (w : RunArgs) → log2m ≡ w.options.log2m → seed ≡ w.options.seed → parts ≡ w.options.parts → limit ≡ w.options.limit →
    e ≡ w.options.estimate → d ≡ w.options.delimiter → large ≡ w.options.large → replicas ≡ w.options.replicas → entries ≡ w.options.entries → keep ≡ w.options.keep → patience ≡ w.options.patience → threads ≡ w.options.threads → counted ≡ w.counted → progress ≡ w.progress →
    ◌≡◌ {A = RunArgs} (record { options = record { log2m = log2m; seed = seed; parts = parts; limit = limit; estimate = e; delimiter = d; large = large; replicas = replicas; entries = entries; keep = keep; patience = patience; threads = threads; lose = w.options.lose; restart = w.options.restart }; counted = counted; progress = progress }) w
same_args log2m seed parts limit e d large replicas entries keep patience threads counted progress w a b p l k g z r n m q t h s = λ i. record { options = record { log2m = a i; seed = b i; parts = p i; limit = l i; estimate = k i; delimiter = g i; large = z i; replicas = r i; entries = n i; keep = m i; patience = q i; threads = t i; lose = w.options.lose; restart = w.options.restart }; counted = h i; progress = s i }

pub same_replay_args : (log2m seed parts limit replicas : ℕ) (e : Estimate) (d : Delimiter) (counted progress : Bool) (w : ReplayArgs) → log2m ≡ w.options.log2m → seed ≡ w.options.seed → parts ≡ w.options.parts → limit ≡ w.options.limit → replicas ≡ w.options.replicas →
    e ≡ w.options.estimate → d ≡ w.options.delimiter → counted ≡ w.counted → progress ≡ w.progress →
    ◌≡◌ {A = ReplayArgs} (record { options = record { log2m = log2m; seed = seed; parts = parts; limit = limit; replicas = replicas; estimate = e; delimiter = d }; counted = counted; progress = progress }) w
same_replay_args log2m seed parts limit replicas e d counted progress w a b p l r k g h t = λ i. record { options = record { log2m = a i; seed = b i; parts = p i; limit = l i; replicas = r i; estimate = k i; delimiter = g i }; counted = h i; progress = t i }

pub same_job : (log2m seed parts limit : ℕ) (e : Estimate) (d : Delimiter) (large : Bool) (threads : ℕ) (counted : Bool) (o : JobInput) → log2m ≡ o.options.log2m → seed ≡ o.options.seed → parts ≡ o.options.parts → limit ≡ o.options.limit →
    e ≡ o.options.estimate → d ≡ o.options.delimiter → large ≡ o.options.large → threads ≡ o.options.threads → counted ≡ o.counted →
    ◌≡◌ {A = JobInput} (record { options = record { log2m = log2m; seed = seed; parts = parts; limit = limit; estimate = e; delimiter = d; large = large; threads = threads }; counted = counted }) o
same_job log2m seed parts limit e d large threads counted o a b p l k g z t h = λ i. record { options = record { log2m = a i; seed = b i; parts = p i; limit = l i; estimate = k i; delimiter = g i; large = z i; threads = t i }; counted = h i }

pub same_node_args : (o : JobInput) (part : ℕ) (progress : Bool) (w : NodeArgs) → o ≡ w.job → part ≡ w.part → progress ≡ w.progress → ◌≡◌ {A = NodeArgs} (record { job = o; part = part; progress = progress }) w
same_node_args o part progress w a p t = λ i. record { job = a i; part = p i; progress = t i }

pub same_gather_args : (o : JobInput) (progress : Bool) (w : GatherArgs) → o ≡ w.job → progress ≡ w.progress → ◌≡◌ {A = GatherArgs} (record { job = o; progress = progress }) w
same_gather_args o progress w a t = λ i. record { job = a i; progress = t i }

-- a text that was read is given
pub given_is : (f : Found) (id : Text) (text : Option Text) → text ≡ first_value f id → is_some text ≡ true → is_some (first_of id (rows_of f)) ≡ true
given_is f id text read is = subst (λ o. is_some o ≡ true) (read ∙ first_value-rows f id) is

-- a list that was read is that of its option
pub listed_is : (f : Found) (id : Text) (text : Option Text) (os : List (NodeId × ℕ)) → text ≡ first_value f id → MatchOption text (os ≡ []) (λ t. AreOrders t os) → IsListed (rows_of f) id os
listed_is f id text os read is = subst (λ o. MatchOption o (os ≡ []) (λ t. AreOrders t os)) (read ∙ first_value-rows f id) is

pub listed_back : (f : Found) (id : Text) (text : Option Text) (os : List (NodeId × ℕ)) → text ≡ first_value f id → IsListed (rows_of f) id os → MatchOption text (os ≡ []) (λ t. AreOrders t os)
listed_back f id text os read is = subst (λ o. MatchOption o (os ≡ []) (λ t. AreOrders t os)) (sym (read ∙ first_value-rows f id)) is

-- the orders of a list that is of its form, where one is given
pub record SomeListed (text : Option Text) : Type 0 where
  pub orders : List (NodeId × ℕ)
  pub are : MatchOption text (orders ≡ []) (λ t. AreOrders t orders)

pub given_listed : (text : Option Text) → MatchOption text ⊥ SpellsOrders → SomeListed text
given_listed None h = absurd h
given_listed (Some t) h = record { orders = h.orders; are = h.are }

pub maybe_listed : (text : Option Text) → MatchOption text ⊤ SpellsOrders → SomeListed text
maybe_listed None h = record { orders = []; are = refl }
maybe_listed (Some t) h = record { orders = h.orders; are = h.are }

-- a list that is not of its form is given
pub unlisted_given : (text : Option Text) → ((os : List (NodeId × ℕ)) → MatchOption text (os ≡ []) (λ t. AreOrders t os) → ⊥) → is_some text ≡ true
unlisted_given None none = absurd (none [] refl)
unlisted_given (Some t) none = refl

-- each value is a list of orders
pub both_listed : (f : Found) (a b : Option Text) → a ≡ first_value f (codes "lose") → b ≡ first_value f (codes "restart") → SomeListed a → SomeListed b → SpellLists (rows_of f)
both_listed f a b first second x y = record {
  lose = x.orders;
  restart = y.orders;
  lose_is = listed_is f (codes "lose") a x.orders first x.are;
  restart_is = listed_is f (codes "restart") b y.orders second y.are;
}
