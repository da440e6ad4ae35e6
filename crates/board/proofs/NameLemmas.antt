-- Names in their order, and a map cut at a superstep.
use Rattle.std.proofs.Common.{◌≡◌, ℕ, Bool, true, false, not, cond, nat_lt, ◌==◌, None, refl, ap, ◌∙◌, arith}
use Rattle.std.proofs.lemmas.Bool.Decides.{nat_tests}
use Rattle.std.specs.declared.cmp.Ordering.{Ordering}
use Rattle.std.specs.declared.cmp.Ordering.TheVariants.{Less, Equal, Greater}
use Rattle.std.specs.Ordering.{nat_cmp, is_gt, is_le, ordering_then}
use Rattle.std.specs.Cmp.{IsTotalOrder, then_total, on_total}
use Rattle.std.proofs.lemmas.Cmp.{nat_cmp_total}
use Rattle.std.specs.BTreeMap.{get}
use Rattle.std.specs.BTreeMap.Range.{entries_below, entries_from}
use Rattle.std.proofs.lemmas.Map.Views.{get-entries_below, get-entries_from}
use Rattle.std.specs.declared.collections.BTreeMap.{BTreeMap}
use Rattle.std.specs.Global.{Global}
use Rattle.ball_model.specs.declared.names.BatchName.{BatchName}
use Rattle.board.specs.Noted.{by_name}

names_total : IsTotalOrder by_name
names_total = then_total (on_total (λ (n : BatchName). n.superstep) nat_cmp_total) (then_total (on_total (λ (n : BatchName). n.source) nat_cmp_total) (on_total (λ (n : BatchName). n.target) nat_cmp_total))

above_zero : (k : ℕ) (b c : Bool) → nat_lt 0 k ≡ b → (0 == k) ≡ c → is_gt (cond b Less (cond c Equal Greater)) ≡ false
above_zero k true c lt eq = refl
above_zero k false true lt eq = refl
above_zero k false false lt eq = grind (arith, nat_tests, lt, eq)

zero_not_above : (k : ℕ) → is_gt (nat_cmp 0 k) ≡ false
zero_not_above k = above_zero k (nat_lt 0 k) (0 == k) refl refl

then_not_above : (o p : Ordering) → is_gt o ≡ false → is_gt p ≡ false → is_gt (ordering_then o p) ≡ false
then_not_above Less p a b = refl
then_not_above Equal p a b = b
then_not_above Greater p a b = a

above_by : (s t : ℕ) (rest : Ordering) (b c : Bool) → is_gt rest ≡ false → nat_lt s t ≡ b → (s == t) ≡ c → is_gt (ordering_then (cond b Less (cond c Equal Greater)) rest) ≡ nat_lt t s
above_by s t rest true c e lt eq = grind (arith, nat_tests, lt)
above_by s t rest false true e lt eq = e ∙ grind (arith, nat_tests, eq)
above_by s t rest false false e lt eq = grind (arith, nat_tests, lt, eq)

above_is : (s t : ℕ) (rest : Ordering) → is_gt rest ≡ false → is_gt (ordering_then (nat_cmp s t) rest) ≡ nat_lt t s
above_is s t rest e = above_by s t rest (nat_lt s t) (s == t) e refl refl

le_not_above : (o : Ordering) → is_le o ≡ not (is_gt o)
le_not_above Less = refl
le_not_above Equal = refl
le_not_above Greater = refl

-- the least name of a superstep
abbrev pub least_name : ℕ → BatchName
least_name s = record { superstep = s; source = 0; target = 0 }

above_least : (s : ℕ) (n : BatchName) → is_gt (by_name (least_name s) n) ≡ nat_lt n.superstep s
above_least s n = above_is s n.superstep (ordering_then (nat_cmp 0 n.source) (nat_cmp 0 n.target)) (then_not_above (nat_cmp 0 n.source) (nat_cmp 0 n.target) (zero_not_above n.source) (zero_not_above n.target))

cond_turned : {A : Type 0} (b : Bool) (x y : A) → cond (not b) x y ≡ cond b y x
cond_turned true x y = refl
cond_turned false x y = refl

-- what is below the cut, and what is left
pub below_cut : {X : Type 0} (m n : BTreeMap BatchName X Global) (s : ℕ) (q : BatchName) → n.entries ≡ entries_below (by_name (least_name s)) m.entries → get by_name n q ≡ cond (nat_lt q.superstep s) (get by_name m q) None
below_cut m n s q e = get-entries_below names_total m n (least_name s) q e ∙ ap (λ (b : Bool). cond b (get by_name m q) None) (above_least s q)

pub from_cut : {X : Type 0} (m n : BTreeMap BatchName X Global) (s : ℕ) (q : BatchName) → n.entries ≡ entries_from (by_name (least_name s)) m.entries → get by_name n q ≡ cond (nat_lt q.superstep s) None (get by_name m q)
from_cut m n s q e =
    let le : is_le (by_name (least_name s) q) ≡ not (nat_lt q.superstep s) = le_not_above (by_name (least_name s) q) ∙ ap not (above_least s q) in
    get-entries_from names_total m n (least_name s) q e ∙ (ap (λ (b : Bool). cond b (get by_name m q) None) le ∙ cond_turned (nat_lt q.superstep s) (get by_name m q) None)
