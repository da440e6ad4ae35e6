-- Orders as they are spelled.
use Rattle.std.proofs.Common.{◌≡◌, ◌≢◌, ◌∙◌, ℕ, zero, suc, ◌<◌, ◌≤◌, ◌^◌, ◌==◌, ◌&&◌, ◌||◌, Bool, true, false, not, List, [], ◌∷◌, ◌++◌, length, map, refl, ap, arith, sym, subst, slice_index, get_or}
use Rattle.std.proofs.Math.Bool.{or-true}
use Rattle.std.specs.Prelude.{Option, None, Some, Ok, Err, Result, MatchOption, decimal}
use Rattle.std.specs.Borrow.{Bor}
use Rattle.std.specs.List.{All, AllByRecursion, join_with_byte, slice_split, position_or_len, after_first}
use Rattle.std.specs.Char.{digit_value}
use Rattle.std.specs.Result.{result_ok}
use Rattle.std.specs.Str.Parse.{AllDigits, IsNumeral, ParsesUnsigned, digits_value, without_leading_plus}
use Rattle.std.proofs.lemmas.Fmt.{decimal-digits_value, decimal_is_IsNumeral, first_decimal, decimal_digit, decimal_injective, parse-decimal}
use Rattle.std.proofs.lemmas.Str.Parse.{numerals_by_value, tells_digits}
use Rattle.std.proofs.lemmas.Str.Pattern.{IsSplitOnceResult, split_once_first}
use Rattle.std.proofs.lemmas.Bool.{eq-eqb, eqb-true, ne_eqb}
use Rattle.std.proofs.lemmas.List.Elements.{All-append, All-cons, All-from_recursion, All-nil}
use Rattle.std.proofs.lemmas.List.Splits.{join_with_byte-slice_split, length-slice_split, slice_split_at, slice_split_first, slice_split_none}
use Rattle.std.proofs.lemmas.List.Sums.{fails_before_first, passes_at_first, split_at_first}
use Rattle.std.proofs.lemmas.List.{get_or-map, length-map, map-append}
use Rattle.ball_model.specs.WorldText.{node_word}
use Rattle.ball_model.specs.declared.names.NodeId.{NodeId}
use Rattle.hyperball.specs.Orders.{AreOrders, IsNodeName, IsOrder, Reads, SpellsOrders, has_plain_digits, order_text, orders_text}

-- ---- numbers

-- digits are plain
decimal_plain : (n : ℕ) → n < 2 ^ 64 → has_plain_digits (decimal n) ≡ true
decimal_plain zero small = let e : decimal 0 ≡ 48 ∷ [] = decimal_digit 0 (omega arith) in rw e refl
decimal_plain (suc n) small =
    let first = slice_index (decimal (suc n)) 0 in
    let above : 48 < first = first_decimal (suc n) (omega arith) small in
    rw (ne_eqb first 43 (λ e. omega (arith, above, e)), ne_eqb first 48 (λ e. omega (arith, above, e))) (or-true (length (decimal (suc n)) == 1))

both : (a b : Bool) → not a && b ≡ true → (a ≡ false) × (b ≡ true)
both true b is = absurd (cc)
both false true is = (refl, refl)
both false false is = absurd (cc)

lead_alone : (bs : List ℕ) (t : Bool) → (length bs == 1) ≡ t → t || not (slice_index bs 0 == 48) ≡ true → slice_index bs 0 ≡ 48 → length bs ≡ 1
lead_alone bs true is plain lead = eqb-true (length bs) 1 is
lead_alone bs false is plain lead =
    let same : (slice_index bs 0 == 48) ≡ true = eq-eqb (slice_index bs 0) 48 lead in
    let other : not (slice_index bs 0 == 48) ≡ true = plain in
    absurd (cc)

-- what is read of plain digits is the number that they spell
pub read-plain : {E : Type 0} (k : ℕ) (bs : List ℕ) (r : Result ℕ E) → 2 ^ k ≤ 2 ^ 64 → has_plain_digits bs ≡ true → ParsesUnsigned k 10 bs r → Reads (λ n. n < 2 ^ k) decimal bs (result_ok r)
read-plain k bs (Ok n) fits plain h =
    let parts = both (slice_index bs 0 == 43) (length bs == 1 || not (slice_index bs 0 == 48)) plain in
    let whole : without_leading_plus bs ≡ bs = rw (parts.0) refl in
    let is : IsNumeral 10 bs = subst (λ l. IsNumeral 10 l) whole h.0.0 in
    let value : n ≡ digits_value 10 bs = h.1 ∙ ap (digits_value 10) whole in
    let small : digits_value 10 bs < 2 ^ k = subst (λ l. digits_value 10 l < 2 ^ k) whole h.0.1 in
    let spelled = decimal-digits_value (numerals_by_value _ tells_digits) bs is.1 is.0 (lead_alone bs (length bs == 1) refl parts.1) (omega (arith, small, fits)) in
    (subst (λ m. m < 2 ^ k) (sym value) small, sym spelled ∙ ap decimal (sym value))
read-plain k bs (Err e) fits plain h = λ n small is.
    let read : Err e ≡ Ok n = parse-decimal k n bs (Err e) small (omega (arith, small, fits)) is h in
    absurd (cc)

-- what is not plain spells no number
pub read-other : (bs : List ℕ) → has_plain_digits bs ≡ false → (n : ℕ) → n < 2 ^ 64 → bs ≢ decimal n
read-other bs other n small is =
    let plain : has_plain_digits bs ≡ true = ap has_plain_digits is ∙ decimal_plain n small in
    absurd (cc)

-- ---- pieces

-- no such byte stands in a text
abbrev pub Lacks : ℕ → List ℕ → Type 0
Lacks c text = All (λ b. (b == c) ≡ false) text

digits-lack : (c : ℕ) → (digit_value c < 10 → ⊥) → (ds : List ℕ) → AllDigits 10 ds → Lacks c ds
digits-lack c out [] h = All-nil (λ b. (b == c) ≡ false)
digits-lack c out (x ∷ ds) h = All-cons (λ b. (b == c) ≡ false) x ds (ne_eqb x c (λ e. out (subst (λ y. digit_value y < 10) e h.0))) (digits-lack c out ds h.1)

decimal-lacks : (c n : ℕ) → (digit_value c < 10 → ⊥) → n < 2 ^ 64 → Lacks c (decimal n)
decimal-lacks c n out small = digits-lack c out (decimal n) (decimal_is_IsNumeral n small).0.1

-- two texts with a byte between that is in neither
lacks-two : (c d : ℕ) (a b : List ℕ) → d ≢ c → Lacks c a → Lacks c b → Lacks c (a ++ d ∷ b)
lacks-two c d a b other h k = All-append (λ x. (x == c) ≡ false) a (d ∷ b) h (All-cons (λ x. (x == c) ≡ false) d b (ne_eqb d c other) k)

two-pieces : (d : ℕ) (a b : List ℕ) → Lacks d a → Lacks d b → slice_split (λ x. x == d) (a ++ d ∷ b) ≡ a ∷ b ∷ []
two-pieces d a b h k = slice_split_at (λ x. x == d) a d b h (eq-eqb d d refl) ∙ ap (λ l. a ∷ l) (slice_split_none (λ x. x == d) b k)

-- what `split_once` gives
abbrev pub Cuts : ℕ → List ℕ → Option (Bor (List ℕ) × Bor (List ℕ)) → Type 0
Cuts c text r = MatchOption r (slice_split (λ b. b == c) text ≡ text ∷ [])
    (λ x. (slice_split (λ b. b == c) text ≡ x.0.now ∷ slice_split (λ b. b == c) x.1.now) × (text ≡ x.0.now ++ c ∷ x.1.now))

pub cuts : (c : ℕ) (text : List ℕ) (r : Option (Bor (List ℕ) × Bor (List ℕ))) → IsSplitOnceResult c text r → c < 128 → Cuts c text r
cuts c text None h low =
    let at = split_once_first c text None h low in
    slice_split_none (λ b. b == c) text (λ k d lt. fails_before_first (λ b. b == c) text k d (omega (arith, lt, at)))
cuts c text (Some x) h low =
    let at = split_once_first c text (Some x) h low in
    let p : ℕ → Bool = λ b. b == c in
    let byte = eqb-true _ c (passes_at_first p text 0 at.0) in (
      slice_split_first p text 0 at.0 ∙ ap (λ l. l ∷ slice_split p (after_first p text)) (sym at.1) ∙ ap (λ l. x.0.now ∷ slice_split p l) (sym at.2),
      split_at_first p text 0 at.0 ∙ ap (λ l. l ++ get_or text (position_or_len p text) 0 ∷ after_first p text) (sym at.1) ∙ ap (λ l. x.0.now ++ l ∷ after_first p text) byte ∙ ap (λ l. x.0.now ++ c ∷ l) (sym at.2),
    )

same_pieces : (a b x y : List ℕ) (rest : List (List ℕ)) → a ∷ rest ≡ x ∷ y ∷ [] → (a ≡ x) × (rest ≡ y ∷ [])
same_pieces a b x y rest is = (cc, cc)

-- a text of two pieces is cut between them
pub cut-is : (d : ℕ) (text a b x y : List ℕ) → Lacks d x → Lacks d y → slice_split (λ b. b == d) text ≡ a ∷ slice_split (λ b. b == d) b → text ≡ x ++ d ∷ y → (a ≡ x) × (b ≡ y)
cut-is d text a b x y h k pieces is =
    let two = same_pieces a b x y (slice_split (λ b. b == d) b) (sym pieces ∙ ap (slice_split (λ b. b == d)) is ∙ two-pieces d x y h k) in
    (two.0, sym (join_with_byte-slice_split d b) ∙ ap (join_with_byte d) two.1)

-- and not of one
pub uncut-is : (d : ℕ) (text x y : List ℕ) → Lacks d x → Lacks d y → slice_split (λ b. b == d) text ≡ text ∷ [] → text ≡ x ++ d ∷ y → ⊥
uncut-is d text x y h k one is =
    let two : text ∷ [] ≡ x ∷ y ∷ [] = sym one ∙ ap (slice_split (λ b. b == d)) is ∙ two-pieces d x y h k in
    absurd (cc)

-- ---- nodes

part-lacks : (c : ℕ) → (digit_value c < 10 → ⊥) → (id : NodeId) → IsNodeName id → Lacks c (decimal id.part)
part-lacks c out id fits = decimal-lacks c id.part out (omega (arith, fits.part))

replica-lacks : (c : ℕ) → (digit_value c < 10 → ⊥) → (id : NodeId) → IsNodeName id → Lacks c (decimal id.replica)
replica-lacks c out id fits = decimal-lacks c id.replica out (omega (arith, fits.replica))

node-lacks : (c : ℕ) → (digit_value c < 10 → ⊥) → 46 ≢ c → (id : NodeId) → IsNodeName id → Lacks c (node_word id)
unfolding node_word
node-lacks c out other id fits = lacks-two c 46 (decimal id.part) (decimal id.replica) other (part-lacks c out id fits) (replica-lacks c out id fits)

point-out : digit_value 46 < 10 → ⊥
point-out h = omega (arith, h)

at-out : digit_value 64 < 10 → ⊥
at-out h = omega (arith, h)

comma-out : digit_value 44 < 10 → ⊥
comma-out h = omega (arith, h)

-- a text with no point names no node
pub node-uncut : (text : List ℕ) → slice_split (λ b. b == 46) text ≡ text ∷ [] → (id : NodeId) → IsNodeName id → text ≢ node_word id
unfolding node_word
node-uncut text one id fits is = uncut-is 46 text (decimal id.part) (decimal id.replica) (part-lacks 46 point-out id fits) (replica-lacks 46 point-out id fits) one is

-- a text with a point names a node whose numbers are the two pieces
pub node-cut : (text a b : List ℕ) → slice_split (λ b. b == 46) text ≡ a ∷ slice_split (λ b. b == 46) b → (id : NodeId) → IsNodeName id → text ≡ node_word id → (a ≡ decimal id.part) × (b ≡ decimal id.replica)
unfolding node_word
node-cut text a b pieces id fits is = cut-is 46 text a b (decimal id.part) (decimal id.replica) (part-lacks 46 point-out id fits) (replica-lacks 46 point-out id fits) pieces is

pub node-is : (text a b : List ℕ) (part replica : ℕ) → text ≡ a ++ 46 ∷ b → (part < 2 ^ 16) × (a ≡ decimal part) → (replica < 2 ^ 8) × (b ≡ decimal replica) →
    IsNodeName (record { part = part; replica = replica }) × (text ≡ node_word (record { part = part; replica = replica }))
unfolding node_word
node-is text a b part replica is p r = (record { part = p.0; replica = r.0 }, is ∙ ap (λ l. l ++ 46 ∷ b) p.1 ∙ ap (λ l. decimal part ++ 46 ∷ l) r.1)

-- ---- orders

superstep-lacks : (c : ℕ) → (digit_value c < 10 → ⊥) → (o : NodeId × ℕ) → IsOrder o → Lacks c (decimal o.1)
superstep-lacks c out o fits = decimal-lacks c o.1 out (omega (arith, fits.superstep))

-- a text with no @ is no order
pub order-uncut : (text : List ℕ) → slice_split (λ b. b == 64) text ≡ text ∷ [] → (o : NodeId × ℕ) → IsOrder o → text ≢ order_text o
unfolding order_text
order-uncut text one o fits is = uncut-is 64 text (node_word o.0) (decimal o.1) (node-lacks 64 at-out (λ e. omega (arith, e)) o.0 fits.node) (superstep-lacks 64 at-out o fits) one is

-- a text with an @ is an order of what stands before it and behind it
pub order-cut : (text a b : List ℕ) → slice_split (λ b. b == 64) text ≡ a ∷ slice_split (λ b. b == 64) b → (o : NodeId × ℕ) → IsOrder o → text ≡ order_text o → (a ≡ node_word o.0) × (b ≡ decimal o.1)
unfolding order_text
order-cut text a b pieces o fits is = cut-is 64 text a b (node_word o.0) (decimal o.1) (node-lacks 64 at-out (λ e. omega (arith, e)) o.0 fits.node) (superstep-lacks 64 at-out o fits) pieces is

pub order-is : (text a b : List ℕ) (id : NodeId) (superstep : ℕ) → text ≡ a ++ 64 ∷ b → IsNodeName id × (a ≡ node_word id) → (superstep < 10 ^ 9) × (b ≡ decimal superstep) →
    IsOrder (id, superstep) × (text ≡ order_text (id, superstep))
unfolding order_text
order-is text a b id superstep is n s = (record { node = n.0; superstep = s.0 }, is ∙ ap (λ l. l ++ 64 ∷ b) n.1 ∙ ap (λ l. node_word id ++ 64 ∷ l) s.1)

order-lacks : (o : NodeId × ℕ) → IsOrder o → Lacks 44 (order_text o)
unfolding order_text
order-lacks o fits = lacks-two 44 64 (node_word o.0) (decimal o.1) (λ e. omega (arith, e)) (node-lacks 44 comma-out (λ e. omega (arith, e)) o.0 fits.node) (superstep-lacks 44 comma-out o fits)

-- ---- lists

-- the pieces of a list of orders are the orders
pub orders-pieces : (os : List (NodeId × ℕ)) → os ≢ [] → AllByRecursion IsOrder os → slice_split (λ b. b == 44) (orders_text os) ≡ map order_text os
unfolding orders_text
orders-pieces [] some fit = absurd (some refl)
orders-pieces (o ∷ []) some fit = slice_split_none (λ b. b == 44) (order_text o) (order-lacks o fit.0)
orders-pieces (o ∷ p ∷ os) some fit = slice_split_at (λ b. b == 44) (order_text o) 44 (orders_text (p ∷ os)) (order-lacks o fit.0) refl ∙ ap (λ l. order_text o ∷ l) (orders-pieces (p ∷ os) (λ e. absurd (cc)) fit.1)

fits-at : (os : List (NodeId × ℕ)) (i : ℕ) (d : NodeId × ℕ) → AllByRecursion IsOrder os → i < length os → IsOrder (get_or os i d)
fits-at os i d fit lt = All-from_recursion IsOrder os fit i d lt

-- the orders of the pieces so far
pub record OrdersSoFar (pieces : List (Bor (List ℕ))) (os : List (NodeId × ℕ)) : Type 0 where
  pub spelled : map (λ piece. piece.now) pieces ≡ map order_text os
  pub fit : AllByRecursion IsOrder os

some-pieces : (text : List ℕ) (os : List (NodeId × ℕ)) → slice_split (λ b. b == 44) text ≡ map order_text os → os ≢ []
some-pieces text os pieces none =
    let count = length-slice_split (λ b. b == 44) text in
    let empty : slice_split (λ b. b == 44) text ≡ [] = pieces ∙ ap (map order_text) none in
    let short : length (slice_split (λ b. b == 44) text) ≡ 0 = ap length empty in
    omega (arith, count, short)

-- all were read
pub all-read : (text : List ℕ) (pieces : List (Bor (List ℕ))) (os : List (NodeId × ℕ)) → OrdersSoFar pieces os → map (λ piece. piece.now) pieces ≡ slice_split (λ b. b == 44) text → AreOrders text os
unfolding orders_text
all-read text pieces os far ended =
    let same : slice_split (λ b. b == 44) text ≡ map order_text os = sym ended ∙ far.spelled in
    record {
      some = some-pieces text os same;
      spelled = sym (join_with_byte-slice_split 44 text) ∙ ap (join_with_byte 44) same;
      fit = far.fit;
    }

-- the pieces so far are orders
pub record SomeSoFar (pieces : List (Bor (List ℕ))) : Type 0 where
  pub orders : List (NodeId × ℕ)
  pub far : OrdersSoFar pieces orders

fit-push : (os : List (NodeId × ℕ)) (o : NodeId × ℕ) → AllByRecursion IsOrder os → IsOrder o → AllByRecursion IsOrder (os ++ o ∷ [])
fit-push [] o fit one = (one, tt)
fit-push (x ∷ os) o fit one = (fit.0, fit-push os o fit.1 one)

pub one-more : (pieces : List (Bor (List ℕ))) (piece : Bor (List ℕ)) (o : NodeId × ℕ) → SomeSoFar pieces → IsOrder o × (piece.now ≡ order_text o) → SomeSoFar (pieces ++ piece ∷ [])
one-more pieces piece o s is =
    let now : Bor (List ℕ) → List ℕ = λ p. p.now in
    record {
      orders = s.orders ++ o ∷ [];
      far = record {
        spelled =
            map-append now pieces (piece ∷ []) ∙ ap (λ l. l ++ piece.now ∷ []) s.far.spelled ∙ ap (λ (x : List ℕ). map order_text s.orders ++ x ∷ []) is.1
            ∙ sym (map-append order_text s.orders (o ∷ []));
        fit = fit-push s.orders o s.far.fit is.0;
      };
    }

-- all are
pub some-read : (text : List ℕ) (pieces : List (Bor (List ℕ))) → SomeSoFar pieces → map (λ piece. piece.now) pieces ≡ slice_split (λ b. b == 44) text → SpellsOrders text
some-read text pieces s ended = record { orders = s.orders; are = all-read text pieces s.orders s.far ended }

-- one is no order
pub none-is-read : (text piece : List ℕ) (i : ℕ) → i < length (slice_split (λ b. b == 44) text) → piece ≡ get_or (slice_split (λ b. b == 44) text) i piece →
    ((o : NodeId × ℕ) → IsOrder o → piece ≢ order_text o) → (os : List (NodeId × ℕ)) → AreOrders text os → ⊥
none-is-read text piece i lt at refused os are =
    let d : NodeId × ℕ = (record { part = 0; replica = 0 }, 0) in
    let pieces : slice_split (λ b. b == 44) text ≡ map order_text os = ap (slice_split (λ b. b == 44)) are.spelled ∙ orders-pieces os are.some are.fit in
    let long : i < length os = omega (arith, lt, ap length pieces, length-map os order_text) in
    refused (get_or os i d) (fits-at os i d are.fit long) (at ∙ ap (λ l. get_or l i piece) pieces ∙ get_or-map order_text os i d piece long)

-- a text is the spelling of one list of orders
node-once : (a b : NodeId) → IsNodeName a → IsNodeName b → node_word a ≡ node_word b → a ≡ b
unfolding node_word
node-once a b f g same =
    let cut = cut-is 46 (node_word a) (decimal a.part) (decimal a.replica) (decimal b.part) (decimal b.replica) (part-lacks 46 point-out b g) (replica-lacks 46 point-out b g)
    (slice_split_at (λ x. x == 46) (decimal a.part) 46 (decimal a.replica) (part-lacks 46 point-out a f) refl) same in
    let part = decimal_injective a.part b.part (omega (arith, f.part)) (omega (arith, g.part)) cut.0 in
    let replica = decimal_injective a.replica b.replica (omega (arith, f.replica)) (omega (arith, g.replica)) cut.1 in
    λ i. record { part = part i; replica = replica i }

order-once : (a b : NodeId × ℕ) → IsOrder a → IsOrder b → order_text a ≡ order_text b → a ≡ b
unfolding order_text
order-once a b f g same =
    let cut = order-cut (order_text a) (node_word a.0) (decimal a.1)
    (slice_split_at (λ x. x == 64) (node_word a.0) 64 (decimal a.1) (node-lacks 64 at-out (λ e. omega (arith, e)) a.0 f.node) refl) b g same in
    let node = node-once a.0 b.0 f.node g.node cut.0 in
    let superstep = decimal_injective a.1 b.1 (omega (arith, f.superstep)) (omega (arith, g.superstep)) cut.1 in
    λ i. (node i, superstep i)

lists-once : (xs ys : List (NodeId × ℕ)) → AllByRecursion IsOrder xs → AllByRecursion IsOrder ys → map order_text xs ≡ map order_text ys → xs ≡ ys
lists-once [] [] f g same = refl
lists-once [] (b ∷ ys) f g same = absurd (cc)
lists-once (a ∷ xs) [] f g same = absurd (cc)
lists-once (a ∷ xs) (b ∷ ys) f g same =
    let first : order_text a ≡ order_text b = cc in
    let more : map order_text xs ≡ map order_text ys = cc in
    let head = order-once a b f.0 g.0 first in
    let tail = lists-once xs ys f.1 g.1 more in
    λ i. head i ∷ tail i

pub spelled-once : (text : List ℕ) (xs ys : List (NodeId × ℕ)) → AreOrders text xs → AreOrders text ys → xs ≡ ys
spelled-once text xs ys are other =
    lists-once xs ys are.fit other.fit (sym (orders-pieces xs are.some are.fit) ∙ ap (slice_split (λ b. b == 44)) (sym are.spelled ∙ other.spelled) ∙ orders-pieces ys other.some other.fit)
