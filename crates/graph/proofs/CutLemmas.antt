-- Lists that stand one behind another.
use Rattle.std.proofs.Common.{subst, sym, map, take, length-append, ◌≡◌, ℕ, zero, suc, ◌+◌, ◌-◌, ◌<◌, ◌≤◌, List, [], ◌∷◌, ◌++◌, length, get_or, drop, refl, ap, arith, ◌∙◌, length-drop}
use Rattle.std.specs.Prelude.{slice_range}
use Rattle.std.specs.List.{sum_by}
use Rattle.std.proofs.lemmas.List.{length-take, take-append-le, drop-append-le, take_all, take_more, map-append}
use Rattle.std.proofs.Math.Seq.{drop-append_seam}
use Rattle.std.proofs.lemmas.List.Sums.{sum_by-cons}
use Rattle.graph.specs.Lists.{lists_between, Ascend}

-- there is at least one start
pub some-start : (end : ℕ) (starts : List ℕ) → Ascend end starts → 0 < length starts
unfolding Ascend
some-start end [] up = absurd up
some-start end (a ∷ starts) up = omega arith

-- there is one list fewer than there are starts
pub length-cut : (items starts : List ℕ) (end : ℕ) → Ascend end starts → length starts ≡ length (lists_between items starts) + 1
unfolding lists_between Ascend
length-cut items [] end up = absurd up
length-cut items (a ∷ []) end up = refl
length-cut items (a ∷ b ∷ starts) end up = let more = length-cut items (b ∷ starts) end up.1 in omega arith

-- no start is past the end
start-within : (end a : ℕ) (starts : List ℕ) → Ascend end (a ∷ starts) → a ≤ end
unfolding Ascend
start-within end a [] up = omega (arith, up)
start-within end a (b ∷ starts) up = omega (arith, up.0, start-within end b starts up.1)

-- a list lies within the items, and neighbouring starts are in order
pub starts-at : (end : ℕ) (starts : List ℕ) (i : ℕ) → Ascend end starts → i + 1 < length starts → (get_or starts i 0 ≤ get_or starts (i + 1) 0) × (get_or starts (i + 1) 0 ≤ end)
unfolding Ascend
starts-at end [] i up lt = absurd up
starts-at end (a ∷ []) i up lt = absurd (omega arith)
starts-at end (a ∷ b ∷ starts) zero up lt = (up.0, start-within end b starts up.1)
starts-at end (a ∷ b ∷ starts) (suc i) up lt =
    let moved : suc i + 1 ≡ suc (i + 1) = omega arith in
    rw moved (starts-at end (b ∷ starts) i up.1 (omega arith))

-- the last start is not past the end
pub last-start : (end : ℕ) (starts : List ℕ) → Ascend end starts → get_or starts (length starts - 1) 0 ≤ end
unfolding Ascend
last-start end [] up = absurd up
last-start end (a ∷ []) up = omega (arith, up)
last-start end (a ∷ b ∷ starts) up =
    let moved : length (a ∷ b ∷ starts) - 1 ≡ suc (length (b ∷ starts) - 1) = omega arith in
    rw moved (last-start end (b ∷ starts) up.1)

-- list i is what stands between its start and the next
pub cut-at : (items starts : List ℕ) (end i : ℕ) → Ascend end starts → i + 1 < length starts → get_or (lists_between items starts) i [] ≡ slice_range items (get_or starts i 0) (get_or starts (i + 1) 0)
unfolding lists_between Ascend
cut-at items [] end i up lt = absurd up
cut-at items (a ∷ []) end i up lt = absurd (omega arith)
cut-at items (a ∷ b ∷ starts) end zero up lt = refl
cut-at items (a ∷ b ∷ starts) end (suc i) up lt =
    let moved : suc i + 1 ≡ suc (i + 1) = omega arith in
    rw moved (cut-at items (b ∷ starts) end i up.1 (omega arith))

length-range : (items : List ℕ) (a b : ℕ) → a ≤ b → b ≤ length items → length (slice_range items a b) ≡ b - a
length-range items a b low high = omega (arith, length-take (b - a) (drop a items), length-drop a items)

-- the lists have all items but those before the first start
pub total-from : (items : List ℕ) (a : ℕ) (starts : List ℕ) → Ascend (length items) (a ∷ starts) → a + sum_by length (lists_between items (a ∷ starts)) ≡ length items
unfolding lists_between Ascend
total-from items a [] up = omega (arith, up)
total-from items a (b ∷ starts) up =
    let step : sum_by length (lists_between items (a ∷ b ∷ starts)) ≡ length (slice_range items a b) + sum_by length (lists_between items (b ∷ starts)) =
    sum_by-cons length (slice_range items a b) (lists_between items (b ∷ starts)) in
    omega (arith, step, up.0, total-from items b starts up.1, length-range items a b up.0 (start-within (length items) b starts up.1))

-- more items behind the others change no list
slice-more : (items more : List ℕ) (a b : ℕ) → a ≤ b → b ≤ length items → slice_range (items ++ more) a b ≡ slice_range items a b
slice-more items more a b low high =
    let short : a ≤ length items = omega arith in
    let fits : b - a ≤ length (drop a items) = omega (arith, length-drop a items) in
    rw (drop-append-le a items more) (rw take-append-le refl)

cut-more : (items more starts : List ℕ) → Ascend (length items) starts → lists_between (items ++ more) starts ≡ lists_between items starts
unfolding lists_between Ascend
cut-more items more [] up = absurd up
cut-more items more (a ∷ []) up = refl
cut-more items more (a ∷ b ∷ starts) up = rw (slice-more items more a b up.0 (start-within (length items) b starts up.1), cut-more items more (b ∷ starts) up.1) refl

pub ascend-push : (end b : ℕ) (starts : List ℕ) → Ascend end starts → end ≤ b → Ascend b (starts ++ b ∷ [])
unfolding Ascend
ascend-push end b [] up le = absurd up
ascend-push end b (a ∷ []) up le = (omega (arith, up), refl)
ascend-push end b (a ∷ c ∷ starts) up le = (up.0, ascend-push end b (c ∷ starts) up.1 le)

pub cut-push : (items starts : List ℕ) (end b : ℕ) → Ascend end starts → lists_between items (starts ++ b ∷ []) ≡ lists_between items starts ++ slice_range items end b ∷ []
unfolding lists_between Ascend
cut-push items [] end b up = absurd up
cut-push items (a ∷ []) end b up = ap (λ k. slice_range items k b ∷ []) up
cut-push items (a ∷ c ∷ starts) end b up = ap (λ (ls : List (List ℕ)). slice_range items a c ∷ ls) (cut-push items (c ∷ starts) end b up.1)

-- a list behind the others
pub lists-push : (items list starts : List ℕ) (end : ℕ) → end ≡ length items + length list → Ascend (length items) starts → lists_between (items ++ list) (starts ++ end ∷ []) ≡ lists_between items starts ++ list ∷ []
lists-push items list starts end e up =
    let count : end - length items ≡ length list = omega arith in
    let last : slice_range (items ++ list) (length items) end ≡ list = rw (drop-append_seam, count) (take_all (length list) list (omega arith)) in
    cut-push (items ++ list) starts (length items) end up ∙ rw (cut-more items list starts up, last) refl

-- no items yet
pub starts-none : Ascend 0 (0 ∷ [])
unfolding Ascend
starts-none = refl

pub cut-none : (items : List ℕ) → lists_between items (0 ∷ []) ≡ []
unfolding lists_between
cut-none items = refl

-- texts are added, with places that do not have to fit 32 bits
pub record AddsText (bytes starts : List ℕ) (texts : List (List ℕ)) : Type 0 where
  pub starts_are : Ascend (length bytes) starts
  pub texts_are : lists_between bytes starts ≡ texts

pub text-push : (bytes text starts new starts' : List ℕ) (end : ℕ) (texts : List (List ℕ)) → new ≡ bytes ++ text → starts' ≡ starts ++ end ∷ [] → end ≡ length new → Ascend (length bytes) starts → lists_between bytes starts ≡ texts →
    AddsText new starts' (texts ++ text ∷ [])
text-push bytes text starts new starts' end texts is is' at up are =
    let long : length new ≡ length bytes + length text = ap (length {A = ℕ}) is ∙ length-append bytes text in
    let ends : end ≡ length bytes + length text = at ∙ long in
    rw (is', is) (record {
      starts_are = subst (λ (n : ℕ). Ascend n (starts ++ end ∷ [])) (at ∙ ap (length {A = ℕ}) is) (ascend-push (length bytes) end starts up (omega (arith, ends)));
      texts_are = lists-push bytes text starts end ends up ∙ rw are refl;
    })

-- the lists of one item more
pub map-more : {X Y : Type 0} (f : X → Y) (xs : List X) (i : ℕ) (x : X) (y : Y) → i < length xs → x ≡ get_or xs i x → y ≡ f x → map f (take i xs) ++ y ∷ [] ≡ map f (take (i + 1) xs)
map-more f xs i x y lt at is =
    sym (ap (map f) (take_more xs i x lt) ∙ map-append f (take i xs) (get_or xs i x ∷ []) ∙ ap (λ z. map f (take i xs) ++ z ∷ []) (ap f (sym at) ∙ sym is))
