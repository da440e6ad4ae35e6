-- An option that is gone over gives its value, if it has one.
use Rattle.std.proofs.Common.{◌≡◌, Bool, true, false, [], ◌∷◌, length, Bor, if◌then◌else◌, refl, ap, sym, subst}
use Rattle.replica.proofs.Names.{Option, Some, None, IsTrue}
use Rattle.std.specs.Bool.{MatchBool}
use Rattle.std.specs.Option.{option_to_list}
use Rattle.std.specs.Iterator.Adapters.{option_iter_item, option_iter_done, option_iter_steps}
use Rattle.std.proofs.lemmas.Iterator.{YieldsList}
use Rattle.std.proofs.lemmas.Iterator.Consumers.{YieldsList-from_shown}

nothing_left : {A : Type 0} (P : Type 0) (done : Bool) (item : Option A) → MatchBool done P (None ≡ item) → length (if done then [] else option_to_list item) ≡ 0
nothing_left P true item h = refl
nothing_left P false item h = ap (λ o. length (option_to_list o)) (sym h)

one : {A : Type 0} (x : A) (done after : Bool) (item later : Option A) (r : Option (Bor A)) → IsTrue after → MatchBool done (r ≡ None) (Some x ≡ item) → (r ≡ None → ⊥) →
    (if done then [] else option_to_list item) ≡ x ∷ (if after then [] else option_to_list later)
one x true after item later r t h ne = absurd (ne h)
one x false true item later r t h ne = ap option_to_list (sym h)
one x false false item later r t h ne = absurd (cc)

pub YieldsList-from_option : {A : Type 0} → (s : _) (o : Option A) → option_iter_item s ≡ o → option_iter_done s ≡ false → YieldsList (option_iter_steps {A = A}) (λ y. y.now) s (option_to_list o)
YieldsList-from_option s o item fresh =
    subst (λ l. YieldsList option_iter_steps (λ y. y.now) s l) (rw (fresh, item) refl)
    (YieldsList-from_shown option_iter_steps (λ y. y.now) (λ t. if option_iter_done t then [] else option_to_list (option_iter_item t))
    (λ a b h. nothing_left _ (option_iter_done a) (option_iter_item a) h.1)
    (λ a x b h. one x.now (option_iter_done a) (option_iter_done b) (option_iter_item a) (option_iter_item b) (Some x) h.0 h.1 (λ e. cc)) s)
