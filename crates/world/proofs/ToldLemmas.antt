-- Texts of a replica, and what is written of them.
use Rattle.std.proofs.Common.{◌≡◌, ◌∙◌, ℕ, ◌+◌, ◌<◌, List, [], ◌++◌, map, ap, refl, subst, sym}
use Rattle.std.specs.Prelude.{Option, Some, Result, Ok, Err, OnOk}
use Rattle.std.specs.List.{flat_map, range_with_len}
use Rattle.std.specs.Io.KnownBytes.{Appends}
use Rattle.std.proofs.KnownBytes.{Appends-nil, Appends-trans}
use Rattle.ball_model.specs.Held.{HasHolding}
use Rattle.ball_model.specs.Job.{Job}
use Rattle.ball_model.specs.Join.{Holding}
use Rattle.ball_model.specs.State.{State}
use Rattle.ball_model.specs.Streams.{TextWritten}
use Rattle.world.specs.declared.tell.TellError.{TellError}
use Rattle.world.specs.declared.tell.TellError.TheVariants as fault
use Rattle.world.specs.Tell.{AppendsOf, BeginsText, Stopped, StopsOf, Tells, TellsOf, WritesOf}
use Rattle.world.proofs.TellLemmas.{begins-after, begins-more, first-texts, stopped-next, told-next}

-- the line of one more
lines_next : (a b c : Option (List ℕ)) (g : ℕ → List ℕ) (f : ℕ → ℕ) (i x : ℕ) → x ≡ f i → Appends a b (first-texts g f i) → Appends b c (g x) → Appends a c (first-texts g f (i + 1))
lines_next a b c g f i x at one two =
    (told-next {W = Option (List ℕ)} (λ o. o) (λ o. 0) a b c g f i x at (record { appended = one; counted = refl }) (record { appended = two; counted = refl })).appended

texts_next : (g : ℕ → List ℕ) (f : ℕ → ℕ) (i x : ℕ) → x ≡ f i → (first-texts g f i ++ g x) ≡ first-texts g f (i + 1)
texts_next g f i x at = lines_next (Some []) (Some (first-texts g f i)) (Some (first-texts g f i ++ g x)) g f i x at refl refl

-- ---- a text of a replica
pub of_told : {W : Type 0} (contents : W → Option (List ℕ)) (failed : W → ℕ) (v : State) (f : Job → Holding → List ℕ) (text : List ℕ) (old new : W) (r : Result (Unit {0}) TellError) →
    ((j : Job) (h : Holding) → HasHolding j h v → text ≡ f j h) → Tells contents failed old new text r → OnOk r (AppendsOf v f (contents old) (contents new))
of_told contents failed v f text old new (Ok u) is told = record { text = text; appended = told.appended; told = is }
of_told contents failed v f text old new (Err e) is told = tt

pub of_both : (v : State) (a b c : Option (List ℕ)) (f g : Job → Holding → List ℕ) → AppendsOf v f a b → AppendsOf v g b c → AppendsOf v (λ j h. f j h ++ g j h) a c
of_both v a b c f g one two = record {
  text = one.text ++ two.text;
  appended = Appends-trans a b c one.text two.text one.appended two.appended;
  told = λ j h has. ap (λ (l : List ℕ). l ++ two.text) (one.told j h has) ∙ ap (λ (l : List ℕ). f j h ++ l) (two.told j h has);
}

pub of_same : (v : State) (a b : Option (List ℕ)) (f g : Job → Holding → List ℕ) → ((j : Job) (h : Holding) → HasHolding j h v → f j h ≡ g j h) → AppendsOf v f a b → AppendsOf v g a b
of_same v a b f g same one = record { text = one.text; appended = one.appended; told = λ j h has. one.told j h has ∙ same j h has }

-- no line yet
pub of_none : (v : State) (a : Option (List ℕ)) (g : Job → Holding → ℕ → List ℕ) (f : ℕ → ℕ) → AppendsOf v (λ j h. first-texts (g j h) f 0) a a
of_none v a g f = record { text = []; appended = Appends-nil a; told = λ j h has. refl }

-- the line of one more
pub of_next : (v : State) (a b c : Option (List ℕ)) (g : Job → Holding → ℕ → List ℕ) (f : ℕ → ℕ) (i x : ℕ) → x ≡ f i →
    AppendsOf v (λ j h. first-texts (g j h) f i) a b → AppendsOf v (λ j h. g j h x) b c → AppendsOf v (λ j h. first-texts (g j h) f (i + 1)) a c
of_next v a b c g f i x at one two =
    of_same v a c (λ j h. first-texts (g j h) f i ++ g j h x) (λ j h. first-texts (g j h) f (i + 1)) (λ j h has. texts_next (g j h) f i x at)
    (of_both v a b c (λ j h. first-texts (g j h) f i) (λ j h. g j h x) one two)

-- ---- a text of a replica on a writer
pub appends_of : {W : Type 0} (contents : W → Option (List ℕ)) (failed : W → ℕ) (v : State) (f : Job → Holding → List ℕ) (a b : W) (r : Result (Unit {0}) TellError) →
    TellsOf contents failed v f a b r → OnOk r (AppendsOf v f (contents a) (contents b))
appends_of contents failed v f a b (Ok u) told = told.whole
appends_of contents failed v f a b (Err e) told = tt

-- for one holding
pub written_at : {W : Type 0} (contents : W → Option (List ℕ)) (failed : W → ℕ) (v : State) (f : Job → Holding → List ℕ) (a b : W) (j : Job) (h : Holding) → HasHolding j h v →
    WritesOf contents failed v f a b → TextWritten contents failed a b (f j h)
written_at contents failed v f a b j h has one = record {
  appended = subst (λ (l : List ℕ). Appends (contents a) (contents b) l) (one.whole.told j h has) one.whole.appended;
  counted = one.counted;
}

pub stopped_at : {W : Type 0} (contents : W → Option (List ℕ)) (failed : W → ℕ) (v : State) (f : Job → Holding → List ℕ) (a b : W) (e : TellError) (j : Job) (h : Holding) → HasHolding j h v →
    StopsOf contents failed v f a b e → Stopped contents failed a b (f j h) e
stopped_at contents failed v f a b e j h has one = record { begun = one.begun j h has; failed_one = one.failed_one; counted = one.counted }

pub tells_at : {W : Type 0} (contents : W → Option (List ℕ)) (failed : W → ℕ) (v : State) (f : Job → Holding → List ℕ) (a b : W) (r : Result (Unit {0}) TellError) (j : Job) (h : Holding) → HasHolding j h v →
    TellsOf contents failed v f a b r → Tells contents failed a b (f j h) r
tells_at contents failed v f a b (Ok u) j h has told = written_at contents failed v f a b j h has told
tells_at contents failed v f a b (Err e) j h has told = stopped_at contents failed v f a b e j h has told

-- nothing was written, for want of memory
pub stops_before : {W : Type 0} (contents : W → Option (List ℕ)) (failed : W → ℕ) (v : State) (f : Job → Holding → List ℕ) (a : W) → StopsOf contents failed v f a a fault.Memory
stops_before contents failed v f a = record {
  begun = λ j h has. record { front = []; rest = f j h; split = refl; appended = Appends-nil (contents a) };
  failed_one = λ e. absurd (cc);
  counted = λ e. refl;
}

-- a text that is one of the replica's
pub tells_of : {W : Type 0} (contents : W → Option (List ℕ)) (failed : W → ℕ) (v : State) (f : Job → Holding → List ℕ) (text : List ℕ) (a b : W) (r : Result (Unit {0}) TellError) →
    ((j : Job) (h : Holding) → HasHolding j h v → text ≡ f j h) → Tells contents failed a b text r → TellsOf contents failed v f a b r
tells_of contents failed v f text a b (Ok u) is told = record { whole = record { text = text; appended = told.appended; told = is }; counted = told.counted }
tells_of contents failed v f text a b (Err e) is told = record {
  begun = λ j h has. subst (λ (l : List ℕ). BeginsText (contents a) (contents b) l) (is j h has) told.begun;
  failed_one = told.failed_one;
  counted = told.counted;
}

-- a text that was stopped, with more behind it
pub stops_more : {W : Type 0} (contents : W → Option (List ℕ)) (failed : W → ℕ) (v : State) (f g : Job → Holding → List ℕ) (a b : W) (e : TellError) →
    StopsOf contents failed v f a b e → StopsOf contents failed v (λ j h. f j h ++ g j h) a b e
stops_more contents failed v f g a b e one = record {
  begun = λ j h has. begins-more (contents a) (contents b) (f j h) (g j h) (one.begun j h has);
  failed_one = one.failed_one;
  counted = one.counted;
}

-- a text, and what comes of the one behind it
pub tells_both : {W : Type 0} (contents : W → Option (List ℕ)) (failed : W → ℕ) (v : State) (f g : Job → Holding → List ℕ) (a b c : W) (r : Result (Unit {0}) TellError) →
    WritesOf contents failed v f a b → TellsOf contents failed v g b c r → TellsOf contents failed v (λ j h. f j h ++ g j h) a c r
tells_both contents failed v f g a b c (Ok u) one two = record {
  whole = of_both v (contents a) (contents b) (contents c) f g one.whole two.whole;
  counted = two.counted ∙ one.counted;
}
tells_both contents failed v f g a b c (Err e) one two = record {
  begun = λ j h has. begins-after (contents a) (contents b) (contents c) (f j h) (g j h) (written_at contents failed v f a b j h has one).appended (two.begun j h has);
  failed_one = λ is. subst (λ n. failed c ≡ n + 1) one.counted (two.failed_one is);
  counted = λ other. two.counted other ∙ one.counted;
}

-- the line of one more was written
pub writes_next : {W : Type 0} (contents : W → Option (List ℕ)) (failed : W → ℕ) (v : State) (a b c : W) (g : Job → Holding → ℕ → List ℕ) (f : ℕ → ℕ) (i x : ℕ) → x ≡ f i →
    WritesOf contents failed v (λ j h. first-texts (g j h) f i) a b → WritesOf contents failed v (λ j h. g j h x) b c → WritesOf contents failed v (λ j h. first-texts (g j h) f (i + 1)) a c
writes_next contents failed v a b c g f i x at one two = record {
  whole = of_next v (contents a) (contents b) (contents c) g f i x at one.whole two.whole;
  counted = two.counted ∙ one.counted;
}

-- or not to its end, and it is the line of one of all that there are
pub stops_next : {W : Type 0} (contents : W → Option (List ℕ)) (failed : W → ℕ) (v : State) (a b c : W) (g : Job → Holding → ℕ → List ℕ) (owned : Job → Holding → List ℕ) (f : ℕ → ℕ) (i n x : ℕ) (e : TellError) →
    ((j : Job) (h : Holding) → HasHolding j h v → owned j h ≡ map f (range_with_len 0 n)) → x ≡ f i → i < n →
    WritesOf contents failed v (λ j h. first-texts (g j h) f i) a b → StopsOf contents failed v (λ j h. g j h x) b c e → StopsOf contents failed v (λ j h. flat_map (g j h) (owned j h)) a c e
stops_next contents failed v a b c g owned f i n x e are at lt one two = record {
  begun = λ j h has. subst (λ (l : List ℕ). BeginsText (contents a) (contents c) (flat_map (g j h) l)) (sym (are j h has))
      (stopped-next contents failed a b c (g j h) f i n x e at lt (written_at contents failed v (λ j h. first-texts (g j h) f i) a b j h has one) (stopped_at contents failed v (λ j h. g j h x) b c e j h has two)).begun;
  failed_one = λ is. subst (λ n. failed c ≡ n + 1) one.counted (two.failed_one is);
  counted = λ other. two.counted other ∙ one.counted;
}
