-- Requests, one after the other.
use Rattle.std.proofs.Common.{◌≡◌, ◌∙◌, ◌⊎◌, inl, inr, ℕ, ◌+◌, ◌^◌, ◌<◌, ◌≤◌, Bool, List, [], ◌∷◌, ◌++◌, length, refl, ap, sym, subst, append_assoc, append-nil, length-append, take}
use Rattle.std.specs.Prelude.{Option, Some, Result, Err}
use Rattle.std.specs.Io.KnownBytes.{Appends, Consumes, Keeps}
use Rattle.std.proofs.KnownBytes.{Appends-kept, Appends-nil, Appends-trans, Consumes-nil, Consumes-trans}
use Rattle.std.proofs.lemmas.List.{flat_map_more}
use Rattle.std.proofs.lemmas.List.Elements.{All-nil, All-push}
use Rattle.std.proofs.lemmas.List.Folds.{concat-append}
use Rattle.std.specs.List.{All, concat}
use Rattle.ball_model.specs.Input.{Network, fields}
use Rattle.ball_model.specs.Held.{start_holding}
use Rattle.ball_model.specs.Job.{Job, PartValue, job_of, part_of}
use Rattle.ball_model.specs.Join.{Holding}
use Rattle.ball_model.specs.PlanValue.{PlanValue}
use Rattle.ball_model.specs.RunText.{Settings}
use Rattle.ball_model.specs.State.{State}
use Rattle.job.specs.Input.{IsJobRead}
use Rattle.node.specs.NodeText.{AllAsk, AnswersOne, AnswersAll, Question, Asks, IsRequest, Request, after_all_asked, after_asked, body_length, command_in, request_bytes, requests_text}
use Rattle.node.specs.declared.command.Command.{Command}
use Rattle.node.specs.declared.error.ServeError.{ServeError}
use Rattle.node.specs.declared.error.ServeError.TheVariants as fault
use Rattle.node.specs.declared.error.ServeNodeError.{ServeNodeError}
use Rattle.node.specs.declared.error.ServeNodeError.TheVariants as node_fault
use Rattle.node.specs.Stream.{CutLine, CutsBody, HasNoEnd, LongLine, ReadsBody, ReadsInLine}
use Rattle.node.specs.Serving.{AnswersEach, AppendsAnswers, AreNamed, AreTold, CutShort, IfRefused, IsNoRequest, IsOfMachine, LacksRoom, NoCommand, ReadsCommand, ReadsRequest, Runs, ServesRest, ServesNode, ServesNone, ServesOne, ServesSome, Steps, StopsServing, StopsNode, StopsWanting, WantsNode, serve_error_of}
use Rattle.node.specs.Turns.{Holds, most_body}
use Rattle.world.specs.declared.tell.TellError.{TellError}
use Rattle.world.specs.declared.tell.TellError.TheVariants as untold
use Rattle.node.proofs.SessionLemmas.{part_held}
use Rattle.node.proofs.StreamLemmas.{some_bytes}

-- ---- one more is asked
pub record LastAsk (j : Job) (p : ℕ) (rs : List Request) (r : Request) (more : List Question) : Type 0 where
  pub front : List Question
  pub last : Question
  pub is : more ≡ front ++ last ∷ []
  pub asks : AllAsk j p rs front
  pub asks_last : Asks j p r.command r.body last

last_ask : (j : Job) (p : ℕ) (rs : List Request) (r : Request) (more : List Question) → AllAsk j p (rs ++ r ∷ []) more → LastAsk j p rs r more
unfolding AllAsk
last_ask j p [] r [] asks = absurd asks
last_ask j p [] r (a ∷ []) asks = record { front = []; last = a; is = refl; asks = tt; asks_last = asks.0 }
last_ask j p [] r (a ∷ b ∷ more) asks = absurd asks.1
last_ask j p (q ∷ rs) r [] asks = absurd asks
last_ask j p (q ∷ rs) r (a ∷ more) asks =
    let k = last_ask j p rs r more asks.1 in
    record { front = a ∷ k.front; last = k.last; is = ap (λ (l : List Question). a ∷ l) k.is; asks = (asks.0, k.asks); asks_last = k.asks_last }

after_last : (j : Job) (h : Holding) (front : List Question) (last : Question) → after_all_asked j h (front ++ last ∷ []) ≡ after_asked j (after_all_asked j h front) last
unfolding after_all_asked
after_last j h [] last = refl
after_last j h (a ∷ front) last = after_last j (after_asked j h a) front last

-- ---- its text
told_last : (j : Job) (p : ℕ) (labels : List (List ℕ)) (h : Holding) (rs : List Request) (r : Request) (texts : List (List ℕ)) (text : List ℕ) → AreTold j p labels h rs texts →
    ((more : List Question) (a : Question) → AllAsk j p rs more → Asks j p r.command r.body a → AnswersOne j labels (after_all_asked j h more) a text) → AreTold j p labels h (rs ++ r ∷ []) (texts ++ text ∷ [])
unfolding AreTold AllAsk after_all_asked
told_last j p labels h [] r [] text told last = λ a asks. (last [] a tt asks, tt)
told_last j p labels h [] r (t ∷ texts) text told last = absurd told
told_last j p labels h (q ∷ rs) r [] text told last = absurd told
told_last j p labels h (q ∷ rs) r (t ∷ texts) text told last = λ a asks.
    let one = told a asks in
    (one.0, told_last j p labels (after_asked j h a) rs r texts text one.1 (λ more b all asks_last. last (a ∷ more) b (asks, all) asks_last))

named_last : (part : PartValue) (rs : List Request) (r : Request) (texts : List (List ℕ)) (text : List ℕ) → AreNamed part rs texts → IfRefused part r.command r.body (λ line. text ≡ line) →
    AreNamed part (rs ++ r ∷ []) (texts ++ text ∷ [])
unfolding AreNamed
named_last part [] r [] text named last = (last, tt)
named_last part [] r (t ∷ texts) text named last = absurd named
named_last part (q ∷ rs) r [] text named last = absurd named
named_last part (q ∷ rs) r (t ∷ texts) text named last = (named.0, named_last part rs r texts text named.1 last)

concat_last : (texts : List (List ℕ)) (text : List ℕ) → concat (texts ++ text ∷ []) ≡ concat texts ++ text
concat_last texts text = concat-append texts (text ∷ []) ∙ ap (λ (l : List ℕ). concat texts ++ l) (append-nil text)

-- the texts of requests that ask for something are the answers
all_told : (j : Job) (p : ℕ) (labels : List (List ℕ)) (h : Holding) (rs : List Request) (texts : List (List ℕ)) (more : List Question) → AreTold j p labels h rs texts → AllAsk j p rs more →
    AnswersAll j labels h more (concat texts)
unfolding AreTold AllAsk AnswersAll
all_told j p labels h [] [] [] told asks = refl
all_told j p labels h [] [] (a ∷ more) told asks = absurd asks
all_told j p labels h [] (t ∷ texts) more told asks = absurd told
all_told j p labels h (r ∷ rs) [] more told asks = absurd told
all_told j p labels h (r ∷ rs) (t ∷ texts) [] told asks = absurd asks
all_told j p labels h (r ∷ rs) (t ∷ texts) (a ∷ more) told asks =
    let one = told a asks.0 in
    (t, concat texts, refl, one.0, all_told j p labels (after_asked j h a) rs texts more one.1 asks.1)

-- whatever follows them
front_told : (j : Job) (p : ℕ) (labels : List (List ℕ)) (h : Holding) (front rest : List Request) (texts : List (List ℕ)) (more : List Question) → AreTold j p labels h (front ++ rest) texts → AllAsk j p front more →
    AnswersAll j labels h more (concat (take (length front) texts))
unfolding AreTold AllAsk AnswersAll
front_told j p labels h [] rest texts [] told asks = refl
front_told j p labels h [] rest texts (a ∷ more) told asks = absurd asks
front_told j p labels h (r ∷ front) rest [] more told asks = absurd told
front_told j p labels h (r ∷ front) rest (t ∷ texts) [] told asks = absurd asks
front_told j p labels h (r ∷ front) rest (t ∷ texts) (a ∷ more) told asks =
    let one = told a asks.0 in
    (t, concat (take (length front) texts), refl, one.0, front_told j p labels (after_asked j h a) front rest texts more one.1 asks.1)

-- ---- runs
runs_none : (network : Network) (v : State) (old : Option (List ℕ)) → Runs network [] v v old old
unfolding AllAsk AreTold AreNamed after_all_asked
runs_none network v old = record {
  texts = [];
  appended = Appends-nil old;
  told = λ j p h same k. tt;
  named = tt;
  holds = λ j p h more same k asks. still j p h more k asks;
}
  where
    still : (j : Job) (p : ℕ) (h : Holding) (more : List Question) → Holds j p h v → AllAsk j p [] more → Holds j p (after_all_asked j h more) v
    still j p h [] k asks = k
    still j p h (a ∷ more) k asks = absurd asks

runs_more : (network : Network) (rs : List Request) (r : Request) (v w u : State) (x y z : Option (List ℕ)) → w.part ≡ v.part → Runs network rs v w x y → Steps network r.command r.body w u y z →
    Runs network (rs ++ r ∷ []) v u x z
runs_more network rs r v w u x y z part runs steps = record {
  texts = runs.texts ++ steps.text ∷ [];
  appended = subst (Appends x z) (sym (concat_last runs.texts steps.text)) (Appends-trans x y z (concat runs.texts) steps.text runs.appended steps.appended);
  told = λ j p h same k.
      told_last j p network.labels h rs r runs.texts steps.text (runs.told j p h same k)
      (λ more a all asks. steps.told j p (after_all_asked j h more) a same (runs.holds j p h more same k all) asks);
  named =
      named_last v.part rs r runs.texts steps.text runs.named
      (subst (λ (q : PartValue). IfRefused q r.command r.body (λ line. steps.text ≡ line)) part steps.named);
  holds = λ j p h asked same k asks.
      let l = last_ask j p rs r asked asks in
      let then = runs.holds j p h l.front same k l.asks in
      subst (λ (q : List Question). Holds j p (after_all_asked j h q) u) (sym l.is)
      (subst (λ (q : Holding). Holds j p q u) (sym (after_last j h l.front l.last)) (steps.holds j p (after_all_asked j h l.front) l.last same then l.asks_last));
}

-- ---- many requests
pub serves_none : (network : Network) (left : Option (List ℕ)) (v : State) (old : Option (List ℕ)) → ServesSome network 0 left left v v old old
serves_none network left v old = record {
  requests = [];
  count = refl;
  each = All-nil (IsRequest v.part);
  consumed = Consumes-nil left;
  runs = runs_none network v old;
}

pub serves_more : (network : Network) (n m : ℕ) (a b c : Option (List ℕ)) (v w u : State) (x y z : Option (List ℕ)) → m ≡ n + 1 → w.part ≡ v.part →
    ServesSome network n a b v w x y → ServesOne network b c w u y z → ServesSome network m a c v u x z
serves_more network n m a b c v w u x y z next same s o = record {
  requests = s.requests ++ o.request ∷ [];
  count = length-append s.requests (o.request ∷ []) ∙ ap (λ (k : ℕ). k + 1) s.count ∙ sym next;
  each = All-push (IsRequest v.part) s.requests o.request s.each (subst (λ (q : PartValue). IsRequest q o.request) same o.is);
  consumed = subst (Consumes a c) (flat_map_more request_bytes [] s.requests o.request) (Consumes-trans a b c (requests_text s.requests) (request_bytes o.request) s.consumed o.consumed);
  runs = runs_more network s.requests o.request v w u x y z same s.runs o.steps;
}

-- nothing more was told, and the node is as it was
serves_still : (network : Network) (n : ℕ) (a b c : Option (List ℕ)) (v w u : State) (x y z : Option (List ℕ)) → ServesSome network n a b v w x y → Consumes b c [] → Keeps y z → u ≡ w → ServesSome network n a c v u x z
serves_still network n a b c v w u x y z s none kept same = record {
  requests = s.requests;
  count = s.count;
  each = s.each;
  consumed = subst (Consumes a c) (append-nil (requests_text s.requests)) (Consumes-trans a b c (requests_text s.requests) [] s.consumed none);
  runs = record {
    texts = s.runs.texts;
    appended = Appends-kept x y z (concat s.runs.texts) s.runs.appended kept;
    told = s.runs.told;
    named = s.runs.named;
    holds = λ j p h more same_graph k asks. subst (λ (q : State). Holds j p (after_all_asked j h more) q) (sym same) (s.runs.holds j p h more same_graph k asks);
  };
}

-- the end of the input
pub serves_end : (network : Network) (n : ℕ) (a b c : Option (List ℕ)) (v w u : State) (x y z : Option (List ℕ)) → ServesSome network n a b v w x y → ServesNone b c w u y z → ServesRest network a c v u x z
serves_end network n a b c v w u x y z s o = record {
  number = n;
  some = serves_still network n a b c v w u x y z s o.consumed o.kept o.same;
  end = o.end;
}

-- a request that cannot be read
pub stops_at : (network : Network) (part : PartValue) (e : ServeError) (n m : ℕ) (a b c : Option (List ℕ)) (v w u : State) (x y z : Option (List ℕ)) → m ≡ n + 1 →
    ServesSome network n a b v w x y → w.part ≡ part → IsNoRequest w.part m e b c → Keeps y z → u ≡ w → StopsServing network part e a c v u x z
stops_at network part e n m a b c v w u x y z next s same_part at kept same = record {
  number = n;
  mid = b;
  some = serves_still network n a b b v w u x y z s (Consumes-nil b) kept same;
  at = subst (λ (k : ℕ). IsNoRequest part k e b c) next (subst (λ (q : PartValue). IsNoRequest q m e b c) same_part at);
}

-- memory is refused
pub wants_at : (network : Network) (n m : ℕ) (d : ServeError) (a b c : Option (List ℕ)) (v w : State) (x y : Option (List ℕ)) → ServesSome network n a b v w x y → w.part ≡ v.part →
    IsNoRequest w.part m d b c → ◌≡◌ {A = Result (Unit {0}) ServeError} (Err d) (Err fault.Memory) → StopsWanting v.part a c
wants_at network n m d a b c v w x y s same at is =
    let memory : d ≡ fault.Memory = cc in
    record {
      requests = s.requests;
      each = s.each;
      rest = b;
      consumed = s.consumed;
      at = subst (λ (q : PartValue). LacksRoom q b c) same (subst (λ (k : ServeError). IsNoRequest w.part m k b c) memory at);
    }

-- numbers are at their end
pub stops_counting : (network : Network) (part : PartValue) (n : ℕ) (a b : Option (List ℕ)) (v w : State) (x y : Option (List ℕ)) → 2 ^ 64 ≤ n + 1 →
    ServesSome network n a b v w x y → StopsServing network part fault.TooMany a b v w x y
stops_counting network part n a b v w x y most s = record { number = n; mid = b; some = s; at = (most, refl) }

-- ---- a request
pub reads_request : (part : PartValue) (a b c : Option (List ℕ)) (line : List ℕ) (order : Command) (body : List ℕ) → ReadsCommand part a b line order → Consumes b c body →
    length body ≡ body_length order → ReadsRequest part a c line order body
reads_request part a b c line order body front rest long = record {
  is = record {
    one_line = front.read.one_line;
    short = front.read.short;
    says = front.says;
    length_is = long;
    within = subst (λ (n : ℕ). n ≤ most_body part order) (sym long) front.within;
  };
  consumed = subst (Consumes a c) (append_assoc line (10 ∷ []) body) (Consumes-trans a b c (line ++ 10 ∷ []) body front.read.consumed rest);
}

-- it was answered, and the answer was passed on
pub serves_one : (network : Network) (a b : Option (List ℕ)) (line : List ℕ) (order : Command) (body : List ℕ) (v w : State) (x y z : Option (List ℕ)) →
    ReadsRequest v.part a b line order body → Steps network order body v w x y → Keeps y z → ServesOne network a b v w x z
serves_one network a b line order body v w x y z read steps kept = record {
  request = record { line = line; command = order; body = body };
  is = read.is;
  consumed = read.consumed;
  steps = record {
    text = steps.text;
    appended = Appends-kept x y z steps.text steps.appended kept;
    told = steps.told;
    holds = steps.holds;
    named = steps.named;
    spared = steps.spared;
  };
}

-- ---- what is no request
-- of failed calls nothing is said
machine_stops : (part : PartValue) (n : ℕ) (e : ServeError) (a b : Option (List ℕ)) → IsOfMachine e → (e ≡ fault.Memory → LacksRoom part a b) → IsNoRequest part n e a b
machine_stops part n (fault.Command k) a b is lacks = absurd is
machine_stops part n (fault.Length k) a b is lacks = absurd is
machine_stops part n (fault.Cut k) a b is lacks = absurd is
machine_stops part n fault.TooMany a b is lacks = absurd is
machine_stops part n fault.Memory a b is lacks = lacks refl
machine_stops part n fault.Read a b is lacks = tt
machine_stops part n fault.Write a b is lacks = tt

-- memory is refused within a line
pub line_lacks : (part : PartValue) (a b : Option (List ℕ)) → ReadsInLine a b → LacksRoom part a b
line_lacks part a b r = record { front = r.bytes; some = r.some; within = inl (r.one_line, r.first); consumed = r.consumed }

-- or where a request is all there
pub request_lacks : (part : PartValue) (a b : Option (List ℕ)) (line : List ℕ) (order : Command) (body : List ℕ) → ReadsRequest part a b line order body → LacksRoom part a b
request_lacks part a b line order body r = record {
  front = request_bytes (record { line = line; command = order; body = body });
  some = some_bytes line 10 body;
  within = inr (record { request = record { line = line; command = order; body = body }; is = r.is; bytes_are = refl });
  consumed = r.consumed;
}

-- or, as a write failed, where it was answered
pub told_stops : (part : PartValue) (n : ℕ) (t : TellError) (a b : Option (List ℕ)) → LacksRoom part a b → IsNoRequest part n (serve_error_of t) a b
told_stops part n untold.Memory a b lacks = lacks
told_stops part n untold.Write a b lacks = tt

pub long_line : (a b : Option (List ℕ)) (line : List ℕ) → LongLine a b line → NoCommand a b
long_line a b line r = record { line = line; one_line = r.one_line; read = inr (r.consumed, r.long) }

pub cut_line : (a b : Option (List ℕ)) (line : List ℕ) → CutLine a b line → CutShort a b
cut_line a b line r = record { front = line; some = r.some; within = inl r.one_line; consumed = r.consumed; end = r.end }

pub cut_body : (a b c : Option (List ℕ)) (line : List ℕ) (order : Command) → Consumes a b (line ++ 10 ∷ []) → HasNoEnd line → command_in (fields 32 line) ≡ Some order →
    CutsBody (body_length order) b c → CutShort a c
cut_body a b c line order read none says cut = record {
  front = line ++ 10 ∷ cut.bytes;
  some = some_bytes line 10 cut.bytes;
  within = inr (record { line = line; one_line = none; command = order; says = says; body = cut.bytes; fewer = cut.fewer; front_is = refl });
  consumed = subst (Consumes a c) (append_assoc line (10 ∷ []) cut.bytes) (Consumes-trans a b c (line ++ 10 ∷ []) cut.bytes read cut.consumed);
  end = cut.end;
}

-- what follows the line was not read
pub rest_stops : (part : PartValue) (n : ℕ) (e : ServeError) (a b c : Option (List ℕ)) (line : List ℕ) (order : Command) → ReadsCommand part a b line order →
    (e ≡ fault.Cut n → CutsBody (body_length order) b c) → (e ≡ fault.Memory → ReadsBody (body_length order) b c) → (e ≡ fault.Cut n) ⊎ IsOfMachine e → IsNoRequest part n e a c
rest_stops part n e a b c line order front cut all (inl is) =
    subst (λ (k : ServeError). IsNoRequest part n k a c) (sym is) (refl, cut_body a b c line order front.read.consumed front.read.one_line front.says (cut is))
rest_stops part n e a b c line order front cut all (inr machine) =
    machine_stops part n e a c machine
    (λ is.
    let body = all is in
    request_lacks part a c line order body.bytes (reads_request part a b c line order body.bytes front body.consumed body.long))

-- ---- a node from its start
-- all that it was asked
all_answered : (network : Network) (j : Job) (p : ℕ) (h : Holding) (rs : List Request) (v w : State) (old new : Option (List ℕ)) → j.graph ≡ network.graph → Holds j p h v → Runs network rs v w old new →
    (more : List Question) → AllAsk j p rs more → AppendsAnswers j network.labels h more old new
all_answered network j p h rs v w old new same k runs more asks = record {
  text = concat runs.texts;
  appended = runs.appended;
  answers = all_told j p network.labels h rs runs.texts more (runs.told j p h same k) asks;
}

each_answered : (network : Network) (j : Job) (p : ℕ) (h : Holding) (rs : List Request) (v w : State) (old new : Option (List ℕ)) → j.graph ≡ network.graph → Holds j p h v → Runs network rs v w old new →
    AnswersEach j p network.labels h rs old new
each_answered network j p h rs v w old new same k runs = record {
  texts = runs.texts;
  appended = runs.appended;
  named = subst (λ (q : PartValue). AreNamed q rs runs.texts) (part_held j p h v k) runs.named;
  begun = λ front rest more is asks.
      front_told j p network.labels h front rest runs.texts more
      (subst (λ (l : List Request). AreTold j p network.labels h l runs.texts) is (runs.told j p h same k)) asks;
}

pub serves_node : (s : Settings) (counted : Bool) (p : ℕ) (network : Network) (plan : PlanValue) (left mid left' old new : Option (List ℕ)) (v w : State) →
    IsJobRead s counted left mid network plan → p < plan.parts → Holds (job_of network.graph plan) p (start_holding plan p) v →
    ServesRest network mid left' v w old new → ServesNode s counted p left left' old new
serves_node s counted p network plan left mid left' old new v w read below holds serves = record {
  network = network;
  plan = plan;
  mid = mid;
  job = read;
  below = below;
  requests = serves.some.requests;
  each = subst (λ (q : PartValue). All (IsRequest q) serves.some.requests) (part_held (job_of network.graph plan) p (start_holding plan p) v holds) serves.some.each;
  consumed = serves.some.consumed;
  end = serves.end;
  told = all_answered network (job_of network.graph plan) p (start_holding plan p) serves.some.requests v w old new refl holds serves.some.runs;
  answered = each_answered network (job_of network.graph plan) p (start_holding plan p) serves.some.requests v w old new refl holds serves.some.runs;
}

-- a request stopped it
pub stops_node : (s : Settings) (counted : Bool) (p : ℕ) (e : ServeError) (network : Network) (plan : PlanValue) (left mid left' old new : Option (List ℕ)) (v w : State) →
    IsJobRead s counted left mid network plan → p < plan.parts → Holds (job_of network.graph plan) p (start_holding plan p) v →
    StopsServing network v.part e mid left' v w old new → StopsNode s counted p e left left' old new
stops_node s counted p e network plan left mid left' old new v w read below holds stops =
    let j : Job = job_of network.graph plan in
    let same : v.part ≡ part_of j p = part_held j p (start_holding plan p) v holds in
    record {
      network = network;
      plan = plan;
      mid = mid;
      job = read;
      below = below;
      requests = stops.some.requests;
      each = subst (λ (q : PartValue). All (IsRequest q) stops.some.requests) same stops.some.each;
      rest = stops.mid;
      consumed = stops.some.consumed;
      told = all_answered network j p (start_holding plan p) stops.some.requests v w old new refl holds stops.some.runs;
      answered = each_answered network j p (start_holding plan p) stops.some.requests v w old new refl holds stops.some.runs;
      at =
          subst (λ (k : ℕ). IsNoRequest (part_of j p) (k + 1) e stops.mid left') (sym stops.some.count)
          (subst (λ (q : PartValue). IsNoRequest q (stops.number + 1) e stops.mid left') same stops.at);
    }

same_fault : (d e : ServeError) → ◌≡◌ {A = Result (Unit {0}) ServeNodeError} (Err (node_fault.Serve d)) (Err (node_fault.Serve e)) → d ≡ e
same_fault d e is = cc

pub node_stops : (s : Settings) (counted : Bool) (p : ℕ) (network : Network) (plan : PlanValue) (left mid left' old new : Option (List ℕ)) (v w : State) (d : ServeError) →
    IsJobRead s counted left mid network plan → p < plan.parts → Holds (job_of network.graph plan) p (start_holding plan p) v →
    ((IsOfMachine d → ⊥) → StopsServing network v.part d mid left' v w old new) →
    (e : ServeError) → ◌≡◌ {A = Result (Unit {0}) ServeNodeError} (Err (node_fault.Serve d)) (Err (node_fault.Serve e)) → (IsOfMachine e → ⊥) → StopsNode s counted p e left left' old new
node_stops s counted p network plan left mid left' old new v w d read below holds stops e is some =
    let same : d ≡ e = same_fault d e is in
    subst (λ (k : ServeError). StopsNode s counted p k left left' old new) same
    (stops_node s counted p d network plan left mid left' old new v w read below holds (stops (λ machine. some (subst IsOfMachine same machine))))

pub node_wants : (s : Settings) (counted : Bool) (p : ℕ) (network : Network) (plan : PlanValue) (left mid left' : Option (List ℕ)) (v : State) →
    IsJobRead s counted left mid network plan → p < plan.parts → Holds (job_of network.graph plan) p (start_holding plan p) v → StopsWanting v.part mid left' → WantsNode s counted p left left'
node_wants s counted p network plan left mid left' v read below holds wants = record {
  network = network;
  plan = plan;
  mid = mid;
  job = read;
  below = below;
  wants = subst (λ (q : PartValue). StopsWanting q mid left') (part_held (job_of network.graph plan) p (start_holding plan p) v holds) wants;
}
