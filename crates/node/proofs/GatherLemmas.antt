-- Checkpoints of partitions, one after the other.
use Rattle.std.proofs.Common.{◌≡◌, ◌≢◌, ◌∙◌, inl, inr, ℕ, zero, suc, ◌+◌, ◌<◌, ◌≤◌, ◌==◌, ◌&&◌, Bool, true, false, if◌then◌else◌, List, [], ◌∷◌, ◌++◌, length, get_or, refl, ap, sym, subst, append_assoc, append-nil, length-append, arith}
use Rattle.std.specs.Prelude.{Option, None, Some, codes, decimal, nat_lt, ◌^◌}
use Rattle.std.specs.Str.{bytes_eq}
use Rattle.std.proofs.lemmas.Bool.{eqb-true}
use Rattle.std.proofs.lemmas.Slice.Eq.{bytes_eq-Decides}
use Rattle.ball_model.specs.WorldText.{value_from}
use Rattle.world.specs.Script.{cut_of, number_below}
use Rattle.world.proofs.ScriptLemmas.{pair-of}
use Rattle.std.specs.List.{All}
use Rattle.std.specs.Io.KnownBytes.{Appends, Consumes, IsAtEnd}
use Rattle.std.proofs.KnownBytes.{Consumes-nil, Consumes-trans}
use Rattle.std.proofs.lemmas.List.{flat_map_more}
use Rattle.std.proofs.lemmas.List.Elements.{All-nil, All-cons}
use Rattle.ball_model.specs.Job.{Job, IsJob, PartValue, part_of, job_of}
use Rattle.ball_model.specs.PlanValue.{PlanValue}
use Rattle.ball_model.specs.State.{State, StandsFor}
use Rattle.report.specs.Ready.{AllStand, are_ready, job_report}
use Rattle.node.specs.Gathering.{AreGivenBack, AreMadeOf, AreCheckpointsFrom, Gathers, IsMadeOf, ReadsAll, ReadsCheckpoint, part_line, part_text, parts_text, report_fault}
use Rattle.ball_model.specs.Streams.{PutsFront}
use Rattle.ball_model.specs.Input.{Network}
use Rattle.ball_model.specs.RunText.{Settings}
use Rattle.ball_model.specs.Sections.{longer}
use Rattle.checkpoint.specs.declared.error.KeepError.{KeepError}
use Rattle.checkpoint.specs.declared.error.KeepError.TheVariants as unkept
use Rattle.node.specs.declared.error.GatherError.{GatherError}
use Rattle.node.specs.declared.error.GatherError.TheVariants as fault
use Rattle.node.specs.NoReport.{AreUnready, EndsWithin, IsNoReplica, IsNoReport, LacksPartRoom, LacksReportRoom, ReadsNoCheckpoint, StopsAtPart, WritesFront, WritesFrontOfJob, checkpoint_fault}
use Rattle.job.specs.Input.{IsJobRead}
use Rattle.node.specs.Refusals.{IsNoCheckpoint}
use Rattle.node.specs.Stream.{CutsBody, ReadsBody, ReadsInLine}
use Rattle.checkpoint.specs.Reading.{most_checkpoint_bytes}
use Rattle.report.specs.declared.write.ReportError.{ReportError}
use Rattle.report.specs.declared.write.ReportError.TheVariants as unreported
use Rattle.node.specs.NodeText.{size_in}

-- ---- one more
made_last : (j : Job) (p n : ℕ) (bodies : List (List ℕ)) (vs : List State) (body : List ℕ) (v : State) → n ≡ p + length bodies → AreMadeOf j p bodies vs → IsMadeOf j n body v → AreMadeOf j p (bodies ++ body ∷ []) (vs ++ v ∷ [])
unfolding AreMadeOf
made_last j p n [] [] body v at made one = let same : n ≡ p = omega arith in (subst (λ (k : ℕ). IsMadeOf j k body v) same one, tt)
made_last j p n [] (w ∷ vs) body v at made one = absurd made
made_last j p n (b ∷ bodies) [] body v at made one = absurd made
made_last j p n (b ∷ bodies) (w ∷ vs) body v at made one = let next : n ≡ p + 1 + length bodies = omega arith in (made.0, made_last j (p + 1) n bodies vs body v next made.1 one)

pub reads_none : (j : Job) (left : Option (List ℕ)) → ReadsAll j 0 left left []
unfolding AreMadeOf
reads_none j left = record { bodies = []; count = refl; consumed = Consumes-nil left; made = tt }

reads_more : (j : Job) (n m : ℕ) (a b c : Option (List ℕ)) (vs : List State) (v : State) → m ≡ n + 1 → ReadsAll j n a b vs → ReadsCheckpoint j n b c v → ReadsAll j m a c (vs ++ v ∷ [])
reads_more j n m a b c vs v next s o = record {
  bodies = s.bodies ++ o.body ∷ [];
  count = length-append s.bodies (o.body ∷ []) ∙ ap (λ (k : ℕ). k + 1) s.count ∙ sym next;
  consumed = subst (Consumes a c) (flat_map_more part_text [] s.bodies o.body) (Consumes-trans a b c (parts_text s.bodies) (part_text o.body) s.consumed o.consumed);
  made = made_last j 0 n s.bodies vs o.body v (let count = s.count in omega arith) s.made o.made;
}

-- and so is a list that is these
pub reads_added : (j : Job) (n : ℕ) (a b c : Option (List ℕ)) (vs ws : List State) (v : State) → ws ≡ vs ++ v ∷ [] → ReadsAll j n a b vs → ReadsCheckpoint j n b c v → ReadsAll j (n + 1) a c ws
reads_added j n a b c vs ws v is s o = subst (ReadsAll j (n + 1) a c) (sym is) (reads_more j n (n + 1) a b c vs v refl s o)

-- nothing more was taken
pub reads_kept : (j : Job) (n : ℕ) (a b c : Option (List ℕ)) (vs : List State) → ReadsAll j n a b vs → Consumes b c [] → ReadsAll j n a c vs
reads_kept j n a b c vs s none = record {
  bodies = s.bodies;
  count = s.count;
  consumed = subst (Consumes a c) (append-nil (parts_text s.bodies)) (Consumes-trans a b c (parts_text s.bodies) [] s.consumed none);
  made = s.made;
}

-- each is a checkpoint
parts_made : (j : Job) (p : ℕ) (bodies : List (List ℕ)) (vs : List State) → AreMadeOf j p bodies vs → AreCheckpointsFrom j p bodies
unfolding AreMadeOf AreCheckpointsFrom
parts_made j p [] [] made = tt
parts_made j p [] (v ∷ vs) made = absurd made
parts_made j p (b ∷ bodies) [] made = absurd made
parts_made j p (b ∷ bodies) (v ∷ vs) made = (made.0.is, parts_made j (p + 1) bodies vs made.1)

-- ---- what the replicas stand for
stands : (j : Job) (p : ℕ) (body : List ℕ) (v : State) → IsMadeOf j p body v → (g : AreGivenBack j p (body ∷ [])) → StandsFor j p v.superstep v
unfolding AreGivenBack
stands j p body v made g =
    let k = made.back g.0.0 g.0.1 in
    let s = k.has.holding.stands in
    subst (λ (t : ℕ). StandsFor j p t v) (sym s.superstep) (subst (λ (q : ℕ). StandsFor j q g.0.0.superstep v) k.held.partition s)

stand_from : (j : Job) (p : ℕ) (bodies : List (List ℕ)) (vs : List State) → AreMadeOf j p bodies vs → AreGivenBack j p bodies → (i q : ℕ) (d : State) → q ≡ p + i → i < length vs → StandsFor j q (get_or vs i d).superstep (get_or vs i d)
unfolding AreMadeOf AreGivenBack
stand_from j p [] [] made given i q d at lt = absurd (omega arith)
stand_from j p [] (v ∷ vs) made given i q d at lt = absurd made
stand_from j p (b ∷ bodies) [] made given i q d at lt = absurd made
stand_from j p (b ∷ bodies) (v ∷ vs) made given zero q d at lt =
    let same : p ≡ q = omega arith in
    subst (λ (k : ℕ). StandsFor j k v.superstep v) same (stands j p b v made.0 (given.0, tt))
stand_from j p (b ∷ bodies) (v ∷ vs) made given (suc i) q d at lt =
    let next : q ≡ p + 1 + i = omega arith in
    stand_from j (p + 1) bodies vs made.1 given.1 i q d next (omega arith)

pub all_stand : (j : Job) (bodies : List (List ℕ)) (vs : List State) → AreMadeOf j 0 bodies vs → AreGivenBack j 0 bodies → AllStand j vs
all_stand j bodies vs made given = record { each = λ p d lt. stand_from j 0 bodies vs made given p p d (omega arith) lt }

-- ---- their numbers of vertices
pub all_vertices : (j : Job) (p n : ℕ) (bodies : List (List ℕ)) (vs : List State) → IsJob j → n ≡ j.graph.vertices → AreMadeOf j p bodies vs → All (λ (v : State). v.part.plan.vertices ≡ n) vs
unfolding AreMadeOf part_of
all_vertices j p n [] [] job is made = All-nil (λ (v : State). v.part.plan.vertices ≡ n)
all_vertices j p n [] (v ∷ vs) job is made = absurd made
all_vertices j p n (b ∷ bodies) [] job is made = absurd made
all_vertices j p n (b ∷ bodies) (v ∷ vs) job is made =
    All-cons (λ (v : State). v.part.plan.vertices ≡ n) v vs
    (ap (λ (x : PartValue). x.plan.vertices) made.0.part_is ∙ job.vertices ∙ sym is)
    (all_vertices j (p + 1) n bodies vs job is made.1)

-- ---- the line before a checkpoint
cut_step : (d c : ℕ) (xs a b : List ℕ) (t : Bool) (o : Option (List ℕ × List ℕ)) → (c == d) ≡ t →
    ((x y : List ℕ) → o ≡ Some (x, y) → xs ≡ x ++ d ∷ y) → (if t then Some ([], xs) else longer c o) ≡ Some (a, b) → c ∷ xs ≡ a ++ d ∷ b
cut_step d c xs a b true o same rest is =
    let first : c ≡ d = eqb-true c d same in
    let both = pair-of ([], xs) (a, b) is in
    ap (λ (x : ℕ). x ∷ xs) first ∙ ap (λ p. p.0 ++ d ∷ p.1) both
cut_step d c xs a b false None same rest is = absurd (cc)
cut_step d c xs a b false (Some s) same rest is =
    let both = pair-of (c ∷ s.0, s.1) (a, b) is in
    ap (λ (l : List ℕ). c ∷ l) (rest s.0 s.1 refl) ∙ ap (λ p. p.0 ++ d ∷ p.1) both

cut_split : (d : ℕ) (xs a b : List ℕ) → cut_of d xs ≡ Some (a, b) → xs ≡ a ++ d ∷ b
unfolding cut_of
cut_split d [] a b is = absurd (cc)
cut_split d (c ∷ xs) a b is = cut_step d c xs a b (c == d) (cut_of d xs) refl (cut_split d xs) is

size_test : (word : List ℕ) (v n : ℕ) (t u : Bool) → u ≡ bytes_eq word (decimal v) → Some n ≡ (if t && u then Some v else None) → word ≡ decimal n
size_test word v n true true same is =
    let one : n ≡ v = cc in
    (bytes_eq-Decides word (decimal v)).0 (sym same) ∙ ap decimal (sym one)
size_test word v n true false same is = absurd (cc)
size_test word v n false u same is = absurd (cc)

size_spelled : (word : List ℕ) (n : ℕ) → Some n ≡ size_in word → word ≡ decimal n
unfolding number_below
size_spelled word n is = size_test word (value_from 0 word) n (nat_lt (value_from 0 word) (10 ^ 18)) (bytes_eq word (decimal (value_from 0 word))) refl is

pub part_spelled : (line a b : List ℕ) (n : ℕ) → Some (a, b) ≡ cut_of 32 line → bytes_eq a (codes "part") ≡ true → Some n ≡ size_in b → line ++ 10 ∷ [] ≡ part_line n
part_spelled line a b n is word size =
    ap (λ (l : List ℕ). l ++ 10 ∷ []) (cut_split 32 line a b (sym is))
    ∙ append_assoc a (32 ∷ b) (10 ∷ [])
    ∙ ap (λ (l : List ℕ). l ++ 32 ∷ (b ++ 10 ∷ [])) ((bytes_eq-Decides a (codes "part")).0 word)
    ∙ ap (λ (l : List ℕ). codes "part" ++ 32 ∷ (l ++ 10 ∷ [])) (size_spelled b n size)

-- ---- all of them
pub all_vertices_read : (j : Job) (n m : ℕ) (a b : Option (List ℕ)) (vs : List State) → IsJob j → n ≡ j.graph.vertices → ReadsAll j m a b vs → All (λ (v : State). v.part.plan.vertices ≡ n) vs
all_vertices_read j n m a b vs job is s = all_vertices j 0 n s.bodies vs job is s.made

pub gathered : (j : Job) (labels : List (List ℕ)) (a c x y : Option (List ℕ)) (vs : List State) → ReadsAll j j.plan.parts a c vs → are_ready vs ≡ true → IsAtEnd c →
    (AllStand j vs → Appends x y (job_report j labels)) → Gathers j labels a c x y
gathered j labels a c x y vs s ready end told = record {
  bodies = s.bodies;
  count = s.count;
  consumed = s.consumed;
  end = end;
  parts = parts_made j 0 s.bodies vs s.made;
  ready = record { replicas = vs; made = s.made; ready = ready };
  report = λ given. told (all_stand j s.bodies vs s.made given);
}

pub reads_part : (a b c : Option (List ℕ)) (n : ℕ) (body : List ℕ) → Consumes a b (part_line n) → Consumes b c body → length body ≡ n → Consumes a c (part_text body)
reads_part a b c n body one two long = subst (λ (k : ℕ). Consumes a c (part_line k ++ body)) (sym long) (Consumes-trans a b c (part_line n) body one two)

-- ---- why there is no replica
part_some : (n : ℕ) (rest : List ℕ) → part_line n ++ rest ≢ []
part_some n rest is = absurd (cc)

pub cut_part_body : (n m size : ℕ) (a b c : Option (List ℕ)) → n ≡ m → Consumes a b (part_line size) → CutsBody size b c → (n ≡ m) × EndsWithin a c
cut_part_body n m size a b c same line cut = (
  same,
  record {
    front = part_line size ++ cut.bytes;
    some = part_some size cut.bytes;
    within = inr (record { size = size; body = cut.bytes; fewer = cut.fewer; front_is = refl });
    consumed = Consumes-trans a b c (part_line size) cut.bytes line cut.consumed;
    end = cut.end;
  },
)

pub other_part : (n : ℕ) (part : PartValue) (a b : Option (List ℕ)) (body : List ℕ) (e : KeepError) → n ≡ part.number → Consumes a b (part_text body) → IsNoCheckpoint part body e → (n ≡ part.number) × ReadsNoCheckpoint part a b e
other_part n part a b body e same read other = (same, record { body = body; consumed = read; no_checkpoint = other })

-- ---- where memory is refused
pub nothing_lacks : (part : PartValue) (a : Option (List ℕ)) → LacksPartRoom part a a
nothing_lacks part a = record { front = []; within = inl refl; consumed = Consumes-nil a }

pub part_line_lacks : (part : PartValue) (a b : Option (List ℕ)) → ReadsInLine a b → LacksPartRoom part a b
part_line_lacks part a b r = record { front = r.bytes; within = inr (inl (r.one_line, r.first)); consumed = r.consumed }

text_lacks : (part : PartValue) (a b : Option (List ℕ)) (body : List ℕ) → length body ≤ most_checkpoint_bytes part part.plan.limit → Consumes a b (part_text body) → LacksPartRoom part a b
text_lacks part a b body few read = record { front = part_text body; within = inr (inr (record { body = body; few = few; front_is = refl })); consumed = read }

pub body_lacks : (part : PartValue) (a b c : Option (List ℕ)) (n : ℕ) → n ≤ most_checkpoint_bytes part part.plan.limit → Consumes a b (part_line n) → ReadsBody n b c → LacksPartRoom part a c
body_lacks part a b c n few line body =
    let long = body.long in
    text_lacks part a c body.bytes (omega (arith, few, long)) (reads_part a b c n body.bytes line body.consumed long)

-- all of a checkpoint was read
pub read_lacks : (j : Job) (p : ℕ) (a b : Option (List ℕ)) (v : State) → ReadsCheckpoint j p a b v → LacksPartRoom (part_of j p) a b
read_lacks j p a b v r = text_lacks (part_of j p) a b r.body r.made.is.few r.consumed

-- nothing was read
pub start_lacks : (j : Job) (a : Option (List ℕ)) → 0 < j.plan.parts → LacksReportRoom j a a
start_lacks j a some = inl (record { p = 0; below = some; replicas = []; mid = a; before = reads_none j a; at = nothing_lacks (part_of j 0) a })

-- all is ready
pub ready_lacks : (j : Job) (a c : Option (List ℕ)) (vs : List State) (e : ReportError) → ReadsAll j j.plan.parts a c vs → IsAtEnd c → are_ready vs ≡ true → IsNoReport j a c (report_fault e)
ready_lacks j a c vs unreported.Memory before end ready = inr (record { replicas = vs; before = before; end = end; ready = ready })
ready_lacks j a c vs unreported.Write before end ready = tt

-- ---- why there is no report
pub stops_at_part : (j : Job) (a b : Option (List ℕ)) (e : GatherError) → StopsAtPart j a b e → IsNoReport j a b e
stops_at_part j a b (fault.Job e) s = absurd s.at
stops_at_part j a b (fault.Missing p) s = s
stops_at_part j a b (fault.Line p) s = s
stops_at_part j a b (fault.Length p) s = s
stops_at_part j a b (fault.Cut p) s = s
stops_at_part j a b (fault.Checkpoint p e) s = s
stops_at_part j a b fault.Trailing s = absurd s.at
stops_at_part j a b fault.NotReady s = absurd s.at
stops_at_part j a b fault.Memory s = inl s
stops_at_part j a b fault.Read s = tt
stops_at_part j a b fault.Write s = tt

pub stops_at : (j : Job) (p : ℕ) (a b c : Option (List ℕ)) (vs : List State) (e : GatherError) → p < j.plan.parts → ReadsAll j p a b vs → IsNoReplica (part_of j p) b c e → IsNoReport j a c e
stops_at j p a b c vs e below before at = stops_at_part j a c e (record { p = p; below = below; replicas = vs; mid = b; before = before; at = at })

pub unready : (j : Job) (a c : Option (List ℕ)) (vs : List State) → ReadsAll j j.plan.parts a c vs → IsAtEnd c → are_ready vs ≡ false → AreUnready j a c
unready j a c vs before end not_ready = record { replicas = vs; mid = c; before = before; end = record { end = end; consumed = Consumes-nil c }; unready = not_ready }

-- ---- what was written
pub gathered_front : (j : Job) (labels : List (List ℕ)) (a c x y : Option (List ℕ)) (vs : List State) → ReadsAll j j.plan.parts a c vs → are_ready vs ≡ true → IsAtEnd c →
    (AllStand j vs → PutsFront x y (job_report j labels)) → WritesFront j labels a c x y
gathered_front j labels a c x y vs s ready end told = inr (record {
  bodies = s.bodies;
  count = s.count;
  consumed = s.consumed;
  end = end;
  parts = parts_made j 0 s.bodies vs s.made;
  ready = record { replicas = vs; made = s.made; ready = ready };
  front = λ given. told (all_stand j s.bodies vs s.made given);
})

pub front_of_job : (s : Settings) (counted : Bool) (network : Network) (plan : PlanValue) (a b c x y : Option (List ℕ)) → IsJobRead s counted a b network plan →
    WritesFront (job_of network.graph plan) network.labels b c x y → WritesFrontOfJob s counted a c x y
front_of_job s counted network plan a b c x y job (inl kept) = inl kept
front_of_job s counted network plan a b c x y job (inr front) = inr (record { network = network; plan = plan; mid = b; job = job; gathers = front })

-- ---- what is told of bytes that are no checkpoint
pub told_other : (p : ℕ) (part : PartValue) (a b : Option (List ℕ)) (body : List ℕ) (e : KeepError) → length body ≤ most_checkpoint_bytes part part.plan.limit → p ≡ part.number → Consumes a b (part_text body) → (e ≢ unkept.Memory → IsNoCheckpoint part body e) → IsNoReplica part a b (checkpoint_fault p e)
told_other p part a b body unkept.Memory few same read named = text_lacks part a b body few read
told_other p part a b body unkept.Write few same read named = other_part p part a b body unkept.Write same read (named (λ e. absurd (cc)))
told_other p part a b body unkept.Read few same read named = other_part p part a b body unkept.Read same read (named (λ e. absurd (cc)))
told_other p part a b body unkept.Short few same read named = other_part p part a b body unkept.Short same read (named (λ e. absurd (cc)))
told_other p part a b body unkept.Magic few same read named = other_part p part a b body unkept.Magic same read (named (λ e. absurd (cc)))
told_other p part a b body unkept.Version few same read named = other_part p part a b body unkept.Version same read (named (λ e. absurd (cc)))
told_other p part a b body unkept.OtherJob few same read named = other_part p part a b body unkept.OtherJob same read (named (λ e. absurd (cc)))
told_other p part a b body unkept.OtherPart few same read named = other_part p part a b body unkept.OtherPart same read (named (λ e. absurd (cc)))
told_other p part a b body unkept.Shape few same read named = other_part p part a b body unkept.Shape same read (named (λ e. absurd (cc)))
told_other p part a b body unkept.Digest few same read named = other_part p part a b body unkept.Digest same read (named (λ e. absurd (cc)))
told_other p part a b body unkept.Trailing few same read named = other_part p part a b body unkept.Trailing same read (named (λ e. absurd (cc)))
