-- What is read is spelled so, and what is spelled so is read.
use Rattle.std.proofs.Common.{◌≡◌, ℕ, ◌+◌, ◌-◌, ◌*◌, ◌%◌, ◌^◌, ◌<◌, ◌≤◌, ltb, List, [], ◌∷◌, ◌++◌, length, get_or, drop, Result, Ok, Err, refl, sym, ap, subst, ◌∙◌, arith, inl, inr}
use Rattle.std.specs.List.{flat_map, All}
use Rattle.std.proofs.Math.Nat.{pow-le-pow_right}
use Rattle.std.proofs.lemmas.Bool.{ltb-false, le-ltb, cases_lt}
use Rattle.std.proofs.lemmas.List.{length-append, length-drop, get_or_past}
use Rattle.ball_model.specs.PlanValue.{PlanValue, IsPlan, most_vertices, part_size}
use Rattle.ball_model.specs.Batches.{BatchValue, IsRow, IsBatch, row_bytes, header_bytes, batch_bytes}
use Rattle.batches.specs.declared.error.BatchError.{BatchError}
use Rattle.batches.specs.declared.error.BatchError.TheVariants as errors
use Rattle.batches.specs.declared.header.Header.{Header}
use Rattle.batches.specs.Kept.{first_rows, paired_rows, IsKept}
use Rattle.ball_model.specs.Checks.{◌>>=◌}
use Rattle.batches.specs.Reading.{magic, head_at, head_bytes, check_head, check_length, check_rows, check_at, batch_from, batch_at, GivesBatchOrMemory, AgreesButJob}
use Rattle.batches.proofs.HeadLemmas.{IsBytes, IsBytes-drop, Fits, head_takes, head_again, head_len, head_after, same_head, job_len}
use Rattle.batches.proofs.RowLemmas.{rows_take, rows_again, rows_len, flat_len, AreWide}
use Rattle.ball_model.proofs.CheckLemmas.{bind_ok, guard_ok}
use Rattle.batches.proofs.CheckLemmas.{ok_is, IsHead, head_checked, head_passes, length_checked, length_passes, AreRows, rows_all, rows_ascend, rows_are, rows_even, rows_checked, rows_pass, IsFault, AsksNone, err_asks-none, ok_asks-none, guard_asks-none, bind_asks-none, head_asks-none, length_asks-none, rows_ask-none}
use Rattle.batches.proofs.KeptLemmas.{Kept, batch-changed}

-- the fixed fields of a batch
abbrev pub head_of : BatchValue → Header
head_of b = record { magic = magic; version = 1; log2m = b.plan.log2m; name = b.name; job = b.plan.job; changed = b.changed; count = length b.rows }

-- the spelling is that of the fixed fields, and the rows
pub batch_bytes-head : (b : BatchValue) → batch_bytes b ≡ head_bytes (head_of b) ++ flat_map row_bytes b.rows
unfolding batch_bytes header_bytes head_bytes
batch_bytes-head b = refl

pub header_bytes-head : (b : BatchValue) → head_bytes (head_of b) ≡ header_bytes b
unfolding header_bytes head_bytes
header_bytes-head b = refl

-- what all checks say
pub record IsChecked (plan : PlanValue) (bytes : List ℕ) (h : Header) : Type 0 where
  pub long : 54 ≤ length bytes
  pub is : h ≡ head_at bytes
  pub head : IsHead plan h
  pub whole : length (drop 54 bytes) ≡ h.count * (4 + 2 ^ plan.log2m)
  pub rows : AreRows plan h.name.source 0 (first_rows (2 ^ plan.log2m) h.count (drop 54 bytes))

pub checked_takes : (plan : PlanValue) (bytes : List ℕ) (h : Header) → check_at plan bytes ≡ Ok h → IsChecked plan bytes h
unfolding check_at
checked_takes plan bytes h e =
    let m = 2 ^ plan.log2m in
    let g = head_at bytes in
    let rows = first_rows m g.count (drop 54 bytes) in
    let start = guard_ok (ltb (length bytes) 54) errors.Short _ h e in
    let one = bind_ok (check_head plan g) (λ head. check_length (g.count * (4 + m)) (length bytes - 54) >>= λ whole. check_rows plan g.name.source 0 rows >>= λ fine. Ok g) h start.1 in
    let two = bind_ok (check_length (g.count * (4 + m)) (length bytes - 54)) (λ whole. check_rows plan g.name.source 0 rows >>= λ fine. Ok g) h one.2 in
    let three = bind_ok (check_rows plan g.name.source 0 rows) (λ fine. Ok g) h two.2 in
    let len : length (drop 54 bytes) ≡ g.count * (4 + m) = length-drop 54 bytes ∙ length_checked (g.count * (4 + m)) (length bytes - 54) two.0 two.1 in
    let all : IsChecked plan bytes g = record {
      long = ltb-false _ _ start.0;
      is = refl;
      head = head_checked plan g one.0 one.1;
      whole = len;
      rows = rows_checked plan g.name.source 0 rows three.0 (rows_even m g.count (drop 54 bytes) len) three.1;
    } in
    subst (λ (x : Header). IsChecked plan bytes x) (ok_is g h three.2) all

-- what passes the checks is a batch
pub checked_batch : (plan : PlanValue) (bytes : List ℕ) (h : Header) → IsPlan plan → IsChecked plan bytes h → IsBatch (batch_from plan h (first_rows (2 ^ plan.log2m) h.count (drop 54 bytes)))
checked_batch plan bytes h ok c =
    let rows = first_rows (2 ^ plan.log2m) h.count (drop 54 bytes) in
    let digest : length h.job ≡ 32 = ap (λ (x : Header). length x.job) c.is ∙ job_len bytes c.long in
    record {
      plan = record { log2m_from = ok.log2m_from; log2m_to = ok.log2m_to; seed_to = ok.seed_to; parts_from = ok.parts_from; parts_to = ok.parts_to; limit_from = ok.limit_from; limit_to = ok.limit_to; vertices_to = ok.vertices_to; digest = digest };
      superstep = c.head.superstep;
      source = c.head.source;
      target = c.head.target;
      changed = c.head.changed;
      count = omega (arith, rows_len (2 ^ plan.log2m) h.count (drop 54 bytes), c.head.count);
      ascending = rows_ascend plan h.name.source 0 rows c.rows;
      rows = λ k d lt. let one = rows_all plan h.name.source 0 rows c.rows k d lt in record { vertex = one.vertex; own = one.own; width = one.width; ranks = one.ranks };
    }

-- what passes the checks is spelled so
pub checked_spelled : (plan : PlanValue) (bytes : List ℕ) (h : Header) → IsBytes bytes → IsChecked plan bytes h → bytes ≡ batch_bytes (batch_from plan h (first_rows (2 ^ plan.log2m) h.count (drop 54 bytes)))
checked_spelled plan bytes h fits c =
    let m = 2 ^ plan.log2m in
    let body = drop 54 bytes in
    let rows = first_rows m h.count body in
    let the_head : h ≡ head_of (batch_from plan h rows) = same_head h (head_of (batch_from plan h rows)) c.head.magic c.head.version c.head.log2m refl refl refl refl refl (sym (rows_len m h.count body)) in
    head_takes bytes c.long fits
    ∙ ap (λ (x : Header). head_bytes x ++ body) (sym c.is ∙ the_head)
    ∙ ap (λ (t : List ℕ). head_bytes (head_of (batch_from plan h rows)) ++ t) (rows_take m h.count body c.whole (IsBytes-drop 54 bytes fits))
    ∙ sym (batch_bytes-head (batch_from plan h rows))

-- rows of a batch fit their bytes
rows_wide : (plan : PlanValue) (source least : ℕ) (rows : List (ℕ × List ℕ)) → plan.vertices ≤ most_vertices → AreRows plan source least rows → AreWide (2 ^ plan.log2m) rows
unfolding AreWide AreRows
rows_wide plan source least [] few are = tt
rows_wide plan source least (row ∷ rows) few are = (omega (arith, are.0.vertex, few), are.0.width, rows_wide plan source (row.0 + 1) rows few are.2)

checks_pass : (plan : PlanValue) (bytes body : List ℕ) (h : Header) (rows : List (ℕ × List ℕ)) → 54 ≤ length bytes → head_at bytes ≡ h → drop 54 bytes ≡ body → first_rows (2 ^ plan.log2m) h.count body ≡ rows
    → check_head plan h ≡ Ok tt → length bytes - 54 ≡ h.count * (4 + 2 ^ plan.log2m) → check_rows plan h.name.source 0 rows ≡ Ok tt → batch_at plan bytes ≡ Ok (batch_from plan h rows)
unfolding check_at
checks_pass plan bytes body h rows long is after these head_fine len rows_fine =
    rw (le-ltb (length bytes) 54 long, is, after, these, head_fine, length_passes (h.count * (4 + 2 ^ plan.log2m)) (length bytes - 54) len, rows_fine, these) refl

-- the spelling of a batch under the plan with the batch's digest is read
spelling_again : (plan : PlanValue) (b : BatchValue) → b.plan ≡ record plan { job = b.plan.job } → IsBatch b → batch_at plan (batch_bytes b) ≡ Ok (batch_from plan (head_of b) b.rows)
spelling_again plan b agrees is =
    let m = 2 ^ plan.log2m in
    let h = head_of b in
    let body = flat_map row_bytes b.rows in
    let e_log2m : b.plan.log2m ≡ plan.log2m = ap (λ (p : PlanValue). p.log2m) agrees in
    let e_parts : b.plan.parts ≡ plan.parts = ap (λ (p : PlanValue). p.parts) agrees in
    let e_limit : b.plan.limit ≡ plan.limit = ap (λ (p : PlanValue). p.limit) agrees in
    let e_vertices : b.plan.vertices ≡ plan.vertices = ap (λ (p : PlanValue). p.vertices) agrees in
    let few : plan.vertices ≤ most_vertices = omega (arith, e_vertices, is.plan.vertices_to) in
    let rows_ok : All (IsRow plan b.name.source) b.rows = λ k d lt. let one = is.rows k d lt in
    record { vertex = omega (arith, one.vertex, e_vertices); own = ap (λ (p : ℕ). (get_or b.rows k d).0 % p) (sym e_parts) ∙ one.own; width = one.width ∙ ap (λ (l : ℕ). 2 ^ l) e_log2m; ranks = one.ranks } in
    let are : AreRows plan b.name.source 0 b.rows = rows_are plan b.name.source 0 b.rows (λ some. omega arith) rows_ok is.ascending in
    let wide = rows_wide plan b.name.source 0 b.rows few are in
    let changed = batch-changed b is in
    let size : part_size b.plan.vertices b.plan.parts b.name.source ≡ part_size plan.vertices plan.parts b.name.source = ap (λ (p : PlanValue). part_size p.vertices p.parts b.name.source) agrees in
    let fits : Fits h = record {
      magic = omega arith;
      superstep = omega (arith, is.superstep, is.plan.limit_to);
      source = omega (arith, is.source, is.plan.parts_to);
      target = omega (arith, is.target, is.plan.parts_to);
      job = is.plan.digest;
      changed = changed;
      count = omega (arith, is.count, changed);
    } in
    let head : IsHead plan h = record {
      magic = refl;
      version = refl;
      log2m = e_log2m;
      superstep = omega (arith, is.superstep, e_limit);
      source = omega (arith, is.source, e_parts);
      target = omega (arith, is.target, e_parts);
      changed = omega (arith, is.changed, size);
      count = is.count;
    } in
    let first = head_len h is.plan.digest in
    let len = length-append (head_bytes h) body in
    let size_is = flat_len m b.rows wide in
    rw (batch_bytes-head b) (checks_pass plan (head_bytes h ++ body) body h b.rows (omega (arith, len, first)) (head_again h body fits) (head_after h body is.plan.digest) (rows_again m b.rows wide) (head_passes plan h head) (omega (arith, len, first, size_is)) (rows_pass plan b.name.source 0 b.rows are))

abbrev with_plan : PlanValue → BatchValue → BatchValue
with_plan p b = record { plan = p; name = b.name; changed = b.changed; rows = b.rows }

-- the spelling of a batch is read
pub spelling_is_read : (plan : PlanValue) (b : BatchValue) → IsBatch b → AgreesButJob plan b.plan → batch_at plan (batch_bytes b) ≡ Ok b
spelling_is_read plan b is agrees =
    let whole : batch_from plan (head_of b) b.rows ≡ b = ap (λ (p : PlanValue). with_plan p b) (sym agrees) in
    spelling_again plan b agrees is ∙ ap (λ (x : BatchValue). Ok x) whole

-- bytes that are read passed the checks
pub batch_takes : (plan : PlanValue) (bytes : List ℕ) (b : BatchValue) → batch_at plan bytes ≡ Ok b → (h : Header) × IsChecked plan bytes h × (batch_from plan h (first_rows (2 ^ plan.log2m) h.count (drop 54 bytes)) ≡ b)
batch_takes plan bytes b e =
    let one = bind_ok (check_at plan bytes) (λ head. Ok (batch_from plan head (first_rows (2 ^ plan.log2m) head.count (drop 54 bytes)))) b e in
    (one.0, checked_takes plan bytes one.0 one.1, ok_is _ b one.2)

-- a refusal is due, which is no want of memory
pub gives_err : (e : BatchError) (due : Result BatchValue BatchError) → IsFault e → Err e ≡ due → GivesBatchOrMemory (Err e) due
gives_err errors.Memory due fault same = absurd fault
gives_err errors.Short due fault same = same
gives_err errors.Magic due fault same = same
gives_err errors.Version due fault same = same
gives_err errors.Size due fault same = same
gives_err errors.Name due fault same = same
gives_err errors.Count due fault same = same
gives_err errors.Trailing due fault same = same
gives_err errors.Vertex due fault same = same
gives_err errors.Order due fault same = same
gives_err errors.Rank due fault same = same

-- no check of the bytes asks for memory
checked_asks-none : (plan : PlanValue) (bytes : List ℕ) → AsksNone (check_at plan bytes)
unfolding check_at
checked_asks-none plan bytes =
    let g = head_at bytes in
    let rows = first_rows (2 ^ plan.log2m) g.count (drop 54 bytes) in
    guard_asks-none (ltb (length bytes) 54) errors.Short _ tt (bind_asks-none (check_head plan g) _ (head_asks-none plan g) (λ head.
    bind_asks-none (check_length (g.count * (4 + 2 ^ plan.log2m)) (length bytes - 54)) _ (length_asks-none _ _) (λ whole.
    bind_asks-none (check_rows plan g.name.source 0 rows) _ (rows_ask-none plan g.name.source 0 rows) (λ fine. ok_asks-none g))))

-- what the checks refuse is not read
pub refused : (plan : PlanValue) (bytes : List ℕ) (e : BatchError) → Err e ≡ check_at plan bytes → GivesBatchOrMemory (Err e) (batch_at plan bytes)
refused plan bytes e same =
    gives_err e (batch_at plan bytes) (err_asks-none Header e (subst (λ (r : Result Header BatchError). AsksNone r) (sym same) (checked_asks-none plan bytes))) (rw (← same) refl)

-- what passes the checks is read
pub read_is : (plan : PlanValue) (bytes : List ℕ) (h : Header) → check_at plan bytes ≡ Ok h → batch_at plan bytes ≡ Ok (batch_from plan h (first_rows (2 ^ plan.log2m) h.count (drop 54 bytes)))
read_is plan bytes h same = rw same refl

-- the answer that is due, at a batch with these bytes
pub only_from : (plan : PlanValue) (bytes : List ℕ) (r : Result BatchValue BatchError) → GivesBatchOrMemory r (batch_at plan bytes) → (b : BatchValue) → IsBatch b → AgreesButJob plan b.plan → bytes ≡ batch_bytes b → GivesBatchOrMemory r (Ok b)
only_from plan bytes r gives b is agrees e = subst (λ (due : Result BatchValue BatchError). GivesBatchOrMemory r due) (ap (batch_at plan) e ∙ spelling_is_read plan b is agrees) gives

-- a counter has at most 1024 registers
pub width_small : (plan : PlanValue) → IsPlan plan → 2 ^ plan.log2m ≤ 1024
width_small plan ok = let h : 2 ^ plan.log2m ≤ 2 ^ 10 = pow-le-pow_right (omega arith) ok.log2m_to in omega (arith, h)

bytes_fit : (bytes : List ℕ) → All (λ x. x < 256) bytes → IsBytes bytes
bytes_fit bytes all i =
    elim (cases_lt i (length bytes)) [
      | inl lt ↦ all i 0 lt
      | inr le ↦ rw (get_or_past bytes i 0 le) (omega arith)
    ]

-- bytes that are read as a batch are its spelling
pub spelling_is_one : (plan : PlanValue) (bytes : List ℕ) (b : BatchValue) → All (λ x. x < 256) bytes → batch_at plan bytes ≡ Ok b → bytes ≡ batch_bytes b
spelling_is_one plan bytes b fits e =
    let t = batch_takes plan bytes b e in
    checked_spelled plan bytes t.0 (bytes_fit bytes fits) t.1 ∙ ap batch_bytes t.2

-- no bytes spell two batches of a plan
pub batch_is_one : (a b : BatchValue) → IsBatch a → IsBatch b → AgreesButJob a.plan b.plan → batch_bytes a ≡ batch_bytes b → a ≡ b
batch_is_one a b is_a is_b agrees same =
    let one : batch_at a.plan (batch_bytes a) ≡ Ok a = spelling_is_read a.plan a is_a refl in
    let two : batch_at a.plan (batch_bytes b) ≡ Ok b = spelling_is_read a.plan b is_b agrees in
    ok_is a b (sym one ∙ ap (batch_at a.plan) same ∙ two)

-- the batch that was read
pub kept_is : (plan p : PlanValue) (bytes ids registers : List ℕ) (h : Header) (m : ℕ) → m ≡ 2 ^ plan.log2m → p ≡ record plan { job = h.job }
    → paired_rows m ids registers ≡ first_rows m h.count (drop 54 bytes)
    → record { plan = p; name = h.name; changed = h.changed; rows = paired_rows (2 ^ p.log2m) ids registers } ≡ batch_from plan h (first_rows (2 ^ plan.log2m) h.count (drop 54 bytes))
kept_is plan p bytes ids registers h m e_m e_p rows =
    let P : PlanValue → Type 0 = λ q. record { plan = q; name = h.name; changed = h.changed; rows = paired_rows (2 ^ q.log2m) ids registers } ≡ batch_from plan h (first_rows (2 ^ plan.log2m) h.count (drop 54 bytes)) in
    let at : paired_rows (2 ^ plan.log2m) ids registers ≡ first_rows (2 ^ plan.log2m) h.count (drop 54 bytes) = subst (λ (w : ℕ). paired_rows w ids registers ≡ first_rows w h.count (drop 54 bytes)) e_m rows in
    subst P (sym e_p) (ap (λ (t : List (ℕ × List ℕ)). batch_from plan h t) at)

-- what was read and kept in memory
pub kept_read : (plan p : PlanValue) (bytes ids registers : List ℕ) (h : Header) (m : ℕ) → IsPlan plan → IsChecked plan bytes h → m ≡ 2 ^ plan.log2m → p ≡ record plan { job = h.job }
    → paired_rows m ids registers ≡ first_rows m h.count (drop 54 bytes) → length registers ≡ length ids * m
    → IsKept (record { plan = p; name = h.name; changed = h.changed; rows = paired_rows (2 ^ p.log2m) ids registers }) ids registers
kept_read plan p bytes ids registers h m ok c e_m e_p rows room =
    let same : record { plan = p; name = h.name; changed = h.changed; rows = paired_rows (2 ^ p.log2m) ids registers } ≡ batch_from plan h (first_rows (2 ^ plan.log2m) h.count (drop 54 bytes)) = kept_is plan p bytes ids registers h m e_m e_p rows in
    record {
      batch = subst IsBatch (sym same) (checked_batch plan bytes h ok c);
      room = room ∙ ap (λ (w : ℕ). length ids * w) (e_m ∙ ap (λ (q : PlanValue). 2 ^ q.log2m) (sym e_p));
    }

-- what is written is the spelling
pub written_is : (b : BatchValue) (m : ℕ) (ids registers o0 o1 o2 : List ℕ) → Kept b ids registers → m ≡ 2 ^ b.plan.log2m
    → o0 ≡ [] → o1 ≡ o0 ++ header_bytes b → o2 ≡ o1 ++ flat_map row_bytes (paired_rows m ids registers) → o2 ≡ batch_bytes b
unfolding batch_bytes
written_is b m ids registers o0 o1 o2 kept e_m e0 e1 e2 =
    let first : o1 ≡ header_bytes b = rw e0 at e1 in
    let rows : paired_rows m ids registers ≡ b.rows = ap (λ (w : ℕ). paired_rows w ids registers) e_m ∙ sym kept.rows in
    e2 ∙ ap (λ (t : List ℕ). t ++ flat_map row_bytes (paired_rows m ids registers)) first
    ∙ ap (λ (rs : List (ℕ × List ℕ)). header_bytes b ++ flat_map row_bytes rs) rows

-- how many bytes a batch has
pub batch_length : (b : BatchValue) → IsBatch b → length (batch_bytes b) ≡ 54 + length b.rows * (4 + 2 ^ b.plan.log2m)
batch_length b is =
    let head = head_bytes (head_of b) in
    let body = flat_map row_bytes b.rows in
    let are : AreRows b.plan b.name.source 0 b.rows = rows_are b.plan b.name.source 0 b.rows (λ some. omega arith) is.rows is.ascending in
    let first : length head ≡ 54 = head_len (head_of b) is.plan.digest in
    let rest : length body ≡ length b.rows * (4 + 2 ^ b.plan.log2m) = flat_len (2 ^ b.plan.log2m) b.rows (rows_wide b.plan b.name.source 0 b.rows is.plan.vertices_to are) in
    ap length (batch_bytes-head b) ∙ length-append head body ∙ omega (arith, first, rest)

-- where the checks refuse, no batch has these bytes
pub only_refused : (plan : PlanValue) (bytes : List ℕ) (e : BatchError) → Err e ≡ check_at plan bytes → (b : BatchValue) → IsBatch b → AgreesButJob plan b.plan → bytes ≡ batch_bytes b → GivesBatchOrMemory (Err e) (Ok b)
only_refused plan bytes e same = only_from plan bytes (Err e) (refused plan bytes e same)
