-- A replica's accumulators: kept beside its rows, or let go where the run is over.
use Rattle.std.proofs.Common.{◌≡◌, ℕ, ◌+◌, ◌^◌, ◌≤◌, true, false, List, length, refl, ap, sym, ◌∙◌, subst, arith, inl, inr}
use Rattle.replica.proofs.Names.{Option, None, Some, Err, Ok, OnErr, OnOk, Result, Table, arc_value, BatchValue, IsBatch, close_unless, take_of, State, content_of}
use Rattle.ball_model.specs.declared.names.Taken.TheVariants as taken
use Rattle.ball_model.specs.declared.names.Verdict.{Verdict}
use Rattle.ball_model.specs.declared.names.Verdict.TheVariants as verdict
use Rattle.replica.specs.declared.stage.Stage.TheInside as stage
use Rattle.replica.specs.Level.{is_finished, is_over}
use Rattle.replica.specs.Hearing.{HearingValue, IsSpare, KeepsAll, KeepsNone, Renews, SaysSame, TakesBack}
use Rattle.replica.specs.Stage.{CanGoOn, CanLetGo, IsWhole, StageValue, StaysSame}
use Rattle.replica.specs.Seen.{IsState, IsStage, stage_of, state_of}
use Rattle.replica.specs.Tables.{TablesValue}
use Rattle.replica.proofs.HearingLemmas.Hearing.{all_kept, all_of}
use Rattle.replica.proofs.HearingLemmas.Spare.{none_stale}
use Rattle.replica.proofs.LevelLemmas.Over.{over_later}

-- ---- the fields as they stand

abbrev pub fields_of : stage.Inside → State
fields_of r = record (state_of r) { accumulated = r.hearing.accumulated.rows }

-- where an accumulator is kept of each row they are the state
pub fields_are : (r : stage.Inside) → length r.hearing.accumulated.rows ≡ length r.tables.rows.rows → fields_of r ≡ state_of r
fields_are r e = ap (λ (l : List (List ℕ)). record (fields_of r) { accumulated = l }) (sym (all_kept r.tables.rows.rows r.hearing.accumulated.rows e))

-- an accumulator is kept of each row
pub record Keeps (r : stage.Inside) (v : State) : Type 0 where
  pub kept : KeepsAll r.tables.rows.rows r.hearing
  pub view_is : fields_of r ≡ v
  pub state : IsState (fields_of r)

-- what is had, of what is had and kept
pub state_is : {k l : StageValue} → k ≡ l → k.state ≡ l.state
state_is e = ap (λ (k : StageValue). k.state) e

keeps : (r : stage.Inside) (v : State) → IsStage r → state_of r ≡ v → length r.hearing.accumulated.rows ≡ length r.tables.rows.rows → Keeps r v
keeps r v ok is count = record {
  kept = all_of r.tables.rows.rows r.hearing ok.kept count;
  view_is = fields_are r count ∙ is;
  state = subst (λ (u : State). IsState u) (sym (fields_are r count)) ok.state;
}

-- so it is where all are told to be kept
pub whole_keeps : (r : stage.Inside) (k : StageValue) → IsStage r → IsWhole k → stage_of r ≡ k → Keeps r k.state
whole_keeps r k ok whole is = keeps r k.state ok (state_is is) (let mine : IsWhole (stage_of r) = subst (λ (l : StageValue). IsWhole l) (sym is) whole in mine.kept)

-- no accumulators are stale
pub record IsNone (width : ℕ) (a : HearingValue) : Type 0 where
  pub wide : a.accumulated.width ≡ width
  pub none : KeepsNone a

abbrev pub NoneSpare : stage.Inside → Type 0
NoneSpare r = IsNone (2 ^ (arc_value r.part).plan.log2m) r.spare

-- where an accumulator is kept of each row none is
pub none_spare : (r : stage.Inside) → IsStage r → length r.hearing.accumulated.rows ≡ length r.tables.rows.rows → NoneSpare r
none_spare r ok count = record {
  wide = ok.spare_width;
  none = elim ok.spare [
    | inl none ↦ none
    | inr stale ↦ none_stale r.tables.rows r.tables.marks r.hearing r.spare ok.spare (omega (arith, stale.1.differ.count, count, ap length stale.0.0))
  ];
}

-- all accumulators are then those that it keeps
kept_count : (r : stage.Inside) (n : ℕ) → NoneSpare r → length r.hearing.accumulated.rows + length r.spare.accumulated.rows ≡ n → length r.hearing.accumulated.rows ≡ n
kept_count r n spare count = omega (arith, count, ap length spare.none.0)

-- where the run goes on
pub going_keeps : (r : stage.Inside) (k : StageValue) → IsStage r → NoneSpare r → CanGoOn k → stage_of r ≡ k → is_over k.state ≡ false → Keeps r k.state
going_keeps r k ok spare can is going =
    let mine : CanGoOn (stage_of r) = subst (λ (l : StageValue). CanGoOn l) (sym is) can in
    elim mine.kept [
      | inl count ↦ keeps r k.state ok (state_is is) (kept_count r (length r.tables.rows.rows) spare count)
      | inr gone ↦ absurd (let bad : true ≡ false = sym gone.1 ∙ ap (λ (u : State). is_over u) (state_is is) ∙ going in cc)
    ]

-- and where a batch of the superstep is new
pub hearing_keeps : (r : stage.Inside) (k : StageValue) (b : BatchValue) → IsStage r → NoneSpare r → CanGoOn k → stage_of r ≡ k → IsBatch b → take_of k.state.part.plan k.state.part.number (content_of k.state) b.plan b.name ≡ Ok taken.New → b.name.superstep ≡ k.state.superstep → Keeps r k.state
hearing_keeps r k b ok spare can is batch new now =
    let mine : CanGoOn (stage_of r) = subst (λ (l : StageValue). CanGoOn l) (sym is) can in
    elim mine.kept [
      | inl count ↦ keeps r k.state ok (state_is is) (kept_count r (length r.tables.rows.rows) spare count)
      | inr gone ↦ absurd (over_later k.state b batch new (subst (λ (u : State). is_over u ≡ true) (state_is is) gone.1) now)
    ]

-- the fields of a replica that keeps them
pub kept_stage : (r : stage.Inside) → IsState (fields_of r) → r.tables.rows.width ≡ 2 ^ (arc_value r.part).plan.log2m → r.hearing.accumulated.width ≡ 2 ^ (arc_value r.part).plan.log2m → KeepsAll r.tables.rows.rows r.hearing → NoneSpare r → IsStage r
kept_stage r st width accumulated_width kept spare = record {
  state = subst (λ (u : State). IsState u) (fields_are r st.accumulated.count) st;
  width = width;
  accumulated_width = accumulated_width;
  spare_width = spare.wide;
  kept = inl kept;
  spare = inl spare.none;
}

-- with room, a replica can go on with them
pub can_go_on : (r : stage.Inside) → NoneSpare r → length r.hearing.accumulated.rows ≡ length r.tables.rows.rows → (arc_value r.part).plan.limit + 1 ≤ r.tables.room → CanGoOn (stage_of r)
can_go_on r spare count room = record { kept = inl (omega (arith, count, ap length spare.none.0)); room = room }

-- the room that there was
pub had_room : (r : stage.Inside) (k : StageValue) → stage_of r ≡ k → CanGoOn k → (arc_value r.part).plan.limit + 1 ≤ r.tables.room
had_room r k is can =
    let mine : CanGoOn (stage_of r) = subst (λ (l : StageValue). CanGoOn l) (sym is) can in
    mine.room

-- ---- saying the same

-- the state, where something else is heard that says the same
pub said_same : (r : stage.Inside) (a : HearingValue) → SaysSame r.tables.rows.rows r.hearing a → state_of (record r { hearing = a }) ≡ state_of r
said_same r a same = λ i. record (state_of r) { heard = same.heard i; heard_change = same.change i; accumulated = same.accumulated i }

-- ---- once stale accumulators are taken back

pub record Whole (r : stage.Inside) (v : State) (can : Type 0) : Type 0 where
  pub limits : IsStage r
  pub spare : NoneSpare r
  pub same : state_of r ≡ v
  pub goes_on : can → CanGoOn (stage_of r)

pub is_spare : (r : stage.Inside) → IsStage r → IsSpare r.tables.rows r.tables.marks r.hearing r.spare
is_spare r ok = record { width = ok.accumulated_width ∙ sym ok.width; spare_width = ok.spare_width ∙ sym ok.width; kept = ok.kept; beside = ok.spare }

pub made_whole : (r : stage.Inside) (k : StageValue) (b left : HearingValue) → IsStage r → stage_of r ≡ k → TakesBack r.tables.rows r.hearing r.spare b left → Whole (record r { hearing = b; spare = left }) k.state (CanGoOn k)
made_whole r k b left ok is back =
    let same : state_of (record r { hearing = b }) ≡ state_of r = said_same r b back.same in
    let none : length left.accumulated.rows ≡ 0 = ap length back.none.0 in
    record {
      limits = record {
        state = subst (λ (u : State). IsState u) (sym same) ok.state;
        width = ok.width;
        accumulated_width = back.same.width ∙ ok.accumulated_width;
        spare_width = back.width ∙ ok.width;
        kept = back.same.kept;
        spare = inl back.none;
      };
      spare = record { wide = back.width ∙ ok.width; none = back.none };
      same = same ∙ state_is is;
      goes_on = λ can.
          let mine : CanGoOn (stage_of r) = subst (λ (l : StageValue). CanGoOn l) (sym is) can in
          record {
            kept = elim mine.kept [
              | inl count ↦ inl (omega (arith, count, none, back.count))
              | inr gone ↦ inr (omega (arith, gone.0, none, back.count), ap (λ (u : State). is_over u) same ∙ gone.1)
            ];
            room = mine.room;
          };
    }

-- ---- once they are kept again

pub record Readied {A E : Type 0} (r : stage.Inside) (k : StageValue) (result : Result A E) : Type 0 where
  pub limits : IsStage r
  pub same : state_of r ≡ k.state
  pub goes_on : CanGoOn (stage_of r)
  pub whole : OnOk result (IsWhole (stage_of r))

-- something else is heard that says the same
said_stage : (r : stage.Inside) (a : HearingValue) → IsStage r → NoneSpare r → SaysSame r.tables.rows.rows r.hearing a → IsStage (record r { hearing = a })
said_stage r a ok spare says = record {
  state = subst (λ (u : State). IsState u) (sym (said_same r a says)) ok.state;
  width = ok.width;
  accumulated_width = says.width ∙ ok.accumulated_width;
  spare_width = spare.wide;
  kept = says.kept;
  spare = inl spare.none;
}

pub readied : {A E : Type 0} (result : Result A E) (r : stage.Inside) (k : StageValue) (rows : Table) (after : HearingValue) → Whole r k.state (CanGoOn k) → CanGoOn k → rows ≡ r.tables.rows → OnOk result (Renews rows.rows r.hearing after) → OnErr result (after ≡ r.hearing) → Readied (record r { hearing = after }) k result
readied {A} {E} (Ok a) r k rows after whole can is renewed refused =
    let made : Renews r.tables.rows.rows r.hearing after = subst (λ (t : Table). Renews t.rows r.hearing after) is renewed in
    let none : length r.spare.accumulated.rows ≡ 0 = ap length whole.spare.none.0 in
    let room = (whole.goes_on can).room in
    record {
      limits = said_stage r after whole.limits whole.spare made.same;
      same = said_same r after made.same ∙ whole.same;
      goes_on = record { kept = inl (omega (arith, made.all.count, none)); room = room };
      whole = record { kept = made.all.count; spare = whole.spare.none.0; room = room };
    }
readied {A} {E} (Err e) r k rows after whole can is renewed refused =
    subst (λ (a : HearingValue). Readied {A = A} {E = E} (record r { hearing = a }) k (Err e)) (sym refused) (record {
      limits = whole.limits;
      same = whole.same;
      goes_on = whole.goes_on can;
      whole = tt;
    })

-- ---- once what only going on needs is dropped

pub record Gone (r : stage.Inside) (k : StageValue) : Type 0 where
  pub limits : IsStage r
  pub stays : StaysSame k (stage_of r)

pub let_gone : (r : stage.Inside) (k : StageValue) (b : TablesValue) (after : HearingValue) → Whole r k.state (CanGoOn k) → CanLetGo k → b ≡ r.tables → SaysSame r.tables.rows.rows r.hearing after → Gone (record r { tables = b; hearing = after }) k
let_gone r k b after whole can is says =
    let said : state_of (record r { hearing = after }) ≡ state_of r = said_same r after says in
    let mine = whole.goes_on can.goes_on in
    let none : length r.spare.accumulated.rows ≡ 0 = ap length whole.spare.none.0 in
    subst (λ (t : TablesValue). Gone (record r { tables = t; hearing = after }) k) (sym is) (record {
      limits = said_stage r after whole.limits whole.spare says;
      stays = record {
        same = said ∙ whole.same;
        goes_on = record {
          kept = elim says.kept [
            | inl all ↦ inl (omega (arith, all.count, none))
            | inr bare ↦ inr (omega (arith, ap length bare.0, none), ap (λ (u : State). is_over u) (said ∙ whole.same) ∙ can.over)
          ];
          room = mine.room;
        };
      };
    })

-- ---- when the run is over

goes_on : (o : Option ℕ) (w : Verdict) (t : ℕ) → w ≡ verdict.GoOn → is_finished (close_unless o w t) ≡ false
goes_on None verdict.GoOn t e = refl
goes_on None verdict.Stable t e = absurd (cc)
goes_on None verdict.Limit t e = absurd (cc)
goes_on (Some q) w t e = refl
