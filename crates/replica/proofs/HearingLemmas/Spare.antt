-- Accumulators that are stale: lent to a walk, and taken back.
use Rattle.std.proofs.Common.{◌≡◌, Bool, true, false, List, length, replicate, refl, ap, sym, ◌∙◌, arith, inl, inr}
use Rattle.replica.proofs.Names.{Table, nil_from_length}
use Rattle.replica.specs.Hearing.{HearingValue, IsSpare, IsStale, KeepsNone, KeepsStale, Lends, TakesBack, caught_up}
use Rattle.replica.proofs.HearingLemmas.Hearing.{all_kept, none_kept}

-- where there is no stale accumulator none is kept
pub none_stale : (rows : Table) (marks : List Bool) (a spare : HearingValue) → KeepsStale rows marks a spare → length spare.accumulated.rows ≡ 0 → KeepsNone spare
none_stale rows marks a spare beside none = elim beside [
  | inl gone ↦ gone
  | inr stale ↦ (nil_from_length spare.accumulated.rows none, nil_from_length spare.touched (omega (arith, stale.1.kept.marks, stale.1.differ.count, none)))
]

-- and else none is kept in its place
pub stale_kept : (rows : Table) (marks : List Bool) (a spare : HearingValue) → KeepsStale rows marks a spare → (length spare.accumulated.rows ≡ 0 → ⊥) → KeepsNone a × IsStale rows marks spare
stale_kept rows marks a spare beside some = elim beside [
  | inl gone ↦ absurd (some (ap length gone.0))
  | inr stale ↦ stale
]

-- what is heard by a, with the stale ones
abbrev pub joined : HearingValue → HearingValue → HearingValue
joined a spare = record spare { heard = a.heard; change = a.change }

-- where nothing is heard
abbrev pub forgot : HearingValue → HearingValue
forgot a = record a { heard = replicate 64 false; change = false }

-- stale ones that have become the rows are a's
pub taken_back : (rows : Table) (marks : List Bool) (a spare left : HearingValue) → IsSpare rows marks a spare → (length spare.accumulated.rows ≡ 0 → ⊥) → left.accumulated ≡ a.accumulated → left.touched ≡ a.touched → TakesBack rows a spare (caught_up true rows (joined a spare)) left
taken_back rows marks a spare left is some accumulated touched =
    let stale = stale_kept rows marks a spare is.beside some in
    let none : length a.accumulated.rows ≡ 0 = ap length stale.0.0 in
    record {
      same = record {
        heard = refl;
        change = refl;
        width = sym is.width;
        accumulated = all_kept rows.rows rows.rows refl ∙ sym (none_kept rows.rows a.accumulated.rows none);
        kept = inl stale.1.kept;
      };
      count = omega (arith, none, stale.1.differ.count);
      width = ap (λ (t : Table). t.width) accumulated ∙ is.width;
      none = (ap (λ (t : Table). t.rows) accumulated ∙ stale.0.0, touched ∙ stale.0.1);
    }

-- they are lent stale
pub lent_stale : (rows : Table) (marks : List Bool) (a spare : HearingValue) → IsSpare rows marks a spare → (length spare.accumulated.rows ≡ 0 → ⊥) → Lends rows marks a spare true (forgot a) (joined a spare)
lent_stale rows marks a spare is some = record {
  takes = taken_back rows marks a spare (forgot a) is some refl refl;
  differ = λ on. (stale_kept rows marks a spare is.beside some).1.differ;
  heard = refl;
  change = refl;
}

-- or a's are lent
pub lent_kept : (rows : Table) (marks : List Bool) (a spare : HearingValue) → IsSpare rows marks a spare → length spare.accumulated.rows ≡ 0 → Lends rows marks a spare false (forgot spare) a
lent_kept rows marks a spare is none = record {
  takes = record {
    same = record { heard = refl; change = refl; width = refl; accumulated = refl; kept = is.kept };
    count = omega (arith, none);
    width = is.spare_width;
    none = none_stale rows marks a spare is.beside none;
  };
  differ = λ on. absurd (cc);
  heard = refl;
  change = refl;
}
