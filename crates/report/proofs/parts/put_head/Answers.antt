use Rattle.std.proofs.Common.{◌≡◌, ◌++◌, ℕ, Bool, List, length, slice_index, append_assoc, refl}
use Rattle.std.specs.List.{flat_map, range_with_len}
use Rattle.ball_model.specs.Figures.{gain_of}
use Rattle.ball_model.specs.Report.{end_line, gain_line, superstep_line}
use Rattle.report.specs.Parts.{head_text}
use Rattle.report.specs.Rows.{text_in}
use Rattle.report.proofs.parts.put_head.Goals as goal

-- the lines one after another
head_is : (totals : List ℕ) («end» gain : ℕ) (stable : Bool) (t0 t1 t2 t3 : List ℕ) →
    t1 ≡ t0 ++ flat_map (λ i. superstep_line i (slice_index totals i)) (range_with_len 0 (length totals)) → t2 ≡ t1 ++ end_line «end» stable → t3 ≡ t2 ++ gain_line gain →
    gain ≡ gain_of totals → t3 ≡ t0 ++ head_text totals «end» stable
unfolding head_text
head_is totals «end» gain stable t0 t1 t2 t3 e1 e2 e3 g = rw (e3, e2, e1, g) (simp append_assoc refl)

pub returns : goal.returns
returns c =
    head_is c.args.totals.now c.args.«end» c.gain.result c.args.stable (text_in c.args.rows.now) _ _ _
    c.in_ok-put_supersteps.ensures.text c.in_ok-put_end.ensures.text c.in_ok-put_gain.ensures.text c.gain.ensures
