-- The names of definitions and lemmas that most proofs here cite, passed on from one place. Declares nothing.
pub use Rattle.std.proofs.lemmas.List.{append-nil, drop-drop, drop-map, drop_all, drop_at, get_or-append_right, get_or-drop, get_or-map, get_or-set_other, get_or-set_same, get_or-take, get_or_append_left, get_or_default, get_or_past, length-append, length-drop, length-map, length-replicate, length-set, length-take, length-take-le, map-append, map-set, map_push, nil_from_length, same_lists, set-get_or, take-append-drop, take_all, take_at, take_more, with_items_is}
pub use Rattle.ball_model.specs.State.{content_of, early_at, further, holds_in, is_heard, own_vertices, SameShown, StandsFor, State}
unfoldable pub use Rattle.ball_model.specs.State.{heard_changes, marks_of, rows_of, sums_of, tallies_of}
pub use Rattle.std.specs.List.{All, AllByRecursion, AllPairs, count_by, filter, find, flat_map, list_any, range_with_len, slice_get, slice_range, sum, sum_by, zip}
pub use Rattle.std.specs.Prelude.{Err, IfOk, IfSome, IsOk, IsTrue, None, Ok, OnErr, OnOk, Option, Result, Some, ◌||◌, ◌⊎◌}
pub use Rattle.ball_model.specs.Batches.{BatchValue, ids_of, IsBatch, IsRow}
unfoldable pub use Rattle.ball_model.specs.Batches.{changed_count, sent_vertices, true_batch}
pub use Rattle.ball_model.specs.PlanValue.{IsPlan, measure_of, mixing_of, most_parts, most_vertices, part_size, PlanValue}
unfoldable pub use Rattle.ball_model.specs.PlanValue.{vertices_of}
pub use Rattle.std.specs.Arc.{arc_value}
pub use Rattle.ball_model.specs.Job.{feed_mask, IsJob, IsPart, Job, PartValue}
unfoldable pub use Rattle.ball_model.specs.Job.{feeds_into, part_of}
pub use Rattle.ball_model.specs.Table.{Table}
pub use Rattle.std.proofs.lemmas.Bool.{and_from, and_left, and_parts, cases_eq, cases_lt, eq-eqb, eqb-false, eqb-true, false_from_ne_true, iff_false, le-leb, le-ltb, leb-true, lt-ltb, ltb-true, ne_eqb, not-false, not-true, or_cases, or_left, or_right}
pub use Rattle.figures.specs.Values.{value_of, weight_of}
pub use Rattle.ball_model.specs.Figures.{estimate_with, Measure, tally_of, TallyValue}
unfoldable pub use Rattle.ball_model.specs.Figures.{distance_of, harmonic_of}
pub use Rattle.std.specs.Vec.{vec_capacity, vec_len, with_items}
pub use Rattle.std.proofs.lemmas.List.FromFn.{get_or-map-range_with_len, length-map-range_with_len, length-range_with_len, map-range_with_len_more}
pub use Rattle.ball_model.specs.Content.{after_close, after_take, close_unless, Content, in_window, is_new, IsContent, same_plan, take_of, verdict_unless}
unfoldable pub use Rattle.ball_model.specs.Content.{close_of, missing_of, names_of, verdict_at, verdict_of}
pub use Rattle.std.proofs.lemmas.Grind.{common_steps}
pub use Rattle.ball_model.specs.Checkpoint.{no_figures}
unfoldable pub use Rattle.ball_model.specs.Checkpoint.{kept_batches}
pub use Rattle.std.proofs.lemmas.List.Sums.{count_by-le-length, length-filter, sum-map, sum_by-cons, sum_by-set, sum_by_more}
pub use Rattle.registers.specs.Marks.{IsNextMarked}
pub use Rattle.ball_model.specs.Counter.{counter_of, max_each, Mixing}
unfoldable pub use Rattle.ball_model.specs.Counter.{ball_counter}
pub use Rattle.figures.specs.declared.tally.Tally.{Tally}
pub use Rattle.graph.proofs.RangeLemmas.{copies-at}
pub use Rattle.ball_model.specs.declared.names.BatchName.{BatchName}
unfoldable pub use Rattle.ball_model.specs.Change.{any_changed}
pub use Rattle.std.specs.Str.{bytes_eq}
pub use Rattle.std.proofs.lemmas.List.Folds.{list_any-append, list_any_at, list_any_more, list_any_none}
pub use Rattle.std.proofs.lemmas.List.Elements.{All-append, All-from_get_or, All-get_or, All-nil, All-push, filter-append}
pub use Rattle.registers.proofs.MarkLemmas.{at_next, passed}
pub use Rattle.ball_model.specs.Supersteps.{end_of, tally_at}
unfoldable pub use Rattle.ball_model.specs.Supersteps.{estimate_at, total_over}
