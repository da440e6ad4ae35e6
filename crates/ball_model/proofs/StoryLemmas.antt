-- The stories, computed by the definitions alone.
use Rattle.std.proofs.Common.{refl}
use Rattle.ball_model.specs.Hash.{hash_of, index_of, tail_of, floor_log2, rank_of}
use Rattle.ball_model.specs.Greatest.{greatest}
use Rattle.ball_model.specs.Graph.{is_path, some_list, in_ball, in_ball_before}
use Rattle.ball_model.specs.Counter.{ball_counter, counter_of, register_of}
use Rattle.ball_model.specs.Change.{any_changed, changed_at}
use Rattle.ball_model.specs.PlanValue.{vertices_of}
use Rattle.ball_model.specs.Job.{feeds_into}
use Rattle.ball_model.specs.Batches.{true_batch, changed_count, sent_vertices}
use Rattle.ball_model.specs.Content.{names_of, missing_of, verdict_at, close_of}
use Rattle.ball_model.specs.Join.{has_name}
use Rattle.ball_model.specs.World.{start_world, answers_of, node_at}
use Rattle.ball_model.specs.WorldExamples.{EarlyBatch, RepeatedBatch, WindowEdge, Checkpointed, Copied, ThreePartitions, LoneVertex}

pub early_batch : EarlyBatch
unfolding answers_of start_world node_at names_of has_name missing_of verdict_at close_of true_batch changed_count sent_vertices any_changed changed_at ball_counter counter_of register_of in_ball in_ball_before some_list is_path feeds_into vertices_of greatest hash_of index_of tail_of floor_log2 rank_of
early_batch = refl

pub repeated_batch : RepeatedBatch
unfolding answers_of start_world node_at names_of has_name missing_of verdict_at close_of true_batch changed_count sent_vertices any_changed changed_at ball_counter counter_of register_of in_ball in_ball_before some_list is_path feeds_into vertices_of greatest hash_of index_of tail_of floor_log2 rank_of
repeated_batch = refl

pub window_edge : WindowEdge
unfolding answers_of start_world node_at names_of has_name missing_of verdict_at close_of true_batch changed_count sent_vertices any_changed changed_at ball_counter counter_of register_of in_ball in_ball_before some_list is_path feeds_into vertices_of greatest hash_of index_of tail_of floor_log2 rank_of
window_edge = refl

pub checkpointed : Checkpointed
unfolding answers_of start_world node_at names_of has_name missing_of verdict_at close_of true_batch changed_count sent_vertices any_changed changed_at ball_counter counter_of register_of in_ball in_ball_before some_list is_path feeds_into vertices_of greatest hash_of index_of tail_of floor_log2 rank_of
checkpointed = refl

pub copied : Copied
unfolding answers_of start_world node_at names_of has_name missing_of verdict_at close_of true_batch changed_count sent_vertices any_changed changed_at ball_counter counter_of register_of in_ball in_ball_before some_list is_path feeds_into vertices_of greatest hash_of index_of tail_of floor_log2 rank_of
copied = refl

pub three_partitions : ThreePartitions
unfolding answers_of start_world node_at names_of has_name missing_of verdict_at close_of true_batch changed_count sent_vertices any_changed changed_at ball_counter counter_of register_of in_ball in_ball_before some_list is_path feeds_into vertices_of greatest hash_of index_of tail_of floor_log2 rank_of
three_partitions = refl

pub lone_vertex : LoneVertex
unfolding answers_of start_world node_at names_of has_name missing_of verdict_at close_of true_batch changed_count sent_vertices any_changed changed_at ball_counter counter_of register_of in_ball in_ball_before some_list is_path feeds_into vertices_of greatest hash_of index_of tail_of floor_log2 rank_of
lone_vertex = refl
