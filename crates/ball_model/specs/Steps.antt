-- The steps of a content: calls, what each answers, and the content after them (Pregel 2010).
use Rattle.std.specs.Prelude.{ℕ, false, List, [], ◌∷◌, Result, Ok, Err}
use Rattle.ball_model.specs.declared.names.BatchName.{BatchName}
use Rattle.ball_model.specs.declared.names.Taken.{Taken}
use Rattle.ball_model.specs.declared.names.TakeError.{TakeError}
use Rattle.ball_model.specs.declared.names.CloseError.{CloseError}
use Rattle.ball_model.specs.declared.names.MergeError.{MergeError}
use Rattle.ball_model.specs.Job.{Job}
use Rattle.ball_model.specs.Content.{Content, take_of, is_new, after_take, close_of, after_close}
use Rattle.ball_model.specs.Join.{union_of, merge_of}

-- a call on a replica: the true batch of a name is taken, the superstep is closed, or a snapshot of a replica of the
-- same partition with that content is merged
pub data Call : Type 0 where
  Take : BatchName → Call
  Close : Call
  Merge : Content → Call

-- what a call answers
pub data CallAnswer : Type 0 where
  Took : Result Taken TakeError → CallAnswer
  Closed : Result ℕ CloseError → CallAnswer
  Merged : Result (Unit {0}) MergeError → CallAnswer

-- the answer to a call, as the content says
abbrev pub answer_due : Job → ℕ → Content → Call → CallAnswer
answer_due j p c (Take name) = Took (take_of j.plan p c j.plan name)
answer_due j p c Close = Closed (close_of j p c)
answer_due j p c (Merge d) = Merged (merge_of j.plan p j.plan p)

-- the content after a batch of the job was taken
abbrev pub content_after_take : Job → ℕ → Content → BatchName → Content
content_after_take j p c name = record {
  superstep = c.superstep;
  holds = λ s q.
      after_take (is_new (take_of j.plan p c j.plan name)) c.holds name.superstep name.source s q;
}

-- the content after a close with that answer
abbrev pub content_after_close : Result ℕ CloseError → Content → Content
content_after_close (Ok t) c = after_close c
content_after_close (Err e) c = c

-- the content after a call
abbrev pub content_after : Job → ℕ → Content → Call → Content
content_after j p c (Take name) = content_after_take j p c name
content_after j p c Close = content_after_close (close_of j p c) c
content_after j p c (Merge d) = union_of c d

-- the content after a list of calls, one after the other
unfoldable pub content_after_all : Job → ℕ → Content → List Call → Content
content_after_all j p c [] = c
content_after_all j p c (call ∷ calls) = content_after_all j p (content_after j p c call) calls

-- the answers to a list of calls, one after the other
unfoldable pub answers_due : Job → ℕ → Content → List Call → List CallAnswer
answers_due j p c [] = []
answers_due j p c (call ∷ calls) =
    answer_due j p c call ∷ answers_due j p (content_after j p c call) calls

-- the start: superstep 0, and no batches
abbrev pub start_content : Content
start_content = record { superstep = 0; holds = λ s q. false }
