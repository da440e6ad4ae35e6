use Rattle.graph.proofs.counting.mark_labels.Goals as goal

pub returns-clause-ok : goal.returns-clause-ok
returns-clause-ok c = λ plain. rw c.in_ok-index.ensures at (c.mark_list.ensures.ok plain)

pub returns-clause-refused : goal.returns-clause-refused
returns-clause-refused c = λ plain. rw c.in_ok-index.ensures at (c.mark_list.ensures.refused plain)
