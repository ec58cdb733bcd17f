use Rattle.day.specs.Tell.{job_in}
use Rattle.along.specs.Nodes.{ByNode}
use Rattle.along.proofs.nodes.by_node.Given as goal

abbrev pub invariant-loop-j : goal.invariant-loop-j
invariant-loop-j l = ByNode (job_in l.s) l.j l.t
