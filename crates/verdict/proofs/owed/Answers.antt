use native.Mathlib.Omega.{arith}
use Rattle.along.proofs.RouteLaws.{node_at_lem}
use Rattle.along.proofs.ReadyLaws.{nodes-most}
use Rattle.verdict.proofs.owed.Goals as goal

pub owes-requires : goal.owes-requires
owes-requires c = let p = c.requires in (p.1.long, p.1.most, λ i h. omega (arith, node_at_lem p.1 i h, nodes-most p.0))
