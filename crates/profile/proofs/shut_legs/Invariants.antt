use Rattle.profile.proofs.ShutLaws.{Seen}
use Rattle.profile.proofs.shut_legs.Given as goal

abbrev pub invariant-loop-i : goal.invariant-loop-i
invariant-loop-i l = Seen l.route l.clean l.soiled l.i l.passed l.late l.early l.met
