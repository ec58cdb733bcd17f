use Rattle.along.proofs.Walking.{near}
use Rattle.verdict.proofs.sound.Goals as goal

pub word-on-requires : goal.word-on-requires
word-on-requires c = let p = c.requires in (p.route.long, p.route.most, near p)
