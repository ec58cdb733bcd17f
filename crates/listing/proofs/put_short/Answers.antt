use Rattle.listing.proofs.TextLaws.{put_one, put_two}
use Rattle.listing.proofs.put_short.Goals as goal

pub returns-then-v-lt10 : goal.returns-then-v-lt10
returns-then-v-lt10 c = put_one _ c.if-v-lt10.true c.put_byte.ensures

pub returns-else-v-lt10 : goal.returns-else-v-lt10
returns-else-v-lt10 c = put_two _ c.requires.0 c.if-v-lt10.false c.put_pair.ensures
