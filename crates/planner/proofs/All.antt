-- Every promise, kept.
use Rattle.day.specs.Section.{section_in}
use Rattle.planner.specs.Face.{open_of, step_of, count_of, judge_of}
use Rattle.planner.specs.Promises.{Promised}
use Rattle.planner.proofs.One.{equated, one-opened, one-stepped, one-counted, one-judged, jobs-read}
use Rattle.planner.proofs.Answers.{unchanged}
use Rattle.planner.proofs.FreshFleet.{fresh-in-form, fresh-sets}
use Rattle.planner.proofs.Admitted.{only-admitted}
use Rattle.planner.proofs.Kept as kept
use Rattle.planner.proofs.Courses.{steps_back, records-bounded}
use Rattle.planner.proofs.Never.{never-short}
use Rattle.planner.proofs.Worked.{worked-out, alike}

pub promised : Promised
promised = record {
  one-opening = λ sheet. one-opened (open_of sheet);
  one-section = λ at sheet number. equated (section_in at sheet number);
  one-step = λ sheet f t word a b. one-stepped (step_of sheet f t word a b);
  one-count = λ sheet f. one-counted (count_of sheet f);
  one-verdict = λ sheet f. one-judged (judge_of sheet f);
  jobs-read = jobs-read;
  unchanged = unchanged;
  fresh-in-form = fresh-in-form;
  form-kept = kept.form-kept;
  fresh-sets = fresh-sets;
  only-admitted = only-admitted;
  placing-keeps = kept.placing-keeps;
  closing-keeps = kept.closing-keeps;
  excluding-keeps = kept.excluding-keeps;
  requiring-keeps = kept.requiring-keeps;
  obliging-keeps = kept.obliging-keeps;
  settling-strikes = kept.settling-strikes;
  settling-rests = kept.settling-rests;
  settling-exact = kept.settling-exact;
  settling-largest = kept.settling-largest;
  settling-loses-none = kept.settling-loses-none;
  no-gap-alive = kept.gap-free;
  dead-none = kept.dead;
  steps_back = steps_back;
  records-bounded = records-bounded;
  never-short = never-short;
  worked-out = worked-out;
  runs-alike = alike;
}
