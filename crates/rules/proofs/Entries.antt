-- The three lists of 01: the tests of settling, the rules of rounds, the checks of the verdict. What passes a list passes each of its
-- entries, and the other way round. Each entry has a name for its being in its list, so that no proof counts places in it.
use Prim.Native.Nat.{ℕ}
use mathlib.Core.List.{List}
use lib.Dec.{T}
use Rattle.laws.proofs.Lists.{all_in, all-i}
use Rattle.laws.specs.Basic.{In, here, there}
use Rattle.rules.specs.Day.{Day}
use Rattle.rules.specs.declared.Van.{Van}
use Rattle.rules.specs.Plan.{Plan, Places}
use Rattle.rules.specs.Tests.{Test, window, short, clean, soiled, partner_placed, neither_placed, clean_before, tests, stays}
use Rattle.rules.specs.Rounds.{Rule, window_rule, metre_rule, transfer_rule, load_rule, profile_rule, rules, keeps}
use Rattle.rules.specs.Verdict.{Check, owed_open, of_route, none_wrong, checks, alive}

-- ---- the tests

module _ (v : Van) (d : Day) (rt : List ℕ) (o : Places) (x : ℕ) (A B : List ℕ) where
  pub stays-e : T (stays v d rt o x A B) → (t : Test) → In t tests → T (t v d rt o x A B)
  unfolding stays
  stays-e h t i = all_in (λ t. t v d rt o x A B) h i

  pub stays-i : ((t : Test) → In t tests → T (t v d rt o x A B)) → T (stays v d rt o x A B)
  unfolding stays
  stays-i f = all-i (λ t. t v d rt o x A B) tests f

pub window-in : In window tests
window-in = here

pub short-in : In short tests
short-in = search (here, there) depth 16

pub clean-in : In clean tests
clean-in = search (here, there) depth 16

pub soiled-in : In soiled tests
soiled-in = search (here, there) depth 16

pub partner_placed-in : In partner_placed tests
partner_placed-in = search (here, there) depth 16

pub neither_placed-in : In neither_placed tests
neither_placed-in = search (here, there) depth 16

pub clean_before-in : In clean_before tests
clean_before-in = search (here, there) depth 16

-- ---- the rules

module _ (v : Van) (d : Day) (R : List ℕ) where
  pub keeps-e : T (keeps v d R) → (r : Rule) → In r rules → T (r v d R)
  unfolding keeps
  keeps-e h r i = all_in (λ r. r v d R) h i

  pub keeps-i : ((r : Rule) → In r rules → T (r v d R)) → T (keeps v d R)
  unfolding keeps
  keeps-i f = all-i (λ r. r v d R) rules f

pub window_rule-in : In window_rule rules
window_rule-in = here

pub metre_rule-in : In metre_rule rules
metre_rule-in = search (here, there) depth 16

pub transfer_rule-in : In transfer_rule rules
transfer_rule-in = search (here, there) depth 16

pub load_rule-in : In load_rule rules
load_rule-in = search (here, there) depth 16

pub profile_rule-in : In profile_rule rules
profile_rule-in = search (here, there) depth 16

-- ---- the checks

module _ (v : Van) (d : Day) (a : Plan) where
  pub alive-e : T (alive v d a) → (c : Check) → In c checks → T (c v d a)
  unfolding alive
  alive-e h c i = all_in (λ c. c v d a) h i

  pub alive-i : ((c : Check) → In c checks → T (c v d a)) → T (alive v d a)
  unfolding alive
  alive-i f = all-i (λ c. c v d a) checks f

pub owed_open-checked : In owed_open checks
owed_open-checked = here

pub window_rule-checked : In (of_route window_rule) checks
window_rule-checked = search (here, there) depth 16

pub metre_rule-checked : In (of_route metre_rule) checks
metre_rule-checked = search (here, there) depth 16

pub load_rule-checked : In (of_route load_rule) checks
load_rule-checked = search (here, there) depth 16

pub none_wrong-checked : In (of_route none_wrong) checks
none_wrong-checked = search (here, there) depth 16

pub profile_rule-checked : In (of_route profile_rule) checks
profile_rule-checked = search (here, there) depth 16
