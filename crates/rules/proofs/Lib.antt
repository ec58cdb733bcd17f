-- The theorems about document 01, on the definitions in specs/. Which one answers which sentence of the demands:
--
-- Demand 2, no gap is lost and none is invented.
-- * Placing keeps the rounds that use the place, closing those that do not, excluding those without the node, requiring those with it, and
--   no others: StepRounds `placed-rounds`, `closed-rounds`, `excluded-rounds`, `required-rounds`.
-- * Settling strikes what the tests strike, to the last gap, and nothing else: Fixpoint `settle-exact`. What it leaves is what was open and
--   passes every test against what it leaves; the greatest such set (`settle-greatest`); a further round strikes nothing (`settle-rests`,
--   `settle-settle`). It is two rounds, whatever the fuel (`settle-twice`, `fuel-enough`).
-- * The number of rounds that strike something is never above 2: Twice `at_most_two`.
-- * On a triangle day settling loses no round that keeps the rules: NoneLost `settling-keeps`. It adds none (`settled-rounds`), and no place
--   that such a round uses is struck (`used-stays`).
-- * No place open and alive: the route keeps the rules and belongs: Complete `no-gap-alive`. Beyond 01, on a triangle day a dead plan has no
--   round that keeps the rules: Complete `dead-none`.
-- (Stepping back is the board's.)
--
-- Demand 3, the order of trying does not matter.
-- * The end of a run, settled, has the open places and the verdict of the plan worked out from the start, settled: Alike `run-alike`.
-- * Two runs with the same end route, excluded nodes and marks on unplaced nodes, settled, have the same places and verdict: `runs-alike`.
--
-- Several vans (02, No. 1): the same over sets of one round per van, van by van.
-- * Placing keeps the sets whose round of the van uses the place, and no others: FleetRounds `placed-sets`. A step of one van keeps of the
--   sets what it keeps of that van's rounds: `in-van-sets`, so `closed-sets`, `excluded-sets`, `required-sets`. The mark "must go somewhere"
--   keeps the sets that hold the ward: `obliged-sets`.
-- * On a triangle day settling a van loses no set of rounds that keep the rules, `settling-keeps-all`, and adds none, `settled-sets`.
-- * No place open and alive: the routes keep the rules and are a set of the fleet: FleetVerdict `no-gap-alive-all`. On a triangle day a dead
--   fleet has no set of rounds that keep the rules: `dead-none-all`.
-- * The ends of a run in each van, settled, have in every van the open places, and for the fleet the verdict, of the plans worked out from the
--   start, settled: FleetAlike `run-alike-all`. Two such families that end alike settle alike: `runs-alike-all`. What the fleet's verdict
--   reads: `alive-all-same`.
-- * The fresh fleet is in form, and the steps keep it: FleetForms. To it belong the sets of rounds of the day that share no ward and have in
--   each van's round only wards that it may serve: FreshRounds `fresh-sets` (02, No. 7).
--
-- The tests of settling, the rules of rounds and the checks of the verdict are three lists, and the theorems know them by laws over the lists.
-- A further entry is its definition, its place in the list, the name of its being there (Entries), and one line in each value below:
-- * a test: Sound `each-sound` (no place is struck that a rule-keeping round uses), Monotone `each-monotone` (struck stays struck on every
--   longer route), Twice `each-rests` (it does not look at the places, or it is 'neither placed').
-- * a rule: Complete `each-vouched` (alive with no place open, the route keeps it). Keeps says what it asks, for the tests that need it.
-- * a check: Complete `each-fair` (a plan with a rule-keeping round passes it), Verdicts `each-sees` (it reads the route, the open places and
--   the marks of unplaced nodes). A rule of rounds is made a check of the route by `of_route`.
--
-- What they ask of a day and a plan comes from tests that compute, and 01's own sheet meets it: Given. Fresh is in form and the steps keep
-- it: Forms. All rounds of a day, each once, and counts over them: EveryRound, Counted. For code that keeps the route in an array: AlongLaws.

-- nodes, routes, their legs, and what grows with them
pub mod Inner
pub mod Cuts
pub mod Nodes
pub mod Ways
pub mod Windows
pub mod Grows
pub mod Longer
pub mod AlongLaws
-- the tests, and what a round of settling leaves
pub mod Entries
pub mod Transfers
pub mod Left
pub mod Twice
pub mod Fixpoint
-- rounds
pub mod Keeps
pub mod CleanFirst
pub mod Sound
pub mod NoneLost
pub mod Around
pub mod Complete
pub mod EveryRound
pub mod Counted
-- the steps
pub mod Placing
pub mod Using
pub mod StepRounds
pub mod Forms
pub mod Given
-- runs
pub mod Monotone
pub mod Runs
pub mod Origin
pub mod Verdicts
pub mod Alike
-- several vans
pub mod FleetRounds
pub mod FleetVerdict
pub mod FleetAlike
pub mod FleetForms
pub mod FreshRounds
-- small days, computed
pub mod Examples
pub mod Refusals
