-- Document 01, in its own order. Numbers: its table of refusal numbers, the kinds of steps. Day: what a sheet says.
-- Leg: the route cut in two. Time: E and L, and metres. Load: H. Plan: a state's route, places and marks.
-- Rounds: which belong, the five rules, which rounds keep them. Steps: what each step does to a plan.
-- Tests: the seven tests of settling. Settle: a round of settling, settling, the count of striking rounds.
-- Verdict: owed, the six checks, alive. Worked: runs, and the state that demand 3 works out.
-- Fleet: several vans over the same wards: sets of rounds, the steps, the verdict (02, No. 1).
-- Asked: what the theorems ask of a day and a plan, as tests that compute. Every: all rounds of a small day.
-- Along: E, L and H by the stop's place on the route. Class: which nodes admit which vans (02, No. 7).
-- Profile: clean before soiled (02, No. 11).
pub mod Numbers
pub mod Day
pub mod Leg
pub mod Time
pub mod Load
pub mod Profile
pub mod Plan
pub mod Rounds
pub mod Steps
pub mod Tests
pub mod Settle
pub mod Verdict
pub mod Worked
pub mod Asked
pub mod Every
pub mod Along
pub mod Fleet
pub mod Class
pub mod Refused
