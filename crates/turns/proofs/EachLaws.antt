-- The vans take their turns one after another: the loop over them.
use mathlib.Core.Path.{◌≡◌, refl, sym, ap, ap₂, subst, ◌∙◌}
use mathlib.Core.Bool.{Bool, true, ◌&&◌}
use mathlib.Core.List.{List, ◌++◌}
use mathlib.Core.Logic.{◌≢◌}
use Prim.Native.Nat.{ℕ, ◌+◌, ◌-◌, ◌*◌, ◌≤◌, ◌<◌}
use native.Mathlib.Nat.{ne_of_lt}
use native.Mathlib.Omega.{arith}
use borrow.Author.Count.{below_more}
use lib.ListN.{length, set, take, drop}
use lib.Dec.{eqb}
use borrow.Author.Tests.{ne_eqb}
use Rattle.rules.proofs.Refusals.{refuses}
use Rattle.laws.specs.Basic.{all_below, put_part}
use Rattle.laws.proofs.Below.{below_none, flag-goes}
use Rattle.rules.specs.Numbers.{most_vans}
use Rattle.rules.specs.declared.Step.{Step}
use Rattle.board.specs.declared.State.{State}
use Rattle.std.specs.Prelude.{Result, Ok, Err, is_ok}
use Rattle.rules.specs.Refused.{number_in}
use Rattle.rules.specs.declared.Refusal.{Refusal}
use Rattle.board.specs.declared.Figures.{Figures}
use Rattle.trail.specs.Steps.{Ran, ran, after_of}
use Rattle.trail.specs.declared.Outcome.{Outcome}
use Rattle.fleet.specs.Fleet.{state_in, share_of, trail_in}
use Rattle.fleet.specs.Rows.{row_of, row_state, fleet_with}
use Rattle.fleet.specs.declared.Fleet.{Fleet}
use Rattle.turns.specs.Turn.{turn_of, EightRows, Turning}
use Rattle.fleet.proofs.FleetLaws.{state-of, fleet-eight, part-fits, part-long}
use Rattle.turns.proofs.TogetherLaws.{Reads}
use Rattle.turns.proofs.PutLaws.{row-own, row_other, rows_stay, part-long-as, part-own, part-other, part-over, spot-at, part-lent, part-back}

-- van i's turn
abbrev pub turn_in : ℕ → ℕ → Step → Fleet → List ℕ → ℕ → Ran
turn_in n v step f t i = turn_of n step i (state_in f i) (trail_in v t i)

-- the first j vans have taken their turns
pub record Taken (n v : ℕ) (step : Step) (f : Fleet) (t : List ℕ) (j : ℕ) (routes sets levels after : List (List ℕ)) (t' : List ℕ) (fits : Bool) : Type 0 where
  pub done : (i : ℕ) → i < j → row_state routes sets levels after i ≡ (turn_in n v step f t i).0.state
  pub ahead : (i : ℕ) → j ≤ i → i < most_vans → row_state routes sets levels after i ≡ state_in f i
  pub trails : (i : ℕ) → i < j → trail_in v t' i ≡ (turn_in n v step f t i).1
  pub parts : (i : ℕ) → j ≤ i → i < v → trail_in v t' i ≡ trail_in v t i
  pub long : length t' ≡ length t
  pub over : drop (v * share_of v t) t' ≡ drop (v * share_of v t) t
  pub rows : EightRows routes sets levels after
  pub flag : all_below j (λ i. eqb (turn_in n v step f t i).0.answer 0) ≡ fits

pub taken_none : (n v : ℕ) (step : Step) (routes sets levels figures : List (List ℕ)) (t : List ℕ)
    → EightRows routes sets levels figures
    → Taken n v step (fleet_with routes sets levels figures) t 0 routes sets levels figures t true
taken_none n v step routes sets levels figures t r = record {
  done = λ i h. absurd (omega arith);
  ahead = λ i h m. sym (state-of (row_state routes sets levels figures) i m);
  trails = λ i h. absurd (omega arith);
  parts = λ i h m. refl;
  long = refl;
  over = refl;
  rows = r;
  flag = below_none _;
}

-- the next van's turn
module _ (n v : ℕ) (step : Step) (f : Fleet) (t : List ℕ) (j : ℕ) {routes sets levels after : List (List ℕ)} {t' : List ℕ} {fits : Bool}
    (b : Taken n v step f t j routes sets levels after t' fits) (l : j < v) (m : v ≤ most_vans)
    (g : Figures) (o : Result Outcome Refusal) {route places heights u : List ℕ} (e : turn_of n step j (row_state routes sets levels after j) (trail_in v t' j) ≡ ran g o route places heights u)
    (eu : length u ≡ share_of v t) where
  own : turn_in n v step f t j ≡ ran g o route places heights u
  own = ap₂ (λ (s : State) (w : List ℕ). turn_of n step j s w) (sym (b.ahead j (omega arith) (omega arith))) (sym (b.parts j (omega arith) l)) ∙ e

  other : (i : ℕ) → i ≢ j → row_state (set routes j route) (set sets j places) (set levels j heights) (set after j (row_of (after_of g o))) i ≡ row_state routes sets levels after i
  other = row_other routes sets levels after j route places heights (after_of g o)

  pub taken_more : Taken n v step f t (j + 1) (set routes j route) (set sets j places) (set levels j heights) (set after j (row_of (after_of g o)))
      (put_part (share_of v t) t' j u) (fits && eqb (number_in o) 0)
  taken_more = record {
    done = below_more (λ i. row_state (set routes j route) (set sets j places) (set levels j heights) (set after j (row_of (after_of g o))) i ≡ (turn_in n v step f t i).0.state) j
        (λ i h. other i (ne_of_lt h) ∙ b.done i h) (row-own routes sets levels after b.rows j (omega arith) route places heights (after_of g o) ∙ sym (ap (λ (r : Ran). r.0.state) own));
    ahead = λ i h k. other i (λ z. omega arith) ∙ b.ahead i (omega arith) k;
    trails = below_more (λ i. trail_in v (put_part (share_of v t) t' j u) i ≡ (turn_in n v step f t i).1) j
        (λ i h. part-other v t t' b.long j l u eu i (ne_of_lt h) (omega arith) ∙ b.trails i h) (part-own v t t' b.long j l u eu ∙ sym (ap (λ (r : Ran). r.1) own));
    parts = λ i h k. part-other v t t' b.long j l u eu i (λ z. omega arith) k ∙ b.parts i (omega arith) k;
    long = part-long-as v t t' b.long j l u eu;
    over = part-over v t t' b.long j l u eu ∙ b.over;
    rows = rows_stay routes sets levels after b.rows j (omega arith) route places heights (after_of g o);
    flag = flag-goes j (λ i. eqb (turn_in n v step f t i).0.answer 0) b.flag (sym (ap (λ (r : Ran). eqb r.0.answer 0) own));
  }

-- ---- the same as the code has it: van j's words are those from j * share to j * share + share

pub taken-fits : {n v : ℕ} {step : Step} {f : Fleet} {t : List ℕ} {j : ℕ} {routes sets levels after : List (List ℕ)} {t' : List ℕ} {fits : Bool} (share : ℕ)
    → Taken n v step f t j routes sets levels after t' fits → share ≡ share_of v t → j < v → j * share + share ≤ length t'
taken-fits {v = v} {t = t} {j = j} share b e l = rw (e, b.long) (part-fits v t j l)

-- the next van's turn asks what it asked at first
pub taken-asks : {n v : ℕ} {step : Step} {f : Fleet} {t : List ℕ} {j : ℕ} {routes sets levels after : List (List ℕ)} {t' : List ℕ} {fits : Bool} (share : ℕ)
    → Taken n v step f t j routes sets levels after t' fits → share ≡ share_of v t → j < v → v ≤ most_vans → Turning n step j (state_in f j) (trail_in v t j)
    → Turning n step j (row_state routes sets levels after j) (take (j * share + share - j * share) (drop (j * share) t'))
taken-asks {n} {v} {step} {f} {t} {j} {t' = t'} share b e l m g =
    subst (λ (s : State). Turning n step j s (take (j * share + share - j * share) (drop (j * share) t'))) (sym (b.ahead j (omega arith) (omega arith)))
    (subst (λ (u : List ℕ). Turning n step j (state_in f j) u) (sym (part-lent v j (j * share) (j * share + share) t t' (spot-at v share j t e) b.long ∙ b.parts j (omega arith) l)) g)

pub taken-goes : {n v : ℕ} {step : Step} {f : Fleet} {t : List ℕ} {j : ℕ} {routes sets levels after : List (List ℕ)} {t' : List ℕ} {fits : Bool} (share : ℕ)
    (b : Taken n v step f t j routes sets levels after t' fits) → share ≡ share_of v t → j < v → v ≤ most_vans → (g : Figures) (o : Result Outcome Refusal) {route places heights u : List ℕ}
    → turn_of n step j (row_state routes sets levels after j) (take (j * share + share - j * share) (drop (j * share) t')) ≡ ran g o route places heights u
    → length u ≡ length (take (j * share + share - j * share) (drop (j * share) t'))
    → Taken n v step f t (j + 1) (set routes j route) (set sets j places) (set levels j heights) (set after j (row_of (after_of g o)))
    (take (j * share) t' ++ (u ++ drop (j * share + share - j * share) (drop (j * share) t'))) (fits && eqb (number_in o) 0)
taken-goes {n} {v} {step} {f} {t} {j} {routes} {sets} {levels} {after} {t'} {fits} share b e l m g o {route} {places} {heights} {u} q eu =
    let spot = spot-at v share j t e in
    let lent = part-lent v j (j * share) (j * share + share) t t' spot b.long in
    subst (λ (w : List ℕ). Taken n v step f t (j + 1) (set routes j route) (set sets j places) (set levels j heights) (set after j (row_of (after_of g o))) w (fits && eqb (number_in o) 0))
    (sym (part-back v j (j * share) (j * share + share) t t' u spot))
    (taken_more n v step f t j b l m g o (ap (turn_of n step j (row_state routes sets levels after j)) (sym lent) ∙ q)
    (eu ∙ ap length (lent ∙ b.parts j (omega arith) l) ∙ part-long v t j l))

-- all have taken their turns
pub taken-all : (n v : ℕ) (step : Step) (f : Fleet) (t : List ℕ) (j : ℕ) {routes sets levels after : List (List ℕ)} {t' : List ℕ} {fits : Bool}
    → Taken n v step f t j routes sets levels after t' fits → j ≡ v → v ≤ most_vans → Reads v f t (turn_in n v step f t) (fleet_with routes sets levels after) t'
taken-all n v step f t j {routes} {sets} {levels} {after} b h m = record {
  states = λ i k. state-of (row_state routes sets levels after) i (omega arith) ∙ b.done i (omega arith);
  trails = λ i k. b.trails i (omega arith);
  spare = λ i k q. state-of (row_state routes sets levels after) i q ∙ b.ahead i (omega arith) q;
  eight = fleet-eight (row_state routes sets levels after);
  long = b.long;
  over = b.over;
}

-- a step is accepted: its number is 0
pub accepted : {b : Bool} (o : Result Outcome Refusal) → b ≡ is_ok o → b ≡ eqb (number_in o) 0
accepted (Ok o) e = e
accepted (Err r) e = e ∙ sym (ne_eqb _ 0 (refuses r))
