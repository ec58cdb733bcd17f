-- One van's row in each array and its part of the trail become others: what the van has then, and that no other van has changed.
use mathlib.Core.Path.{◌≡◌, refl, sym, ap, ap₂, ◌∙◌}
use mathlib.Core.List.{List, [], ◌++◌}
use mathlib.Core.Logic.{◌≢◌}
use Prim.Native.Nat.{ℕ, ◌+◌, ◌-◌, ◌*◌, ◌≤◌, ◌<◌}
use native.Mathlib.Nat.{zero-mul, zero-add}
use native.Mathlib.Omega.{arith}
use lib.ListN.{length, get_or, set, take, drop, length-set}
use lib.Seq.{get_or-set_same, get_or-set_other, set-get_or, drop-drop}
use Rattle.laws.specs.Basic.{part_at, put_part}
use Rattle.laws.proofs.Parts.{part-before, put-length, put_same, put_other, put-behind}
use Rattle.rules.specs.Numbers.{most_vans}
use Rattle.board.specs.Board.{state_with}
use Rattle.board.specs.declared.State.{State}
use Rattle.board.specs.declared.Figures.{Figures}
use Rattle.trail.specs.Steps.{Ran, ran, after_of, rounds_in, answered}
use Rattle.std.specs.Prelude.{Result}
use Rattle.rules.specs.Refused.{number_in}
use Rattle.rules.specs.declared.Refusal.{Refusal}
use Rattle.board.specs.declared.Figures.{Figures}
use Rattle.trail.specs.declared.Outcome.{Outcome}
use Rattle.fleet.specs.Fleet.{fleet_of, state_in, share_of, trail_in}
use Rattle.fleet.specs.Rows.{row_of, row_state, fleet_with}
use Rattle.fleet.specs.declared.Fleet.{Fleet}
use Rattle.fleet.proofs.FigureLaws.{figured-set}
use Rattle.fleet.proofs.FleetLaws.{state-of, fleet-eight, part-fits, part-long}
use Rattle.turns.specs.Together.{acted_all, alone}
use Rattle.turns.specs.Turn.{EightRows}
use Rattle.turns.proofs.TogetherLaws.{trail-part, Others, alone-is}

-- ---- the rows

module _ (routes sets levels figures : List (List ℕ)) (rows : EightRows routes sets levels figures)
    (j : ℕ) (low : j < most_vans) (route places heights : List ℕ) (g : Figures) where
  pub row-own : row_state (set routes j route) (set sets j places) (set levels j heights) (set figures j (row_of g)) j ≡ state_with route places heights g
  row-own =
      rw (
        get_or-set_same routes j route [] (omega (arith, rows.0)),
        get_or-set_same sets j places [] (omega (arith, rows.1)),
        get_or-set_same levels j heights [] (omega (arith, rows.2)),
        get_or-set_same figures j (row_of g) [] (omega (arith, rows.3.eight)),
      )
      refl

  pub rows_stay : EightRows (set routes j route) (set sets j places) (set levels j heights) (set figures j (row_of g))
  rows_stay = (length-set routes j route ∙ rows.0, length-set sets j places ∙ rows.1, length-set levels j heights ∙ rows.2, figured-set figures j g rows.3)

pub row_other : (routes sets levels figures : List (List ℕ)) (j : ℕ) (route places heights : List ℕ) (g : Figures) (i : ℕ) → i ≢ j
    → row_state (set routes j route) (set sets j places) (set levels j heights) (set figures j (row_of g)) i ≡ row_state routes sets levels figures i
row_other routes sets levels figures j route places heights g i d =
    rw (get_or-set_other routes j i route [] d, get_or-set_other sets j i places [] d, get_or-set_other levels j i heights [] d, get_or-set_other figures j i (row_of g) [] d) refl

-- ---- the parts: those of a trail t' that is as long as t

module _ (v : ℕ) (t t' : List ℕ) (same : length t' ≡ length t) (j : ℕ) (low : j < v) (u : List ℕ) (long : length u ≡ share_of v t) where
  inside : j * share_of v t + share_of v t ≤ length t'
  inside = omega (arith, part-fits v t j low, same)

  pub part-long-as : length (put_part (share_of v t) t' j u) ≡ length t
  part-long-as = put-length (share_of v t) t' j u inside long ∙ same

  pub part-own : trail_in v (put_part (share_of v t) t' j u) j ≡ u
  part-own = trail-part v t (put_part (share_of v t) t' j u) j part-long-as ∙ put_same (share_of v t) t' j u inside long

  pub part-other : (i : ℕ) → i ≢ j → i < v → trail_in v (put_part (share_of v t) t' j u) i ≡ trail_in v t' i
  part-other i d h =
      trail-part v t (put_part (share_of v t) t' j u) i part-long-as
      ∙ put_other (share_of v t) t' j u inside long i d (omega (arith, part-fits v t i h, same)) ∙ sym (trail-part v t t' i same)

  pub part-over : drop (v * share_of v t) (put_part (share_of v t) t' j u) ≡ drop (v * share_of v t) t'
  part-over = put-behind (share_of v t) t' j u inside long (v * share_of v t) (part-before (share_of v t) j v low)

-- ---- the same as the code has it: van j's words are those from j * share on, as many as a share

-- where van j's words stand
pub record Spot (v : ℕ) (t : List ℕ) (j from end : ℕ) : Type 0 where
  pub start : from ≡ j * share_of v t
  pub stop : end ≡ from + share_of v t

pub spot-at : (v share j : ℕ) (t : List ℕ) → share ≡ share_of v t → Spot v t j (j * share) (j * share + share)
spot-at v share j t e = record { start = ap (λ (k : ℕ). j * k) e; stop = ap (λ (k : ℕ). j * share + k) e }

pub spot-first : (v share : ℕ) (t : List ℕ) → share ≡ share_of v t → Spot v t 0 0 share
spot-first v share t e = record { start = sym (zero-mul (share_of v t)); stop = e ∙ sym (zero-add (share_of v t)) }

-- a van's part of a trail
pub part-lent : (v j from end : ℕ) (t t' : List ℕ) → Spot v t j from end → length t' ≡ length t → take (end - from) (drop from t') ≡ trail_in v t' j
unfolding part_at
part-lent v j from end t t' s l =
    let w : end - from ≡ share_of v t = omega (arith, s.stop) in
    rw (w, s.start) (sym (trail-part v t t' j l))

-- another part in its place
pub part-back : (v j from end : ℕ) (t t' u : List ℕ) → Spot v t j from end → take from t' ++ (u ++ drop (end - from) (drop from t')) ≡ put_part (share_of v t) t' j u
unfolding put_part
part-back v j from end t t' u s =
    let w : end - from ≡ share_of v t = omega (arith, s.stop) in
    rw (w, s.start) (ap (λ (l : List ℕ). take (j * share_of v t) t' ++ (u ++ l)) (drop-drop (share_of v t) (j * share_of v t) t'))

-- ---- a step of one van

-- refused, a step leaves state and trail
abbrev pub Leaving : (State → List ℕ → Ran) → Type 0
Leaving step = (s : State) (u : List ℕ) → ((step s u).0.answer ≡ 0 → ⊥) → step s u ≡ answered (step s u).0.answer s u

module _ (v i from end : ℕ) (routes sets levels figures : List (List ℕ)) (t : List ℕ) (step : State → List ℕ → Ran) (g : Figures) (o : Result Outcome Refusal) {route places heights u : List ℕ}
    (low : i < v) (most : v ≤ most_vans) (spot : Spot v t i from end) (rows : EightRows routes sets levels figures) (leaves : Leaving step)
    (e : step (row_state routes sets levels figures i) (take (end - from) (drop from t)) ≡ ran g o route places heights u)
    (eu : length u ≡ length (take (end - from) (drop from t))) where
  abbrev f : Fleet
  f = fleet_with routes sets levels figures

  abbrev after : ℕ → State
  after = row_state (set routes i route) (set sets i places) (set levels i heights) (set figures i (row_of (after_of g o)))

  lent : take (end - from) (drop from t) ≡ trail_in v t i
  lent = part-lent v i from end t t spot refl

  own : step (state_in f i) (trail_in v t i) ≡ ran g o route places heights u
  own = ap₂ (λ (s : State) (w : List ℕ). step s w) (state-of (row_state routes sets levels figures) i (omega arith)) (sym lent) ∙ e

  answer : (step (state_in f i) (trail_in v t i)).0.answer ≡ number_in o
  answer = ap (λ (r : Ran). r.0.answer) own

  long : length u ≡ share_of v t
  long = eu ∙ ap length lent ∙ part-long v t i low

  stay : Others v f t i (fleet_of after) (put_part (share_of v t) t i u)
  stay = record {
    states = λ j d h. state-of after j h ∙ row_other routes sets levels figures i route places heights (after_of g o) j d ∙ sym (state-of (row_state routes sets levels figures) j h);
    trails = λ j d h. part-other v t t refl i low u long j d h;
    eight = fleet-eight after;
    long = part-long-as v t t refl i low u long;
    over = part-over v t t refl i low u long;
  }

  pub alone-did : alone v f t i step ≡ acted_all (number_in o) (rounds_in o) (fleet_of after) (take from t ++ (u ++ drop (end - from) (drop from t)))
  alone-did =
      alone-is v f t i step low most (fleet-eight (row_state routes sets levels figures)) own
      (λ n. sym own ∙ leaves (state_in f i) (trail_in v t i) (λ z. n (sym answer ∙ z)) ∙ ap (λ (k : ℕ). answered k (state_in f i) (trail_in v t i)) answer)
      (state-of after i (omega arith) ∙ row-own routes sets levels figures rows i (omega arith) route places heights (after_of g o))
      (part-own v t t refl i low u long) stay
      ∙ ap (λ (w : List ℕ). acted_all (number_in o) (rounds_in o) (fleet_of after) w) (sym (part-back v i from end t t u spot))

-- the same of a step that leaves the van's arrays
pub alone-noted : (v i from end : ℕ) (routes sets levels figures : List (List ℕ)) (t : List ℕ) (step : State → List ℕ → Ran) (g : Figures) (o : Result Outcome Refusal) {u : List ℕ}
    → i < v → v ≤ most_vans → Spot v t i from end → EightRows routes sets levels figures → Leaving step
    → step (row_state routes sets levels figures i) (take (end - from) (drop from t)) ≡ ran g o (get_or routes i []) (get_or sets i []) (get_or levels i []) u
    → length u ≡ length (take (end - from) (drop from t))
    → alone v (fleet_with routes sets levels figures) t i step
    ≡ acted_all (number_in o) (rounds_in o) (fleet_with routes sets levels (set figures i (row_of (after_of g o)))) (take from t ++ (u ++ drop (end - from) (drop from t)))
alone-noted v i from end routes sets levels figures t step g o {u} low most spot rows leaves e eu =
    alone-did v i from end routes sets levels figures t step g o low most spot rows leaves e eu
    ∙ rw (set-get_or routes i [], set-get_or sets i [], set-get_or levels i []) refl
