-- A fleet's step and its vans' turns: what every van did tells the step, and the step tells what every van did.
use mathlib.Core.Path.{◌≡◌, refl, sym, ap, ap₂, subst, ◌∙◌}
use mathlib.Core.Bool.{cond}
use mathlib.Core.List.{List, ◌++◌, append_assoc}
use mathlib.Core.Logic.{⊎_elim, ◌≢◌}
use Prim.Native.Nat.{ℕ, zero, suc, ◌*◌, ◌≤◌, ◌<◌}
use native.Mathlib.Nat.{eq-or-lt_of_le, le_of_suc-le-suc, suc-mul, zero-mul, mul-div-le}
use native.Mathlib.Omega.{arith}
use lib.ListN.{length, take, drop, length-append, length-drop}
use lib.Seq.{take_at, drop_at}
use lib.Dec.{eqb, ltb}
use borrow.Author.Tests.{eqb-true, eqb-false, eq-eqb, ne_eqb, ltb-true, ltb-false}
use Rattle.laws.specs.Basic.{part_at, joined}
use Rattle.laws.proofs.Logic.{decided}
use Rattle.laws.proofs.Parts.{joined-whole, joined_same}
use Rattle.rules.specs.Numbers.{most_vans}
use Rattle.board.specs.declared.State.{State}
use Rattle.trail.specs.Steps.{Ran, acted, answered}
use Rattle.fleet.specs.Fleet.{fleet_of, state_in, share_of, trail_in}
use Rattle.fleet.specs.declared.Fleet.{Fleet}
use Rattle.fleet.proofs.FleetLaws.{state-of, fleet-eight, fleet-same, part-long}
use Rattle.turns.specs.Together.{RanAll, acted_all, unless_barred, together, alone}

-- ---- the parts of a trail

-- the parts of all vans are within the trail
shares-fit : (v : ℕ) (t : List ℕ) → v * share_of v t ≤ length t
unfolding share_of
shares-fit v t = mul-div-le (length t) v

same-share : (v : ℕ) (t t' : List ℕ) → length t' ≡ length t → share_of v t' ≡ share_of v t
unfolding share_of
same-share v t t' e = rw e refl

-- a van's part by the share of another trail as long
pub trail-part : (v : ℕ) (t t' : List ℕ) (j : ℕ) → length t' ≡ length t → trail_in v t' j ≡ part_at (share_of v t) t' j
unfolding trail_in
trail-part v t t' j e = rw (same-share v t t' e) refl

length-joined : (w v : ℕ) (g : ℕ → List ℕ) → ((j : ℕ) → j < v → length (g j) ≡ w) → length (joined v g) ≡ v * w
unfolding joined
length-joined w zero g h = sym (zero-mul w)
length-joined w (suc v) g h =
    omega (arith, length-append (joined v g) (g v), length-joined w v g (λ j l. h j (omega arith)), h v (omega arith), suc-mul v w)

-- a part of what was joined
joined-part : (w v : ℕ) (g : ℕ → List ℕ) (r : List ℕ) (j : ℕ) → ((i : ℕ) → i < v → length (g i) ≡ w) → j < v → part_at w (joined v g ++ r) j ≡ g j
unfolding joined part_at
joined-part w zero g r j h l = absurd (omega arith)
joined-part w (suc v) g r j h l =
    ap (λ (m : List ℕ). take w (drop (j * w) m)) (append_assoc (joined v g) (g v) r)
    ∙ ⊎_elim
    (λ e. ap (λ (k : ℕ). take w (drop (k * w) (joined v g ++ (g v ++ r)))) e
    ∙ ap (take w) (drop_at (joined v g) (g v ++ r) (v * w) (length-joined w v g (λ i m. h i (omega arith)))) ∙ take_at (g v) r w (h v (omega arith)) ∙ ap g (sym e))
    (λ b. joined-part w v g (g v ++ r) j (λ i m. h i (omega arith)) b)
    (eq-or-lt_of_le (le_of_suc-le-suc l))

-- ---- a fleet by its states

pub fleet-is : (f : Fleet) (g : ℕ → State) → length f.vans ≡ most_vans → ((j : ℕ) → j < most_vans → state_in f j ≡ g j) → fleet_of g ≡ f
fleet-is f g e h = fleet-same (fleet_of g) f (fleet-eight g) e (λ j l. state-of g j l ∙ sym (h j l))

-- ---- all vans' turns

-- what the turns have left: a fleet and a trail
pub record Reads (v : ℕ) (f : Fleet) (t : List ℕ) (turn : ℕ → Ran) (f' : Fleet) (t' : List ℕ) : Type 0 where
  pub states : (j : ℕ) → j < v → state_in f' j ≡ (turn j).0.state
  pub trails : (j : ℕ) → j < v → trail_in v t' j ≡ (turn j).1
  pub spare : (j : ℕ) → v ≤ j → j < most_vans → state_in f' j ≡ state_in f j
  pub eight : length f'.vans ≡ most_vans
  pub long : length t' ≡ length t
  pub over : drop (v * share_of v t) t' ≡ drop (v * share_of v t) t

-- the turns' states, those that are no van as they were
abbrev turned : ℕ → Fleet → (ℕ → Ran) → ℕ → State
turned v f turn j = cond (ltb j v) (turn j).0.state (state_in f j)

whole-trail : (w v : ℕ) (t t' : List ℕ) (g : ℕ → List ℕ) → v * w ≤ length t' → ((j : ℕ) → j < v → part_at w t' j ≡ g j) → drop (v * w) t' ≡ drop (v * w) t
    → joined v g ++ drop (v * w) t ≡ t'
whole-trail w v t t' g h p d =
    ap₂ (λ (a b : List ℕ). a ++ b) (joined_same v g (part_at w t') (λ j l. sym (p j l))) (sym d) ∙ joined-whole w t' v h

-- the same parts and the same words left over: the same trail
pub trails-same : (v : ℕ) (t t' : List ℕ) → length t' ≡ length t → drop (v * share_of v t) t' ≡ drop (v * share_of v t) t → ((j : ℕ) → j < v → trail_in v t' j ≡ trail_in v t j) → t ≡ t'
unfolding trail_in
trails-same v t t' long over same =
    sym (joined-whole (share_of v t) t v (shares-fit v t))
    ∙ whole-trail (share_of v t) v t t' (part_at (share_of v t) t) (omega (arith, shares-fit v t, long)) (λ j h. sym (trail-part v t t' j long) ∙ same j h) over

pub together-is : (v : ℕ) (f : Fleet) (t : List ℕ) (k : ℕ) (turn : ℕ → Ran) (f' : Fleet) (t' : List ℕ) → Reads v f t turn f' t' → together v f t k turn ≡ acted_all 0 k f' t'
unfolding together
together-is v f t k turn f' t' r =
    ap₂ (λ (g : Fleet) (u : List ℕ). acted_all 0 k g u)
    (fleet-is f' (turned v f turn) r.eight
    (λ j h. decided (ltb j v)
    (λ e. r.states j (ltb-true j v e) ∙ rw e refl)
    (λ e. r.spare j (omega (arith, ltb-false j v e)) h ∙ rw e refl)))
    (whole-trail (share_of v t) v t t' (λ j. (turn j).1) (omega (arith, shares-fit v t, r.long))
    (λ j h. sym (trail-part v t t' j r.long) ∙ r.trails j h) r.over)

pub together-reads : (v : ℕ) (f : Fleet) (t : List ℕ) (k : ℕ) (turn : ℕ → Ran) {a k' : ℕ} {f' : Fleet} {t' : List ℕ} → v ≤ most_vans
    → ((j : ℕ) → j < v → length (turn j).1 ≡ share_of v t) → together v f t k turn ≡ acted_all a k' f' t' → (k ≡ k') × Reads v f t turn f' t'
unfolding together
together-reads v f t k turn {a} {k'} {f'} {t'} most parts e = (
  ap (λ (q : RanAll). q.0.rounds) e,
  record {
    states = λ j h. is j (omega arith) ∙ decided (ltb j v) (λ b. rw b refl) (λ b. absurd (omega (arith, ltb-false j v b)));
    trails = λ j h. trail-part v t t' j long ∙ sym (ap (λ (u : List ℕ). part_at (share_of v t) u j) trail) ∙ joined-part (share_of v t) v (λ i. (turn i).1) (drop (v * share_of v t) t) j parts h;
    spare = λ j l h. is j h ∙ decided (ltb j v) (λ b. absurd (omega (arith, ltb-true j v b))) (λ b. rw b refl);
    eight = sym (ap (λ (g : Fleet). length g.vans) fleet) ∙ fleet-eight (turned v f turn);
    long = long;
    over = sym (ap (drop (v * share_of v t)) trail) ∙ drop_at (joined v (λ i. (turn i).1)) (drop (v * share_of v t) t) (v * share_of v t) joins;
  },
)
  where
    fleet : fleet_of (turned v f turn) ≡ f'
    fleet = ap (λ (q : RanAll). q.0.fleet) e

    trail : joined v (λ i. (turn i).1) ++ drop (v * share_of v t) t ≡ t'
    trail = ap (λ (q : RanAll). q.1) e

    joins : length (joined v (λ i. (turn i).1)) ≡ v * share_of v t
    joins = length-joined (share_of v t) v (λ i. (turn i).1) parts

    long : length t' ≡ length t
    long = sym (ap length trail)
        ∙ omega (arith, length-append (joined v (λ i. (turn i).1)) (drop (v * share_of v t) t), joins, length-drop (v * share_of v t) t, shares-fit v t)

    is : (j : ℕ) → j < most_vans → state_in f' j ≡ turned v f turn j
    is j h = sym (ap (λ (g : Fleet). state_in g j) fleet) ∙ state-of (turned v f turn) j h

-- ---- refused and accepted

pub barred : (number : ℕ) (f : Fleet) (t : List ℕ) (after : RanAll) → number ≢ 0 → unless_barred number f t after ≡ acted_all number 0 f t
unfolding unless_barred
barred number f t after n = rw (ne_eqb number 0 n)

pub unbarred : (number : ℕ) (f : Fleet) (t : List ℕ) (after : RanAll) → number ≡ 0 → unless_barred number f t after ≡ after
unfolding unless_barred
unbarred number f t after e = rw e

pub accepted-all : (number : ℕ) (f : Fleet) (t : List ℕ) (after : RanAll) {k : ℕ} {f' : Fleet} {t' : List ℕ}
    → unless_barred number f t after ≡ acted_all 0 k f' t' → (number ≡ 0) × (after ≡ acted_all 0 k f' t')
accepted-all number f t after {k} {f'} {t'} e = (none, sym (unbarred number f t after none) ∙ e)
  where
    none : number ≡ 0
    none = decided (eqb number 0) (eqb-true number 0) (λ z. ap (λ (q : RanAll). q.0.answer) (sym (barred number f t after (eqb-false number 0 z)) ∙ e))

-- refused: nothing changed, where what else would be is accepted
pub bar-leaves : (number : ℕ) (f : Fleet) (t : List ℕ) (after : RanAll) → after.0.answer ≡ 0 → ((unless_barred number f t after).0.answer ≡ 0 → ⊥)
    → unless_barred number f t after ≡ acted_all (unless_barred number f t after).0.answer 0 f t
unfolding unless_barred
bar-leaves number f t after z n = decided (eqb number 0) (λ e. absurd (n (rw e z))) (λ e. rw e)

-- ---- a step of one van

-- in no other van than i anything has changed
pub record Others (v : ℕ) (f : Fleet) (t : List ℕ) (i : ℕ) (f' : Fleet) (t' : List ℕ) : Type 0 where
  pub states : (j : ℕ) → j ≢ i → j < most_vans → state_in f' j ≡ state_in f j
  pub trails : (j : ℕ) → j ≢ i → j < v → trail_in v t' j ≡ trail_in v t j
  pub eight : length f'.vans ≡ most_vans
  pub long : length t' ≡ length t
  pub over : drop (v * share_of v t) t' ≡ drop (v * share_of v t) t

-- van i's turn is r, the others have none
abbrev one_turn : ℕ → Fleet → List ℕ → ℕ → Ran → ℕ → Ran
one_turn v f t i r j = cond (eqb j i) r (answered 0 (state_in f j) (trail_in v t j))

one-reads : (v : ℕ) (f : Fleet) (t : List ℕ) (i : ℕ) (r : Ran) {f' : Fleet} {t' : List ℕ} → i < v → v ≤ most_vans
    → state_in f' i ≡ r.0.state → trail_in v t' i ≡ r.1 → Others v f t i f' t' → Reads v f t (one_turn v f t i r) f' t'
one-reads v f t i r {f'} {t'} l most s u o = record {
  states = λ j h. decided (eqb j i)
      (λ e. ap (state_in f') (eqb-true j i e) ∙ s ∙ rw e refl)
      (λ e. o.states j (eqb-false j i e) (omega arith) ∙ rw e refl);
  trails = λ j h. decided (eqb j i)
      (λ e. ap (trail_in v t') (eqb-true j i e) ∙ u ∙ rw e refl)
      (λ e. o.trails j (eqb-false j i e) h ∙ rw e refl);
  spare = λ j h m. o.states j (λ e. omega arith) m;
  eight = o.eight;
  long = o.long;
  over = o.over;
}

-- van i's too has not changed: the fleet and the trail are as before
same-fleet : (v : ℕ) (f : Fleet) (t : List ℕ) (i : ℕ) {f' : Fleet} {t' : List ℕ} → length f.vans ≡ most_vans → state_in f' i ≡ state_in f i
    → Others v f t i f' t' → f ≡ f'
same-fleet v f t i {f'} e8 s o =
    sym (fleet-is f (state_in f) e8 (λ j h. refl))
    ∙ fleet-is f' (state_in f) o.eight (λ j h. decided (eqb j i) (λ e. subst (λ (k : ℕ). state_in f' k ≡ state_in f k) (sym (eqb-true j i e)) s) (λ e. o.states j (eqb-false j i e) h))

same-trail : (v : ℕ) (f : Fleet) (t : List ℕ) (i : ℕ) {f' : Fleet} {t' : List ℕ} → trail_in v t' i ≡ trail_in v t i → Others v f t i f' t' → t ≡ t'
same-trail v f t i {f'} {t'} u o =
    trails-same v t t' o.long o.over
    (λ j h. decided (eqb j i) (λ e. subst (λ (k : ℕ). trail_in v t' k ≡ trail_in v t k) (sym (eqb-true j i e)) u) (λ e. o.trails j (eqb-false j i e) h))

-- the step of van i alone, accepted or refused; a refused one changes nothing
pub alone-is : (v : ℕ) (f : Fleet) (t : List ℕ) (i : ℕ) (step : State → List ℕ → Ran) {k rounds : ℕ} {s : State} {u : List ℕ} {f' : Fleet} {t' : List ℕ}
    → i < v → v ≤ most_vans → length f.vans ≡ most_vans → step (state_in f i) (trail_in v t i) ≡ acted k rounds s u
    → (k ≢ 0 → acted k rounds s u ≡ answered k (state_in f i) (trail_in v t i)) → state_in f' i ≡ s → trail_in v t' i ≡ u → Others v f t i f' t'
    → alone v f t i step ≡ acted_all k rounds f' t'
unfolding alone
alone-is v f t i step {k} {rounds} {s} {u} {f'} {t'} l most e8 e leaves es eu o =
    ap (λ (r : Ran). unless_barred r.0.answer f t (together v f t r.0.rounds (one_turn v f t i r))) e
    ∙ decided (eqb k 0)
    (λ z. unbarred k f t _ (eqb-true k 0 z) ∙ together-is v f t rounds (one_turn v f t i (acted k rounds s u)) f' t' (one-reads v f t i (acted k rounds s u) l most es eu o)
    ∙ ap (λ (q : ℕ). acted_all q rounds f' t') (sym (eqb-true k 0 z)))
    (λ z. let same = leaves (eqb-false k 0 z) in
    barred k f t _ (eqb-false k 0 z)
    ∙ ap (λ (q : ℕ). acted_all k q f t) (sym (ap (λ (r : Ran). r.0.rounds) same))
    ∙ ap₂ (λ (g : Fleet) (w : List ℕ). acted_all k rounds g w)
    (same-fleet v f t i e8 (es ∙ ap (λ (r : Ran). r.0.state) same) o)
    (same-trail v f t i (eu ∙ ap (λ (r : Ran). r.1) same) o))

-- an accepted step of van i alone, in the fleet and the trail that it left
pub record Alone (v : ℕ) (f : Fleet) (t : List ℕ) (i : ℕ) (step : State → List ℕ → Ran) (k : ℕ) (f' : Fleet) (t' : List ℕ) : Type 0 where
  pub did : step (state_in f i) (trail_in v t i) ≡ acted 0 k (state_in f' i) (trail_in v t' i)
  pub others : Others v f t i f' t'

pub alone-reads : (v : ℕ) (f : Fleet) (t : List ℕ) (i : ℕ) (step : State → List ℕ → Ran) {k : ℕ} {f' : Fleet} {t' : List ℕ}
    → i < v → v ≤ most_vans → length (step (state_in f i) (trail_in v t i)).1 ≡ share_of v t → alone v f t i step ≡ acted_all 0 k f' t' → Alone v f t i step k f' t'
unfolding alone
alone-reads v f t i step {k} {f'} {t'} l most part e =
    let r = step (state_in f i) (trail_in v t i) in
    let h = accepted-all r.0.answer f t (together v f t r.0.rounds (one_turn v f t i r)) e in
    let q = together-reads v f t r.0.rounds (one_turn v f t i r) most
    (λ j b. decided (eqb j i) (λ z. rw z part) (λ z. rw z (part-long v t j b))) h.1 in
    let self : one_turn v f t i r i ≡ r = rw (eq-eqb i i refl) refl in
    let state : state_in f' i ≡ r.0.state = q.1.states i l ∙ ap (λ (x : Ran). x.0.state) self in
    let trail : trail_in v t' i ≡ r.1 = q.1.trails i l ∙ ap (λ (x : Ran). x.1) self in
    record {
      did = λ u. (record { answer = h.0 u; rounds = q.0 u; state = sym state u }, sym trail u);
      others = record {
        states = λ j n b. decided (ltb j v)
            (λ z. q.1.states j (ltb-true j v z) ∙ rw (ne_eqb j i n) refl)
            (λ z. q.1.spare j (ltb-false j v z) b);
        trails = λ j n b. q.1.trails j b ∙ rw (ne_eqb j i n) refl;
        eight = q.1.eight;
        long = q.1.long;
        over = q.1.over;
      };
    }

-- a step of one van that is refused changes nothing
pub alone-leaves : (v : ℕ) (f : Fleet) (t : List ℕ) (i : ℕ) (step : State → List ℕ → Ran) → ((alone v f t i step).0.answer ≡ 0 → ⊥)
    → alone v f t i step ≡ acted_all (alone v f t i step).0.answer 0 f t
unfolding alone together
alone-leaves v f t i step n = bar-leaves (step (state_in f i) (trail_in v t i)).0.answer f t _ refl n
