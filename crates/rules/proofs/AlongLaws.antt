-- A route in an array: what a loop over its stops does, turned into the recursions over its cuts. Stops and legs are counted from 0; the
-- i-th leg leaves the i-th stop. A loop's turn is the law whose name ends in `next`, its beginning or end the one with `first` or `end`.
use mathlib.Core.Path.{◌≡◌, refl, sym, ap, ◌∙◌}
use Prim.Native.Nat.{ℕ, zero, suc, ◌+◌, ◌-◌, ◌≤◌, ◌<◌, max}
use native.Mathlib.Omega.{arith}
use mathlib.Core.Bool.{Bool, true, false, ◌&&◌, ◌||◌, and_comm, and-true}
use mathlib.Core.List.{List, [], ◌∷◌, ◌++◌}
use mathlib.Core.Logic.{⊎_elim}
use lib.Dec.{T, T_not, leb, eqb, eqb_refl, eqb→eq, leb→le, le→leb}
use borrow.Author.Tests.{eqb-true, eq-eqb}
use lib.IntN.{pos, ◌-ℤ◌}
use lib.Signed.{le_z}
use lib.ListN.{get_or, drop, take, length, drop_of_length-le}
use lib.Seq.{drop-cons, drop-length, take-suc, get_or-take}
use Rattle.laws.proofs.Logic.{T-ext, or_l, or_r, or-e, decided}
use Rattle.laws.proofs.Below.{below_all}
use Rattle.laws.specs.Basic.{all_below, mem, hd, all}
use Rattle.rules.specs.Day.{Day, down_from}
use Rattle.rules.specs.declared.Van.{Van}
use Rattle.rules.specs.Leg.{OfLeg, legs_ahead, legs_behind, every_leg, leg_from, on_leg, leg_stops}
use Rattle.rules.specs.Time.{last_moment, in_time, min_z, last_start, on_time, driven}
use Rattle.rules.specs.Load.{room, reach_ahead, reach_back}
use Rattle.rules.specs.Plan.{Places}
use Rattle.rules.specs.Tests.{window, short}
use Rattle.rules.specs.Rounds.{Distinct, none, more}
use Rattle.rules.specs.Along.{behind, start_at, last_at}

-- f of the leg that leaves the i-th stop
abbrev pub at_leg : OfLeg → List ℕ → ℕ → Bool
at_leg f l i = f (behind l (suc i)) (drop (suc i) l)

-- the start at x of a van that starts at p at the time t
abbrev pub arrives : Day → ℕ → ℕ → ℕ → ℕ
arrives d t p x = max (d.earliest x) (t + d.service p + d.seconds p x)

-- the stops before the i-th are those of the array that the route stands in
pub behind-take : (l : List ℕ) (n i : ℕ) → i ≤ n → behind (take n l) i ≡ behind l i
behind-take l n zero h = refl
behind-take l n (suc i) h = λ u. get_or-take n l i 0 h u ∷ behind-take l n i (omega arith) u

-- ---- E and L

pub last-next : (d : Day) (l : List ℕ) (i : ℕ) → suc i < length l
    → last_at d l i ≡ min_z (last_moment d (get_or l i 0)) (last_at d l (suc i) -ℤ pos (d.service (get_or l i 0) + d.seconds (get_or l i 0) (get_or l (suc i) 0)))
last-next d l i h = ap (λ (B : List ℕ). last_start d B (get_or l i 0)) (drop-cons l (suc i) 0 h)

pub last_end : (d : Day) (l : List ℕ) (i : ℕ) → length l ≤ suc i → last_at d l i ≡ last_moment d (get_or l i 0)
last_end d l i h = ap (λ (B : List ℕ). last_start d B (get_or l i 0)) (drop_of_length-le l h)

-- no start is too late: a test of each stop
pub on-time-all : (d : Day) (l : List ℕ) → on_time d [] l ≡ all_below (length l) (λ i. in_time d (get_or l i 0) (start_at d l i))
on-time-all d l =
    below_all (length l) (λ i. in_time d (get_or l i 0) (start_at d l i)) (λ i. on_time d (behind l i) (drop i l))
    (λ i h. ap (on_time d (behind l i)) (drop-cons l i 0 h)) (ap (on_time d (behind l (length l))) (drop-length l))

-- ---- metres

driven-snoc : (d : Day) (A : List ℕ) (p k : ℕ) → driven d ((A ++ (p ∷ [])) ++ (k ∷ [])) ≡ driven d (A ++ (p ∷ [])) + d.metres p k
driven-snoc d [] p k = omega arith
driven-snoc d (x ∷ []) p k = omega arith
driven-snoc d (x ∷ y ∷ A) p k = omega (arith, driven-snoc d (y ∷ A) p k)

pub driven-first : (d : Day) (l : List ℕ) → driven d (take 1 l) ≡ 0
driven-first d [] = refl
driven-first d (x ∷ l) = refl

pub driven-next : (d : Day) (l : List ℕ) (i : ℕ) → suc i < length l
    → driven d (take (suc (suc i)) l) ≡ driven d (take (suc i) l) + d.metres (get_or l i 0) (get_or l (suc i) 0)
driven-next d l i h = rw (take-suc l (suc i) 0 h, take-suc l i 0 (omega arith)) (driven-snoc d (take i l) (get_or l i 0) (get_or l (suc i) 0))

less-sum : (a b c : ℕ) → leb (a - b) c ≡ leb a (c + b)
less-sum a b c =
    T-ext (leb (a - b) c) (leb a (c + b)) (λ h. le→leb a (c + b) (omega (arith, leb→le (a - b) c h))) (λ h. le→leb (a - b) c (omega (arith, leb→le a (c + b) h)))

-- ---- window and metres of x in the i-th leg, by the numbers of its two stops

pub window-at : (v : Van) (d : Day) (rt : List ℕ) (o : Places) (x : ℕ) (l : List ℕ) (i : ℕ) → suc i < length l
    → at_leg (window v d rt o x) l i
    ≡ (in_time d x (arrives d (start_at d l i) (get_or l i 0) x)
    && le_z (pos (arrives d (start_at d l i) (get_or l i 0) x + d.service x + d.seconds x (get_or l (suc i) 0))) (last_at d l (suc i)))
window-at v d rt o x l i h = rw (drop-cons l (suc i) 0 h)

-- nothing is taken away
pub short-at : (v : Van) (d : Day) (rt : List ℕ) (o : Places) (x : ℕ) (l : List ℕ) (i : ℕ) → suc i < length l
    → at_leg (short v d rt o x) l i
    ≡ leb (driven d rt + d.metres (get_or l i 0) x + d.metres x (get_or l (suc i) 0)) (v.limit + d.metres (get_or l i 0) (get_or l (suc i) 0))
short-at v d rt o x l i h =
    rw (drop-cons l (suc i) 0 h)
    (less-sum (driven d rt + d.metres (get_or l i 0) x + d.metres x (get_or l (suc i) 0)) (d.metres (get_or l i 0) (get_or l (suc i) 0)) v.limit)

-- ---- tests of legs

module _ (f : OfLeg) (l : List ℕ) where
  pub ahead-next : (i : ℕ) → suc i < length l → at_leg (legs_ahead f) l i ≡ (at_leg f l i && at_leg (legs_ahead f) l (suc i))
  ahead-next i h = rw (drop-cons l (suc i) 0 h)

  pub ahead-end : (i : ℕ) → length l ≤ suc i → at_leg (legs_ahead f) l i ≡ true
  ahead-end i h = rw (drop_of_length-le l h)

  pub back-first : at_leg (legs_behind f) l 0 ≡ at_leg f l 0
  back-first = and-true (at_leg f l 0)

  pub back-next : (i : ℕ) → suc i < length l → at_leg (legs_behind f) l (suc i) ≡ (at_leg f l (suc i) && at_leg (legs_behind f) l i)
  back-next i h = ap (λ (B : List ℕ). at_leg f l (suc i) && legs_behind f (behind l (suc i)) B) (sym (drop-cons l (suc i) 0 h))

-- every leg of the route
pub every-all : (f : OfLeg) (l : List ℕ) → every_leg f l ≡ all_below (length l - 1) (at_leg f l)
unfolding all_below
every-all f [] = refl
every-all f (z ∷ r) =
    let e : suc (length r) - 1 ≡ length r = omega arith in
    rw e (below_all (length r) (at_leg f (z ∷ r)) (at_leg (legs_ahead f) (z ∷ r)) (λ i h. ahead-next f (z ∷ r) i (omega arith))
    (ahead-end f (z ∷ r) (length r) (omega arith)))

-- ---- how far a load reaches

module _ (v : Van) (d : Day) (g : ℕ → ℕ → Bool) (w : ℕ) (l : List ℕ) where
  pub reach-ahead-next : (i : ℕ) → suc i < length l
      → at_leg (reach_ahead v d g w) l i ≡ (at_leg (room v d w) l i && (g (get_or l i 0) (get_or l (suc i) 0) || at_leg (reach_ahead v d g w) l (suc i)))
  reach-ahead-next i h = rw (drop-cons l (suc i) 0 h)

  pub reach-ahead-end : (i : ℕ) → length l ≤ suc i → at_leg (reach_ahead v d g w) l i ≡ false
  reach-ahead-end i h = rw (drop_of_length-le l h)

  pub reach-back-first : 1 < length l → at_leg (reach_back v d g w) l 0 ≡ (at_leg (room v d w) l 0 && (g (get_or l 0 0) (get_or l 1 0) || false))
  reach-back-first h = ap (λ (k : ℕ). at_leg (room v d w) l 0 && (g (get_or l 0 0) k || false)) (ap hd (drop-cons l 1 0 h))

  pub reach-back-next : (i : ℕ) → suc (suc i) < length l
      → at_leg (reach_back v d g w) l (suc i)
      ≡ (at_leg (room v d w) l (suc i) && (g (get_or l (suc i) 0) (get_or l (suc (suc i)) 0) || at_leg (reach_back v d g w) l i))
  reach-back-next i h = λ u. at_leg (room v d w) l (suc i)
      && (g (get_or l (suc i) 0) (hd (drop-cons l (suc (suc i)) 0 h u)) || reach_back v d g w (behind l (suc i)) (sym (drop-cons l (suc i) 0 (omega arith)) u))

-- ---- which stops

pub mem-at : (l : List ℕ) (i : ℕ) → i < length l → T (mem (get_or l i 0) l)
mem-at [] i h = absurd (omega arith)
mem-at (x ∷ l) zero h = or_l (eqb x x) (mem x l) (eqb_refl x)
mem-at (x ∷ l) (suc i) h = or_r (eqb x (get_or l i 0)) (mem (get_or l i 0) l) (mem-at l i (omega arith))

-- different places on the route are different stops
pub stops-apart : {n : ℕ} {l : List ℕ} → Distinct n l → (i j : ℕ) → i < j → j < length l → eqb (get_or l i 0) (get_or l j 0) ≡ false
stops-apart none i j h k = absurd (omega arith)
stops-apart (more a b g) i zero h k = absurd (omega arith)
stops-apart (more {x = x} {l = l} a b g) zero (suc j) h k =
    decided (eqb x (get_or l j 0)) (λ e. absurd (T_not (mem x l) b (rw (eqb-true x (get_or l j 0) e) (mem-at l j (omega arith))))) (λ e. e)
stops-apart (more a b g) (suc i) (suc j) h k = stops-apart g i j (omega arith) (omega arith)

-- the stops that a leg leaves
pub leg-stops : (l : List ℕ) → leg_stops l ≡ take (length l - 1) l
leg-stops [] = refl
leg-stops (c ∷ []) = refl
leg-stops (c ∷ k ∷ r) =
    let e : suc (suc (length r)) - 1 ≡ suc (suc (length r) - 1) = omega arith in
    rw e (ap (λ (t : List ℕ). c ∷ t) (leg-stops (k ∷ r)))

-- where on the route a leg's name stands
pub leg-index : (p : ℕ) (l : List ℕ) → T (mem p (leg_stops l)) → (i : ℕ) × (suc i < length l) × (get_or l i 0 ≡ p)
leg-index p [] h = absurd h
leg-index p (c ∷ []) h = absurd h
leg-index p (c ∷ k ∷ r) h =
    ⊎_elim (λ e. (0, omega arith, eqb→eq c p e))
    (λ m. let u = leg-index p (k ∷ r) m in (suc u.0, omega (arith, u.1), u.2)) (or-e (eqb c p) (mem p (leg_stops (k ∷ r))) h)

-- a test of every inner node
pub inner-all : (m : ℕ) (f : ℕ → Bool) → all f (down_from m) ≡ all_below m (λ i. f (suc i))
unfolding all_below
inner-all zero f = refl
inner-all (suc m) f = and_comm (f (suc m)) (all f (down_from m)) ∙ ap (λ (b : Bool). b && f (suc m)) (inner-all m f)

-- ---- the leg that a stop names

on-leg-from : {n : ℕ} (f : OfLeg) {l : List ℕ} → Distinct n l → (k j i : ℕ) → j + k ≡ i → suc i < length l
    → leg_from f (get_or l i 0) (behind l (suc j)) (drop (suc j) l) ≡ at_leg f l i
on-leg-from f {l} g zero j i e h =
    let q : j ≡ i = omega arith in
    rw (q, drop-cons l (suc i) 0 h, eq-eqb (get_or l i 0) (get_or l i 0) refl)
on-leg-from f {l} g (suc k) j i e h =
    rw (drop-cons l (suc j) 0 (omega arith), stops-apart g j i (omega arith) (omega arith)) (on-leg-from f g k (suc j) i (omega arith) h)

-- the leg that the i-th stop names is the i-th
pub on-leg : {n : ℕ} (f : OfLeg) (l : List ℕ) → Distinct n l → (i : ℕ) → suc i < length l → on_leg f (get_or l i 0) l ≡ at_leg f l i
on-leg f [] g i h = absurd (omega arith)
on-leg f (z ∷ r) g i h = on-leg-from f g i 0 i (omega arith) h
