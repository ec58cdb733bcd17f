-- MONOTONE: struck stays struck on every longer route. A place that passes every test on the longer route passes each test, on a triangle
-- day, in the leg of the shorter route that it comes from.
use mathlib.Core.Path.{subst, ◌≡◌, sym, ◌∙◌}
use Prim.Native.Nat.{ℕ, ◌<◌}
use native.Mathlib.Omega.{arith}
use mathlib.Core.Bool.{Bool, not}
use mathlib.Core.List.{List, [], ◌∷◌}
use mathlib.Core.Logic.{⊎_elim, ◌⊎◌, inl, inr}
use lib.Dec.{T, T_not, eqb, eqb→eq}
use Rattle.laws.proofs.Logic.{tf, or_mono}
use Rattle.laws.proofs.Lists.{Each, end, also, each_in, all-mono, Sub, keep, skip, mem-sub}
use Rattle.laws.specs.Basic.{mem, hd, In}
use Rattle.rules.specs.Day.{Day}
use Rattle.rules.specs.declared.Van.{Van}
use Rattle.rules.specs.Leg.{legs_ahead, legs_behind}
use Rattle.rules.specs.Time.{start}
use Rattle.rules.specs.Load.{room, reach_ahead, reach_back}
use Rattle.rules.specs.Profile.{unmixed}
use Rattle.rules.specs.Plan.{Places}
use Rattle.rules.specs.Rounds.{Distinct, more, Within, done, stop, extra}
use Rattle.rules.specs.Tests.{Test, tests, window, short, clean, clean_fits, soiled, soiled_fits, partner_placed, neither_placed, clean_before, stays}
use Rattle.rules.specs.Asked.{Triangle}
use Rattle.rules.specs.declared.Job.{Job}
use Rattle.rules.specs.declared.Job.TheVariants.{Clean, Soiled, Transfer}
use Rattle.rules.proofs.Nodes.{distinct_tail, within-sub, distinct-behind, distinct-ahead}
use Rattle.rules.proofs.Cuts.{Cut, cut-next, cut-nil, cut-trans}
use Rattle.rules.proofs.Ways.{Way, single, onward, way-cut, reach-way, way-reach, back-way, way-from, way-source}
use Rattle.rules.proofs.Windows.{window-fits, fits-sooner}
use Rattle.rules.proofs.Grows.{start-grows, fits-grows, short-around, around-grows, room-grows, ahead-grows, behind-grows}
use Rattle.rules.proofs.Transfers.{Meets, meets-e, meets-i, Supports, supports-e, supports-i}
use Rattle.rules.proofs.Entries.{stays-e, stays-i, window-in, short-in, clean-in, soiled-in, partner_placed-in, neither_placed-in, clean_before-in}
use Rattle.rules.proofs.CleanFirst.{unmixed-sub}
use Rattle.rules.proofs.Longer.{off-sides, Lies, entered_on, left-on, lies-one, Comes, ancestor, enters, leaves, follow}

-- the route z ∷ e with the places W is longer than z ∷ r with the places o: its further stops stand in open places of o, and each place of W
-- comes from one of o
pub record Over (d : Day) (z : ℕ) (r e : List ℕ) (o W : Places) : Type 0 where
  pub nodes : Distinct d.n (z ∷ e)
  pub inside : Within o z r e
  pub off : (y q : ℕ) → T (o y q) → T (not (mem y (z ∷ r)))
  pub places : Comes z e r W o

-- the law, of a test. (Its place has to pass every test on the longer route: what 'neither placed' strikes on the shorter one, 'partner placed'
-- strikes on the longer one if the partner is placed there.)
abbrev pub Monotone : Test → Type 0
Monotone t =
    (v : Van) (d : Day) → Triangle d → (z : ℕ) (r e : List ℕ) (o W : Places) → Over d z r e o W
    → (q k' p k : ℕ) (A' B' A B : List ℕ) → Lies z e r (q ∷ A') (k' ∷ B') (p ∷ A) (k ∷ B)
    → (y : ℕ) → y < d.n → T (not (mem y (z ∷ e))) → T (stays v d (z ∷ e) W y (q ∷ A') (k' ∷ B')) → T (t v d (z ∷ r) o y (p ∷ A) (k ∷ B))

-- ---- how far a load reaches

module _ (v : Van) (d : Day) (z : ℕ) (r e : List ℕ) (o W : Places) (over : Over d z r e o W) where
  way_end : {w k k' : ℕ} {A A' B B' A₁ B₁ : List ℕ} → Lies z e r A' (k' ∷ B') A (k ∷ B) → T (room v d w A' (k' ∷ B')) → Lies z e r A' (k' ∷ B') A₁ B₁
      → Way v d w A (k ∷ B) A₁ B₁
  way_end {w} m t l = let q = lies-one over.nodes m l in rw (← q.0, ← q.1) (single (room-grows v d w m.behind m.ahead t))

  -- a way along the longer route is a way along the shorter one, from the leg in which it begins to the leg in which it ends
  way-grows : {w p q : ℕ} {A A' B B' A₁ B₁ A₂ B₂ : List ℕ} → Within o p B B' → Cut (z ∷ []) r (p ∷ A) B → Cut (z ∷ []) e (q ∷ A') B' → Sub (p ∷ A) (q ∷ A')
      → Way v d w (q ∷ A') B' A₂ B₂ → Lies z e r A₂ B₂ A₁ B₁ → Way v d w (p ∷ A) B A₁ B₁
  way-grows done c c' u x l = elim x [ ]
  way-grows (stop s) c c' u (single t) l = way_end (record { long = c'; short = c; behind = u; ahead = keep (within-sub s) }) t l
  way-grows {w} (stop s) c c' u (onward t y) l = onward (room-grows v d w u (keep (within-sub s)) t) (way-grows s (cut-next c) (cut-next c') (keep u) y l)
  way-grows (extra x s) c c' u (single t) l = way_end (record { long = c'; short = c; behind = u; ahead = skip (within-sub s) }) t l
  way-grows (extra x s) c c' u (onward t y) l = way-grows s c (cut-next c') (skip u) y l

  -- a leg with g' lies in a leg with g
  abbrev Goes : (ℕ → ℕ → Bool) → (ℕ → ℕ → Bool) → Type 0
  Goes g' g = (q k' p k : ℕ) (A' B' A B : List ℕ) → Lies z e r (q ∷ A') (k' ∷ B') (p ∷ A) (k ∷ B) → T (g' q k') → T (g p k)

  module _ (g' g : ℕ → ℕ → Bool) (f : Goes g' g) (w : ℕ) {q k' p k : ℕ} {A' B' A B : List ℕ} (l : Lies z e r (q ∷ A') (k' ∷ B') (p ∷ A) (k ∷ B)) where
    reach-grows : T (reach_ahead v d g' w (q ∷ A') (k' ∷ B')) → T (reach_ahead v d g w (p ∷ A) (k ∷ B))
    reach-grows h = let u = reach-way v d g' w (q ∷ A') (k' ∷ B') h in go u.A' u.way u.holds
      where
        go : {k₂ : ℕ} {B₂ : List ℕ} (A₂ : List ℕ) → Way v d w (q ∷ A') (k' ∷ B') A₂ (k₂ ∷ B₂) → T (g' (hd A₂) k₂) → T (reach_ahead v d g w (p ∷ A) (k ∷ B))
        go [] y t = absurd (cut-nil (way-cut y))
        go {k₂} {B₂} (q₂ ∷ A₂) y t = let a = ancestor over.inside (cut-trans l.long (way-cut y)) in
            way-reach v d g w (way-grows (follow over.nodes over.inside l).1 l.short l.long l.behind y a.lies)
            (f q₂ k₂ a.p a.k A₂ B₂ a.A a.B a.lies t)

    back-grows : T (reach_back v d g' w (q ∷ A') (k' ∷ B')) → T (reach_back v d g w (p ∷ A) (k ∷ B))
    back-grows h =
        let u = back-way v d g' w (q ∷ A') k' B' h in
        let c = way-source u.way l.long in
        let a = ancestor over.inside c in
        way-from v d g w (way-grows (follow over.nodes over.inside a.lies).1 a.lies.short c a.lies.behind u.way l)
        (f u.p' u.k' a.p a.k u.A' u.B' a.A a.B a.lies u.holds)

  -- a leg where x stands, entering or leaving it: if x is on the shorter route it stands there, and if not it had a place there
  stands_at_lem : (x : ℕ) → T (mem x (z ∷ r)) → (p : ℕ) {m' m : ℕ} → (m' ≡ m) ⊎ T (o m' p) → T (eqb m' x) → T (eqb m x)
  stands_at_lem x on p (inl c) t = rw c at t
  stands_at_lem x on p {m'} (inr c) t = absurd (T_not (mem x (z ∷ r)) (over.off x p (rw (eqb→eq m' x t) at c)) on)

  had-place : (x : ℕ) → T (not (mem x (z ∷ r))) → (p : ℕ) {m' m : ℕ} → T (mem m (z ∷ r)) → (m' ≡ m) ⊎ T (o m' p) → T (eqb m' x) → T (o x p)
  had-place x out p {m'} {m} on (inl c) t = let q : m ≡ x = sym c ∙ eqb→eq m' x t in absurd (T_not (mem x (z ∷ r)) out (subst (λ (c : ℕ). T (mem c (z ∷ r))) q on))
  had-place x out p {m'} on (inr c) t = rw (eqb→eq m' x t) at c

  module _ (x : ℕ) where
    entered-there : T (mem x (z ∷ r)) → Goes (λ p k. eqb k x) (λ p k. eqb k x)
    entered-there on q k' p k A' B' A B l t = stands_at_lem x on p (enters (follow over.nodes over.inside l).1) t

    left_there : T (mem x (z ∷ r)) → Goes (λ p k. eqb p x) (λ p k. eqb p x)
    left_there on q k' p k A' B' A B l t = stands_at_lem x on p (leaves (follow over.nodes over.inside l).0) t

    entered-open : T (not (mem x (z ∷ r))) → Goes (λ p k. eqb k x) (λ p k. o x p)
    entered-open out q k' p k A' B' A B l t = had-place x out p (entered_on l.short) (enters (follow over.nodes over.inside l).1) t

    left_open : T (not (mem x (z ∷ r))) → Goes (λ p k. eqb p x) (λ p k. o x p)
    left_open out q k' p k A' B' A B l t = had-place x out p (left-on l.short) (leaves (follow over.nodes over.inside l).0) t

    open-open : Goes (λ p k. W x p) (λ p k. o x p)
    open-open q k' p k A' B' A B l t = over.places q k' p k A' B' A B l x t

-- ---- the tests, one by one

module _ (v : Van) (d : Day) (tri : Triangle d) (z : ℕ) (r e : List ℕ) (o W : Places) (over : Over d z r e o W) (q k' p k : ℕ) (A' B' A B : List ℕ)
    (l : Lies z e r (q ∷ A') (k' ∷ B') (p ∷ A) (k ∷ B)) (y : ℕ) (low : y < d.n) (off : T (not (mem y (z ∷ e))))
    (st : T (stays v d (z ∷ e) W y (q ∷ A') (k' ∷ B'))) where
  passes : (t : Test) → In t tests → T (t v d (z ∷ e) W y (q ∷ A') (k' ∷ B'))
  passes = stays-e v d (z ∷ e) W y (q ∷ A') (k' ∷ B') st

  behind-y : Distinct d.n (y ∷ q ∷ A')
  behind-y = more low (off-sides y off l.long).0 (distinct-behind over.nodes l.long).0

  ahead-y : Distinct d.n (y ∷ k' ∷ B')
  ahead-y = more low (off-sides y off l.long).1 (distinct-ahead (distinct_tail over.nodes) l.long)

  window-grows : T (window v d (z ∷ r) o y (p ∷ A) (k ∷ B))
  window-grows = (window-fits v d (z ∷ r) o y (p ∷ A) (k ∷ B)).1
      (fits-sooner d y (k ∷ B) (start-grows d tri l.behind behind-y)
      (fits-grows d tri (start d (q ∷ A') y) l.ahead ahead-y ((window-fits v d (z ∷ e) W y (q ∷ A') (k' ∷ B')).0 (passes window window-in))))

  short-grows : T (short v d (z ∷ r) o y (p ∷ A) (k ∷ B))
  short-grows = (short-around v d o y l.short).1
      (omega (arith, (short-around v d W y l.long).0 (passes short short-in), around-grows d tri l.behind l.ahead behind-y ahead-y))

  clean-grows : T (clean v d (z ∷ r) o y (p ∷ A) (k ∷ B))
  clean-grows = all-mono (clean_fits v d y (q ∷ A') (k' ∷ B')) (clean_fits v d y (p ∷ A) (k ∷ B)) d.jobs job (passes clean clean-in)
    where
      job : (j : Job) → T (clean_fits v d y (q ∷ A') (k' ∷ B') j) → T (clean_fits v d y (p ∷ A) (k ∷ B) j)
      job (Clean a w) = or_mono (not (eqb a y)) (legs_behind (room v d w) (q ∷ A') (k' ∷ B')) (not (eqb a y)) (legs_behind (room v d w) (p ∷ A) (k ∷ B))
          (λ t. t) (behind-grows (room v d w) (λ A A' B B'. room-grows v d w) l.behind l.ahead)
      job (Soiled a w) = λ t. t
      job (Transfer a b w) = λ t. t

  soiled-grows : T (soiled v d (z ∷ r) o y (p ∷ A) (k ∷ B))
  soiled-grows = all-mono (soiled_fits v d y (q ∷ A') (k' ∷ B')) (soiled_fits v d y (p ∷ A) (k ∷ B)) d.jobs job (passes soiled soiled-in)
    where
      job : (j : Job) → T (soiled_fits v d y (q ∷ A') (k' ∷ B') j) → T (soiled_fits v d y (p ∷ A) (k ∷ B) j)
      job (Clean a w) = λ t. t
      job (Soiled a w) = or_mono (not (eqb a y)) (legs_ahead (room v d w) (q ∷ A') (k' ∷ B')) (not (eqb a y)) (legs_ahead (room v d w) (p ∷ A) (k ∷ B))
          (λ t. t) (ahead-grows (room v d w) (λ A A' B B'. room-grows v d w) l.behind l.ahead)
      job (Transfer a b w) = λ t. t

  -- ---- the partner

  longer : (x : ℕ) → T (mem x (z ∷ r)) → T (mem x (z ∷ e))
  longer x = mem-sub x (keep (within-sub over.inside))

  met : Meets v d (z ∷ e) W y (q ∷ A') (k' ∷ B')
  met = meets-e v d (z ∷ e) W y (q ∷ A') (k' ∷ B') (passes partner_placed partner_placed-in)

  supported : Supports v d (z ∷ e) W y (q ∷ A') (k' ∷ B')
  supported = supports-e v d (z ∷ e) W y (q ∷ A') (k' ∷ B') (passes neither_placed neither_placed-in)

  partner-grows : T (partner_placed v d (z ∷ r) o y (p ∷ A) (k ∷ B))
  partner-grows = meets-i v d (z ∷ r) o y (p ∷ A) (k ∷ B) (record {
    first = λ b w i on. reach-grows v d z r e o W over (λ p k. eqb k b) (λ p k. eqb k b) (entered-there v d z r e o W over b on) w l
        (met.first b w i (longer b on));
    second = λ a w i on. back-grows v d z r e o W over (λ p k. eqb p a) (λ p k. eqb p a) (left_there v d z r e o W over a on) w l
        (met.second a w i (longer a on));
  })

  neither-grows : T (neither_placed v d (z ∷ r) o y (p ∷ A) (k ∷ B))
  neither-grows = supports-i v d (z ∷ r) o y (p ∷ A) (k ∷ B) (record {
    first = λ b w i out. ⊎_elim
        (λ on. reach-grows v d z r e o W over (λ p k. eqb k b) (λ p k. o b p) (entered-open v d z r e o W over b out) w l (met.first b w i on))
        (λ no. reach-grows v d z r e o W over (λ p k. W b p) (λ p k. o b p) (open-open v d z r e o W over b) w l (supported.first b w i no))
        (tf (mem b (z ∷ e)));
    second = λ a w i out. ⊎_elim
        (λ on. back-grows v d z r e o W over (λ p k. eqb p a) (λ p k. o a p) (left_open v d z r e o W over a out) w l (met.second a w i on))
        (λ no. back-grows v d z r e o W over (λ p k. W a p) (λ p k. o a p) (open-open v d z r e o W over a) w l (supported.second a w i no))
        (tf (mem a (z ∷ e)));
  })

  clean_before-grows : T (clean_before v d (z ∷ r) o y (p ∷ A) (k ∷ B))
  clean_before-grows = or_mono (not d.profile) (unmixed d y (q ∷ A') (k' ∷ B')) (not d.profile) (unmixed d y (p ∷ A) (k ∷ B)) (λ t. t)
      (unmixed-sub d y l.behind l.ahead) (passes clean_before clean_before-in)

-- ---- the law, of every test

each-monotone : Each Monotone tests
each-monotone =
    also window-grows
    (also short-grows
    (also clean-grows
    (also soiled-grows
    (also partner-grows
    (also neither-grows
    (also clean_before-grows end))))))

-- what stays on the longer route stays on the shorter
pub stays-grows : Monotone stays
stays-grows v d tri z r e o W over q k' p k A' B' A B l y low off st =
    stays-i v d (z ∷ r) o y (p ∷ A) (k ∷ B) (λ t i. each_in i each-monotone v d tri z r e o W over q k' p k A' B' A B l y low off st)
