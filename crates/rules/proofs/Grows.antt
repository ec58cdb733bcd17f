-- A route with more stops, on a triangle day: starts grow, the time left ahead shrinks, metres and loads grow.
use mathlib.Core.Path.{◌≡◌, refl, sym}
use Prim.Native.Nat.{ℕ, ◌+◌, ◌-◌, ◌≤◌}
use native.Mathlib.Omega.{arith}
use mathlib.Core.Bool.{◌&&◌, ◌||◌}
use mathlib.Core.List.{List, [], ◌∷◌}
use mathlib.Core.Logic.{◌≢◌, ◌↔◌}
use lib.Dec.{T, eqb, leb→le, le→leb}
use Rattle.laws.proofs.Logic.{and_l, and_r, and_mono, not-or-l, not-or-r, neqb, cond-mono}
use Rattle.laws.proofs.Lists.{Sub, nil, keep, skip, mem-sub}
use Rattle.laws.specs.Basic.{mem, In, here, there}
use Rattle.rules.specs.Day.{Day}
use Rattle.rules.specs.declared.Van.{Van}
use Rattle.rules.specs.Leg.{OfLeg, legs_ahead, legs_behind}
use Rattle.rules.specs.Time.{start, in_time, driven}
use Rattle.rules.specs.Load.{aboard, sum, load, carries, room}
use Rattle.rules.specs.Plan.{Places}
use Rattle.rules.specs.Rounds.{Distinct, more}
use Rattle.rules.specs.Tests.{short}
use Rattle.rules.specs.Asked.{Shortest, Triangle}
use Rattle.rules.specs.declared.Job.{Job}
use Rattle.rules.specs.declared.Job.TheVariants.{Clean, Soiled, Transfer}
use Rattle.rules.proofs.Cuts.{Cut, same, move}
use Rattle.rules.proofs.Nodes.{distinct_tail, distinct-skip}
use Rattle.rules.proofs.Windows.{fits, fits-sooner}

-- ---- on a triangle day

-- two ways round three different nodes
shortest : {n : ℕ} {t : ℕ → ℕ → ℕ} {x y z : ℕ} {l : List ℕ} → Shortest n t → Distinct n (x ∷ y ∷ z ∷ l) → (t z x ≤ t z y + t y x) × (t x z ≤ t x y + t y z)
shortest {x = x} {y = y} {z = z} {l = l} tri (more a b (more c f (more e _ g))) =
    let xy : y ≢ x = neqb y x (not-or-l (eqb y x) (eqb z x || mem x l) b) in
    let xz : z ≢ x = neqb z x (not-or-l (eqb z x) (mem x l) (not-or-r (eqb y x) (eqb z x || mem x l) b)) in
    let yz : z ≢ y = neqb z y (not-or-l (eqb z y) (mem y l) f) in
    (tri z y x e c a yz xy xz, tri x y z a c e (λ q. xy (sym q)) (λ q. yz (sym q)) (λ q. xz (sym q)))

-- the metres to the stop x ∷ A, from the first stop on
abbrev pub driven_back : Day → List ℕ → ℕ
driven_back d [] = 0
driven_back d (x ∷ []) = 0
driven_back d (x ∷ p ∷ A) = driven_back d (p ∷ A) + d.metres p x

module _ (d : Day) (tri : Triangle d) where
  start-skip : {x q : ℕ} (A : List ℕ) → Distinct d.n (x ∷ q ∷ A) → start d A x ≤ start d (q ∷ A) x
  start-skip [] g = omega arith
  start-skip (p ∷ A) g = omega (arith, shortest tri.seconds g)

  -- E grows
  pub start-grows : {x : ℕ} {A A' : List ℕ} → Sub A A' → Distinct d.n (x ∷ A') → start d A x ≤ start d A' x
  start-grows nil g = omega arith
  start-grows (keep u) g = omega (arith, start-grows u (distinct_tail g))
  start-grows (skip {m = m} u) g = omega (arith, start-grows u (distinct-skip g), start-skip m g)

  fits-skip : (t : ℕ) {x q : ℕ} (B : List ℕ) → Distinct d.n (x ∷ q ∷ B) → T (fits d t x (q ∷ B)) → T (fits d t x B)
  fits-skip t {x} {q} [] g f = and_l (in_time d x t) (in_time d q (t + d.service x + d.seconds x q)) f
  fits-skip t {x} {q} (k ∷ B) g f =
      let u = t + d.service x + d.seconds x q in
      let v = u + d.service q + d.seconds q k in
      let w = t + d.service x + d.seconds x k in
      and_mono (in_time d x t) (in_time d q u && fits d v k B) (in_time d x t) (fits d w k B) (λ h. h)
      (λ h. fits-sooner d k B (omega (arith, shortest tri.seconds g)) (and_r (in_time d q u) (fits d v k B) h)) f

  -- what fits before more stops fits before fewer: L falls
  pub fits-grows : (t : ℕ) {x : ℕ} {B B' : List ℕ} → Sub B B' → Distinct d.n (x ∷ B') → T (fits d t x B') → T (fits d t x B)
  fits-grows t nil g f = f
  fits-grows t {x} (keep {x = k} {l = l} {m = m} u) g f =
      let v = t + d.service x + d.seconds x k in
      and_mono (in_time d x t) (fits d v k m) (in_time d x t) (fits d v k l) (λ h. h) (fits-grows v u (distinct_tail g)) f
  fits-grows t (skip {m = m} u) g f = fits-grows t u (distinct-skip g) (fits-skip t m g f)

  back-skip : {x q : ℕ} (A : List ℕ) → Distinct d.n (x ∷ q ∷ A) → driven_back d (x ∷ A) ≤ driven_back d (x ∷ q ∷ A)
  back-skip [] g = omega arith
  back-skip (p ∷ A) g = omega (arith, shortest tri.metres g)

  back-grows : {x : ℕ} {A A' : List ℕ} → Sub A A' → Distinct d.n (x ∷ A') → driven_back d (x ∷ A) ≤ driven_back d (x ∷ A')
  back-grows nil g = omega arith
  back-grows (keep u) g = omega (arith, back-grows u (distinct_tail g))
  back-grows (skip {m = m} u) g = omega (arith, back-grows u (distinct-skip g), back-skip m g)

  driven-skip : {x q : ℕ} (B : List ℕ) → Distinct d.n (x ∷ q ∷ B) → driven d (x ∷ B) ≤ driven d (x ∷ q ∷ B)
  driven-skip [] g = omega arith
  driven-skip (k ∷ B) g = omega (arith, shortest tri.metres g)

  -- metres grow
  pub driven-grows : {x : ℕ} {B B' : List ℕ} → Sub B B' → Distinct d.n (x ∷ B') → driven d (x ∷ B) ≤ driven d (x ∷ B')
  driven-grows nil g = omega arith
  driven-grows (keep u) g = omega (arith, driven-grows u (distinct_tail g))
  driven-grows (skip {m = m} u) g = omega (arith, driven-grows u (distinct-skip g), driven-skip m g)

  pub around-grows : {x : ℕ} {A A' B B' : List ℕ} → Sub A A' → Sub B B' → Distinct d.n (x ∷ A') → Distinct d.n (x ∷ B')
      → driven_back d (x ∷ A) + driven d (x ∷ B) ≤ driven_back d (x ∷ A') + driven d (x ∷ B')
  around-grows u v f g = omega (arith, back-grows u f, driven-grows v g)

-- ---- the metres of a route, a leg apart

cut-driven-from : (d : Day) {q p : ℕ} {A₀ B₀ A B : List ℕ} → Cut (q ∷ A₀) B₀ (p ∷ A) B
    → driven_back d (q ∷ A₀) + driven d (q ∷ B₀) ≡ driven_back d (p ∷ A) + driven d (p ∷ B)
cut-driven-from d same = refl
cut-driven-from d (move c) = omega (arith, cut-driven-from d c)

pub cut-driven : (d : Day) {z p : ℕ} {r A B : List ℕ} → Cut (z ∷ []) r (p ∷ A) B → driven d (z ∷ r) ≡ driven_back d (p ∷ A) + driven d (p ∷ B)
cut-driven d c = omega (arith, cut-driven-from d c)

-- the metre test: the route with x in the leg is within the limit
pub short-around : (v : Van) (d : Day) (o : Places) (x : ℕ) {z p k : ℕ} {r A B : List ℕ} → Cut (z ∷ []) r (p ∷ A) (k ∷ B)
    → T (short v d (z ∷ r) o x (p ∷ A) (k ∷ B)) ↔ (driven_back d (x ∷ p ∷ A) + driven d (x ∷ k ∷ B) ≤ v.limit)
short-around v d o x {z} {p} {k} {r} {A} {B} c =
    let all = driven d (z ∷ r) + d.metres p x + d.metres x k - d.metres p k in (
      λ h. omega (arith, cut-driven d c, leb→le all v.limit h),
      λ h. le→leb all v.limit (omega (arith, cut-driven d c)),
    )

-- ---- loads

sum-grows : (f g : Job → ℕ) (js : List Job) → ((j : Job) → f j ≤ g j) → sum f js ≤ sum g js
sum-grows f g [] h = omega arith
sum-grows f g (j ∷ js) h = omega (arith, h j, sum-grows f g js h)

sum-new : (f g : Job → ℕ) {j : Job} {js : List Job} (w : ℕ) → ((j : Job) → f j ≤ g j) → In j js → f j + w ≤ g j → sum f js + w ≤ sum g js
sum-new f g w h (here {l = l}) e = omega (arith, sum-grows f g l h)
sum-new f g w h (there {b = b} i) e = omega (arith, h b, sum-new f g w h i e)

-- each job weighs no less where more stops are behind and ahead
aboard-grows : {A A' B B' : List ℕ} → Sub A A' → Sub B B' → (j : Job) → aboard A B j ≤ aboard A' B' j
aboard-grows {B} {B'} u v (Clean a w) = cond-mono (mem a B) (mem a B') w (mem-sub a v)
aboard-grows {A} {A'} u v (Soiled a w) = cond-mono (mem a A) (mem a A') w (mem-sub a u)
aboard-grows {A} {A'} {B} {B'} u v (Transfer a b w) = cond-mono (mem a A && mem b B) (mem a A' && mem b B') w (and_mono (mem a A) (mem b B) (mem a A') (mem b B') (mem-sub a u) (mem-sub b v))

-- H grows
pub load-grows : (d : Day) {A A' B B' : List ℕ} → Sub A A' → Sub B B' → load d A B ≤ load d A' B'
load-grows d {A} {A'} {B} {B'} u v = sum-grows (aboard A B) (aboard A' B') d.jobs (aboard-grows u v)

-- what fits on a leg fits on its ancestor
pub room-grows : (v : Van) (d : Day) (w : ℕ) {A A' B B' : List ℕ} → Sub A A' → Sub B B' → T (room v d w A' B') → T (room v d w A B)
room-grows v d w {A} {A'} {B} {B'} s t h = le→leb (load d A B + w) v.capacity (omega (arith, leb→le (load d A' B' + w) v.capacity h, load-grows d s t))

pub carries-grows : (v : Van) (d : Day) {A A' B B' : List ℕ} → Sub A A' → Sub B B' → T (carries v d A' B') → T (carries v d A B)
carries-grows v d {A} {A'} {B} {B'} s t h = le→leb (load d A B) v.capacity (omega (arith, leb→le (load d A' B') v.capacity h, load-grows d s t))

-- a job that comes aboard only there leaves room for its load
pub room-new : (v : Van) (d : Day) (w : ℕ) {A A' B B' : List ℕ} {j : Job} → In j d.jobs → Sub A A' → Sub B B' → aboard A B j + w ≤ aboard A' B' j
    → T (carries v d A' B') → T (room v d w A B)
room-new v d w {A} {A'} {B} {B'} i s t e h =
    le→leb (load d A B + w) v.capacity (omega (arith, leb→le (load d A' B') v.capacity h, sum-new (aboard A B) (aboard A' B') w (aboard-grows s t) i e))

-- ---- a test that passes on the ancestor of each leg where it passes

module _ (f : OfLeg) (grows : (A A' B B' : List ℕ) → Sub A A' → Sub B B' → T (f A' B') → T (f A B)) where
  pub ahead-grows : {A A' B B' : List ℕ} → Sub A A' → Sub B B' → T (legs_ahead f A' B') → T (legs_ahead f A B)
  ahead-grows s nil h = tt
  ahead-grows {A} {A'} s (keep {x = k} {l = B} {m = B'} t) h =
      and_mono (f A' (k ∷ B')) (legs_ahead f (k ∷ A') B') (f A (k ∷ B)) (legs_ahead f (k ∷ A) B) (grows A A' (k ∷ B) (k ∷ B') s (keep t)) (ahead-grows (keep s) t) h
  ahead-grows {A' = A'} s (skip {x = k} {m = B'} t) h = ahead-grows (skip s) t (and_r (f A' (k ∷ B')) (legs_ahead f (k ∷ A') B') h)

  pub behind-grows : {A A' B B' : List ℕ} → Sub A A' → Sub B B' → T (legs_behind f A' B') → T (legs_behind f A B)
  behind-grows nil t h = tt
  behind-grows {B = B} {B' = B'} (keep {x = p} {l = A} {m = A'} s) t h =
      and_mono (f (p ∷ A') B') (legs_behind f A' (p ∷ B')) (f (p ∷ A) B) (legs_behind f A (p ∷ B)) (grows (p ∷ A) (p ∷ A') B B' (keep s) t) (behind-grows s (keep t)) h
  behind-grows {B' = B'} (skip {x = p} {m = A'} s) t h = behind-grows s (skip t) (and_r (f (p ∷ A') B') (legs_behind f A' (p ∷ B')) h)
