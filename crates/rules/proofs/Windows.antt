-- Windows: when a start is in time, and L, which is signed, as a test of numbers. Of the last moment nothing is asked but that it is a signed number.
use mathlib.Core.Path.{◌≡◌, subst, sym}
use Prim.Native.Nat.{ℕ, zero, suc, ◌+◌, ◌-◌, ◌≤◌, ◌<◌}
use native.Mathlib.Omega.{arith}
use mathlib.Core.Bool.{Bool, true, false, cond, not, ◌&&◌}
use mathlib.Core.List.{List, [], ◌∷◌}
use mathlib.Core.Logic.{◌↔◌}
use lib.Dec.{T, leb, ltb, leb→le, le→leb, ltb→lt, nltb→le, nleb→lt}
use lib.IntN.{ℤ, pos, negsuc, sub_ℕ, ◌-ℤ◌}
use lib.Signed.{le_z}
use Rattle.laws.proofs.Logic.{and_i, and_l, and_r, and_mono}
use Rattle.rules.specs.Day.{Day}
use Rattle.rules.specs.declared.Van.{Van}
use Rattle.rules.specs.Time.{start, last_moment, in_time, min_z, last_start, on_time}
use Rattle.rules.specs.Plan.{Places}
use Rattle.rules.specs.Tests.{window}
use Rattle.rules.proofs.Cuts.{Cut, same, move}

-- ---- in time: a smaller start stays in time; as an order of numbers

le_z-le : {t t' : ℕ} (z : ℤ) → t ≤ t' → T (le_z (pos t') z) → T (le_z (pos t) z)
le_z-le {t} {t'} (pos a) h f = le→leb t a (omega (arith, leb→le t' a f))
le_z-le (negsuc a) h f = f

pub in-time-sooner : (d : Day) (x : ℕ) {t t' : ℕ} → t ≤ t' → T (in_time d x t') → T (in_time d x t)
in-time-sooner d x = le_z-le (last_moment d x)

-- ---- L as a test in ℕ

-- a start of t at k is in time, and so are the starts at the stops B ahead if the van never waits
abbrev pub fits : Day → ℕ → ℕ → List ℕ → Bool
fits d t k [] = in_time d k t
fits d t k (m ∷ B) = in_time d k t && fits d (t + d.service k + d.seconds k m) m B

le_z-difference : (t a b : ℕ) → T (le_z (pos t) (sub_ℕ a b)) ↔ T (leb (t + b) a)
le_z-difference t a b = go (ltb a b) (ltb→lt a b) (nltb→le a b)
  where
    go : (c : Bool) → (T c → a < b) → (T (not c) → b ≤ a) → T (le_z (pos t) (cond c (negsuc (b - suc a)) (pos (a - b)))) ↔ T (leb (t + b) a)
    go true f g = (λ h. absurd h, λ h. omega (arith, f tt, leb→le (t + b) a h))
    go false f g = (λ h. le→leb (t + b) a (omega (arith, g tt, leb→le t (a - b) h)), λ h. le→leb t (a - b) (omega (arith, leb→le (t + b) a h)))

le_z-less : (t m : ℕ) (z : ℤ) → T (le_z (pos t) (z -ℤ pos m)) ↔ T (le_z (pos (t + m)) z)
le_z-less t zero (pos a) = (λ h. le→leb (t + 0) a (omega (arith, leb→le t (a + 0) h)), λ h. le→leb t (a + 0) (omega (arith, leb→le (t + 0) a h)))
le_z-less t zero (negsuc a) = (λ h. omega (arith, leb→le (t + suc a) 0 ((le_z-difference t 0 (suc a)).0 h)), λ h. absurd h)
le_z-less t (suc m) (pos a) = le_z-difference t a (suc m)
le_z-less t (suc m) (negsuc a) = (λ h. h, λ h. h)

le_z-min : (t : ℕ) (a b : ℤ) → T (le_z (pos t) (min_z a b)) ↔ (T (le_z (pos t) a) × T (le_z (pos t) b))
le_z-min t (pos a) (pos b) = go (leb a b) (leb→le a b) (nleb→lt a b)
  where
    go : (c : Bool) → (T c → a ≤ b) → (T (not c) → b < a) → T (le_z (pos t) (cond c (pos a) (pos b))) ↔ (T (leb t a) × T (leb t b))
    go true f g = (λ h. (h, le→leb t b (omega (arith, f tt, leb→le t a h))), λ h. h.0)
    go false f g = (λ h. (le→leb t a (omega (arith, g tt, leb→le t b h)), h), λ h. h.1)
le_z-min t (pos a) (negsuc b) = (λ h. absurd h, λ h. h.1)
le_z-min t (negsuc a) (pos b) = (λ h. absurd h, λ h. h.0)
le_z-min t (negsuc a) (negsuc b) = go (leb b a)
  where
    go : (c : Bool) → T (le_z (pos t) (cond c (negsuc a) (negsuc b))) ↔ (⊥ × ⊥)
    go true = (λ h. absurd h, λ h. h.0)
    go false = (λ h. absurd h, λ h. h.0)

-- at most L, exactly if the starts from there on are in time
last_fits : (d : Day) (t k : ℕ) (B : List ℕ) → T (le_z (pos t) (last_start d B k)) ↔ T (fits d t k B)
last_fits d t k [] = (λ h. h, λ h. h)
last_fits d t k (m ∷ B) =
    let lag = d.service k + d.seconds k m in
    let next : ℕ = t + d.service k + d.seconds k m in
    let e : t + lag ≡ next = omega arith in
    let z = last_start d B m in
    let a = in_time d k t in (
      λ h. let u = (le_z-min t (last_moment d k) (z -ℤ pos lag)).0 h in
          and_i a (fits d next m B) u.0 ((last_fits d next m B).0 (subst (λ (n : ℕ). T (le_z (pos n) z)) e ((le_z-less t lag z).0 u.1))),
      λ h. (le_z-min t (last_moment d k) (z -ℤ pos lag)).1
          (and_l a (fits d next m B) h, (le_z-less t lag z).1 (subst (λ (n : ℕ). T (le_z (pos n) z)) (sym e) ((last_fits d next m B).1 (and_r a (fits d next m B) h)))),
    )

-- the window test: the start at x fits
pub window-fits : (v : Van) (d : Day) (rt : List ℕ) (o : Places) (x : ℕ) (A B : List ℕ) → T (window v d rt o x A B) ↔ T (fits d (start d A x) x B)
window-fits v d rt o x A [] = (λ h. h, λ h. h)
window-fits v d rt o x A (k ∷ B) =
    let t = start d A x in
    let next : ℕ = t + d.service x + d.seconds x k in
    let a = in_time d x t in (
      and_mono a (le_z (pos next) (last_start d B k)) a (fits d next k B) (λ h. h) (last_fits d next k B).0,
      and_mono a (fits d next k B) a (le_z (pos next) (last_start d B k)) (λ h. h) (last_fits d next k B).1,
    )

pub fits-sooner : (d : Day) (k : ℕ) (B : List ℕ) {t t' : ℕ} → t ≤ t' → T (fits d t' k B) → T (fits d t k B)
fits-sooner d k [] h f = in-time-sooner d k h f
fits-sooner d k (m ∷ B) {t} {t'} h f =
    let u = t' + d.service k + d.seconds k m in
    let v = t + d.service k + d.seconds k m in
    and_mono (in_time d k t') (fits d u m B) (in_time d k t) (fits d v m B) (in-time-sooner d k h) (fits-sooner d m B (omega arith)) f

-- a round in time fits from each of its stops
pub time-fits : (d : Day) (A : List ℕ) (x : ℕ) (B : List ℕ) → T (on_time d A (x ∷ B)) → T (fits d (start d A x) x B)
time-fits d A x [] h = and_l (in_time d x (start d A x)) true h
time-fits d A x (k ∷ B) h =
    let t = start d A x + d.service x + d.seconds x k in
    and_mono (in_time d x (start d A x)) (on_time d (x ∷ A) (k ∷ B)) (in_time d x (start d A x)) (fits d t k B) (λ u. u)
    (λ u. fits-sooner d k B (omega arith) (time-fits d (x ∷ A) k B u)) h

pub time-cut : (d : Day) {A B A' B' : List ℕ} → Cut A B A' B' → T (on_time d A B) → T (on_time d A' B')
time-cut d same h = h
time-cut d {A = A} (move {k = k} {B = B} c) h = time-cut d c (and_r (in_time d k (start d A k)) (on_time d (k ∷ A) B) h)
