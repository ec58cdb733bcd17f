-- At most two rounds of settling strike. Every test but 'neither placed' reads the route only, so what it strikes it strikes in the first
-- round. 'Neither placed' strikes in the second what has lost its support; support goes both ways, so a place that is left then still
-- has its support, and the third round strikes nothing.
use mathlib.Core.Path.{subst, ◌≡◌}
use Prim.Native.Nat.{ℕ, zero, suc, ◌*◌, ◌≤◌}
use native.Mathlib.Omega.{arith}
use mathlib.Core.Bool.{Bool, true, false, not, ◌&&◌}
use mathlib.Core.List.{List, [], ◌∷◌}
use lib.Dec.{T, T_not}
use Rattle.laws.proofs.Logic.{and_l, and_r}
use Rattle.laws.proofs.Lists.{Each, end, also, each_in, any_none}
use Rattle.laws.specs.Basic.{hd, any, In}
use Rattle.rules.specs.Load.{reach_ahead}
use Rattle.rules.specs.Day.{Day, inner}
use Rattle.rules.specs.declared.Van.{Van}
use Rattle.rules.specs.Plan.{Places}
use Rattle.rules.specs.Rounds.{Distinct}
use Rattle.rules.specs.Tests.{Test, tests, window, neither_placed, stays}
use Rattle.rules.specs.Settle.{round, strikes, rounds_in, rounds}
use Rattle.rules.specs.Asked.{OneEnd}
use Rattle.rules.specs.declared.Job.TheVariants.{Transfer}
use Rattle.rules.proofs.Cuts.{Cut, cut-trans, cut-nil}
use Rattle.rules.proofs.Transfers.{Supports, supports-e, supports-i}
use Rattle.rules.proofs.Entries.{stays-e, stays-i, neither_placed-in}
use Rattle.rules.proofs.Left.{◌⊆◌, round-less, round-found, round-stays, round-i}
use Rattle.rules.proofs.Ways.{Way, way-cut, way-reach, way-from, reach-way, back-way, way-source}

-- ---- what two rounds ask of each test

-- the test does not look at the places
abbrev pub Steady : Test → Type 0
Steady t = (v : Van) (d : Day) (rt : List ℕ) (o o' : Places) (x : ℕ) (A B : List ℕ) → T (t v d rt o x A B) → T (t v d rt o' x A B)

-- a test of the list is steady, or it is the one that looks for the partner's place
pub data Rests : Test → Type 0 where
  steady : {t : Test} → Steady t → Rests t
  paired : Rests neither_placed

window-steady : Steady window
window-steady v d rt o o' x A [] h = h
window-steady v d rt o o' x A (k ∷ B) h = h

pub each-rests : Each Rests tests
each-rests =
    also (steady window-steady)
    (also (steady (λ v d rt o o' x A B h. h))
    (also (steady (λ v d rt o o' x A B h. h))
    (also (steady (λ v d rt o o' x A B h. h))
    (also (steady (λ v d rt o o' x A B h. h))
    (also paired
    (also (steady (λ v d rt o o' x A B h. h)) end))))))

-- what stays with the places o stays with the places o', if 'neither placed' does not strike it
pub restays : (v : Van) (d : Day) (rt : List ℕ) (o o' : Places) (x : ℕ) (A B : List ℕ)
    → T (stays v d rt o x A B) → T (neither_placed v d rt o' x A B) → T (stays v d rt o' x A B)
restays v d rt o o' x A B h n = stays-i v d rt o' x A B (λ t i. test t (each_in i each-rests) (stays-e v d rt o x A B h t i))
  where
    test : (t : Test) → Rests t → T (t v d rt o x A B) → T (t v d rt o' x A B)
    test _ (steady s) = s v d rt o o' x A B
    test _ paired = λ u. n

-- ---- the third round

module _ (v : Van) (d : Day) (one : OneEnd d.jobs) (z : ℕ) (r : List ℕ) (g : Distinct d.n (z ∷ r)) (o : Places) where
  abbrev o₁ : Places
  o₁ = round v d (z ∷ r) o

  abbrev o₂ : Places
  o₂ = round v d (z ∷ r) (round v d (z ∷ r) o)

  -- a's place supports b's: the second round leaves b's
  second-left : {a b w p k k' : ℕ} {A B A' B' : List ℕ} → In (Transfer a b w) d.jobs → Way v d w (p ∷ A) (k ∷ B) A' (k' ∷ B')
      → Cut (z ∷ []) r (p ∷ A) (k ∷ B) → T (o₁ a p) → T (o₁ b (hd A')) → T (o₂ b (hd A'))
  second-left {a} {b} {w} {p} {k} {k'} {A} {B} {A'} {B'} i way c ha hb =
      round-i v d z r o₁ b g c' hb (restays v d (z ∷ r) o o₁ b A' (k' ∷ B') (round-stays v d z r o b g c' hb) (supports-i v d (z ∷ r) o₁ b A' (k' ∷ B') (record {
        first = λ b' w' j. absurd (one.apart b b' a w' w j i);
        second = λ a' w' j n. let q = one.seconds a a' b w w' i j in rw (← q.0, ← q.1) (way-from v d (λ p k. o₁ a p) w way ha);
      })))
    where
      c' : Cut (z ∷ []) r A' (k' ∷ B')
      c' = cut-trans c (way-cut way)

  -- and b's supports a's
  first-left : {a b w p k k' : ℕ} {A B A' B' : List ℕ} → In (Transfer a b w) d.jobs → Way v d w (p ∷ A) (k ∷ B) A' (k' ∷ B')
      → Cut (z ∷ []) r (p ∷ A) (k ∷ B) → T (o₁ b (hd A')) → T (o₁ a p) → T (o₂ a p)
  first-left {a} {b} {w} {p} {k} {k'} {A} {B} {A'} {B'} i way c hb ha =
      round-i v d z r o₁ a g c ha (restays v d (z ∷ r) o o₁ a (p ∷ A) (k ∷ B) (round-stays v d z r o a g c ha) (supports-i v d (z ∷ r) o₁ a (p ∷ A) (k ∷ B) (record {
        first = λ b' w' j n. let q = one.firsts a b b' w w' i j in
            subst (λ (c : ℕ). T (reach_ahead v d (λ p k. o₁ c p) w' (p ∷ A) (k ∷ B))) q.0
            (subst (λ (c : ℕ). T (reach_ahead v d (λ p k. o₁ b p) c (p ∷ A) (k ∷ B))) q.1 (way-reach v d (λ p k. o₁ b p) w way hb));
        second = λ a' w' j. absurd (one.apart a b a' w w' i j);
      })))

  -- what the second round leaves stays
  stays-third : (x : ℕ) {p k : ℕ} {A B : List ℕ} → Cut (z ∷ []) r (p ∷ A) (k ∷ B) → T (o₁ x p) → T (stays v d (z ∷ r) o₁ x (p ∷ A) (k ∷ B))
      → T (stays v d (z ∷ r) o₂ x (p ∷ A) (k ∷ B))
  stays-third x {p} {k} {A} {B} c hx st = restays v d (z ∷ r) o₁ o₂ x (p ∷ A) (k ∷ B) st (supports-i v d (z ∷ r) o₂ x (p ∷ A) (k ∷ B) (record {
    first = λ b w i n. let u = reach-way v d (λ p k. o₁ b p) w (p ∷ A) (k ∷ B) (s.first b w i n) in
        way-reach v d (λ p k. o₂ b p) w u.way (second-left i u.way c hx u.holds);
    second = λ a w i n. let u = back-way v d (λ p k. o₁ a p) w (p ∷ A) k B (s.second a w i n) in
        way-from v d (λ p k. o₂ a p) w u.way (first-left i u.way (way-source u.way c) hx u.holds);
  }))
    where
      s : Supports v d (z ∷ r) o₁ x (p ∷ A) (k ∷ B)
      s = supports-e v d (z ∷ r) o₁ x (p ∷ A) (k ∷ B) (stays-e v d (z ∷ r) o₁ x (p ∷ A) (k ∷ B) st neither_placed neither_placed-in)

  third-from : (x p : ℕ) → T (o₂ x p) → T (round v d (z ∷ r) o₂ x p)
  third-from x p h = let f = round-found v d z r o₁ x p h in go f.A' f.cut f.name f.holds
    where
      go : {k : ℕ} {B : List ℕ} (A : List ℕ) → Cut (z ∷ []) r A (k ∷ B) → hd A ≡ p → T (stays v d (z ∷ r) o₁ x A (k ∷ B)) → T (round v d (z ∷ r) o₂ x p)
      go [] c e t = absurd (cut-nil c)
      go (q ∷ A) c e t =
          let h' : T (o₂ x q) = rw e h in
          rw (← e) (round-i v d z r o₂ x g c h' (stays-third x c (round-less v d (z ∷ r) o₁ x q h') t))

-- the third round strikes nothing
pub third : (v : Van) (d : Day) → OneEnd d.jobs → (rt : List ℕ) → Distinct d.n rt → (o : Places)
    → round v d rt (round v d rt o) ⊆ round v d rt (round v d rt (round v d rt o))
unfolding round
third v d one [] g o x p h = absurd (and_r (round v d [] o x p) false h)
third v d one (z ∷ r) g o x p h = third-from v d one z r g o x p h

-- ---- the count of striking rounds

-- a round that leaves every place strikes nothing
pub calm : (v : Van) (d : Day) (rt : List ℕ) (o : Places) → o ⊆ round v d rt o → T (strikes v d rt o) → ⊥
unfolding strikes
calm v d rt o h = any_none (λ x. any (gone x) rt) (inner d) (λ x. any_none (gone x) rt
    (λ p t. T_not (round v d rt o x p) (and_r (o x p) (not (round v d rt o x p)) t) (h x p (and_l (o x p) (not (round v d rt o x p)) t))))
  where
    gone : ℕ → ℕ → Bool
    gone x p = o x p && not (round v d rt o x p)

module _ (v : Van) (d : Day) (rt : List ℕ) where
  rounds_in-next : (f : ℕ) (o : Places) → rounds_in (suc f) v d rt o ≤ suc (rounds_in f v d rt (round v d rt o))
  unfolding rounds_in
  rounds_in-next f o = go (strikes v d rt o)
    where
      go : (b : Bool) → (elim b as (λ x. ℕ) [ true ↦ suc (rounds_in f v d rt (round v d rt o)) | false ↦ 0 ]) ≤ suc (rounds_in f v d rt (round v d rt o))
      go true = omega arith
      go false = omega arith

  rounds_in-calm : (f : ℕ) (o : Places) → (T (strikes v d rt o) → ⊥) → rounds_in f v d rt o ≤ 0
  unfolding rounds_in
  rounds_in-calm zero o h = omega arith
  rounds_in-calm (suc f) o h = go (strikes v d rt o) h
    where
      go : (b : Bool) → (T b → ⊥) → (elim b as (λ x. ℕ) [ true ↦ suc (rounds_in f v d rt (round v d rt o)) | false ↦ 0 ]) ≤ 0
      go true g = absurd (g tt)
      go false g = omega arith

  rounds_in-two : OneEnd d.jobs → Distinct d.n rt → (f : ℕ) (o : Places) → rounds_in f v d rt o ≤ 2
  unfolding rounds_in
  rounds_in-two one g zero o = omega arith
  rounds_in-two one g (suc zero) o = omega (arith, rounds_in-next 0 o)
  rounds_in-two one g (suc (suc f)) o = omega (
    arith,
    rounds_in-next (suc f) o,
    rounds_in-next f (round v d rt o),
    rounds_in-calm f (round v d rt (round v d rt o)) (calm v d rt (round v d rt (round v d rt o)) (third v d one rt g o)),
  )

-- 01: the number of rounds that strike something is never above 2
pub at_most_two : (v : Van) (d : Day) → OneEnd d.jobs → (rt : List ℕ) → Distinct d.n rt → (o : Places) → rounds v d rt o ≤ 2
at_most_two v d one rt g o = rounds_in-two v d rt one g (d.n * d.n) o
