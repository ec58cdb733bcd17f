-- From the tests that compute to what the theorems ask of a day and a plan; and 01's own sheet, which passes them all.
use mathlib.Core.Path.{◌≡◌, refl, subst, sym}
use Prim.Native.Nat.{ℕ, zero, suc, ◌+◌, ◌-◌, ◌<◌}
use native.Mathlib.Omega.{arith}
use mathlib.Core.Bool.{true, false, not, ◌&&◌, ◌||◌}
use mathlib.Core.List.{List, [], ◌∷◌}
use mathlib.Core.Logic.{◌⊎◌, inl, inr, ⊎_elim, ◌≢◌}
use lib.Dec.{T, ltb, eqb, eqb→eq, eqb_refl, ltb→lt}
use borrow.Author.Tests.{leb-true, ne_eqb}
use lib.ListN.{length, get_or}
use Rattle.laws.proofs.Logic.{T→true, true→T, and_l, and_r, or-e, imp-e, neqb}
use Rattle.laws.proofs.Below.{below_at}
use Rattle.laws.specs.Basic.{all_below, mem, hd, all, In}
use Rattle.laws.proofs.Lists.{mem-in, all_in}
use Rattle.laws.proofs.Once.{in-none, in-cons}
use Rattle.rules.specs.Day.{Day, inner, shortest_at, shortest_line, shortest_row, triangle}
use Rattle.rules.specs.Leg.{leg_stops}
use Rattle.rules.specs.Plan.{Plan, fresh}
use Rattle.rules.specs.Rounds.{Distinct, none, more}
use Rattle.rules.specs.Asked.{Shortest, Triangle, OneEnd, Proper, Formed, ends_with, triangle_test, no_clash, one_end_test, proper_job, proper_test, distinct_test, place_test, formed_test}
use Rattle.rules.proofs.Examples.{day, any}
use Rattle.rules.specs.declared.Job.{Job}
use Rattle.rules.specs.declared.Job.TheVariants.{Transfer}

-- ---- the triangle rule

pub shortest-of : (n : ℕ) (t : ℕ → ℕ → ℕ) → triangle n t ≡ true → Shortest n t
unfolding triangle shortest_row shortest_line
shortest-of n t e i j k a b c ij jk ik =
    let p : shortest_at t i j k ≡ true = below_at n k (shortest_at t i j) (below_at n j (shortest_line n t i) (below_at n i (shortest_row n t) e a) b) c in
    leb-true (t i k) (t i j + t j k) (rw (ne_eqb i j ij, ne_eqb j k jk, ne_eqb i k ik) at p)

pub triangle-of : (d : Day) → T (triangle_test d) → Triangle d
triangle-of d h = record {
  seconds = shortest-of d.n d.seconds (T→true _ (and_l (triangle d.n d.seconds) (triangle d.n d.metres) h));
  metres = shortest-of d.n d.metres (T→true _ (and_r (triangle d.n d.seconds) (triangle d.n d.metres) h));
}

-- ---- the jobs

pub proper-of : (d : Day) → T (proper_test d) → Proper d
proper-of d h = record { ends = λ a b w i. ends a b (all_in (proper_job d) h i) }
  where
    ends : (a b : ℕ) → T (mem a (inner d) && mem b (inner d) && not (eqb a b)) → In a (inner d) × In b (inner d) × (a ≢ b)
    ends a b t =
        let ma : T (mem a (inner d)) = search (and_l, and_r) in
        let mb : T (mem b (inner d)) = search (and_l, and_r) in
        let n : T (not (eqb a b)) = search (and_l, and_r) in
        (mem-in a (inner d) ma, mem-in b (inner d) mb, neqb a b n)

-- two transfers of the list are one, or share no node
abbrev Alike : ℕ → ℕ → ℕ → ℕ → ℕ → ℕ → Type 0
Alike a b w c e u = ((a ≡ c) × (b ≡ e) × (w ≡ u)) ⊎ ((a ≢ c) × (a ≢ e) × (b ≢ c) × (b ≢ e))

no-clash : (a b w c e u : ℕ) → T (no_clash (Transfer a b w) (Transfer c e u)) → (a ≢ c) × (a ≢ e) × (b ≢ c) × (b ≢ e)
no-clash a b w c e u t =
    let q₁ : T (not (eqb a c)) = search (and_l, and_r) in
    let q₂ : T (not (eqb a e)) = search (and_l, and_r) in
    let q₃ : T (not (eqb b c)) = search (and_l, and_r) in
    let q₄ : T (not (eqb b e)) = search (and_l, and_r) in
    (neqb a c q₁, neqb a e q₂, neqb b c q₃, neqb b e q₄)

alike : (js : List Job) (a b w c e u : ℕ) → T (one_end_test js) → In (Transfer a b w) js → In (Transfer c e u) js → Alike a b w c e u
alike [] a b w c e u h i j = absurd (in-none i)
alike (x ∷ js) a b w c e u h i j = go (in-cons i) (in-cons j) (alike js a b w c e u (and_r (all (no_clash x) js) (one_end_test js) h))
  where
    clear : {k : Job} → In k js → T (no_clash x k)
    clear k = all_in (no_clash x) (and_l (all (no_clash x) js) (one_end_test js) h) k

    go : (Transfer a b w ≡ x) ⊎ In (Transfer a b w) js → (Transfer c e u ≡ x) ⊎ In (Transfer c e u) js
        → (In (Transfer a b w) js → In (Transfer c e u) js → Alike a b w c e u) → Alike a b w c e u
    go (inl p) (inl q) f = inl (cc, cc, cc)
    go (inl p) (inr j') f = inr (no-clash a b w c e u (subst (λ (k : Job). T (no_clash k (Transfer c e u))) (sym p) (clear j')))
    go (inr i') (inl q) f =
        let n = no-clash c e u a b w (subst (λ (k : Job). T (no_clash k (Transfer a b w))) (sym q) (clear i')) in
        inr (λ k. n.0 (sym k), λ k. n.2 (sym k), λ k. n.1 (sym k), λ k. n.3 (sym k))
    go (inr i') (inr j') f = f i' j'

pub one-end-of : (d : Day) → T (one_end_test d.jobs) → Proper d → OneEnd d.jobs
one-end-of d h p = record {
  firsts = λ a b b' w w' i j. ⊎_elim (λ u. (u.1, u.2)) (λ u. absurd (u.0 refl)) (alike d.jobs a b w a b' w' h i j);
  seconds = λ a a' b w w' i j. ⊎_elim (λ u. (u.0, u.2)) (λ u. absurd (u.3 refl)) (alike d.jobs a b w a' b w' h i j);
  apart = λ a b c w w' i j. ⊎_elim (λ u. (p.ends a b w i).2 (sym u.1)) (λ u. u.1 refl) (alike d.jobs a b w c a w' h i j);
}

-- ---- distinct nodes, and the form

pub distinct_of : (n : ℕ) (l : List ℕ) → T (distinct_test n l) → Distinct n l
distinct_of n [] h = none
distinct_of n (x ∷ l) h =
    let low : T (ltb x n) = search (and_l, and_r) in
    let off : T (not (mem x l)) = search (and_l, and_r) in
    more (ltb→lt x n low) off (distinct_of n l (and_r (ltb x n && not (mem x l)) (distinct_test n l) h))

-- the entry of the last index is the last
pub ends_at : (e i : ℕ) (l : List ℕ) → suc i ≡ length l → get_or l i 0 ≡ e → T (ends_with e l)
ends_at e i [] h g = absurd (omega arith)
ends_at e zero (x ∷ []) h g = subst (λ (k : ℕ). T (eqb x k)) g (eqb_refl x)
ends_at e (suc i) (x ∷ []) h g = absurd (omega arith)
ends_at e zero (x ∷ y ∷ l) h g = absurd (omega arith)
ends_at e (suc i) (x ∷ y ∷ l) h g = ends_at e i (y ∷ l) (omega arith) g

-- what follows the first entry
record Tail (z : ℕ) (l : List ℕ) : Type 0 where
  tail : List ℕ
  is : l ≡ z ∷ tail

starts-at : (e z : ℕ) (l : List ℕ) → T (eqb (hd l) z) → T (ends_with e l) → Tail z l
starts-at e z [] h g = absurd g
starts-at e z (x ∷ l) h g = record { tail = l; is = subst (λ (k : ℕ). x ∷ l ≡ k ∷ l) (eqb→eq x z h) refl }

-- a plan with no place or mark outside the day, and in form as far as the test looks
pub formed-of : (d : Day) (a : Plan) → ((y q : ℕ) → T (a.places y q) → (y < d.n) × (q < d.n)) → ((y : ℕ) → T (a.marks y) → y < d.n) → T (formed_test d a) → Formed d a
formed-of d a low few h = record {
  tail = first.tail;
  starts = first.is;
  ends = ends;
  nodes = distinct_of d.n a.route nodes;
  inside = λ y q t. mem-in y (inner d) (let u = place y q t in search (and_l, and_r));
  off = λ y q t. let u = place y q t in search (and_l, and_r);
  leg = λ y q t. let u = place y q t in search (and_l, and_r);
  marked = λ y t. mem-in y (inner d) (imp-e (a.marks y) (mem y (inner d)) (true→T _ (below_at d.n y (λ y. not (a.marks y) || mem y (inner d)) (T→true _ marks) (few y t))) t);
}
  where
    starts : T (eqb (hd a.route) 0)
    starts = search (and_l, and_r)

    ends : T (ends_with (d.n - 1) a.route)
    ends = search (and_l, and_r)

    nodes : T (distinct_test d.n a.route)
    nodes = search (and_l, and_r)

    places : T (all_below d.n (λ y. all_below d.n (place_test d a y)))
    places = search (and_l, and_r)

    marks : T (all_below d.n (λ y. not (a.marks y) || mem y (inner d)))
    marks = search (and_l, and_r)

    first : Tail 0 a.route
    first = starts-at (d.n - 1) 0 a.route starts ends

    place : (y q : ℕ) → T (a.places y q) → T (mem y (inner d) && not (mem y a.route) && mem q (leg_stops a.route))
    place y q t =
        let row = below_at d.n y (λ y. all_below d.n (place_test d a y)) (T→true _ places) (low y q t).0 in
        imp-e (a.places y q) (mem y (inner d) && not (mem y a.route) && mem q (leg_stops a.route)) (true→T _ (below_at d.n q (place_test d a y) row (low y q t).1)) t

-- ---- none of it is empty: 01's own sheet, and its fresh plan

pub day-triangle : Triangle day
unfolding all_below triangle shortest_row shortest_line
day-triangle = triangle-of day tt

pub day-proper : Proper day
day-proper = proper-of day tt

pub day-one-end : OneEnd day.jobs
day-one-end = one-end-of day tt day-proper

pub day-formed : Formed day (fresh day any)
unfolding all_below
day-formed = formed-of day (fresh day any) low (λ y t. absurd t) tt
  where
    low : (y q : ℕ) → T (mem y (inner day) && any y && eqb q 0) → (y < 4) × (q < 4)
    low y q t =
        let y≡ : (2 ≡ y) ⊎ (1 ≡ y) = node (and_l (mem y (inner day)) (any y) (and_l (mem y (inner day) && any y) (eqb q 0) t)) in
        let q≡ : q ≡ 0 = eqb→eq q 0 (and_r (mem y (inner day) && any y) (eqb q 0) t) in
        (⊎_elim (λ e. omega (arith, e)) (λ e. omega (arith, e)) y≡, omega (arith, q≡))
      where
        node : T (mem y (inner day)) → (2 ≡ y) ⊎ (1 ≡ y)
        node m = ⊎_elim (λ e. inl (eqb→eq 2 y e)) (λ k. ⊎_elim (λ e. inr (eqb→eq 1 y e)) (λ f. absurd f) (or-e (eqb 1 y) false k)) (or-e (eqb 2 y) (eqb 1 y || false) m)
