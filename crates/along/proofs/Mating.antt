-- The partner of a node on a sheet whose nodes have at most one transfer end each, and what comes aboard and goes off at a stop.
use mathlib.Core.Path.{◌≡◌, refl, sym, ap, ◌∙◌, subst}
use Prim.Native.Nat.{ℕ, zero, suc, ◌+◌, ◌<◌, ◌≤◌}
use mathlib.Core.Bool.{Bool, true, false, cond, ◌&&◌, and-true, and-false}
use mathlib.Core.List.{List, [], ◌∷◌}
use mathlib.Core.Logic.{⊎_elim, ◌≢◌}
use native.Mathlib.Nat.{eq-or-lt_of_le, le_of_suc-le-suc}
use native.Mathlib.Omega.{arith}
use lib.Dec.{eqb}
use borrow.Author.Tests.{eq-eqb, ne_eqb, eqb-true}
use Rattle.laws.proofs.Logic.{decided}
use Rattle.laws.specs.Basic.{mem, In, here, there, sum_below, tab}
use Rattle.rules.specs.Day.{Day}
use Rattle.rules.specs.Load.{aboard, sum, load}
use Rattle.rules.specs.Asked.{OneEnd}
use Rattle.rules.specs.declared.Job.{Job}
use Rattle.rules.specs.declared.Job.TheVariants.{Clean, Soiled, Transfer}
use Rattle.along.specs.Nodes.{clean_load, soiled_load, first_load, second_load, mate_or, mate_in}
use Rattle.along.proofs.LoadLaws.{sum-tab}

-- ---- partners

module _ (g : ℕ → Job) (m : ℕ) (js : List Job) (is : (k : ℕ) → k < m → In (g k) js) (one : OneEnd js) (apart : (a b w : ℕ) → In (Transfer a b w) js → a ≢ b) where
  first-keeps : (a b w y : ℕ) (j : Job) → In (Transfer a b w) js → In j js → y ≡ b → mate_or a y j ≡ b
  first-keeps a b w y (Clean c v) i k e = e
  first-keeps a b w y (Soiled c v) i k e = e
  first-keeps a b w y (Transfer c f v) i k e =
      decided (eqb a f) (λ q. absurd (one.apart a b c w v i (subst (λ (n : ℕ). In (Transfer c n v) js) (sym (eqb-true a f q)) k)))
      (λ q. rw q (decided (eqb a c) (λ r. rw r (sym (one.firsts a b f w v i (subst (λ (n : ℕ). In (Transfer n f v) js) (sym (eqb-true a c r)) k)).0)) (λ r. rw r e)))

  second-keeps : (a b w y : ℕ) (j : Job) → In (Transfer a b w) js → In j js → y ≡ a → mate_or b y j ≡ a
  second-keeps a b w y (Clean c v) i k e = e
  second-keeps a b w y (Soiled c v) i k e = e
  second-keeps a b w y (Transfer c f v) i k e =
      decided (eqb b f) (λ q. rw q (sym (one.seconds a c b w v i (subst (λ (n : ℕ). In (Transfer c n v) js) (sym (eqb-true b f q)) k)).0))
      (λ q. rw q (decided (eqb b c) (λ r. absurd (one.apart b f a v w (subst (λ (n : ℕ). In (Transfer n f v) js) (sym (eqb-true b c r)) k) i)) (λ r. rw r e)))

  pub first-mate : (n k a b w : ℕ) → k < n → n ≤ m → g k ≡ Transfer a b w → mate_in g n a ≡ b
  unfolding mate_in
  first-mate zero k a b w h l e = absurd (omega arith)
  first-mate (suc n) k a b w h l e =
      let i = subst (λ (j : Job). In j js) e (is k (omega arith)) in
      ⊎_elim (λ q. ap (mate_or a (mate_in g n a)) (ap g (sym q) ∙ e) ∙ rw (ne_eqb a b (apart a b w i), eq-eqb a a refl) refl)
      (λ q. first-keeps a b w (mate_in g n a) (g n) i (is n (omega arith)) (first-mate n k a b w q (omega arith) e)) (eq-or-lt_of_le (le_of_suc-le-suc h))

  pub second-mate : (n k a b w : ℕ) → k < n → n ≤ m → g k ≡ Transfer a b w → mate_in g n b ≡ a
  unfolding mate_in
  second-mate zero k a b w h l e = absurd (omega arith)
  second-mate (suc n) k a b w h l e =
      let i = subst (λ (j : Job). In j js) e (is k (omega arith)) in
      ⊎_elim (λ q. ap (mate_or b (mate_in g n b)) (ap g (sym q) ∙ e) ∙ rw (eq-eqb b b refl) refl)
      (λ q. second-keeps a b w (mate_in g n b) (g n) i (is n (omega arith)) (second-mate n k a b w q (omega arith) e)) (eq-or-lt_of_le (le_of_suc-le-suc h))

-- a job of the first n is one of them
pub in-at : {A : Type 0} (n k : ℕ) (g : ℕ → A) → k < n → In (g k) (tab n g)
unfolding tab
in-at zero k g h = absurd (omega arith)
in-at (suc n) zero g h = here
in-at (suc n) (suc k) g h = there (in-at n k (λ q. g (suc q)) (omega arith))

-- ---- what comes aboard and goes off at the stop x, with A behind it and B ahead

abbrev comes : ℕ → List ℕ → Job → ℕ
comes x B = elim [ Clean a w ↦ 0 | Soiled a w ↦ cond (eqb x a) w 0 | Transfer a b w ↦ cond (eqb x a && mem b B) w 0 ]

abbrev goes : ℕ → List ℕ → Job → ℕ
goes x A = elim [ Clean a w ↦ cond (eqb x a) w 0 | Soiled a w ↦ 0 | Transfer a b w ↦ cond (eqb x b && mem a A) w 0 ]

-- the ends of a transfer are two
abbrev pub Two : Job → Type 0
Two = elim [ Clean a w ↦ Unit {0} | Soiled a w ↦ Unit {0} | Transfer a b w ↦ (a ≡ b → ⊥) ]

module _ (x : ℕ) (A B : List ℕ) (na : mem x A ≡ false) (nb : mem x B ≡ false) where
  balance : (j : Job) → Two j → aboard (x ∷ A) B j + goes x A j ≡ aboard A (x ∷ B) j + comes x B j
  balance (Clean a w) t = decided (eqb x a) (λ e. rw (e, ← eqb-true x a e, nb) (omega arith)) (λ e. rw e (omega arith))
  balance (Soiled a w) t = decided (eqb x a) (λ e. rw (e, ← eqb-true x a e, na) (omega arith)) (λ e. rw e (omega arith))
  balance (Transfer a b w) t =
      decided (eqb x a)
      (λ e. rw (ne_eqb x b (λ z. t (sym (eqb-true x a e) ∙ z)), e, ← eqb-true x a e, na) (omega arith))
      (λ e. decided (eqb x b)
      (λ f. rw (e, f, ← eqb-true x b f, nb, and-false (mem a A), and-true (mem a A)) (omega arith))
      (λ f. rw (e, f) (omega arith)))

  front : (j : Job) → aboard [] (x ∷ B) j ≡ clean_load x j + aboard [] B j
  front (Clean a w) = decided (eqb x a) (λ e. rw (e, ← eqb-true x a e, nb) (omega arith)) (λ e. rw e (omega arith))
  front (Soiled a w) = omega arith
  front (Transfer a b w) = omega arith

pub nothing : (c : Bool) → ◌≡◌ {A = ℕ} (cond c 0 0) 0
nothing true = refl
nothing false = refl

module _ (x y : ℕ) where
  comes-is : (B : List ℕ) (j : Job) → ((a b w : ℕ) → j ≡ Transfer a b w → x ≡ a → y ≡ b) → comes x B j ≡ soiled_load x j + cond (mem y B) (first_load x j) 0
  comes-is B (Clean a w) f = omega (arith, nothing (mem y B))
  comes-is B (Soiled a w) f = omega (arith, nothing (mem y B))
  comes-is B (Transfer a b w) f =
      decided (eqb x a) (λ e. rw (e, f a b w refl (eqb-true x a e)) (omega arith)) (λ e. rw e (omega (arith, nothing (mem y B))))

  goes-is : (A : List ℕ) (j : Job) → ((a b w : ℕ) → j ≡ Transfer a b w → x ≡ b → y ≡ a) → goes x A j ≡ clean_load x j + cond (mem y A) (second_load x j) 0
  goes-is A (Clean a w) f = omega (arith, nothing (mem y A))
  goes-is A (Soiled a w) f = omega (arith, nothing (mem y A))
  goes-is A (Transfer a b w) f =
      decided (eqb x b) (λ e. rw (e, f a b w refl (eqb-true x b e)) (omega arith)) (λ e. rw e (omega (arith, nothing (mem y A))))

-- ---- summed

sum-even : (n : ℕ) (p q r s : ℕ → ℕ) → ((k : ℕ) → k < n → p k + q k ≡ r k + s k) → sum_below n p + sum_below n q ≡ sum_below n r + sum_below n s
unfolding sum_below
sum-even zero p q r s e = refl
sum-even (suc n) p q r s e = omega (arith, sum-even n p q r s (λ k h. e k (omega arith)), e n (omega arith))

sum-two : (n : ℕ) (p q r : ℕ → ℕ) (c : Bool) → ((k : ℕ) → k < n → p k ≡ q k + cond c (r k) 0) → sum_below n p ≡ sum_below n q + cond c (sum_below n r) 0
unfolding sum_below
sum-two zero p q r true e = refl
sum-two zero p q r false e = refl
sum-two (suc n) p q r true e = omega (arith, sum-two n p q r true (λ k h. e k (omega arith)), e n (omega arith))
sum-two (suc n) p q r false e = omega (arith, sum-two n p q r false (λ k h. e k (omega arith)), e n (omega arith))

module _ (d : Day) (g : ℕ → Job) (m : ℕ) (told : d.jobs ≡ tab m g) (x : ℕ) where
  load-sum : (A B : List ℕ) → load d A B ≡ sum_below m (λ k. aboard A B (g k))
  load-sum A B = ap (sum (aboard A B)) told ∙ sum-tab (aboard A B) m g

  -- one stop more ahead of the start
  pub load-front : (B : List ℕ) → mem x B ≡ false → load d [] (x ∷ B) ≡ sum_below m (λ k. clean_load x (g k)) + load d [] B
  load-front B nb =
      load-sum [] (x ∷ B) ∙ sum-two m (λ k. aboard [] (x ∷ B) (g k)) (λ k. clean_load x (g k)) (λ k. aboard [] B (g k)) true (λ k h. front x [] B refl nb (g k))
      ∙ ap (λ (n : ℕ). sum_below m (λ k. clean_load x (g k)) + n) (sym (load-sum [] B))

  -- past a stop whose partner is y
  pub load_past : (A B : List ℕ) (y : ℕ) → mem x A ≡ false → mem x B ≡ false
      → ((k a b w : ℕ) → k < m → g k ≡ Transfer a b w → (a ≡ b → ⊥) × (x ≡ a → y ≡ b) × (x ≡ b → y ≡ a))
      → load d (x ∷ A) B + (sum_below m (λ k. clean_load x (g k)) + cond (mem y A) (sum_below m (λ k. second_load x (g k))) 0)
      ≡ load d A (x ∷ B) + (sum_below m (λ k. soiled_load x (g k)) + cond (mem y B) (sum_below m (λ k. first_load x (g k))) 0)
  load_past A B y na nb mates =
      (λ u. load-sum (x ∷ A) B u + sym off u)
      ∙ sum-even m (λ k. aboard (x ∷ A) B (g k)) (λ k. goes x A (g k)) (λ k. aboard A (x ∷ B) (g k)) (λ k. comes x B (g k)) (λ k h. balance x A B na nb (g k) (two (g k) (λ a b w e. (mates k a b w h e).0)))
      ∙ (λ u. sym (load-sum A (x ∷ B)) u + on u)
    where
      two : (j : Job) → ((a b w : ℕ) → j ≡ Transfer a b w → a ≡ b → ⊥) → Two j
      two (Clean a w) f = tt
      two (Soiled a w) f = tt
      two (Transfer a b w) f = f a b w refl

      off : sum_below m (λ k. goes x A (g k)) ≡ sum_below m (λ k. clean_load x (g k)) + cond (mem y A) (sum_below m (λ k. second_load x (g k))) 0
      off = sum-two m (λ k. goes x A (g k)) (λ k. clean_load x (g k)) (λ k. second_load x (g k)) (mem y A) (λ k h. goes-is x y A (g k) (λ a b w e. (mates k a b w h e).2))

      on : sum_below m (λ k. comes x B (g k)) ≡ sum_below m (λ k. soiled_load x (g k)) + cond (mem y B) (sum_below m (λ k. first_load x (g k))) 0
      on = sum-two m (λ k. comes x B (g k)) (λ k. soiled_load x (g k)) (λ k. first_load x (g k)) (mem y B) (λ k h. comes-is x y B (g k) (λ a b w e. (mates k a b w h e).1))
