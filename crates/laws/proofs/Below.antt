-- A test of every number below one, and the laws of a loop that makes it.
use Prim.Native.Nat.{ℕ, zero, suc, ◌+◌, ◌<◌, ◌≤◌}
use mathlib.Core.Bool.{Bool, true, false, not, ◌&&◌, and-false, and-true, and_assoc}
use borrow.Author.Tests.{not-true, not-false}
use mathlib.Core.Path.{◌≡◌, refl, sym, ap, ◌∙◌, subst}
use mathlib.Core.Logic.{⊎_elim}
use native.Mathlib.Nat.{eq-or-lt_of_le, le_of_suc-le-suc, le_of_suc-le, le_step, le_refl, not-suc-le-zero, le_antisymm}
use native.Mathlib.Numerals.{add-one}
use native.Mathlib.Omega.{arith}
use Rattle.laws.proofs.Logic.{true→T, decided}
use Rattle.laws.specs.Basic.{all, all_below, tab}

pub below_none : (f : ℕ → Bool) → all_below 0 f ≡ true
unfolding all_below
below_none f = refl

pub below_next : (i : ℕ) (f : ℕ → Bool) → all_below i f ≡ true → f i ≡ true → all_below (i + 1) f ≡ true
unfolding all_below
below_next i f p q = rw (add-one, p) q

pub below_fails : (n i : ℕ) (f : ℕ → Bool) → i < n → f i ≡ false → all_below n f ≡ false
unfolding all_below
below_fails zero i f l q = absurd (not-suc-le-zero l)
below_fails (suc n) i f l q =
    ⊎_elim
    (λ e. ap (λ (b : Bool). all_below n f && b) (ap f (sym e) ∙ q) ∙ and-false (all_below n f))
    (λ k. rw (below_fails n i f k q) refl)
    (eq-or-lt_of_le (le_of_suc-le-suc l))

pub below_at : (n i : ℕ) (f : ℕ → Bool) → all_below n f ≡ true → i < n → f i ≡ true
below_at n i f p l = go (f i) refl
  where
    go : (b : Bool) → f i ≡ b → f i ≡ true
    go true e = e
    go false e = e ∙ sym (below_fails n i f l e) ∙ p

-- ---- a loop that tests f at 0, 1, .. below n and stops at the first that fails; b is the test's result at i
pub below-stops : (n i : ℕ) (f : ℕ → Bool) {b : Bool} → i < n → b ≡ f i → not b ≡ true → false ≡ all_below n f
below-stops n i f {b} l e t = sym (below_fails n i f l (sym e ∙ not-true b t))

pub below-goes : (i : ℕ) (f : ℕ → Bool) {b : Bool} → all_below i f ≡ true → b ≡ f i → not b ≡ false → all_below (i + 1) f ≡ true
below-goes i f {b} p e t = below_next i f p (sym e ∙ not-false b t)

pub below-done : (n i : ℕ) (f : ℕ → Bool) → i ≤ n → n ≤ i → all_below i f ≡ true → true ≡ all_below n f
below-done n i f p q r = sym (subst (λ (k : ℕ). all_below k f ≡ true) (le_antisymm p q) r)

-- ---- a loop that gathers the tests in a flag and stops nowhere
pub flag-goes : (i : ℕ) (f : ℕ → Bool) {a b : Bool} → all_below i f ≡ a → b ≡ f i → all_below (i + 1) f ≡ (a && b)
unfolding all_below
flag-goes i f p q = rw (add-one, p, q) refl

pub flag-done : (n i : ℕ) (f : ℕ → Bool) {a : Bool} → i ≤ n → n ≤ i → all_below i f ≡ a → a ≡ all_below n f
flag-done n i f {a} p q r = sym (subst (λ (k : ℕ). all_below k f ≡ a) (le_antisymm p q) r)

-- every number passes: all pass
pub below-make : (n : ℕ) (f : ℕ → Bool) → ((i : ℕ) → i < n → f i ≡ true) → all_below n f ≡ true
unfolding all_below
below-make zero f h = refl
below-make (suc n) f h = rw (below-make n f (λ i l. h i (le_step l))) (h n (le_refl (suc n)))

-- every number from n on passes: the others decide
pub below-ends : (j n : ℕ) (f : ℕ → Bool) → ((i : ℕ) → n ≤ i → f i ≡ true) → all_below (j + n) f ≡ all_below n f
unfolding all_below
below-ends zero n f h = let e : 0 + n ≡ n = omega arith in rw e refl
below-ends (suc j) n f h =
    let e : suc j + n ≡ suc (j + n) = omega arith in rw (e, h (j + n) (omega arith)) (and-true (all_below (j + n) f) ∙ below-ends j n f h)

-- not every number passes: one fails
pub below-find : (n : ℕ) (f : ℕ → Bool) → all_below n f ≡ false → (i : ℕ) × (i < n) × (f i ≡ false)
unfolding all_below
below-find zero f e = absurd (true→T false (sym e))
below-find (suc n) f e =
    decided (all_below n f)
    (λ h. (n, le_refl (suc n), rw h at e))
    (λ h. let r = below-find n f h in (r.0, le_step r.1, r.2))

-- ---- two tests, and a test that is asked from a number on

pub below-same : (n : ℕ) (f g : ℕ → Bool) → ((i : ℕ) → i < n → f i ≡ g i) → all_below n f ≡ all_below n g
unfolding all_below
below-same zero f g e = refl
below-same (suc n) f g e = λ u. below-same n f g (λ i h. e i (le_step h)) u && e n (le_refl (suc n)) u

-- u i asks f of every number from i to n: what is passed below k, and the rest
pub below_split : (n : ℕ) (f u : ℕ → Bool) → ((i : ℕ) → i < n → u i ≡ (f i && u (suc i))) → (k : ℕ) → k ≤ n → (all_below k f && u k) ≡ u 0
unfolding all_below
below_split n f u s zero h = refl
below_split n f u s (suc k) h =
    and_assoc (all_below k f) (f k) (u (suc k)) ∙ ap (λ (b : Bool). all_below k f && b) (sym (s k h)) ∙ below_split n f u s k (le_of_suc-le h)

pub below_all : (n : ℕ) (f u : ℕ → Bool) → ((i : ℕ) → i < n → u i ≡ (f i && u (suc i))) → u n ≡ true → u 0 ≡ all_below n f
below_all n f u s e = sym (below_split n f u s n (le_refl n)) ∙ ap (λ (b : Bool). all_below n f && b) e ∙ and-true (all_below n f)

-- k numbers, and m more
pub below-join : (k m : ℕ) (f : ℕ → Bool) → all_below (k + m) f ≡ (all_below k f && all_below m (λ v. f (k + v)))
unfolding all_below
below-join k zero f = let e : k + 0 ≡ k = omega arith in rw e (sym (and-true (all_below k f)))
below-join k (suc m) f =
    let e : k + suc m ≡ suc (k + m) = omega arith in
    rw e (ap (λ (b : Bool). b && f (k + m)) (below-join k m f) ∙ and_assoc (all_below k f) (all_below m (λ v. f (k + v))) (f (k + m)))

-- a test of two parts is the two tests
pub below_both : (n : ℕ) (f g h : ℕ → Bool) → ((i : ℕ) → h i ≡ (f i && g i)) → all_below n h ≡ (all_below n f && all_below n g)
unfolding all_below
below_both zero f g h e = refl
below_both (suc n) f g h e = rw (below_both n f g h e, e n) (cross (all_below n f) (all_below n g) (f n) (g n))
  where
    cross : (a b c d : Bool) → ((a && b) && (c && d)) ≡ ((a && c) && (b && d))
    cross true true c d = refl
    cross true false c d = sym (and-false c)
    cross false b c d = refl

-- ---- of the entries of a list, one after the other

below-front : (n : ℕ) (f : ℕ → Bool) → all_below (suc n) f ≡ (f 0 && all_below n (λ k. f (suc k)))
unfolding all_below
below-front zero f = sym (and-true (f 0))
below-front (suc n) f = ap (λ (b : Bool). b && f (suc n)) (below-front n f) ∙ and_assoc (f 0) (all_below n (λ k. f (suc k))) (f (suc n))

pub below-tab : {A : Type 0} (f : A → Bool) (n : ℕ) (g : ℕ → A) → all_below n (λ k. f (g k)) ≡ all f (tab n g)
unfolding tab all_below
below-tab f zero g = refl
below-tab f (suc n) g = below-front n (λ k. f (g k)) ∙ ap (λ (b : Bool). f (g 0) && b) (below-tab f n (λ k. g (suc k)))
