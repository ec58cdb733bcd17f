-- A test that some number below one passes: how it comes about, and what it gives.
use Prim.Native.Nat.{ℕ, zero, suc, ◌<◌}
use mathlib.Core.Bool.{Bool, ◌||◌}
use mathlib.Core.Path.{◌≡◌, refl, subst}
use mathlib.Core.Logic.{⊎_elim}
use native.Mathlib.Nat.{eq-or-lt_of_le, le_of_suc-le-suc, le_step, le_refl, not-suc-le-zero}
use lib.Dec.{T}
use Rattle.laws.proofs.Logic.{or_l, or_r, or-e}
use Rattle.laws.specs.Basic.{any_below}

-- one number passes: some does
pub any-below-i : (n i : ℕ) (f : ℕ → Bool) → i < n → T (f i) → T (any_below n f)
unfolding any_below
any-below-i zero i f l h = absurd (not-suc-le-zero l)
any-below-i (suc n) i f l h =
    ⊎_elim
    (λ e. or_r (any_below n f) (f n) (subst (λ (k : ℕ). T (f k)) e h))
    (λ k. or_l (any_below n f) (f n) (any-below-i n i f k h))
    (eq-or-lt_of_le (le_of_suc-le-suc l))

-- what follows from each number that passes f follows where some does
pub any-below-e : {P : Type 0} (n : ℕ) (f : ℕ → Bool) → ((i : ℕ) → i < n → T (f i) → P) → T (any_below n f) → P
unfolding any_below
any-below-e zero f g h = absurd h
any-below-e (suc n) f g h = ⊎_elim (any-below-e n f (λ i l. g i (le_step l))) (g n (le_refl (suc n))) (or-e (any_below n f) (f n) h)

pub any-below-mono : (n : ℕ) (f g : ℕ → Bool) → ((i : ℕ) → i < n → T (f i) → T (g i)) → T (any_below n f) → T (any_below n g)
any-below-mono n f g h = any-below-e n f (λ i l t. any-below-i n i g l (h i l t))

pub any-below-same : (n : ℕ) (f g : ℕ → Bool) → ((i : ℕ) → i < n → f i ≡ g i) → any_below n f ≡ any_below n g
unfolding any_below
any-below-same zero f g e = refl
any-below-same (suc n) f g e = λ u. any-below-same n f g (λ i h. e i (le_step h)) u || e n (le_refl (suc n)) u
