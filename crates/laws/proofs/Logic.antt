-- Tests put together and taken apart. A test is a Bool; `T b` says that it passed, as `b ≡ true` does.
use mathlib.Core.Path.{◌≡◌, refl, sym, subst}
use Prim.Native.Nat.{ℕ, ◌+◌, ◌≤◌}
use native.Mathlib.Omega.{arith}
use mathlib.Core.Bool.{Bool, true, false, cond, not, ◌&&◌, ◌||◌}
use mathlib.Core.Logic.{◌⊎◌, inl, inr, ◌≢◌}
use lib.Dec.{T, T_not, eqb, eqb→eq, eqb_refl}

-- ---- from one form to the other, and both cases of a test

pub T→true : (b : Bool) → T b → b ≡ true
T→true true h = refl
T→true false h = absurd h

pub true→T : (b : Bool) → b ≡ true → T b
true→T b e = rw e tt

pub N→false : (b : Bool) → T (not b) → b ≡ false
N→false true h = absurd h
N→false false h = refl

pub false→N : (b : Bool) → b ≡ false → T (not b)
false→N b e = rw e tt

pub tf : (b : Bool) → T b ⊎ T (not b)
tf true = inl tt
tf false = inr tt

pub decided : {P : Type 0} (b : Bool) → (b ≡ true → P) → (b ≡ false → P) → P
decided true f g = f refl
decided false f g = g refl

-- what is said of a test, said in both cases
pub by-test : (P : Bool → Type 0) (b : Bool) → (T b → P true) → (T (not b) → P false) → P b
by-test P true f g = f tt
by-test P false f g = g tt

-- two tests that pass together are one
pub T-ext : (a b : Bool) → (T a → T b) → (T b → T a) → a ≡ b
T-ext true true f g = refl
T-ext true false f g = absurd (f tt)
T-ext false true f g = absurd (g tt)
T-ext false false f g = refl

-- ---- and

pub and_i : (a b : Bool) → T a → T b → T (a && b)
and_i true b p q = q
and_i false b p q = p

pub and_l : (a b : Bool) → T (a && b) → T a
and_l true b h = tt
and_l false b h = h

pub and_r : (a b : Bool) → T (a && b) → T b
and_r true b h = h
and_r false b h = absurd h

pub and_mono : (a b c d : Bool) → (T a → T c) → (T b → T d) → T (a && b) → T (c && d)
and_mono a b c d f g h = and_i c d (f (and_l a b h)) (g (and_r a b h))

pub and-true : (a b : Bool) → a && b ≡ true → (a ≡ true) × (b ≡ true)
and-true true b e = (refl, e)
and-true false b e = absurd (true→T false e)

-- ---- or

pub or_l : (a b : Bool) → T a → T (a || b)
or_l true b h = tt
or_l false b h = absurd h

pub or_r : (a b : Bool) → T b → T (a || b)
or_r true b h = tt
or_r false b h = h

pub or-e : (a b : Bool) → T (a || b) → T a ⊎ T b
or-e true b h = inl tt
or-e false b h = inr h

pub or_mono : (a b c d : Bool) → (T a → T c) → (T b → T d) → T (a || b) → T (c || d)
or_mono true b c d f g h = or_l c d (f tt)
or_mono false b c d f g h = or_r c d (g h)

-- ---- not

pub not-or-i : (a b : Bool) → T (not a) → T (not b) → T (not (a || b))
not-or-i true b f g = f
not-or-i false b f g = g

pub not-or-l : (a b : Bool) → T (not (a || b)) → T (not a)
not-or-l true b h = h
not-or-l false b h = tt

pub not-or-r : (a b : Bool) → T (not (a || b)) → T (not b)
not-or-r true b h = absurd h
not-or-r false b h = h

pub contra : (a b : Bool) → (T a → T b) → T (not b) → T (not a)
contra true b f g = T_not b g (f tt)
contra false b f g = tt

-- if a then b
pub imp-i : (a b : Bool) → (T a → T b) → T (not a || b)
imp-i true b f = f tt
imp-i false b f = tt

pub imp-e : (a b : Bool) → T (not a || b) → T a → T b
imp-e true b h t = h
imp-e false b h t = absurd t

-- if a and not b, or if a and b, then c
pub imp-or-i : (a b c : Bool) → (T a → T (not b) → T c) → T (not a || b || c)
imp-or-i true true c f = tt
imp-or-i true false c f = f tt tt
imp-or-i false b c f = tt

pub imp-or-e : (a b c : Bool) → T (not a || b || c) → T a → T (not b) → T c
imp-or-e true true c h t n = absurd n
imp-or-e true false c h t n = h
imp-or-e false b c h t n = absurd t

pub imp-imp-i : (a b c : Bool) → (T a → T b → T c) → T (not a || not b || c)
imp-imp-i true true c f = f tt tt
imp-imp-i true false c f = tt
imp-imp-i false b c f = tt

pub imp-imp-e : (a b c : Bool) → T (not a || not b || c) → T a → T b → T c
imp-imp-e true true c h t n = h
imp-imp-e true false c h t n = absurd n
imp-imp-e false b c h t n = absurd t

-- two numbers that a test tells apart
pub neqb : (m n : ℕ) → T (not (eqb m n)) → m ≢ n
neqb m n h e = absurd (subst (λ (k : ℕ). T (not (eqb m k)) → ⊥) e (λ t. T_not (eqb m m) t (eqb_refl m)) h)

pub eqb-turn : (m n : ℕ) → eqb m n ≡ eqb n m
eqb-turn m n = T-ext (eqb m n) (eqb n m) (λ t. subst (λ (k : ℕ). T (eqb k m)) (eqb→eq m n t) (eqb_refl m)) (λ t. subst (λ (k : ℕ). T (eqb k n)) (eqb→eq n m t) (eqb_refl n))

pub ne-sym : (m n : ℕ) → T (not (eqb m n)) → T (not (eqb n m))
ne-sym m n = subst (λ (b : Bool). T (not b)) (eqb-turn m n)

-- ---- a choice by a test

pub cond_yes : (c a b : Bool) → T c → T (cond c a b) → T a
cond_yes true a b h t = t
cond_yes false a b h t = absurd h

pub cond_no : (c a b : Bool) → T (not c) → T (cond c a b) → T b
cond_no true a b h t = absurd h
cond_no false a b h t = t

pub cond-yes-i : (c a b : Bool) → T c → T a → T (cond c a b)
cond-yes-i true a b h t = t
cond-yes-i false a b h t = absurd h

pub cond-no-i : (c a b : Bool) → T (not c) → T b → T (cond c a b)
cond-no-i true a b h t = absurd h
cond-no-i false a b h t = t

-- a number counted where a test passes: with the test it grows, and at a new pass by the whole number
pub cond-mono : (a b : Bool) (w : ℕ) → (T a → T b) → cond a w 0 ≤ cond b w 0
cond-mono true true w f = omega arith
cond-mono true false w f = absurd (f tt)
cond-mono false true w f = omega arith
cond-mono false false w f = omega arith

pub cond-new : (a b : Bool) (w : ℕ) → T (not a) → T b → cond a w 0 + w ≤ cond b w 0
cond-new true b w f g = absurd f
cond-new false true w f g = omega arith
cond-new false false w f g = absurd g

pub or-false : (a b : Bool) → a || b ≡ false → (a ≡ false) × (b ≡ false)
or-false true b e = absurd (true→T false (sym e))
or-false false b e = (refl, e)
