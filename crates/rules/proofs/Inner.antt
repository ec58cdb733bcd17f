-- The inner nodes are those from 1 to n − 2.
use Prim.Native.Nat.{ℕ, zero, suc, ◌+◌, ◌-◌, ◌≤◌, ◌<◌}
use native.Mathlib.Omega.{arith}
use mathlib.Core.Logic.{⊎_elim}
use mathlib.Core.Path.{◌≡◌}
use mathlib.Core.Bool.{true, false, and-false}
use lib.Dec.{T, eqb, eqb→eq, leb, ltb}
use borrow.Author.Tests.{leb-true, ltb-true, le-leb, lt-ltb, le-ltb}
use Rattle.laws.proofs.Logic.{T→true, true→T, T-ext, tf, or_l, or_r, or-e, neqb, and-true}
use Rattle.laws.proofs.Lists.{in_mem, mem-in}
use Rattle.laws.specs.Basic.{mem, In}
use Rattle.rules.specs.Day.{Day, down_from, inner, is_inner}

pub down_mem : (m y : ℕ) → T (mem y (down_from m)) → (1 ≤ y) × (y ≤ m)
down_mem zero y h = absurd h
down_mem (suc m) y h =
    ⊎_elim (λ e. let q = eqb→eq (suc m) y e in (omega (arith, q), omega (arith, q))) (λ k. let q = down_mem m y k in (q.0, omega (arith, q)))
    (or-e (eqb (suc m) y) (mem y (down_from m)) h)

pub mem-down : (m y : ℕ) → 1 ≤ y → y ≤ m → T (mem y (down_from m))
mem-down zero y a b = absurd (omega arith)
mem-down (suc m) y a b =
    ⊎_elim (or_l (eqb (suc m) y) (mem y (down_from m))) (λ n. let q = neqb (suc m) y n in or_r (eqb (suc m) y) (mem y (down_from m)) (mem-down m y a (omega arith)))
    (tf (eqb (suc m) y))

-- an inner node is neither end
pub inner-low : (d : Day) {y : ℕ} → In y (inner d) → (1 ≤ y) × (suc y < d.n)
inner-low d {y} i = let u = down_mem (d.n - 2) y (in_mem i) in (u.0, omega (arith, u))

-- what the test says, and that it finds just the inner nodes
pub is-inner : (n x : ℕ) → is_inner n x ≡ true → (1 ≤ x) × (x + 1 < n)
unfolding is_inner
is-inner n x e = let p = and-true (leb 1 x) (ltb (x + 1) n) e in (leb-true 1 x p.0, ltb-true (x + 1) n p.1)

pub inner-is : (n x : ℕ) → 1 ≤ x → x + 1 < n → is_inner n x ≡ true
unfolding is_inner
inner-is n x h l = rw (le-leb 1 x h, lt-ltb (x + 1) n l)

pub inner-not : (n x : ℕ) → n - 1 ≤ x → is_inner n x ≡ false
unfolding is_inner
inner-not n x h = rw (le-ltb (x + 1) n (omega arith)) (and-false (leb 1 x))

pub is-inner-in : (n x : ℕ) → is_inner n x ≡ true → In x (down_from (n - 2))
is-inner-in n x e = let p = is-inner n x e in mem-in x (down_from (n - 2)) (mem-down (n - 2) x p.0 (omega (arith, p.1)))

pub inner-mem : (n x : ℕ) → is_inner n x ≡ mem x (down_from (n - 2))
inner-mem n x = T-ext (is_inner n x) (mem x (down_from (n - 2)))
    (λ t. in_mem (is-inner-in n x (T→true (is_inner n x) t)))
    (λ t. let p = down_mem (n - 2) x t in true→T (is_inner n x) (inner-is n x p.0 (omega (arith, p))))
