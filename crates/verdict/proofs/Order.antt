-- Which transfers are in wrong order, by where their nodes stand, and who is on the route.
use mathlib.Core.Path.{◌≡◌, subst}
use Prim.Native.Nat.{ℕ, zero, suc, ◌<◌}
use mathlib.Core.Bool.{false, not, ◌&&◌}
use mathlib.Core.List.{List, [], ◌∷◌}
use mathlib.Core.Logic.{⊎_elim}
use native.Mathlib.Omega.{arith}
use lib.Dec.{T, eqb, eqb→eq}
use borrow.Author.Tests.{eq-eqb}
use lib.ListN.{get_or, length}
use Rattle.laws.proofs.Logic.{and_r, cond_yes, cond_no, tf}
use Rattle.laws.specs.Basic.{mem}
use Rattle.rules.specs.Rounds.{Distinct, none, more}
use Rattle.rules.specs.Verdict.{wrong}
use Rattle.rules.proofs.AlongLaws.{mem-at, stops-apart}
use Rattle.along.proofs.SpotLaws.{mem-found}

-- b at the i-th stop, a at the j-th behind it
pub record Before (a b : ℕ) (l : List ℕ) : Type 0 where
  pub i : ℕ
  pub j : ℕ
  pub less : i < j
  pub in-it : j < length l
  pub second : get_or l i 0 ≡ b
  pub first : get_or l j 0 ≡ a

pub wrong-e : (a b : ℕ) (l : List ℕ) → T (wrong a b l) → Before a b l
wrong-e a b [] t = absurd t
wrong-e a b (x ∷ l) t =
    ⊎_elim here (λ n. later (wrong-e a b l (and_r (not (eqb x a)) (wrong a b l) (cond_no (eqb x b) (mem a l) (not (eqb x a) && wrong a b l) n t))))
    (tf (eqb x b))
  where
    here : T (eqb x b) → Before a b (x ∷ l)
    here e = let f = mem-found a l (cond_yes (eqb x b) (mem a l) (not (eqb x a) && wrong a b l) e t) in
        record { i = 0; j = suc f.i; less = omega arith; in-it = omega (arith, f.high); second = eqb→eq x b e; first = f.is }

    later : Before a b l → Before a b (x ∷ l)
    later w = record { i = suc w.i; j = suc w.j; less = omega (arith, w.less); in-it = omega (arith, w.in-it); second = w.second; first = w.first }

-- b before a: found so, at the stops i < j
pub wrong-i : {n : ℕ} (a b : ℕ) {l : List ℕ} → Distinct n l → (i j : ℕ) → i < j → j < length l → get_or l i 0 ≡ b → get_or l j 0 ≡ a → T (wrong a b l)
wrong-i a b none i j h k e f = absurd (omega arith)
wrong-i a b (more p q g) i zero h k e f = absurd (omega arith)
wrong-i a b (more {x = x} {l = l} p q g) zero (suc j) h k e f =
    rw (eq-eqb x b e) (subst (λ (v : ℕ). T (mem v l)) f (mem-at l j (omega arith)))
wrong-i a b (more {x = x} {l = l} p q g) (suc i) (suc j) h k e f =
    rw (apart b i (omega arith) e, apart a j (omega arith) f) (wrong-i a b g i j (omega arith) (omega arith) e f)
  where
    apart : (c i : ℕ) → i < length l → get_or l i 0 ≡ c → eqb x c ≡ false
    apart c i h e = rw (← e) (stops-apart (more p q g) 0 (suc i) (omega arith) (omega arith))
