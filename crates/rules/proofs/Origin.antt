-- The last starting stop at or before a stop of a longer route leaves the leg of the starting route in which that stop's leg lies.
use mathlib.Core.Path.{◌≡◌, ap, ◌∙◌}
use Prim.Native.Nat.{ℕ}
use mathlib.Core.Bool.{Bool, cond, not}
use mathlib.Core.List.{List, [], ◌∷◌}
use lib.Dec.{T, eqb, eqb_refl}
use Rattle.laws.proofs.Logic.{T→true, N→false}
use Rattle.laws.proofs.Lists.{Sub, nil, keep, skip, mem-hd, mem-ne}
use Rattle.laws.specs.Basic.{mem}
use Rattle.rules.specs.Plan.{Places}
use Rattle.rules.specs.Rounds.{Distinct, more, Within, stop, extra}
use Rattle.rules.specs.Worked.{origin}
use Rattle.rules.proofs.Cuts.{Cut, same, move, cut-next, cut-name}
use Rattle.rules.proofs.Longer.{entered_on, Ancestor}
use Rattle.rules.proofs.Nodes.{within-sub}

-- at the stop q₀, where the last starting stop so far is p
abbrev origin_at : List ℕ → ℕ → ℕ → List ℕ → ℕ → ℕ
origin_at rt p q₀ B q = cond (eqb q₀ q) p (origin rt p B q)

origin_here : (rt : List ℕ) (p q : ℕ) (B : List ℕ) → origin_at rt p q B q ≡ p
origin_here rt p q B = rw (T→true (eqb q q) (eqb_refl q))

origin-next : (rt : List ℕ) (p q₀ k : ℕ) (B : List ℕ) (q : ℕ) {b : Bool} → T (not (eqb q₀ q)) → mem k rt ≡ b
    → origin_at rt p q₀ (k ∷ B) q ≡ origin_at rt (cond b k p) k B q
origin-next rt p q₀ k B q n e = rw (N→false (eqb q₀ q) n, e)

-- it leaves the leg of the starting route in which the leg lies
origin-lies : {n z p q₀ q k' : ℕ} {o : Places} {e r A B A₀ B₀ A' B' : List ℕ} → ((y m : ℕ) → T (o y m) → T (not (mem y (z ∷ r)))) → Cut (z ∷ []) e (q₀ ∷ A₀) B₀
    → Cut (q₀ ∷ A₀) B₀ (q ∷ A') (k' ∷ B') → Within o p B B₀ → Cut (z ∷ []) r (p ∷ A) B → Sub (p ∷ A) (q₀ ∷ A₀) → Distinct n (q₀ ∷ B₀)
    → (a : Ancestor z e r (q ∷ A') k' B') × (origin_at (z ∷ r) p q₀ B₀ q ≡ a.p)
origin-lies {z = z} {p} {q₀} {r = r} off c₀ same (stop {k = k} {R = R} w) c u g =
    (record { p = _; A = _; k = _; B = _; lies = record { long = c₀; short = c; behind = u; ahead = keep (within-sub w) } }, origin_here (z ∷ r) p q₀ (k ∷ R))
origin-lies {z = z} {p} {q₀} {r = r} off c₀ same (extra {x = x} {R = R} t w) c u g =
    (record { p = _; A = _; k = _; B = _; lies = record { long = c₀; short = c; behind = u; ahead = skip (within-sub w) } }, origin_here (z ∷ r) p q₀ (x ∷ R))
origin-lies {z = z} {p} {q₀} {q} {r = r} off c₀ (move m) (stop {k = k} {R = R} w) c u (more a b g) =
    let i = origin-lies off (cut-next c₀) m w (cut-next c) (keep u) g in
    (i.0, origin-next (z ∷ r) p q₀ k R q (mem-ne q₀ q (k ∷ R) b (cut-name m)) (T→true (mem k (z ∷ r)) (entered_on c)) ∙ i.1)
origin-lies {z = z} {p} {q₀} {q} {r = r} off c₀ (move m) (extra {x = x} {R = R} t w) c u (more a b g) =
    let i = origin-lies off (cut-next c₀) m w c (skip u) g in
    (i.0, origin-next (z ∷ r) p q₀ x R q (mem-ne q₀ q (x ∷ R) b (cut-name m)) (N→false (mem x (z ∷ r)) (off x p t)) ∙ i.1)

pub origin-leg : {n z q k' : ℕ} {o : Places} {e r A' B' : List ℕ} → ((y m : ℕ) → T (o y m) → T (not (mem y (z ∷ r)))) → Distinct n (z ∷ e) → Within o z r e
    → Cut (z ∷ []) e (q ∷ A') (k' ∷ B') → (a : Ancestor z e r (q ∷ A') k' B') × (origin (z ∷ r) z (z ∷ e) q ≡ a.p)
origin-leg {z = z} {q} {e = e} {r = r} off g w c =
    let i = origin-lies off same c w same (keep nil) g in
    (i.0, ap (λ (b : Bool). origin_at (z ∷ r) (cond b z z) z e q) (T→true (mem z (z ∷ r)) (mem-hd z r)) ∙ i.1)
