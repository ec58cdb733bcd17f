-- Van by van, what is found of the vans so far: that each is in form and that they share no ward, and their wards.
use mathlib.Core.Path.{◌≡◌, refl, sym, ap, ◌∙◌}
use mathlib.Core.Bool.{true, false, ◌&&◌, and-false}
use Prim.Native.Nat.{ℕ, ◌+◌, ◌≤◌, ◌<◌}
use native.Mathlib.Omega.{arith}
use lib.Dec.{eqb}
use borrow.Author.Tests.{eqb-true}
use Rattle.laws.specs.Basic.{all_below}
use Rattle.laws.proofs.Logic.{decided}
use Rattle.laws.proofs.Below.{below_none, flag-goes}
use Rattle.bits.proofs.Members.{false-true}
use Rattle.fleet.specs.Fleet.{state_in}
use Rattle.fleet.specs.Form.{van_ok, shares_none}
use Rattle.fleet.specs.Wards.{HasWards, JoinsVan}
use Rattle.fleet.specs.declared.Fleet.{Fleet}
use Rattle.fleet.specs.declared.wards.Wards.{Wards}
use Rattle.fleet.proofs.FormLaws.{apart-shares}
use Rattle.fleet.proofs.WardLaws.{wards-none, wards-more}

-- the first j of v vans
pub record Joined (n v j : ℕ) (f : Fleet) (w : Wards) : Type 0 where
  pub flag : w.apart ≡ all_below j (van_ok n f) && shares_none n j f
  pub wards : eqb v 1 ≡ false → all_below j (van_ok n f) ≡ true → HasWards n j f w

pub joined-none : (n v : ℕ) (f : Fleet) {w : Wards} → w ≡ record { placed = 0; reached = 0; apart = true } → Joined n v 0 f w
joined-none n v f e = rw e (let h = wards-none n f in record { flag = rw (below_none (van_ok n f)) h.apart; wards = λ o a. h })

-- one alone shares none
alone : (n j v : ℕ) (f : Fleet) → j < v → v ≡ 1 → shares_none n (j + 1) f ≡ true
alone n j v f l e = apart-shares n (j + 1) f (λ i k y h g d. absurd (d (omega (arith, l, e, h, g))))

pub joined-more : (n v : ℕ) → n ≤ 64 → (f : Fleet) (j : ℕ) → j < v → {w r : Wards} → Joined n v j f w
    → JoinsVan n w (state_in f j) (state_in f 0).depth (eqb j 0) (eqb v 1) r → Joined n v (j + 1) f r
joined-more n v small f j l {w} {r} p q =
    decided (van_ok n f j)
    (λ e. decided (eqb v 1)
    (λ o. record {
      flag = ap (λ (x : Wards). x.apart) (q.only e o) ∙ p.flag ∙ first e o;
      wards = λ u. absurd (false-true (sym u ∙ o));
    })
    (λ o. let a = q.added e o in decided (all_below j (van_ok n f))
    (λ b. let h = wards-more n small f j w r (p.wards o b) a in record { flag = h.apart ∙ sym (rw (next, b, e) refl); wards = λ u s. h })
    (λ b. record {
      flag = a.apart ∙ rw (p.flag, b, next, b) refl;
      wards = λ u s. absurd (false-true (sym (rw (next, b) refl) ∙ s));
    })))
    (λ e. record {
      flag = ap (λ (x : Wards). x.apart) (q.misfit e) ∙ sym (rw (next ∙ fails e) refl);
      wards = λ u s. absurd (false-true (sym (next ∙ fails e) ∙ s));
    })
  where
    next : all_below (j + 1) (van_ok n f) ≡ all_below j (van_ok n f) && van_ok n f j
    next = flag-goes j (van_ok n f) refl refl

    fails : van_ok n f j ≡ false → all_below j (van_ok n f) && van_ok n f j ≡ false
    fails e = rw e (and-false (all_below j (van_ok n f)))

    first : van_ok n f j ≡ true → eqb v 1 ≡ true → all_below j (van_ok n f) && shares_none n j f ≡ all_below (j + 1) (van_ok n f) && shares_none n (j + 1) f
    first e o =
        let z : j ≡ 0 = omega (arith, l, eqb-true v 1 o) in
        let none : all_below j (van_ok n f) ≡ true = rw z (below_none (van_ok n f)) in
        let before : all_below j (van_ok n f) && shares_none n j f ≡ true = rw none (rw z (sym (wards-none n f).apart)) in
        before ∙ sym (rw (next, none, e) (alone n j v f l (eqb-true v 1 o)))
