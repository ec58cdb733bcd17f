-- The look along a route, leg by leg, and what it leaves of the places of a node.
use mathlib.Core.Path.{◌≡◌, refl, sym, ap, ◌∙◌, subst}
use Prim.Native.Nat.{ℕ, suc, ◌+◌, ◌^◌, ◌<◌}
use mathlib.Core.Bool.{Bool, true, false, cond, not, ◌&&◌, ◌||◌}
use mathlib.Core.List.{List}
use mathlib.Core.Logic.{◌↔◌, ⊎_elim}
use native.Mathlib.Numerals.{add-one}
use native.Mathlib.Omega.{arith}
use lib.Dec.{T, ltb, eqb, eqb→eq}
use lib.ListN.{get_or}
use borrow.Author.Tests.{eqb-true, eqb-false, eq-eqb, ltb-true, ltb-false}
use Rattle.laws.proofs.Logic.{decided, true→T, or_l, or_r, or-e}
use Rattle.laws.specs.Basic.{mem}
use Rattle.bits.specs.Places.{has, with, join, minus}
use Rattle.bits.proofs.Members.{has-none, has-high, has-with, members-once}
use Rattle.bits.proofs.Masks.{has_join, has-minus, minus-fits}
use Rattle.rules.specs.Along.{behind}
use Rattle.along.proofs.SpotLaws.{behind-found, found-behind}
use Rattle.profile.specs.declared.Shut.{Shut}
use Rattle.profile.specs.Shut.{Late, Early, Shuts, shut_to}

module _ (l : List ℕ) (c w : ℕ) where
  -- behind the first i legs: their word, whether a stop of w was met, and what is late and early among them
  pub record Seen (i p a b : ℕ) (m : Bool) : Type 0 where
    pub legs : (q : ℕ) → has p q ≡ mem q (behind l i)
    pub met : T m ↔ ((k : ℕ) × (k < i) × T (has w (get_or l k 0)))
    pub late : (q : ℕ) → T (has a q) ↔ Late l w i q
    pub early : (q : ℕ) → T (has b q) ↔ Early l c i q

  none : (q : ℕ) → T (has 0 q) → ⊥
  none q t = subst (λ (b : Bool). T b) (has-none q) t

  pub seen_none : Seen 0 0 0 0 false
  seen_none = record {
    legs = has-none;
    met = (λ t. absurd t, λ k. absurd (omega (arith, k.1)));
    late = λ q. (λ t. absurd (none q t), λ f. absurd (omega (arith, f.low)));
    early = λ q. (λ t. absurd (none q t), λ f. absurd (omega (arith, f.low, f.order)));
  }

  module _ {i p a b : ℕ} {m : Bool} (h : get_or l i 0 < 64) (s : Seen i p a b m) where
    abbrev x : ℕ
    x = get_or l i 0

    legs-more : (q : ℕ) → has (with p x) q ≡ mem q (behind l (suc i))
    legs-more q = has-with p x q h ∙ ap (λ (t : Bool). eqb x q || t) (s.legs q)

    met-more : T (m || has w x) ↔ ((k : ℕ) × (k < suc i) × T (has w (get_or l k 0)))
    met-more = (
      λ t. ⊎_elim (λ u. let k = s.met.0 u in (k.0, omega (arith, k.1), k.2)) (λ u. (i, omega arith, u)) (or-e m (has w x) t),
      λ k. decided (eqb k.0 i) (λ e. or_r m (has w x) (subst (λ (j : ℕ). T (has w (get_or l j 0))) (eqb-true k.0 i e) k.2))
          (λ e. or_l m (has w x) (s.met.1 (k.0, omega (arith, k.1, eqb-false k.0 i e), k.2))),
    )

    late-later : (q : ℕ) → T (has a q) → Late l w (suc i) q
    late-later q t = let f = (s.late q).0 t in record { leg = f.leg; stop = f.stop; named = f.named; low = omega (arith, f.low); order = f.order; is = f.is }

    late-more : (m' : Bool) → (m || has w x) ≡ m' → (q : ℕ) → T (has (cond m' (with a x) a) q) ↔ Late l w (suc i) q
    late-more m' e q = (there m' e, λ f. decided (eqb f.leg i) (last m' e f) (earlier m' f))
      where
        there : (m' : Bool) → (m || has w x) ≡ m' → T (has (cond m' (with a x) a) q) → Late l w (suc i) q
        there true e t = ⊎_elim
            (λ u. let k = met-more.0 (true→T _ e) in record { leg = i; stop = k.0; named = eqb→eq x q u; low = omega arith; order = omega (arith, k.1); is = k.2 })
            (late-later q) (or-e (eqb x q) (has a q) (subst (λ (b : Bool). T b) (has-with a x q h) t))
        there false e t = late-later q t

        last : (m' : Bool) → (m || has w x) ≡ m' → (f : Late l w (suc i) q) → eqb f.leg i ≡ true → T (has (cond m' (with a x) a) q)
        last true e f z = subst (λ (b : Bool). T b) (sym (has-with a x q h))
            (or_l (eqb x q) (has a q) (true→T _ (eq-eqb x q (ap (λ (j : ℕ). get_or l j 0) (sym (eqb-true f.leg i z)) ∙ f.named))))
        last false e f z = absurd (subst (λ (b : Bool). T b) e (met-more.1 (f.stop, omega (arith, f.order, f.low), f.is)))

        earlier : (m' : Bool) → (f : Late l w (suc i) q) → eqb f.leg i ≡ false → T (has (cond m' (with a x) a) q)
        earlier m' f z = kept m'
            ((s.late q).1 (record { leg = f.leg; stop = f.stop; named = f.named; low = omega (arith, f.low, eqb-false f.leg i z); order = f.order; is = f.is }))
          where
            kept : (m' : Bool) → T (has a q) → T (has (cond m' (with a x) a) q)
            kept true t = subst (λ (b : Bool). T b) (sym (has-with a x q h)) (or_r (eqb x q) (has a q) t)
            kept false t = t

    early-more : (y : Bool) → has c (get_or l (suc i) 0) ≡ y → (q : ℕ) → T (has (cond y (with p x) b) q) ↔ Early l c (suc i) q
    early-more true e q = (
      λ t. let f = behind-found q l (suc i) (subst (λ (b : Bool). T b) (legs-more q) t) in
          record { leg = f.i; stop = suc i; named = f.is; low = omega arith; order = f.high; is = true→T _ e },
      λ f. subst (λ (b : Bool). T b) (sym (legs-more q)) (found-behind q l (suc i) (record { i = f.leg; low = omega arith; high = omega (arith, f.order, f.low); is = f.named })),
    )
    early-more false e q = (
      λ t. let f = (s.early q).0 t in record { leg = f.leg; stop = f.stop; named = f.named; low = omega (arith, f.low); order = f.order; is = f.is },
      λ f. decided (eqb f.stop (suc i))
          (λ z. absurd (subst (λ (b : Bool). T b) (ap (λ (j : ℕ). has c (get_or l j 0)) (eqb-true f.stop (suc i) z) ∙ e) f.is))
          (λ z. (s.early q).1 (record { leg = f.leg; stop = f.stop; named = f.named; low = omega (arith, f.low, eqb-false f.stop (suc i) z); order = f.order; is = f.is })),
    )

    pub seen_more : Seen (i + 1) (with p x) (cond (m || has w x) (with a x) a) (cond (has c (get_or l (i + 1) 0)) (with p x) b) (m || has w x)
    seen_more = rw (add-one i) (record { legs = legs-more; met = met-more; late = late-more (m || has w x) refl; early = early-more (has c (get_or l (suc i) 0)) refl })

-- what the look finds is one
pub shuts-once : {l : List ℕ} {n c w : ℕ} {r s : Shut} → Shuts l n c w r → Shuts l n c w s → r ≡ s
shuts-once a b = λ i. record {
  clean = (a.clean ∙ sym b.clean) i;
  late = members-once a.late b.late i;
  soiled = (a.soiled ∙ sym b.soiled) i;
  early = members-once a.early b.early i;
}

-- ---- what is left of a word

-- the legs that are shut to x, by both its kinds, taken out of a word
pub cut_has : (r : Shut) (x word : ℕ) {u : ℕ} → word < 2 ^ 64 → u < 2 ^ 64 → u ≡ join (cond (has r.clean x) r.late 0) (cond (has r.soiled x) r.early 0)
    → (q : ℕ) → has (minus word u) q ≡ (has word q && not (shut_to r x q))
cut_has r x word {u} low small e q = decided (ltb q 64) (λ z. has-minus word u q small (ltb-true q 64 z) ∙ ap (λ (b : Bool). has word q && not b) both)
    (λ z. has-high (minus word u) q (minus-fits word u low) (ltb-false q 64 z) ∙ sym (ap (λ (b : Bool). b && not (shut_to r x q)) (has-high word q low (ltb-false q 64 z))))
  where
    if : (b : Bool) (v : ℕ) → has (cond b v 0) q ≡ (b && has v q)
    if true v = refl
    if false v = has-none q

    both : has u q ≡ shut_to r x q
    both = ap (λ (v : ℕ). has v q) e ∙ has_join _ _ q ∙ (λ i. if (has r.clean x) r.late i || if (has r.soiled x) r.early i)
