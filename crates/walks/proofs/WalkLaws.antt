-- What a walk leaves of a word, leg by leg.
use mathlib.Core.Path.{◌≡◌, sym, ap, ◌∙◌, subst}
use mathlib.Core.Bool.{Bool, true, false, ◌&&◌}
use mathlib.Core.List.{List}
use mathlib.Core.Logic.{◌↔◌}
use Prim.Native.Nat.{ℕ, min, max, ◌+◌, ◌<◌, ◌≤◌}
use native.Mathlib.Omega.{arith}
use lib.Dec.{T, ltb}
use lib.ListN.{get_or}
use borrow.Author.Tests.{ltb-true, ltb-false}
use Rattle.laws.proofs.Logic.{decided, T→true, true→T, and_i, and_l, and_r}
use Rattle.bits.specs.Places.{has, without}
use Rattle.bits.proofs.Members.{has-none, without-same, without_other, without-part, members-once}
use Rattle.walks.specs.Walks.{Kept, struck}

-- one word: what the contracts of the four walks allow
pub kept-once : {l : List ℕ} {lo hi : ℕ} {f : ℕ → Bool} {w r v : ℕ} → Kept l lo hi f w r → Kept l lo hi f w v → r ≡ v
kept-once a b = members-once a.at b.at

-- a stretch whose legs all pass
pub kept-pass : {l : List ℕ} {lo hi : ℕ} {f : ℕ → Bool} {w : ℕ} → ((i : ℕ) → lo ≤ i → i < hi → f i ≡ true) → Kept l lo hi f w w
kept-pass {f = f} e = record { at = λ q. (λ t. (t, λ i a b z. true→T (f i) (e i a b)), λ t. t.0) }

pub kept-none : (l : List ℕ) (lo hi : ℕ) (f : ℕ → Bool) (w : ℕ) → hi ≤ lo → Kept l lo hi f w w
kept-none l lo hi f w h = kept-pass (λ i a b. absurd (omega arith))

pub kept-all : {l : List ℕ} {lo hi : ℕ} {f : ℕ → Bool} {w : ℕ} → ((i : ℕ) → f i ≡ true) → Kept l lo hi f w w
kept-all e = kept-pass (λ i a b. e i)

-- one stretch and then another that meets it, below or above
pub kept-join : {l : List ℕ} {a b c d lo hi : ℕ} {f : ℕ → Bool} {w r v : ℕ} → Kept l a b f w r → Kept l c d f r v → c ≤ b → a ≤ d → lo ≡ min a c
    → hi ≡ max b d → Kept l lo hi f w v
kept-join {a = a} {b} x y m n s t =
    record {
      at = λ q. (
        λ z. let v = (y.at q).0 z in let u = (x.at q).0 v.0 in (
          u.0,
          λ i g h e. decided (ltb i a) (λ p. v.1 i (omega (arith, ltb-true i a p)) (omega (arith, ltb-true i a p)) e)
              (λ p. decided (ltb i b) (λ o. u.1 i (ltb-false i a p) (ltb-true i b o) e)
              (λ o. v.1 i (omega (arith, ltb-false i b o)) (omega (arith, ltb-false i b o)) e)),
        ),
        λ z. (y.at q).1 ((x.at q).1 (z.0, λ i g h e. z.1 i (omega arith) (omega arith) e), λ i g h e. z.1 i (omega arith) (omega arith) e),
      );
    }

pub struck-has : (w p q : ℕ) (b : Bool) → T (has (struck w p b) q) ↔ (T (has w q) × (p ≡ q → T b))
struck-has w p q true = (λ t. (t, λ e. tt), λ t. t.0)
struck-has w p q false = (
  λ t. (true→T (has w q) (without-part w p q (T→true (has (without w p) q) t)), λ e. absurd (gone e t)),
  λ t. subst (λ (b : Bool). T b) (sym (without_other w p q (λ e. t.1 (sym e)))) t.0,
)
  where
    gone : p ≡ q → T (has (without w p) q) → ⊥
    gone e t = subst (λ (b : Bool). T b) (ap (λ (k : ℕ). has (without w p) k) (sym e) ∙ without-same w p) t

-- one leg, whose place is struck unless it passes
pub kept-leg : (l : List ℕ) (f : ℕ → Bool) (i : ℕ) {w : ℕ} → Kept l i (i + 1) f w (struck w (get_or l i 0) (f i))
kept-leg l f i {w} = record {
  at = λ q. let s = struck-has w (get_or l i 0) q (f i) in (
    λ t. ((s.0 t).0, λ k a b e. let z : i ≡ k = omega arith in subst (λ (j : ℕ). T (f j)) z ((s.0 t).1 (ap (λ (j : ℕ). get_or l j 0) z ∙ e))),
    λ t. s.1 (t.0, t.1 i (omega arith) (omega arith)),
  );
}

-- a second test
pub kept-both : {l : List ℕ} {lo hi : ℕ} {f g : ℕ → Bool} {w r v : ℕ} → Kept l lo hi f w r → Kept l lo hi g r v → Kept l lo hi (λ i. f i && g i) w v
kept-both {f = f} {g = g} a b =
    record {
      at = λ q. (
        λ t. let u = (b.at q).0 t in let v = (a.at q).0 u.0 in (v.0, λ i m n z. and_i (f i) (g i) (v.1 i m n z) (u.1 i m n z)),
        λ t. (b.at q).1 ((a.at q).1 (t.0, λ i m n z. and_l (f i) (g i) (t.1 i m n z)), λ i m n z. and_r (f i) (g i) (t.1 i m n z)),
      );
    }

pub kept_same : {l : List ℕ} {lo hi : ℕ} {f g : ℕ → Bool} {w r : ℕ} → ((i : ℕ) → lo ≤ i → i < hi → f i ≡ g i) → Kept l lo hi f w r → Kept l lo hi g w r
kept_same {f = f} {g = g} e a =
    record {
      at = λ q. (
        λ t. let v = (a.at q).0 t in (v.0, λ i m n z. subst (λ (b : Bool). T b) (e i m n) (v.1 i m n z)),
        λ t. (a.at q).1 (t.0, λ i m n z. subst (λ (b : Bool). T b) (sym (e i m n)) (t.1 i m n z)),
      );
    }

-- a word with no place
pub kept-zero : {l : List ℕ} {lo hi : ℕ} {f : ℕ → Bool} {w : ℕ} → w ≡ 0 → Kept l lo hi f w 0
kept-zero {l} {lo} {hi} {f} {w} e = rw e (record { at = λ q. (λ t. absurd (subst (λ (b : Bool). T b) (has-none q) t), λ t. t.0) })
