-- A list that is rewritten place by place, whatever its entries are: the first j are the new ones, the others the old ones.
use Prim.Native.Nat.{ℕ, zero, suc, ◌+◌, ◌<◌}
use mathlib.Core.Path.{◌≡◌, refl, sym, ap, subst, ◌∙◌}
use mathlib.Core.Bool.{Bool, cond}
use mathlib.Core.Logic.{◌≢◌}
use mathlib.Core.List.{List, [], ◌∷◌}
use native.Mathlib.Omega.{arith}
use lib.ListN.{length, get_or, set, replicate, length-set}
use lib.Seq.{ext_get_or, get_or-set_same, get_or-set_other}
use lib.Dec.{eqb, ltb}
use borrow.Author.Tests.{eqb-true, eqb-false, ltb-true, ltb-false, lt-ltb, le-ltb}
use Rattle.laws.specs.Basic.{tab}
use Rattle.laws.proofs.Logic.{decided}
use Rattle.laws.proofs.Table.{length-tab, get_or-tab}

-- an entry that is there, whatever stands for one that is not
pub get_d_any : {A : Type 0} (l : List A) (j : ℕ) (d e : A) → j < length l → get_or l j d ≡ get_or l j e
get_d_any [] j d e h = absurd (omega arith)
get_d_any (x ∷ l) zero d e h = refl
get_d_any (x ∷ l) (suc j) d e h = get_d_any l j d e (omega arith)

pub tab-same : {A : Type 0} (n : ℕ) (f g : ℕ → A) → ((k : ℕ) → k < n → f k ≡ g k) → tab n f ≡ tab n g
unfolding tab
tab-same zero f g e = refl
tab-same (suc n) f g e = λ u. e 0 (omega arith) u ∷ tab-same n (λ k. f (suc k)) (λ k. g (suc k)) (λ k h. e (suc k) (omega arith)) u

pub tab-replicate : {A : Type 0} (n : ℕ) (a : A) → replicate n a ≡ tab n (λ k. a)
unfolding tab
tab-replicate zero a = refl
tab-replicate (suc n) a = λ u. a ∷ tab-replicate n a u

-- the list l is as long as n; below j it is f, from there on it is g
pub record Turned {A : Type 0} (n : ℕ) (f g : ℕ → A) (d : A) (j : ℕ) (l : List A) : Type 0 where
  pub long : length l ≡ n
  pub at : (k : ℕ) → k < n → get_or l k d ≡ cond (ltb k j) (f k) (g k)

pub turned_none : {A : Type 0} (n : ℕ) (f g : ℕ → A) (d : A) (l : List A) → length l ≡ n → ((k : ℕ) → k < n → get_or l k d ≡ g k) → Turned n f g d 0 l
turned_none n f g d l e h = record { long = e; at = λ k b. rw (le-ltb k 0 (omega arith)) (h k b) }

-- one more passes j only if it is j
pub ltb-more : (k j : ℕ) → k ≢ j → ltb k j ≡ ltb k (j + 1)
ltb-more k j n =
    decided (ltb k j)
    (λ e. e ∙ sym (lt-ltb k (j + 1) (omega (arith, ltb-true k j e))))
    (λ e. e ∙ sym (le-ltb k (j + 1) (omega (arith, ltb-false k j e, n))))

pub turned_more : {A : Type 0} {n : ℕ} {f g : ℕ → A} {d : A} {j : ℕ} {l : List A} (v : A) → Turned n f g d j l → j < n → v ≡ f j → Turned n f g d (j + 1) (set l j v)
turned_more {n = n} {f = f} {g = g} {d = d} {j = j} {l = l} v p h e =
    record {
      long = length-set l j v ∙ p.long;
      at = λ k b.
          decided (eqb k j)
          (λ z. rw (eqb-true k j z, lt-ltb j (j + 1) (omega arith)) (get_or-set_same l j v d (subst (λ (m : ℕ). j < m) (sym p.long) h) ∙ e))
          (λ z. let ne = eqb-false k j z in get_or-set_other l j k v d ne ∙ p.at k b ∙ ap (λ (t : Bool). cond t (f k) (g k)) (ltb-more k j ne));
    }

-- an entry that is the same either way is passed over
pub turned-skip : {A : Type 0} {n : ℕ} {f g : ℕ → A} {d : A} {j : ℕ} {l : List A} → Turned n f g d j l → f j ≡ g j → Turned n f g d (j + 1) l
turned-skip {f = f} {g = g} {j = j} p e = record {
  long = p.long;
  at = λ k b. p.at k b ∙ decided (eqb k j)
      (λ z. rw (eqb-true k j z, lt-ltb j (j + 1) (omega arith), le-ltb j j (omega arith)) (sym e))
      (λ z. ap (λ (t : Bool). cond t (f k) (g k)) (ltb-more k j (eqb-false k j z)));
}

pub turned-all : {A : Type 0} {n : ℕ} {f g : ℕ → A} {d : A} {j : ℕ} {l : List A} → Turned n f g d j l → l ≡ tab n (λ k. cond (ltb k j) (f k) (g k))
turned-all {n = n} {f = f} {g = g} {d = d} {j = j} {l = l} p =
    ext_get_or d l (tab n (λ k. cond (ltb k j) (f k) (g k))) (p.long ∙ sym (length-tab n (λ k. cond (ltb k j) (f k) (g k))))
    (λ k b. let b' : k < n = subst (λ (m : ℕ). k < m) p.long b in p.at k b' ∙ sym (get_or-tab n (λ k. cond (ltb k j) (f k) (g k)) d k b'))
