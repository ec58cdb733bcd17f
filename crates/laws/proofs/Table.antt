-- A list by its entries, and the laws of a loop that fills one.
use Prim.Native.Nat.{ℕ, zero, suc, ◌+◌, ◌<◌}
use mathlib.Core.Path.{◌≡◌, refl, sym, ap, subst, ◌∙◌}
use mathlib.Core.List.{List, [], ◌∷◌}
use mathlib.Core.Logic.{⊎_elim, ◌⊎◌, inl, inr}
use Rattle.laws.specs.Basic.{tab, Filled, In, here, there}
use native.Mathlib.Nat.{le_of_suc-le-suc, not-suc-le-zero, ne_of_lt}
use native.Mathlib.Omega.{arith}
use borrow.Author.Count.{below_more}
use lib.ListN.{length, get_or, set, replicate, length-set}
use lib.Seq.{get_or-set_same, get_or-set_other}

pub length-tab : {A : Type 0} (n : ℕ) (f : ℕ → A) → length (tab n f) ≡ n
unfolding tab
length-tab zero f = refl
length-tab (suc n) f = ap suc (length-tab n (λ k. f (suc k)))

pub get_or-tab : {A : Type 0} (n : ℕ) (f : ℕ → A) (d : A) (k : ℕ) → k < n → get_or (tab n f) k d ≡ f k
unfolding tab
get_or-tab zero f d k l = absurd (not-suc-le-zero l)
get_or-tab (suc n) f d zero l = refl
get_or-tab (suc n) f d (suc k) l = get_or-tab n (λ j. f (suc j)) d k (le_of_suc-le-suc l)

-- every entry of an array of one number, and what stands for those past it
pub same_entries : (a k x : ℕ) → get_or (replicate k a) x a ≡ a
same_entries a zero x = refl
same_entries a (suc k) zero = refl
same_entries a (suc k) (suc x) = same_entries a k x

pub filled_none : {A : Type 0} (n : ℕ) (f : ℕ → A) (d : A) (l : List A) → length l ≡ n → Filled n f d 0 l
filled_none n f d l e = record { long = e; at = λ k h. absurd (not-suc-le-zero h) }

pub filled_more : {A : Type 0} {n : ℕ} {f : ℕ → A} {d : A} {i : ℕ} {l : List A} (v : A) → Filled n f d i l → i < n → v ≡ f i → Filled n f d (i + 1) (set l i v)
filled_more {n = n} {f = f} {d = d} {i = i} {l = l} v p h e =
    record {
      long = length-set l i v ∙ p.long;
      at = below_more (λ k. get_or (set l i v) k d ≡ f k) i
          (λ k b. get_or-set_other l i k v d (ne_of_lt b) ∙ p.at k b)
          (get_or-set_same l i v d (subst (λ (m : ℕ). i < m) (sym p.long) h) ∙ e);
    }

-- a member of the list is f at an index
pub record At {A : Type 0} (n : ℕ) (f : ℕ → A) (a : A) : Type 0 where
  pub k : ℕ
  pub low : k < n
  pub is : f k ≡ a

in-cons : {A : Type 0} {a b : A} {l : List A} → In a (b ∷ l) → (a ≡ b) ⊎ In a l
in-cons here = inl refl
in-cons (there i) = inr i

in-nil : {A : Type 0} {a : A} → In a [] → ⊥
in-nil = elim [ ]

pub in-tab : {A : Type 0} (n : ℕ) (f : ℕ → A) {a : A} → In a (tab n f) → At n f a
unfolding tab
in-tab zero f i = absurd (in-nil i)
in-tab (suc n) f i =
    ⊎_elim (λ e. record { k = 0; low = omega arith; is = sym e })
    (λ j. let p = in-tab n (λ q. f (suc q)) j in record { k = suc p.k; low = omega (arith, p.low); is = p.is })
    (in-cons i)
