-- Lists that have every entry once: with the same entries they are equally long, so that counting entries counts what they stand for.
use mathlib.Core.Path.{◌≡◌, refl, subst, sym, ap}
use Prim.Native.Nat.{suc, ◌≤◌}
use native.Mathlib.Nat.{le_antisymm}
use native.Mathlib.Omega.{arith}
use mathlib.Core.Bool.{Bool, true, false, cond}
use mathlib.Core.List.{List, [], ◌∷◌, ◌++◌, map}
use mathlib.Core.Logic.{◌⊎◌, inl, inr, ⊎_elim, ◌↔◌}
use lib.Dec.{T}
use lib.ListN.{length}
use Rattle.laws.proofs.Logic.{T→true}
use Rattle.laws.specs.Basic.{In, here, there}

-- every entry once
pub data Once {A : Type 0} : List A → Type 0 where
  clear : Once []
  new : {x : A} {l : List A} → (In x l → ⊥) → Once l → Once (x ∷ l)

pub in-none : {A : Type 0} {a : A} → In a [] → ⊥
in-none = elim [ ]

pub in-cons : {A : Type 0} {x y : A} {l : List A} → In y (x ∷ l) → (y ≡ x) ⊎ In y l
in-cons here = inl refl
in-cons (there i) = inr i

module _ {A : Type 0} where
  -- the list without the entry
  without : {x : A} {l : List A} → In x l → List A
  without (here {l = l}) = l
  without (there {b = b} i) = b ∷ without i

  length_without : {x : A} {l : List A} (i : In x l) → length l ≡ suc (length (without i))
  unfolding without
  length_without here = refl
  length_without (there i) = ap suc (length_without i)

  in_without : {x y : A} {l : List A} (i : In x l) → In y l → (y ≡ x) ⊎ In y (without i)
  unfolding without
  in_without here here = inl refl
  in_without here (there j) = inr j
  in_without (there i) here = inr here
  in_without (there i) (there j) = ⊎_elim inl (λ k. inr (there k)) (in_without i j)

  -- a list with every entry once is no longer than one that has its entries
  once-short : {l m : List A} → Once l → ((y : A) → In y l → In y m) → length l ≤ length m
  once-short clear f = omega arith
  once-short {m = m} (new {x = x} {l = l} n o) f =
      let i = f x here in
      let g : (y : A) → In y l → In y (without i) = λ y j. ⊎_elim (λ e. absurd (n (subst (λ (v : A). In v l) e j))) (λ k. k) (in_without i (f y (there j))) in
      omega (arith, once-short o g, length_without i)

  pub once-length : {l m : List A} → Once l → Once m → ((y : A) → In y l ↔ In y m) → length l ≡ length m
  once-length p q f = le_antisymm (once-short p (λ y. (f y).0)) (once-short q (λ y. (f y).1))

  -- ---- lists put together

  pub append-in : (l : List A) {m : List A} {x : A} → In x (l ++ m) → In x l ⊎ In x m
  append-in [] i = inr i
  append-in (y ∷ l) here = inl here
  append-in (y ∷ l) (there i) = ⊎_elim (λ k. inl (there k)) inr (append-in l i)

  pub in-append-l : {x : A} {l : List A} (m : List A) → In x l → In x (l ++ m)
  in-append-l m here = here
  in-append-l m (there i) = there (in-append-l m i)

  pub in-append-r : (l : List A) {m : List A} {x : A} → In x m → In x (l ++ m)
  in-append-r [] i = i
  in-append-r (y ∷ l) i = there (in-append-r l i)

  pub once-append : (l : List A) {m : List A} → Once l → Once m → ((x : A) → In x l → In x m → ⊥) → Once (l ++ m)
  once-append [] clear q f = q
  once-append (y ∷ l) (new n o) q f = new (λ i. ⊎_elim n (f y here) (append-in l i)) (once-append l o q (λ x i. f x (there i)))

  -- ---- the entries that pass f

  unfoldable pub only : (A → Bool) → List A → List A
  only f [] = []
  only f (x ∷ l) = cond (f x) (x ∷ only f l) (only f l)

  pub only-in : (f : A → Bool) (l : List A) {x : A} → In x (only f l) → In x l × T (f x)
  unfolding only
  only-in f [] i = absurd (in-none i)
  only-in f (y ∷ l) {x} i = go (f y) refl i (λ j. only-in f l j)
    where
      go : (b : Bool) → f y ≡ b → In x (cond b (y ∷ only f l) (only f l)) → (In x (only f l) → In x l × T (f x)) → In x (y ∷ l) × T (f x)
      go true e j k = ⊎_elim
          (λ q. (subst (λ (v : A). In v (y ∷ l)) (sym q) here, subst (λ (v : A). T (f v)) (sym q) (subst (λ (b : Bool). T b) (sym e) tt)))
          (λ j. (there (k j).0, (k j).1)) (in-cons j)
      go false e j k = (there (k j).0, (k j).1)

  pub in-only : (f : A → Bool) {x : A} {l : List A} → In x l → T (f x) → In x (only f l)
  unfolding only
  in-only f {x = x} (here {l = l}) t = subst (λ (b : Bool). In x (cond b (x ∷ only f l) (only f l))) (sym (T→true (f x) t)) here
  in-only f {x = x} (there {b = y} {l = l} i) t = go (f y) (in-only f i t)
    where
      go : (b : Bool) → In x (only f l) → In x (cond b (y ∷ only f l) (only f l))
      go true j = there j
      go false j = j

  pub once-only : (f : A → Bool) {l : List A} → Once l → Once (only f l)
  unfolding only
  once-only f clear = clear
  once-only f (new {x = x} {l = l} n o) = go (f x) (once-only f o)
    where
      go : (b : Bool) → Once (only f l) → Once (cond b (x ∷ only f l) (only f l))
      go true k = new (λ i. n (only-in f l i).0) k
      go false k = k

-- ---- the entries changed by f

-- y is f of an entry
pub record Image {A B : Type 0} (f : A → B) (l : List A) (y : B) : Type 0 where
  pub x : A
  pub at : In x l
  pub is : y ≡ f x

module _ {A B : Type 0} (f : A → B) where
  pub in_map : {x : A} {l : List A} → In x l → In (f x) (map f l)
  in_map here = here
  in_map (there i) = there (in_map i)

  pub map-in : (l : List A) {y : B} → In y (map f l) → Image f l y
  map-in [] i = absurd (in-none i)
  map-in (x ∷ l) here = record { x = x; at = here; is = refl }
  map-in (x ∷ l) (there i) = let u = map-in l i in record { x = u.x; at = there u.at; is = u.is }

  pub once-map : {l : List A} → ((x y : A) → f x ≡ f y → x ≡ y) → Once l → Once (map f l)
  once-map inj clear = clear
  once-map inj (new {x = x} {l = l} n o) = new (λ i. let u = map-in l i in n (subst (λ (v : A). In v l) (sym (inj x u.x u.is)) u.at)) (once-map inj o)
