-- Lists: membership as a test and as a derivation, a test of all or any of the entries, subsequences.
use mathlib.Core.Path.{◌≡◌, refl, subst, sym, ap, ◌∙◌}
use Prim.Native.Nat.{ℕ}
use mathlib.Core.Bool.{Bool, true, false, not, ◌&&◌, ◌||◌}
use mathlib.Core.List.{List, [], ◌∷◌}
use mathlib.Core.Logic.{⊎_elim}
use lib.Dec.{T, T_not, eqb, eqb→eq, eqb_refl}
use Rattle.laws.proofs.Logic.{and_i, and_l, and_r, and_mono, or_l, or_r, or-e, or_mono, contra}
use Rattle.laws.specs.Basic.{mem, all, any, In, here, there}

-- P of every entry, entry by entry
pub data Each {A : Type 0} (P : A → Type 0) : List A → Type 0 where
  end : Each P []
  also : {a : A} {l : List A} → P a → Each P l → Each P (a ∷ l)

-- the first list is a subsequence of the second
pub data Sub : List ℕ → List ℕ → Type 0 where
  nil : Sub [] []
  keep : {x : ℕ} {l m : List ℕ} → Sub l m → Sub (x ∷ l) (x ∷ m)
  skip : {x : ℕ} {l m : List ℕ} → Sub l m → Sub l (x ∷ m)

-- ---- membership

pub mem-in : (x : ℕ) (l : List ℕ) → T (mem x l) → In x l
mem-in x [] h = absurd h
mem-in x (y ∷ l) h = ⊎_elim (λ e. subst (λ (v : ℕ). In v (y ∷ l)) (eqb→eq y x e) here) (λ m. there (mem-in x l m)) (or-e (eqb y x) (mem x l) h)

pub in_mem : {x : ℕ} {l : List ℕ} → In x l → T (mem x l)
in_mem {x} (here {l = l}) = or_l (eqb x x) (mem x l) (eqb_refl x)
in_mem {x} (there {b = b} {l = l} i) = or_r (eqb b x) (mem x l) (in_mem i)

pub mem-hd : (x : ℕ) (l : List ℕ) → T (mem x (x ∷ l))
mem-hd x l = or_l (eqb x x) (mem x l) (eqb_refl x)

pub mem-tl : (x y : ℕ) (l : List ℕ) → T (mem x l) → T (mem x (y ∷ l))
mem-tl x y l = or_r (eqb y x) (mem x l)

-- one node in the list and one off it are two
pub mem-ne : (y x : ℕ) (l : List ℕ) → T (not (mem y l)) → T (mem x l) → T (not (eqb y x))
mem-ne y x l h m = contra (eqb y x) (mem y l) (λ e. subst (λ (v : ℕ). T (mem v l)) (sym (eqb→eq y x e)) m) h

-- in a list, and not its first entry
pub mem-rest : (x y : ℕ) (l : List ℕ) → T (not (eqb y x)) → T (mem x (y ∷ l)) → T (mem x l)
mem-rest x y l n m = ⊎_elim (λ e. absurd (T_not (eqb y x) n e)) (λ h. h) (or-e (eqb y x) (mem x l) m)

pub each_in : {A : Type 0} {P : A → Type 0} {a : A} {l : List A} → In a l → Each P l → P a
each_in here (also p e) = p
each_in (there i) (also p e) = each_in i e

-- ---- all and any

pub all_in : {A : Type 0} (f : A → Bool) {a : A} {l : List A} → T (all f l) → In a l → T (f a)
all_in f {a} h (here {l = l}) = and_l (f a) (all f l) h
all_in f h (there {b = b} {l = l} i) = all_in f (and_r (f b) (all f l) h) i

pub all-i : {A : Type 0} (f : A → Bool) (l : List A) → ((a : A) → In a l → T (f a)) → T (all f l)
all-i f [] g = tt
all-i f (x ∷ l) g = and_i (f x) (all f l) (g x here) (all-i f l (λ a i. g a (there i)))

pub all-mono : {A : Type 0} (f g : A → Bool) (l : List A) → ((a : A) → T (f a) → T (g a)) → T (all f l) → T (all g l)
all-mono f g [] h t = t
all-mono f g (x ∷ l) h t = and_mono (f x) (all f l) (g x) (all g l) (h x) (all-mono f g l h) t

-- two tests that come out the same on every entry
pub all_same : {A : Type 0} (f g : A → Bool) (l : List A) → ((a : A) → In a l → f a ≡ g a) → all f l ≡ all g l
all_same f g [] h = refl
all_same f g (x ∷ l) h = λ u. h x here u && all_same f g l (λ a i. h a (there i)) u

pub any-i : {A : Type 0} (f : A → Bool) {a : A} {l : List A} → In a l → T (f a) → T (any f l)
any-i f {a} (here {l = l}) h = or_l (f a) (any f l) h
any-i f (there {b = b} {l = l} i) h = or_r (f b) (any f l) (any-i f i h)

-- what follows from each entry that passes f follows where some entry does
pub any-e : {A : Type 0} {P : Type 0} (f : A → Bool) (l : List A) → ((a : A) → In a l → T (f a) → P) → T (any f l) → P
any-e f [] g h = absurd h
any-e f (x ∷ l) g h = ⊎_elim (g x here) (any-e f l (λ a i. g a (there i))) (or-e (f x) (any f l) h)

pub any_none : {A : Type 0} (f : A → Bool) (l : List A) → ((a : A) → T (f a) → ⊥) → T (any f l) → ⊥
any_none f [] g h = h
any_none f (x ∷ l) g h = ⊎_elim (g x) (any_none f l g) (or-e (f x) (any f l) h)

-- all of them fail f exactly if none passes it
pub none_any : {A : Type 0} (f : A → Bool) (l : List A) → all (λ a. not (f a)) l ≡ not (any f l)
none_any f [] = refl
none_any f (a ∷ l) = ap (λ (b : Bool). not (f a) && b) (none_any f l) ∙ nots (f a) (any f l)
  where
    nots : (b c : Bool) → (not b && not c) ≡ not (b || c)
    nots true c = refl
    nots false c = refl

-- ---- subsequences

pub sub_refl : (l : List ℕ) → Sub l l
sub_refl [] = nil
sub_refl (x ∷ l) = keep (sub_refl l)

pub mem-sub : (x : ℕ) {l m : List ℕ} → Sub l m → T (mem x l) → T (mem x m)
mem-sub x nil h = h
mem-sub x (keep {x = y} {l = l} {m = m} s) h = or_mono (eqb y x) (mem x l) (eqb y x) (mem x m) (λ t. t) (mem-sub x s) h
mem-sub x (skip {x = y} {m = m} s) h = or_r (eqb y x) (mem x m) (mem-sub x s h)

pub any-sub : (f : ℕ → Bool) {l m : List ℕ} → Sub l m → T (any f l) → T (any f m)
any-sub f nil h = h
any-sub f (keep {x = y} {l = l} {m = m} s) h = or_mono (f y) (any f l) (f y) (any f m) (λ t. t) (any-sub f s) h
any-sub f (skip {x = y} {m = m} s) h = or_r (f y) (any f m) (any-sub f s h)

pub sub_trans : {l m n : List ℕ} → Sub l m → Sub m n → Sub l n
sub_trans u nil = u
sub_trans (keep u) (keep v) = keep (sub_trans u v)
sub_trans (skip u) (keep v) = skip (sub_trans u v)
sub_trans u (skip v) = skip (sub_trans u v)
