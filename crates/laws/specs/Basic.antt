-- The few functions on lists and numbers that the definitions of all crates are made of; then two words for contracts.
use Rattle.std.specs.Prelude.{ℕ, zero, suc, max, ◌+◌, ◌*◌, ◌<◌, Bool, true, false, ◌&&◌, ◌||◌, List, [], ◌∷◌, ◌++◌, ◌≡◌, eqb, length, get_or, take, drop}

-- whether x is in the list
abbrev pub mem : ℕ → List ℕ → Bool
mem x [] = false
mem x (y ∷ l) = eqb y x || mem x l

-- the first entry
abbrev pub hd : List ℕ → ℕ
hd [] = 0
hd (x ∷ l) = x

-- every entry passes f
abbrev pub all {ℓ} : {A : Type ℓ} → (A → Bool) → List A → Bool
all f [] = true
all f (x ∷ l) = f x && all f l

-- some entry passes f
abbrev pub any {ℓ} : {A : Type ℓ} → (A → Bool) → List A → Bool
any f [] = false
any f (x ∷ l) = f x || any f l

-- a where a is not 0, else b
unfoldable pub or_else : ℕ → ℕ → ℕ
or_else zero b = b
or_else (suc a) b = suc a

-- the number k of a test that failed, 0 where it passed
abbrev pub unless : Bool → ℕ → ℕ
unless true k = 0
unless false k = k

-- every number below n passes f
unfoldable pub all_below : ℕ → (ℕ → Bool) → Bool
all_below zero f = true
all_below (suc n) f = all_below n f && f n

-- some number below n passes f
unfoldable pub any_below : ℕ → (ℕ → Bool) → Bool
any_below zero f = false
any_below (suc n) f = any_below n f || f n

-- f 0 + f 1 + .. + f (n - 1)
unfoldable pub sum_below : ℕ → (ℕ → ℕ) → ℕ
sum_below zero f = 0
sum_below (suc n) f = sum_below n f + f n

-- the greatest of f 0, f 1, .. f (n - 1); 0 where there is none
unfoldable pub peak : (ℕ → ℕ) → ℕ → ℕ
peak f zero = 0
peak f (suc n) = max (peak f n) (f n)

-- f 0, f 1, .. f (n - 1)
unfoldable pub tab : {A : Type 0} → ℕ → (ℕ → A) → List A
tab zero f = []
tab (suc n) f = f zero ∷ tab n (λ (k : ℕ). f (suc k))

-- part j of a list that is cut into parts of w
unfoldable pub part_at : ℕ → List ℕ → ℕ → List ℕ
part_at w t j = take w (drop (j * w) t)

-- another list in the place of part j
unfoldable pub put_part : ℕ → List ℕ → ℕ → List ℕ → List ℕ
put_part w t j l = take (j * w) t ++ (l ++ drop (j * w + w) t)

-- the first v parts, one after another
unfoldable pub joined : ℕ → (ℕ → List ℕ) → List ℕ
joined zero f = []
joined (suc v) f = joined v f ++ f v

-- a is in the list, as a derivation
pub data In {ℓ} {A : Type ℓ} (a : A) : List A → Type ℓ where
  here : {l : List A} → In a (a ∷ l)
  there : {b : A} {l : List A} → In a l → In a (b ∷ l)

-- the list l is as long as n, and is f at every index below i
pub record Filled {A : Type 0} (n : ℕ) (f : ℕ → A) (d : A) (i : ℕ) (l : List A) : Type 0 where
  pub long : length l ≡ n
  pub at : (k : ℕ) → k < i → get_or l k d ≡ f k
