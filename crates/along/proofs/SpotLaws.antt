-- How the stops of nodes are found, and how they tell who is behind a stop and who ahead.
use mathlib.Core.Path.{◌≡◌, refl, sym, ap, ◌∙◌, subst}
use mathlib.Core.Bool.{Bool, true, false, cond, ◌&&◌}
use mathlib.Core.List.{List, [], ◌∷◌}
use mathlib.Core.Logic.{⊎_elim, ◌⊎◌, inl, inr}
use Prim.Native.Nat.{ℕ, zero, suc, ◌+◌, ◌<◌, ◌≤◌}
use native.Mathlib.Numerals.{add-one}
use native.Mathlib.Omega.{arith}
use lib.Dec.{T, leb, ltb, eqb, eqb→eq, leb→le, le→leb, ltb→lt, lt→ltb}
use lib.ListN.{get_or, set, replicate, take, drop, length, length-take, length-set}
use lib.Seq.{ext_get_or, get_or-set_same, get_or-set_other, get_or-take}
use borrow.Author.Tests.{eqb-true, eqb-false, eq-eqb, le-ltb, ltb-true, ltb-false}
use Rattle.laws.proofs.Logic.{decided, T-ext, and_i, and_l, and_r, or_l, or_r, or-e, true→T}
use Rattle.laws.proofs.Table.{same_entries}
use Rattle.laws.specs.Basic.{mem}
use Rattle.rules.specs.Rounds.{Distinct, none, more}
use Rattle.rules.specs.Along.{behind}
use Rattle.rules.proofs.AlongLaws.{mem-at, stops-apart}
use Rattle.along.specs.Spots.{spot, Spots}

-- an entry of the array, and what stands for a number past it
pub spot_in : (a : List ℕ) (x : ℕ) → x < length a → get_or a x 0 ≡ get_or a x 64
spot_in [] x h = absurd (omega arith)
spot_in (y ∷ a) zero h = refl
spot_in (y ∷ a) (suc x) h = spot_in a x (omega arith)

pub spot-node : (a : List ℕ) (x : ℕ) → length a ≡ 64 → x < 64 → get_or a x 0 ≡ get_or a x 64
spot-node a x n h = spot_in a x (omega arith)

pub spots-none : (l : List ℕ) → Spots l 0 (replicate 64 64)
unfolding spot
spots-none l = record { long = refl; at = same_entries 64 64 }

pub spots-more : {l : List ℕ} {i : ℕ} {a : List ℕ} → get_or l i 0 < 64 → Spots l i a → Spots l (i + 1) (set a (get_or l i 0) i)
unfolding spot
spots-more {l} {i} {a} h p = rw (add-one i) (record { long = length-set a y i ∙ p.long; at = λ x. decided (eqb y x) (here x) (there x) })
  where
    y : ℕ
    y = get_or l i 0

    here : (x : ℕ) → eqb y x ≡ true → get_or (set a y i) x 64 ≡ cond (eqb y x) i (spot l i x)
    here x e = rw (e, ← eqb-true y x e) (get_or-set_same a y i 64 (omega (arith, h, p.long)))

    there : (x : ℕ) → eqb y x ≡ false → get_or (set a y i) x 64 ≡ cond (eqb y x) i (spot l i x)
    there x e = rw e (get_or-set_other a y x i 64 (λ z. eqb-false y x e (sym z)) ∙ p.at x)

-- ---- x is on the route exactly if its spot is one of the stops

pub record Found (l : List ℕ) (lo hi x : ℕ) : Type 0 where
  pub i : ℕ
  pub low : lo ≤ i
  pub high : i < hi
  pub is : get_or l i 0 ≡ x

pub spot-cases : (l : List ℕ) (n x : ℕ) → ((spot l n x ≡ 64) × ((k : ℕ) → k < n → get_or l k 0 ≡ x → ⊥)) ⊎ ((spot l n x < n) × (get_or l (spot l n x) 0 ≡ x))
unfolding spot
spot-cases l zero x = inl (refl, λ k h e. absurd (omega arith))
spot-cases l (suc n) x =
    decided (eqb (get_or l n 0) x) (λ e. rw e (inr (omega arith, eqb-true (get_or l n 0) x e))) (λ e. rw e (go (eqb-false (get_or l n 0) x e) (spot-cases l n x)))
  where
    go : (get_or l n 0 ≡ x → ⊥) → ((spot l n x ≡ 64) × ((k : ℕ) → k < n → get_or l k 0 ≡ x → ⊥)) ⊎ ((spot l n x < n) × (get_or l (spot l n x) 0 ≡ x))
        → ((spot l n x ≡ 64) × ((k : ℕ) → k < suc n → get_or l k 0 ≡ x → ⊥)) ⊎ ((spot l n x < suc n) × (get_or l (spot l n x) 0 ≡ x))
    go f (inl p) =
        inl (p.0, λ k h e. decided (eqb k n) (λ q. f (ap (λ (j : ℕ). get_or l j 0) (sym (eqb-true k n q)) ∙ e)) (λ q. p.1 k (omega (arith, eqb-false k n q)) e))
    go f (inr p) = inr (omega (arith, p.0), p.1)

-- no node stands at two stops
same_stop : {k : ℕ} {l : List ℕ} → Distinct k l → (i j : ℕ) → i < length l → j < length l → get_or l i 0 ≡ get_or l j 0 → i ≡ j
same_stop {l = l} g i j h k e =
    decided (ltb i j) (λ q. absurd (eqb-false (get_or l i 0) (get_or l j 0) (stops-apart g i j (ltb-true i j q) k) e))
    (λ q. decided (ltb j i) (λ r. absurd (eqb-false (get_or l j 0) (get_or l i 0) (stops-apart g j i (ltb-true j i r) h) (sym e)))
    (λ r. omega (arith, ltb-false i j q, ltb-false j i r)))

pub node-low : {k : ℕ} {l : List ℕ} → Distinct k l → (i : ℕ) → i < length l → get_or l i 0 < k
node-low none i h = absurd (omega arith)
node-low (more a b d) zero h = a
node-low (more a b d) (suc i) h = node-low d i (omega arith)

-- ---- membership in what is behind and ahead, by index

pub behind-found : (x : ℕ) (l : List ℕ) (k : ℕ) → T (mem x (behind l k)) → Found l 0 k x
behind-found x l zero t = absurd t
behind-found x l (suc k) t =
    ⊎_elim (λ e. record { i = k; low = omega arith; high = omega arith; is = eqb→eq (get_or l k 0) x e })
    (λ u. let f = behind-found x l k u in record { i = f.i; low = f.low; high = omega (arith, f.high); is = f.is })
    (or-e (eqb (get_or l k 0) x) (mem x (behind l k)) t)

pub found-behind : (x : ℕ) (l : List ℕ) (k : ℕ) → Found l 0 k x → T (mem x (behind l k))
found-behind x l zero f = absurd (omega (arith, f.high))
found-behind x l (suc k) f =
    decided (eqb f.i k)
    (λ e. or_l (eqb (get_or l k 0) x) (mem x (behind l k)) (true→T _ (eq-eqb (get_or l k 0) x (ap (λ (j : ℕ). get_or l j 0) (sym (eqb-true f.i k e)) ∙ f.is))))
    (λ e. or_r (eqb (get_or l k 0) x) (mem x (behind l k)) (found-behind x l k (record { i = f.i; low = f.low; high = omega (arith, f.high, eqb-false f.i k e); is = f.is })))

pub mem-found : (x : ℕ) (l : List ℕ) → T (mem x l) → Found l 0 (length l) x
mem-found x [] t = absurd t
mem-found x (y ∷ l) t =
    ⊎_elim (λ e. record { i = 0; low = omega arith; high = omega arith; is = eqb→eq y x e })
    (λ u. let f = mem-found x l u in record { i = suc f.i; low = omega arith; high = omega (arith, f.high); is = f.is })
    (or-e (eqb y x) (mem x l) t)

pub drop-found : (x : ℕ) (l : List ℕ) (k : ℕ) → T (mem x (drop k l)) → Found l k (length l) x
drop-found x l zero t = mem-found x l t
drop-found x [] (suc k) t = absurd t
drop-found x (y ∷ l) (suc k) t =
    let f = drop-found x l k t in record { i = suc f.i; low = omega (arith, f.low); high = omega (arith, f.high); is = f.is }

found-tail : (y : ℕ) (l : List ℕ) (k x : ℕ) → Found (y ∷ l) (suc k) (length (y ∷ l)) x → Found l k (length l) x
found-tail y l k x f = go f.i f.low f.high f.is
  where
    go : (i : ℕ) → suc k ≤ i → i < length (y ∷ l) → get_or (y ∷ l) i 0 ≡ x → Found l k (length l) x
    go zero a b e = absurd (omega arith)
    go (suc i) a b e = record { i = i; low = omega arith; high = omega arith; is = e }

pub found_drop : (x : ℕ) (l : List ℕ) (k : ℕ) → Found l k (length l) x → T (mem x (drop k l))
found_drop x l zero f = subst (λ (v : ℕ). T (mem v l)) f.is (mem-at l f.i f.high)
found_drop x [] (suc k) f = absurd (omega (arith, f.high))
found_drop x (y ∷ l) (suc k) f = found_drop x l k (found-tail y l k x f)

-- who is behind the n-th stop is on the route of n stops
pub behind-on : (l : List ℕ) (n : ℕ) → n ≤ length l → (x : ℕ) → mem x (behind l n) ≡ mem x (take n l)
behind-on l n h x =
    T-ext (mem x (behind l n)) (mem x (take n l))
    (λ t. let f = behind-found x l n t in
    subst (λ (v : ℕ). T (mem v (take n l))) (get_or-take n l f.i 0 f.high ∙ f.is) (mem-at (take n l) f.i (omega (arith, f.high, size))))
    (λ t. let f = mem-found x (take n l) t in let b : f.i < n = omega (arith, f.high, size) in
    found-behind x l n (record { i = f.i; low = f.low; high = b; is = sym (get_or-take n l f.i 0 b) ∙ f.is }))
  where
    size : length (take n l) ≡ n
    size = simp length-take (omega arith)

-- ---- who is behind a stop, and who ahead

-- the i-th leg leads on to the stop k of a route
abbrev leads_to : ℕ → ℕ → Bool
leads_to i k = ltb i k && ltb k 64

ltb-leb : (a b : ℕ) → ltb a (suc b) ≡ leb a b
ltb-leb a b = T-ext (ltb a (suc b)) (leb a b) (λ t. le→leb a b (omega (arith, ltb→lt a (suc b) t))) (λ t. lt→ltb a (suc b) (omega (arith, leb→le a b t)))

module _ (l : List ℕ) (n : ℕ) (most : n ≤ 64) (fits : n ≤ length l) {k : ℕ} (nodes : Distinct k (take n l)) where
  abbrev m : List ℕ
  m = take n l

  size : length m ≡ n
  size = simp length-take (omega arith)

  entry : (i : ℕ) → i < n → get_or m i 0 ≡ get_or l i 0
  entry i h = get_or-take n l i 0 h

  pub spot-found : (x k : ℕ) → k < n → get_or m k 0 ≡ x → spot l n x ≡ k
  spot-found x k h e =
      ⊎_elim (λ p. absurd (p.1 k h (sym (entry k h) ∙ e)))
      (λ p. same_stop nodes (spot l n x) k (omega (arith, p.0, size)) (omega (arith, size)) (entry (spot l n x) p.0 ∙ p.1 ∙ sym e)) (spot-cases l n x)

  -- x is behind on a leg whose stop is not before its own
  pub spot-behind : (x i : ℕ) → i < n → leb (spot l n x) i ≡ mem x (behind m (suc i))
  spot-behind x i h =
      let k = spot l n x in
      T-ext (leb k i) (mem x (behind m (suc i)))
      (λ t. ⊎_elim (λ p. absurd (omega (arith, p.0, leb→le k i t)))
      (λ p. let high = leb→le k i t in
      found-behind x m (suc i) (record { i = k; low = omega arith; high = omega arith; is = entry k p.0 ∙ p.1 })) (spot-cases l n x))
      (λ t. let f = behind-found x m (suc i) t in le→leb k i (omega (arith, f.high, spot-found x f.i (omega (arith, f.high)) f.is)))

  -- and ahead on one that leads to it
  pub spot-ahead : (x i : ℕ) → leads_to i (spot l n x) ≡ mem x (drop (suc i) m)
  spot-ahead x i =
      let k = spot l n x in
      T-ext (leads_to i k) (mem x (drop (suc i) m))
      (λ t. let low = ltb→lt i k (and_l (ltb i k) (ltb k 64) t) in
      ⊎_elim (λ p. absurd (omega (arith, p.0, ltb→lt k 64 (and_r (ltb i k) (ltb k 64) t))))
      (λ p. found_drop x m (suc i) (record { i = k; low = low; high = omega (arith, p.0, size); is = entry k p.0 ∙ p.1 })) (spot-cases l n x))
      (λ t. let f = drop-found x m (suc i) t in let e = spot-found x f.i (omega (arith, f.high, size)) f.is in
      and_i (ltb i k) (ltb k 64) (lt→ltb i k (omega (arith, e, f.low))) (lt→ltb k 64 (omega (arith, e, f.high, size))))

  -- behind a stop are those whose own stop is before it
  pub spot-before : (x i : ℕ) → i ≤ n → ltb (spot l n x) i ≡ mem x (behind m i)
  spot-before x zero h = le-ltb (spot l n x) 0 (omega arith)
  spot-before x (suc i) h = ltb-leb (spot l n x) i ∙ spot-behind x i h

-- one array for a route: what the contract of `spots::spots` allows
pub spots-once : {l : List ℕ} {n : ℕ} {a b : List ℕ} → Spots l n a → Spots l n b → a ≡ b
spots-once {a = a} {b} p q = ext_get_or 64 a b (p.long ∙ sym q.long) (λ x h. p.at x ∙ sym (q.at x))
