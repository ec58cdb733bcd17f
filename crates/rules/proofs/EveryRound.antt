-- `every_round` has every round of the day exactly once, and `belongs` is `Belongs` as a test: so a count over it is a count of rounds.
use mathlib.Core.Path.{◌≡◌, refl, subst, sym, ap, ◌∙◌}
use Prim.Native.Nat.{ℕ, zero, suc, ◌-◌, ◌≤◌, ◌<◌}
use native.Mathlib.Omega.{arith}
use mathlib.Core.Bool.{Bool, true, false, cond, not, ◌||◌}
use mathlib.Core.List.{List, [], ◌∷◌, map, head-eq_of_cons-eq, tail-eq_of_cons-eq}
use mathlib.Core.Logic.{◌⊎◌, inl, inr, ⊎_elim, ◌↔◌, ◌≢◌}
use lib.Dec.{T, T_not, not_T, eqb, eqb→eq, eqb_refl}
use lib.ListN.{length}
use Rattle.laws.proofs.Logic.{T→true, N→false, or_l, or-e, tf, not-or-i, neqb}
use Rattle.laws.proofs.Lists.{mem-in, in_mem, Sub, nil, keep, skip, sub_refl, mem-sub, mem-hd, mem-tl, mem-ne, mem-rest}
use Rattle.laws.specs.Basic.{mem, In, here, there}
use Rattle.laws.proofs.Once.{Once, clear, new, in-none, in-cons, append-in, in-append-l, in-append-r, once-append, Image, in_map, map-in, once-map}
use Rattle.rules.specs.Day.{Day, down_from, inner}
use Rattle.rules.specs.Rounds.{Distinct, none, more}
use Rattle.rules.specs.Asked.{ends_with}
use Rattle.rules.specs.Every.{RoundOf, less, concat_map, tails, every_round}
use Rattle.rules.proofs.Inner.{down_mem, mem-down}
use Rattle.rules.proofs.Nodes.{distinct_tail, distinct-off, off-sub, distinct-sub}

-- ---- the inner nodes

distinct-down : (n m : ℕ) → m < n → Distinct n (down_from m)
distinct-down n zero h = none
distinct-down n (suc m) h =
    more h (not_T (mem (suc m) (down_from m)) (λ t. let q = down_mem m (suc m) t in omega (arith, q))) (distinct-down n m (omega arith))

-- ---- a list without a node

pub less-sub : (x : ℕ) (l : List ℕ) → Sub (less x l) l
less-sub x [] = nil
less-sub x (y ∷ l) = go (eqb y x) (less-sub x l)
  where
    go : (b : Bool) → Sub (less x l) l → Sub (cond b l (y ∷ less x l)) (y ∷ l)
    go true s = skip (sub_refl l)
    go false s = keep s

length-less : (x : ℕ) (l : List ℕ) → T (mem x l) → length l ≡ suc (length (less x l))
length-less x [] h = absurd h
length-less x (y ∷ l) h = go (eqb y x) h (length-less x l)
  where
    go : (b : Bool) → T (b || mem x l) → (T (mem x l) → length l ≡ suc (length (less x l))) → suc (length l) ≡ suc (length (cond b l (y ∷ less x l)))
    go true t f = refl
    go false t f = ap suc (f t)

mem-less : (x y : ℕ) (l : List ℕ) → T (not (eqb x y)) → T (mem y l) → T (mem y (less x l))
mem-less x y [] n h = h
mem-less x y (z ∷ l) n h = go (eqb z x) (λ e. eqb→eq z x e) (mem-less x y l n)
  where
    go : (b : Bool) → (T b → z ≡ x) → (T (mem y l) → T (mem y (less x l))) → T (mem y (cond b l (z ∷ less x l)))
    go true e f = mem-rest y z l (subst (λ (k : ℕ). T (not (eqb k y))) (sym (e tt)) n) h
    go false e f = ⊎_elim (or_l (eqb z y) (mem y (less x l))) (λ k. mem-tl y z (less x l) (f k)) (or-e (eqb z y) (mem y l) h)

less-off : {n : ℕ} (x : ℕ) {l : List ℕ} → Distinct n l → T (not (mem x (less x l)))
less-off x none = tt
less-off x (more {x = y} {l = l} a b g) = go (tf (eqb y x)) (less-off x g)
  where
    go : T (eqb y x) ⊎ T (not (eqb y x)) → T (not (mem x (less x l))) → T (not (mem x (less x (y ∷ l))))
    go (inl e) f = subst (λ (c : Bool). T (not (mem x (cond c l (y ∷ less x l))))) (sym (T→true (eqb y x) e)) (subst (λ (k : ℕ). T (not (mem k l))) (eqb→eq y x e) b)
    go (inr m) f = subst (λ (c : Bool). T (not (mem x (cond c l (y ∷ less x l))))) (sym (N→false (eqb y x) m)) (not-or-i (eqb y x) (mem x (less x l)) m f)

-- ---- what may follow the start

-- an order of some of the nodes l, then e
pub data Tail (e : ℕ) : List ℕ → List ℕ → Type 0 where
  last : {l : List ℕ} → Tail e l (e ∷ [])
  next : {x : ℕ} {l t : List ℕ} → T (mem x l) → Tail e (less x l) t → Tail e l (x ∷ t)

-- y is an entry of the list of one x of l
record Origin (F : ℕ → List (List ℕ)) (l : List ℕ) (y : List ℕ) : Type 0 where
  x : ℕ
  at : In x l
  among : In y (F x)

module _ (F : ℕ → List (List ℕ)) where
  in-concat : {x : ℕ} {l y : List ℕ} → In x l → In y (F x) → In y (concat_map F l)
  in-concat (here {l = l}) j = in-append-l (concat_map F l) j
  in-concat (there {b = b} i) j = in-append-r (F b) (in-concat i j)

  concat-in : (l : List ℕ) {y : List ℕ} → In y (concat_map F l) → Origin F l y
  concat-in [] i = absurd (in-none i)
  concat-in (x ∷ l) {y} i = ⊎_elim (λ j. record { x = x; at = here; among = j }) (λ j. let u = concat-in l j in record { x = u.x; at = there u.at; among = u.among }) (append-in (F x) i)

  once-concat : {n : ℕ} {l : List ℕ} → Distinct n l → ((x : ℕ) → In x l → Once (F x)) → ((x y : ℕ) (t : List ℕ) → In t (F x) → In t (F y) → x ≡ y) → Once (concat_map F l)
  once-concat none f g = clear
  once-concat (more {x = x} {l = l} a b h) f g =
      once-append (F x) (f x here) (once-concat h (λ y i. f y (there i)) g)
      (λ t i j. let u = concat-in l j in T_not (mem x l) b (in_mem (subst (λ (k : ℕ). In k l) (sym (g x u.x t i u.among)) u.at)))

module _ (e : ℕ) where
  -- the lists that begin with x, of those that follow it
  abbrev after : ℕ → List ℕ → ℕ → List (List ℕ)
  after f l x = map (λ t. x ∷ t) (tails f e (less x l))

  tails-tail : (f : ℕ) (l t : List ℕ) → In t (tails f e l) → Tail e l t
  tails-tail zero l t i = ⊎_elim (λ q. subst (λ (k : List ℕ). Tail e l k) (sym q) last) (λ j. absurd (in-none j)) (in-cons i)
  tails-tail (suc f) l t i = ⊎_elim (λ q. subst (λ (k : List ℕ). Tail e l k) (sym q) last)
      (λ j. let u = concat-in (after f l) l j in
      let v = map-in (λ t. u.x ∷ t) (tails f e (less u.x l)) u.among in
      subst (λ (k : List ℕ). Tail e l k) (sym v.is) (next (in_mem u.at) (tails-tail f (less u.x l) v.x v.at))) (in-cons i)

  tail-tails : (f : ℕ) {l t : List ℕ} → length l ≤ f → Tail e l t → In t (tails f e l)
  tail-tails zero h last = here
  tail-tails (suc f) h last = here
  tail-tails zero h (next {x = x} {l = l} m u) = absurd (omega (arith, length-less x l m))
  tail-tails (suc f) h (next {x = x} {l = l} m u) = there (in-concat (after f l) (mem-in x l m) (in_map (λ t. x ∷ t) (tail-tails f (omega (arith, length-less x l m)) u)))

  once-tails : {n : ℕ} (f : ℕ) {l : List ℕ} → Distinct n l → T (not (mem e l)) → Once (tails f e l)
  once-tails zero g h = new in-none clear
  once-tails (suc f) {l} g h =
      new first
      (once-concat (after f l) g
      (λ x i. once-map (λ t. x ∷ t) (λ a b q. tail-eq_of_cons-eq q) (once-tails f (distinct-sub (less-sub x l) g) (off-sub e (less-sub x l) h)))
      (λ x y t i j. head x y t (map-in (λ t. x ∷ t) (tails f e (less x l)) i) (map-in (λ t. y ∷ t) (tails f e (less y l)) j)))
    where
      first : In (e ∷ []) (concat_map (after f l) l) → ⊥
      first i =
          let u = concat-in (after f l) l i in
          let v = map-in (λ t. u.x ∷ t) (tails f e (less u.x l)) u.among in
          T_not (mem e l) h (in_mem (subst (λ (k : ℕ). In k l) (sym (head-eq_of_cons-eq v.is)) u.at))

      head : (x y : ℕ) (t : List ℕ) → Image (λ t. x ∷ t) (tails f e (less x l)) t → Image (λ t. y ∷ t) (tails f e (less y l)) t → x ≡ y
      head x y t u v = head-eq_of_cons-eq (sym u.is ∙ v.is)

-- ---- such orders and rounds

pub ends-cons : (e x : ℕ) (t : List ℕ) → T (ends_with e t) → T (ends_with e (x ∷ t))
ends-cons e x [] h = absurd h
ends-cons e x (y ∷ t) h = h

ends-mem : (e : ℕ) (t : List ℕ) → T (ends_with e t) → T (mem e t)
ends-mem e [] h = h
ends-mem e (x ∷ []) h = or_l (eqb x e) false h
ends-mem e (x ∷ y ∷ t) h = mem-tl e x (y ∷ t) (ends-mem e (y ∷ t) h)

low_of : {n : ℕ} (x : ℕ) {l : List ℕ} → Distinct n l → T (mem x l) → x < n
low_of x none h = absurd h
low_of {n} x (more {x = y} {l = l} a b g) h = ⊎_elim (λ e. subst (λ (k : ℕ). k < n) (eqb→eq y x e) a) (low_of x g) (or-e (eqb y x) (mem x l) h)

-- distinct nodes, e the last of them, the others of l
record Order (n e : ℕ) (l t : List ℕ) : Type 0 where
  nodes : Distinct n t
  ends : T (ends_with e t)
  others : (y : ℕ) → T (mem y t) → (e ≡ y) ⊎ T (mem y l)

tail-order : {n e : ℕ} {l t : List ℕ} → e < n → Distinct n l → T (not (mem e l)) → Tail e l t → Order n e l t
tail-order {e = e} a g h last = record { nodes = more a tt none; ends = eqb_refl e; others = λ y m. inl (eqb→eq e y (⊎_elim (λ q. q) (λ f. absurd f) (or-e (eqb e y) false m))) }
tail-order {e = e} a g h (next {x = x} {l = l} {t = t} m u) =
    let s = less-sub x l in
    let k = tail-order a (distinct-sub s g) (off-sub e s h) u in
    record {
      nodes = more (low_of x g m) (not_T (mem x t) (λ q. ⊎_elim (λ p. T_not (mem e l) h (subst (λ (c : ℕ). T (mem c l)) (sym p) m)) (T_not (mem x (less x l)) (less-off x g)) (k.others x q))) k.nodes;
      ends = ends-cons e x t k.ends;
      others = λ y q. ⊎_elim (λ p. inr (subst (λ (c : ℕ). T (mem c l)) (eqb→eq x y p) m)) (λ p. ⊎_elim inl (λ i. inr (mem-sub y s i)) (k.others y p)) (or-e (eqb x y) (mem y t) q);
    }

order-tail : {n e : ℕ} (t : List ℕ) {l : List ℕ} → Distinct n t → T (ends_with e t) → ((y : ℕ) → T (mem y t) → (e ≡ y) ⊎ T (mem y l)) → Tail e l t
order-tail [] g h f = absurd h
order-tail {e = e} (x ∷ []) {l = l} g h f = subst (λ (k : ℕ). Tail e l (k ∷ [])) (sym (eqb→eq x e h)) last
order-tail {e = e} (x ∷ y ∷ t) {l = l} (more a b g) h f =
    next (⊎_elim (λ q. absurd (T_not (mem x (y ∷ t)) b (subst (λ (k : ℕ). T (mem k (y ∷ t))) q (ends-mem e (y ∷ t) h)))) (λ m. m) (f x (mem-hd x (y ∷ t))))
    (order-tail (y ∷ t) g h (λ w m. ⊎_elim inl (λ i. inr (mem-less x w l (mem-ne x w (y ∷ t) b m) i)) (f w (mem-tl w x (y ∷ t) m))))

module _ (d : Day) (two : 2 ≤ d.n) where
  end-off : T (not (mem (d.n - 1) (inner d)))
  end-off = not_T (mem (d.n - 1) (inner d)) (λ t. let q = down_mem (d.n - 2) (d.n - 1) t in omega (arith, q))

  low-inner : Distinct d.n (inner d)
  low-inner = distinct-down d.n (d.n - 2) (omega arith)

  length-down : (m : ℕ) → length (down_from m) ≡ m
  length-down zero = refl
  length-down (suc m) = ap suc (length-down m)

  order-round : {t : List ℕ} → Order d.n (d.n - 1) (inner d) t → RoundOf d (0 ∷ t)
  order-round {t} k = record {
    nodes = more {x = 0} (omega arith) (not_T (mem 0 t) (λ q. ⊎_elim (λ p. omega (arith, p)) (λ i. let w = down_mem (d.n - 2) 0 i in omega (arith, w)) (k.others 0 q))) k.nodes;
    starts = refl;
    ends = ends-cons (d.n - 1) 0 t k.ends;
  }

  -- the stops of a round after its start: wards, each once, then the end
  pub round-tail : (x : ℕ) (t : List ℕ) → RoundOf d (x ∷ t) → Tail (d.n - 1) (inner d) t
  round-tail x [] k = let q = eqb→eq x (d.n - 1) k.ends in absurd (omega (arith, q, k.starts))
  round-tail x (y ∷ t) k = order-tail (y ∷ t) (distinct_tail k.nodes) k.ends others
    where
      others : (w : ℕ) → T (mem w (y ∷ t)) → (d.n - 1 ≡ w) ⊎ T (mem w (inner d))
      others w m =
          let low = low_of w (distinct_tail k.nodes) m in
          let ne : x ≢ w = neqb x w (mem-ne x w (y ∷ t) (distinct-off k.nodes) m) in
          ⊎_elim (λ e. inl (eqb→eq (d.n - 1) w e)) (λ n. let q = neqb (d.n - 1) w n in inr (mem-down (d.n - 2) w (omega (arith, ne, k.starts)) (omega (arith, q, low)))) (tf (eqb (d.n - 1) w))

  -- every round of the day, and nothing else
  pub every-round : (R : List ℕ) → In R (every_round d) ↔ RoundOf d R
  unfolding every_round
  every-round R = (
    λ i. let u = map-in (λ t. 0 ∷ t) (tails (d.n - 2) (d.n - 1) (inner d)) i in
        subst (RoundOf d) (sym u.is) (order-round (tail-order (omega arith) low-inner end-off (tails-tail (d.n - 1) (d.n - 2) (inner d) u.x u.at))),
    listed R,
  )
    where
      listed : (R : List ℕ) → RoundOf d R → In R (map (λ t. 0 ∷ t) (tails (d.n - 2) (d.n - 1) (inner d)))
      listed [] k = absurd k.ends
      listed (x ∷ t) k =
          subst (λ (z : ℕ). In (z ∷ t) (map (λ t. 0 ∷ t) (tails (d.n - 2) (d.n - 1) (inner d)))) (sym k.starts)
          (in_map (λ t. 0 ∷ t) (tail-tails (d.n - 1) (d.n - 2) (omega (arith, length-down (d.n - 2))) (round-tail x t k)))

  -- each once
  pub every-once : Once (every_round d)
  unfolding every_round
  every-once = once-map (λ t. 0 ∷ t) (λ a b q. tail-eq_of_cons-eq q) (once-tails (d.n - 1) (d.n - 2) low-inner end-off)
