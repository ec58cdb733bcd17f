-- Where every leg has room, a ride is on from the first leg on at which the partner is met, or up to the last: all other legs go at once.
use mathlib.Core.Path.{◌≡◌, refl, sym, ap, ◌∙◌, subst}
use Prim.Native.Nat.{ℕ, zero, suc, min, ◌+◌, ◌-◌, ◌<◌, ◌≤◌, ◌^◌}
use mathlib.Core.Bool.{Bool, true, false, not, ◌&&◌, ◌||◌, or-true, or_comm, not-not}
use mathlib.Core.List.{List}
use mathlib.Core.Logic.{◌↔◌}
use native.Mathlib.Numerals.{add-one}
use native.Mathlib.Omega.{arith}
use lib.Dec.{T, leb, ltb, eqb, eqb→eq, lt→ltb, ltb→lt}
use lib.ListN.{get_or, set, replicate, length-set}
use lib.Seq.{get_or-set_same, get_or-set_other}
use borrow.Author.Tests.{eqb-true, eqb-false, eq-eqb, ne_eqb, ltb-true, ltb-false, lt-ltb, le-ltb, leb-true, leb-false}
use Rattle.laws.specs.Basic.{any_below}
use Rattle.laws.proofs.Logic.{decided, by-test, T→true, true→T, T-ext, and_i, and_l, and_r}
use Rattle.laws.proofs.AnyLaws.{any-below-i, any-below-e}
use Rattle.laws.proofs.Turned.{get_d_any}
use Rattle.bits.specs.Places.{has, with, minus}
use Rattle.bits.proofs.Members.{has-none, has-with, has-high}
use Rattle.bits.proofs.Masks.{has-minus, minus-fits}
use Rattle.walks.specs.declared.Ride.{Ride}
use Rattle.walks.specs.declared.Partner.{Partner}
use Rattle.walks.specs.Walks.{Kept, walk_up, walk_down, fits_at, met_behind, met_ahead, rides_up, rides_down, Legs, Before, Marked}
use Rattle.walks.proofs.Riding.{roomy}

-- ---- the sets before the stops

pub before-none : (l : List ℕ) → Before l 0 (replicate 64 0)
unfolding any_below
before-none l = record { long = refl; at = λ i h x. let z : i ≡ 0 = omega arith in rw z (has-none x) }

pub before_more : {l : List ℕ} {i : ℕ} {b : List ℕ} {w : ℕ} → get_or l i 0 < 64 → i + 1 < 64 → w ≡ with (get_or b i 0) (get_or l i 0) → Before l i b
    → Before l (i + 1) (set b (i + 1) w)
unfolding any_below
before_more {l} {i} {b} {w} low few e p = record { long = length-set b (i + 1) w ∙ p.long; at = λ j h x. decided (eqb j (i + 1)) (here j x) (there j h x) }
  where
    y : ℕ
    y = get_or l i 0

    here : (j x : ℕ) → eqb j (i + 1) ≡ true → has (get_or (set b (i + 1) w) j 0) x ≡ any_below j (λ k. eqb (get_or l k 0) x)
    here j x t = rw (eqb-true j (i + 1) t) (
        ap (λ (v : ℕ). has v x) (get_or-set_same b (i + 1) w 0 (omega (arith, p.long)) ∙ e) ∙ has-with (get_or b i 0) y x low
        ∙ or_comm (eqb y x) (has (get_or b i 0) x) ∙ ap (λ (c : Bool). c || eqb y x) (p.at i (omega arith) x)
        ∙ ap (λ (k : ℕ). any_below k (λ k. eqb (get_or l k 0) x)) (sym (add-one i)))

    there : (j : ℕ) → j ≤ i + 1 → (x : ℕ) → eqb j (i + 1) ≡ false → has (get_or (set b (i + 1) w) j 0) x ≡ any_below j (λ k. eqb (get_or l k 0) x)
    there j h x t =
        let n = eqb-false j (i + 1) t in
        ap (λ (v : ℕ). has v x) (get_or-set_other b (i + 1) j w 0 n) ∙ p.at j (omega arith) x

-- ---- a word without the nodes of some legs

pub minus-has : {a b r : ℕ} → a < 2 ^ 64 → b < 2 ^ 64 → r ≡ minus a b → (q : ℕ) → has r q ≡ (has a q && not (has b q))
minus-has {a} {b} f g e q = rw e (decided (ltb q 64) (λ t. has-minus a b q g (ltb-true q 64 t))
    (λ t. let h = ltb-false q 64 t in has-high (minus a b) q (minus-fits a b f) h ∙ sym (ap (λ (c : Bool). c && not (has b q)) (has-high a q f h))))

-- v is w without s, which has the nodes of the legs that fail and no other
kept_less : {l : List ℕ} {n : ℕ} {f : ℕ → Bool} {w v : ℕ} (s : ℕ) → ((q : ℕ) → has v q ≡ (has w q && not (has s q)))
    → ((i : ℕ) → i < n → f i ≡ not (has s (get_or l i 0))) → ((q : ℕ) → T (has s q) → T (any_below n (λ i. eqb (get_or l i 0) q))) → Kept l 0 n f w v
kept_less {l} {n} {f} {w} {v} s less e leg = record { at = λ q. (to q, from q) }
  where
    to : (q : ℕ) → T (has v q) → T (has w q) × ((i : ℕ) → 0 ≤ i → i < n → get_or l i 0 ≡ q → T (f i))
    to q t =
        let u = subst (λ (c : Bool). T c) (less q) t in
        (and_l (has w q) (not (has s q)) u, λ i g h z. subst (λ (c : Bool). T c) (ap (λ (k : ℕ). not (has s k)) (sym z) ∙ sym (e i h)) (and_r (has w q) (not (has s q)) u))

    from : (q : ℕ) → T (has w q) × ((i : ℕ) → 0 ≤ i → i < n → get_or l i 0 ≡ q → T (f i)) → T (has v q)
    from q t =
        subst (λ (c : Bool). T c) (sym (less q))
        (and_i (has w q) (not (has s q)) t.0 (by-test (λ (c : Bool). T (not c)) (has s q) (λ u. absurd (gone u)) (λ u. tt)))
      where
        gone : T (has s q) → ⊥
        gone u = any-below-e n (λ i. eqb (get_or l i 0) q) (λ i h z. let y = eqb→eq (get_or l i 0) q z in
            subst (λ (c : Bool). T c) (e i h ∙ ap (λ (k : ℕ). not (has s k)) y ∙ ap not (T→true (has s q) u)) (t.1 i (omega arith) h y)) (leg q u)

module _ {l : List ℕ} {n : ℕ} {a b : List ℕ} (g : Marked l n a b) where
  -- the node of a leg is before the j-th stop exactly if the leg is
  node-before : (i j : ℕ) → i < n → j ≤ n → has (get_or b j 0) (get_or l i 0) ≡ ltb i j
  node-before i j h k =
      g.before.at j k (get_or l i 0) ∙ T-ext _ _
      (any-below-e j _ (λ o c t. lt→ltb i j (omega (arith, c, same o (omega arith) (eqb→eq (get_or l o 0) (get_or l i 0) t)))))
      (λ t. any-below-i j i _ (ltb→lt i j t) (true→T _ (eq-eqb (get_or l i 0) (get_or l i 0) refl)))
    where
      same : (o : ℕ) → o < n → get_or l o 0 ≡ get_or l i 0 → o ≡ i
      same o c e = sym ((g.stop o (get_or l i 0) (omega arith)).0 e) ∙ (g.stop i (get_or l i 0) (omega arith)).0 refl

  -- and only nodes of legs are before a stop
  leg-before : (j : ℕ) → j ≤ n → (q : ℕ) → T (has (get_or b j 0) q) → T (any_below n (λ i. eqb (get_or l i 0) q))
  leg-before j k q t =
      any-below-e j _ (λ i h u. any-below-i n i _ (omega arith) u) (subst (λ (c : Bool). T c) (g.before.at j k q) t)

  module _ {f : ℕ → Bool} {w r : ℕ} (most : r ≤ n) where
    -- the legs before the r-th fail
    pub kept-front : {v : ℕ} → ((q : ℕ) → has v q ≡ (has w q && not (has (get_or b r 0) q))) → ((i : ℕ) → i < n → f i ≡ not (ltb i r)) → Kept l 0 n f w v
    kept-front less is = kept_less (get_or b r 0) less (λ i h. is i h ∙ ap not (sym (node-before i r h most))) (leg-before r most)

    -- the legs from the r-th on fail
    pub kept_back : {v : ℕ} (s : ℕ) → ((q : ℕ) → has s q ≡ (has (get_or b n 0) q && not (has (get_or b r 0) q))) → ((q : ℕ) → has v q ≡ (has w q && not (has s q)))
        → ((i : ℕ) → i < n → f i ≡ ltb i r) → Kept l 0 n f w v
    kept_back s rest less is = kept_less s less (λ i h. is i h ∙ sym (stays i h))
        (λ q t. leg-before n (omega arith) q (and_l (has (get_or b n 0) q) (not (has (get_or b r 0) q)) (subst (λ (c : Bool). T c) (rest q) t)))
      where
        stays : (i : ℕ) → i < n → not (has s (get_or l i 0)) ≡ ltb i r
        stays i h = ap not (rest (get_or l i 0) ∙ (λ k. (node-before i n h (omega arith) ∙ lt-ltb i n h) k && not (node-before i r h most k))) ∙ not-not (ltb i r)

-- ---- where every leg has room; m says that the partner is met on a leg

module _ (f m : ℕ → Bool) (n r : ℕ) (fit : (k : ℕ) → k < n → f k ≡ true) where
  -- r is the first leg at which it is: the flag is on exactly behind that one
  up-met : ((k : ℕ) → k < r → m k ≡ false) → (r < n → m r ≡ true) → (i : ℕ) → i ≤ n → walk_up f m false i ≡ ltb r i
  unfolding walk_up
  up-met none here zero h = sym (le-ltb r 0 (omega arith))
  up-met none here (suc i) h = rw (fit i h, up-met none here i (omega arith)) (decided (ltb r i)
      (λ t. rw t (or-true (m i)) ∙ sym (lt-ltb r (suc i) (omega (arith, ltb-true r i t))))
      (λ t. decided (eqb r i)
      (λ e. let z = eqb-true r i e in rw (← z, here (omega arith)) (sym (lt-ltb r (suc r) (omega arith))))
      (λ e. let z = eqb-false r i e in let o = ltb-false r i t in rw (none i (omega arith), t) (sym (le-ltb r (suc i) (omega arith))))))

  -- r is one more than the last: it is on exactly before it
  down-met : r ≤ n → ((k : ℕ) → r ≤ k → k < n → m k ≡ false) → (0 < r → m (r - 1) ≡ true) → (j i : ℕ) → i + j ≡ n → walk_down f m false i j ≡ ltb i r
  unfolding walk_down
  down-met most none here zero i h = sym (le-ltb i r (omega arith))
  down-met most none here (suc j) i h = rw (fit i (omega arith), down-met most none here j (suc i) (omega arith)) (decided (ltb (suc i) r)
      (λ t. rw t (or-true (m i)) ∙ sym (lt-ltb i r (omega (arith, ltb-true (suc i) r t))))
      (λ t. decided (eqb r (suc i))
      (λ e. let z = eqb-true r (suc i) e in let y : r - 1 ≡ i = omega arith in rw (sym (ap m y) ∙ here (omega arith)) (sym (lt-ltb i r (omega arith))))
      (λ e. let z = eqb-false r (suc i) e in let o = ltb-false (suc i) r t in rw (none i (omega arith) (omega arith), t) (sym (le-ltb i r (omega arith))))))

module _ {l h : List ℕ} {ride : Ride} (g : Legs l h ride) (room : ride.highest + ride.load ≤ ride.capacity) {a b : List ℕ} (k : Marked l ride.legs a b)
    (y : Partner) (near : y.node < 64) where
  abbrev n : ℕ
  n = ride.legs

  -- where the partner stands, as the array of stops has it
  at-stop : {stop : ℕ} → stop ≡ get_or a y.node 0 → (i : ℕ) → i ≤ n → (get_or l i 0 ≡ y.node) ↔ (stop ≡ i)
  at-stop e i h = rw (e, get_d_any a y.node 0 64 (omega (arith, k.long))) (k.stop i y.node h)

  module _ {stop end r : ℕ} (e : stop ≡ get_or a y.node 0) (z : end ≡ min stop n)
      (p : (r ≤ end) × ((i : ℕ) → i < r → has y.places (get_or l i 0) ≡ false) × (r < end → has y.places (get_or l r 0) ≡ true)) where
    -- the ride is on from the first leg on at which the partner is met
    pub first-rides : (i : ℕ) → i < n → rides_up l h ride y i ≡ not (ltb i r)
    unfolding rides_up
    first-rides i c = up-met (fits_at h ride) (met_behind l y) n r (roomy g room) none here (i + 1) (omega arith) ∙ turned
      where
        none : (j : ℕ) → j < r → met_behind l y j ≡ false
        none j d = rw (ne_eqb (get_or l j 0) y.node (λ q. absurd (omega (arith, d, p.0, (at-stop e j (omega (arith, d, p.0))).0 q))), p.1 j d) refl

        here : r < n → met_behind l y r ≡ true
        here d = decided (ltb r end) (λ t. rw (p.2 (ltb-true r end t)) (or-true (eqb (get_or l r 0) y.node)))
            (λ t. let o = ltb-false r end t in rw (eq-eqb (get_or l r 0) y.node ((at-stop e r (omega arith)).1 (omega (arith, d, o, p.0)))) refl)

        turned : ltb r (i + 1) ≡ not (ltb i r)
        turned = decided (ltb i r) (λ t. rw t (le-ltb r (i + 1) (omega (arith, ltb-true i r t)))) (λ t. rw t (lt-ltb r (i + 1) (omega (arith, ltb-false i r t))))

  module _ {stop start r : ℕ} (e : stop ≡ get_or a y.node 0) (stands : stop ≤ n → start ≡ stop) (away : n < stop → start ≡ 0)
      (p : (start ≤ r) × (r ≤ n) × ((i : ℕ) → r ≤ i → i < n → has y.places (get_or l i 0) ≡ false) × (start < r → has y.places (get_or l (r - 1) 0) ≡ true)) where
    -- and up to the last
    pub last-rides : (i : ℕ) → i < n → rides_down l h ride y i ≡ ltb i r
    unfolding rides_down
    last-rides i c = down-met (fits_at h ride) (met_ahead l y) n r (roomy g room) p.1 none here (n - i) i (omega arith)
      where
        none : (j : ℕ) → r ≤ j → j < n → met_ahead l y j ≡ false
        none j o d = rw (
          ne_eqb (get_or l (j + 1) 0) y.node
              (λ q. let u = (at-stop e (j + 1) (omega arith)).0 q in absurd (omega (arith, o, u, p.0, stands (omega arith)))),
          p.2 j o d,
        ) refl

        here : 0 < r → met_ahead l y (r - 1) ≡ true
        here d = decided (ltb start r) (λ t. rw (p.3 (ltb-true start r t)) (or-true (eqb (get_or l (r - 1 + 1) 0) y.node)))
            (λ t. let o = ltb-false start r t in
            decided (leb stop n)
            (λ u. let s = leb-true stop n u in rw (eq-eqb (get_or l (r - 1 + 1) 0) y.node ((at-stop e (r - 1 + 1) (omega (arith, p.1))).1 (omega (arith, d, o, p.0, stands s)))) refl)
            (λ u. absurd (omega (arith, d, o, p.0, away (leb-false stop n u)))))
