-- Each change keeps the form: a set of present legs put for a node off the route, a mark of either sort put or taken off, a placing, a placing undone.
use mathlib.Core.Path.{◌≡◌, refl, ap, sym, ◌∙◌, subst}
use mathlib.Core.Bool.{Bool, true, false, cond, not, ◌&&◌, and-false, or-true}
use mathlib.Core.List.{List, map}
use Prim.Native.Nat.{ℕ, suc, ◌+◌, ◌-◌, ◌≤◌, ◌<◌}
use native.Mathlib.Omega.{arith}
use lib.ListN.{length, get_or, set, length-set, length-map}
use lib.Seq.{get_or-set_same, get_or-set_other}
use lib.Dec.{eqb, ltb}
use borrow.Author.Tests.{eqb-true, eqb-false, eq-eqb, ltb-true, ltb-false}
use Rattle.laws.proofs.Logic.{decided}
use Rattle.laws.proofs.Sweep.{get_d_map}
use Rattle.bits.specs.Places.{has, with, without, within}
use Rattle.bits.proofs.Members.{false-true, has-none, with-other, without-part, without-same, without_other, without-no, within_has, within-make}
use Rattle.rules.specs.Day.{is_inner}
use Rattle.rules.proofs.Inner.{is-inner}
use Rattle.board.specs.Route.{index_of, insert_in, remove_in}
use Rattle.board.proofs.RouteLaws.{length-insert, insert-at, insert-under, insert-above, length-remove, remove-under, remove-above, remove-last}
use Rattle.board.specs.Board.{Board, board, route_of, on_route, legs_of, set_of}
use Rattle.board.specs.Form.{set_ok, only_inner, mark_ok, must_ok}
use Rattle.board.specs.Change.{heir, strike, put_set, placed_after, marked, unplaced, unmarked, obliged, unobliged}
use Rattle.board.proofs.FormLaws.{off_at, on-at, off-make, place_in, place_at, place-one, leg-inside, inner-inside, room-left, leg-at, leg-make}
use Rattle.board.specs.Held.{Splits, Routed, FormedBoard, Wide}

-- ---- a set

pub put_same : (b : Board) (x w : ℕ) → x < length b.sets → set_of (put_set b x w) x ≡ w
unfolding set_of put_set
put_same b x w h = get_or-set_same b.sets x w 0 h

pub put_other : (b : Board) (x w y : ℕ) → (y ≡ x → ⊥) → set_of (put_set b x w) y ≡ set_of b y
unfolding set_of put_set
put_other b x w y d = get_or-set_other b.sets x y w 0 d

pub put-wide : (b : Board) (x w : ℕ) → Wide b → Wide (put_set b x w)
unfolding put_set
put-wide b x w h = record { route = h.route; sets = length-set b.sets x w ∙ h.sets }

-- a set of present legs for an inner node off the route: smaller or larger, the form stays
pub put-formed : (n : ℕ) (b : Board) (x w : ℕ) → Wide b → FormedBoard n b → x < 64 → is_inner n x ≡ true → on_route b x ≡ false
    → within w (legs_of b) ≡ true → FormedBoard n (put_set b x w)
unfolding set_ok put_set on_route route_of legs_of mark_ok must_ok
put-formed n b x w h f s i o e = record {
  route = record { two = f.route.two; most = f.route.most; start = f.route.start; end = f.route.end; below = f.route.below; once = f.route.once; past = f.route.past };
  sets = λ y l. decided (eqb y x)
      (λ q. rw (eqb-true y x q, put_same b x w (omega (arith, h.sets)), i, o) e)
      (λ q. rw (put_other b x w y (eqb-false y x q)) (f.sets y l));
  marks = f.marks;
  must = f.must;
}

-- ---- a mark, of either sort

-- inner nodes, and one more of them
only-with : (n w x : ℕ) → is_inner n x ≡ true → ((y : ℕ) → y < 64 → only_inner n w y ≡ true) → (y : ℕ) → y < 64 → only_inner n (with w x) y ≡ true
unfolding only_inner
only-with n w x i f y l =
    decided (eqb y x) (λ q. rw (eqb-true y x q, i) (or-true (not (has (with w x) x))))
    (λ q. rw (with-other w x y (eqb-false y x q)) (f y l))

-- inner nodes, and one fewer
only-without : (n w x : ℕ) → ((y : ℕ) → y < 64 → only_inner n w y ≡ true) → (y : ℕ) → y < 64 → only_inner n (without w x) y ≡ true
unfolding only_inner
only-without n w x f y l =
    decided (has (without w x) y)
    (λ h. rw h (rw (without-part w x y h) at (f y l)))
    (λ h. rw h)

pub only-inner : (n w y : ℕ) → only_inner n w y ≡ true → has w y ≡ true → is_inner n y ≡ true
unfolding only_inner
only-inner n w y e h = rw h at e

-- the marks change and are only on inner nodes: the form stays
marks-formed : (n : ℕ) (b : Board) (m k : ℕ) → FormedBoard n b → ((y : ℕ) → y < 64 → only_inner n m y ≡ true) → ((y : ℕ) → y < 64 → only_inner n k y ≡ true)
    → FormedBoard n (board b.route b.stops b.sets m k)
unfolding set_ok on_route route_of legs_of mark_ok must_ok set_of
marks-formed n b m k f g h = record {
  route = record { two = f.route.two; most = f.route.most; start = f.route.start; end = f.route.end; below = f.route.below; once = f.route.once; past = f.route.past };
  sets = f.sets;
  marks = g;
  must = h;
}

-- marks of either sort are only on inner nodes
marks-only : (n : ℕ) (b : Board) → FormedBoard n b → (y : ℕ) → y < 64 → only_inner n b.marks y ≡ true
unfolding mark_ok
marks-only n b f y l = f.marks y l

must-only : (n : ℕ) (b : Board) → FormedBoard n b → (y : ℕ) → y < 64 → only_inner n b.must y ≡ true
unfolding must_ok
must-only n b f y l = f.must y l

pub mark-inner : (n : ℕ) (b : Board) → FormedBoard n b → (y : ℕ) → y < 64 → has b.marks y ≡ true → is_inner n y ≡ true
mark-inner n b f y l h = only-inner n b.marks y (marks-only n b f y l) h

pub must-inner : (n : ℕ) (b : Board) → FormedBoard n b → (y : ℕ) → y < 64 → has b.must y ≡ true → is_inner n y ≡ true
must-inner n b f y l h = only-inner n b.must y (must-only n b f y l) h

pub marked-formed : (n : ℕ) (b : Board) (x : ℕ) → FormedBoard n b → is_inner n x ≡ true → FormedBoard n (marked b x)
unfolding marked
marked-formed n b x f i = marks-formed n b (with b.marks x) b.must f (only-with n b.marks x i (marks-only n b f)) (must-only n b f)

pub unmarked-formed : (n : ℕ) (b : Board) (x : ℕ) → FormedBoard n b → FormedBoard n (unmarked b x)
unfolding unmarked
unmarked-formed n b x f = marks-formed n b (without b.marks x) b.must f (only-without n b.marks x (marks-only n b f)) (must-only n b f)

pub obliged-formed : (n : ℕ) (b : Board) (x : ℕ) → FormedBoard n b → is_inner n x ≡ true → FormedBoard n (obliged b x)
unfolding obliged
obliged-formed n b x f i = marks-formed n b b.marks (with b.must x) f (marks-only n b f) (only-with n b.must x i (must-only n b f))

pub unobliged-formed : (n : ℕ) (b : Board) (x : ℕ) → FormedBoard n b → FormedBoard n (unobliged b x)
unfolding unobliged
unobliged-formed n b x f = marks-formed n b b.marks (without b.must x) f (marks-only n b f) (only-without n b.must x (must-only n b f))

-- ---- the sets of a board where every set was changed and then one put

-- y's set after f at every node and w put for x
map-put : (f : ℕ → ℕ) (sets : List ℕ) (x w y : ℕ) → y < length sets → (y ≡ x → ⊥) → get_or (set (map f sets) x w) y 0 ≡ f (get_or sets y 0)
map-put f sets x w y l d = get_or-set_other (map f sets) x y w 0 d ∙ get_d_map f sets y l

map-here : (f : ℕ → ℕ) (sets : List ℕ) (x w : ℕ) → x < length sets → get_or (set (map f sets) x w) x 0 ≡ w
map-here f sets x w l = get_or-set_same (map f sets) x w 0 (subst (λ (k : ℕ). x < k) (sym (length-map sets f)) l)

map-long : (f : ℕ → ℕ) (sets : List ℕ) (x w : ℕ) → length (set (map f sets) x w) ≡ length sets
map-long f sets x w = length-set (map f sets) x w ∙ length-map sets f

-- what a node may have, from one board to another: its set is changed by f, which keeps it of present legs and leaves the empty set empty
set-moved : (n : ℕ) (b c : Board) (f : ℕ → ℕ) (y : ℕ) → on_route c y ≡ on_route b y → set_of c y ≡ f (set_of b y) → f 0 ≡ 0
    → ((w : ℕ) → within w (legs_of b) ≡ true → within (f w) (legs_of c) ≡ true) → set_ok n b y ≡ true → set_ok n c y ≡ true
unfolding set_ok
set-moved n b c f y o e z k h = rw (o, e) (go (is_inner n y && not (on_route b y)) (set_of b y) h)
  where
    go : (t : Bool) (v : ℕ) → cond t (within v (legs_of b)) (eqb v 0) ≡ true → cond t (within (f v) (legs_of c)) (eqb (f v) 0) ≡ true
    go true v e = k v e
    go false v e = eq-eqb (f v) 0 (ap f (eqb-true v 0 e) ∙ z)

-- ---- a placing

pub heir-yes : (p x w : ℕ) → has w p ≡ true → heir p x w ≡ with w x
unfolding heir
heir-yes p x w h = rw h

pub heir-no : (p x w : ℕ) → has w p ≡ false → heir p x w ≡ w
unfolding heir
heir-no p x w h = rw h

module _ (n : ℕ) (b : Board) (p x : ℕ) (small : n ≤ 64) (wide : Wide b) (f : FormedBoard n b) (c : Splits n b p x) where
  abbrev at : ℕ
  at = index_of p (route_of b) + 1

  abbrev new : List ℕ
  new = insert_in 63 (index_of p (route_of b) + 1) x b.route

  pub split-inside : index_of p (route_of b) + 1 < b.stops
  split-inside = leg-inside n b small wide f.route p c.leg c.on

  pub split-room : b.stops < n
  split-room = room-left n b small wide f.route x (omega (arith, (is-inner n x c.node).1)) c.off

  under : (j : ℕ) → j < at → get_or new j 0 ≡ get_or b.route j 0
  under j h = insert-under 63 at x j b.route (omega (arith, split-inside, split-room, wide.route)) h

  here : get_or new at 0 ≡ x
  here = insert-at 63 at x b.route (omega (arith, split-inside, split-room, wide.route))

  over : (j : ℕ) → at ≤ j → j < 63 → get_or new (suc j) 0 ≡ get_or b.route j 0
  over j h l = insert-above 63 at x j b.route wide.route h l

  -- where entry i of the new route comes from
  cases : {A : Type 0} (i : ℕ) → (i < at → A) → (i ≡ at → A) → ((j : ℕ) → i ≡ suc j → at ≤ j → A) → A
  cases i u h o =
      decided (ltb i at) (λ e. u (ltb-true i at e))
      (λ e. let g = ltb-false i at e in
      decided (eqb i at) (λ q. h (eqb-true i at q))
      (λ q. let z : i ≡ at → ⊥ = eqb-false i at q in o (i - 1) (omega arith) (omega arith)))

  new-below : (i : ℕ) → i < b.stops + 1 → get_or new i 0 < n
  new-below i h =
      cases i (λ u. rw (under i u) (f.route.below i (omega (arith, split-inside))))
      (λ e. rw (e, here) (omega (arith, (is-inner n x c.node).1)))
      (λ j e g. rw (e, over j g (omega (arith, split-room))) (f.route.below j (omega arith)))

  off-stop : (j : ℕ) → j < b.stops → get_or b.route j 0 ≡ x → ⊥
  off-stop = off_at n b small wide f.route x c.off

  new-once : (i k : ℕ) → i < b.stops + 1 → k < i → get_or new k 0 ≡ get_or new i 0 → ⊥
  new-once i k h g q =
      cases i
      (λ u. f.route.once i k (omega (arith, split-inside)) g (sym (under k (omega arith)) ∙ q ∙ under i u))
      (λ e. off-stop k (omega (arith, split-inside)) (sym (under k (omega arith)) ∙ q ∙ ap (λ (t : ℕ). get_or new t 0) e ∙ here))
      (λ j e a.
      let v : get_or new i 0 ≡ get_or b.route j 0 = ap (λ (t : ℕ). get_or new t 0) e ∙ over j a (omega (arith, split-room)) in
      cases k
      (λ u. f.route.once j k (omega arith) (omega arith) (sym (under k u) ∙ q ∙ v))
      (λ w. off-stop j (omega arith) (sym v ∙ sym q ∙ ap (λ (t : ℕ). get_or new t 0) w ∙ here))
      (λ m w l. f.route.once j m (omega arith) (omega arith) (sym (ap (λ (t : ℕ). get_or new t 0) w ∙ over m l (omega (arith, split-room))) ∙ q ∙ v)))

  pub placed-wide : Wide (placed_after b p x)
  unfolding placed_after
  placed-wide = record {
    route = length-insert 63 at x b.route wide.route (omega (arith, split-inside, split-room));
    sets = map-long (heir p x) b.sets x 0 ∙ wide.sets;
  }

  pub placed-routed : Routed n (placed_after b p x)
  unfolding placed_after
  placed-routed = record {
    two = omega (arith, f.route.two);
    most = omega (arith, split-room);
    start = under 0 (omega arith) ∙ f.route.start;
    end =
        let q : b.stops + 1 - 1 ≡ suc (b.stops - 1) = omega (arith, f.route.two) in
        ap (λ (t : ℕ). get_or new t 0) q ∙ over (b.stops - 1) (omega (arith, split-inside)) (omega (arith, split-room)) ∙ f.route.end;
    below = new-below;
    once = new-once;
    past = λ i h l.
        let q : i ≡ suc (i - 1) = omega (arith, h) in
        ap (λ (t : ℕ). get_or new t 0) q ∙ over (i - 1) (omega (arith, split-inside)) (omega arith) ∙ f.route.past (i - 1) (omega arith) (omega arith);
  }

  stop-of : (i : ℕ) → get_or (placed_after b p x).route i 0 ≡ get_or new i 0
  unfolding placed_after
  stop-of i = refl

  stops-of : (placed_after b p x).stops ≡ b.stops + 1
  unfolding placed_after
  stops-of = refl

  pub placed_on : on_route (placed_after b p x) x ≡ true
  placed_on = on-at n (placed_after b p x) small placed-wide placed-routed x at (omega (arith, stops-of, split-inside)) (stop-of at ∙ here)

  pub placed-others : (y : ℕ) → (y ≡ x → ⊥) → on_route (placed_after b p x) y ≡ on_route b y
  placed-others y d =
      decided (on_route b y)
      (λ m. let i = index_of y (route_of b) in
      let l = place_in n b small wide f.route y m in
      let hit = place_at n b small wide f.route y m in
      decided (ltb i at)
      (λ e. on-at n (placed_after b p x) small placed-wide placed-routed y i (omega (arith, stops-of, l)) (stop-of i ∙ under i (ltb-true i at e) ∙ hit) ∙ sym m)
      (λ e. on-at n (placed_after b p x) small placed-wide placed-routed y (suc i) (omega (arith, stops-of, l)) (stop-of (suc i) ∙ over i (ltb-false i at e) (omega (arith, l, split-room)) ∙ hit) ∙ sym m))
      (λ m. let no = off_at n b small wide f.route y m in
      off-make n (placed_after b p x) small placed-wide placed-routed y (λ k h q.
      let h' : k < b.stops + 1 = omega (arith, stops-of) in
      let v = sym (stop-of k) ∙ q in
      cases k (λ u. no k (omega (arith, split-inside)) (sym (under k u) ∙ v))
      (λ e. d (sym v ∙ ap (λ (t : ℕ). get_or new t 0) e ∙ here))
      (λ j e g. no j (omega arith) (sym (ap (λ (t : ℕ). get_or new t 0) e ∙ over j g (omega (arith, split-room))) ∙ v))) ∙ sym m)

  -- a leg that was there is there, and x's is new
  keep-leg : (q : ℕ) → has (legs_of b) q ≡ true → has (legs_of (placed_after b p x)) q ≡ true
  keep-leg q h =
      let r = leg-at n b small wide f.route q h in
      let i = r.0 in
      decided (ltb i at)
      (λ e. leg-make n (placed_after b p x) small placed-wide placed-routed q i (omega (arith, r.1, stops-of)) (stop-of i ∙ under i (ltb-true i at e) ∙ r.2))
      (λ e. leg-make n (placed_after b p x) small placed-wide placed-routed q (suc i) (omega (arith, r.1, stops-of)) (stop-of (suc i) ∙ over i (ltb-false i at e) (omega (arith, r.1, split-room)) ∙ r.2))

  -- a set of present legs names legs that are left once x is out again
  pub legs-after : (w : ℕ) → within w (legs_of b) ≡ true → within w (without (legs_of (placed_after b p x)) x) ≡ true
  legs-after w h =
      within-make w (without (legs_of (placed_after b p x)) x) (λ i l e.
      let k = within_has w (legs_of b) h i l e in
      let r = leg-at n b small wide f.route i k in
      without_other (legs_of (placed_after b p x)) x i (λ z. off-stop r.0 (omega (arith, r.1)) (r.2 ∙ z)) ∙ keep-leg i k)

  new-leg : has (legs_of (placed_after b p x)) x ≡ true
  new-leg = leg-make n (placed_after b p x) small placed-wide placed-routed x at (omega (arith, stops-of, split-inside)) (stop-of at ∙ here)

  heir-legs : (w : ℕ) → within w (legs_of b) ≡ true → within (heir p x w) (legs_of (placed_after b p x)) ≡ true
  heir-legs w h =
      within-make (heir p x w) (legs_of (placed_after b p x)) (λ i l e.
      decided (has w p)
      (λ q. decided (eqb i x) (λ z. rw (eqb-true i x z) new-leg)
      (λ z. keep-leg i (within_has w (legs_of b) h i l (sym (with-other w x i (eqb-false i x z)) ∙ sym (ap (λ (v : ℕ). has v i) (heir-yes p x w q)) ∙ e))))
      (λ q. keep-leg i (within_has w (legs_of b) h i l (sym (ap (λ (v : ℕ). has v i) (heir-no p x w q)) ∙ e))))

  pub placed-set : (y : ℕ) → y < 64 → (y ≡ x → ⊥) → set_of (placed_after b p x) y ≡ heir p x (set_of b y)
  unfolding set_of placed_after
  placed-set y l d = map-put (heir p x) b.sets x 0 y (omega (arith, wide.sets)) d

  pub placed-none : set_of (placed_after b p x) x ≡ 0
  unfolding set_of placed_after
  placed-none = map-here (heir p x) b.sets x 0 (omega (arith, wide.sets, (is-inner n x c.node).1))

  new-sets : (y : ℕ) → y < 64 → set_ok n (placed_after b p x) y ≡ true
  unfolding set_ok
  new-sets y l =
      decided (eqb y x)
      (λ e. rw (eqb-true y x e, placed_on, placed-none, and-false (is_inner n x)))
      (λ e. let d = eqb-false y x e in
      set-moved n b (placed_after b p x) (heir p x) y (placed-others y d) (placed-set y l d) (heir-no p x 0 (has-none p)) heir-legs (f.sets y l))

  pub placed-formed : FormedBoard n (placed_after b p x)
  unfolding mark_ok must_ok placed_after
  placed-formed = record { route = placed-routed; sets = new-sets; marks = f.marks; must = f.must }

-- ---- a placing undone: x is on the route and its set w becomes one of legs that are left

marks-left : (n : ℕ) (b : Board) (x w : ℕ) → FormedBoard n b → (y : ℕ) → y < 64 → (mark_ok n (unplaced b x w) y ≡ true) × (must_ok n (unplaced b x w) y ≡ true)
unfolding mark_ok must_ok unplaced
marks-left n b x w f y l = (f.marks y l, f.must y l)

set_here : (n : ℕ) (b : Board) (x : ℕ) {w : ℕ} → on_route b x ≡ false → is_inner n x ≡ true → set_of b x ≡ w → within w (legs_of b) ≡ true → set_ok n b x ≡ true
unfolding set_ok
set_here n b x o i e h = rw (o, i, e) h

pub strike-none : (x : ℕ) → strike x 0 ≡ 0
unfolding strike
strike-none x = without-no 0 x (has-none x)

module _ (n : ℕ) (b : Board) (x w : ℕ) (small : n ≤ 64) (wide : Wide b) (f : FormedBoard n b) (node : is_inner n x ≡ true) (on : on_route b x ≡ true) where
  abbrev was : ℕ
  was = index_of x (route_of b)

  abbrev left : List ℕ
  left = remove_in (index_of x (route_of b)) b.route

  within-route : (0 < index_of x (route_of b)) × (index_of x (route_of b) + 1 < b.stops)
  within-route = inner-inside n b small wide f.route x node on

  before : (j : ℕ) → j < was → get_or left j 0 ≡ get_or b.route j 0
  before j h = remove-under was j b.route (omega (arith, within-route.1, f.route.most, wide.route)) h

  after : (j : ℕ) → was ≤ j → j < 63 → get_or left j 0 ≡ get_or b.route (suc j) 0
  after j h l = remove-above was j b.route h (omega (arith, wide.route))

  -- where entry j of the shorter route comes from
  from : (j : ℕ) → j + 1 < b.stops → (k : ℕ) × (k < b.stops) × (get_or left j 0 ≡ get_or b.route k 0) × (k ≡ was → ⊥)
  from j h =
      decided (ltb j was)
      (λ e. let l = ltb-true j was e in (j, omega arith, before j l, λ q. omega (arith, q)))
      (λ e. let l = ltb-false j was e in (suc j, omega arith, after j l (omega (arith, f.route.most)), λ q. omega (arith, q)))

  -- and where a stop other than x stands in it
  to : (k : ℕ) → k < b.stops → (k ≡ was → ⊥) → (j : ℕ) × (j + 1 < b.stops) × (get_or left j 0 ≡ get_or b.route k 0) × (k + 1 < b.stops → j + 2 < b.stops)
  to k h d =
      decided (ltb k was)
      (λ e. let l = ltb-true k was e in (k, omega (arith, within-route.1), before k l, λ q. omega (arith, within-route.1)))
      (λ e. let l = ltb-false k was e in
      let q : suc (k - 1) ≡ k = omega (arith, d) in
      (k - 1, omega (arith, d), after (k - 1) (omega (arith, d)) (omega (arith, f.route.most, d)) ∙ ap (λ (t : ℕ). get_or b.route t 0) q, λ g. omega (arith, d)))

  pub unplaced-wide : Wide (unplaced b x w)
  unfolding unplaced
  unplaced-wide = record {
    route = length-remove was b.route (omega (arith, within-route.1, f.route.most, wide.route)) ∙ wide.route;
    sets = map-long (strike x) b.sets x w ∙ wide.sets;
  }

  pub unplaced-routed : Routed n (unplaced b x w)
  unfolding unplaced
  unplaced-routed = record {
    two = omega (arith, within-route);
    most = omega (arith, f.route.most);
    start = before 0 within-route.0 ∙ f.route.start;
    end =
        let q : suc (b.stops - 1 - 1) ≡ b.stops - 1 = omega (arith, f.route.two) in
        after (b.stops - 1 - 1) (omega (arith, within-route.1)) (omega (arith, f.route.most)) ∙ ap (λ (t : ℕ). get_or b.route t 0) q ∙ f.route.end;
    below = λ i h. let r = from i (omega arith) in rw r.2 (f.route.below r.0 r.1);
    once = λ i j h g q.
        decided (ltb i was)
        (λ e. let l = ltb-true i was e in f.route.once i j (omega arith) g (sym (before j (omega arith)) ∙ q ∙ before i l))
        (λ e. let v = after i (ltb-false i was e) (omega (arith, f.route.most)) in
        decided (ltb j was)
        (λ d. f.route.once (suc i) j (omega arith) (omega arith) (sym (before j (ltb-true j was d)) ∙ q ∙ v))
        (λ d. f.route.once (suc i) (suc j) (omega arith) (omega arith) (sym (after j (ltb-false j was d) (omega (arith, f.route.most))) ∙ q ∙ v)));
    past = λ i h l.
        decided (ltb i 63)
        (λ e. after i (omega (arith, within-route.1)) (ltb-true i 63 e) ∙ f.route.past (suc i) (omega arith) (omega (arith, ltb-true i 63 e)))
        (λ e. let z : i ≡ 63 = omega (arith, ltb-false i 63 e) in rw z (remove-last was 63 b.route (omega (arith, within-route.1, f.route.most)) wide.route));
  }

  stop-left : (i : ℕ) → get_or (unplaced b x w).route i 0 ≡ get_or left i 0
  unfolding unplaced
  stop-left i = refl

  stops-left : (unplaced b x w).stops ≡ b.stops - 1
  unfolding unplaced
  stops-left = refl

  was-x : get_or b.route was 0 ≡ x
  was-x = place_at n b small wide f.route x on

  only-was : (k : ℕ) → k < b.stops → get_or b.route k 0 ≡ x → k ≡ was
  only-was k h e = place-one n b small wide f.route k was h (omega (arith, within-route.1)) (e ∙ sym was-x)

  pub unplaced-off : on_route (unplaced b x w) x ≡ false
  unplaced-off =
      off-make n (unplaced b x w) small unplaced-wide unplaced-routed x (λ i h e.
      let r = from i (omega (arith, stops-left)) in
      r.3 (only-was r.0 r.1 (sym r.2 ∙ sym (stop-left i) ∙ e)))

  pub unplaced-others : (y : ℕ) → (y ≡ x → ⊥) → on_route (unplaced b x w) y ≡ on_route b y
  unplaced-others y d =
      decided (on_route b y)
      (λ m. let k = index_of y (route_of b) in
      let hit = place_at n b small wide f.route y m in
      let r = to k (place_in n b small wide f.route y m) (λ q. d (sym hit ∙ ap (λ (t : ℕ). get_or b.route t 0) q ∙ was-x)) in
      on-at n (unplaced b x w) small unplaced-wide unplaced-routed y r.0 (omega (arith, stops-left, r.1)) (stop-left r.0 ∙ r.2 ∙ hit) ∙ sym m)
      (λ m. off-make n (unplaced b x w) small unplaced-wide unplaced-routed y (λ i h e.
      let r = from i (omega (arith, stops-left)) in
      off_at n b small wide f.route y m r.0 r.1 (sym r.2 ∙ sym (stop-left i) ∙ e)) ∙ sym m)

  -- the legs that are left: all but x's own
  leg-left : (q : ℕ) → has (legs_of b) q ≡ true → (q ≡ x → ⊥) → has (legs_of (unplaced b x w)) q ≡ true
  leg-left q h d =
      let r = leg-at n b small wide f.route q h in
      let t = to r.0 (omega (arith, r.1)) (λ z. d (sym r.2 ∙ ap (λ (k : ℕ). get_or b.route k 0) z ∙ was-x)) in
      leg-make n (unplaced b x w) small unplaced-wide unplaced-routed q t.0 (omega (arith, stops-left, t.3 r.1)) (stop-left t.0 ∙ t.2 ∙ r.2)

  legs-left : (v : ℕ) → within v (without (legs_of b) x) ≡ true → within v (legs_of (unplaced b x w)) ≡ true
  legs-left v e =
      within-make v (legs_of (unplaced b x w)) (λ i l h.
      let k = within_has v (without (legs_of b) x) e i l h in
      leg-left i (without-part (legs_of b) x i k) (λ z. false-true (sym (without-same (legs_of b) x) ∙ ap (λ (q : ℕ). has (without (legs_of b) x) q) (sym z) ∙ k)))

  strike-legs : (v : ℕ) → within v (legs_of b) ≡ true → within (strike x v) (legs_of (unplaced b x w)) ≡ true
  unfolding strike
  strike-legs v e =
      legs-left (without v x) (within-make (without v x) (without (legs_of b) x) (λ i l h.
      decided (eqb i x)
      (λ z. absurd (false-true (sym (without-same v x) ∙ ap (λ (q : ℕ). has (without v x) q) (sym (eqb-true i x z)) ∙ h)))
      (λ z. without_other (legs_of b) x i (eqb-false i x z) ∙ within_has v (legs_of b) e i l (without-part v x i h))))

  pub unplaced-set : (y : ℕ) → y < 64 → (y ≡ x → ⊥) → set_of (unplaced b x w) y ≡ strike x (set_of b y)
  unfolding set_of unplaced
  unplaced-set y l d = map-put (strike x) b.sets x w y (omega (arith, wide.sets)) d

  pub unplaced-here : set_of (unplaced b x w) x ≡ w
  unfolding set_of unplaced
  unplaced-here = map-here (strike x) b.sets x w (omega (arith, wide.sets, (is-inner n x node).1))

  pub unplaced-formed : within w (without (legs_of b) x) ≡ true → FormedBoard n (unplaced b x w)
  unplaced-formed e = record { route = unplaced-routed; sets = left-sets; marks = λ y l. (marks-left n b x w f y l).0; must = λ y l. (marks-left n b x w f y l).1 }
    where
      left-sets : (y : ℕ) → y < 64 → set_ok n (unplaced b x w) y ≡ true
      left-sets y l =
          decided (eqb y x)
          (λ q. rw (eqb-true y x q) (set_here n (unplaced b x w) x unplaced-off node unplaced-here (legs-left w e)))
          (λ q. let d = eqb-false y x q in
          set-moved n b (unplaced b x w) (strike x) y (unplaced-others y d) (unplaced-set y l d) (strike-none x) strike-legs (f.sets y l))
