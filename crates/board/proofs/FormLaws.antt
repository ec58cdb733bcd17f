-- What a state in form knows, and what makes one.
use mathlib.Core.Path.{◌≡◌, sym, ◌∙◌}
use mathlib.Core.Bool.{Bool, true, false, cond, not, ◌&&◌}
use mathlib.Core.List.{List}
use Prim.Native.Nat.{ℕ, ◌+◌, ◌-◌, ◌≤◌, ◌<◌}
use native.Mathlib.Omega.{arith}
use lib.ListN.{length, get_or, take, length-take}
use lib.Seq.{get_or-take}
use lib.Dec.{eqb, leb, ltb}
use borrow.Author.Tests.{eqb-true, eqb-false, eq-eqb, leb-true, le-leb, ltb-true, ltb-false, lt-ltb, le-ltb, not-true}
use Rattle.laws.proofs.Logic.{decided, and-true}
use Rattle.laws.proofs.Below.{below_at, below-make}
use Rattle.laws.specs.Basic.{all_below}
use Rattle.bits.specs.Places.{has, within}
use Rattle.bits.proofs.Members.{within_has, within_none}
use Rattle.bits.proofs.Number.{members-lt}
use Rattle.rules.specs.Day.{is_inner}
use Rattle.rules.proofs.Inner.{is-inner}
use Rattle.board.specs.Route.{index_of, word_of}
use Rattle.board.proofs.RouteLaws.{index-hit, entry-mem, mem-none, mem-absent, mem_index, word-mem, word-not, word-find, word-has, word-members}
use Rattle.board.specs.Board.{Board, board_of, route_of, on_route, legs_of, set_of, leg_node}
use Rattle.board.specs.Form.{stop_ok, set_ok, mark_ok, must_ok, board_ok, level_ok, levels_ok, in_form, form_with}
use Rattle.board.specs.declared.State.{State}
use Rattle.board.specs.Held.{Wide, Routed, FormedBoard, Levels, InForm}

pub leg-in : (n p : ℕ) → leg_node n p ≡ true → p + 1 < n
unfolding leg_node
leg-in n p e = ltb-true (p + 1) n e

-- one bit tells whether a node is on the route
pub on_word : (b : Board) (x : ℕ) → x < 64 → b.stops ≤ length b.route → has (word_of b.stops b.route) x ≡ on_route b x
unfolding on_route route_of
on_word b x l h = word-mem b.stops b.route x l h

-- ---- a board in form, fact by fact; the arrays are of 64 entries

module _ (n : ℕ) (b : Board) (small : n ≤ 64) (wide : Wide b) where
  stop-at : (i : ℕ) → i < 64 → stop_ok n b.stops b.route i ≡ true → i < b.stops
      → (get_or b.route i 0 < n) × ((j : ℕ) → j < i → get_or b.route j 0 ≡ get_or b.route i 0 → ⊥)
  unfolding stop_ok
  stop-at i l e h =
      let a = and-true (ltb (get_or b.route i 0) n) _ (rw (lt-ltb i b.stops h) at e) in (
        ltb-true _ n a.0,
        λ j g q.
            mem-absent (get_or b.route i 0) j (take i b.route) (not-true _ a.1) (omega (arith, length-take i b.route, wide.route)) (get_or-take i b.route j 0 g ∙ q),
      )

  stop-past : (i : ℕ) → stop_ok n b.stops b.route i ≡ true → b.stops ≤ i → get_or b.route i 0 ≡ 0
  unfolding stop_ok
  stop-past i e h = eqb-true (get_or b.route i 0) 0 (rw (le-ltb i b.stops h) at e)

  pub formed : board_ok n b ≡ true → FormedBoard n b
  unfolding board_ok
  formed e =
      let p = and-true (leb 2 b.stops && leb b.stops n) _ e in
      let p' = and-true (leb 2 b.stops) (leb b.stops n) p.0 in
      let q = and-true (eqb (get_or b.route 0 0) 0 && eqb (get_or b.route (b.stops - 1) 0) (n - 1)) _ p.1 in
      let q' = and-true (eqb (get_or b.route 0 0) 0) (eqb (get_or b.route (b.stops - 1) 0) (n - 1)) q.0 in
      let r = and-true (all_below 64 (stop_ok n b.stops b.route)) (all_below 64 (λ y. set_ok n b y && (mark_ok n b y && must_ok n b y))) q.1 in
      let most : b.stops ≤ n = leb-true b.stops n p'.1 in
      let stop : (i : ℕ) → i < 64 → stop_ok n b.stops b.route i ≡ true = λ i l. below_at 64 i (stop_ok n b.stops b.route) r.0 l in
      let node : (y : ℕ) → y < 64 → (set_ok n b y ≡ true) × (mark_ok n b y && must_ok n b y ≡ true) = λ y l. and-true (set_ok n b y) (mark_ok n b y && must_ok n b y) (below_at 64 y (λ y. set_ok n b y && (mark_ok n b y && must_ok n b y)) r.1 l) in
      record {
        route = record {
          two = leb-true 2 b.stops p'.0;
          most = most;
          start = eqb-true _ 0 q'.0;
          end = eqb-true _ (n - 1) q'.1;
          below = λ i h. (stop-at i (omega arith) (stop i (omega arith)) h).0;
          once = λ i j h g. (stop-at i (omega arith) (stop i (omega arith)) h).1 j g;
          past = λ i h l. stop-past i (stop i l) h;
        };
        sets = λ y l. (node y l).0;
        marks = λ y l. (and-true (mark_ok n b y) (must_ok n b y) (node y l).1).0;
        must = λ y l. (and-true (mark_ok n b y) (must_ok n b y) (node y l).1).1;
      }

  stop-make : Routed n b → (i : ℕ) → i < 64 → stop_ok n b.stops b.route i ≡ true
  unfolding stop_ok
  stop-make f i l =
      decided (ltb i b.stops)
      (λ e. let h = ltb-true i b.stops e in
      rw (
        e,
        lt-ltb (get_or b.route i 0) n (f.below i h),
        mem-none (get_or b.route i 0) (take i b.route) (λ k g q.
            let g' : k < i = omega (arith, length-take i b.route) in
            f.once i k h g' (sym (get_or-take i b.route k 0 g') ∙ q)),
      ))
      (λ e. rw e (eq-eqb (get_or b.route i 0) 0 (f.past i (ltb-false i b.stops e) l)))

  pub form_of : FormedBoard n b → board_ok n b ≡ true
  unfolding board_ok
  form_of f =
      rw (
        le-leb 2 b.stops f.route.two,
        le-leb b.stops n f.route.most,
        eq-eqb (get_or b.route 0 0) 0 f.route.start,
        eq-eqb (get_or b.route (b.stops - 1) 0) (n - 1) f.route.end,
        below-make 64 (stop_ok n b.stops b.route) (stop-make f.route),
      ) (below-make 64 (λ y. set_ok n b y && (mark_ok n b y && must_ok n b y)) (λ y l. rw (f.sets y l, f.marks y l) (f.must y l)))

-- ---- what follows from it

module _ (n : ℕ) (b : Board) (small : n ≤ 64) (wide : Wide b) (f : Routed n b) where
  pub route-long : length (route_of b) ≡ b.stops
  unfolding route_of
  route-long = omega (arith, length-take b.stops b.route, wide.route, f.most)

  pub route-at : (i : ℕ) → i < b.stops → get_or (route_of b) i 0 ≡ get_or b.route i 0
  unfolding route_of
  route-at i h = get_or-take b.stops b.route i 0 h

  -- a node off the route is at none of its stops; a node on it has its place
  pub off_at : (x : ℕ) → on_route b x ≡ false → (i : ℕ) → i < b.stops → get_or b.route i 0 ≡ x → ⊥
  unfolding on_route
  off_at x o i h e = mem-absent x i (route_of b) o (omega (arith, route-long)) (route-at i h ∙ e)

  pub on-at : (x i : ℕ) → i < b.stops → get_or b.route i 0 ≡ x → on_route b x ≡ true
  unfolding on_route
  on-at x i h e = entry-mem x i (route_of b) (omega (arith, route-long)) (route-at i h ∙ e)

  pub off-make : (x : ℕ) → ((i : ℕ) → i < b.stops → get_or b.route i 0 ≡ x → ⊥) → on_route b x ≡ false
  unfolding on_route
  off-make x h = mem-none x (route_of b) (λ i l e. let l' : i < b.stops = omega (arith, route-long) in h i l' (sym (route-at i l') ∙ e))

  pub place_in : (x : ℕ) → on_route b x ≡ true → index_of x (route_of b) < b.stops
  unfolding on_route
  place_in x m = omega (arith, mem_index x (route_of b) m, route-long)

  pub place_at : (x : ℕ) → on_route b x ≡ true → get_or b.route (index_of x (route_of b)) 0 ≡ x
  unfolding on_route
  place_at x m = sym (route-at (index_of x (route_of b)) (place_in x m)) ∙ index-hit x (route_of b) (mem_index x (route_of b) m)

  -- distinct stops: a node has one place
  pub place-one : (i j : ℕ) → i < b.stops → j < b.stops → get_or b.route i 0 ≡ get_or b.route j 0 → i ≡ j
  place-one i j h g e =
      decided (ltb i j) (λ q. absurd (f.once j i g (ltb-true i j q) e))
      (λ q. decided (ltb j i) (λ r. absurd (f.once i j h (ltb-true j i r) (sym e)))
      (λ r. omega (arith, ltb-false i j q, ltb-false j i r)))

  -- a stop that a leg leaves is not the last
  pub leg-inside : (p : ℕ) → leg_node n p ≡ true → on_route b p ≡ true → index_of p (route_of b) + 1 < b.stops
  leg-inside p g m =
      let i = index_of p (route_of b) in
      decided (eqb (i + 1) b.stops)
      (λ e. absurd (let q : b.stops - 1 ≡ i = omega (arith, eqb-true (i + 1) b.stops e) in
      let h : get_or b.route i 0 ≡ n - 1 = rw q at f.end in
      omega (arith, leg-in n p g, h, place_at p m)))
      (λ e. let z : i + 1 ≡ b.stops → ⊥ = eqb-false (i + 1) b.stops e in omega (arith, place_in p m))

  -- an inner node on the route is no end of it
  pub inner-inside : (x : ℕ) → is_inner n x ≡ true → on_route b x ≡ true → (0 < index_of x (route_of b)) × (index_of x (route_of b) + 1 < b.stops)
  inner-inside x e m =
      let i = index_of x (route_of b) in
      let a = is-inner n x e in
      let h = place_at x m in (
        decided (eqb i 0) (λ q. absurd (let z : get_or b.route i 0 ≡ 0 = rw (eqb-true i 0 q) f.start in omega (arith, z, h, a.0)))
            (λ q. let z : i ≡ 0 → ⊥ = eqb-false i 0 q in omega arith),
        decided (eqb (i + 1) b.stops)
            (λ q. absurd (let w : b.stops - 1 ≡ i = omega (arith, eqb-true (i + 1) b.stops q) in
            let z : get_or b.route i 0 ≡ n - 1 = rw w at f.end in
            omega (arith, z, h, a.1)))
            (λ q. let z : i + 1 ≡ b.stops → ⊥ = eqb-false (i + 1) b.stops q in omega (arith, place_in x m)),
      )

  -- a node off the route leaves room on it
  pub room-left : (x : ℕ) → x < n → on_route b x ≡ false → b.stops < n
  room-left x h o =
      let c = word-members n b.stops b.route small f.below f.once in
      omega (arith, c, members-lt n (word_of b.stops b.route) x h (word-not b.stops b.route x (off_at x o)))

  -- a leg leaves a stop that is not the last
  pub leg-at : (q : ℕ) → has (legs_of b) q ≡ true → (i : ℕ) × (i + 1 < b.stops) × (get_or b.route i 0 ≡ q)
  unfolding legs_of
  leg-at q h = let r = word-find (b.stops - 1) b.route q h in (r.0, omega (arith, r.1), r.2)

  pub leg-make : (q i : ℕ) → i + 1 < b.stops → get_or b.route i 0 ≡ q → has (legs_of b) q ≡ true
  unfolding legs_of
  leg-make q i h e = word-has (b.stops - 1) b.route i q (omega arith) e (omega (arith, f.below i (omega arith), e))

module _ (n : ℕ) (b : Board) (small : n ≤ 64) (wide : Wide b) (f : FormedBoard n b) where
  -- ---- the sets

  pub set-legs : (y : ℕ) → y < 64 → is_inner n y ≡ true → on_route b y ≡ false → within (set_of b y) (legs_of b) ≡ true
  unfolding set_ok
  set-legs y l i o = rw (i, o) at (f.sets y l)

  -- every set names present legs only
  pub set-within : (y : ℕ) → y < 64 → within (set_of b y) (legs_of b) ≡ true
  unfolding set_ok
  set-within y l = go (is_inner n y && not (on_route b y)) (f.sets y l)
    where
      go : (t : Bool) → cond t (within (set_of b y) (legs_of b)) (eqb (set_of b y) 0) ≡ true → within (set_of b y) (legs_of b) ≡ true
      go true e = e
      go false e = rw (eqb-true (set_of b y) 0 e) (within_none (legs_of b))

  -- for an inner node the legs tell whether it is on the route
  pub on-leg : (x : ℕ) → is_inner n x ≡ true → has (legs_of b) x ≡ on_route b x
  on-leg x e =
      decided (on_route b x)
      (λ m. leg-make n b small wide f.route x (index_of x (route_of b)) (inner-inside n b small wide f.route x e m).1 (place_at n b small wide f.route x m) ∙ sym m)
      (λ m. decided (has (legs_of b) x)
      (λ h. let r = leg-at n b small wide f.route x h in absurd (off_at n b small wide f.route x m r.0 (omega (arith, r.1)) r.2))
      (λ h. h ∙ sym m))

  -- no set names a node off the route
  pub no-leg : (x y : ℕ) → x < 64 → on_route b x ≡ false → y < 64 → has (set_of b y) x ≡ false
  no-leg x y l o h =
      decided (has (set_of b y) x)
      (λ q. let r = leg-at n b small wide f.route x (within_has (set_of b y) (legs_of b) (set-within y h) x l q) in
      absurd (off_at n b small wide f.route x o r.0 (omega (arith, r.1)) r.2))
      (λ q. q)

-- ---- the levels

pub levelled : (depth records : ℕ) (levels : List ℕ) → levels_ok depth records levels ≡ true → Levels depth records levels
unfolding levels_ok level_ok
levelled depth records levels e =
    let a = and-true (leb depth 64) _ e in
    let at : (i : ℕ) → i < 64 → level_ok depth records levels i ≡ true = λ i l. below_at 64 i (level_ok depth records levels) a.1 l in
    let most = leb-true depth 64 a.0 in
    let used : (i : ℕ) → i < depth → (leb (get_or levels i 0) records ≡ true) × (leb (get_or levels (i - 1) 0) (get_or levels i 0) ≡ true) =
    λ i h. and-true (leb (get_or levels i 0) records) _ (rw (lt-ltb i depth h) at (at i (omega arith))) in
    record {
      most = most;
      held = λ i h. leb-true _ _ (used i h).0;
      rise = λ i h. leb-true _ _ (used i h).1;
      past = λ i h l. eqb-true _ 0 (rw (le-ltb i depth h) at (at i l));
    }

pub levels-of : (depth records : ℕ) (levels : List ℕ) → Levels depth records levels → levels_ok depth records levels ≡ true
unfolding levels_ok level_ok
levels-of depth records levels v =
    rw (le-leb depth 64 v.most) (below-make 64 (level_ok depth records levels) (λ i l.
    decided (ltb i depth)
    (λ e. let h = ltb-true i depth e in rw (e, le-leb _ _ (v.held i h), le-leb _ _ (v.rise i h)))
    (λ e. rw e (eq-eqb _ 0 (v.past i (ltb-false i depth e) l)))))

-- ---- a state in form

pub in-form : (n : ℕ) (s : State) → n ≤ 64 → Wide (board_of s) → in_form n s ≡ true → InForm n s
unfolding in_form
in-form n s small wide e =
    let a = and-true (board_ok n (board_of s)) _ e in
    record { board = formed n (board_of s) small wide a.0; levels = levelled s.depth s.records s.levels a.1 }

pub in-form-of : (n : ℕ) (s : State) → n ≤ 64 → Wide (board_of s) → InForm n s → in_form n s ≡ true
unfolding in_form
in-form-of n s small wide f = rw (form_of n (board_of s) small wide f.board) (levels-of s.depth s.records s.levels f.levels)

pub form-with : (n : ℕ) (s : State) (room : ℕ) → form_with n s room ≡ true → (in_form n s ≡ true) × (s.records ≤ room)
unfolding form_with
form-with n s room e = let a = and-true (in_form n s) (leb s.records room) e in (a.0, leb-true s.records room a.1)
