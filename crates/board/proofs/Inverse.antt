-- Undoing inverts each change.
use mathlib.Core.Path.{◌≡◌, refl, ap, sym, ◌∙◌}
use mathlib.Core.Bool.{false}
use mathlib.Core.List.{List, [], ◌∷◌, ◌++◌, map}
use Prim.Native.Nat.{ℕ, zero, suc, ◌+◌, ◌-◌, ◌≤◌, ◌<◌}
use native.Mathlib.Omega.{arith}
use native.Mathlib.Numerals.{add-one}
use lib.ListN.{length, get_or, take, drop, set}
use lib.Seq.{set-set, set-get_or}
use Rattle.laws.proofs.Logic.{decided}
use Rattle.bits.specs.Places.{has}
use Rattle.bits.proofs.Members.{without-with, without-no}
use Rattle.rules.proofs.Inner.{is-inner}
use Rattle.board.specs.Route.{index_of, insert_in, remove_in}
use Rattle.board.proofs.RouteLaws.{remove-insert, insert-route, insert-at, insert-under}
use Rattle.board.specs.Board.{Board, board, route_of, set_of}
use Rattle.board.specs.Change.{heir, strike, put_set, placed_after, marked, unplaced, unmarked, obliged, unobliged}
use Rattle.board.proofs.FormLaws.{place_in, place_at, place-one, no-leg}
use Rattle.board.specs.Held.{FormedBoard, Wide, Splits}
use Rattle.board.proofs.Keep.{split-inside, split-room, placed-wide, placed-routed, placed_on, heir-yes, heir-no}

-- a set put back
pub put_back : (b : Board) (x v : ℕ) → put_set (put_set b x v) x (set_of b x) ≡ b
unfolding put_set set_of
put_back b x v = rw (set-set b.sets x v (get_or b.sets x 0), set-get_or b.sets x 0)

-- a mark taken off
pub mark-back : (b : Board) (x : ℕ) → has b.marks x ≡ false → unmarked (marked b x) x ≡ b
unfolding unmarked marked
mark-back b x h = rw (without-with b.marks x h)

-- a mark "must go somewhere" taken off
pub oblige-back : (b : Board) (x : ℕ) → has b.must x ≡ false → unobliged (obliged b x) x ≡ b
unfolding unobliged obliged
oblige-back b x h = rw (without-with b.must x h)

-- ---- a placing

strike-heir : (p x w : ℕ) → has w x ≡ false → strike x (heir p x w) ≡ w
unfolding strike
strike-heir p x w h =
    decided (has w p) (λ e. rw (heir-yes p x w e) (without-with w x h)) (λ e. rw (heir-no p x w e) (without-no w x h))

-- both halves of a split had the same places: with one cut out again every set is as before, where no set named leg x
strike-heirs : (p x : ℕ) (l : List ℕ) → ((i : ℕ) → i < length l → has (get_or l i 0) x ≡ false) → map (strike x) (map (heir p x) l) ≡ l
strike-heirs p x [] h = refl
strike-heirs p x (w ∷ l) h = λ i. strike-heir p x w (h 0 (omega arith)) i ∷ strike-heirs p x l (λ j b. h (suc j) (omega arith)) i

map-set : (f : ℕ → ℕ) (l : List ℕ) (i v : ℕ) → map f (set l i v) ≡ set (map f l) i (f v)
map-set f [] i v = refl
map-set f (y ∷ l) zero v = refl
map-set f (y ∷ l) (suc i) v = ap (λ (t : List ℕ). f y ∷ t) (map-set f l i v)

module _ (n : ℕ) (b : Board) (p x : ℕ) (small : n ≤ 64) (wide : Wide b) (f : FormedBoard n b) (c : Splits n b p x) where
  -- the route after the placing: before, x, after
  pub placed-route : route_of (placed_after b p x) ≡ take (index_of p (route_of b) + 1) (route_of b) ++ x ∷ drop (index_of p (route_of b) + 1) (route_of b)
  unfolding route_of placed_after
  placed-route =
      ap (λ (k : ℕ). take k (insert_in 63 (index_of p (route_of b) + 1) x b.route)) (add-one b.stops)
      ∙ insert-route 63 (index_of p (route_of b) + 1) x b.stops b.route (omega (arith, split-inside n b p x small wide f c)) (omega (arith, split-room n b p x small wide f c)) (omega (arith, split-room n b p x small wide f c, wide.route))

  at_x : get_or (placed_after b p x).route (index_of p (route_of b) + 1) 0 ≡ x
  unfolding placed_after
  at_x = insert-at 63 (index_of p (route_of b) + 1) x b.route (omega (arith, split-inside n b p x small wide f c, split-room n b p x small wide f c, wide.route))

  stops-of : (placed_after b p x).stops ≡ b.stops + 1
  unfolding placed_after
  stops-of = refl

  -- x stands right after p
  pub placed-index : index_of x (route_of (placed_after b p x)) ≡ index_of p (route_of b) + 1
  placed-index =
      let w = placed-wide n b p x small wide f c in
      let r = placed-routed n b p x small wide f c in
      let m = placed_on n b p x small wide f c in
      place-one n (placed_after b p x) small w r (index_of x (route_of (placed_after b p x))) (index_of p (route_of b) + 1)
      (place_in n (placed_after b p x) small w r x m) (omega (arith, stops-of, split-inside n b p x small wide f c))
      (place_at n (placed_after b p x) small w r x m ∙ sym at_x)

  pub placed-before : get_or (placed_after b p x).route (index_of p (route_of b)) 0 ≡ p
  unfolding placed_after
  placed-before =
      insert-under 63 (index_of p (route_of b) + 1) x (index_of p (route_of b)) b.route (omega (arith, split-inside n b p x small wide f c, split-room n b p x small wide f c, wide.route)) (omega arith)
      ∙ place_at n b small wide f.route p c.on

  last-free : get_or b.route 63 0 ≡ 0
  last-free = f.route.past 63 (omega (arith, split-room n b p x small wide f c)) (omega arith)

  sets-back : set (map (strike x) (set (map (heir p x) b.sets) x 0)) x (set_of b x) ≡ b.sets
  unfolding set_of
  sets-back =
      ap (λ (t : List ℕ). set t x (get_or b.sets x 0)) (map-set (strike x) (map (heir p x) b.sets) x 0)
      ∙ set-set (map (strike x) (map (heir p x) b.sets)) x (strike x 0) (get_or b.sets x 0)
      ∙ ap (λ (t : List ℕ). set t x (get_or b.sets x 0)) (strike-heirs p x b.sets (λ y l. no-leg n b small wide f x y (omega (arith, (is-inner n x c.node).1)) c.off (omega (arith, wide.sets))))
      ∙ set-get_or b.sets x 0

  all_back : board (remove_in (index_of p (route_of b) + 1) (placed_after b p x).route) ((placed_after b p x).stops - 1) (set (map (strike x) (placed_after b p x).sets) x (set_of b x)) (placed_after b p x).marks (placed_after b p x).must ≡ b
  unfolding placed_after
  all_back =
      let i = index_of p (route_of b) + 1 in
      let r : remove_in i (insert_in 63 i x b.route) ≡ b.route = remove-insert 63 i x b.route wide.route (omega (arith, split-inside n b p x small wide f c, split-room n b p x small wide f c)) last-free in
      let k : b.stops + 1 - 1 ≡ b.stops = omega arith in
      rw (r, k, sets-back)

  -- a placing undone
  pub place-back : unplaced (placed_after b p x) x (set_of b x) ≡ b
  unfolding unplaced
  place-back = rw placed-index all_back
