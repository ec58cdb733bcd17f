-- A step that neither writes nor takes back a record leaves the board as it was: route, sets, and marks of either sort. One after which there are as
-- many stops as before leaves the route.
use mathlib.Core.Path.{◌≡◌, refl, ap, ap₂, sym, subst, ◌∙◌}
use mathlib.Core.Bool.{Bool, true, false, cond, ◌&&◌}
use mathlib.Core.List.{List, [], ◌∷◌}
use Prim.Native.Nat.{ℕ, zero, suc, ◌+◌, ◌-◌, ◌<◌, ◌≤◌}
use native.Mathlib.Omega.{arith}
use lib.ListN.{length, get_or, take}
use lib.Dec.{eqb}
use borrow.Author.Tests.{eqb-true, eqb-false}
use Rattle.laws.proofs.Logic.{decided, and-true}
use Rattle.laws.specs.Basic.{mem}
use Rattle.bits.specs.Places.{has, without, within}
use Rattle.bits.proofs.Members.{false-true}
use Rattle.rules.specs.Day.{is_inner}
use Rattle.board.specs.Board.{Board, board, board_of, route_of, on_route, legs_of, set_of}
use Rattle.board.specs.Change.{put_set, placed_after, marked, unplaced, unmarked, obliged, unobliged}
use Rattle.board.specs.declared.State.{State}
use Rattle.records.specs.Trail.{shrunk, first_of, second_of, change, record_kind, record_node}
use Rattle.records.proofs.TrailLaws.{shrunk-upto, shrunk-differ}
use Rattle.records.specs.Undo.{Undone, undone, stop_before, fits_shrunk, fits_placed, fits_marked, fits_obliged, undo_one, undo_many}
use Rattle.trail.specs.Steps as step
use Rattle.trail.specs.Steps.{Ran, acted}
use Rattle.trail.specs.Run.{Move, place, close, exclude, require, settle, level, back, oblige}
use Rattle.trail.proofs.Since.{accepted}

-- lists of one length with the same entries are one
same-list : (l m : List ℕ) → length l ≡ length m → ((k : ℕ) → k < length l → get_or l k 0 ≡ get_or m k 0) → l ≡ m
same-list [] [] e h = refl
same-list [] (y ∷ m) e h = absurd (omega arith)
same-list (x ∷ l) [] e h = absurd (omega arith)
same-list (x ∷ l) (y ∷ m) e h = ap₂ (λ (z : ℕ) (r : List ℕ). z ∷ r) (h 0 (omega arith)) (same-list l m (omega arith) (λ k b. h (suc k) (omega arith)))

-- none shrank: they are the same
none-shrank : (old new : List ℕ) → length old ≡ 64 → length new ≡ 64 → shrunk old new 64 ≡ 0 → new ≡ old
none-shrank old new a b z = sym (same-list old new (a ∙ sym b) (λ k h. decided (eqb (get_or old k 0) (get_or new k 0)) (eqb-true _ _)
    (λ d. absurd (omega (arith, shrunk-differ old new k (eqb-false _ _ d), shrunk-upto old new (k + 1) 64 (omega arith))))))

-- what holds of either outcome
either : (P : Ran → Type 0) (b : Bool) (x y : Ran) → P x → P y → P (cond b x y)
either P true x y p q = p
either P false x y p q = q

-- one record more is not the records of before
more : (s : State) (b : Board) → s.records + 1 ≡ s.records → b ≡ board_of s
more s b e = absurd (omega arith)

-- ---- undoing

-- what undoing left has fewer stops, or the route of before
record Behind (b : Board) (o : Undone) : Type 0 where
  pub most : o.1.stops ≤ b.stops
  pub route : o.1.stops ≡ b.stops → o.1.route ≡ b.route

-- nothing undone
behind-none : (f : Bool) (b : Board) → Behind b (f, b)
behind-none f b = record { most = omega arith; route = λ z. refl }

-- either way
behind-either : {b : Board} {x y : Undone} (f : Bool) → Behind b x → Behind b y → Behind b (cond f x y)
behind-either true p q = p
behind-either false p q = q

-- a route with a node on it has a stop
some-stop : (k x : ℕ) (l : List ℕ) → mem x (take k l) ≡ true → 0 < k
some-stop zero x l e = absurd (false-true e)
some-stop (suc k) x l e = omega arith

-- a placing undone takes a stop away
behind-placed : (n : ℕ) (b : Board) (x w : ℕ) → Behind b (undone (fits_placed n b x w) (unplaced b x w) b)
unfolding undone fits_placed unplaced on_route route_of
behind-placed n b x w =
    decided (fits_placed n b x w)
    (λ e. let on = (and-true (is_inner n x) (on_route b x) (and-true (is_inner n x && on_route b x) (within w (without (legs_of b) x) && has w (stop_before b x)) e).0).1 in
    let l = some-stop b.stops x b.route on in
    rw e (record { most = omega (arith, l); route = λ z. absurd (omega (arith, l, z)) }))
    (λ e. rw e (behind-none false b))

-- any other record leaves the route
behind-other : (f : Bool) (c b : Board) → c.stops ≡ b.stops → c.route ≡ b.route → Behind b (undone f c b)
unfolding undone
behind-other f c b e q = behind-either f (record { most = omega (arith, e); route = λ z. q }) (behind-none false b)

-- one record undone, and many
behind-one : (n : ℕ) (b : Board) (first w : ℕ) → Behind b (undo_one n b first w)
unfolding undo_one put_set unmarked unobliged
behind-one n b first w =
    let k = record_kind first in
    let x = record_node first in
    behind-either (eqb k change.SHRINKING) (behind-other (fits_shrunk n b x w) (put_set b x w) b refl refl)
    (behind-either (eqb k change.PLACING) (behind-placed n b x w)
    (behind-either (eqb k change.MARKING) (behind-other (fits_marked b x w) (unmarked b x) b refl refl)
    (behind-either (eqb k change.OBLIGING) (behind-other (fits_obliged b x w) (unobliged b x) b refl refl) (behind-none false b))))

behind-many : (k n : ℕ) (b : Board) (records : ℕ) (t : List ℕ) → Behind b (undo_many k n b records t)
unfolding undo_many
behind-many zero n b records t = behind-none true b
behind-many (suc k) n b records t =
    let one = undo_one n b (first_of t (records - 1)) (second_of t (records - 1)) in
    let o = behind-one n b (first_of t (records - 1)) (second_of t (records - 1)) in
    let m = behind-many k n one.1 (records - 1) t in
    behind-either one.0 (record { most = omega (arith, o.most, m.most); route = λ z. m.route (omega (arith, z, o.most, m.most)) ∙ o.route (omega (arith, z, o.most, m.most)) }) o

-- ---- each step

module _ (s r : State) (t u : List ℕ) where
  -- what holds of what ran holds of a step that was accepted
  at-ran : (P : Ran → Type 0) {j : ℕ} (c : ℕ) (ran : Ran) → step.unless_refused c s t ran ≡ acted 0 j r u → P ran → P (acted 0 j r u)
  at-ran P c ran q = subst P (accepted c s t ran r u q).1

  -- the board of an outcome that has the records of before
  abbrev Stays : Ran → Type 0
  Stays o = o.0.state.records ≡ s.records → board_of o.0.state ≡ board_of s

  -- as many records as before: the board of before
  pub move-still : (n : ℕ) → length s.sets ≡ 64 → Move n s t r u → r.records ≡ s.records → board_of r ≡ board_of s
  unfolding step.place_step step.close_step step.exclude_step step.require_step step.settle_step step.level_step step.back_step step.oblige_step step.recorded step.undo_level step.dropped undo_many
  move-still n long (place p x q) = at-ran Stays _ _ q (more s _)
  move-still n long (close p x q) = at-ran Stays _ _ q (more s _)
  move-still n long (exclude owed x q) = at-ran Stays _ _ q (either Stays (eqb (set_of (board_of s) x) 0) _ _ (λ z. refl) (more s _))
  move-still n long (require x q) = at-ran Stays _ _ q (either Stays (has s.marks x) _ _ (λ z. refl) (more s _))
  move-still n long (oblige x q) = at-ran Stays _ _ q (either Stays (has s.must x) _ _ (λ z. refl) (more s _))
  move-still n long (settle rounds new small q) =
      at-ran Stays _ _ q (λ z. ap (λ (w : List ℕ). board s.route s.stops w s.marks s.must) (none-shrank s.sets new long small.long (omega arith)))
  move-still n long (level q) = at-ran Stays _ _ q (λ z. refl)
  move-still n long (back q) =
      at-ran Stays _ _ q (λ z. let k : s.records - step.base_of s ≡ 0 = omega arith in ap (λ (i : ℕ). (undo_many i n (board_of s) s.records t).1) k)

  -- the route of an outcome that has as many stops as before
  abbrev Routes : Ran → Type 0
  Routes o = o.0.state.stops ≡ s.stops → o.0.state.route ≡ s.route

  -- as many stops as before: the route of before
  pub move-route : (n : ℕ) → Move n s t r u → r.stops ≡ s.stops → r.route ≡ s.route
  unfolding step.place_step step.close_step step.exclude_step step.require_step step.settle_step step.level_step step.back_step step.oblige_step step.recorded step.undo_level step.dropped put_set placed_after marked obliged
  move-route n (place p x q) = at-ran Routes _ _ q (λ z. absurd (omega arith))
  move-route n (close p x q) = at-ran Routes _ _ q (λ z. refl)
  move-route n (exclude owed x q) = at-ran Routes _ _ q (either Routes (eqb (set_of (board_of s) x) 0) _ _ (λ z. refl) (λ z. refl))
  move-route n (require x q) = at-ran Routes _ _ q (either Routes (has s.marks x) _ _ (λ z. refl) (λ z. refl))
  move-route n (oblige x q) = at-ran Routes _ _ q (either Routes (has s.must x) _ _ (λ z. refl) (λ z. refl))
  move-route n (settle rounds new small q) = at-ran Routes _ _ q (λ z. refl)
  move-route n (level q) = at-ran Routes _ _ q (λ z. refl)
  move-route n (back q) = at-ran Routes _ _ q (behind-many (s.records - step.base_of s) n (board_of s) s.records t).route
