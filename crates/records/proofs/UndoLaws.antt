-- Undoing one record and many: loops, and the form that stays.
use mathlib.Core.Path.{◌≡◌, refl}
use mathlib.Core.Bool.{Bool, true, false, cond, not, ◌&&◌}
use mathlib.Core.List.{List}
use Prim.Native.Nat.{ℕ, zero, suc, ◌-◌, ◌<◌}
use native.Mathlib.Omega.{arith}
use lib.Dec.{eqb}
use borrow.Author.Tests.{ne_eqb, not-true}
use Rattle.laws.proofs.Logic.{and-true}
use Rattle.bits.specs.Places.{has, without, within}
use Rattle.rules.specs.Day.{is_inner}
use Rattle.rules.proofs.Inner.{is-inner}
use Rattle.board.specs.Board.{Board, on_route, legs_of, set_of}
use Rattle.board.specs.Change.{put_set, unplaced, unmarked, unobliged}
use Rattle.board.proofs.FormLaws.{on-leg}
use Rattle.board.specs.Held.{Wide, Sound}
use Rattle.board.proofs.Keep.{put-wide, put-formed, unplaced-wide, unplaced-formed, unmarked-formed, unobliged-formed}
use Rattle.records.specs.Trail.{first_of, second_of, change, record_kind, record_node}
use Rattle.records.specs.Undo.{strictly, stop_before, fits_shrunk, fits_placed, fits_marked, fits_obliged, Undone, undone, undo_shrunk, undo_placed, undo_marked, undo_obliged, undo_one, undo_many, Readable}

pub readable : (n : ℕ) (b : Board) → Sound n b → Readable n b.stops b.route
readable n b s = (s.small, omega (arith, s.small, s.form.route.most), s.wide.route, λ i h. omega (arith, s.small, s.form.route.below i h))

-- ---- each kind

pub undone-no : (b c : Board) {t : Bool} → t ≡ false → undone t c b ≡ (false, b)
unfolding undone
undone-no b c e = rw e

pub undone-yes : (b c : Board) {t : Bool} → t ≡ true → undone t c b ≡ (true, c)
unfolding undone
undone-yes b c e = rw e

pub one-shrunk : (n : ℕ) (b : Board) (a w : ℕ) → record_kind a ≡ change.SHRINKING → undo_one n b a w ≡ undo_shrunk n b (record_node a) w
unfolding undo_one
one-shrunk n b a w e = rw e

pub one_placed : (n : ℕ) (b : Board) (a w : ℕ) → record_kind a ≡ change.PLACING → undo_one n b a w ≡ undo_placed n b (record_node a) w
unfolding undo_one
one_placed n b a w e = rw e

pub one-marked : (n : ℕ) (b : Board) (a w : ℕ) → record_kind a ≡ change.MARKING → undo_one n b a w ≡ undo_marked b (record_node a) w
unfolding undo_one
one-marked n b a w e = rw e

pub one-obliged : (n : ℕ) (b : Board) (a w : ℕ) → record_kind a ≡ change.OBLIGING → undo_one n b a w ≡ undo_obliged b (record_node a) w
unfolding undo_one
one-obliged n b a w e = rw e

pub one-other : (n : ℕ) (b : Board) (a w : ℕ) → (record_kind a ≡ change.SHRINKING → ⊥) → (record_kind a ≡ change.PLACING → ⊥) → (record_kind a ≡ change.MARKING → ⊥) → (record_kind a ≡ change.OBLIGING → ⊥)
    → undo_one n b a w ≡ (false, b)
unfolding undo_one
one-other n b a w e f g h = rw (ne_eqb (record_kind a) change.SHRINKING e, ne_eqb (record_kind a) change.PLACING f, ne_eqb (record_kind a) change.MARKING g, ne_eqb (record_kind a) change.OBLIGING h)

-- ---- the tests as the code makes them, on a board in form

pub shrunk-out : (n : ℕ) (b : Board) (x w : ℕ) → is_inner n x ≡ false → fits_shrunk n b x w ≡ false
unfolding fits_shrunk
shrunk-out n b x w e = rw e

pub shrunk-test : (n : ℕ) (b : Board) (x w : ℕ) → Sound n b → is_inner n x ≡ true
    → fits_shrunk n b x w ≡ not (has (legs_of b) x) && (strictly (set_of b x) w && within w (legs_of b))
unfolding fits_shrunk
shrunk-test n b x w s e = rw (e, on-leg n b s.small s.wide s.form x e)

pub placed-test : (n : ℕ) (b : Board) (x w : ℕ) → is_inner n x ≡ true → on_route b x ≡ true
    → fits_placed n b x w ≡ within w (without (legs_of b) x) && has w (stop_before b x)
unfolding fits_placed
placed-test n b x w e m = rw (e, m)

-- ---- a record that fits leaves the board in form, whoever wrote it

undone-keeps : (n : ℕ) (t : Bool) (b c : Board) → (t ≡ true → Sound n c) → Sound n b → Sound n (undone t c b).1
unfolding undone
undone-keeps n true b c f s = f refl
undone-keeps n false b c f s = s

pub shrunk-sound : (n : ℕ) (b : Board) (x w : ℕ) → Sound n b → fits_shrunk n b x w ≡ true → Sound n (put_set b x w)
unfolding fits_shrunk
shrunk-sound n b x w s e =
    let p = and-true (is_inner n x && not (on_route b x)) _ e in
    let q = and-true (is_inner n x) (not (on_route b x)) p.0 in
    let r = and-true (strictly (set_of b x) w) (within w (legs_of b)) p.1 in
    record {
      small = s.small;
      wide = put-wide b x w s.wide;
      form = put-formed n b x w s.wide s.form (omega (arith, (is-inner n x q.0).1, s.small)) q.0 (not-true (on_route b x) q.1) r.1;
    }

pub placed-sound : (n : ℕ) (b : Board) (x w : ℕ) → Sound n b → fits_placed n b x w ≡ true → Sound n (unplaced b x w)
unfolding fits_placed
placed-sound n b x w s e =
    let p = and-true (is_inner n x && on_route b x) _ e in
    let q = and-true (is_inner n x) (on_route b x) p.0 in
    let r = and-true (within w (without (legs_of b) x)) _ p.1 in
    record {
      small = s.small;
      wide = unplaced-wide n b x w s.small s.wide s.form q.0 q.1;
      form = unplaced-formed n b x w s.small s.wide s.form q.0 q.1 r.0;
    }

unmarked-wide : (b : Board) (x : ℕ) → Wide b → Wide (unmarked b x)
unfolding unmarked
unmarked-wide b x h = record { route = h.route; sets = h.sets }

pub marked-sound : (n : ℕ) (b : Board) (x : ℕ) → Sound n b → Sound n (unmarked b x)
marked-sound n b x s = record { small = s.small; wide = unmarked-wide b x s.wide; form = unmarked-formed n b x s.form }

unobliged-wide : (b : Board) (x : ℕ) → Wide b → Wide (unobliged b x)
unfolding unobliged
unobliged-wide b x h = record { route = h.route; sets = h.sets }

pub obliged-sound : (n : ℕ) (b : Board) (x : ℕ) → Sound n b → Sound n (unobliged b x)
obliged-sound n b x s = record { small = s.small; wide = unobliged-wide b x s.wide; form = unobliged-formed n b x s.form }

pub unplaced-marks : (b : Board) (x w : ℕ) → ((unplaced b x w).marks ≡ b.marks) × ((unplaced b x w).must ≡ b.must)
unfolding unplaced
unplaced-marks b x w = (refl, refl)

-- what holds after a record of each kind, and where none fits, holds after any
pub one-by : (P : Undone → Type 0) (n : ℕ) (b : Board) (a w : ℕ) → P (undo_shrunk n b (record_node a) w) → P (undo_placed n b (record_node a) w) → P (undo_marked b (record_node a) w)
    → P (undo_obliged b (record_node a) w) → P (false, b) → P (undo_one n b a w)
unfolding undo_one
one-by P n b a w p q r o s =
    pick (eqb (record_kind a) change.SHRINKING) p (pick (eqb (record_kind a) change.PLACING) q (pick (eqb (record_kind a) change.MARKING) r (pick (eqb (record_kind a) change.OBLIGING) o s)))
  where
    pick : (t : Bool) {x y : Undone} → P x → P y → P (cond t x y)
    pick true h g = h
    pick false h g = g

pub one-sound : (n : ℕ) (b : Board) (a w : ℕ) → Sound n b → Sound n (undo_one n b a w).1
one-sound n b a w s =
    one-by (λ (u : Undone). Sound n u.1) n b a w
    (undone-keeps n (fits_shrunk n b (record_node a) w) b _ (shrunk-sound n b (record_node a) w s) s)
    (undone-keeps n (fits_placed n b (record_node a) w) b _ (placed-sound n b (record_node a) w s) s)
    (undone-keeps n (fits_marked b (record_node a) w) b _ (λ h. marked-sound n b (record_node a) s) s)
    (undone-keeps n (fits_obliged b (record_node a) w) b _ (λ h. obliged-sound n b (record_node a) s) s)
    s

-- ---- many

pub many-none : (n : ℕ) (b : Board) (records : ℕ) (t : List ℕ) → undo_many 0 n b records t ≡ (true, b)
unfolding undo_many
many-none n b records t = refl

-- a turn of the loop: the newest record, undone, goes on; where it does not fit all stops
module _ (n : ℕ) (b : Board) (t : List ℕ) (left base : ℕ) (h : base < left) where
  pub many-on : (undo_one n b (first_of t (left - 1)) (second_of t (left - 1))).0 ≡ true
      → undo_many (left - base) n b left t ≡ undo_many (left - 1 - base) n (undo_one n b (first_of t (left - 1)) (second_of t (left - 1))).1 (left - 1) t
  unfolding undo_many
  many-on z =
      let d : left - base ≡ suc (left - 1 - base) = omega arith in
      rw (d, z)

  pub many-stop : (undo_one n b (first_of t (left - 1)) (second_of t (left - 1))).0 ≡ false
      → undo_many (left - base) n b left t ≡ undo_one n b (first_of t (left - 1)) (second_of t (left - 1))
  unfolding undo_many
  many-stop z =
      let d : left - base ≡ suc (left - 1 - base) = omega arith in
      rw (d, z)

-- what each record of a trail keeps, undoing many keeps
pub many-keeps : (P : Board → Type 0) (n : ℕ) (t : List ℕ) → ((b : Board) (i : ℕ) → P b → P (undo_one n b (first_of t i) (second_of t i)).1)
    → (k : ℕ) (b : Board) (records : ℕ) → P b → P (undo_many k n b records t).1
unfolding undo_many
many-keeps P n t one zero b records h = h
many-keeps P n t one (suc k) b records h =
    let o = undo_one n b (first_of t (records - 1)) (second_of t (records - 1)) in
    let g : P o.1 = one b (records - 1) h in
    go o.0 (undo_many k n o.1 (records - 1) t) o (many-keeps P n t one k o.1 (records - 1) g) g
  where
    go : (f : Bool) (x y : Undone) → P x.1 → P y.1 → P (cond f x y).1
    go true x y p q = p
    go false x y p q = q

-- stepping back keeps the form, whatever the trail holds
pub many-sound : (k n : ℕ) (b : Board) (records : ℕ) (t : List ℕ) → Sound n b → Sound n (undo_many k n b records t).1
many-sound k n b records t s = many-keeps (Sound n) n t (λ c i h. one-sound n c (first_of t i) (second_of t i) h) k b records s
