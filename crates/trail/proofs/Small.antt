-- A small step: what one record stands for, from the board before to the board after. It keeps the form, and undoing inverts it.
use mathlib.Core.Path.{◌≡◌, refl, ap, ◌∙◌}
use mathlib.Core.Bool.{true, false}
use Prim.Native.Nat.{ℕ, ◌+◌, ◌-◌, ◌<◌, ◌^◌}
use native.Mathlib.Omega.{arith}
use lib.ListN.{length}
use lib.Dec.{eqb}
use borrow.Author.Tests.{eqb-true, eqb-false}
use Rattle.laws.proofs.Logic.{decided, and-true}
use Rattle.bits.specs.Places.{has, within}
use Rattle.bits.proofs.Members.{with-same, with-fits, within-trans}
use Rattle.rules.specs.Day.{is_inner}
use Rattle.rules.proofs.Inner.{is-inner}
use Rattle.board.specs.Route.{index_of}
use Rattle.board.specs.Board.{Board, route_of, on_route, legs_of, set_of, open_at}
use Rattle.board.specs.Change.{heir, put_set, placed_after, marked, unplaced, unmarked, obliged, unobliged}
use Rattle.board.proofs.FormLaws.{set-legs}
use Rattle.board.specs.Held.{Words, Wide, Sound, Splits}
use Rattle.board.proofs.Keep.{put_same, put_other, put-wide, put-formed, placed-wide, placed-formed, placed-set, placed-none, placed_on, legs-after, marked-formed, obliged-formed, heir-yes, heir-no}
use Rattle.board.proofs.Inverse.{put_back, mark-back, oblige-back, place-back, placed-index, placed-before}
use Rattle.records.specs.Trail.{change, first_word}
use Rattle.records.proofs.TrailLaws.{kind-of, node_of}
use Rattle.records.specs.Undo.{strictly, stop_before, fits_shrunk, fits_placed, fits_marked, fits_obliged, undo_one}
use Rattle.records.proofs.UndoLaws.{one-shrunk, one_placed, one-marked, one-obliged, undone-yes}
use Rattle.trail.proofs.StepLaws.{Free}

-- from b to c, with the record's two words
pub data Small (n : ℕ) (b : Board) (first second : ℕ) (c : Board) : Type 0 where
  shrinks : (x v : ℕ) → Free n b x → strictly v (set_of b x) ≡ true → v < 2 ^ 64 → first ≡ first_word change.SHRINKING x → second ≡ set_of b x → c ≡ put_set b x v → Small n b first second c
  places : (p x : ℕ) → Splits n b p x → open_at b x p ≡ true → first ≡ first_word change.PLACING x → second ≡ set_of b x → c ≡ placed_after b p x → Small n b first second c
  marks : (x : ℕ) → Free n b x → has b.marks x ≡ false → first ≡ first_word change.MARKING x → second ≡ 0 → c ≡ marked b x → Small n b first second c
  obliges : (x : ℕ) → is_inner n x ≡ true → has b.must x ≡ false → first ≡ first_word change.OBLIGING x → second ≡ 0 → c ≡ obliged b x → Small n b first second c

-- ---- a smaller set

module _ (n : ℕ) (b : Board) (x v : ℕ) (s : Sound n b) (f : Free n b x) (t : strictly v (set_of b x) ≡ true) where
  low : x < 64
  low = omega (arith, (is-inner n x f.node).1, s.small)

  smaller : within v (set_of b x) ≡ true
  unfolding strictly
  smaller = (and-true (within v (set_of b x)) _ t).0

  shrinks-sound : Sound n (put_set b x v)
  shrinks-sound = record {
    small = s.small;
    wide = put-wide b x v s.wide;
    form = put-formed n b x v s.wide s.form low f.node f.off
        (within-trans v (set_of b x) (legs_of b) smaller (set-legs n b s.small s.wide s.form x low f.node f.off));
  }

  same-road : (on_route (put_set b x v) x ≡ on_route b x) × (legs_of (put_set b x v) ≡ legs_of b)
  unfolding on_route route_of legs_of put_set
  same-road = (refl, refl)

  shrinks-fits : fits_shrunk n (put_set b x v) x (set_of b x) ≡ true
  unfolding fits_shrunk
  shrinks-fits =
      rw (f.node, same-road.0, f.off, same-road.1, put_same b x v (omega (arith, s.wide.sets, low)), t)
      (set-legs n b s.small s.wide s.form x low f.node f.off)

  shrinks-undo : undo_one n (put_set b x v) (first_word change.SHRINKING x) (set_of b x) ≡ (true, b)
  shrinks-undo =
      one-shrunk n (put_set b x v) (first_word change.SHRINKING x) (set_of b x) (kind-of change.SHRINKING x low)
      ∙ rw (node_of change.SHRINKING x low) (undone-yes (put_set b x v) (put_set (put_set b x v) x (set_of b x)) shrinks-fits ∙ ap (λ (c : Board). (true, c)) (put_back b x v))

-- ---- a placing

module _ (n : ℕ) (b : Board) (p x : ℕ) (s : Sound n b) (f : Splits n b p x) (o : open_at b x p ≡ true) where
  low_x : x < 64
  low_x = omega (arith, (is-inner n x f.node).1, s.small)

  places-sound : Sound n (placed_after b p x)
  places-sound = record {
    small = s.small;
    wide = placed-wide n b p x s.small s.wide s.form f;
    form = placed-formed n b p x s.small s.wide s.form f;
  }

  stop-before : stop_before (placed_after b p x) x ≡ p
  unfolding stop_before
  stop-before =
      let k : index_of p (route_of b) + 1 - 1 ≡ index_of p (route_of b) = omega arith in
      rw (placed-index n b p x s.small s.wide s.form f, k) (placed-before n b p x s.small s.wide s.form f)

  places-fits : fits_placed n (placed_after b p x) x (set_of b x) ≡ true
  unfolding fits_placed open_at
  places-fits =
      rw (
        f.node,
        placed_on n b p x s.small s.wide s.form f,
        legs-after n b p x s.small s.wide s.form f (set_of b x) (set-legs n b s.small s.wide s.form x low_x f.node f.off),
        stop-before,
      ) o

  places-undo : undo_one n (placed_after b p x) (first_word change.PLACING x) (set_of b x) ≡ (true, b)
  places-undo =
      one_placed n (placed_after b p x) (first_word change.PLACING x) (set_of b x) (kind-of change.PLACING x low_x)
      ∙ rw (node_of change.PLACING x low_x) (undone-yes (placed_after b p x) (unplaced (placed_after b p x) x (set_of b x)) places-fits ∙ ap (λ (c : Board). (true, c)) (place-back n b p x s.small s.wide s.form f))

-- ---- a mark

marked-wide : (b : Board) (x : ℕ) → Wide b → Wide (marked b x)
unfolding marked
marked-wide b x h = record { route = h.route; sets = h.sets }

marked-road : (b : Board) (x : ℕ) → on_route (marked b x) x ≡ on_route b x
unfolding on_route route_of marked
marked-road b x = refl

marked-has : (b : Board) (x : ℕ) → x < 64 → has (marked b x).marks x ≡ true
unfolding marked
marked-has b x l = with-same b.marks x l

module _ (n : ℕ) (b : Board) (x : ℕ) (s : Sound n b) (f : Free n b x) (o : has b.marks x ≡ false) where
  low-m : x < 64
  low-m = omega (arith, (is-inner n x f.node).1, s.small)

  marks-sound : Sound n (marked b x)
  marks-sound = record { small = s.small; wide = marked-wide b x s.wide; form = marked-formed n b x s.form f.node }

  marks-fits : fits_marked (marked b x) x 0 ≡ true
  unfolding fits_marked
  marks-fits = rw (marked-road b x, f.off, marked-has b x low-m)

  marks-undo : undo_one n (marked b x) (first_word change.MARKING x) 0 ≡ (true, b)
  marks-undo =
      one-marked n (marked b x) (first_word change.MARKING x) 0 (kind-of change.MARKING x low-m)
      ∙ rw (node_of change.MARKING x low-m) (undone-yes (marked b x) (unmarked (marked b x) x) marks-fits ∙ ap (λ (c : Board). (true, c)) (mark-back b x o))

-- ---- a mark "must go somewhere"

obliged-wide : (b : Board) (x : ℕ) → Wide b → Wide (obliged b x)
unfolding obliged
obliged-wide b x h = record { route = h.route; sets = h.sets }

module _ (n : ℕ) (b : Board) (x : ℕ) (s : Sound n b) (i : is_inner n x ≡ true) (o : has b.must x ≡ false) where
  low-o : x < 64
  low-o = omega (arith, (is-inner n x i).1, s.small)

  obliges-sound : Sound n (obliged b x)
  obliges-sound = record { small = s.small; wide = obliged-wide b x s.wide; form = obliged-formed n b x s.form i }

  obliges-fits : fits_obliged (obliged b x) x 0 ≡ true
  unfolding fits_obliged obliged
  obliges-fits = rw (with-same b.must x low-o)

  obliges-undo : undo_one n (obliged b x) (first_word change.OBLIGING x) 0 ≡ (true, b)
  obliges-undo =
      one-obliged n (obliged b x) (first_word change.OBLIGING x) 0 (kind-of change.OBLIGING x low-o)
      ∙ rw (node_of change.OBLIGING x low-o) (undone-yes (obliged b x) (unobliged (obliged b x) x) obliges-fits ∙ ap (λ (c : Board). (true, c)) (oblige-back b x o))

-- ---- all four

-- a small step keeps the form
pub small-sound : {n : ℕ} {b : Board} {a w : ℕ} {c : Board} → Sound n b → Small n b a w c → Sound n c
small-sound {n = n} {b = b} s (shrinks x v f t h i j k) = rw k (shrinks-sound n b x v s f t)
small-sound {n = n} {b = b} s (places p x f o i j k) = rw k (places-sound n b p x s f o)
small-sound {n = n} {b = b} s (marks x f o i j k) = rw k (marks-sound n b x s f o)
small-sound {n = n} {b = b} s (obliges x f o i j k) = rw k (obliges-sound n b x s f o)

-- undoing a small step gives the board before
pub small-undo : {n : ℕ} {b : Board} {a w : ℕ} {c : Board} → Sound n b → Small n b a w c → undo_one n c a w ≡ (true, b)
small-undo {n = n} {b = b} s (shrinks x v f t h i j k) = rw (i, j, k) (shrinks-undo n b x v s f t)
small-undo {n = n} {b = b} s (places p x f o i j k) = rw (i, j, k) (places-undo n b p x s f o)
small-undo {n = n} {b = b} s (marks x f o i j k) = rw (i, j, k) (marks-undo n b x s f o)
small-undo {n = n} {b = b} s (obliges x f o i j k) = rw (i, j, k) (obliges-undo n b x s f o)

-- and the sets and the marks stay words
marked-words : (b : Board) (x : ℕ) → Words b → Words (marked b x)
unfolding set_of marked
marked-words b x h = record { fits = h.fits; marks = with-fits b.marks x h.marks; must = h.must }

obliged-words : (b : Board) (x : ℕ) → Words b → Words (obliged b x)
unfolding set_of obliged
obliged-words b x h = record { fits = h.fits; marks = h.marks; must = with-fits b.must x h.must }

-- marks of neither sort change with a set or a placing
pub put-marks : (b : Board) (x v : ℕ) → ((put_set b x v).marks ≡ b.marks) × ((put_set b x v).must ≡ b.must)
unfolding put_set
put-marks b x v = (refl, refl)

pub placed-marks : (b : Board) (p x : ℕ) → ((placed_after b p x).marks ≡ b.marks) × ((placed_after b p x).must ≡ b.must)
unfolding placed_after
placed-marks b p x = (refl, refl)

-- a set put is a word
pub put-words : (b : Board) (x v : ℕ) → x < length b.sets → v < 2 ^ 64 → Words b → Words (put_set b x v)
put-words b x v l f h = record {
  fits = λ y m. decided (eqb y x) (λ e. rw (eqb-true y x e, put_same b x v l) f) (λ e. rw (put_other b x v y (eqb-false y x e)) (h.fits y m));
  marks = rw (put-marks b x v).0 h.marks;
  must = rw (put-marks b x v).1 h.must;
}

heir-word : (p x w : ℕ) → w < 2 ^ 64 → heir p x w < 2 ^ 64
heir-word p x w h = decided (has w p) (λ e. rw (heir-yes p x w e) (with-fits w x h)) (λ e. rw (heir-no p x w e) h)

pub small-words : {n : ℕ} {b : Board} {a w : ℕ} {c : Board} → Sound n b → Words b → Small n b a w c → Words c
small-words {n = n} {b = b} s h (shrinks x v f t l i j k) = rw k (put-words b x v (omega (arith, s.wide.sets, (is-inner n x f.node).1, s.small)) l h)
small-words {n = n} {b = b} s h (places p x f o i j k) =
    rw k (record {
      fits = λ y m. decided (eqb y x)
          (λ e. rw (eqb-true y x e, placed-none n b p x s.small s.wide s.form f) (omega arith))
          (λ e. rw (placed-set n b p x s.small s.wide s.form f y m (eqb-false y x e)) (heir-word p x (set_of b y) (h.fits y m)));
      marks = rw (placed-marks b p x).0 h.marks;
      must = rw (placed-marks b p x).1 h.must;
    })
small-words {b = b} s h (marks x f o i j k) = rw k (marked-words b x h)
small-words {b = b} s h (obliges x f o i j k) = rw k (obliged-words b x h)
