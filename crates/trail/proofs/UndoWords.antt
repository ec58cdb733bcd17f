-- Undoing records of a trail of words leaves sets and marks that are words.
use mathlib.Core.Path.{◌≡◌, refl}
use mathlib.Core.Bool.{Bool, true, false, not, ◌&&◌}
use mathlib.Core.List.{List}
use Prim.Native.Nat.{ℕ, ◌<◌, ◌^◌}
use native.Mathlib.Omega.{arith}
use lib.ListN.{get_or}
use lib.Dec.{eqb}
use borrow.Author.Tests.{eqb-true, eqb-false}
use Rattle.laws.proofs.Logic.{decided, and-true}
use Rattle.bits.proofs.Members.{without-fits}
use Rattle.rules.specs.Day.{is_inner}
use Rattle.rules.proofs.Inner.{is-inner}
use Rattle.board.specs.Board.{Board, on_route, set_of}
use Rattle.board.specs.Change.{strike, put_set, unplaced, unmarked, unobliged}
use Rattle.board.specs.Held.{Words, Sound}
use Rattle.board.proofs.Keep.{unplaced-set, unplaced-here}
use Rattle.records.specs.Trail.{first_of, second_of, record_node}
use Rattle.records.specs.Undo.{fits_shrunk, fits_placed, fits_marked, fits_obliged, Undone, undone, undo_one, undo_many}
use Rattle.records.proofs.UndoLaws.{unplaced-marks, one-by, one-sound, many-keeps}
use Rattle.trail.proofs.Small.{put-words}

undone-words : (t : Bool) (b c : Board) → (t ≡ true → Words c) → Words b → Words (undone t c b).1
unfolding undone
undone-words true b c f h = f refl
undone-words false b c f h = h

shrunk-words : (n : ℕ) (b : Board) (x w : ℕ) → Sound n b → Words b → w < 2 ^ 64 → fits_shrunk n b x w ≡ true → Words (put_set b x w)
unfolding fits_shrunk
shrunk-words n b x w s h l e =
    let q = and-true (is_inner n x) _ (and-true (is_inner n x && not (on_route b x)) _ e).0 in
    put-words b x w (omega (arith, s.wide.sets, (is-inner n x q.0).1, s.small)) l h

strike-word : (x w : ℕ) → w < 2 ^ 64 → strike x w < 2 ^ 64
unfolding strike
strike-word x w h = without-fits w x h

placed-words : (n : ℕ) (b : Board) (x w : ℕ) → Sound n b → Words b → w < 2 ^ 64 → fits_placed n b x w ≡ true → Words (unplaced b x w)
unfolding fits_placed
placed-words n b x w s h l e =
    let q = and-true (is_inner n x) (on_route b x) (and-true (is_inner n x && on_route b x) _ e).0 in
    record {
      fits = λ y m. decided (eqb y x)
          (λ z. rw (eqb-true y x z, unplaced-here n b x w s.small s.wide s.form q.0 q.1) l)
          (λ z. rw (unplaced-set n b x w s.small s.wide s.form q.0 q.1 y m (eqb-false y x z)) (strike-word x (set_of b y) (h.fits y m)));
      marks = rw (unplaced-marks b x w).0 h.marks;
      must = rw (unplaced-marks b x w).1 h.must;
    }

unmarked-words : (b : Board) (x : ℕ) → Words b → Words (unmarked b x)
unfolding unmarked set_of
unmarked-words b x h = record { fits = h.fits; marks = without-fits b.marks x h.marks; must = h.must }

unobliged-words : (b : Board) (x : ℕ) → Words b → Words (unobliged b x)
unfolding unobliged set_of
unobliged-words b x h = record { fits = h.fits; marks = h.marks; must = without-fits b.must x h.must }

one-words : (n : ℕ) (b : Board) (a w : ℕ) → Sound n b → Words b → w < 2 ^ 64 → Words (undo_one n b a w).1
one-words n b a w s h l =
    one-by (λ (u : Undone). Words u.1) n b a w
    (undone-words (fits_shrunk n b (record_node a) w) b _ (shrunk-words n b (record_node a) w s h l) h)
    (undone-words (fits_placed n b (record_node a) w) b _ (placed-words n b (record_node a) w s h l) h)
    (undone-words (fits_marked b (record_node a) w) b _ (λ z. unmarked-words b (record_node a) h) h)
    (undone-words (fits_obliged b (record_node a) w) b _ (λ z. unobliged-words b (record_node a) h) h)
    h

second_word : (t : List ℕ) → ((i : ℕ) → get_or t i 0 < 2 ^ 64) → (i : ℕ) → second_of t i < 2 ^ 64
unfolding second_of
second_word t f i = f _

pub many-words : (k n : ℕ) (b : Board) (records : ℕ) (t : List ℕ) → Sound n b → Words b → ((i : ℕ) → get_or t i 0 < 2 ^ 64) → Words (undo_many k n b records t).1
many-words k n b records t s h f =
    (many-keeps (λ (c : Board). Sound n c × Words c) n t
    (λ c i g. (one-sound n c (first_of t i) (second_of t i) g.0, one-words n c (first_of t i) (second_of t i) g.0 g.1 (second_word t f i)))
    k b records (s, h)).1
