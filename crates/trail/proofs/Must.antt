-- The marks "must go somewhere": step 8 sets one, stepping back may take some off, and no other step touches them.
use mathlib.Core.Path.{◌≡◌, refl, ap, sym, ◌∙◌}
use mathlib.Core.Bool.{Bool, true, false, cond, ◌||◌, or-true, or-false}
use mathlib.Core.List.{List}
use Prim.Native.Nat.{ℕ, ◌≤◌, ◌<◌}
use native.Mathlib.Omega.{arith}
use lib.Dec.{eqb}
use borrow.Author.Tests.{eqb-true}
use Rattle.laws.proofs.Logic.{decided}
use Rattle.bits.specs.Places.{has, without}
use Rattle.bits.proofs.Members.{has-none, without-no}
use Rattle.rules.specs.Day.{is_inner}
use Rattle.rules.proofs.Inner.{is-inner}
use Rattle.board.specs.Board.{Board, board_of, set_of}
use Rattle.board.specs.Change.{put_set, placed_after, marked, unplaced, unmarked, unobliged}
use Rattle.board.specs.declared.State.{State}
use Rattle.board.proofs.PlaceLaws.{must-obliged}
use Rattle.records.specs.Trail.{room_of, first_of, second_of, record_node}
use Rattle.records.specs.Undo.{fits_shrunk, fits_placed, fits_marked, fits_obliged, Undone, undone, undo_one, undo_many}
use Rattle.trail.specs.Steps.{Ran, acted, unless_refused, recorded, place_step, close_step, exclude_step, require_step, settle_step, level_step, undo_level, dropped, back_step, oblige_step}
use Rattle.records.proofs.UndoLaws.{one-by, many-keeps}
use Rattle.trail.proofs.StepLaws.{obligeable}
use Rattle.trail.proofs.Since.{accepted}

-- what holds of the state before and of the one that a step gives, holds refused or not
pub stays : (P : State → Type 0) (k : ℕ) (s : State) (t : List ℕ) (ran : Ran) → P s → P ran.0.state → P (unless_refused k s t ran).0.state
unfolding unless_refused
stays P k s t ran p q = go (eqb k 0)
  where
    go : (b : Bool) → P (cond b ran (acted k 0 s t)).0.state
    go true = q
    go false = p

either : (P : State → Type 0) (b : Bool) (x y : Ran) → P x.0.state → P y.0.state → P (cond b x y).0.state
either P true x y p q = p
either P false x y p q = q

-- ---- steps 1 to 6 leave the marks "must go somewhere" alone

module _ (n : ℕ) (s : State) (t : List ℕ) where
  abbrev Same : State → Type 0
  Same r = r.must ≡ s.must

  pub place-must : (p x : ℕ) → (place_step n s t p x).0.state.must ≡ s.must
  unfolding place_step recorded placed_after
  place-must p x = stays Same _ s t _ refl refl

  pub close-must : (p x : ℕ) → (close_step n s t p x).0.state.must ≡ s.must
  unfolding close_step recorded put_set
  close-must p x = stays Same _ s t _ refl refl

  pub exclude-must : (owed : Bool) (x : ℕ) → (exclude_step n s t owed x).0.state.must ≡ s.must
  unfolding exclude_step recorded put_set
  exclude-must owed x = stays Same _ s t _ refl (either Same (eqb (set_of (board_of s) x) 0) _ _ refl refl)

  pub require-must : (x : ℕ) → (require_step n s t x).0.state.must ≡ s.must
  unfolding require_step recorded marked
  require-must x = stays Same _ s t _ refl (either Same (has s.marks x) _ _ refl refl)

  pub settle-must : (rounds : ℕ) (new : List ℕ) → (settle_step s t rounds new).0.state.must ≡ s.must
  unfolding settle_step
  settle-must rounds new = stays Same _ s t _ refl refl

  pub level-must : (level_step s t).0.state.must ≡ s.must
  unfolding level_step
  level-must = stays Same _ s t _ refl refl

-- ---- where no ward has the mark, stepping back sets none

undone-must : (t : Bool) (b c : Board) → c.must ≡ 0 → b.must ≡ 0 → (undone t c b).1.must ≡ 0
unfolding undone
undone-must true b c p q = p
undone-must false b c p q = q

one-must : (n : ℕ) (b : Board) (a w : ℕ) → b.must ≡ 0 → (undo_one n b a w).1.must ≡ 0
unfolding put_set unplaced unmarked unobliged
one-must n b a w z =
    one-by (λ (u : Undone). u.1.must ≡ 0) n b a w
    (undone-must (fits_shrunk n b (record_node a) w) b _ z z)
    (undone-must (fits_placed n b (record_node a) w) b _ z z)
    (undone-must (fits_marked b (record_node a) w) b _ z z)
    (undone-must (fits_obliged b (record_node a) w) b _ (ap (λ (m : ℕ). without m (record_node a)) z ∙ without-no 0 (record_node a) (has-none (record_node a))) z)
    z

pub many-must : (k n : ℕ) (b : Board) (records : ℕ) (t : List ℕ) → b.must ≡ 0 → (undo_many k n b records t).1.must ≡ 0
many-must k n b records t z = many-keeps (λ (c : Board). c.must ≡ 0) n t (λ c i h. one-must n c (first_of t i) (second_of t i) h) k b records z

pub back-must : (n : ℕ) (s : State) (t : List ℕ) → s.must ≡ 0 → (back_step n s t).0.state.must ≡ 0
unfolding back_step undo_level dropped
back-must n s t z = stays (λ (r : State). r.must ≡ 0) _ s t _ z (many-must _ n (board_of s) s.records t z)

-- ---- step 8, accepted, sets that of x and no other

pub oblige-must : (n : ℕ) (s : State) (t : List ℕ) {k : ℕ} (x : ℕ) (r : State) (u : List ℕ) → n ≤ 64 → oblige_step n s t x ≡ acted 0 k r u
    → (is_inner n x ≡ true) × ((y : ℕ) → has r.must y ≡ has s.must y || eqb y x)
unfolding oblige_step recorded
oblige-must n s t x r u small e =
    let a = accepted _ s t _ r u e in
    let i = (obligeable n (board_of s) s.records (room_of t) x a.0).0 in
    let l : x < 64 = omega (arith, (is-inner n x i).1, small) in (
      i,
      λ y. ap (λ (q : Ran). has q.0.state.must y) (sym a.1) ∙ decided (has s.must x)
          (λ h. rw h (already y h))
          (λ h. rw h (must-obliged (board_of s) x y l)),
    )
  where
    already : (y : ℕ) → has s.must x ≡ true → has s.must y ≡ has s.must y || eqb y x
    already y h = decided (eqb y x)
        (λ q. rw q (ap (has s.must) (eqb-true y x q) ∙ h ∙ sym (or-true (has s.must y))))
        (λ q. rw q (sym (or-false (has s.must y))))
