-- From a fresh state, with room for n(n − 2) records and one for each mark "must go somewhere", no step is refused for its room, and none for a misfit.
use mathlib.Core.Path.{◌≡◌, refl, ap, sym, ◌∙◌}
use mathlib.Core.Bool.{Bool, true, false, not, ◌&&◌, ◌||◌}
use mathlib.Core.List.{List}
use Prim.Native.Nat.{ℕ, ◌+◌, ◌-◌, ◌*◌, ◌/◌, ◌≤◌}
use native.Mathlib.Omega.{arith}
use lib.Dec.{eqb, leb, ltb}
use borrow.Author.Tests.{eqb-false, ltb-false, leb-false, not-true}
use Rattle.laws.proofs.Choice.{or-else-first}
use Rattle.laws.specs.Basic.{or_else, unless}
use Rattle.bits.specs.Places.{has}
use Rattle.bits.proofs.Members.{false-true, within_none}
use Rattle.bits.proofs.Number.{members}
use Rattle.rules.specs.Numbers.{refusal}
use Rattle.rules.specs.Day.{is_inner}
use Rattle.rules.proofs.Inner.{is-inner}
use Rattle.board.specs.Board.{Board, board_of, on_route, set_of, open_at, leg_node}
use Rattle.board.specs.Fresh.{fresh_state}
use Rattle.board.specs.Change.{put_set, placed_after, marked, obliged}
use Rattle.board.proofs.Keep.{obliged-formed}
use Rattle.board.specs.declared.State.{State}
use Rattle.records.specs.Trail.{room_of, change, first_word, shrunk}
use Rattle.trail.specs.Refusals.{place_shut, place_refusal, exclude_refusal, require_refusal, oblige_refusal}
use Rattle.trail.proofs.StepLaws.{not-shut}
use Rattle.trail.proofs.Small.{shrinks, places, marks, obliges, put-marks, placed-marks}
use Rattle.trail.specs.Run.{Smaller, Runs}
use Rattle.trail.proofs.Since.{strict}
use Rattle.trail.proofs.Bound.{one_more, mark-must, must-most, reached, record-room, settle-room}

-- a test of another number was passed where the refusal is the room's
skip : (t : Bool) (k b : ℕ) → eqb k 0 ≡ false → eqb k refusal.ROOM ≡ false → or_else (unless t k) b ≡ refusal.ROOM → (t ≡ true) × (b ≡ refusal.ROOM)
unfolding or_else
skip true k b n d e = (refl, e)
skip false k b n d e = absurd (eqb-false k refusal.ROOM d (or-else-first k b (eqb-false k 0 n) ∙ e))

-- and the room's own failed
last : (t : Bool) → unless t refusal.ROOM ≡ refusal.ROOM → t ≡ false
last true e = absurd (eqb-false 0 refusal.ROOM refl e)
last false e = refl

neither : (a b : Bool) → a || b ≡ false → (a ≡ false) × (b ≡ false)
neither true b e = absurd (false-true (sym e))
neither false b e = (refl, e)

-- a placing refused for its room alone: its place is open
shut-roomy : (n : ℕ) (b : Board) (p x : ℕ) (t : Bool) → or_else (place_shut n b p x) (unless t refusal.ROOM) ≡ refusal.ROOM → (place_shut n b p x ≡ 0) × (t ≡ false)
unfolding place_shut or_else
shut-roomy n b p x t e = go (is_inner n x && leg_node n p) (not (on_route b x)) (on_route b p) (open_at b x p) e
  where
    go : (i o q w : Bool) → or_else (or_else (unless i refusal.NODE) (or_else (unless o refusal.PLACED) (or_else (unless q refusal.UNPLACED) (unless w refusal.SHUT)))) (unless t refusal.ROOM) ≡ refusal.ROOM
        → (or_else (unless i refusal.NODE) (or_else (unless o refusal.PLACED) (or_else (unless q refusal.UNPLACED) (unless w refusal.SHUT))) ≡ 0) × (t ≡ false)
    go false o q w e = absurd (eqb-false refusal.NODE refusal.ROOM refl e)
    go true false q w e = absurd (eqb-false refusal.PLACED refusal.ROOM refl e)
    go true true false w e = absurd (eqb-false refusal.UNPLACED refusal.ROOM refl e)
    go true true true false e = absurd (eqb-false refusal.SHUT refusal.ROOM refl e)
    go true true true true e = (refl, last t e)

module _ (n : ℕ) (may : ℕ → Bool) (two : 2 ≤ n) (small : n ≤ 64) (t : List ℕ) (r : State) (u : List ℕ) (run : Runs n (fresh_state n may) t r u) where
  room-is : room_of u ≡ room_of t
  unfolding room_of
  room-is = ap (λ (k : ℕ). k / 2) (reached n may two small t r u run).long

  -- step 8: its mark is counted
  pub oblige-roomy : (x : ℕ) → n * (n - 2) + members 64 (obliged (board_of r) x).must ≤ room_of t → oblige_refusal n (board_of r) r.records (room_of u) x ≡ refusal.ROOM → ⊥
  unfolding oblige_refusal
  oblige-roomy x space e =
      let b = board_of r in
      let i = skip (is_inner n x) refusal.NODE _ refl refl e in
      let z = neither (has r.must x) (ltb r.records (room_of u)) (last (has r.must x || ltb r.records (room_of u)) i.1) in
      let l = record-room n may two small t r u run (first_word change.OBLIGING x) 0 (obliged b x) (obliges x i.0 z.0 refl refl refl) in
      omega (arith, l, room-is, space, ltb-false r.records (room_of u) z.1)

  -- with room for (n + 1)(n − 2) records any such mark can be set
  pub oblige-roomy-full : (n + 1) * (n - 2) ≤ room_of t → (x : ℕ) → oblige_refusal n (board_of r) r.records (room_of u) x ≡ refusal.ROOM → ⊥
  unfolding oblige_refusal
  oblige-roomy-full space x e =
      let i = skip (is_inner n x) refusal.NODE _ refl refl e in
      let m = must-most n (obliged (board_of r) x) two small (obliged-formed n (board_of r) x (reached n may two small t r u run).form.board i.0) in
      oblige-roomy x (omega (arith, space, m, one_more n (n - 2))) e

module _ (n : ℕ) (may : ℕ → Bool) (two : 2 ≤ n) (small : n ≤ 64) (t : List ℕ) (r : State) (u : List ℕ) (run : Runs n (fresh_state n may) t r u) (space : n * (n - 2) + members 64 r.must ≤ room_of t) where
  room : room_of u ≡ room_of t
  room = room-is n may two small t r u run

  pub place-roomy : (p x : ℕ) → place_refusal n (board_of r) r.records (room_of u) p x ≡ refusal.ROOM → ⊥
  unfolding place_refusal
  place-roomy p x e =
      let b = board_of r in
      let z = shut-roomy n b p x (ltb r.records (room_of u)) e in
      let w = not-shut n b p x z.0 in
      let l = record-room n may two small t r u run (first_word change.PLACING x) (set_of b x) (placed_after b p x) (places p x w.0 w.1 refl refl refl) in
      omega (arith, l, ap (members 64) (placed-marks b p x).1, room, space, ltb-false r.records (room_of u) z.1)

  pub exclude-roomy : (owed : Bool) (x : ℕ) → exclude_refusal n (board_of r) r.records (room_of u) owed x ≡ refusal.ROOM → ⊥
  unfolding exclude_refusal
  exclude-roomy owed x e =
      let b = board_of r in
      let i = skip (is_inner n x) refusal.NODE _ refl refl e in
      let o = skip (not (on_route b x)) refusal.PLACED _ refl refl i.1 in
      let q = skip (not owed) refusal.OWED _ refl refl o.1 in
      let z = neither (eqb (set_of b x) 0) (ltb r.records (room_of u)) (last (eqb (set_of b x) 0 || ltb r.records (room_of u)) q.1) in
      let h = (reached n may two small t r u run).held.words.fits x (omega (arith, (is-inner n x i.0).1, small)) in
      let l = record-room n may two small t r u run (first_word change.SHRINKING x) (set_of b x) (put_set b x 0)
      (shrinks x 0 (record { node = i.0; off = not-true (on_route b x) o.0 }) (strict 0 (set_of b x) (omega arith) h (within_none (set_of b x)) (eqb-false (set_of b x) 0 z.0)) (omega arith) refl refl refl) in
      omega (arith, l, ap (members 64) (put-marks b x 0).1, room, space, ltb-false r.records (room_of u) z.1)

  pub require-roomy : (x : ℕ) → require_refusal n (board_of r) r.records (room_of u) x ≡ refusal.ROOM → ⊥
  unfolding require_refusal
  require-roomy x e =
      let b = board_of r in
      let i = skip (is_inner n x) refusal.NODE _ refl refl e in
      let o = skip (not (on_route b x)) refusal.PLACED _ refl refl i.1 in
      let z = neither (has r.marks x) (ltb r.records (room_of u)) (last (has r.marks x || ltb r.records (room_of u)) o.1) in
      let l = record-room n may two small t r u run (first_word change.MARKING x) 0 (marked b x)
      (marks x (record { node = i.0; off = not-true (on_route b x) o.0 }) z.0 refl refl refl) in
      omega (arith, l, ap (members 64) (mark-must b x), room, space, ltb-false r.records (room_of u) z.1)

  pub settle-roomy : (new : List ℕ) → Smaller r.sets new → unless (leb (r.records + shrunk r.sets new 64) (room_of u)) refusal.ROOM ≡ refusal.ROOM → ⊥
  settle-roomy new g e =
      omega (
        arith,
        room,
        space,
        settle-room n may two small t r u run new g,
        leb-false (r.records + shrunk r.sets new 64) (room_of u) (last (leb (r.records + shrunk r.sets new 64) (room_of u)) e),
      )
