-- Each step refused and accepted, and what an accepted one knows.
use mathlib.Core.Path.{◌≡◌, refl, ap, ap₂, sym, ◌∙◌}
use mathlib.Core.Bool.{Bool, true, false, not, ◌&&◌, ◌||◌}
use mathlib.Core.List.{List}
use Prim.Native.Nat.{ℕ, ◌+◌, ◌-◌, ◌≤◌, ◌<◌}
use native.Mathlib.Omega.{arith}
use lib.Dec.{eqb, ltb}
use lib.ListN.{get_or, length}
use borrow.Author.Tests.{eqb-true, eqb-false, ne_eqb, ltb-true, not-true, lt-ltb, le-ltb, le-leb}
use Rattle.laws.proofs.Logic.{decided, and-true}
use Rattle.laws.proofs.Choice.{or-else-zero, passed}
use Rattle.laws.specs.Basic.{or_else, unless}
use Rattle.bits.specs.Places.{has}
use Rattle.bits.proofs.Members.{false-true}
use Rattle.rules.specs.Numbers.{refusal}
use Rattle.rules.specs.Day.{is_inner}
use Rattle.rules.proofs.Inner.{is-inner}
use Rattle.board.specs.Board.{Board, board_of, on_board, on_route, set_of, open_at, leg_node}
use Rattle.board.specs.Held.{InForm, Splits}
use Rattle.board.proofs.FormLaws.{leg-in, on_word}
use Rattle.board.specs.Route.{word_of}
use Rattle.board.specs.declared.State.{State}
use Rattle.records.specs.Trail.{room_of, shrunk}
use Rattle.records.proofs.TrailLaws.{shrunk-still, note-still, Noted}
use Rattle.records.proofs.UndoLaws.{many-none}
use Rattle.trail.specs.Refusals.{place_shut, place_refusal, exclude_refusal, require_refusal, oblige_refusal}
use Rattle.trail.specs.Steps.{Ran, answered, unless_refused, settle_step, base_of, undo_level, dropped, back_step}

pub step-no : (k : ℕ) (s : State) (t : List ℕ) (ran : Ran) → (k ≡ 0 → ⊥) → unless_refused k s t ran ≡ answered k s t
unfolding unless_refused
step-no k s t ran h = rw (ne_eqb k 0 h)

pub step-yes : (k : ℕ) (s : State) (t : List ℕ) (ran : Ran) → k ≡ 0 → unless_refused k s t ran ≡ ran
unfolding unless_refused
step-yes k s t ran h = rw h

-- a step that gave 0 was not refused
pub step-zero : (k : ℕ) (s : State) (t : List ℕ) (ran : Ran) → (unless_refused k s t ran).0.answer ≡ 0 → k ≡ 0
step-zero k s t ran e =
    decided (eqb k 0) (λ q. eqb-true k 0 q)
    (λ q. sym (ap (λ (r : Ran). r.0.answer) (step-no k s t ran (eqb-false k 0 q))) ∙ e)

-- ---- what the code asks of a node; x and p are places of a word then

pub inner_below : {n x : ℕ} → is_inner n x ≡ true → n ≤ 64 → x < 64
inner_below {n} {x} e small = omega (arith, (is-inner n x e).1)

pub leg_below : {n p : ℕ} → leg_node n p ≡ true → n ≤ 64 → p < 64
leg_below {n} {p} e small = omega (arith, leg-in n p e)

-- the word of the route has the nodes on it
pub on_asked : (b : Board) (x : ℕ) → x < 64 → b.stops ≤ length b.route → on_route b x ≡ has (word_of b.stops b.route) x
on_asked b x l h = sym (on_word b x l h)

-- ---- what an accepted step knows

pub record Placeable (n : ℕ) (b : Board) (records room p x : ℕ) : Type 0 where
  pub split : Splits n b p x
  pub place : open_at b x p ≡ true
  pub left : records < room

-- the place is open
pub not-shut : (n : ℕ) (b : Board) (p x : ℕ) → place_shut n b p x ≡ 0 → Splits n b p x × (open_at b x p ≡ true)
unfolding place_shut
not-shut n b p x e =
    let h = or-else-zero (unless (is_inner n x && leg_node n p) refusal.NODE) _ e in
    let i = and-true (is_inner n x) (leg_node n p) (passed (is_inner n x && leg_node n p) refusal.NODE refl h.0) in
    let o = or-else-zero (unless (not (on_route b x)) refusal.PLACED) _ h.1 in
    let q = or-else-zero (unless (on_route b p) refusal.UNPLACED) _ o.1 in (
      record { node = i.0; leg = i.1; off = not-true (on_route b x) (passed (not (on_route b x)) refusal.PLACED refl o.0); on = passed (on_route b p) refusal.UNPLACED refl q.0 },
      passed (open_at b x p) refusal.SHUT refl q.1,
    )

pub placeable : (n : ℕ) (b : Board) (records room p x : ℕ) → place_refusal n b records room p x ≡ 0 → Placeable n b records room p x
unfolding place_refusal
placeable n b records room p x e =
    let h = or-else-zero (place_shut n b p x) _ e in
    let s = not-shut n b p x h.0 in
    record { split = s.0; place = s.1; left = ltb-true records room (passed (ltb records room) refusal.ROOM refl h.1) }

-- an open place and room for one record: nothing refuses
pub place-open : (n : ℕ) (b : Board) (records room p x : ℕ) → place_shut n b p x ≡ 0 → records < room → place_refusal n b records room p x ≡ 0
unfolding place_refusal or_else
place-open n b records room p x e h = rw (e, lt-ltb records room h)

-- x may change: it is an inner node off the route
pub record Free (n : ℕ) (b : Board) (x : ℕ) : Type 0 where
  pub node : is_inner n x ≡ true
  pub off : on_route b x ≡ false

or_left : (a b : Bool) → a || b ≡ true → a ≡ false → b ≡ true
or_left true b e f = absurd (false-true (sym f))
or_left false b e f = e

pub excludable : (n : ℕ) (b : Board) (records room : ℕ) (owed : Bool) (x : ℕ) → exclude_refusal n b records room owed x ≡ 0
    → Free n b x × ((set_of b x ≡ 0 → ⊥) → records < room)
unfolding exclude_refusal
excludable n b records room owed x e =
    let h = or-else-zero (unless (is_inner n x) refusal.NODE) _ e in
    let o = or-else-zero (unless (not (on_route b x)) refusal.PLACED) _ h.1 in
    let w = or-else-zero (unless (not owed) refusal.OWED) _ o.1 in
    let r = passed (eqb (set_of b x) 0 || ltb records room) refusal.ROOM refl w.1 in (
      record { node = passed (is_inner n x) refusal.NODE refl h.0; off = not-true (on_route b x) (passed (not (on_route b x)) refusal.PLACED refl o.0) },
      λ d. ltb-true records room (or_left (eqb (set_of b x) 0) (ltb records room) r (ne_eqb (set_of b x) 0 d)),
    )

-- what is excluded is not owed
pub not-owed : (n : ℕ) (b : Board) (records room : ℕ) (owed : Bool) (x : ℕ) → exclude_refusal n b records room owed x ≡ 0 → owed ≡ false
unfolding exclude_refusal
not-owed n b records room owed x e =
    let h = or-else-zero (unless (is_inner n x) refusal.NODE) _ e in
    let o = or-else-zero (unless (not (on_route b x)) refusal.PLACED) _ h.1 in
    not-true owed (passed (not owed) refusal.OWED refl (or-else-zero (unless (not owed) refusal.OWED) _ o.1).0)

-- so it has a set, and there is room for its record: what the doing of it asks
pub shut-out-asks : (n : ℕ) (b : Board) (records room : ℕ) (owed : Bool) (x : ℕ) → n ≤ 64 → exclude_refusal n b records room owed x ≡ 0
    → (x < 64) × ((get_or b.sets x 0 ≡ 0 → ⊥) → records < room)
unfolding set_of
shut-out-asks n b records room owed x small e =
    let h = excludable n b records room owed x e in
    (omega (arith, (is-inner n x h.0.node).1, small), h.1)

pub requirable : (n : ℕ) (b : Board) (records room x : ℕ) → require_refusal n b records room x ≡ 0
    → Free n b x × (has b.marks x ≡ false → records < room)
unfolding require_refusal
requirable n b records room x e =
    let h = or-else-zero (unless (is_inner n x) refusal.NODE) _ e in
    let o = or-else-zero (unless (not (on_route b x)) refusal.PLACED) _ h.1 in
    let r = passed (has b.marks x || ltb records room) refusal.ROOM refl o.1 in (
      record { node = passed (is_inner n x) refusal.NODE refl h.0; off = not-true (on_route b x) (passed (not (on_route b x)) refusal.PLACED refl o.0) },
      λ d. ltb-true records room (or_left (has b.marks x) (ltb records room) r d),
    )

pub obligeable : (n : ℕ) (b : Board) (records room x : ℕ) → oblige_refusal n b records room x ≡ 0
    → (is_inner n x ≡ true) × (has b.must x ≡ false → records < room)
unfolding oblige_refusal
obligeable n b records room x e =
    let h = or-else-zero (unless (is_inner n x) refusal.NODE) _ e in
    let r = passed (has b.must x || ltb records room) refusal.ROOM refl h.1 in
    (passed (is_inner n x) refusal.NODE refl h.0, λ d. ltb-true records room (or_left (has b.must x) (ltb records room) r d))

-- ---- settling

-- sets that stay: nothing changes
pub settle-still : (s : State) (t : List ℕ) → s.records ≤ room_of t → settle_step s t 0 s.sets ≡ answered 0 s t
unfolding settle_step
settle-still s t h =
    let e : s.records + shrunk s.sets s.sets 64 ≡ s.records = omega (arith, shrunk-still s.sets 64) in
    step-yes _ s t _ (ap (λ (b : Bool). unless b refusal.ROOM) (le-leb _ (room_of t) (omega (arith, e))))
    ∙ ap₂ (λ (k : ℕ) (b : Noted). answered 0 (on_board s (board_of s) k) b.1) e (note-still s.sets 64 (s.records, t))

-- ---- stepping back

pub base-low : (n : ℕ) (s : State) → InForm n s → 0 < s.depth → base_of s ≤ s.records
unfolding base_of
base-low n s f h = f.levels.held (s.depth - 1) (omega arith)

pub back_none : (n : ℕ) (s : State) (t : List ℕ) → s.depth < 1 → back_step n s t ≡ answered refusal.DEPTH s t
unfolding back_step or_else
back_none n s t h = rw (le-ltb 0 s.depth (omega arith)) (step-no refusal.DEPTH s t _ (eqb-false refusal.DEPTH 0 refl))

-- a level without a record: nothing is undone
pub level-empty : (n : ℕ) (s : State) (t : List ℕ) → base_of s ≡ s.records → undo_level n s t ≡ (true, board_of s)
unfolding undo_level
level-empty n s t e = let k : s.records - base_of s ≡ 0 = omega (arith, e) in rw k (many-none n (board_of s) s.records t)

module _ (n : ℕ) (s : State) (t : List ℕ) (f : Bool) (b : Board) (h : 0 < s.depth) (e : undo_level n s t ≡ (f, b)) where
  pub back_fits : f ≡ true → back_step n s t ≡ answered 0 (dropped s b) t
  unfolding back_step or_else
  back_fits z = rw (lt-ltb 0 s.depth h, e, z) (step-yes 0 s t _ refl)
