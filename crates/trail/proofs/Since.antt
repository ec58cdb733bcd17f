-- What holds since a board b had k records and d levels were open: the trail spells the small steps from it.
use mathlib.Core.Path.{◌≡◌, refl, ap, sym, ◌∙◌, subst}
use mathlib.Core.Logic.{◌⊎◌, inl, inr, ⊎_elim}
use mathlib.Core.Bool.{Bool, true, false, cond, not, ◌&&◌}
use mathlib.Core.List.{List}
use Prim.Native.Nat.{ℕ, zero, suc, ◌+◌, ◌-◌, ◌*◌, ◌≤◌, ◌<◌, ◌^◌}
use native.Mathlib.Omega.{arith}
use native.Mathlib.Numerals.{add-one}
use lib.ListN.{length, get_or, set, length-set}
use lib.Seq.{get_or-set_same, get_or-set_other, set-get_or}
use lib.Dec.{eqb, leb, ltb}
use borrow.Author.Tests.{eqb-true, eqb-false, ltb-true, leb-true, not-true}
use Rattle.laws.proofs.Logic.{decided, and-true}
use Rattle.laws.proofs.Choice.{or-else-zero, passed}
use Rattle.laws.specs.Basic.{or_else, unless}
use Rattle.laws.proofs.Sweep.{swept, swept-start, swept-end, swept-more, swept-ahead}
use Rattle.bits.specs.Places.{has, without, within}
use Rattle.bits.proofs.Members.{false-true, without-same, without-fits, within-without, within-ext, within_none}
use Rattle.rules.specs.Numbers.{refusal}
use Rattle.rules.specs.Day.{is_inner}
use Rattle.rules.proofs.Inner.{is-inner}
use Rattle.board.specs.Board.{Board, board, board_of, state_of, on_board, on_route, legs_of, set_of, open_at}
use Rattle.board.specs.Form.{set_ok}
use Rattle.board.specs.Change.{put_set, placed_after, marked, obliged}
use Rattle.board.specs.Held.{Words, Held, Sound, Levels, InForm}
use Rattle.board.specs.declared.State.{State}
use Rattle.records.specs.Trail.{room_of, pushed, first_of, second_of, change, first_word, shrunk, note_one, note_below}
use Rattle.records.proofs.TrailLaws.{pushed-first, pushed-second, pushed_long, pushed_room, pushed-other, shrunk-upto, shrunk-differ, note-same, note-differ, note-all, Noted}
use Rattle.trail.specs.Refusals.{place_refusal, exclude_refusal, require_refusal, oblige_refusal}
use Rattle.records.specs.Undo.{strictly, undo_many}
use Rattle.trail.specs.Steps.{Ran, acted, answered, unless_refused, recorded, shrank, place_step, close_step, exclude_step, require_step, settle_step, level_step, back_step, oblige_step, base_of, undo_level, dropped}
use Rattle.trail.proofs.StepLaws.{step-yes, step-zero, placeable, Free, excludable, requirable, obligeable}
use Rattle.trail.proofs.Small.{Small, shrinks, places, marks, obliges, small-sound, small-words}
use Rattle.trail.proofs.Spells.{Spells, more, spells-sound, spells-words, spells-agree, spells-undo}
use Rattle.trail.specs.Run.{Smaller, Move, place, close, exclude, require, settle, level, back, oblige}

pub record Since (n : ℕ) (b : Board) (k d : ℕ) (levels t₀ : List ℕ) (s : State) (t : List ℕ) : Type 0 where
  pub small : n ≤ 64
  pub held : Held s
  pub form : InForm n s
  pub room : s.records ≤ room_of t
  pub least : k ≤ s.records
  pub spelled : Spells n t b k (s.records - k) (board_of s)
  pub deep : d ≤ s.depth
  pub under : (i : ℕ) → i < d → get_or s.levels i 0 ≡ get_or levels i 0
  pub floor : (i : ℕ) → d ≤ i → i < s.depth → k ≤ get_or s.levels i 0
  pub below : (i : ℕ) → i < 2 * k → get_or t i 0 ≡ get_or t₀ i 0
  pub long : length t ≡ length t₀

-- an accepted step: its refusal is 0, and it ran
pub accepted : (k : ℕ) (s : State) (t : List ℕ) (ran : Ran) {j : ℕ} (r : State) (u : List ℕ) → unless_refused k s t ran ≡ acted 0 j r u → (k ≡ 0) × (ran ≡ acted 0 j r u)
accepted k s t ran r u e =
    let z = step-zero k s t ran (ap (λ (q : Ran). q.0.answer) e) in
    (z, sym (step-yes k s t ran z) ∙ e)

-- a set that is not empty is an inner node's off the route
free-set : (n : ℕ) (b : Board) (y : ℕ) → Sound n b → y < 64 → (set_of b y ≡ 0 → ⊥) → Free n b y
unfolding set_ok
free-set n b y s l d = go (is_inner n y && not (on_route b y)) refl (s.form.sets y l)
  where
    go : (q : Bool) → is_inner n y && not (on_route b y) ≡ q → cond q (within (set_of b y) (legs_of b)) (eqb (set_of b y) 0) ≡ true → Free n b y
    go true e h = let a = and-true (is_inner n y) (not (on_route b y)) e in record { node = a.0; off = not-true (on_route b y) a.1 }
    go false e h = absurd (d (eqb-true (set_of b y) 0 h))

-- a set that got smaller was not empty
pub changed-free : (n : ℕ) (b : Board) (y v : ℕ) → Sound n b → y < 64 → v < 2 ^ 64 → within v (set_of b y) ≡ true → (set_of b y ≡ v → ⊥) → Free n b y
changed-free n b y v s l f e d =
    free-set n b y s l (λ q. d (q ∙ sym (within-ext v 0 f (omega arith) (subst (λ (j : ℕ). within v j ≡ true) q e) (within_none v))))

-- a smaller word that differs is strictly smaller
pub strict : (v w : ℕ) → v < 2 ^ 64 → w < 2 ^ 64 → within v w ≡ true → (w ≡ v → ⊥) → strictly v w ≡ true
unfolding strictly
strict v w f g e d = decided (within w v) (λ h. absurd (d (within-ext w v g f h e))) (λ h. rw (e, h))

levels-more : (depth records : ℕ) (levels : List ℕ) → Levels depth records levels → Levels depth (records + 1) levels
levels-more depth records levels v = record { most = v.most; held = λ i h. omega (arith, v.held i h); rise = v.rise; past = v.past }

-- a level more, which holds the record count
pub levels-open : (depth records : ℕ) (levels : List ℕ) → length levels ≡ 64 → depth < 64 → Levels depth records levels → Levels (depth + 1) records (set levels depth records)
levels-open depth records levels w l v =
    let same = get_or-set_same levels depth records 0 (omega arith) in
    let other : (i : ℕ) → (i ≡ depth → ⊥) → get_or (set levels depth records) i 0 ≡ get_or levels i 0 = λ i z. get_or-set_other levels depth i records 0 z in
    record {
      most = omega arith;
      held = λ i h. decided (eqb i depth) (λ e. rw (eqb-true i depth e, same) (omega arith))
          (λ e. let z = eqb-false i depth e in rw (other i z) (v.held i (omega (arith, z))));
      rise = λ i h. decided (eqb i depth)
          (λ e. let z = eqb-true i depth e in
          decided (eqb depth 0)
          (λ q. let y : i - 1 ≡ depth = omega (arith, z, eqb-true depth 0 q) in rw (y, z) (omega arith))
          (λ q. let p = eqb-false depth 0 q in
          rw (z, same, other (depth - 1) (λ y. omega (arith, p))) (v.held (depth - 1) (omega (arith, p)))))
          (λ e. let z = eqb-false i depth e in rw (other i z, other (i - 1) (λ y. omega (arith, z))) (v.rise i (omega (arith, z))));
      past = λ i h l. other i (λ z. omega arith) ∙ v.past i (omega arith) l;
    }

-- the counts do not fall
levels-rise : (depth records : ℕ) (levels : List ℕ) → Levels depth records levels → (i j : ℕ) → i + j < depth → get_or levels i 0 ≤ get_or levels (i + j) 0
levels-rise depth records levels v i zero h = let z : i + 0 ≡ i = omega arith in rw z (omega arith)
levels-rise depth records levels v i (suc j) h =
    let z : i + suc j - 1 ≡ i + j = omega arith in
    let r : get_or levels (i + j) 0 ≤ get_or levels (i + suc j) 0 = rw z at (v.rise (i + suc j) h) in
    omega (arith, levels-rise depth records levels v i j (omega arith), r)

-- the last one dropped, and the record count that it held
pub levels-drop : (depth records : ℕ) (levels : List ℕ) → length levels ≡ 64 → 0 < depth → Levels depth records levels → Levels (depth - 1) (get_or levels (depth - 1) 0) (set levels (depth - 1) 0)
levels-drop depth records levels w l v =
    let other : (i : ℕ) → (i ≡ depth - 1 → ⊥) → get_or (set levels (depth - 1) 0) i 0 ≡ get_or levels i 0 = λ i z. get_or-set_other levels (depth - 1) i 0 0 z in
    record {
      most = omega (arith, v.most);
      held = λ i h.
          let z : i + (depth - 1 - i) ≡ depth - 1 = omega arith in
          rw (other i (λ y. omega arith)) (rw z at (levels-rise depth records levels v i (depth - 1 - i) (omega arith)));
      rise = λ i h. rw (other i (λ y. omega arith), other (i - 1) (λ y. omega arith)) (v.rise i (omega arith));
      past = λ i h m. decided (eqb i (depth - 1))
          (λ e. rw (eqb-true i (depth - 1) e) (get_or-set_same levels (depth - 1) 0 0 (omega (arith, v.most))))
          (λ e. let z = eqb-false i (depth - 1) e in other i z ∙ v.past i (omega (arith, z)) m);
    }

module _ (n : ℕ) (b : Board) (k d : ℕ) (levels t₀ : List ℕ) where
  sound-of : (s : State) (t : List ℕ) → Since n b k d levels t₀ s t → Sound n (board_of s)
  sound-of s t h = record { small = h.small; wide = h.held.wide; form = h.form.board }

  -- one record more
  record-since : (s : State) (t : List ℕ) (a w : ℕ) (c : Board) → Since n b k d levels t₀ s t → Small n (board_of s) a w c → s.records < room_of t
      → Since n b k d levels t₀ (on_board s c (s.records + 1)) (pushed t s.records a w)
  record-since s t a w c h q l =
      let r = s.records in
      let g = small-sound (sound-of s t h) q in
      let e : k + (r - k) ≡ r = omega (arith, h.least) in
      let m : r + 1 - k ≡ suc (r - k) = omega (arith, h.least) in
      record {
        small = h.small;
        held = record { wide = g.wide; levels = h.held.levels; words = small-words (sound-of s t h) h.held.words q };
        form = record { board = g.form; levels = levels-more s.depth r s.levels h.form.levels };
        room = omega (arith, l, pushed_room t r a w);
        least = omega (arith, h.least);
        spelled =
            subst (λ (j : ℕ). Spells n (pushed t r a w) b k j c) (sym m)
            (more (spells-agree (λ i z. pushed-other t r a w i (λ y. omega (arith, e)) (λ y. omega (arith, e))) h.spelled)
            (subst (λ (j : ℕ). Small n (board_of s) (first_of (pushed t r a w) j) (second_of (pushed t r a w) j) c) (sym e)
            (subst (λ (j : ℕ). Small n (board_of s) j (second_of (pushed t r a w) r) c) (sym (pushed-first t r a w l))
            (subst (λ (j : ℕ). Small n (board_of s) a j c) (sym (pushed-second t r a w l)) q))));
        deep = h.deep;
        under = h.under;
        floor = h.floor;
        below = λ i z. pushed-other t r a w i (λ y. omega (arith, h.least)) (λ y. omega (arith, h.least)) ∙ h.below i z;
        long = pushed_long t r a w ∙ h.long;
      }

  -- to what a step ran to
  at-ran : {ran : Ran} {j : ℕ} {r : State} {u : List ℕ} → ran ≡ acted 0 j r u → Since n b k d levels t₀ ran.0.state ran.1 → Since n b k d levels t₀ r u
  at-ran e h = subst (λ (q : Ran). Since n b k d levels t₀ q.0.state q.1) e h

  place-since : {j : ℕ} (s : State) (t : List ℕ) (p x : ℕ) (r : State) (u : List ℕ) → Since n b k d levels t₀ s t → place_step n s t p x ≡ acted 0 j r u → Since n b k d levels t₀ r u
  unfolding place_step recorded
  place-since s t p x r u h e =
      let a = accepted (place_refusal n (board_of s) s.records (room_of t) p x) s t (recorded s t (placed_after (board_of s) p x) (first_word change.PLACING x) (set_of (board_of s) x)) r u e in
      let o = placeable n (board_of s) s.records (room_of t) p x a.0 in
      at-ran a.1 (record-since s t (first_word change.PLACING x) (set_of (board_of s) x) (placed_after (board_of s) p x) h (places p x o.split o.place refl refl refl) o.left)

  shrink-since : (s : State) (t : List ℕ) (x v : ℕ) → Since n b k d levels t₀ s t → Free n (board_of s) x → v < 2 ^ 64 → within v (set_of (board_of s) x) ≡ true → (set_of (board_of s) x ≡ v → ⊥) → s.records < room_of t
      → Since n b k d levels t₀ (on_board s (put_set (board_of s) x v) (s.records + 1)) (pushed t s.records (first_word change.SHRINKING x) (set_of (board_of s) x))
  shrink-since s t x v h f l e y m =
      let w = h.held.words.fits x (omega (arith, (is-inner n x f.node).1, h.small)) in
      record-since s t (first_word change.SHRINKING x) (set_of (board_of s) x) (put_set (board_of s) x v) h (shrinks x v f (strict v (set_of (board_of s) x) l w e y) l refl refl refl) m

  close-since : {j : ℕ} (s : State) (t : List ℕ) (p x : ℕ) (r : State) (u : List ℕ) → Since n b k d levels t₀ s t → close_step n s t p x ≡ acted 0 j r u → Since n b k d levels t₀ r u
  unfolding close_step recorded open_at
  close-since s t p x r u h e =
      let w = set_of (board_of s) x in
      let a = accepted (place_refusal n (board_of s) s.records (room_of t) p x) s t (shrank s t x (without w p)) r u e in
      let o = placeable n (board_of s) s.records (room_of t) p x a.0 in
      let f = h.held.words.fits x (omega (arith, (is-inner n x o.split.node).1, h.small)) in
      at-ran a.1 (shrink-since s t x (without w p) h (record { node = o.split.node; off = o.split.off }) (without-fits w p f) (within-without w p)
      (λ z. false-true (sym (without-same w p) ∙ ap (λ (q : ℕ). has q p) (sym z) ∙ o.place)) o.left)

  exclude-since : {j : ℕ} (s : State) (t : List ℕ) (owed : Bool) (x : ℕ) (r : State) (u : List ℕ) → Since n b k d levels t₀ s t → exclude_step n s t owed x ≡ acted 0 j r u → Since n b k d levels t₀ r u
  unfolding exclude_step recorded
  exclude-since s t owed x r u h e =
      let w = set_of (board_of s) x in
      let ran = cond (eqb w 0) (answered 0 s t) (shrank s t x 0) in
      let a = accepted (exclude_refusal n (board_of s) s.records (room_of t) owed x) s t ran r u e in
      let o = excludable n (board_of s) s.records (room_of t) owed x a.0 in
      decided (eqb w 0)
      (λ z. at-ran (rw z at a.1) h)
      (λ z. let y = eqb-false w 0 z in
      at-ran (rw z at a.1) (shrink-since s t x 0 h o.0 (omega arith) (within_none w) y (o.1 y)))

  require-since : {j : ℕ} (s : State) (t : List ℕ) (x : ℕ) (r : State) (u : List ℕ) → Since n b k d levels t₀ s t → require_step n s t x ≡ acted 0 j r u → Since n b k d levels t₀ r u
  unfolding require_step recorded
  require-since s t x r u h e =
      let ran = cond (has s.marks x) (answered 0 s t) (recorded s t (marked (board_of s) x) (first_word change.MARKING x) 0) in
      let a = accepted (require_refusal n (board_of s) s.records (room_of t) x) s t ran r u e in
      let o = requirable n (board_of s) s.records (room_of t) x a.0 in
      decided (has s.marks x)
      (λ z. at-ran (rw z at a.1) h)
      (λ z. at-ran (rw z at a.1) (record-since s t (first_word change.MARKING x) 0 (marked (board_of s) x) h (marks x o.0 z refl refl refl) (o.1 z)))

  oblige-since : {j : ℕ} (s : State) (t : List ℕ) (x : ℕ) (r : State) (u : List ℕ) → Since n b k d levels t₀ s t → oblige_step n s t x ≡ acted 0 j r u → Since n b k d levels t₀ r u
  unfolding oblige_step recorded
  oblige-since s t x r u h e =
      let ran = cond (has s.must x) (answered 0 s t) (recorded s t (obliged (board_of s) x) (first_word change.OBLIGING x) 0) in
      let a = accepted (oblige_refusal n (board_of s) s.records (room_of t) x) s t ran r u e in
      let o = obligeable n (board_of s) s.records (room_of t) x a.0 in
      decided (has s.must x)
      (λ z. at-ran (rw z at a.1) h)
      (λ z. at-ran (rw z at a.1) (record-since s t (first_word change.OBLIGING x) 0 (obliged (board_of s) x) h (obliges x o.0 z refl refl refl) (o.1 z)))

  -- ---- settling: node by node

  module _ (s : State) (t new : List ℕ) (h : Since n b k d levels t₀ s t) (g : Smaller s.sets new) (l : s.records + shrunk s.sets new 64 ≤ room_of t) where
    abbrev noted : ℕ → Noted
    noted y = note_below s.sets new y (s.records, t)

    abbrev upto : ℕ → State
    upto y = on_board s (board s.route s.stops (swept s.sets new y) s.marks s.must) (note_below s.sets new y (s.records, t)).0

    long : length new ≡ length s.sets
    long = g.long ∙ sym h.held.wide.sets

    -- the set of y before its turn
    old-set : (y : ℕ) → set_of (board_of (upto y)) y ≡ get_or s.sets y 0
    unfolding set_of
    old-set y = swept-ahead s.sets new y y long (omega arith)

    next-board : (y : ℕ) → y < 64 → put_set (board_of (upto y)) y (get_or new y 0) ≡ board s.route s.stops (swept s.sets new (y + 1)) s.marks s.must
    unfolding put_set
    next-board y m = rw (swept-more s.sets new y long (omega (arith, h.held.wide.sets)))

    same-sets : (y : ℕ) → y < 64 → get_or s.sets y 0 ≡ get_or new y 0 → swept s.sets new (y + 1) ≡ swept s.sets new y
    same-sets y m e =
        sym (swept-more s.sets new y long (omega (arith, h.held.wide.sets)))
        ∙ ap (λ (v : ℕ). set (swept s.sets new y) y v) (sym e ∙ sym (swept-ahead s.sets new y y long (omega arith)))
        ∙ set-get_or (swept s.sets new y) y 0

    note-more : (y : ℕ) → note_below s.sets new (y + 1) (s.records, t) ≡ note_one (get_or s.sets y 0) (get_or new y 0) y (noted y)
    unfolding note_below
    note-more y = rw (add-one y)

    room_at : (y : ℕ) → y < 64 → (noted y).0 ≡ s.records + shrunk s.sets new y → length (noted y).1 ≡ length t → (get_or s.sets y 0 ≡ get_or new y 0 → ⊥)
        → (noted y).0 < room_of (noted y).1
    unfolding room_of
    room_at y m p q e =
        omega (arith, l, shrunk-differ s.sets new y e, shrunk-upto s.sets new (y + 1) 64 (omega arith))

    turn : (y : ℕ) → y < 64 → Since n b k d levels t₀ (upto y) (noted y).1 → Since n b k d levels t₀ (upto (y + 1)) (noted (y + 1)).1
    turn y m i =
        let w = get_or s.sets y 0 in
        let v = get_or new y 0 in
        decided (eqb w v)
        (λ z. let e = eqb-true w v z in
        rw (note-more y, note-same w v y (noted y) e, same-sets y m e) i)
        (λ z. let e = eqb-false w v z in
        let part : within v (set_of (board_of (upto y)) y) ≡ true = rw (old-set y) (g.part y m) in
        let free = changed-free n (board_of (upto y)) y v (sound-of (upto y) (noted y).1 i) m (g.word y m) part (λ q. e (sym (old-set y) ∙ q)) in
        let a = note-all s.sets new y s.records t in
        let space = room_at y m a.0 a.1 e in
        let r = shrink-since (upto y) (noted y).1 y v i free (g.word y m) part (λ q. e (sym (old-set y) ∙ q)) space in
        rw (note-more y, note-differ w v y (noted y) e) (rw (next-board y m, old-set y) at r))

    note-start : noted 0 ≡ (s.records, t)
    unfolding note_below
    note-start = refl

    turns : (y : ℕ) → y ≤ 64 → Since n b k d levels t₀ (upto y) (noted y).1
    turns zero m = rw (swept-start s.sets new, note-start) h
    turns (suc y) m = rw add-one at (turn y m (turns y (omega arith)))

    all_noted : (noted 64).0 ≡ s.records + shrunk s.sets new 64
    all_noted = (note-all s.sets new 64 s.records t).0

    settled-since : Since n b k d levels t₀ (on_board s (board s.route s.stops new s.marks s.must) (s.records + shrunk s.sets new 64)) (noted 64).1
    settled-since = rw (swept-end s.sets new 64 (omega (arith, h.held.wide.sets)) (omega (arith, g.long)), all_noted) at (turns 64 (omega arith))

  settle-since : {j : ℕ} (s : State) (t : List ℕ) (rounds : ℕ) (new : List ℕ) (r : State) (u : List ℕ) → Since n b k d levels t₀ s t → Smaller s.sets new → settle_step s t rounds new ≡ acted 0 j r u → Since n b k d levels t₀ r u
  unfolding settle_step
  settle-since s t rounds new r u h g e =
      let ran = acted 0 rounds (on_board s (board s.route s.stops new s.marks s.must) (s.records + shrunk s.sets new 64)) (note_below s.sets new 64 (s.records, t)).1 in
      let a = accepted (unless (leb (s.records + shrunk s.sets new 64) (room_of t)) refusal.ROOM) s t ran r u e in
      at-ran a.1 (settled-since s t new h g (leb-true _ _ (passed (leb (s.records + shrunk s.sets new 64) (room_of t)) refusal.ROOM refl a.0)))

  -- ---- a level opened

  level-since : {j : ℕ} (s : State) (t : List ℕ) (r : State) (u : List ℕ) → Since n b k d levels t₀ s t → level_step s t ≡ acted 0 j r u → Since n b k d levels t₀ r u
  unfolding level_step
  level-since s t r u h e =
      let q = state_of s.route s.stops s.sets s.marks s.must (set s.levels s.depth s.records) (s.depth + 1) s.records in
      let a = accepted (unless (ltb s.depth 64) refusal.DEPTH) s t (answered 0 q t) r u e in
      let l = ltb-true s.depth 64 (passed (ltb s.depth 64) refusal.DEPTH refl a.0) in
      let same = get_or-set_same s.levels s.depth s.records 0 (omega (arith, h.held.levels)) in
      at-ran a.1 (record {
        small = h.small;
        held = record { wide = h.held.wide; levels = length-set s.levels s.depth s.records ∙ h.held.levels; words = h.held.words };
        form = record { board = h.form.board; levels = levels-open s.depth s.records s.levels h.held.levels l h.form.levels };
        room = h.room;
        least = h.least;
        spelled = h.spelled;
        deep = omega (arith, h.deep);
        under = λ i z. get_or-set_other s.levels s.depth i s.records 0 (λ y. omega (arith, h.deep)) ∙ h.under i z;
        floor = λ i z y. decided (eqb i s.depth)
            (λ v. rw (eqb-true i s.depth v, same) h.least)
            (λ v. let w = eqb-false i s.depth v in rw (get_or-set_other s.levels s.depth i s.records 0 w) (h.floor i z (omega (arith, w))));
        below = h.below;
        long = h.long;
      })

  -- ---- stepping back to a level that was opened since

  back-since : {j : ℕ} (s : State) (t : List ℕ) (r : State) (u : List ℕ) → Sound n b → Words b → Since n b k d levels t₀ s t → back_step n s t ≡ acted 0 j r u → d ≤ r.depth → Since n b k d levels t₀ r u
  unfolding back_step undo_level dropped base_of
  back-since s t r u f wd h e m =
      let base = get_or s.levels (s.depth - 1) 0 in
      let o = undo_many (s.records - base) n (board_of s) s.records t in
      let a = accepted (or_else (unless (ltb 0 s.depth) refusal.DEPTH) (unless o.0 refusal.MISFIT)) s t (answered 0 (dropped s o.1) t) r u e in
      let some = ltb-true 0 s.depth (passed (ltb 0 s.depth) refusal.DEPTH refl (or-else-zero (unless (ltb 0 s.depth) refusal.DEPTH) _ a.0).0) in
      let dm : s.depth - 1 ≡ r.depth = ap (λ (z : Ran). z.0.state.depth) a.1 in
      let low : k ≤ base = h.floor (s.depth - 1) (omega (arith, dm, m)) (omega (arith, some)) in
      let high : base ≤ s.records = h.form.levels.held (s.depth - 1) (omega (arith, some)) in
      let w = spells-undo f h.spelled (s.records - base) (base - k) (omega (arith, low, high)) in
      let all : k + (s.records - k) ≡ s.records = omega (arith, h.least) in
      let undo : o ≡ (true, w.0) = rw all at w.2 in
      let g = spells-sound f w.1 in
      at-ran a.1 (rw undo (record {
        small = h.small;
        held = record { wide = g.wide; levels = length-set s.levels (s.depth - 1) 0 ∙ h.held.levels; words = spells-words f wd w.1 };
        form = record { board = g.form; levels = levels-drop s.depth s.records s.levels h.held.levels some h.form.levels };
        room = omega (arith, h.room, high);
        least = low;
        spelled = w.1;
        deep = omega (arith, dm, m);
        under = λ i z. get_or-set_other s.levels (s.depth - 1) i 0 0 (λ y. omega (arith, dm, m)) ∙ h.under i z;
        floor = λ i z y. rw (get_or-set_other s.levels (s.depth - 1) i 0 0 (λ v. omega arith)) (h.floor i z (omega arith));
        below = h.below;
        long = h.long;
      }))

  -- an accepted step: all but stepping back go on from here
  abbrev pub Goes : (s : State) (t : List ℕ) (r : State) (u : List ℕ) → Type 0
  Goes s t r u = Since n b k d levels t₀ r u ⊎ ((j : ℕ) × (back_step n s t ≡ acted 0 j r u))

  pub step-since : (s : State) (t : List ℕ) (r : State) (u : List ℕ) → Since n b k d levels t₀ s t → Move n s t r u → Goes s t r u
  step-since s t r u h (place p x e) = inl (place-since s t p x r u h e)
  step-since s t r u h (close p x e) = inl (close-since s t p x r u h e)
  step-since s t r u h (exclude owed x e) = inl (exclude-since s t owed x r u h e)
  step-since s t r u h (require x e) = inl (require-since s t x r u h e)
  step-since s t r u h (settle rounds new g e) = inl (settle-since s t rounds new r u h g e)
  step-since s t r u h (level e) = inl (level-since s t r u h e)
  step-since s t r u h (back e) = inr (_, e)
  step-since s t r u h (oblige x e) = inl (oblige-since s t x r u h e)

  -- an accepted step that leaves d levels open
  pub move-since : (s : State) (t : List ℕ) (r : State) (u : List ℕ) → Sound n b → Words b → Since n b k d levels t₀ s t → Move n s t r u → d ≤ r.depth → Since n b k d levels t₀ r u
  move-since s t r u f w h m l = ⊎_elim (λ g. g) (λ e. back-since s t r u f w h e.1 l) (step-since s t r u h m)
