-- The step_back theorem, and every accepted step keeps the form.
use mathlib.Core.Path.{◌≡◌, refl, ap, sym, ◌∙◌, subst}
use mathlib.Core.Logic.{⊎_elim}
use mathlib.Core.Bool.{true}
use mathlib.Core.List.{List}
use Prim.Native.Nat.{ℕ, ◌+◌, ◌-◌, ◌*◌, ◌≤◌, ◌<◌, min}
use native.Mathlib.Omega.{arith}
use lib.ListN.{length, get_or, take, set, length-set, length-take}
use lib.Seq.{get_or-set_same, get_or-set_other, get_or-take, ext_get_or}
use lib.Dec.{eqb, ltb}
use borrow.Author.Tests.{eqb-true, eqb-false, ltb-true, ltb-false}
use Rattle.laws.proofs.Logic.{decided}
use Rattle.laws.proofs.Choice.{or-else-zero, passed}
use Rattle.laws.specs.Basic.{or_else, unless}
use Rattle.rules.specs.Numbers.{refusal}
use Rattle.board.specs.Board.{Board, board_of, state_of}
use Rattle.board.specs.Held.{Words, Held, Sound, InForm}
use Rattle.board.specs.declared.State.{State}
use Rattle.records.specs.Trail.{room_of, Wordy}
use Rattle.records.specs.Undo.{undo_many}
use Rattle.records.proofs.UndoLaws.{many-sound}
use Rattle.trail.proofs.UndoWords.{many-words}
use Rattle.trail.specs.Steps.{Ran, acted, answered, level_step, back_step, base_of, undo_level, dropped}
use Rattle.trail.proofs.StepLaws.{back_fits}
use Rattle.trail.proofs.Spells.{Spells, spells-undo, spells_nothing}
use Rattle.trail.proofs.Spells as spells
use Rattle.trail.specs.Run.{Move, level, RunAbove}
use Rattle.trail.specs.Run as run
use Rattle.trail.proofs.Since.{Since, accepted, levels-drop, step-since, move-since}

-- two lists with the same first entries
take_same : (k : ℕ) (l m : List ℕ) → length l ≡ length m → ((i : ℕ) → i < k → get_or l i 0 ≡ get_or m i 0) → take k l ≡ take k m
take_same k l m e h =
    ext_get_or 0 (take k l) (take k m) (length-take k l ∙ ap (min k) e ∙ sym (length-take k m))
    (λ i b. let b' : i < k = omega (arith, b, length-take k l) in get_or-take k l i 0 b' ∙ h i b' ∙ sym (get_or-take k m i 0 b'))

-- where nothing has happened yet
pub here-since : (n : ℕ) (s : State) (t : List ℕ) → n ≤ 64 → Held s → InForm n s → s.records ≤ room_of t → Since n (board_of s) s.records s.depth s.levels t s t
here-since n s t small held form room =
    let z : s.records - s.records ≡ 0 = omega arith in
    record {
      small = small;
      held = held;
      form = form;
      room = room;
      least = omega arith;
      spelled = subst (λ (m : ℕ). Spells n t (board_of s) s.records m (board_of s)) (sym z) spells.none;
      deep = omega arith;
      under = λ i h. refl;
      floor = λ i h l. absurd (omega arith);
      below = λ i h. refl;
      long = refl;
    }

run-since : {n : ℕ} {b : Board} {k d : ℕ} {levels t₀ : List ℕ} {s : State} {t : List ℕ} {r : State} {u : List ℕ} → Sound n b → Words b
    → Since n b k (d + 1) levels t₀ s t → RunAbove n d s t r u → Since n b k (d + 1) levels t₀ r u
run-since f w h run.none = h
run-since {n = n} {b = b} {k = k} {d = d} {levels = levels} {t₀ = t₀} f w h (run.more {r = q} {u = v} {q = r} {v = u} p m l) =
    move-since n b k (d + 1) levels t₀ q v r u f w (run-since f w h p) m (omega arith)

-- a level was opened on s₀
module _ (n : ℕ) (s₀ : State) (t₀ : List ℕ) (small : n ≤ 64) (held : Held s₀) (form : InForm n s₀) (room : s₀.records ≤ room_of t₀)
    (s₁ : State) (t₁ : List ℕ) {j : ℕ} (opened : level_step s₀ t₀ ≡ acted 0 j s₁ t₁) where
  next : State
  next = state_of s₀.route s₀.stops s₀.sets s₀.marks s₀.must (set s₀.levels s₀.depth s₀.records) (s₀.depth + 1) s₀.records

  opened-is : (s₀.depth < 64) × (s₁ ≡ next)
  unfolding level_step next
  opened-is =
      let a = accepted (unless (ltb s₀.depth 64) refusal.DEPTH) s₀ t₀ (answered 0 next t₀) s₁ t₁ opened in
      (ltb-true s₀.depth 64 (passed (ltb s₀.depth 64) refusal.DEPTH refl a.0), sym (ap (λ (r : Ran). r.0.state) a.1))

  deep-1 : s₁.depth ≡ s₀.depth + 1
  unfolding next
  deep-1 = ap (λ (s : State). s.depth) opened-is.1

  under-1 : (i : ℕ) → i < s₀.depth → get_or s₁.levels i 0 ≡ get_or s₀.levels i 0
  unfolding next
  under-1 i h = ap (λ (s : State). get_or s.levels i 0) opened-is.1 ∙ get_or-set_other s₀.levels s₀.depth i s₀.records 0 (λ e. omega arith)

  held-1 : get_or s₁.levels s₀.depth 0 ≡ s₀.records
  unfolding next
  held-1 = ap (λ (s : State). get_or s.levels s₀.depth 0) opened-is.1 ∙ get_or-set_same s₀.levels s₀.depth s₀.records 0 (omega (arith, held.levels, opened-is.0))

  base : Sound n (board_of s₀)
  base = record { small = small; wide = held.wide; form = form.board }

  opened-since : Since n (board_of s₀) s₀.records (s₀.depth + 1) s₁.levels t₀ s₁ t₁
  opened-since =
      let h = move-since n (board_of s₀) s₀.records s₀.depth s₀.levels t₀ s₀ t₀ s₁ t₁ base held.words (here-since n s₀ t₀ small held form room) (level opened) (omega (arith, deep-1)) in
      record {
        small = h.small;
        held = h.held;
        form = h.form;
        room = h.room;
        least = h.least;
        spelled = h.spelled;
        deep = omega (arith, deep-1);
        under = λ i z. refl;
        floor = λ i z l. absurd (omega (arith, deep-1));
        below = h.below;
        long = h.long;
      }

  -- ---- and accepted steps that do not drop it lead to s

  module _ (s : State) (t : List ℕ) (run : RunAbove n s₀.depth s₁ t₁ s t) (last : s.depth ≡ s₀.depth + 1) where
    -- what holds of s: the trail spells the steps since the level, and the state is in form
    pub since : Since n (board_of s₀) s₀.records (s₀.depth + 1) s₁.levels t₀ s t
    since = run-since base held.words opened-since run

    back-depth : s.depth - 1 ≡ s₀.depth
    back-depth = omega (arith, last)

    back-base : base_of s ≡ s₀.records
    unfolding base_of
    back-base = rw back-depth (since.under s₀.depth (omega arith) ∙ held-1)

    back-levels : set s.levels s₀.depth 0 ≡ s₀.levels
    back-levels =
        ext_get_or 0 (set s.levels s₀.depth 0) s₀.levels (length-set s.levels s₀.depth 0 ∙ since.held.levels ∙ sym held.levels)
        (λ i l.
        let l' : i < 64 = omega (arith, l, length-set s.levels s₀.depth 0, since.held.levels) in
        decided (eqb i s₀.depth)
        (λ e. let z = eqb-true i s₀.depth e in
        rw z (get_or-set_same s.levels s₀.depth 0 0 (omega (arith, since.held.levels, z, l')) ∙ sym (form.levels.past s₀.depth (omega arith) (omega (arith, z, l')))))
        (λ e. let z = eqb-false i s₀.depth e in
        get_or-set_other s.levels s₀.depth i 0 0 z
        ∙ decided (ltb i s₀.depth)
        (λ q. let m = ltb-true i s₀.depth q in since.under i (omega arith) ∙ under-1 i m)
        (λ q. let m = ltb-false i s₀.depth q in since.form.levels.past i (omega (arith, z, last)) l' ∙ sym (form.levels.past i m l'))))

    back-undo : undo_level n s t ≡ (true, board_of s₀)
    unfolding undo_level
    back-undo =
        let w = spells-undo base since.spelled (s.records - s₀.records) 0 (omega arith) in
        let all : s₀.records + (s.records - s₀.records) ≡ s.records = omega (arith, since.least) in
        rw back-base (rw (all, spells_nothing w.1 refl) at w.2)

    back-state : dropped s (board_of s₀) ≡ s₀
    unfolding dropped
    back-state = rw (back-base, back-depth, back-levels)

    -- STEP BACK: from a state in form open a level, run any accepted steps that do not drop that level, step back:
    -- it is not refused, and the state is the one before the level was opened
    pub step_back : back_step n s t ≡ answered 0 s₀ t
    step_back = back_fits n s t true (board_of s₀) (omega (arith, last)) back-undo refl ∙ ap (λ (r : State). answered 0 r t) back-state

    -- the records below the level are untouched
    pub step-back-below : take (2 * s₀.records) t ≡ take (2 * s₀.records) t₀
    step-back-below = take_same (2 * s₀.records) t t₀ since.long since.below

-- ---- every accepted step keeps the form, whoever wrote the trail

-- what an accepted step leaves: a state in form, with arrays of 64 and words of 64 bits, its records within the trail, which is as long
pub record KeptForm (n : ℕ) (t : List ℕ) (r : State) (u : List ℕ) : Type 0 where
  pub form : InForm n r
  pub held : Held r
  pub room : r.records ≤ room_of u
  pub long : length u ≡ length t

back-keeps : {j : ℕ} (n : ℕ) (s : State) (t : List ℕ) (r : State) (u : List ℕ) → n ≤ 64 → Held s → InForm n s → s.records ≤ room_of t → Wordy t → back_step n s t ≡ acted 0 j r u → KeptForm n t r u
unfolding back_step undo_level dropped base_of
back-keeps n s t r u small held form room wordy e =
    let base = get_or s.levels (s.depth - 1) 0 in
    let o = undo_many (s.records - base) n (board_of s) s.records t in
    let a = accepted (or_else (unless (ltb 0 s.depth) refusal.DEPTH) (unless o.0 refusal.MISFIT)) s t (answered 0 (dropped s o.1) t) r u e in
    let some = ltb-true 0 s.depth (passed (ltb 0 s.depth) refusal.DEPTH refl (or-else-zero (unless (ltb 0 s.depth) refusal.DEPTH) _ a.0).0) in
    let high : base ≤ s.records = form.levels.held (s.depth - 1) (omega (arith, some)) in
    let sound : Sound n (board_of s) = record { small = small; wide = held.wide; form = form.board } in
    let g = many-sound (s.records - base) n (board_of s) s.records t sound in
    subst (λ (q : Ran). KeptForm n t q.0.state q.1) a.1
    (record {
      form = record { board = g.form; levels = levels-drop s.depth s.records s.levels held.levels some form.levels };
      held = record { wide = g.wide; levels = length-set s.levels (s.depth - 1) 0 ∙ held.levels; words = many-words (s.records - base) n (board_of s) s.records t sound held.words wordy.word };
      room = omega (arith, room, high);
      long = refl;
    })

pub move-keeps : (n : ℕ) (s : State) (t : List ℕ) (r : State) (u : List ℕ) → n ≤ 64 → Held s → InForm n s → s.records ≤ room_of t → Wordy t → Move n s t r u → KeptForm n t r u
move-keeps n s t r u small held form room wordy m =
    ⊎_elim (λ h. record { form = h.form; held = h.held; room = h.room; long = h.long }) (λ e. back-keeps n s t r u small held form room wordy e.1)
    (step-since n (board_of s) s.records s.depth s.levels t s t r u (here-since n s t small held form room) m)
