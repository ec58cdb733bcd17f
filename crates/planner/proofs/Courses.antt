-- Accepted steps one after another: seen from one van they are accepted steps of the trail. Stepping back, and the bound on records.
use Prim.Native.Nat.{ℕ, ◌+◌, ◌-◌, ◌*◌, ◌/◌, ◌%◌, ◌≤◌, ◌<◌}
use mathlib.Core.Path.{◌≡◌, refl, sym, ap, subst, ◌∙◌}
use mathlib.Core.Bool.{true}
use mathlib.Core.List.{List, []}
use mathlib.Core.Logic.{⊎_elim}
use native.Mathlib.Omega.{arith}
use lib.ListN.{length, take}
use lib.Dec.{ltb}
use borrow.Author.Tests.{ltb-true, ltb-false}
use Rattle.laws.proofs.Logic.{decided}
use Rattle.sheet.specs.Section.{n_of, vans_of}
use Rattle.day.specs.Refuse.{call_refusal}
use Rattle.day.specs.Tell.{day_of, van_of, admitted}
use Rattle.day.proofs.RefuseLaws.{call-fine}
use Rattle.rules.specs.Numbers.{kinds, most_vans, van_weight, step_said}
use Rattle.board.specs.Board.{Board}
use Rattle.board.specs.Fresh.{fresh_state}
use Rattle.board.specs.Held.{Held, Words, InForm, Sound}
use Rattle.board.specs.declared.State.{State}
use Rattle.board.proofs.FormLaws as board
use Rattle.board.proofs.FreshForm.{fresh_board, fresh-wide, fresh-formed, fresh-inform, fresh-held}
use Rattle.records.specs.Trail.{room_of}
use Rattle.trail.specs.Steps as trail
use Rattle.trail.specs.Run as run
use Rattle.trail.proofs.Since.{Since, move-since}
use Rattle.trail.proofs.StepBack.{here-since, step_back, step-back-below}
use Rattle.trail.proofs.Spells as spells
use Rattle.trail.proofs.Bound.{one_more, records-bound, records-bound-plain}
use Rattle.fleet.specs.Fleet.{state_in, board_in, trail_in, HeldAll}
use Rattle.fleet.specs.Form.{form_with_all}
use Rattle.fleet.specs.declared.Fleet.{Fleet}
use Rattle.planner.specs.Face.{fresh_of}
use Rattle.planner.specs.Promises.{Took, Steps, StepsBack, RecordsBounded, depth_of, in_van_word}
use Rattle.planner.specs.Promises as promises
use Rattle.planner.proofs.Answers.{call-made, call-yes, acting, moved, van-called, word-kind, levelling, Goes, van-goes}
use Rattle.planner.proofs.Depths.{level-depth, Shift, shift, shifted}
use Rattle.fleet.proofs.FormLaws.{FleetForm, none-ward, apart-shares, in-form-all, form-with-all, form-with-all-make}
use Rattle.planner.proofs.FreshFleet.{fresh-state, fresh-van, fresh-in-form}
use Rattle.planner.proofs.Kept.{kept}
use Rattle.planner.proofs.Backs.{back-all-makes}

-- the first word of a step by its van and its kind
pub word-said : (word : ℕ) → in_van_word (word / van_weight) (word % van_weight) ≡ word
word-said word = omega arith

-- ---- an accepted step of a fleet and its levels

pub took-shift : (sheet : List ℕ) (f : Fleet) (t : List ℕ) (word a b : ℕ) {k : ℕ} {f' : Fleet} {t' : List ℕ} → HeldAll f → Took sheet f t word a b k f' t'
    → Shift (vans_of sheet) (word % van_weight) f f'
took-shift sheet f t word a b held e = shift (moved sheet f t word a b held e).0

-- the form of a fleet that is called, fact by fact
pub facts : (sheet : List ℕ) (f : Fleet) (t : List ℕ) → call_refusal sheet ≡ 0 → form_with_all (n_of sheet) (vans_of sheet) f t ≡ true → FleetForm (n_of sheet) (vans_of sheet) f
facts sheet f t z form = in-form-all (n_of sheet) (vans_of sheet) f (call-fine sheet z).n-high (call-fine sheet z).vans-high (form-with-all (n_of sheet) (vans_of sheet) f t form).0

took-deep : (sheet : List ℕ) (f : Fleet) (t : List ℕ) (word a b : ℕ) {k : ℕ} {f' : Fleet} {t' : List ℕ} → HeldAll f → Took sheet f t word a b k f' t'
    → (j : ℕ) → j < vans_of sheet → (state_in f' j).depth ≡ depth_of f'
took-deep sheet f t word a b held e =
    let u = acting sheet f t word a b e in
    shifted (took-shift sheet f t word a b held e) (omega (arith, (call-fine sheet u.0).vans-low)) (facts sheet f t u.0 u.1).depth

-- ---- since a beginning, in every van

-- where each van began: its board, records, levels and part of the trail
pub record Start : Type 0 where
  pub board : ℕ → Board
  pub records : ℕ → ℕ
  pub depth : ℕ → ℕ
  pub levels : ℕ → List ℕ
  pub trail : ℕ → List ℕ

-- what holds since then; g is the fleet that began
pub record SinceAll (sheet : List ℕ) (g : Fleet) (o : Start) (f : Fleet) (t : List ℕ) : Type 0 where
  pub each : (j : ℕ) → j < vans_of sheet → Since (n_of sheet) (o.board j) (o.records j) (o.depth j) (o.levels j) (o.trail j) (state_in f j) (trail_in (vans_of sheet) t j)
  pub beyond : (j : ℕ) → vans_of sheet ≤ j → j < most_vans → state_in f j ≡ state_in g j
  pub eight : length f.vans ≡ most_vans
  pub form : form_with_all (n_of sheet) (vans_of sheet) f t ≡ true

module _ (sheet : List ℕ) (g : Fleet) (o : Start) (began : HeldAll g) (sound : (j : ℕ) → j < vans_of sheet → Sound (n_of sheet) (o.board j)) (words : (j : ℕ) → j < vans_of sheet → Words (o.board j)) where
  pub held-since : {f : Fleet} {t : List ℕ} → SinceAll sheet g o f t → HeldAll f
  held-since {f} h = record {
    eight = h.eight;
    each = λ j l. decided (ltb j (vans_of sheet))
        (λ q. (h.each j (ltb-true j (vans_of sheet) q)).held)
        (λ q. subst Held (sym (h.beyond j (ltb-false j (vans_of sheet) q) l)) (began.each j l));
  }

  -- van j after one step more
  van-since : {f : Fleet} {t : List ℕ} (f' : Fleet) (t' : List ℕ) → SinceAll sheet g o f t → (j : ℕ) → j < vans_of sheet → Goes (n_of sheet) (vans_of sheet) f t f' t' j → o.depth j ≤ (state_in f' j).depth
      → Since (n_of sheet) (o.board j) (o.records j) (o.depth j) (o.levels j) (o.trail j) (state_in f' j) (trail_in (vans_of sheet) t' j)
  van-since {f} {t} f' t' h j l m low =
      ⊎_elim
      (λ y. move-since (n_of sheet) (o.board j) (o.records j) (o.depth j) (o.levels j) (o.trail j) (state_in f j) (trail_in (vans_of sheet) t j) (state_in f' j) (trail_in (vans_of sheet) t' j) (sound j l) (words j l) (h.each j l) y low)
      (λ y. rw (y.0, y.1) (h.each j l))
      m

  -- the fleet after one step more that leaves the levels of the beginning open
  pub onward : {f : Fleet} {t : List ℕ} {f' : Fleet} {t' : List ℕ} (word a b k : ℕ) → SinceAll sheet g o f t → Took sheet f t word a b k f' t'
      → ((j : ℕ) → j < vans_of sheet → o.depth j ≤ depth_of f') → SinceAll sheet g o f' t'
  onward {f} {t} {f'} {t'} word a b k h e low =
      let held = held-since h in
      let m = moved sheet f t word a b held e in
      let now : (j : ℕ) → j < vans_of sheet → Since (n_of sheet) (o.board j) (o.records j) (o.depth j) (o.levels j) (o.trail j) (state_in f' j) (trail_in (vans_of sheet) t' j) =
      λ j l. van-since f' t' h j l (van-goes sheet f t word a b held e j l) (omega (arith, low j l, took-deep sheet f t word a b held e j l)) in
      record {
        each = now;
        beyond = λ j p q. m.1.beyond j p q ∙ h.beyond j p q;
        eight = m.1.eight;
        form = (kept sheet f f' t t' word a b k held e (λ j l. record { form = (now j l).form; held = (now j l).held; room = (now j l).room; long = (now j l).long ∙ sym (h.each j l).long })).0;
      }

  pub steps-since : {m : ℕ} {f : Fleet} {t : List ℕ} {f' : Fleet} {t' : List ℕ} → ((j : ℕ) → j < vans_of sheet → o.depth j ≤ m) → SinceAll sheet g o f t → Steps sheet m f t f' t' → SinceAll sheet g o f' t'
  steps-since low h promises.none = h
  steps-since low h (promises.then word a b k p e deep) = onward word a b k (steps-since low h p) e (λ j l. omega (arith, low j l, deep))

  -- as the trail has them: those that leave more than the levels of the beginning open
  pub steps-above : {m : ℕ} {f : Fleet} {t : List ℕ} {f' : Fleet} {t' : List ℕ} → ((j : ℕ) → j < vans_of sheet → o.depth j < m) → SinceAll sheet g o f t → Steps sheet m f t f' t'
      → (j : ℕ) → j < vans_of sheet → run.RunAbove (n_of sheet) (o.depth j) (state_in f j) (trail_in (vans_of sheet) t j) (state_in f' j) (trail_in (vans_of sheet) t' j)
  steps-above low h promises.none j l = run.none
  steps-above low h (promises.then {f' = q} {t' = u} word a b k p e deep) j l =
      let held = held-since (steps-since (λ i y. omega (arith, low i y)) h p) in
      ⊎_elim
      (λ m. run.more (steps-above low h p j l) m (omega (arith, low j l, deep, took-deep sheet q u word a b held e j l)))
      (λ y. rw (y.0, y.1) (steps-above low h p j l))
      (van-goes sheet q u word a b held e j l)

  -- any
  pub steps-runs : {m : ℕ} {f : Fleet} {t : List ℕ} {f' : Fleet} {t' : List ℕ} → ((j : ℕ) → j < vans_of sheet → o.depth j ≤ m) → SinceAll sheet g o f t → Steps sheet m f t f' t'
      → (j : ℕ) → j < vans_of sheet → run.Runs (n_of sheet) (state_in f j) (trail_in (vans_of sheet) t j) (state_in f' j) (trail_in (vans_of sheet) t' j)
  steps-runs low h promises.none j l = run.none
  steps-runs low h (promises.then {f' = q} {t' = u} word a b k p e deep) j l =
      ⊎_elim
      (λ m. run.more (steps-runs low h p j l) m)
      (λ y. rw (y.0, y.1) (steps-runs low h p j l))
      (van-goes sheet q u word a b (held-since (steps-since low h p)) e j l)

-- ---- since a fleet that is called

abbrev pub start_of : List ℕ → Fleet → List ℕ → Start
start_of sheet f t = record {
  board = board_in f;
  records = λ j. (state_in f j).records;
  depth = λ j. (state_in f j).depth;
  levels = λ j. (state_in f j).levels;
  trail = trail_in (vans_of sheet) t;
}

module _ (sheet : List ℕ) (f : Fleet) (t : List ℕ) (held : HeldAll f) (z : call_refusal sheet ≡ 0) (form : form_with_all (n_of sheet) (vans_of sheet) f t ≡ true) where
  pub held-van : (j : ℕ) → j < vans_of sheet → Held (state_in f j)
  held-van j l = held.each j (omega (arith, (call-fine sheet z).vans-high, l))

  pub form-van : (j : ℕ) → j < vans_of sheet → InForm (n_of sheet) (state_in f j)
  form-van j l = board.in-form (n_of sheet) (state_in f j) (call-fine sheet z).n-high (held-van j l).wide (van-called sheet f t z form j l).form

  pub room-van : (j : ℕ) → j < vans_of sheet → (state_in f j).records ≤ room_of (trail_in (vans_of sheet) t j)
  room-van j l = (board.form-with (n_of sheet) (state_in f j) (room_of (trail_in (vans_of sheet) t j)) (van-called sheet f t z form j l).room).1

  pub sound-van : (j : ℕ) → j < vans_of sheet → Sound (n_of sheet) (board_in f j)
  sound-van j l = record { small = (call-fine sheet z).n-high; wide = (held-van j l).wide; form = (form-van j l).board }

  pub words-van : (j : ℕ) → j < vans_of sheet → Words (board_in f j)
  words-van j l = (held-van j l).words

  pub here-all : SinceAll sheet f (start_of sheet f t) f t
  here-all = record {
    each = λ j l. here-since (n_of sheet) (state_in f j) (trail_in (vans_of sheet) t j) (call-fine sheet z).n-high (held-van j l) (form-van j l) (room-van j l);
    beyond = λ j p q. refl;
    eight = held.eight;
    form = form;
  }

-- ---- stepping back

module _ (sheet : List ℕ) (f f₁ f₂ : Fleet) (t t₁ t₂ : List ℕ) (i a b k : ℕ) (held : HeldAll f) (e : Took sheet f t (in_van_word i kinds.LEVEL) a b k f₁ t₁)
    (steps : Steps sheet (depth_of f₁) f₁ t₁ f₂ t₂) (last : depth_of f₂ ≡ depth_of f₁) where
  read : call_refusal sheet ≡ 0
  read = (acting sheet f t (in_van_word i kinds.LEVEL) a b e).0

  form : form_with_all (n_of sheet) (vans_of sheet) f t ≡ true
  form = (acting sheet f t (in_van_word i kinds.LEVEL) a b e).1

  small : n_of sheet ≤ 64
  small = (call-fine sheet read).n-high

  some : 0 < vans_of sheet
  some = omega (arith, (call-fine sheet read).vans-low)

  -- every van opened a level
  opened : (j : ℕ) → j < vans_of sheet → trail.level_step (state_in f j) (trail_in (vans_of sheet) t j) ≡ trail.acted 0 0 (state_in f₁ j) (trail_in (vans_of sheet) t₁ j)
  opened = (levelling sheet f t held i a b e).1

  up : (j : ℕ) → j < vans_of sheet → (state_in f₁ j).depth ≡ (state_in f j).depth + 1
  up j l = level-depth (state_in f j) (trail_in (vans_of sheet) t j) (state_in f₁ j) (trail_in (vans_of sheet) t₁ j) (opened j l)

  low : (j : ℕ) → j < vans_of sheet → (state_in f j).depth < depth_of f₁
  low j l = omega (arith, up 0 some, (facts sheet f t read form).depth j l)

  since₁ : SinceAll sheet f (start_of sheet f t) f₁ t₁
  since₁ = onward sheet f (start_of sheet f t) held (sound-van sheet f t held read form) (words-van sheet f t held read form) (in_van_word i kinds.LEVEL) a b k (here-all sheet f t held read form) e (λ j l. omega (arith, low j l))

  since₂ : SinceAll sheet f (start_of sheet f t) f₂ t₂
  since₂ = steps-since sheet f (start_of sheet f t) held (sound-van sheet f t held read form) (words-van sheet f t held read form) (λ j l. omega (arith, low j l)) since₁ steps

  above : (j : ℕ) → j < vans_of sheet → run.RunAbove (n_of sheet) (state_in f j).depth (state_in f₁ j) (trail_in (vans_of sheet) t₁ j) (state_in f₂ j) (trail_in (vans_of sheet) t₂ j)
  above = steps-above sheet f (start_of sheet f t) held (sound-van sheet f t held read form) (words-van sheet f t held read form) low since₁ steps

  -- as many levels at the end as after opening, in every van
  end : (j : ℕ) → j < vans_of sheet → (state_in f₂ j).depth ≡ (state_in f j).depth + 1
  end j l = omega (arith, (facts sheet f₂ t₂ read since₂.form).depth j l, last, up 0 some, (facts sheet f t read form).depth j l)

  undone : (j : ℕ) → j < vans_of sheet → trail.back_step (n_of sheet) (state_in f₂ j) (trail_in (vans_of sheet) t₂ j) ≡ trail.answered 0 (state_in f j) (trail_in (vans_of sheet) t₂ j)
  undone j l =
      step_back (n_of sheet) (state_in f j) (trail_in (vans_of sheet) t j) small (held-van sheet f t held read form j l) (form-van sheet f t held read form j l) (room-van sheet f t held read form j l)
      (state_in f₁ j) (trail_in (vans_of sheet) t₁ j) (opened j l) (state_in f₂ j) (trail_in (vans_of sheet) t₂ j) (above j l) (end j l)

  below : (j : ℕ) → j < vans_of sheet → take (2 * (state_in f j).records) (trail_in (vans_of sheet) t₂ j) ≡ take (2 * (state_in f j).records) (trail_in (vans_of sheet) t j)
  below j l =
      step-back-below (n_of sheet) (state_in f j) (trail_in (vans_of sheet) t j) small (held-van sheet f t held read form j l) (form-van sheet f t held read form j l) (room-van sheet f t held read form j l)
      (state_in f₁ j) (trail_in (vans_of sheet) t₁ j) (opened j l) (state_in f₂ j) (trail_in (vans_of sheet) t₂ j) (above j l) (end j l)

  -- the whole fleet goes back: the rule between vans held before
  taken_back : (j c d : ℕ) → Took sheet f₂ t₂ (in_van_word j kinds.BACK) c d 0 f t₂
  taken_back j c d =
      call-yes sheet f₂ t₂ (in_van_word j kinds.BACK) c d (call-made sheet f₂ t₂ read since₂.form)
      ∙ back-all-makes (van_of sheet) (day_of sheet) (vans_of sheet) f₂ f t₂ (step_said (in_van_word j kinds.BACK) c d) (call-fine sheet read).vans-high (word-kind j kinds.BACK (omega arith))
      (omega (arith, last, up 0 some)) since₂.eight held.eight undone (λ m p q. sym (since₂.beyond m p q)) (apart-shares (n_of sheet) (vans_of sheet) f (λ i j y l h ne inn on. let r = (facts sheet f t read form).apart i j y l h ne inn on in none-ward _ y r.0 r.1))

pub steps_back : StepsBack
steps_back sheet f f₁ f₂ t t₁ t₂ i a b k j c d held e steps last =
    (taken_back sheet f f₁ f₂ t t₁ t₂ i a b k held e steps last j c d, below sheet f f₁ f₂ t t₁ t₂ i a b k held e steps last)

-- ---- from a fresh fleet

abbrev pub fresh_start : List ℕ → List ℕ → Start
fresh_start sheet t = record {
  board = λ j. fresh_board (n_of sheet) (admitted sheet j);
  records = λ j. 0;
  depth = λ j. 0;
  levels = λ j. [];
  trail = trail_in (vans_of sheet) t;
}

module _ (sheet : List ℕ) (t : List ℕ) (z : call_refusal sheet ≡ 0) where
  two : 2 ≤ n_of sheet
  two = (call-fine sheet z).n-low

  narrow : n_of sheet ≤ 64
  narrow = (call-fine sheet z).n-high

  fresh-sound : (j : ℕ) → j < vans_of sheet → Sound (n_of sheet) (fresh_board (n_of sheet) (admitted sheet j))
  fresh-sound j l = record { small = narrow; wide = fresh-wide (n_of sheet) (admitted sheet j) two narrow; form = fresh-formed (n_of sheet) (admitted sheet j) two narrow }

  fresh-words : (j : ℕ) → j < vans_of sheet → Words (fresh_board (n_of sheet) (admitted sheet j))
  fresh-words j l = (fresh-held (n_of sheet) (admitted sheet j) two narrow).words

  fresh-form : form_with_all (n_of sheet) (vans_of sheet) (fresh_of sheet) t ≡ true
  fresh-form =
      form-with-all-make (n_of sheet) (vans_of sheet) (fresh_of sheet) t (fresh-in-form sheet z).0
      (λ j l. let r : (state_in (fresh_of sheet) j).records ≡ 0 = ap (λ (s : State). s.records) (fresh-van sheet z j l) in omega (arith, r))

  fresh-since : SinceAll sheet (fresh_of sheet) (fresh_start sheet t) (fresh_of sheet) t
  fresh-since = record {
    each = λ j l. rw (fresh-van sheet z j l) (record {
      small = narrow;
      held = fresh-held (n_of sheet) (admitted sheet j) two narrow;
      form = fresh-inform (n_of sheet) (admitted sheet j) two narrow;
      room = omega arith;
      least = omega arith;
      spelled = spells.none;
      deep = omega arith;
      under = λ i h. absurd (omega arith);
      floor = λ i h l. omega arith;
      below = λ i h. refl;
      long = refl;
    });
    beyond = λ j p q. refl;
    eight = (fresh-in-form sheet z).1.eight;
    form = fresh-form;
  }

  -- what holds of every fleet reached
  pub reached-all : {f : Fleet} {t' : List ℕ} → Steps sheet 0 (fresh_of sheet) t f t' → SinceAll sheet (fresh_of sheet) (fresh_start sheet t) f t'
  reached-all steps = steps-since sheet (fresh_of sheet) (fresh_start sheet t) (fresh-in-form sheet z).1 fresh-sound fresh-words (λ j l. omega arith) fresh-since steps

  pub reached-held : {f : Fleet} {t' : List ℕ} → Steps sheet 0 (fresh_of sheet) t f t' → HeldAll f
  reached-held steps = held-since sheet (fresh_of sheet) (fresh_start sheet t) (fresh-in-form sheet z).1 fresh-sound fresh-words (reached-all steps)

  pub reached-facts : {f : Fleet} {t' : List ℕ} → Steps sheet 0 (fresh_of sheet) t f t' → FleetForm (n_of sheet) (vans_of sheet) f
  reached-facts {f} {t'} steps = facts sheet f t' z (reached-all steps).form

  -- each van's steps, as the trail has them
  pub van-runs : {f : Fleet} {t' : List ℕ} → Steps sheet 0 (fresh_of sheet) t f t' → (j : ℕ) → j < vans_of sheet
      → run.Runs (n_of sheet) (fresh_state (n_of sheet) (admitted sheet j)) (trail_in (vans_of sheet) t j) (state_in f j) (trail_in (vans_of sheet) t' j)
  van-runs {f} {t'} steps j l =
      subst (λ (s : State). run.Runs (n_of sheet) s (trail_in (vans_of sheet) t j) (state_in f j) (trail_in (vans_of sheet) t' j)) (fresh-state sheet z j l)
      (steps-runs sheet (fresh_of sheet) (fresh_start sheet t) (fresh-in-form sheet z).1 fresh-sound fresh-words (λ j l. omega arith) fresh-since steps j l)

pub records-bounded : RecordsBounded
records-bounded sheet f t t' z steps =
    let n = n_of sheet in
    let fine = call-fine sheet z in
    let some : 0 < vans_of sheet = omega (arith, fine.vans-low) in (
      omega (arith, one_more n (n - 2), records-bound n (admitted sheet 0) fine.n-low fine.n-high (trail_in (vans_of sheet) t 0) (state_in f 0) (trail_in (vans_of sheet) t' 0) (van-runs sheet t z steps 0 some)),
      λ j l y. records-bound-plain n (admitted sheet j) fine.n-low fine.n-high (trail_in (vans_of sheet) t j) (state_in f j) (trail_in (vans_of sheet) t' j) (van-runs sheet t z steps j l) ((reached-facts sheet t z steps).must j l y),
    )
