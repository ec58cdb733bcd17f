use mathlib.Core.Path.{◌≡◌, refl, ◌∙◌}
use native.Mathlib.Omega.{arith}
use borrow.Author.Tests.{not-false}
use Rattle.board.specs.Board.{board_of}
use Rattle.board.proofs.FormLaws.{in-form, form-with}
use Rattle.board.specs.Held.{InForm, Sound}
use Rattle.board.specs.Form.{form_with}
use Rattle.board.specs.declared.State.{State}
use mathlib.Core.Bool.{true}
use Prim.Native.Nat.{ℕ}
use Rattle.trail.specs.Steps.{base_of, undo_level}
use Rattle.trail.proofs.StepLaws.{base-low, level-empty, back_fits}
use Rattle.trail.proofs.steps.back.Goals as goal

-- the state that was asked is in form
formed : (n : ℕ) (s : State) (room : ℕ) → form_with n s room ≡ true → Sound n (board_of s) → InForm n s
formed n s room e h = in-form n s h.small h.wide (form-with n s room e).0

pub offset_bounds-levels-depth : goal.offset_bounds-levels-depth
offset_bounds-levels-depth c =
    let form = formed _ _ _ c.requires.trail_value c.requires.sound.0 in
    omega (arith, form.levels.most)

pub bounds-levels-depth : goal.bounds-levels-depth
bounds-levels-depth c =
    let form = formed _ _ _ c.requires.trail_value c.requires.sound.0 in
    omega (arith, form.levels.most)

pub drop_level-requires : goal.drop_level-requires
drop_level-requires c =
    let form = formed _ _ _ c.requires.trail_value c.requires.sound.0 in
    (c.if-depth-lt1.false, form.levels.most, c.requires.sound.1)

pub returns-then-base-f : goal.returns-then-base-f
unfolding base_of
returns-then-base-f c =
    let a = c.args in
    back_fits _ _ _ _ _ c.if-depth-lt1.false (level-empty _ _ _ c.if-base-f.true) refl
    ∙ rw c.untouched.ensures at (c.drop_level.ensures a.route.now a.sets.now a.route.now a.sets.now a.trail.now)

pub undo_many-u-requires : goal.undo_many-u-requires
unfolding base_of
undo_many-u-requires c =
    let form = formed _ _ _ c.requires.trail_value c.requires.sound.0 in
    (c.requires.sound.0, base-low _ _ form c.if-depth-lt1.false, (form-with _ _ _ c.requires.trail_value).1)

pub drop_level-requires-2 : goal.drop_level-requires-2
drop_level-requires-2 c =
    let form = formed _ _ _ c.requires.trail_value c.requires.sound.0 in
    (c.if-depth-lt1.false, form.levels.most, c.requires.sound.1)

pub returns : goal.returns
unfolding undo_level base_of
returns c =
    back_fits _ _ _ _ _ c.if-depth-lt1.false c.undo_many-u.ensures (not-false _ c.if-not-u.false) ∙ c.drop_level-2.ensures _ _ _ _ _
