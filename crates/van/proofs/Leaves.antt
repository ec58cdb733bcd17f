-- A step of a van, refused, leaves its state and its trail; refused or not, it sets no mark "must go somewhere": that is step 8's, the fleet's.
use Prim.Native.Nat.{ℕ}
use mathlib.Core.Path.{◌≡◌, refl, sym, ap, ◌∙◌}
use mathlib.Core.Bool.{Bool, true, false, cond}
use mathlib.Core.List.{List}
use lib.Dec.{eqb}
use borrow.Author.Tests.{eqb-true, eqb-false}
use Rattle.laws.proofs.Logic.{decided}
use Rattle.rules.specs.Day.{Day}
use Rattle.rules.specs.declared.Van.{Van}
use Rattle.rules.specs.Numbers.{kinds}
use Rattle.bits.specs.Places.{has}
use Rattle.board.specs.Board.{board_of, set_of}
use Rattle.board.specs.declared.State.{State}
use Rattle.trail.specs.Steps.{Ran, answered}
use Rattle.trail.specs.Steps as trail
use Rattle.trail.proofs.StepLaws.{step-no, step-yes}
use Rattle.trail.proofs.Must.{place-must, close-must, exclude-must, require-must, settle-must, level-must, back-must}
use Rattle.van.specs.Act.{act_of, owed_of, settled_sets, settling_rounds}

abbrev Leaves : State → List ℕ → Ran → Type 0
Leaves s t r = (r.0.answer ≡ 0 → ⊥) → r ≡ answered r.0.answer s t

-- of a step that is accepted where its refusal is 0
leaves : (c : ℕ) (s : State) (t : List ℕ) (ran : Ran) → ran.0.answer ≡ 0 → Leaves s t (trail.unless_refused c s t ran)
leaves c s t ran took left =
    decided (eqb c 0)
    (λ q. absurd (left (ap (λ (r : Ran). r.0.answer) (step-yes c s t ran (eqb-true c 0 q)) ∙ took)))
    (λ q. let e = step-no c s t ran (eqb-false c 0 q) in e ∙ ap (λ (k : ℕ). answered k s t) (sym (ap (λ (r : Ran). r.0.answer) e)))

-- of an answer that a test chooses
pub either : (P : Ran → Type 0) (b : Bool) {x y : Ran} → P x → P y → P (cond b x y)
either P true p q = p
either P false p q = q

pub zero-both : (b : Bool) (x y : Ran) → x.0.answer ≡ 0 → y.0.answer ≡ 0 → (cond b x y).0.answer ≡ 0
zero-both true x y p q = p
zero-both false x y p q = q

pub act-leaves : (v : Van) (d : Day) (s : State) (t : List ℕ) (kind a b : ℕ) → Leaves s t (act_of v d s t kind a b)
unfolding act_of trail.place_step trail.close_step trail.exclude_step trail.require_step trail.settle_step trail.level_step trail.back_step trail.recorded
act-leaves v d s t kind a b =
    either (Leaves s t) (eqb kind kinds.PLACE) (leaves _ s t _ refl)
    (either (Leaves s t) (eqb kind kinds.CLOSE) (leaves _ s t _ refl)
    (either (Leaves s t) (eqb kind kinds.EXCLUDE) (leaves _ s t _ (zero-both (eqb (set_of (board_of s) a) 0) _ _ refl refl))
    (either (Leaves s t) (eqb kind kinds.REQUIRE) (leaves _ s t _ (zero-both (has s.marks a) _ _ refl refl))
    (either (Leaves s t) (eqb kind kinds.SETTLE) (leaves _ s t _ refl)
    (either (Leaves s t) (eqb kind kinds.LEVEL) (leaves _ s t _ refl)
    (either (Leaves s t) (eqb kind kinds.BACK) (leaves _ s t _ refl) (λ n. refl)))))))

-- step 8 too
pub oblige-leaves : (n : ℕ) (s : State) (t : List ℕ) (x : ℕ) → Leaves s t (trail.oblige_step n s t x)
unfolding trail.oblige_step trail.recorded
oblige-leaves n s t x = leaves _ s t _ (zero-both (has s.must x) _ _ refl refl)

abbrev None : Ran → Type 0
None r = r.0.state.must ≡ 0

-- a van without such marks has none after its step
pub act-must : (v : Van) (d : Day) (s : State) (t : List ℕ) (kind a b : ℕ) → s.must ≡ 0 → (act_of v d s t kind a b).0.state.must ≡ 0
unfolding act_of
act-must v d s t kind a b z =
    either None (eqb kind kinds.PLACE) (place-must d.n s t a b ∙ z)
    (either None (eqb kind kinds.CLOSE) (close-must d.n s t a b ∙ z)
    (either None (eqb kind kinds.EXCLUDE) (exclude-must d.n s t (owed_of d s a) a ∙ z)
    (either None (eqb kind kinds.REQUIRE) (require-must d.n s t a ∙ z)
    (either None (eqb kind kinds.SETTLE) (settle-must d.n s t (settling_rounds v d s) (settled_sets v d s) ∙ z)
    (either None (eqb kind kinds.LEVEL) (level-must d.n s t ∙ z)
    (either None (eqb kind kinds.BACK) (back-must d.n s t z) z))))))
