-- What an accepted step does to the plan that the van's state stands for: it is the rules' step of that plan.
use Prim.Native.Nat.{ℕ, ◌≤◌, ◌<◌}
use mathlib.Core.Path.{◌≡◌, refl, sym, ap, ◌∙◌}
use mathlib.Core.Bool.{Bool, true, not, ◌&&◌, and-true, and-false, or-true, or-false}
use mathlib.Core.List.{List}
use native.Mathlib.Omega.{arith}
use lib.Dec.{T, eqb}
use lib.ListN.{length}
use borrow.Author.Tests.{eqb-true}
use Rattle.laws.proofs.Logic.{decided, T→true, true→T, false→N}
use Rattle.laws.specs.Basic.{mem}
use Rattle.rules.specs.Day.{is_inner}
use Rattle.rules.proofs.Inner.{is-inner}
use Rattle.sheet.specs.Section.{n_of}
use Rattle.day.specs.Refuse.{call_refusal}
use Rattle.day.proofs.RefuseLaws.{call-fine}
use Rattle.day.specs.Tell.{day_of}
use Rattle.bits.specs.Places.{has}
use Rattle.bits.proofs.Members.{has-none, has-low}
use Rattle.rules.specs.Asked.{Formed}
use Rattle.rules.specs.Steps as step
use Rattle.rules.specs.Settle.{settle, rounds, settled}
use Rattle.rules.proofs.Fixpoint.{settle-less}
use Rattle.rules.proofs.Inner.{inner-low}
use Rattle.board.specs.Board.{board_of, route_of, on_route, set_of, open_at}
use Rattle.board.specs.Form.{in_form}
use Rattle.board.proofs.FormLaws as board
use Rattle.board.specs.Held.{Held, FormedBoard}
use Rattle.board.specs.declared.State.{State}
use Rattle.records.specs.Trail.{room_of}
use Rattle.trail.specs.Steps.{Ran}
use Rattle.trail.specs.Steps as trail
use Rattle.trail.proofs.StepLaws.{placeable, excludable, requirable, obligeable}
use Rattle.trail.proofs.Since.{accepted}
use Rattle.along.proofs.SetLaws.{Narrow, places-sets}
use Rattle.stands.proofs.Formed.{stands-formed}
use Rattle.stands.proofs.Changed.{plan-ext, placed-stands, closed-stands, excluded-stands, required-stands, obliged-stands}
use Rattle.rules.specs.declared.Van.{Van}
use Rattle.van.specs.Act.{plan_in, settled_sets, settling_rounds}
use Rattle.van.proofs.Called.{Called}

-- the plan of a state in form is in form
pub state-formed : (sheet : List ℕ) (s : State) → Held s → call_refusal sheet ≡ 0 → in_form (n_of sheet) s ≡ true → Formed (day_of sheet) (plan_in s)
state-formed sheet s held z e =
    let small = (call-fine sheet z).n-high in
    stands-formed (day_of sheet) (board_of s) small held.wide held.words (board.in-form (n_of sheet) s small held.wide e).board

module _ {sheet : List ℕ} {s : State} {t : List ℕ} (typed : Held s) (c : Called sheet s t) where
  small : n_of sheet ≤ 64
  small = c.fine.n-high

  inform : FormedBoard (n_of sheet) (board_of s)
  inform = (board.in-form (n_of sheet) s small typed.wide c.form).board

  pub plan-formed : Formed (day_of sheet) (plan_in s)
  plan-formed = state-formed sheet s typed c.read c.form

module _ (sheet : List ℕ) (s : State) (t : List ℕ) (typed : Held s) (c : Called sheet s t) where
  -- a node for a step has a set
  stored : (x : ℕ) → is_inner (n_of sheet) x ≡ true → x < length s.sets
  stored x e = omega (arith, (is-inner (n_of sheet) x e).1, small typed c, typed.wide.sets)

  -- step 1
  pub placed-plan : {s' : State} {t' : List ℕ} {k : ℕ} (p x : ℕ) → trail.place_step (n_of sheet) s t p x ≡ trail.acted 0 k s' t' → (plan_in s' ≡ step.placed p x (plan_in s)) × T ((plan_in s).places x p) × T (not (mem x (plan_in s).route))
  unfolding trail.place_step trail.recorded on_route
  placed-plan p x e =
      let g = accepted _ s t _ _ _ e in
      let h = placeable (n_of sheet) (board_of s) s.records (room_of t) p x g.0 in
      (ap (λ (r : Ran). plan_in r.0.state) (sym g.1) ∙ placed-stands (n_of sheet) (board_of s) p x (small typed c) typed.wide (inform typed c) h.split, true→T _ h.place, false→N _ h.split.off)

  -- step 2
  pub closed-plan : {s' : State} {t' : List ℕ} {k : ℕ} (p x : ℕ) → trail.close_step (n_of sheet) s t p x ≡ trail.acted 0 k s' t' → plan_in s' ≡ step.closed p x (plan_in s)
  unfolding trail.close_step trail.recorded
  closed-plan p x e =
      let g = accepted _ s t _ _ _ e in
      let h = placeable (n_of sheet) (board_of s) s.records (room_of t) p x g.0 in
      ap (λ (r : Ran). plan_in r.0.state) (sym g.1) ∙ closed-stands (board_of s) p x (stored x h.split.node)

  -- step 3; with no place open nothing changes
  nothing-open : (x : ℕ) → set_of (board_of s) x ≡ 0 → plan_in s ≡ step.excluded x (plan_in s)
  unfolding open_at
  nothing-open x z = plan-ext _ _ refl same (λ y. refl)
    where
      same : (y q : ℕ) → has (set_of (board_of s) y) q ≡ has (set_of (board_of s) y) q && not (eqb y x)
      same y q =
          decided (eqb y x)
          (λ e. rw e (ap (λ (v : ℕ). has (set_of (board_of s) v) q) (eqb-true y x e) ∙ ap (λ (w : ℕ). has w q) z ∙ has-none q ∙ sym (and-false (has (set_of (board_of s) y) q))))
          (λ e. rw e (sym (and-true (has (set_of (board_of s) y) q))))

  pub excluded-plan : {s' : State} {t' : List ℕ} {k : ℕ} (owed : Bool) (x : ℕ) → trail.exclude_step (n_of sheet) s t owed x ≡ trail.acted 0 k s' t' → (plan_in s' ≡ step.excluded x (plan_in s)) × T (not (mem x (plan_in s).route))
  unfolding trail.exclude_step trail.recorded on_route
  excluded-plan owed x e =
      let g = accepted _ s t _ _ _ e in
      let h = (excludable (n_of sheet) (board_of s) s.records (room_of t) owed x g.0).0 in (
        ap (λ (r : Ran). plan_in r.0.state) (sym g.1) ∙ decided (eqb (set_of (board_of s) x) 0)
            (λ q. rw q (nothing-open x (eqb-true (set_of (board_of s) x) 0 q)))
            (λ q. rw q (excluded-stands (board_of s) x (stored x h.node))),
        false→N _ h.off,
      )

  -- step 4; already marked nothing changes
  already : (x : ℕ) → has s.marks x ≡ true → plan_in s ≡ step.required x (plan_in s)
  already x m = plan-ext _ _ refl (λ y q. refl) (λ y. decided (eqb y x)
      (λ e. rw e (ap (has s.marks) (eqb-true y x e) ∙ m ∙ sym (or-true (has s.marks y))))
      (λ e. rw e (sym (or-false (has s.marks y)))))

  pub required-plan : {s' : State} {t' : List ℕ} {k : ℕ} (x : ℕ) → trail.require_step (n_of sheet) s t x ≡ trail.acted 0 k s' t' → (plan_in s' ≡ step.required x (plan_in s)) × (is_inner (n_of sheet) x ≡ true)
  unfolding trail.require_step trail.recorded
  required-plan x e =
      let g = accepted _ s t _ _ _ e in
      let h = (requirable (n_of sheet) (board_of s) s.records (room_of t) x g.0).0 in (
        ap (λ (r : Ran). plan_in r.0.state) (sym g.1) ∙ decided (has s.marks x)
            (λ q. rw q (already x q))
            (λ q. rw q (required-stands (board_of s) x (omega (arith, stored x h.node, typed.wide.sets)))),
        h.node,
      )

  -- step 5
  pub places-small : (v : Van) → Narrow (settle (v) (day_of sheet) (plan_in s).route (plan_in s).places)
  unfolding open_at
  places-small v y q h =
      let o = settle-less (v) (day_of sheet) (plan_in s).route (plan_in s).places y q h in
      let low = inner-low (day_of sheet) ((plan-formed typed c).inside y q o) in
      (omega (arith, low, small typed c), has-low (set_of (board_of s) y) q (typed.words.fits y (omega (arith, low, small typed c))) (T→true (has (set_of (board_of s) y) q) o))

  pub settled-plan : {s' : State} {t' : List ℕ} {k : ℕ} (v : Van) → trail.settle_step s t (settling_rounds v (day_of sheet) s) (settled_sets v (day_of sheet) s) ≡ trail.acted 0 k s' t' → (plan_in s' ≡ settled (v) (day_of sheet) (plan_in s)) × (k ≡ rounds (v) (day_of sheet) (plan_in s).route (plan_in s).places)
  unfolding trail.settle_step open_at set_of route_of
  settled-plan v e =
      let g = accepted _ s t _ _ _ e in (
        ap (λ (r : Ran). plan_in r.0.state) (sym g.1) ∙ plan-ext _ _ refl (places-sets (settle (v) (day_of sheet) (plan_in s).route (plan_in s).places) (places-small v)) (λ y. refl),
        ap (λ (r : Ran). r.0.rounds) (sym g.1),
      )

-- step 8 leaves the van's plan
pub obliged-plan : (n : ℕ) (s : State) (t : List ℕ) {s' : State} {t' : List ℕ} {k : ℕ} (x : ℕ) → trail.oblige_step n s t x ≡ trail.acted 0 k s' t' → (plan_in s' ≡ plan_in s) × (is_inner n x ≡ true)
unfolding trail.oblige_step trail.recorded
obliged-plan n s t x e =
    let g = accepted _ s t _ _ _ e in (
      ap (λ (r : Ran). plan_in r.0.state) (sym g.1) ∙ decided (has s.must x) (λ q. rw q refl) (λ q. rw q (obliged-stands (board_of s) x)),
      (obligeable n (board_of s) s.records (room_of t) x g.0).0,
    )
