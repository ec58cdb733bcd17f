-- An accepted step of a van is an accepted step of the trail, which is what the trail's theorems speak of.
use Prim.Native.Nat.{ℕ, zero, suc, ◌<◌, ◌^◌}
use mathlib.Core.Path.{◌≡◌, refl, sym, ap, ◌∙◌}
use mathlib.Core.Bool.{Bool, true, false, cond}
use mathlib.Core.List.{List}
use native.Mathlib.Omega.{arith}
use lib.Dec.{eqb}
use lib.ListN.{get_or}
use borrow.Author.Tests.{eqb-false}
use Rattle.laws.proofs.Logic.{T→true, true→T}
use Rattle.laws.proofs.Table.{get_or-tab}
use Rattle.sheet.specs.Section.{n_of}
use Rattle.day.specs.Tell.{day_of}
use Rattle.rules.specs.declared.Van.{Van}
use Rattle.bits.specs.Places.{has, with}
use Rattle.bits.proofs.Members.{within-make, with-fits}
use Rattle.rules.specs.Settle.{settle}
use Rattle.rules.proofs.Fixpoint.{settle-less}
use Rattle.board.specs.Board.{set_of, open_at}
use Rattle.board.specs.Held.{Held}
use Rattle.board.specs.declared.State.{State}
use Rattle.trail.specs.Steps.{Ran, acted}
use Rattle.rules.specs.Numbers.{refusal, kinds}
use Rattle.trail.specs.Run as run
use Rattle.along.specs.Sets.{word_from, sets_of}
use Rattle.along.proofs.SetLaws.{length-sets, places-sets}
use Rattle.van.specs.Act.{plan_in, act_of, owed_of, settled_sets, settling_rounds}
use Rattle.van.proofs.Called.{Called}
use Rattle.van.proofs.Leaves.{either}
use Rattle.van.proofs.Plans.{places-small}

-- ---- the sets that settling leaves are smaller, and words

word_fits : (k : ℕ) (f : ℕ → Bool) → word_from k f < 2 ^ 64
unfolding word_from
word_fits zero f = omega arith
word_fits (suc k) f = go (f k) (word_fits k f)
  where
    go : (b : Bool) → word_from k f < 2 ^ 64 → cond b (with (word_from k f) k) (word_from k f) < 2 ^ 64
    go true h = with-fits (word_from k f) k h
    go false h = h

module _ (v : Van) (sheet : List ℕ) (s : State) (t : List ℕ) (held : Held s) (c : Called sheet s t) where
  left : (y p : ℕ) → has (get_or (settled_sets v (day_of sheet) s) y 0) p ≡ settle v (day_of sheet) (plan_in s).route (plan_in s).places y p
  left = places-sets (settle v (day_of sheet) (plan_in s).route (plan_in s).places) (places-small sheet s t held c v)

  pub settled-smaller : run.Smaller s.sets (settled_sets v (day_of sheet) s)
  unfolding sets_of open_at set_of
  settled-smaller = record {
    long = length-sets (settle v (day_of sheet) (plan_in s).route (plan_in s).places);
    part = λ y l. within-make (get_or (settled_sets v (day_of sheet) s) y 0) (get_or s.sets y 0) (λ p m h. T→true _ (settle-less v (day_of sheet) (plan_in s).route (plan_in s).places y p (true→T _ (sym (left y p) ∙ h))));
    word = λ y l. rw (get_or-tab 64 (λ x. word_from 64 (settle v (day_of sheet) (plan_in s).route (plan_in s).places x)) 0 y l) (word_fits 64 _);
  }

-- ---- an accepted step is a move

abbrev Moves : ℕ → State → List ℕ → Ran → Type 0
Moves n s t r = (k : ℕ) (s' : State) (t' : List ℕ) → r ≡ acted 0 k s' t' → run.Move n s t s' t'

pub act-moves : (v : Van) (sheet : List ℕ) (s : State) (t : List ℕ) (kind a b : ℕ) → Held s → Called sheet s t → Moves (n_of sheet) s t (act_of v (day_of sheet) s t kind a b)
unfolding act_of
act-moves v sheet s t kind a b held c =
    let n = n_of sheet in
    either (Moves n s t) (eqb kind kinds.PLACE) (λ k s' t'. run.place a b)
    (either (Moves n s t) (eqb kind kinds.CLOSE) (λ k s' t'. run.close a b)
    (either (Moves n s t) (eqb kind kinds.EXCLUDE) (λ k s' t'. run.exclude (owed_of (day_of sheet) s a) a)
    (either (Moves n s t) (eqb kind kinds.REQUIRE) (λ k s' t'. run.require a)
    (either (Moves n s t) (eqb kind kinds.SETTLE) (λ k s' t'. run.settle (settling_rounds v (day_of sheet) s) (settled_sets v (day_of sheet) s) (settled-smaller v sheet s t held c))
    (either (Moves n s t) (eqb kind kinds.LEVEL) (λ k s' t'. run.level)
    (either (Moves n s t) (eqb kind kinds.BACK) (λ k s' t'. run.back) (λ k s' t' e. absurd (eqb-false refusal.KIND 0 refl (ap (λ (r : Ran). r.0.answer) e)))))))))
