-- The fresh board stands for the fresh plan.
use Prim.Native.Nat.{ℕ, ◌≤◌}
use mathlib.Core.Path.{◌≡◌, refl, ◌∙◌}
use mathlib.Core.Bool.{Bool, true, false, cond, ◌&&◌}
use native.Mathlib.Omega.{arith}
use lib.Dec.{ltb, eqb}
use lib.ListN.{get_or-eq_default}
use borrow.Author.Tests.{ltb-true, ltb-false}
use Rattle.laws.specs.Basic.{mem}
use Rattle.laws.proofs.Logic.{decided}
use Rattle.laws.proofs.Table.{length-tab}
use Rattle.bits.specs.Places.{has}
use Rattle.bits.proofs.Members.{has-none, has_first}
use Rattle.rules.specs.Day.{Day, inner}
use Rattle.rules.specs.Plan.{fresh}
use Rattle.rules.proofs.Inner.{inner-mem, inner-not}
use Rattle.board.specs.Board.{route_of, set_of, open_at}
use Rattle.board.specs.Fresh.{fresh_set, fresh_sets}
use Rattle.board.proofs.FreshForm.{fresh_board, fresh_set_lem}
use Rattle.stands.specs.Stands.{plan_of}
use Rattle.stands.proofs.Changed.{plan-ext}

module _ (d : Day) (may : ℕ → Bool) (two : 2 ≤ d.n) (small : d.n ≤ 64) where
  -- every node's set is as it was made: past the last there is none
  sets : (x : ℕ) → set_of (fresh_board d.n may) x ≡ fresh_set d.n may x
  unfolding set_of fresh_sets fresh_set
  sets x = decided (ltb x 64) (λ l. fresh_set_lem d.n may two small x (ltb-true x 64 l))
      (λ l. let h = ltb-false x 64 l in
      get_or-eq_default (fresh_sets d.n may) 0 (omega (arith, length-tab 64 (fresh_set d.n may), h)) ∙ rw (inner-not d.n x (omega arith)))

  place : (x p : ℕ) → open_at (fresh_board d.n may) x p ≡ mem x (inner d) && may x && eqb p 0
  unfolding open_at fresh_set
  place x p = rw (sets x, inner-mem d.n x) (go (mem x (inner d) && may x))
    where
      go : (b : Bool) → has (cond b 1 0) p ≡ b && eqb p 0
      go true = has_first p
      go false = has-none p

  pub fresh-stands : plan_of (fresh_board d.n may) ≡ fresh d may
  unfolding route_of
  fresh-stands = plan-ext (plan_of (fresh_board d.n may)) (fresh d may) refl place has-none
