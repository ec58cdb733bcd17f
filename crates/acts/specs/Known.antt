-- What a fleet's step asks of its caller, once the refusals of a call are asked; and what it leaves in arrays.
use Rattle.std.specs.Prelude.{◌≡◌, Result, true, List, ℕ, ◌≤◌}
use Rattle.sheet.specs.Section.{n_of, vans_of}
use Rattle.sheet.specs.Place.{Laid}
use Rattle.sheet.specs.declared.Layout.{Layout}
use Rattle.day.specs.Refuse.{call_refusal}
use Rattle.rules.specs.Numbers.{refusal, kinds}
use Rattle.fleet.specs.Fleet.{HeldAll}
use Rattle.fleet.specs.Form.{form_with_all}
use Rattle.fleet.specs.Rows.{fleet_with, Rows, Figured}
use Rattle.turns.specs.Together.{RanAll, ran_all}
use Rattle.turns.specs.Turn.{EightRows}
use Rattle.rules.specs.Refused.{number_in}
use Rattle.rules.specs.declared.Refusal.{Refusal}

-- a sheet that no call refuses, where it has what, and a fleet in form in rows, each van's records within its part's room
pub record KnownRows (sheet : List ℕ) (at : Layout) (routes sets levels figures : List (List ℕ)) (t : List ℕ) : Type 0 where
  pub clear : call_refusal sheet ≡ 0
  pub laid : Laid sheet at
  pub form : form_with_all (n_of sheet) (vans_of sheet) (fleet_with routes sets levels figures) t ≡ true
  pub held : HeldAll (fleet_with routes sets levels figures)
  pub rows : Rows routes × Rows sets × Rows levels
  pub figured : Figured figures

-- the step `want`, of kind k in a fleet of v vans, was done in place: its answer, and arrays and trail as it leaves them. Where stepping back of several
-- vans was refused by 20 the arrays may be half undone: the caller has the fleet from before, or knows that it cannot be
pub record Did (k v : ℕ) (want : RanAll) (o : Result ℕ Refusal) (routes sets levels figures : List (List ℕ)) (t : List ℕ) : Type 0 where
  pub answer : number_in o ≡ want.0.answer
  pub whole : (k ≡ kinds.BACK → 2 ≤ v → number_in o ≡ refusal.MISFIT → ⊥) → want ≡ ran_all o routes sets levels figures t
  pub trail : number_in o ≡ refusal.MISFIT → t ≡ want.1
  pub eight : EightRows routes sets levels figures
