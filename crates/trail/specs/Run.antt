-- Accepted steps, one after another.
use Rattle.std.specs.Prelude.{◌≡◌, Bool, true, List, ℕ, ◌<◌, ◌^◌, length, get_or}
use Rattle.bits.specs.Places.{within}
use Rattle.board.specs.declared.State.{State}
use Rattle.trail.specs.Steps.{acted, place_step, close_step, exclude_step, require_step, settle_step, level_step, back_step, oblige_step}

-- new sets for a settling: words, each within the one before
pub record Smaller (old new : List ℕ) : Type 0 where
  pub long : length new ≡ 64
  pub part : (y : ℕ) → y < 64 → within (get_or new y 0) (get_or old y 0) ≡ true
  pub word : (y : ℕ) → y < 64 → get_or new y 0 < 2 ^ 64

-- an accepted step from a state and a trail to the next, whatever its rounds
pub data Move (n : ℕ) (s : State) (t : List ℕ) (r : State) (u : List ℕ) : Type 0 where
  place : {k : ℕ} (p x : ℕ) → place_step n s t p x ≡ acted 0 k r u → Move n s t r u
  close : {k : ℕ} (p x : ℕ) → close_step n s t p x ≡ acted 0 k r u → Move n s t r u
  exclude : {k : ℕ} (owed : Bool) (x : ℕ) → exclude_step n s t owed x ≡ acted 0 k r u → Move n s t r u
  require : {k : ℕ} (x : ℕ) → require_step n s t x ≡ acted 0 k r u → Move n s t r u
  settle : {k : ℕ} (rounds : ℕ) (new : List ℕ) → Smaller s.sets new → settle_step s t rounds new ≡ acted 0 k r u → Move n s t r u
  level : {k : ℕ} → level_step s t ≡ acted 0 k r u → Move n s t r u
  back : {k : ℕ} → back_step n s t ≡ acted 0 k r u → Move n s t r u
  oblige : {k : ℕ} (x : ℕ) → oblige_step n s t x ≡ acted 0 k r u → Move n s t r u

-- accepted steps that leave more than d levels open throughout
pub data RunAbove (n d : ℕ) (s : State) (t : List ℕ) : State → List ℕ → Type 0 where
  none : RunAbove n d s t s t
  more : {r : State} {u : List ℕ} {q : State} {v : List ℕ} → RunAbove n d s t r u → Move n r u q v → d < q.depth → RunAbove n d s t q v

-- any accepted steps
pub data Runs (n : ℕ) (s : State) (t : List ℕ) : State → List ℕ → Type 0 where
  none : Runs n s t s t
  more : {r : State} {u : List ℕ} {q : State} {v : List ℕ} → Runs n s t r u → Move n r u q v → Runs n s t q v
