-- What keeping the rules says, rule by rule, and where a transfer's partner stands at a cut of the round.
use Prim.Native.Nat.{ℕ, ◌≤◌}
use mathlib.Core.Bool.{not, ◌&&◌, ◌||◌}
use mathlib.Core.List.{List, [], ◌∷◌}
use mathlib.Core.Logic.{◌⊎◌, inl, inr, ⊎_elim}
use lib.Dec.{T, T_not, eqb, eqb_refl, leb→le}
use Rattle.laws.proofs.Logic.{and_l, and_r, or_l, tf, cond_yes, cond_no}
use Rattle.laws.proofs.Lists.{all_in, mem-tl}
use Rattle.laws.specs.Basic.{mem, In}
use Rattle.rules.specs.Day.{Day}
use Rattle.rules.specs.declared.Van.{Van}
use Rattle.rules.specs.Leg.{every_leg}
use Rattle.rules.specs.Time.{on_time, driven}
use Rattle.rules.specs.Load.{carries}
use Rattle.rules.specs.Profile.{clean_first}
use Rattle.rules.specs.Rounds.{ordered, in_order, window_rule, metre_rule, transfer_rule, load_rule, profile_rule, keeps}
use Rattle.rules.specs.declared.Job.TheVariants.{Transfer}
use Rattle.rules.proofs.Cuts.{Cut, same, move}
use Rattle.rules.proofs.Entries.{keeps-e, window_rule-in, metre_rule-in, transfer_rule-in, load_rule-in, profile_rule-in}

-- ---- the five rules

module _ (v : Van) (d : Day) (R : List ℕ) (h : T (keeps v d R)) where
  pub keeps-time : T (on_time d [] R)
  keeps-time = keeps-e v d R h window_rule window_rule-in

  pub keeps-metres : driven d R ≤ v.limit
  keeps-metres = leb→le (driven d R) v.limit (keeps-e v d R h metre_rule metre_rule-in)

  pub keeps-order : (a b w : ℕ) → In (Transfer a b w) d.jobs → T (ordered a b R)
  keeps-order a b w i = all_in (in_order R) (keeps-e v d R h transfer_rule transfer_rule-in) i

  pub keeps-loads : T (every_leg (carries v d) R)
  keeps-loads = keeps-e v d R h load_rule load_rule-in

  pub keeps-profile : T (not d.profile || clean_first d R)
  keeps-profile = keeps-e v d R h profile_rule profile_rule-in

-- ---- the partners of a transfer at a cut

pub stays-behind : (y : ℕ) {A B A' B' : List ℕ} → Cut A B A' B' → T (mem y A) → T (mem y A')
stays-behind y same m = m
stays-behind y {A = A} (move {k = k} c) m = stays-behind y c (mem-tl y k A m)

ordered-cut : (a b : ℕ) {A B A' B' : List ℕ} → Cut A B A' B' → T (ordered a b B) → T (ordered a b B') ⊎ T (mem a A')
ordered-cut a b same h = inl h
ordered-cut a b {A = A} {A' = A'} {B' = B'} (move {k = k} {B = B} c) h = go (tf (eqb k a)) (ordered-cut a b c)
  where
    go : T (eqb k a) ⊎ T (not (eqb k a)) → (T (ordered a b B) → T (ordered a b B') ⊎ T (mem a A')) → T (ordered a b B') ⊎ T (mem a A')
    go (inl e) f = inr (stays-behind a c (or_l (eqb k a) (mem a A) e))
    go (inr n) f = f (and_r (not (eqb k b)) (ordered a b B) (cond_no (eqb k a) (mem b B) (not (eqb k b) && ordered a b B) n h))

module _ {R A B : List ℕ} (x : ℕ) (c : Cut [] R A (x ∷ B)) (off : T (not (mem x A))) (out : T (not (mem x B))) where
  -- x is the first node: the second stands ahead
  pub second-ahead : (b : ℕ) → T (ordered x b R) → T (mem b B)
  second-ahead b h = ⊎_elim (cond_yes (eqb x x) (mem b B) (not (eqb x b) && ordered x b B) (eqb_refl x)) (λ m. absurd (T_not (mem x A) off m)) (ordered-cut x b c h)

  -- x is the second node: the first stands behind
  pub first-behind : (a : ℕ) → T (ordered a x R) → T (mem a A)
  first-behind a h = ⊎_elim (λ t. absurd (go t (tf (eqb x a)))) (λ m. m) (ordered-cut a x c h)
    where
      go : T (ordered a x (x ∷ B)) → T (eqb x a) ⊎ T (not (eqb x a)) → ⊥
      go t (inl e) = T_not (mem x B) out (cond_yes (eqb x a) (mem x B) (not (eqb x x) && ordered a x B) e t)
      go t (inr m) = T_not (eqb x x) (and_l (not (eqb x x)) (ordered a x B) (cond_no (eqb x a) (mem x B) (not (eqb x x) && ordered a x B) m t)) (eqb_refl x)
