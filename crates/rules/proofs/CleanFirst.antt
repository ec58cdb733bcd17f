-- Clean before soiled: a round that keeps it keeps it at each of its cuts, and with fewer stops.
use Prim.Native.Nat.{ℕ}
use mathlib.Core.Bool.{Bool, not, ◌&&◌, ◌||◌}
use mathlib.Core.List.{List, [], ◌∷◌}
use mathlib.Core.Logic.{⊎_elim}
use lib.Dec.{T}
use Rattle.laws.proofs.Logic.{and_i, and_l, and_r, and_mono, or_l, or_r, or-e, not-or-i, contra}
use Rattle.laws.proofs.Lists.{Sub, nil, keep, skip, any-sub}
use Rattle.laws.specs.Basic.{any}
use Rattle.rules.specs.Day.{Day}
use Rattle.rules.specs.Profile.{is_clean, is_soiled, clean_first, unmixed}
use Rattle.rules.proofs.Cuts.{Cut, same, move}

module _ (d : Day) where
  -- at a cut no soiled stop is behind where a clean one is ahead, and clean comes first ahead
  abbrev Apart : List ℕ → List ℕ → Type 0
  Apart A B = T (not (any (is_soiled d) A && any (is_clean d) B)) × T (clean_first d B)

  apart-cut : {A B A' B' : List ℕ} → Cut A B A' B' → Apart A B → Apart A' B'
  apart-cut same h = h
  apart-cut {A} (move {k = k} {B = B} c) h = apart-cut c (
    contra ((is_soiled d k || S) && C) (is_soiled d k && C || S && (is_clean d k || C))
        (λ t. ⊎_elim (λ u. or_l (is_soiled d k && C) (S && (is_clean d k || C)) (and_i (is_soiled d k) C u (and_r (is_soiled d k || S) C t)))
        (λ u. or_r (is_soiled d k && C) (S && (is_clean d k || C)) (and_i S (is_clean d k || C) u (or_r (is_clean d k) C (and_r (is_soiled d k || S) C t))))
        (or-e (is_soiled d k) S (and_l (is_soiled d k || S) C t)))
        (not-or-i (is_soiled d k && C) (S && (is_clean d k || C)) (and_l (not (is_soiled d k && C)) (clean_first d B) h.1) h.0),
    and_r (not (is_soiled d k && C)) (clean_first d B) h.1,
  )
    where
      S : Bool
      S = any (is_soiled d) A

      C : Bool
      C = any (is_clean d) B

  -- no stop mixes anything
  pub unmixed-cut : (x : ℕ) {R A B : List ℕ} → Cut [] R A (x ∷ B) → T (clean_first d R) → T (unmixed d x A B)
  unmixed-cut x {A = A} {B = B} c h =
      let S = any (is_soiled d) A in
      let C = any (is_clean d) B in
      let a = apart-cut c (tt, h) in
      and_i (not (is_soiled d x && C)) (not (is_clean d x && S)) (and_l (not (is_soiled d x && C)) (clean_first d B) a.1)
      (contra (is_clean d x && S) (S && (is_clean d x || C)) (λ t. and_i S (is_clean d x || C) (and_r (is_clean d x) S t) (or_l (is_clean d x) C (and_l (is_clean d x) S t))) a.0)

  -- with fewer stops around it too
  pub unmixed-sub : (x : ℕ) {A A' B B' : List ℕ} → Sub A A' → Sub B B' → T (unmixed d x A' B') → T (unmixed d x A B)
  unmixed-sub x {A} {A'} {B} {B'} s t = and_mono (not (is_soiled d x && any (is_clean d) B')) (not (is_clean d x && any (is_soiled d) A')) (not (is_soiled d x && any (is_clean d) B)) (not (is_clean d x && any (is_soiled d) A))
      (contra (is_soiled d x && any (is_clean d) B) (is_soiled d x && any (is_clean d) B') (and_mono (is_soiled d x) (any (is_clean d) B) (is_soiled d x) (any (is_clean d) B') (λ u. u) (any-sub (is_clean d) t)))
      (contra (is_clean d x && any (is_soiled d) A) (is_clean d x && any (is_soiled d) A') (and_mono (is_clean d x) (any (is_soiled d) A) (is_clean d x) (any (is_soiled d) A') (λ u. u) (any-sub (is_soiled d) s)))

  pub first-sub : {r R : List ℕ} → Sub r R → T (clean_first d R) → T (clean_first d r)
  first-sub nil h = tt
  first-sub (keep {x = x} {l = r} {m = R} s) h = and_mono (not (is_soiled d x && any (is_clean d) R)) (clean_first d R) (not (is_soiled d x && any (is_clean d) r)) (clean_first d r)
      (contra (is_soiled d x && any (is_clean d) r) (is_soiled d x && any (is_clean d) R) (and_mono (is_soiled d x) (any (is_clean d) r) (is_soiled d x) (any (is_clean d) R) (λ u. u) (any-sub (is_clean d) s)))
      (first-sub s) h
  first-sub (skip {x = x} {m = R} s) h = first-sub s (and_r (not (is_soiled d x && any (is_clean d) R)) (clean_first d R) h)
