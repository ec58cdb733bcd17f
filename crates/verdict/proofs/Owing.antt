-- No node is owed and has no place, by a word that has the nodes owed.
use mathlib.Core.Path.{◌≡◌, sym, ap, ◌∙◌, subst}
use Prim.Native.Nat.{ℕ, ◌<◌, ◌≤◌}
use mathlib.Core.Bool.{Bool, false, not, ◌&&◌, ◌||◌}
use mathlib.Core.List.{List}
use mathlib.Core.Logic.{⊎_elim}
use native.Mathlib.Omega.{arith}
use lib.Dec.{T, T_not, eqb, eqb→eq}
use borrow.Author.Tests.{eq-eqb}
use lib.ListN.{get_or}
use Rattle.laws.proofs.Logic.{decided, T-ext, tf, true→T, T→true, and_i, and_l, and_r, or-e, imp-i, imp-e}
use Rattle.laws.proofs.Lists.{mem-in, all_in, all-i, any-i, any-e}
use Rattle.laws.specs.Basic.{mem, all, any, In, all_below}
use Rattle.laws.proofs.Below.{below_at, below-make}
use Rattle.bits.specs.Places.{has}
use Rattle.bits.proofs.Members.{has-none, word-ext}
use Rattle.rules.specs.Day.{Day, inner}
use Rattle.rules.specs.Leg.{leg_stops}
use Rattle.rules.specs.Plan.{Plan}
use Rattle.rules.specs.Asked.{Proper}
use Rattle.rules.specs.Verdict.{partnered, owed, has_place}
use Rattle.rules.specs.declared.Job.{Job}
use Rattle.rules.specs.declared.Job.TheVariants.{Clean, Soiled, Transfer}
use Rattle.rules.proofs.Inner.{inner-low}
use Rattle.rules.proofs.AlongLaws.{leg-index, mem-at}
use Rattle.along.specs.Sets.{places_in}
use Rattle.verdict.specs.Verdict.{member_open}

module _ (d : Day) (m ws : List ℕ) (marks : ℕ) (proper : Proper d) (small : d.n ≤ 64)
    (leg : (y q : ℕ) → T (places_in ws y q) → T (mem q (leg_stops m))) (inside : (y : ℕ) → T (has marks y) → In y (inner d)) where
  abbrev plan : Plan
  plan = record { route = m; places = places_in ws; marks = has marks }

  abbrev call : ℕ → Bool
  call y = has marks y || mem y m

  -- ---- a node has an open place exactly if its word is not 0

  open-word : (x : ℕ) → T (has_place plan x) → T (not (eqb (get_or ws x 0) 0))
  open-word x t =
      any-e (places_in ws x) m (λ q i u. ⊎_elim (λ e. absurd (subst (λ (b : Bool). T b) (none q e) u)) (λ e. e) (tf (eqb (get_or ws x 0) 0))) t
    where
      none : (q : ℕ) → T (eqb (get_or ws x 0) 0) → has (get_or ws x 0) q ≡ false
      none q e = ap (λ (w : ℕ). has w q) (eqb→eq (get_or ws x 0) 0 e) ∙ has-none q

  word-open : (x : ℕ) → T (not (eqb (get_or ws x 0) 0)) → T (has_place plan x)
  word-open x t =
      ⊎_elim (λ u. u)
      (λ u. absurd (T_not (eqb (get_or ws x 0) 0) t (true→T _ (eq-eqb (get_or ws x 0) 0 (word-ext (get_or ws x 0) 0 (λ q. empty u q ∙ sym (has-none q)))))))
      (tf (has_place plan x))
    where
      empty : T (not (has_place plan x)) → (q : ℕ) → has (get_or ws x 0) q ≡ false
      empty u q = decided (has (get_or ws x 0) q)
          (λ v. let t = true→T _ v in let a = leg-index q m (leg x q t) in
          absurd (T_not (has_place plan x) u (any-i (places_in ws x) (mem-in q m (subst (λ (k : ℕ). T (mem k m)) a.2 (mem-at m a.0 (omega (arith, a.1))))) t)))
          (λ v. v)

  -- ---- who is owed

  abbrev Why : ℕ → Bool
  Why x = has marks x || any (partnered call x) d.jobs

  owed-i : (x : ℕ) → T (not (mem x m)) → T (Why x) → T (owed d m (has marks) x)
  unfolding owed
  owed-i x o t = and_i (not (mem x m)) (Why x) o t

  owed-e : (x : ℕ) → T (owed d m (has marks) x) → T (not (mem x m)) × T (Why x)
  unfolding owed
  owed-e x t = (and_l (not (mem x m)) (Why x) t, and_r (not (mem x m)) (Why x) t)

  abbrev Ok : ℕ → Bool
  Ok x = not (owed d m (has marks) x) || has_place plan x

  -- who is owed is an inner node
  owed-inner : (x : ℕ) → T (Why x) → In x (inner d)
  owed-inner x t = ⊎_elim (inside x) (any-e (partnered call x) d.jobs (λ j i u. end j i u)) (or-e (has marks x) (any (partnered call x) d.jobs) t)
    where
      end : (j : Job) → In j d.jobs → T (partnered call x j) → In x (inner d)
      end (Clean a w) i u = absurd u
      end (Soiled a w) i u = absurd u
      end (Transfer a b w) i u =
          let p = proper.ends a b w i in
          ⊎_elim (λ v. subst (λ (y : ℕ). In y (inner d)) (eqb→eq a x (and_l (eqb a x) (call b) v)) p.0)
          (λ v. subst (λ (y : ℕ). In y (inner d)) (eqb→eq b x (and_l (eqb b x) (call a) v)) p.1) (or-e (eqb a x && call b) (eqb b x && call a) u)

  -- a word that has the nodes owed
  pub owed-is : (w : ℕ) → ((x : ℕ) → x < 64 → has w x ≡ (Why x && not (mem x m))) → all_below 64 (member_open ws w) ≡ all Ok (inner d)
  unfolding member_open
  owed-is w is = T-ext (all_below 64 (member_open ws w)) (all Ok (inner d))
      (λ t. all-i Ok (inner d) (λ x i. imp-i (owed d m (has marks) x) (has_place plan x) (λ u. let o = owed-e x u in let h : x < 64 = omega (arith, (inner-low d i).1, small) in
      word-open x (imp-e (has w x) (not (eqb (get_or ws x 0) 0)) (true→T _ (below_at 64 x (member_open ws w) (T→true _ t) h))
      (true→T _ (is x h ∙ T→true _ (and_i (Why x) (not (mem x m)) o.1 o.0)))))))
      (λ t. true→T _ (below-make 64 (member_open ws w) (λ x h. T→true _ (imp-i (has w x) (not (eqb (get_or ws x 0) 0)) (λ u.
      let q = true→T _ (sym (is x h) ∙ T→true _ u) in let y = and_l (Why x) (not (mem x m)) q in
      open-word x (imp-e (owed d m (has marks) x) (has_place plan x) (all_in Ok t (owed-inner x y)) (owed-i x (and_r (Why x) (not (mem x m)) q) y)))))))
