-- Two rounds over the words are the rules' settling, and the words tell how many of them struck.
use mathlib.Core.Path.{◌≡◌, sym, ap, ◌∙◌, subst}
use Prim.Native.Nat.{ℕ, suc, ◌-◌, ◌*◌, ◌≤◌}
use mathlib.Core.Bool.{Bool, true, false, not}
use mathlib.Core.List.{List}
use native.Mathlib.Nat.{mul-le-mul, suc-ne-zero}
use native.Mathlib.Omega.{arith}
use lib.Dec.{T, not_T, eqb}
use borrow.Author.Tests.{eqb-true, eq-eqb}
use lib.ListN.{get_or, length}
use lib.Seq.{ext_get_or}
use Rattle.laws.proofs.Logic.{decided, T-ext, true→T, N→false}
use Rattle.laws.proofs.Below.{below_at, below-make}
use Rattle.rules.specs.Day.{Day}
use Rattle.rules.specs.declared.Van.{Van}
use Rattle.rules.specs.Plan.{Places}
use Rattle.rules.specs.Rounds.{Distinct}
use Rattle.rules.specs.Settle.{round, strikes, settle_in, settle, rounds_in, rounds}
use Rattle.rules.specs.Asked.{OneEnd}
use Rattle.rules.proofs.Left.{◌⊆◌, round-less}
use Rattle.rules.proofs.Twice.{calm, at_most_two}
use Rattle.rules.proofs.Fixpoint.{Seen, settle-twice}
use Rattle.along.specs.Sets.{places_in, sets_of}
use Rattle.along.proofs.SetLaws.{sets-ext, length-sets, places-sets, Narrow}
use Rattle.settle.specs.Round.{same_sets}
use Rattle.settle.specs.Settles.{Settles}

pub same-sets : (a b : List ℕ) → length a ≡ 64 → length b ≡ 64 → same_sets a b ≡ true → a ≡ b
same-sets a b m n s =
    ext_get_or 0 a b (m ∙ sym n) (λ k h. eqb-true (get_or a k 0) (get_or b k 0) (below_at 64 k (λ i. eqb (get_or a i 0) (get_or b i 0)) s (omega arith)))

pub sets_same : (a b : List ℕ) → a ≡ b → same_sets a b ≡ true
sets_same a b e = below-make 64 _ (λ i h. eq-eqb (get_or a i 0) (get_or b i 0) (ap (λ (l : List ℕ). get_or l i 0) e))

module _ (v : Van) (d : Day) (one : OneEnd d.jobs) (rt : List ℕ) (nodes : Distinct d.n rt) (enough : 2 ≤ d.n) where
  fuel : suc (suc (d.n * d.n - 2)) ≡ d.n * d.n
  fuel = let h = mul-le-mul enough enough in omega arith

  -- ---- one round

  settle-no : (f : ℕ) (o : Places) → strikes v d rt o ≡ false → settle_in (suc f) v d rt o ≡ o
  unfolding settle_in
  settle-no f o e = ap (λ (b : Bool). elim b as (λ c. Places) [ true ↦ settle_in f v d rt (round v d rt o) | false ↦ o ]) e

  -- a round that strikes nothing leaves every place
  calm-less : (o : Places) → Seen d rt o → strikes v d rt o ≡ false → o ⊆ round v d rt o
  calm-less o seen e x p t =
      round-less v d rt (round v d rt o) x p
      (subst (λ (b : Bool). T b) (ap (λ (f : Places). f x p) (sym (settle-no (suc (d.n * d.n - 2)) o e)) ∙ ap (λ (k : ℕ). settle_in k v d rt o x p) fuel ∙ settle-twice v d one rt nodes o seen x p) t)

  module _ (ws : List ℕ) (long : length ws ≡ 64) (seen : Seen d rt (places_in ws)) (small : Narrow (places_in ws)) where
    abbrev o : Places
    o = places_in ws

    pub round-small : Narrow (round v d rt o)
    round-small x p t = small x p (round-less v d rt o x p t)

    pub round-seen : Seen d rt (round v d rt o)
    round-seen x p t = seen x p (round-less v d rt o x p t)

    -- a round that leaves every place leaves the words
    pub round-still : o ⊆ round v d rt o → ws ≡ sets_of (round v d rt o)
    round-still less = sets-ext ws (round v d rt o) long (λ x p. T-ext (o x p) (round v d rt o x p) (less x p) (round-less v d rt o x p))
        (λ x p k. decided (round v d rt o x p) (λ u. absurd (omega (arith, (round-small x p (true→T _ u)).1))) (λ u. u))

    -- the words that a round leaves have the places that it leaves
    pub round-open : places_in (sets_of (round v d rt o)) ≡ round v d rt o
    round-open = λ u x p. places-sets (round v d rt o) round-small x p u

    -- they are the words before exactly if the round strikes nothing
    pub struck-is : strikes v d rt o ≡ not (same_sets ws (sets_of (round v d rt o)))
    struck-is = decided (same_sets ws (sets_of (round v d rt o))) (λ s. quiet s ∙ ap not (sym s)) (λ s. loud s ∙ ap not (sym s))
      where
        quiet : same_sets ws (sets_of (round v d rt o)) ≡ true → strikes v d rt o ≡ false
        quiet s =
            N→false (strikes v d rt o)
            (not_T (strikes v d rt o) (calm v d rt o (λ x p t. subst (λ (f : Places). T (f x p)) (ap places_in (same-sets ws (sets_of (round v d rt o)) long (length-sets (round v d rt o)) s) ∙ round-open) t)))

        loud : same_sets ws (sets_of (round v d rt o)) ≡ false → strikes v d rt o ≡ true
        loud s = decided (strikes v d rt o) (λ t. t) (λ t. absurd (false-true (sym s ∙ sets_same ws (sets_of (round v d rt o)) (round-still (calm-less o seen t)))))
          where
            false-true : false ≡ true → ⊥
            false-true e = true→T false e

  -- ---- how often it strikes

  rounds-no : (f : ℕ) (o : Places) → strikes v d rt o ≡ false → rounds_in (suc f) v d rt o ≡ 0
  unfolding rounds_in
  rounds-no f o e = ap (λ (b : Bool). elim b as (λ c. ℕ) [ true ↦ suc (rounds_in f v d rt (round v d rt o)) | false ↦ 0 ]) e

  rounds-yes : (f : ℕ) (o : Places) → strikes v d rt o ≡ true → rounds_in (suc f) v d rt o ≡ suc (rounds_in f v d rt (round v d rt o))
  unfolding rounds_in
  rounds-yes f o e = ap (λ (b : Bool). elim b as (λ c. ℕ) [ true ↦ suc (rounds_in f v d rt (round v d rt o)) | false ↦ 0 ]) e

  none-strikes : (o : Places) → strikes v d rt o ≡ false → 0 ≡ rounds v d rt o
  none-strikes o e = sym (ap (λ (k : ℕ). rounds_in k v d rt o) (sym fuel) ∙ rounds-no (suc (d.n * d.n - 2)) o e)

  one-strikes : (o : Places) → strikes v d rt o ≡ true → strikes v d rt (round v d rt o) ≡ false → 1 ≡ rounds v d rt o
  one-strikes o e g =
      sym (ap (λ (k : ℕ). rounds_in k v d rt o) (sym fuel) ∙ rounds-yes (suc (d.n * d.n - 2)) o e ∙ ap suc (rounds-no (d.n * d.n - 2) (round v d rt o) g))

  two-strike : (o : Places) → strikes v d rt o ≡ true → strikes v d rt (round v d rt o) ≡ true → 2 ≡ rounds v d rt o
  two-strike o e g =
      let k = ap (λ (k : ℕ). rounds_in k v d rt o) (sym fuel) ∙ rounds-yes (suc (d.n * d.n - 2)) o e ∙ ap suc (rounds-yes (d.n * d.n - 2) (round v d rt o) g) in
      omega (arith, k, at_most_two v d one rt nodes o)

  -- ---- the ways out of the code

  module _ (ws : List ℕ) (long : length ws ≡ 64) (seen : Seen d rt (places_in ws)) (small : Narrow (places_in ws)) where
    abbrev o₀ : Places
    o₀ = places_in ws

    abbrev o₁ : Places
    o₁ = round v d rt (places_in ws)

    first-open : {first : List ℕ} → first ≡ sets_of o₁ → places_in first ≡ o₁
    first-open e = ap places_in e ∙ round-open ws long seen small

    settled-sets : sets_of (round v d rt o₁) ≡ sets_of (settle v d rt o₀)
    settled-sets = ap sets_of (λ u x p. sym (settle-twice v d one rt nodes o₀ seen x p) u)

    struck₁ : {first : List ℕ} → first ≡ sets_of o₁ → strikes v d rt o₀ ≡ not (same_sets ws first)
    struck₁ e = struck-is ws long seen small ∙ ap (λ (l : List ℕ). not (same_sets ws l)) (sym e)

    struck₂ : {first second : List ℕ} → first ≡ sets_of o₁ → second ≡ sets_of (round v d rt (places_in first)) → strikes v d rt o₁ ≡ not (same_sets first second)
    struck₂ {first} e f =
        ap (strikes v d rt) (sym (first-open e))
        ∙ struck-is first (ap length e ∙ length-sets o₁) (subst (Seen d rt) (sym (first-open e)) (round-seen ws long seen small)) (subst Narrow (sym (first-open e)) (round-small ws long seen small))
        ∙ ap (λ (l : List ℕ). not (same_sets first l)) (sym f)

    -- nothing struck: the words stay
    pub settle-none : {first : List ℕ} → first ≡ sets_of o₁ → same_sets ws first ≡ true → Settles v d rt ws 0 first
    settle-none {first} e s =
        let same = same-sets ws first long (ap length e ∙ length-sets o₁) s in
        record {
          rounds = none-strikes o₀ (struck₁ e ∙ ap not s);
          sets = e ∙ ap (λ (f : Places). sets_of (round v d rt f)) (ap places_in same ∙ first-open e) ∙ settled-sets;
          still = λ z. sym same;
        }

    second-sets : {first second : List ℕ} → first ≡ sets_of o₁ → second ≡ sets_of (round v d rt (places_in first)) → second ≡ sets_of (settle v d rt o₀)
    second-sets e f = f ∙ ap (λ (g : Places). sets_of (round v d rt g)) (first-open e) ∙ settled-sets

    pub settle-once : {first second : List ℕ} → first ≡ sets_of o₁ → second ≡ sets_of (round v d rt (places_in first)) → same_sets ws first ≡ false
        → same_sets first second ≡ true → Settles v d rt ws 1 second
    settle-once e f s t = record { rounds = one-strikes o₀ (struck₁ e ∙ ap not s) (struck₂ e f ∙ ap not t); sets = second-sets e f; still = λ z. absurd (suc-ne-zero 0 z) }

    pub settle-again : {first second : List ℕ} → first ≡ sets_of o₁ → second ≡ sets_of (round v d rt (places_in first)) → same_sets ws first ≡ false
        → same_sets first second ≡ false → Settles v d rt ws 2 second
    settle-again e f s t = record { rounds = two-strike o₀ (struck₁ e ∙ ap not s) (struck₂ e f ∙ ap not t); sets = second-sets e f; still = λ z. absurd (suc-ne-zero 1 z) }
