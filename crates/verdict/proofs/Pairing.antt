-- Who is owed, by the set of a node's transfer partners.
use mathlib.Core.Path.{◌≡◌, refl, sym, ap, ◌∙◌, subst}
use Prim.Native.Nat.{ℕ, zero, suc, ◌+◌, ◌^◌, ◌<◌}
use mathlib.Core.Bool.{Bool, true, false, not, ◌&&◌, ◌||◌}
use mathlib.Core.List.{List}
use mathlib.Core.Logic.{⊎_elim}
use native.Mathlib.Numerals.{add-one}
use native.Mathlib.Omega.{arith}
use lib.Dec.{T, eqb, eqb→eq, eqb_refl}
use lib.Bits.{bit_and, and_lt}
use borrow.Author.Tests.{eq-eqb, ne_eqb, eqb-true, not-true, not-false}
use Rattle.laws.proofs.Logic.{decided, T-ext, true→T, T→true, N→false, false→N, and_i, and_l, and_r, and-true, or_l, or_r, or-e}
use Rattle.laws.proofs.Lists.{any-i, any-e}
use Rattle.laws.specs.Basic.{mem, any, all_below, any_below, tab}
use Rattle.laws.proofs.Below.{below_at, below-find, below_fails}
use Rattle.bits.specs.Places.{has, with, join}
use Rattle.bits.proofs.Members.{has-none, has-ext, has-low, has-with, false-true}
use Rattle.bits.proofs.Masks.{has-and, has_join}
use Rattle.rules.specs.Day.{Day}
use Rattle.rules.specs.Verdict.{partnered, owed}
use Rattle.rules.specs.declared.Job.{Job}
use Rattle.rules.specs.declared.Job.TheVariants.{Clean, Soiled, Transfer}
use Rattle.verdict.specs.Verdict.{joins}

-- a & b != 0 asks whether they have a member in common
abbrev meet : ℕ → ℕ → Bool
meet a b = not (all_below 64 (λ p. not (has a p && has b p)))

pub meets-mask : (a b : ℕ) → a < 2 ^ 64 → b < 2 ^ 64 → not (eqb (bit_and a b) 0) ≡ meet a b
meets-mask a b f g = ap not (decided (all_below 64 apart)
    (λ w. eq-eqb (bit_and a b) 0 (has-ext (bit_and a b) 0 (and_lt 64 a b f g) (omega arith)
    (λ p l. has-and a b p ∙ not-true (has a p && has b p) (below_at 64 p apart w l) ∙ sym (has-none p))) ∙ sym w)
    (λ w. let r = below-find 64 apart w in
    ne_eqb (bit_and a b) 0 (λ e. false-true (sym (has-none r.0) ∙ ap (λ (k : ℕ). has k r.0) (sym e) ∙ has-and a b r.0
    ∙ not-false (has a r.0 && has b r.0) r.2)) ∙ sym w))
  where
    apart : ℕ → Bool
    apart p = not (has a p && has b p)

-- ---- the jobs one after the other

or-none : (b : Bool) → b ≡ (b || false)
or-none true = refl
or-none false = refl

turn : (p q r : Bool) → (r ≡ true → p ≡ true) → (p || q) ≡ (q || (p || r))
turn true true r f = refl
turn true false r f = refl
turn false true r f = refl
turn false false true f = absurd (false-true (f refl))
turn false false false f = refl

module _ (w x a b : ℕ) (y : ℕ) where
  -- a transfer from x to b
  pub put_first : b < 64 → a ≡ x → has (with w b) y ≡ (has w y || ((eqb a x && eqb b y) || (eqb b x && eqb a y)))
  put_first h e =
      rw (eq-eqb a x e) (has-with w b y h ∙ turn (eqb b y) (has w y) (eqb b x && eqb a y)
      (λ t. let u = and-true (eqb b x) (eqb a y) t in eq-eqb b y (eqb-true b x u.0 ∙ sym e ∙ eqb-true a y u.1)))

  -- one from a to x
  pub put_second : a < 64 → (a ≡ x → ⊥) → b ≡ x → has (with w a) y ≡ (has w y || ((eqb a x && eqb b y) || (eqb b x && eqb a y)))
  put_second h n e = rw (ne_eqb a x n, eq-eqb b x e) (has-with w a y h ∙ turn (eqb a y) (has w y) false (λ t. absurd (false-true t)) ∙ ap (λ (c : Bool). has w y || c) (sym (or-none (eqb a y))))

pub any-first : (f : ℕ → Bool) → false ≡ any_below 0 f
unfolding any_below
any-first f = refl

pub any-more : (j : ℕ) (f : ℕ → Bool) {a b c : Bool} → a ≡ any_below j f → b ≡ f j → c ≡ (a || b) → c ≡ any_below (j + 1) f
unfolding any_below
any-more j f p q e = rw (add-one j) (e ∙ (λ u. p u || q u))

any-front : (n : ℕ) (f : ℕ → Bool) → any_below (suc n) f ≡ (f 0 || any_below n (λ k. f (suc k)))
unfolding any_below
any-front zero f = or-none (f 0)
any-front (suc n) f = ap (λ (b : Bool). b || f (suc n)) (any-front n f) ∙ go (f 0) (any_below n (λ k. f (suc k))) (f (suc n))
  where
    go : (a b c : Bool) → ((a || b) || c) ≡ (a || (b || c))
    go true b c = refl
    go false b c = refl

pub any-tab : (f : Job → Bool) (n : ℕ) (g : ℕ → Job) → any_below n (λ k. f (g k)) ≡ any f (tab n g)
unfolding tab any_below
any-tab f zero g = refl
any-tab f (suc n) g = any-front n (λ k. f (g k)) ∙ ap (λ (b : Bool). f (g 0) || b) (any-tab f n (λ k. g (suc k)))

-- ---- a node is owed if the set of its partners has one that is marked or on the route

-- a partner for which f holds
pub record Other (f : ℕ → Bool) (x : ℕ) (j : Job) : Type 0 where
  pub y : ℕ
  pub joined : T (joins x y j)
  pub holds : T (f y)

pub other : (f : ℕ → Bool) (x : ℕ) (j : Job) → T (partnered f x j) → Other f x j
other f x (Clean a w) t = absurd t
other f x (Soiled a w) t = absurd t
other f x (Transfer a b w) t =
    ⊎_elim (λ u. record { y = b; joined = or_l (eqb a x && eqb b b) (eqb b x && eqb a b) (and_i (eqb a x) (eqb b b) (and_l (eqb a x) (f b) u) (eqb_refl b)); holds = and_r (eqb a x) (f b) u })
    (λ u. record { y = a; joined = or_r (eqb a x && eqb b a) (eqb b x && eqb a a) (and_i (eqb b x) (eqb a a) (and_l (eqb b x) (f a) u) (eqb_refl a)); holds = and_r (eqb b x) (f a) u })
    (or-e (eqb a x && f b) (eqb b x && f a) t)

pub joined-on : (f : ℕ → Bool) (x y : ℕ) (j : Job) → T (joins x y j) → T (f y) → T (partnered f x j)
joined-on f x y (Clean a w) t h = absurd t
joined-on f x y (Soiled a w) t h = absurd t
joined-on f x y (Transfer a b w) t h =
    ⊎_elim (λ u. or_l (eqb a x && f b) (eqb b x && f a) (and_i (eqb a x) (f b) (and_l (eqb a x) (eqb b y) u) (at b (and_r (eqb a x) (eqb b y) u))))
    (λ u. or_r (eqb a x && f b) (eqb b x && f a) (and_i (eqb b x) (f a) (and_l (eqb b x) (eqb a y) u) (at a (and_r (eqb b x) (eqb a y) u))))
    (or-e (eqb a x && eqb b y) (eqb b x && eqb a y) t)
  where
    at : (c : ℕ) → T (eqb c y) → T (f c)
    at c e = subst (λ (k : ℕ). T (f k)) (sym (eqb→eq c y e)) h

module _ (d : Day) (m : List ℕ) (marks on pair x : ℕ) (fits : marks < 2 ^ 64) (low : on < 2 ^ 64) (is : (y : ℕ) → has on y ≡ mem y m)
    (told : (y : ℕ) → has pair y ≡ any (joins x y) d.jobs) where
  abbrev call : ℕ → Bool
  call y = has marks y || mem y m

  call-is : (y : ℕ) → has (join marks on) y ≡ call y
  call-is y = has_join marks on y ∙ ap (λ (b : Bool). has marks y || b) (is y)

  call-low : (y : ℕ) → T (call y) → y < 64
  call-low y t = ⊎_elim (λ u. has-low marks y fits (T→true _ u)) (λ u. has-low on y low (is y ∙ T→true _ u)) (or-e (has marks y) (mem y m) t)

  abbrev apart : ℕ → Bool
  apart p = not (has pair p && has (join marks on) p)

  pairs : not (all_below 64 apart) ≡ any (partnered call x) d.jobs
  pairs = T-ext (not (all_below 64 apart)) (any (partnered call x) d.jobs)
      (λ t. let r = below-find 64 apart (N→false _ t) in
      let b = and-true (has pair r.0) (has (join marks on) r.0) (not-false _ r.2) in
      any-e (joins x r.0) d.jobs (λ j i u. any-i (partnered call x) i (joined-on call x r.0 j u (true→T _ (sym (call-is r.0) ∙ b.1))))
      (true→T _ (sym (told r.0) ∙ b.0)))
      (any-e (partnered call x) d.jobs (λ j i u. let o = other call x j u in
      false→N _ (below_fails 64 o.y apart (call-low o.y o.holds)
      (rw (told o.y, call-is o.y, T→true (any (joins x o.y) d.jobs) (any-i (joins x o.y) i o.joined), T→true (call o.y) o.holds)))))

  pub owes-told : {o h p : Bool} → o ≡ has on x → h ≡ has marks x → p ≡ meet pair (join marks on) → (not o && (h || p)) ≡ owed d m (has marks) x
  unfolding owed
  owes-told e f q = λ u. not ((e ∙ is x) u) && (f u || (q ∙ pairs) u)
