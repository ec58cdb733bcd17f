-- Belonging as a test, and counting: a count over `every_round` is the number of rounds that pass.
use mathlib.Core.Path.{◌≡◌, refl, subst, ap, ◌∙◌}
use Prim.Native.Nat.{ℕ, ◌+◌, ◌-◌, ◌≤◌}
use native.Mathlib.Omega.{arith}
use mathlib.Core.Bool.{Bool, true, false, cond, not, ◌&&◌, ◌||◌}
use mathlib.Core.List.{List, [], ◌∷◌}
use mathlib.Core.Logic.{◌⊎◌, inl, inr, ◌↔◌}
use lib.Dec.{T, eqb, eqb→eq, eqb_refl}
use lib.ListN.{length}
use Rattle.laws.proofs.Logic.{and_i, and_l, and_r, tf, imp-i, imp-e, cond_yes, cond_no, cond-yes-i, cond-no-i}
use Rattle.laws.proofs.Lists.{all_in, all-i}
use Rattle.laws.specs.Basic.{mem, hd, all, In}
use Rattle.laws.proofs.Once.{Once, once-length, only, only-in, in-only, once-only}
use Rattle.rules.specs.Day.{Day, inner}
use Rattle.rules.specs.Plan.{Plan, Places}
use Rattle.rules.specs.Rounds.{Distinct, Within, done, stop, extra, Inside, both, Belongs}
use Rattle.rules.specs.Asked.{Formed, ends_with}
use Rattle.rules.specs.Every.{RoundOf, every_round, count, within_test, inside_test, belongs}
use Rattle.rules.proofs.EveryRound.{ends-cons, every-round, every-once}
use Rattle.rules.proofs.Nodes.{distinct_tail, distinct-skip, within-sub}
use Rattle.rules.proofs.Using.{apart-ahead}

-- ---- belonging as a test

within_of : (o : Places) (p : ℕ) (r R : List ℕ) → T (within_test o p r R) → Within o p r R
within_of o p [] [] h = done
within_of o p (k ∷ r) [] h = absurd h
within_of o p [] (x ∷ R) h = absurd h
within_of o p (k ∷ r) (x ∷ R) h = go (tf (eqb x k)) (within_of o x r R) (within_of o p (k ∷ r) R)
  where
    go : T (eqb x k) ⊎ T (not (eqb x k)) → (T (within_test o x r R) → Within o x r R) → (T (within_test o p (k ∷ r) R) → Within o p (k ∷ r) R) → Within o p (k ∷ r) (x ∷ R)
    go (inl e) f g = subst (λ (m : ℕ). Within o p (m ∷ r) (x ∷ R)) (eqb→eq x k e) (stop (f (cond_yes (eqb x k) (within_test o x r R) (o x p && within_test o p (k ∷ r) R) e h)))
    go (inr n) f g =
        let t = cond_no (eqb x k) (within_test o x r R) (o x p && within_test o p (k ∷ r) R) n h in
        extra (and_l (o x p) (within_test o p (k ∷ r) R) t) (g (and_r (o x p) (within_test o p (k ∷ r) R) t))

within-is : {n : ℕ} {o : Places} {p : ℕ} {r R : List ℕ} → Distinct n (p ∷ R) → Within o p r R → T (within_test o p r R)
within-is g done = tt
within-is {o = o} {p = p} g (stop {k = k} {r = r} {R = R} w) = cond-yes-i (eqb k k) (within_test o k r R) (o k p && within_test o p (k ∷ r) R) (eqb_refl k) (within-is (distinct_tail g) w)
within-is {o = o} {p = p} g (extra {x = x} {k = k} {r = r} {R = R} t w) =
    cond-no-i (eqb x k) (within_test o x r R) (o x p && within_test o p (k ∷ r) R) (apart-ahead (distinct_tail g) (within-sub w)) (and_i (o x p) (within_test o p (k ∷ r) R) t (within-is (distinct-skip g) w))

inside_of : (o : Places) (rt R : List ℕ) → T (inside_test o rt R) → Inside o rt R
inside_of o [] R h = absurd h
inside_of o (z ∷ r) [] h = absurd h
inside_of o (z ∷ r) (y ∷ R) h =
    subst (λ (m : ℕ). Inside o (z ∷ r) (m ∷ R)) (eqb→eq z y (and_l (eqb z y) (within_test o z r R) h)) (both (within_of o z r R (and_r (eqb z y) (within_test o z r R) h)))

inside_is : {n : ℕ} {o : Places} {rt R : List ℕ} → Distinct n R → Inside o rt R → T (inside_test o rt R)
inside_is {o = o} g (both {z = z} {r = r} {R = R} w) = and_i (eqb z z) (within_test o z r R) (eqb_refl z) (within-is g w)

module _ (d : Day) (a : Plan) (form : Formed d a) where
  -- the test is belonging, for distinct nodes
  pub belongs-is : (R : List ℕ) → Distinct d.n R → T (belongs d a R) ↔ Belongs d a R
  belongs-is R g = (
    λ h. record {
      nodes = g;
      inside = inside_of a.places a.route R (and_l in' needed' h);
      needed = λ x m. imp-e (a.marks x) (mem x R) (all_in (λ x. not (a.marks x) || mem x R) (and_r in' needed' h) (form.marked x m)) m;
    },
    λ b. and_i in' needed' (inside_is g b.inside) (all-i (λ x. not (a.marks x) || mem x R) (inner d) (λ x i. imp-i (a.marks x) (mem x R) (b.needed x))),
  )
    where
      in' : Bool
      in' = inside_test a.places a.route R

      needed' : Bool
      needed' = all (λ x. not (a.marks x) || mem x R) (inner d)

-- ---- what belongs is a round of the day

ends-stop : {o : Places} {k : ℕ} {r R : List ℕ} (e : ℕ) → Within o k r R → (T (ends_with e r) → T (ends_with e R)) → T (ends_with e (k ∷ r)) → T (ends_with e (k ∷ R))
ends-stop e done f h = h
ends-stop {k = k} e (stop {k = m} {R = R} w) f h = ends-cons e k (m ∷ R) (f h)
ends-stop {k = k} e (extra {x = x} {R = R} t w) f h = ends-cons e k (x ∷ R) (f h)

within-ends : {o : Places} {p : ℕ} {r R : List ℕ} (e : ℕ) → Within o p r R → T (ends_with e r) → T (ends_with e R)
within-ends e done h = h
within-ends e (stop w) h = ends-stop e w (within-ends e w) h
within-ends e (extra {x = x} {R = R} t w) h = ends-cons e x R (within-ends e w h)

inside-ends : {o : Places} {rt R : List ℕ} (e : ℕ) → Inside o rt R → T (ends_with e rt) → T (ends_with e R)
inside-ends e (both w) h = ends-stop e w (within-ends e w) h

inside-hd : {o : Places} {rt R : List ℕ} → Inside o rt R → hd R ≡ hd rt
inside-hd (both w) = refl

pub belongs-round : (d : Day) (a : Plan) (R : List ℕ) → Formed d a → Belongs d a R → RoundOf d R
belongs-round d a R form b = record { nodes = b.nodes; starts = inside-hd b.inside ∙ ap hd form.starts; ends = inside-ends (d.n - 1) b.inside form.ends }

-- ---- counting

count-only : (f : List ℕ → Bool) (l : List (List ℕ)) → count f l ≡ length (only f l)
unfolding only
count-only f [] = refl
count-only f (x ∷ l) = go (f x) (count-only f l)
  where
    go : (b : Bool) → count f l ≡ length (only f l) → cond b 1 0 + count f l ≡ length (cond b (x ∷ only f l) (only f l))
    go true e = omega (arith, e)
    go false e = omega (arith, e)

-- the count over every round is the length of any list of the rounds that belong and pass g, each once
pub counts-rounds : (d : Day) (a : Plan) → 2 ≤ d.n → Formed d a → (g : List ℕ → Bool) (l : List (List ℕ)) → Once l → ((R : List ℕ) → In R l ↔ (Belongs d a R × T (g R)))
    → count (λ R. belongs d a R && g R) (every_round d) ≡ length l
counts-rounds d a two form g l o f = count-only test (every_round d) ∙ once-length (once-only test (every-once d two)) o (λ R. (into R, out R))
  where
    test : List ℕ → Bool
    test R = belongs d a R && g R

    into : (R : List ℕ) → In R (only test (every_round d)) → In R l
    into R i =
        let u = only-in test (every_round d) i in
        (f R).1 ((belongs-is d a form R ((every-round d two R).0 u.0).nodes).0 (and_l (belongs d a R) (g R) u.1), and_r (belongs d a R) (g R) u.1)

    out : (R : List ℕ) → In R l → In R (only test (every_round d))
    out R i =
        let u = (f R).0 i in
        in-only test ((every-round d two R).1 (belongs-round d a R form u.0)) (and_i (belongs d a R) (g R) ((belongs-is d a form R u.0.nodes).1 u.0) u.1)
