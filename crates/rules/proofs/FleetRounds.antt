-- Several vans: the steps keep exactly the sets of rounds that 02 names. Placing a ward keeps those whose round of the van uses the place: its
-- exclusion from the other vans loses none of these, for the rounds of a set share no ward. A step of one van keeps of the sets what it keeps
-- of that van's rounds.
use mathlib.Core.Path.{◌≡◌, subst, sym}
use Prim.Native.Nat.{ℕ, ◌<◌}
use mathlib.Core.Bool.{Bool, cond, not}
use mathlib.Core.List.{List}
use mathlib.Core.Logic.{⊎_elim, ◌↔◌, ◌≢◌}
use lib.Dec.{T, T_not, not_T, eqb, eqb→eq, eqb_refl}
use Rattle.rules.specs.Day.{Day}
use Rattle.rules.specs.declared.Van.{Van}
use Rattle.rules.specs.Plan.{Plan, Places}
use Rattle.rules.specs.Rounds.{Distinct, Inside, both, Belongs, keeps}
use Rattle.rules.specs.Steps.{placed, closed, excluded, required, uses}
use Rattle.rules.specs.Settle.{settled}
use Rattle.rules.specs.Verdict.{has_place}
use Rattle.rules.specs.Asked.{Triangle, Formed}
use Rattle.rules.specs.Fleet.{Plans, BelongAll, KeepAll, served, in_van, placed_in, obliged, FormedAll}
use Rattle.rules.proofs.Forms.{formed-seen}
use Rattle.rules.proofs.NoneLost.{settled-rounds}
use Rattle.rules.proofs.StepRounds.{placed-rounds, closed-rounds, excluded-rounds, required-rounds}
use Rattle.rules.proofs.Using.{uses-mem}
use Rattle.laws.proofs.Logic.{T→true, or_l, or_r, or-e, by-test, neqb}
use Rattle.laws.specs.Basic.{mem, any_below}
use Rattle.laws.proofs.Lists.{in_mem, mem-in, mem-tl, any-i}

-- a ward with an open place is served
pub open-served : {d : Day} (a : Plan) (x p : ℕ) → Formed d a → T (a.places x p) → T (served a x)
open-served a x p form t = or_r (mem x a.route) (has_place a x) (any-i (a.places x) (mem-in p a.route (formed-seen form x p t).1) t)

-- a ward that is open in one van is on no other van's route
pub open-off : {d : Day} {f : Plans} (i j x p : ℕ) → FormedAll d f → i < f.vans → j < f.vans → j ≢ i → T ((f.plan i).places x p) → T (not (mem x (f.plan j).route))
open-off {f = f} i j x p form low l ne t = not_T (mem x (f.plan j).route) (λ m.
    T_not (served (f.plan i) x) (form.apart j i x l low ne (in_mem ((form.each i low).inside x p t)) m) (open-served (f.plan i) x p (form.each i low) t))

-- the node of a place that a round uses is in the round
used-mem : {n : ℕ} {o : Places} (p x : ℕ) {rt R : List ℕ} → Distinct n R → Inside o rt R → T (uses p x rt R) → T (mem x R)
used-mem p x g (both {z = z} {R = R} w) t = mem-tl x z R (uses-mem p x g w t)

module _ (d : Day) (f : Plans) (R : ℕ → List ℕ) (i : ℕ) where
  -- the law of a step that does g in van i and h in each other: g keeps the rounds of which P holds, h those of which S does, and S holds of
  -- the others' rounds in a set where P holds of van i's
  van-sets : (g h : Plan → Plan) (P : Type 0) (S : ℕ → Type 0) → i < f.vans
      → Belongs d (g (f.plan i)) (R i) ↔ (Belongs d (f.plan i) (R i) × P)
      → ((j : ℕ) → j < f.vans → j ≢ i → Belongs d (h (f.plan j)) (R j) ↔ (Belongs d (f.plan j) (R j) × S j))
      → (BelongAll d f R → P → (j : ℕ) → j < f.vans → j ≢ i → S j)
      → BelongAll d (record { vans = f.vans; plan = λ j. cond (eqb j i) (g (f.plan j)) (h (f.plan j)); must = f.must }) R ↔ (BelongAll d f R × P)
  van-sets g h P S low here there others = (
    λ b. (
      record {
        each = λ j l. by-test (λ c. Belongs d (cond c (g (f.plan j)) (h (f.plan j))) (R j) → Belongs d (f.plan j) (R j)) (eqb j i)
            (λ e. rw (eqb→eq j i e) (λ u. (here.0 u).0)) (λ n u. ((there j l (neqb j i n)).0 u).0) (b.each j l);
        apart = b.apart;
        holds = b.holds;
      },
      (here.0 (rw (T→true (eqb i i) (eqb_refl i)) at (b.each i low))).1,
    ),
    λ u. record {
      each = λ j l. by-test (λ c. Belongs d (cond c (g (f.plan j)) (h (f.plan j))) (R j)) (eqb j i)
          (λ e. rw (eqb→eq j i e) (here.1 (u.0.each i low, u.1)))
          (λ n. (there j l (neqb j i n)).1 (u.0.each j l, others u.0 u.1 j l (neqb j i n)));
      apart = u.0.apart;
      holds = u.0.holds;
    },
  )

  -- 1: placing keeps the sets whose round of van i uses the place
  pub placed-sets : (p x : ℕ) → FormedAll d f → i < f.vans → T ((f.plan i).places x p)
      → BelongAll d (placed_in i p x f) R ↔ (BelongAll d f R × T (uses p x (f.plan i).route (R i)))
  placed-sets p x form low t =
      van-sets (placed p x) (excluded x) (T (uses p x (f.plan i).route (R i))) (λ j. T (not (mem x (R j)))) low
      (placed-rounds d (f.plan i) (R i) p x (form.each i low) t)
      (λ j l ne. excluded-rounds d (f.plan j) (R j) x (open-off i j x p form low l ne t))
      (λ b u j l ne. b.apart i j x low l (λ e. ne (sym e)) (in_mem ((form.each i low).inside x p t))
      (used-mem p x (b.each i low).nodes (b.each i low).inside u))

  -- a step of van i alone keeps the sets whose round of van i it keeps
  pub in-van-sets : (g : Plan → Plan) (P : Type 0) → i < f.vans → Belongs d (g (f.plan i)) (R i) ↔ (Belongs d (f.plan i) (R i) × P)
      → BelongAll d (in_van i g f) R ↔ (BelongAll d f R × P)
  in-van-sets g P low here = van-sets g (λ a. a) P (λ j. Unit {0}) low here (λ j l ne. (λ b. (b, tt), λ u. u.0)) (λ b u j l ne. tt)

  -- 2: closing, those whose round of it does not use the place
  pub closed-sets : (p x : ℕ) → i < f.vans → BelongAll d (in_van i (closed p x) f) R ↔ (BelongAll d f R × T (not (uses p x (f.plan i).route (R i))))
  closed-sets p x low = in-van-sets (closed p x) (T (not (uses p x (f.plan i).route (R i)))) low (closed-rounds d (f.plan i) (R i) p x)

  -- 3: excluding, those whose round of it is without x
  pub excluded-sets : (x : ℕ) → i < f.vans → T (not (mem x (f.plan i).route))
      → BelongAll d (in_van i (excluded x) f) R ↔ (BelongAll d f R × T (not (mem x (R i))))
  excluded-sets x low n = in-van-sets (excluded x) (T (not (mem x (R i)))) low (excluded-rounds d (f.plan i) (R i) x n)

  -- 4: requiring, those whose round of it has x
  pub required-sets : (x : ℕ) → i < f.vans → BelongAll d (in_van i (required x) f) R ↔ (BelongAll d f R × T (mem x (R i)))
  required-sets x low = in-van-sets (required x) (T (mem x (R i))) low (required-rounds d (f.plan i) (R i) x)

  -- 5: settling, on a triangle day, all whose rounds keep the rules, and no set that was not there
  pub settled-sets : (v : ℕ → Van) → Triangle d → KeepAll v d f.vans R → BelongAll d (in_van i (settled (v i) d) f) R ↔ BelongAll d f R
  settled-sets v tri keep = (
    λ b. record { each = λ j l. (each j l).0 (b.each j l); apart = b.apart; holds = b.holds },
    λ b. record { each = λ j l. (each j l).1 (b.each j l); apart = b.apart; holds = b.holds },
  )
    where
      each : (j : ℕ) → j < f.vans → Belongs d ((in_van i (settled (v i) d) f).plan j) (R j) ↔ Belongs d (f.plan j) (R j)
      each j l = by-test (λ c. Belongs d (cond c (settled (v i) d (f.plan j)) (f.plan j)) (R j) ↔ Belongs d (f.plan j) (R j)) (eqb j i)
          (λ e. settled-rounds (v i) d (f.plan j) (R j) tri (subst (λ (k : ℕ). T (keeps (v k) d (R j))) (eqb→eq j i e) (keep j l)))
          (λ n. (λ b. b, λ b. b))

  -- so settling a van loses no set of rounds that keep the rules
  pub settling-keeps-all : (v : ℕ → Van) → Triangle d → KeepAll v d f.vans R → BelongAll d f R → BelongAll d (in_van i (settled (v i) d) f) R
  settling-keeps-all v tri keep = (settled-sets v tri keep).1

-- 8: those that hold x
pub obliged-sets : (d : Day) (f : Plans) (R : ℕ → List ℕ) (x : ℕ) → BelongAll d (obliged x f) R ↔ (BelongAll d f R × T (any_below f.vans (λ i. mem x (R i))))
obliged-sets d f R x = (
  λ b. (
    record { each = b.each; apart = b.apart; holds = λ y t. b.holds y (or_l (f.must y) (eqb y x) t) },
    b.holds x (or_r (f.must x) (eqb x x) (eqb_refl x)),
  ),
  λ u. record {
    each = u.0.each;
    apart = u.0.apart;
    holds = λ y t. ⊎_elim (u.0.holds y) (λ e. rw (eqb→eq y x e) u.1) (or-e (f.must y) (eqb y x) t);
  },
)

-- ---- plans that differ only where there is no van

-- as many vans, the same plan of each, and the same wards that must go somewhere
pub record SamePlans (f g : Plans) : Type 0 where
  pub vans : f.vans ≡ g.vans
  pub plan : (i : ℕ) → i < f.vans → f.plan i ≡ g.plan i
  pub must : (x : ℕ) → f.must x ≡ g.must x

-- a van of the one is a van of the other
pub van-same : {f g : Plans} → SamePlans f g → {i : ℕ} → i < g.vans → i < f.vans
van-same s {i} l = subst (λ (k : ℕ). i < k) (sym s.vans) l

pub same_back : {f g : Plans} → SamePlans f g → SamePlans g f
same_back s = record { vans = sym s.vans; plan = λ i l. sym (s.plan i (van-same s l)); must = λ x. sym (s.must x) }

-- they have the same sets of rounds
pub belong-same : (d : Day) {f g : Plans} (R : ℕ → List ℕ) → SamePlans f g → BelongAll d f R → BelongAll d g R
belong-same d R s b = record {
  each = λ i l. subst (λ (a : Plan). Belongs d a (R i)) (s.plan i (van-same s l)) (b.each i (van-same s l));
  apart = λ i j x l k. b.apart i j x (van-same s l) (van-same s k);
  holds = λ x t. subst (λ (k : ℕ). T (any_below k (λ i. mem x (R i)))) s.vans (b.holds x (subst (λ (c : Bool). T c) (sym (s.must x)) t));
}

-- so what is said of the sets of the one is said of those of the other
pub sets_same : (d : Day) {f g : Plans} (R : ℕ → List ℕ) {P : Type 0} → SamePlans f g → BelongAll d g R ↔ P → BelongAll d f R ↔ P
sets_same d R s h = (λ b. h.0 (belong-same d R s b), λ p. belong-same d R (same_back s) (h.1 p))
