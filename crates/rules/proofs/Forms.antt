-- The steps keep the form.
use mathlib.Core.Path.{◌≡◌, refl, ap, ◌∙◌}
use Prim.Native.Nat.{ℕ, ◌-◌, ◌≤◌, ◌<◌}
use native.Mathlib.Omega.{arith}
use mathlib.Core.Bool.{Bool, false, not, ◌&&◌}
use mathlib.Core.List.{List, [], ◌∷◌}
use mathlib.Core.Logic.{⊎_elim}
use lib.Dec.{T, not_T, eqb, eqb→eq, eqb_refl}
use Rattle.laws.proofs.Logic.{tf, and_l, and_r, or-e, or_mono, not-or-i, not-or-l, not-or-r, ne-sym}
use Rattle.laws.proofs.Lists.{mem-in, mem-hd, mem-tl}
use Rattle.laws.specs.Basic.{mem, In}
use Rattle.rules.specs.Day.{Day, inner}
use Rattle.rules.specs.declared.Van.{Van}
use Rattle.rules.specs.Leg.{leg_stops}
use Rattle.rules.specs.Plan.{Plan, Places, fresh}
use Rattle.rules.specs.Rounds.{Distinct, none, more}
use Rattle.rules.specs.Steps.{put_after, split, placed, closed, excluded, required}
use Rattle.rules.specs.Settle.{settled}
use Rattle.rules.specs.Asked.{ends_with, Formed}
use Rattle.rules.proofs.Inner.{inner-low}
use Rattle.rules.proofs.Longer.{leg-mem}
use Rattle.rules.proofs.Left.{◌⊆◌}
use Rattle.rules.proofs.Placing.{Ins, at, on, PutIn, put-ins, split-ne, split-e, split-old}
use Rattle.rules.proofs.Fixpoint.{Seen, settle-less}

-- the route z ∷ r and the places o are in form
pub record LaidOut (d : Day) (z : ℕ) (r : List ℕ) (o : Places) : Type 0 where
  pub nodes : Distinct d.n (z ∷ r)
  pub inside : (y q : ℕ) → T (o y q) → In y (inner d)
  pub off : (y q : ℕ) → T (o y q) → T (not (mem y (z ∷ r)))
  pub leg : (y q : ℕ) → T (o y q) → T (mem q (leg_stops (z ∷ r)))

pub formed-laid : {d : Day} {a : Plan} → (f : Formed d a) → LaidOut d 0 f.tail a.places
formed-laid {d} {a} f = record {
  nodes = rw f.starts at f.nodes;
  inside = f.inside;
  off = λ y q h. rw f.starts at (f.off y q h);
  leg = λ y q h. rw f.starts at (f.leg y q h);
}

-- so a round of settling looks at every open place
pub laid-seen : {d : Day} {z : ℕ} {r : List ℕ} {o : Places} → LaidOut d z r o → Seen d (z ∷ r) o
laid-seen {z = z} {r = r} l = λ y q t. (l.inside y q t, leg-mem q z r (l.leg y q t))

pub formed-seen : {d : Day} {a : Plan} → Formed d a → Seen d a.route a.places
formed-seen f = rw f.starts (laid-seen (formed-laid f))

-- fewer places
pub laid-fewer : {d : Day} {z : ℕ} {r : List ℕ} {o o' : Places} → o' ⊆ o → LaidOut d z r o → LaidOut d z r o'
laid-fewer h l = record {
  nodes = l.nodes;
  inside = λ y q t. l.inside y q (h y q t);
  off = λ y q t. l.off y q (h y q t);
  leg = λ y q t. l.leg y q (h y q t);
}

-- ---- one stop more

pub ins-new : {p x c : ℕ} {r r' : List ℕ} → Ins p x c r r' → T (mem x r')
ins-new {x = x} (at {k = k} {r = r}) = mem-hd x (k ∷ r)
ins-new {x = x} (on {k = k} {r' = r'} i) = mem-tl x k r' (ins-new i)

ins-off : (y : ℕ) {p x c : ℕ} {r r' : List ℕ} → Ins p x c r r' → T (not (eqb x y)) → T (not (mem y r)) → T (not (mem y r'))
ins-off y {x = x} (at {k = k} {r = r}) n h = not-or-i (eqb x y) (mem y (k ∷ r)) n h
ins-off y (on {k = k} {r = r} {r' = r'} i) n h = not-or-i (eqb k y) (mem y r') (not-or-l (eqb k y) (mem y r) h) (ins-off y i n (not-or-r (eqb k y) (mem y r) h))

ins-distinct : {n p x c : ℕ} {r r' : List ℕ} → Ins p x c r r' → x < n → T (not (mem x r)) → Distinct n r → Distinct n r'
ins-distinct at low h g = more low h g
ins-distinct {x = x} (on {k = k} {r = r} i) low h (more a b g) =
    more a (ins-off k i (ne-sym k x (not-or-l (eqb k x) (mem x r) h)) b) (ins-distinct i low (not-or-r (eqb k x) (mem x r) h) g)

ins-ends : {p x c : ℕ} {r r' : List ℕ} (e : ℕ) → Ins p x c r r' → T (ends_with e (c ∷ r)) → T (ends_with e (c ∷ r'))
ins-ends e at h = h
ins-ends e (on i) h = ins-ends e i h

-- its legs are the old ones, the split one under both names
ins-leg : {p x c : ℕ} {r r' : List ℕ} (q : ℕ) → Ins p x c r r' → T (mem q (leg_stops (c ∷ r))) → T (mem q (leg_stops (c ∷ r')))
ins-leg {p} {x} q (at {k = k} {r = r}) h =
    or_mono (eqb p q) (mem q (leg_stops (k ∷ r))) (eqb p q) (mem q (leg_stops (x ∷ k ∷ r))) (λ t. t) (mem-tl q x (leg_stops (k ∷ r))) h
ins-leg {c = c} q (on {k = k} {r = r} {r' = r'} i) h = or_mono (eqb c q) (mem q (leg_stops (k ∷ r))) (eqb c q) (mem q (leg_stops (k ∷ r'))) (λ t. t) (ins-leg q i) h

ins-leg-new : {p x c : ℕ} {r r' : List ℕ} → Ins p x c r r' → T (mem x (leg_stops (c ∷ r')))
ins-leg-new {p} {x} (at {k = k} {r = r}) = mem-tl x p (leg_stops (x ∷ k ∷ r)) (mem-hd x (leg_stops (k ∷ r)))
ins-leg-new {x = x} {c = c} (on {k = k} {r' = r'} i) = mem-tl x c (leg_stops (k ∷ r')) (ins-leg-new i)

-- x placed after p
pub laid-placed : {d : Day} {z p x : ℕ} {r r' : List ℕ} {o : Places} → Ins p x z r r' → T (o x p) → LaidOut d z r o → LaidOut d z r' (split p x o)
laid-placed {d} {z} {p} {x} {r} {r'} {o} i t l = record {
  nodes = ins-distinct (on {c = z} i) (omega (arith, inner-low d (l.inside x p t))) (l.off x p t) l.nodes;
  inside = λ y q h. let u = split-old p x o y q h in l.inside y u.0 u.1;
  off = λ y q h. let u = split-old p x o y q h in ins-off y (on {c = z} i) (ne-sym y x (split-ne p x o y q h)) (l.off y u.0 u.1);
  leg = λ y q h. ⊎_elim (λ e. rw (eqb→eq q x e) (ins-leg-new i)) (λ n. ins-leg q i (l.leg y q (split-e p x o y q n h))) (tf (eqb q x));
}

-- ---- fresh is in form, and each step keeps the form

apart : (a b : ℕ) → (a ≡ b → ⊥) → T (not (eqb a b))
apart a b f = not_T (eqb a b) (λ t. f (eqb→eq a b t))

-- no ward is on the fresh route
pub fresh-off : (d : Day) (may : ℕ → Bool) {y : ℕ} → In y (inner d) → T (not (mem y (fresh d may).route))
fresh-off d may {y} i =
    let u = inner-low d i in
    not-or-i (eqb 0 y) (mem y ((d.n - 1) ∷ [])) (apart 0 y (λ e. omega (arith, u, e)))
    (not-or-i (eqb (d.n - 1) y) false (apart (d.n - 1) y (λ e. omega (arith, u, e))) tt)

pub fresh-plan-formed : (d : Day) (may : ℕ → Bool) → 2 ≤ d.n → Formed d (fresh d may)
fresh-plan-formed d may h = record {
  tail = (d.n - 1) ∷ [];
  starts = refl;
  ends = eqb_refl (d.n - 1);
  nodes = more {x = 0} (omega arith) (not-or-i (eqb (d.n - 1) 0) false (apart (d.n - 1) 0 (λ e. omega (arith, e))) tt) (more {x = d.n - 1} (omega arith) tt none);
  inside = inside;
  off = λ y q t. fresh-off d may (inside y q t);
  leg = λ y q t. rw (eqb→eq q 0 (and_r (mem y (inner d) && may y) (eqb q 0) t)) tt;
  marked = λ y t. absurd t;
}
  where
    inside : (y q : ℕ) → T (mem y (inner d) && may y && eqb q 0) → In y (inner d)
    inside y q t = mem-in y (inner d) (and_l (mem y (inner d)) (may y) (and_l (mem y (inner d) && may y) (eqb q 0) t))

pub placed-formed : (d : Day) (a : Plan) (p x : ℕ) → Formed d a → T (a.places x p) → Formed d (placed p x a)
placed-formed d a p x f t = record {
  tail = u.rest;
  starts = is;
  ends = rw is (ins-ends (d.n - 1) u.ins (rw f.starts at f.ends));
  nodes = rw is l.nodes;
  inside = l.inside;
  off = λ y q h. rw is (l.off y q h);
  leg = λ y q h. rw is (l.leg y q h);
  marked = f.marked;
}
  where
    u : PutIn p x 0 f.tail
    u = put-ins p x 0 f.tail ((formed-laid f).leg x p t)

    l : LaidOut d 0 u.rest (split p x a.places)
    l = laid-placed u.ins t (formed-laid f)

    is : put_after p x a.route ≡ 0 ∷ u.rest
    is = ap (put_after p x) f.starts ∙ u.is

-- the same route, fewer places
pub fewer-formed : {d : Day} {a : Plan} {o : Places} → o ⊆ a.places → Formed d a → Formed d (record { route = a.route; places = o; marks = a.marks })
fewer-formed h f = record {
  tail = f.tail;
  starts = f.starts;
  ends = f.ends;
  nodes = f.nodes;
  inside = λ y q t. f.inside y q (h y q t);
  off = λ y q t. f.off y q (h y q t);
  leg = λ y q t. f.leg y q (h y q t);
  marked = f.marked;
}

pub closed-formed : (d : Day) (a : Plan) (p x : ℕ) → Formed d a → Formed d (closed p x a)
closed-formed d a p x = fewer-formed (λ y q. and_l (a.places y q) (not (eqb y x && eqb q p)))

pub excluded-formed : (d : Day) (a : Plan) (x : ℕ) → Formed d a → Formed d (excluded x a)
excluded-formed d a x = fewer-formed (λ y q. and_l (a.places y q) (not (eqb y x)))

pub settled-formed : (v : Van) (d : Day) (a : Plan) → Formed d a → Formed d (settled v d a)
settled-formed v d a = fewer-formed (settle-less v d a.route a.places)

pub required-formed : (d : Day) (a : Plan) (x : ℕ) → In x (inner d) → Formed d a → Formed d (required x a)
required-formed d a x i f = record {
  tail = f.tail;
  starts = f.starts;
  ends = f.ends;
  nodes = f.nodes;
  inside = f.inside;
  off = f.off;
  leg = f.leg;
  marked = λ y t. ⊎_elim (f.marked y) (λ e. rw (eqb→eq y x e) i) (or-e (a.marks y) (eqb y x) t);
}
