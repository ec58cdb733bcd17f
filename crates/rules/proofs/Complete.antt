-- The verdict. With no place open, an alive plan's route is a round of it that keeps the rules; and on a triangle day a dead plan has no
-- round that keeps the rules.
use mathlib.Core.Path.{◌≡◌, subst, sym, ◌∙◌}
use Prim.Native.Nat.{ℕ}
use native.Mathlib.Omega.{arith}
use mathlib.Core.Bool.{Bool, not, ◌&&◌, ◌||◌}
use mathlib.Core.List.{List, [], ◌∷◌}
use mathlib.Core.Logic.{◌⊎◌, inl, inr, ⊎_elim, ◌≢◌}
use lib.Dec.{T, T_not, not_T, eqb, eqb→eq, eqb_refl, le→leb}
use Rattle.laws.proofs.Logic.{and_i, and_l, and_r, and_mono, or_l, or_r, or-e, or_mono, tf, imp-i, imp-e, not-or-l, not-or-r, contra, cond-yes-i, cond-no-i}
use Rattle.laws.proofs.Lists.{Each, end, also, each_in, Sub, nil, keep, mem-sub, all_in, all-i, any-i, any_none, any-e, mem-tl, mem-rest}
use Rattle.laws.specs.Basic.{mem, any, In}
use Rattle.rules.specs.Day.{Day, inner}
use Rattle.rules.specs.declared.Van.{Van}
use Rattle.rules.specs.Time.{start, in_time, on_time, driven}
use Rattle.rules.specs.Load.{carries}
use Rattle.rules.specs.Profile.{clean_first}
use Rattle.rules.specs.Plan.{Plan, Places}
use Rattle.rules.specs.Rounds.{Distinct, Within, done, stop, Inside, both, Belongs, ordered, in_order, Rule, window_rule, metre_rule, transfer_rule, load_rule, profile_rule, rules, keeps}
use Rattle.rules.specs.Verdict.{partnered, owed, has_place, wrong, wrong_way, Check, owed_open, of_route, none_wrong, checks, alive}
use Rattle.rules.specs.Asked.{Triangle, Proper, Formed}
use Rattle.rules.specs.declared.Job.{Job}
use Rattle.rules.specs.declared.Job.TheVariants.{Clean, Soiled, Transfer}
use Rattle.rules.proofs.Cuts.{same}
use Rattle.rules.proofs.Entries.{keeps-i, alive-e, alive-i, owed_open-checked, window_rule-checked, metre_rule-checked, load_rule-checked, none_wrong-checked, profile_rule-checked}
use Rattle.rules.proofs.Grows.{driven-grows, carries-grows, ahead-grows}
use Rattle.rules.proofs.Keeps.{keeps-time, keeps-metres, keeps-order, keeps-loads, keeps-profile}
use Rattle.rules.proofs.CleanFirst.{first-sub}
use Rattle.rules.proofs.Around.{time-grows, not-wrong, ordered-both, within-place}
use Rattle.rules.proofs.Nodes.{within-sub}

-- ---- no place open and alive

-- both nodes or neither, and not in the wrong order: in order
ordered-i : (a b : ℕ) (R : List ℕ) → a ≢ b → (T (mem a R) → T (mem b R)) → (T (mem b R) → T (mem a R)) → T (not (wrong a b R)) → T (ordered a b R)
ordered-i a b [] ne f g w = tt
ordered-i a b (x ∷ R) ne f g w = go (tf (eqb x a)) (tf (eqb x b)) (ordered-i a b R ne)
  where
    go : T (eqb x a) ⊎ T (not (eqb x a)) → T (eqb x b) ⊎ T (not (eqb x b))
        → ((T (mem a R) → T (mem b R)) → (T (mem b R) → T (mem a R)) → T (not (wrong a b R)) → T (ordered a b R)) → T (ordered a b (x ∷ R))
    go (inl e) (inl e') k = absurd (ne (sym (eqb→eq x a e) ∙ eqb→eq x b e'))
    go (inl e) (inr n) k = cond-yes-i (eqb x a) (mem b R) (not (eqb x b) && ordered a b R) e (mem-rest b x R n (f (or_l (eqb x a) (mem a R) e)))
    go (inr n) (inl e) k = absurd (T_not (wrong a b (x ∷ R)) w (cond-yes-i (eqb x b) (mem a R) (not (eqb x a) && wrong a b R) e (mem-rest a x R n (g (or_l (eqb x b) (mem b R) e)))))
    go (inr n) (inr n') k = cond-no-i (eqb x a) (mem b R) (not (eqb x b) && ordered a b R) n (and_i (not (eqb x b)) (ordered a b R) n'
        (k (λ m. mem-rest b x R n' (f (mem-tl a x R m))) (λ m. mem-rest a x R n (g (mem-tl b x R m)))
        (contra (wrong a b R) (wrong a b (x ∷ R)) (λ t. cond-no-i (eqb x b) (mem a R) (not (eqb x a) && wrong a b R) n' (and_i (not (eqb x a)) (wrong a b R) n t)) w)))

-- marked or on the route
abbrev wanted : Plan → ℕ → Bool
wanted a y = a.marks y || mem y a.route

-- the law, of a rule: the verdict vouches for it, where no place is open and the plan is alive
abbrev pub Vouched : Rule → Type 0
Vouched r = (v : Van) (d : Day) (a : Plan) → ((x p : ℕ) → T (not (a.places x p))) → Proper d → T (alive v d a) → T (r v d a.route)

-- it does for what it checks
checked-vouched : (r : Rule) → In (of_route r) checks → Vouched r
checked-vouched r i v d a shut proper h = alive-e v d a h (of_route r) i

module _ (v : Van) (d : Day) (a : Plan) (shut : (x p : ℕ) → T (not (a.places x p))) where
  -- nobody is owed: who is wanted, and whose partner is, is on the route
  none-owed : T (alive v d a) → (x : ℕ) → In x (inner d) → T (a.marks x || any (partnered (wanted a) x) d.jobs) → T (mem x a.route)
  unfolding owed
  none-owed h x i t = ⊎_elim (λ m. m) (λ n. absurd (any_none (a.places x) a.route (λ p. T_not (a.places x p) (shut x p)) (place n))) (tf (mem x a.route))
    where
      place : T (not (mem x a.route)) → T (has_place a x)
      place n = imp-e (owed d a.route a.marks x) (has_place a x)
          (all_in (λ x. not (owed d a.route a.marks x) || has_place a x) (alive-e v d a h owed_open owed_open-checked) i)
          (and_i (not (mem x a.route)) (a.marks x || any (partnered (wanted a) x) d.jobs) n t)

  module _ (proper : Proper d) (h : T (alive v d a)) where
    partner : (x y : ℕ) → In x (inner d) → (j : Job) → In j d.jobs → (T (wanted a y) → T (partnered (wanted a) x j)) → T (mem y a.route) → T (mem x a.route)
    partner x y i j k f m = none-owed h x i (or_r (a.marks x) (any (partnered (wanted a) x) d.jobs) (any-i (partnered (wanted a) x) k (f (or_r (a.marks y) (mem y a.route) m))))

    transfers-vouched : T (transfer_rule v d a.route)
    transfers-vouched = all-i (in_order a.route) d.jobs order
      where
        order : (j : Job) → In j d.jobs → T (in_order a.route j)
        order (Clean b w) i = tt
        order (Soiled b w) i = tt
        order (Transfer b c w) i =
            let e = proper.ends b c w i in
            ordered-i b c a.route e.2
            (partner c b e.1 (Transfer b c w) i (λ t. or_r (eqb b c && wanted a c) (eqb c c && wanted a b) (and_i (eqb c c) (wanted a b) (eqb_refl c) t)))
            (partner b c e.0 (Transfer b c w) i (λ t. or_l (eqb b b && wanted a c) (eqb c b && wanted a b) (and_i (eqb b b) (wanted a c) (eqb_refl b) t)))
            (all_in (λ j. not (wrong_way a.route j)) (alive-e v d a h (of_route none_wrong) none_wrong-checked) i)

each-vouched : Each Vouched rules
each-vouched =
    also (checked-vouched window_rule window_rule-checked)
    (also (checked-vouched metre_rule metre_rule-checked)
    (also transfers-vouched
    (also (checked-vouched load_rule load_rule-checked)
    (also (checked-vouched profile_rule profile_rule-checked) end))))

-- a route runs through itself
inside-self : (o : Places) {z : ℕ} {l : List ℕ} (rt : List ℕ) → rt ≡ z ∷ l → Inside o rt rt
inside-self o {z} {l} rt e = subst (λ (m : List ℕ). Inside o m m) (sym e) (both (self z l))
  where
    self : (p : ℕ) (l : List ℕ) → Within o p l l
    self p [] = done
    self p (k ∷ l) = stop (self k l)

-- with no place open, an alive plan's route is a round of it that keeps the rules
pub no-gap-alive : (v : Van) (d : Day) (a : Plan) → Proper d → Formed d a → ((x p : ℕ) → T (not (a.places x p))) → T (alive v d a)
    → T (keeps v d a.route) × Belongs d a a.route
no-gap-alive v d a proper form shut h = (
  keeps-i v d a.route (λ r i. each_in i each-vouched v d a shut proper h),
  record {
    nodes = form.nodes;
    inside = inside-self a.places a.route form.starts;
    needed = λ x m. none-owed v d a shut h x (form.marked x m) (or_l (a.marks x) (any (partnered (wanted a) x) d.jobs) m);
  },
)

-- ---- a round that keeps the rules: alive

-- the law, of a check: it is fair, passed by every plan with a round that keeps the rules, on a triangle day
abbrev pub Fair : Check → Type 0
Fair c =
    (v : Van) (d : Day) (o : Places) (marks : ℕ → Bool) (z : ℕ) (r R : List ℕ) → Triangle d → Distinct d.n (z ∷ R) → Within o z r R
    → ((x : ℕ) → T (marks x) → T (mem x (z ∷ R))) → T (keeps v d (z ∷ R)) → T (c v d (record { route = z ∷ r; places = o; marks = marks }))

module _ (v : Van) (d : Day) (o : Places) (marks : ℕ → Bool) (z : ℕ) (r R : List ℕ) (tri : Triangle d) (nodes : Distinct d.n (z ∷ R)) (w : Within o z r R)
    (needed : (x : ℕ) → T (marks x) → T (mem x (z ∷ R))) (h : T (keeps v d (z ∷ R))) where
  whole : Sub (z ∷ r) (z ∷ R)
  whole = keep (within-sub w)

  here-wanted : (x : ℕ) → T (marks x || mem x (z ∷ r)) → T (mem x (z ∷ R))
  here-wanted x t = ⊎_elim (needed x) (mem-sub x whole) (or-e (marks x) (mem x (z ∷ r)) t)

  -- who is owed is in the round
  owed-here : (x : ℕ) → (j : Job) → In j d.jobs → T (partnered (λ y. marks y || mem y (z ∷ r)) x j) → T (mem x (z ∷ R))
  owed-here x (Clean a l) i t = absurd t
  owed-here x (Soiled a l) i t = absurd t
  owed-here x (Transfer a b l) i t =
      let k = ordered-both a b (z ∷ R) (keeps-order v d (z ∷ R) h a b l i) in
      let f : ℕ → Bool = λ y. marks y || mem y (z ∷ r) in
      ⊎_elim
      (λ u. subst (λ (c : ℕ). T (mem c (z ∷ R))) (eqb→eq a x (and_l (eqb a x) (f b) u)) (k.1 (here-wanted b (and_r (eqb a x) (f b) u))))
      (λ u. subst (λ (c : ℕ). T (mem c (z ∷ R))) (eqb→eq b x (and_l (eqb b x) (f a) u)) (k.0 (here-wanted a (and_r (eqb b x) (f a) u))))
      (or-e (eqb a x && f b) (eqb b x && f a) t)

  owed-open : (x : ℕ) → T (owed d (z ∷ r) marks x) → T (any (o x) (z ∷ r))
  unfolding owed
  owed-open x t =
      let f : ℕ → Bool = λ y. marks y || mem y (z ∷ r) in
      let n : T (not (mem x (z ∷ r))) = and_l (not (mem x (z ∷ r))) (marks x || any (partnered f x) d.jobs) t in
      let m : T (mem x (z ∷ R)) = ⊎_elim (needed x) (any-e (partnered f x) d.jobs (owed-here x)) (or-e (marks x) (any (partnered f x) d.jobs) (and_r (not (mem x (z ∷ r))) (marks x || any (partnered f x) d.jobs) t)) in
      within-place x w (mem-rest x z R (not-or-l (eqb z x) (mem x r) n) m) (not-or-r (eqb z x) (mem x r) n)

  owed-fair : T (owed_open v d (record { route = z ∷ r; places = o; marks = marks }))
  owed-fair = all-i (λ x. not (owed d (z ∷ r) marks x) || any (o x) (z ∷ r)) (inner d) (λ x i. imp-i (owed d (z ∷ r) marks x) (any (o x) (z ∷ r)) (owed-open x))

  right-way : (j : Job) → In j d.jobs → T (not (wrong_way (z ∷ r) j))
  right-way (Clean a l) i = tt
  right-way (Soiled a l) i = tt
  right-way (Transfer a b l) i = not_T (wrong a b (z ∷ r)) (not-wrong a b whole nodes (keeps-order v d (z ∷ R) h a b l i))

  order-fair : T (none_wrong v d (z ∷ r))
  order-fair = all-i (λ j. not (wrong_way (z ∷ r) j)) d.jobs right-way

  window-fair : T (window_rule v d (z ∷ r))
  window-fair = and_mono (in_time d z (start d [] z)) (on_time d (z ∷ []) R) (in_time d z (start d [] z)) (on_time d (z ∷ []) r) (λ t. t)
      (time-grows d tri nodes same (keep nil) (within-sub w)) (keeps-time v d (z ∷ R) h)

  metre-fair : T (metre_rule v d (z ∷ r))
  metre-fair = le→leb (driven d (z ∷ r)) v.limit (omega (arith, driven-grows d tri (within-sub w) nodes, keeps-metres v d (z ∷ R) h))

  load-fair : T (load_rule v d (z ∷ r))
  load-fair = ahead-grows (carries v d) (λ A A' B B'. carries-grows v d) (keep nil) (within-sub w) (keeps-loads v d (z ∷ R) h)

  profile-fair : T (profile_rule v d (z ∷ r))
  profile-fair = or_mono (not d.profile) (clean_first d (z ∷ R)) (not d.profile) (clean_first d (z ∷ r)) (λ t. t) (first-sub d whole) (keeps-profile v d (z ∷ R) h)

each-fair : Each Fair checks
each-fair =
    also owed-fair
    (also window-fair
    (also metre-fair
    (also load-fair
    (also order-fair
    (also profile-fair end)))))

inside-alive : (v : Van) (d : Day) (marks : ℕ → Bool) {o : Places} {rt R : List ℕ} → Triangle d → Distinct d.n R → Inside o rt R
    → ((x : ℕ) → T (marks x) → T (mem x R)) → T (keeps v d R)
    → T (alive v d (record { route = rt; places = o; marks = marks }))
inside-alive v d marks {o} tri nodes (both w) needed h =
    alive-i v d _ (λ c i. each_in i each-fair v d o marks _ _ _ tri nodes w needed h)

-- on a triangle day a plan with a round that keeps the rules is alive
pub round-alive : (v : Van) (d : Day) (a : Plan) (R : List ℕ) → Triangle d → Belongs d a R → T (keeps v d R) → T (alive v d a)
round-alive v d a R tri b h = inside-alive v d a.marks tri b.nodes b.inside b.needed h

-- so no round of a dead one keeps them
pub dead-none : (v : Van) (d : Day) (a : Plan) (R : List ℕ) → Triangle d → T (not (alive v d a)) → Belongs d a R → T (not (keeps v d R))
dead-none v d a R tri dead b = contra (keeps v d R) (alive v d a) (round-alive v d a R tri b) dead
