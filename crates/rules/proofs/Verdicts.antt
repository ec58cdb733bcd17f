-- The verdict reads the route, the open places, and the marks of unplaced nodes: nothing else.
use mathlib.Core.Path.{◌≡◌, sym, ap, subst, ◌∙◌}
use Prim.Native.Nat.{ℕ}
use mathlib.Core.Bool.{Bool, not, ◌&&◌, ◌||◌, or-true}
use mathlib.Core.List.{List}
use lib.Dec.{T}
use Rattle.laws.proofs.Logic.{T-ext, false→N, decided}
use Rattle.laws.proofs.Lists.{Each, end, also, each_in}
use Rattle.laws.specs.Basic.{mem, all, any, In}
use Rattle.rules.specs.Day.{Day, inner}
use Rattle.rules.specs.declared.Van.{Van}
use Rattle.rules.specs.Plan.{Plan}
use Rattle.rules.specs.Rounds.{Rule, window_rule, metre_rule, load_rule, profile_rule}
use Rattle.rules.specs.Verdict.{partnered, owed, Check, owed_open, of_route, none_wrong, checks, alive}
use Rattle.rules.proofs.Entries.{alive-e, alive-i}

module _ (d : Day) (rt : List ℕ) (m m' : ℕ → Bool) (agree : (y : ℕ) → T (not (mem y rt)) → m y ≡ m' y) where
  called_same : (y : ℕ) → (m y || mem y rt) ≡ (m' y || mem y rt)
  called_same y = decided (mem y rt) (λ e. rw e (or-true (m y) ∙ sym (or-true (m' y)))) (λ e. ap (λ (b : Bool). b || mem y rt) (agree y (false→N (mem y rt) e)))

  owed_same : (x : ℕ) → owed d rt m x ≡ owed d rt m' x
  unfolding owed
  owed_same x = decided (mem x rt) (λ e. rw e) (λ e. λ i. not (mem x rt) && (agree x (false→N (mem x rt) e) i || any (partnered (λ y. called_same y i) x) d.jobs))

-- the law, of a check: it sees no more, and comes out the same for two plans that are the same in these three
abbrev pub Sees : Check → Type 0
Sees c = (v : Van) (d : Day) (a b : Plan) → a.route ≡ b.route → ((x p : ℕ) → a.places x p ≡ b.places x p)
    → ((y : ℕ) → T (not (mem y a.route)) → a.marks y ≡ b.marks y) → c v d a ≡ c v d b

owed-sees : Sees owed_open
owed-sees v d a b e places marks =
    (λ i. all (λ x. not (owed_same d a.route a.marks b.marks marks x i) || any (λ p. places x p i) a.route) (inner d))
    ∙ ap (λ (rt : List ℕ). owed_open v d (record { route = rt; places = b.places; marks = b.marks })) e

route-sees : (r : Rule) → Sees (of_route r)
route-sees r v d a b e places marks = ap (r v d) e

each-sees : Each Sees checks
each-sees =
    also owed-sees
    (also (route-sees window_rule)
    (also (route-sees metre_rule)
    (also (route-sees load_rule)
    (also (route-sees none_wrong)
    (also (route-sees profile_rule) end)))))

pub alive-same : Sees alive
alive-same v d a b e places marks = T-ext (alive v d a) (alive v d b)
    (λ h. alive-i v d b (λ c i. subst (λ (t : Bool). T t) (same c i) (alive-e v d a h c i)))
    (λ h. alive-i v d a (λ c i. subst (λ (t : Bool). T t) (sym (same c i)) (alive-e v d b h c i)))
  where
    same : (c : Check) → In c checks → c v d a ≡ c v d b
    same c i = each_in i each-sees v d a b e places marks
