-- Settling loses no round: on a triangle day every rule-keeping round that belongs to a plan belongs to the settled plan.
use Prim.Native.Nat.{ℕ, zero, suc, ◌*◌}
use mathlib.Core.Bool.{Bool, true, false}
use mathlib.Core.List.{List, [], ◌∷◌}
use mathlib.Core.Logic.{◌↔◌}
use lib.Dec.{T}
use Rattle.laws.proofs.Lists.{each_in, keep}
use Rattle.rules.specs.Day.{Day}
use Rattle.rules.specs.declared.Van.{Van}
use Rattle.rules.specs.Plan.{Plan, Places}
use Rattle.rules.specs.Rounds.{Distinct, Within, done, stop, extra, Inside, both, Belongs, keeps}
use Rattle.rules.specs.Steps.{uses}
use Rattle.rules.specs.Settle.{round, strikes, settle_in, settled}
use Rattle.rules.specs.Asked.{Triangle}
use Rattle.rules.proofs.Cuts.{Cut, same, cut-next}
use Rattle.rules.proofs.Longer.{Past, begun, halt, between}
use Rattle.rules.proofs.Sound.{each-sound}
use Rattle.rules.proofs.Entries.{stays-i}
use Rattle.rules.proofs.Left.{round-i}
use Rattle.rules.proofs.Fixpoint.{settle-less}
use Rattle.rules.proofs.Nodes.{distinct-sub, within-sub}
use Rattle.rules.proofs.Using.{inside-more, uses-open}

module _ (v : Van) (d : Day) (tri : Triangle d) {z : ℕ} {r R : List ℕ} (nodes : Distinct d.n (z ∷ R)) (rules : T (keeps v d (z ∷ R))) where
  -- along the round: behind, what it has passed; ahead, what is to come
  walk : (o : Places) {p q : ℕ} {A A' B B' : List ℕ} → Distinct d.n (z ∷ r) → Cut (z ∷ []) r (p ∷ A) B → Cut (z ∷ []) R (q ∷ A') B' → Past o z (p ∷ A) (q ∷ A')
      → Within o p B B'
      → Within (round v d (z ∷ r) o) p B B'
  walk o g c at u done = done
  walk o g c at u (stop w) = stop (walk o g (cut-next c) (cut-next at) (halt u) w)
  walk o {p} {q} {A} {A'} g c at u (extra {x = x} {k = k} {r = B} {R = B'} t w) =
      extra
      (round-i v d z r o x g c t (stays-i v d (z ∷ r) o x (p ∷ A) (k ∷ B)
      (λ s i. each_in i each-sound v d tri o z x p k r R A B (record { nodes = nodes; rules = rules; leg = c; q = q; A' = A'; B' = B'; at = at; behind = u; ahead = w }))))
      (walk o g c (cut-next at) (between t u) w)

  -- one round of settling
  round_keeps : (o : Places) → Within o z r R → Within (round v d (z ∷ r) o) z r R
  round_keeps o w = walk o (distinct-sub (keep (within-sub w)) nodes) same same begun w

  settle-keeps : (f : ℕ) (o : Places) → Within o z r R → Within (settle_in f v d (z ∷ r) o) z r R
  unfolding settle_in
  settle-keeps zero o w = w
  settle-keeps (suc f) o w = go (strikes v d (z ∷ r) o) (settle-keeps f (round v d (z ∷ r) o) (round_keeps o w))
    where
      go : (b : Bool) → Within (settle_in f v d (z ∷ r) (round v d (z ∷ r) o)) z r R
          → Within (elim b as (λ c. Places) [ true ↦ settle_in f v d (z ∷ r) (round v d (z ∷ r) o) | false ↦ o ]) z r R
      go true u = u
      go false u = w

settling-inside : (v : Van) (d : Day) (f : ℕ) {o : Places} {rt R : List ℕ} → Triangle d → Distinct d.n R → T (keeps v d R) → Inside o rt R
    → Inside (settle_in f v d rt o) rt R
settling-inside v d f {o} tri g h (both w) = both (settle-keeps v d tri g h f o w)

-- every rule-keeping round that belongs to a plan belongs to the settled plan
pub settling-keeps : (v : Van) (d : Day) (a : Plan) (R : List ℕ) → Triangle d → T (keeps v d R) → Belongs d a R → Belongs d (settled v d a) R
settling-keeps v d a R tri h b = record { nodes = b.nodes; inside = settling-inside v d (d.n * d.n) tri b.nodes h b.inside; needed = b.needed }

-- the other way round settling adds none: of the rounds that keep the rules, the settled plan has those of the plan
pub settled-rounds : (v : Van) (d : Day) (a : Plan) (R : List ℕ) → Triangle d → T (keeps v d R) → Belongs d (settled v d a) R ↔ Belongs d a R
settled-rounds v d a R tri h = (
  λ b. record { nodes = b.nodes; inside = inside-more (settle-less v d a.route a.places) b.inside; needed = b.needed },
  settling-keeps v d a R tri h,
)

inside-uses : (v : Van) (d : Day) (p x : ℕ) {o : Places} {rt R : List ℕ} → Triangle d → Distinct d.n R → T (keeps v d R) → Inside o rt R → T (uses p x rt R)
    → T (round v d rt o x p)
inside-uses v d p x {o} tri g h (both {z = z} {r = r} {R = R} w) t = uses-open p x g (round_keeps v d tri g h o w) t

-- no test strikes a place that a rule-keeping round of the plan uses
pub used-stays : (v : Van) (d : Day) (a : Plan) (R : List ℕ) (p x : ℕ) → Triangle d → T (keeps v d R) → Belongs d a R → T (uses p x a.route R)
    → T (round v d a.route a.places x p)
used-stays v d a R p x tri h b t = inside-uses v d p x tri b.nodes h b.inside t
