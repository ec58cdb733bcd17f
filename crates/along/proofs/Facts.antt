-- What a caller that is ready gives the functions inside.
use mathlib.Core.Path.{◌≡◌, sym, ap, ◌∙◌, subst}
use Prim.Native.Nat.{ℕ, ◌-◌, ◌<◌, ◌≤◌}
use mathlib.Core.Bool.{Bool}
use mathlib.Core.List.{List, [], ◌∷◌}
use native.Mathlib.Omega.{arith}
use lib.Dec.{T, eqb→eq}
use lib.ListN.{get_or, take, length, length-take}
use Rattle.laws.proofs.Logic.{decided, true→T}
use Rattle.bits.specs.Places.{has}
use Rattle.bits.proofs.Members.{has-none, word-ext}
use Rattle.rules.specs.Asked.{ends_with}
use Rattle.rules.proofs.AlongLaws.{leg-index}
use Rattle.rules.proofs.Inner.{inner-low}
use Rattle.rules.proofs.Fixpoint.{Seen}
use Rattle.rules.proofs.Forms.{formed-seen}
use Rattle.sheet.specs.declared.Layout.{Layout}
use Rattle.day.specs.Tell.{day_of, job_in}
use Rattle.along.specs.Route.{Route}
use Rattle.along.specs.Nodes.{ByNode, Routed}
use Rattle.along.proofs.RouteLaws.{node_at_lem}
use Rattle.along.proofs.SpotLaws.{node-low}
use Rattle.along.specs.Sets.{places_in}
use Rattle.along.proofs.SetLaws.{Narrow}
use Rattle.along.specs.Ready.{Ready}
use Rattle.along.proofs.ReadyLaws.{nodes-are, nodes-most}

some-stops : (k : ℕ) → 1 ≤ k → (tail : List ℕ) → T (ends_with k (0 ∷ tail)) → 1 ≤ length tail
some-stops k h [] t = absurd (omega (arith, eqb→eq 0 k t))
some-stops k h (x ∷ tail) t = omega arith

module _ {s : List ℕ} {at : Layout} {l : List ℕ} {n : ℕ} {ws : List ℕ} {marks : ℕ} (r : Ready s at l n ws marks) where
  abbrev m : List ℕ
  m = take n l

  pub size : length m ≡ n
  size = let a = r.long in let b = r.most in simp length-take (omega arith)

  pub few-nodes : (day_of s).n ≤ 64
  few-nodes = r.laid.fine.n-high

  pub some-nodes : 2 ≤ (day_of s).n
  some-nodes = r.laid.fine.n-low

  pub two-stops : 2 ≤ n
  two-stops =
      let t = some-stops ((day_of s).n - 1) (omega (arith, some-nodes)) r.form.tail (subst (λ (k : List ℕ). T (ends_with ((day_of s).n - 1) k)) r.form.starts r.form.ends) in
      omega (arith, size, ap length r.form.starts)

  pub route-of : Route at.nodes l n
  route-of = record { long = r.long; some = two-stops; most = r.most; nodes = rw (nodes-are r.laid) r.form.nodes }

  pub near-nodes : (i : ℕ) → i < n → get_or l i 0 < 64
  near-nodes i h = omega (arith, node_at_lem route-of i h, nodes-most r.laid)

  pub places-seen : Seen (day_of s) m (places_in ws)
  places-seen = formed-seen r.form

  pub places-small : Narrow (places_in ws)
  places-small x p t =
      let a = leg-index p m (r.form.leg x p t) in
      (omega (arith, (inner-low (day_of s) (r.form.inside x p t)).1, few-nodes), omega (arith, a.2, node-low r.form.nodes a.0 (omega (arith, a.1)), few-nodes))

  -- no word past the nodes
  pub past-nodes : (y : ℕ) → at.nodes ≤ y → get_or ws y 0 ≡ 0
  past-nodes y h = word-ext (get_or ws y 0) 0 (λ p. decided (has (get_or ws y 0) p)
      (λ t. absurd (omega (arith, (inner-low (day_of s) (r.form.inside y p (true→T _ t))).1, nodes-are r.laid))) (λ t. t ∙ sym (has-none p)))

-- so two arrays of words of one sheet are the same past its nodes
pub past_same : {s : List ℕ} {at : Layout} {l k : List ℕ} {n m : ℕ} {ws vs : List ℕ} {a b : ℕ} → Ready s at l n ws a → Ready s at k m vs b
    → (y : ℕ) → at.nodes ≤ y → get_or ws y 0 ≡ get_or vs y 0
past_same p q y h = past-nodes p y h ∙ sym (past-nodes q y h)

-- settling looks at no mark
pub ready-unmarked : {s : List ℕ} {at : Layout} {l : List ℕ} {n : ℕ} {ws : List ℕ} {marks : ℕ} → Ready s at l n ws marks → Ready s at l n ws 0
ready-unmarked {s} {at} {l} {n} {ws} {marks} r = record {
  clear = r.clear;
  laid = r.laid;
  long = r.long;
  sized = r.sized;
  most = r.most;
  form = record {
    tail = r.form.tail;
    starts = r.form.starts;
    ends = r.form.ends;
    nodes = r.form.nodes;
    inside = r.form.inside;
    off = r.form.off;
    leg = r.form.leg;
    marked = λ y t. absurd (subst (λ (b : Bool). T b) (has-none y) t);
  };
}

-- what a walk by the jobs by node asks, of a caller that is ready
pub routed : {s : List ℕ} {at : Layout} {l : List ℕ} {n : ℕ} {ws : List ℕ} {marks : ℕ} {t : List ℕ} → Ready s at l n ws marks
    → ByNode (job_in s) at.jobs t → Routed s at l n t
routed r b = record { clear = r.clear; laid = r.laid; route = route-of r; jobs = b }
