-- The rounds of settling and its ways out, from a caller that is ready.
use mathlib.Core.Path.{◌≡◌, sym, ap, ◌∙◌, subst}
use Prim.Native.Nat.{ℕ, ◌-◌}
use mathlib.Core.Bool.{Bool, true, false}
use mathlib.Core.List.{List}
use lib.Dec.{T, eqb, ltb}
use lib.ListN.{get_or, take}
use borrow.Author.Tests.{eqb-true, ltb-true, ltb-false}
use Rattle.laws.proofs.Logic.{decided}
use Rattle.laws.proofs.Below.{below_at}
use Rattle.laws.specs.Basic.{all_below, tab, Filled}
use Rattle.bits.specs.Places.{has}
use Rattle.bits.proofs.Members.{has-none}
use Rattle.rules.specs.declared.Van.{Van}
use Rattle.rules.specs.Settle.{round}
use Rattle.rules.specs.Along.{load_at}
use Rattle.rules.proofs.Left.{◌⊆◌}
use Rattle.sheet.specs.declared.Layout.{Layout}
use Rattle.day.proofs.Asked.{one_end}
use Rattle.day.specs.Tell.{day_of, job_in}
use Rattle.along.specs.Sets.{places_in, sets_of}
use Rattle.settle.specs.declared.strike.Pass.{Pass}
use Rattle.settle.specs.Round.{Kepts, pair_leaves, jobs_leave, same_sets}
use Rattle.along.specs.Ready.{Ready}
use Rattle.along.proofs.ReadyLaws.{jobs-are}
use Rattle.settle.specs.Settles.{Settles}
use Rattle.along.proofs.Facts.{two-stops, few-nodes, some-nodes, past-nodes, places-seen, places-small}
use Rattle.settle.proofs.Facts.{ready-round}
use Rattle.settle.proofs.Rounds.{again-sets}
use Rattle.settle.proofs.Struck.{sets_same, round-open, round-still, settle-none, settle-once, settle-again}

module _ {s : List ℕ} {at : Layout} {l : List ℕ} {n : ℕ} {ws : List ℕ} (v : Van) (r : Ready s at l n ws 0) {first : List ℕ}
    (f : first ≡ sets_of (round v (day_of s) (take n l) (places_in ws))) where
  -- no round strikes
  pub none_left : same_sets ws first ≡ true → Settles v (day_of s) (take n l) ws 0 first
  none_left = settle-none v (day_of s) (one_end s r.clear) (take n l) r.form.nodes (some-nodes r) ws r.sized (places-seen r) (places-small r) f

  pub ready-first : Ready s at l n first 0
  ready-first = ready-round v r f

-- a round has been made, and a further one on the same route
module _ {s : List ℕ} {at : Layout} {l ws first second h : List ℕ} (pass : Pass) (r : Ready s at l pass.stops ws 0)
    (f : first ≡ sets_of (round pass.van (day_of s) (take pass.stops l) (places_in ws)))
    (loads : Filled 64 (load_at (day_of s) (take pass.stops l)) 0 (pass.stops - 1) h)
    (kept : Kepts l (pass.stops - 1) (jobs_leave (pair_leaves first l h pass) (job_in s) at.jobs) first second) where
  abbrev v : Van
  v = pass.van

  abbrev n : ℕ
  n = pass.stops

  -- the round after the first
  again-round : second ≡ sets_of (round v (day_of s) (take n l) (places_in first))
  again-round =
      again-sets pass (day_of s) (job_in s) at.jobs (ap (λ (k : ℕ). tab k (job_in s)) (sym (jobs-are r.laid))) l r.long (two-stops r) r.most (few-nodes r)
      r.form.nodes h loads first (ready-first v r f).form.off (ready-first v r f).form.leg (places_in ws)
      (ap places_in f ∙ round-open v (day_of s) (one_end s r.clear) (take n l) r.form.nodes (some-nodes r) ws r.sized (places-seen r) (places-small r)) second kept

  -- one strikes, two strike
  pub one_left : same_sets ws first ≡ false → same_sets first second ≡ true → Settles v (day_of s) (take n l) ws 1 second
  one_left = settle-once v (day_of s) (one_end s r.clear) (take n l) r.form.nodes (some-nodes r) ws r.sized (places-seen r) (places-small r) f again-round

  pub two-left : same_sets ws first ≡ false → same_sets first second ≡ false → Settles v (day_of s) (take n l) ws 2 second
  two-left = settle-again v (day_of s) (one_end s r.clear) (take n l) r.form.nodes (some-nodes r) ws r.sized (places-seen r) (places-small r) f again-round

-- no node has a place: no round strikes
pub none_open : {s : List ℕ} {at : Layout} {l : List ℕ} {n : ℕ} {ws : List ℕ} (v : Van) → Ready s at l n ws 0
    → all_below at.nodes (λ i. eqb (get_or ws i 0) 0) ≡ true → {vs : List ℕ} → vs ≡ ws → Settles v (day_of s) (take n l) ws 0 vs
none_open {s} {at} {l} {n} {ws} v r z {vs} e =
    none_left v r (e ∙ round-still v (day_of s) (one_end s r.clear) (take n l) r.form.nodes (some-nodes r) ws r.sized (places-seen r) (places-small r) none) (sets_same ws vs (sym e))
  where
    empty : (x : ℕ) → get_or ws x 0 ≡ 0
    empty x = decided (ltb x at.nodes) (λ t. eqb-true (get_or ws x 0) 0 (below_at at.nodes x (λ i. eqb (get_or ws i 0) 0) z (ltb-true x at.nodes t)))
        (λ t. past-nodes r x (ltb-false x at.nodes t))

    none : places_in ws ⊆ round v (day_of s) (take n l) (places_in ws)
    none x p t = absurd (subst (λ (b : Bool). T b) (ap (λ (w : ℕ). has w p) (empty x) ∙ has-none p) t)
