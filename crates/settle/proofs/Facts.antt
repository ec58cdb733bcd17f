-- What a caller that is ready gives the functions of settling.
use mathlib.Core.Path.{◌≡◌, refl, sym, ap, ◌∙◌, subst}
use Prim.Native.Nat.{ℕ, ◌-◌, ◌<◌, ◌≤◌}
use mathlib.Core.Bool.{Bool, true, not, ◌&&◌}
use mathlib.Core.List.{List}
use mathlib.Core.Logic.{⊎_elim}
use native.Mathlib.Omega.{arith}
use lib.Dec.{T, eqb}
use lib.IntN.{ℤ}
use lib.ListN.{get_or, take, length}
use lib.Seq.{get_or-take}
use Rattle.laws.proofs.Logic.{and-true}
use Rattle.laws.proofs.Peak.{peak-low, peak-most}
use Rattle.rules.specs.declared.Van.{Van}
use Rattle.rules.specs.Day.{is_inner}
use Rattle.rules.specs.Load.{load_of}
use Rattle.rules.specs.Along.{load_at}
use Rattle.rules.specs.Settle.{round, settle}
use Rattle.rules.proofs.AlongLaws.{leg-index}
use Rattle.rules.proofs.Left.{◌⊆◌, round-less}
use Rattle.rules.proofs.Fixpoint.{settle-less}
use Rattle.rules.proofs.Forms.{fewer-formed}
use Rattle.sheet.specs.Section.{n_of, m_of}
use Rattle.sheet.specs.declared.Layout.{Layout}
use Rattle.rules.specs.declared.Job.{Job}
use Rattle.rules.specs.declared.Job.TheVariants.{Clean, Soiled, Transfer}
use Rattle.sheet.specs.Place.{Laid}
use Rattle.day.specs.Seen.{Placed}
use Rattle.day.proofs.Fit.{placed-read, fine-job}
use Rattle.day.specs.Tell.{day_of, job_in, load_ok, job_fine}
use Rattle.along.proofs.RouteLaws.{job-low}
use Rattle.along.specs.Spots.{spot, Spots}
use Rattle.along.proofs.SpotLaws.{spot_in, spot-cases, spot-found}
use Rattle.along.proofs.LoadLaws.{load-at-low}
use Rattle.walks.specs.Walks.{Legs, Before, Marked}
use Rattle.along.specs.Sets.{places_in, sets_of}
use Rattle.along.proofs.SetLaws.{length-sets, places-sets}
use Rattle.along.specs.Ready.{Ready}
use Rattle.along.proofs.ReadyLaws.{jobs-are}
use Rattle.along.proofs.Facts.{size, two-stops, near-nodes, places-small}
use Rattle.settle.specs.declared.strike.Pass.{Pass}
use Rattle.settle.specs.Round.{Kepts, ride_of, node_of, two_ends}
use Rattle.gaps.proofs.GapLaws.{Spotted, Named}
use Rattle.settle.proofs.RoundLaws.{legs-load, placed-node}
use Rattle.settle.specs.Settles.{Read}

module _ {s : List ℕ} {at : Layout} {l : List ℕ} {n : ℕ} {ws : List ℕ} {marks : ℕ} (r : Ready s at l n ws marks) where
  abbrev m : List ℕ
  m = take n l

  -- the spots have the leg of each stop, and of each place
  module _ {at' : List ℕ} (p : Spots l n at') where
    stop-at : (i x : ℕ) → i < n → get_or l i 0 ≡ x → get_or at' x 64 ≡ i
    stop-at i x h e = p.at x ∙ spot-found l n r.most (omega (arith, r.long, r.most)) r.form.nodes x i h (get_or-take n l i 0 h ∙ e)

    leg-at : (i : ℕ) → i < n → get_or at' (get_or l i 0) 0 ≡ i
    leg-at i h = spot_in at' (get_or l i 0) (omega (arith, near-nodes r i h, p.long)) ∙ stop-at i (get_or l i 0) h refl

    -- what a walk asks that takes all legs at once
    pub marked : {b : List ℕ} → Before l (n - 1) b → Marked l (n - 1) at' b
    marked b = record { before = b; long = p.long; stop = λ i x h. (stop-at i x (omega (arith, two-stops r)), from i x h) }
      where
        from : (i x : ℕ) → i ≤ n - 1 → get_or at' x 64 ≡ i → get_or l i 0 ≡ x
        from i x h e =
            let z : spot l n x ≡ i = sym (p.at x) ∙ e in
            ⊎_elim (λ q. absurd (omega (arith, q.0, r.most, two-stops r))) (λ q. ap (λ (k : ℕ). get_or l k 0) (sym z) ∙ q.1) (spot-cases l n x)

    pub spotted : Spotted l at' (n - 1)
    spotted = record { is = λ i h. leg-at i (omega arith) }

    pub named : (y : ℕ) → Named l at' (n - 1) (get_or ws y 0)
    named y = record {
      leg = λ q t.
          let a = leg-index q m (r.form.leg y q t) in
          let h : a.0 < n - 1 = omega (arith, a.1, size r) in
          let e : get_or l a.0 0 ≡ q = sym (get_or-take n l a.0 0 (omega arith)) ∙ a.2 in
          let f : get_or at' q 0 ≡ a.0 = ap (λ (k : ℕ). get_or at' k 0) (sym e) ∙ leg-at a.0 (omega arith) in
          (omega (arith, f), ap (λ (i : ℕ). get_or l i 0) f ∙ e);
    }

-- what a walk asks, of a route that is read
pub legs : {s : List ℕ} {at : Layout} {l : List ℕ} {p : Pass} {ws : List ℕ} {marks : ℕ} {z : List ℤ} {h spots before : List ℕ} → Ready s at l p.stops ws marks
    → Read s at l p z h spots before → Legs l h (ride_of p 0)
legs {s} {l = l} {p} r e = record {
  long = r.long;
  wide = e.loads.long;
  few = omega (arith, two-stops r, r.most);
  low = omega arith;
  high = rw e.peaks.highest (peak-low _ (p.stops - 1) 1099511627776 (omega arith)
      (λ i k. load-at-low (job_in s) (take p.stops l) (m_of s) i (job-low s) r.laid.fine.m-high));
  loads = λ i k. omega (arith, e.loads.at i k, e.peaks.highest, peak-most (load_at (day_of s) (take p.stops l)) (p.stops - 1) i k);
  nodes = λ i k. near-nodes r i (omega arith);
}

-- the node of a job has a word
pub node-word : {s : List ℕ} {at : Layout} → Laid s at → (i : ℕ) → i < at.jobs → {j : Job} → j ≡ job_in s i → {x : ℕ} → x ≡ node_of j → x < 64
node-word p i h {j} e z = rw z (placed-node j (placed-read p i h e))

-- a job's nodes have words, its load is far from the end of 64 bits, and the ends of a transfer are two
pub job-asked : {s : List ℕ} {at : Layout} → Laid s at → {l h : List ℕ} (pass : Pass) → Legs l h (ride_of pass 0) → (i : ℕ) → i < at.jobs → {j : Job}
    → j ≡ job_in s i
    → Placed j × (two_ends j ≡ true) × Legs l h (ride_of pass (load_of j))
job-asked {s} p pass w i h {j} e = (
  placed-read p i h e,
  ends j (subst (λ (q : Job). job_fine (n_of s) q ≡ true) (sym e) (fine-job s p.fine i (omega (arith, jobs-are p)))),
  legs-load pass (subst (λ (q : Job). load_of q < 4294967296) (sym e) (job-low s i)) w,
)
  where
    ends : (q : Job) → job_fine (n_of s) q ≡ true → two_ends q ≡ true
    ends (Clean a w) f = refl
    ends (Soiled a w) f = refl
    ends (Transfer a b w) f =
        let q = (and-true (is_inner (n_of s) a && is_inner (n_of s) b && not (eqb a b)) (load_ok w) f).0 in
        (and-true (is_inner (n_of s) a && is_inner (n_of s) b) (not (eqb a b)) q).1

-- fewer places are as ready
ready-fewer : {s : List ℕ} {at : Layout} {l : List ℕ} {n : ℕ} {ws : List ℕ} {marks : ℕ} → Ready s at l n ws marks → {vs : List ℕ} → length vs ≡ 64
    → places_in vs ⊆ places_in ws → Ready s at l n vs marks
ready-fewer r e less = record { laid = r.laid; clear = r.clear; long = r.long; sized = e; most = r.most; form = fewer-formed less r.form }

pub kepts-less : {l : List ℕ} {legs : ℕ} {f : ℕ → ℕ → Bool} {ws vs : List ℕ} → Kepts l legs f ws vs → places_in vs ⊆ places_in ws
kepts-less k x p t = (((k.at x).at p).0 t).0

-- and so are the words after a round
pub ready-round : {s : List ℕ} {at : Layout} {l : List ℕ} {n : ℕ} {ws : List ℕ} {marks : ℕ} (v : Van) → Ready s at l n ws marks → {vs : List ℕ}
    → vs ≡ sets_of (round v (day_of s) (take n l) (places_in ws)) → Ready s at l n vs marks
ready-round {s} {at} {l} {n} {ws} {marks} v r {vs} e = ready-fewer r (ap length e ∙ length-sets (round v (day_of s) (take n l) (places_in ws))) less
  where
    less : places_in vs ⊆ places_in ws
    less x p t = round-less v (day_of s) (take n l) (places_in ws) x p
        (subst (λ (b : Bool). T b) (ap (λ (k : List ℕ). places_in k x p) e ∙ places-sets (round v (day_of s) (take n l) (places_in ws)) (λ y q u. places-small r y q (round-less v (day_of s) (take n l) (places_in ws) y q u)) x p) t)

-- the words after settling have the places that settling leaves
pub settled-open : {s : List ℕ} {at : Layout} {l : List ℕ} {n : ℕ} {ws : List ℕ} {marks : ℕ} (v : Van) → Ready s at l n ws marks
    → places_in (sets_of (settle v (day_of s) (take n l) (places_in ws))) ≡ settle v (day_of s) (take n l) (places_in ws)
settled-open {s} {at} {l} {n} {ws} v r = λ u x p.
    places-sets (settle v (day_of s) (take n l) (places_in ws)) (λ y q t. places-small r y q (settle-less v (day_of s) (take n l) (places_in ws) y q t)) x p u
