-- Demand 3. The end of a run, settled, has the open places and the verdict of the plan that 01 works out from the start, settled. So two
-- runs that end alike settle alike.
use mathlib.Core.Path.{◌≡◌, refl, subst, sym, ap, ◌∙◌}
use Prim.Native.Nat.{ℕ}
use native.Mathlib.Omega.{arith}
use mathlib.Core.Bool.{Bool, not, ◌&&◌, and-true}
use mathlib.Core.List.{List, [], ◌∷◌}
use lib.Dec.{T}
use Rattle.laws.proofs.Logic.{T→true, T-ext, and_i, and_l, and_r}
use Rattle.laws.specs.Basic.{mem, hd}
use Rattle.rules.specs.Day.{Day}
use Rattle.rules.specs.declared.Van.{Van}
use Rattle.rules.specs.Leg.{leg_stops}
use Rattle.rules.specs.Plan.{Plan, Places}
use Rattle.rules.specs.Settle.{round, settle, settled}
use Rattle.rules.specs.Verdict.{alive}
use Rattle.rules.specs.Worked.{PlanRun, origin, worked_places, worked}
use Rattle.rules.specs.Asked.{Triangle, OneEnd, Formed}
use Rattle.rules.proofs.Cuts.{Cut}
use Rattle.rules.proofs.Inner.{inner-low}
use Rattle.rules.proofs.Left.{◌⊆◌}
use Rattle.rules.proofs.Fixpoint.{Seen, settle-less, settle-fixed, settle-greatest, settle-wider}
use Rattle.rules.proofs.Longer.{lies-one, lies_same, leg-named, leg-mem, Ancestor, Comes, within-self}
use Rattle.rules.proofs.Forms.{LaidOut, formed-laid, laid-seen}
use Rattle.rules.proofs.Runs.{Course, course-laid, coursed, course-within, course-from, course-shut, course-kept}
use Rattle.rules.proofs.Origin.{origin-leg}
use Rattle.rules.proofs.Verdicts.{alive-same}

-- ---- the worked-out places and those of the run

module _ (a : Plan) (z : ℕ) (e X : List ℕ) (y q : ℕ) where
  worked-e : T (worked_places a (z ∷ e) X y q)
      → T (mem q (leg_stops (z ∷ e))) × T (not (mem y X)) × T (not (mem y (z ∷ e))) × T (a.places y (origin a.route z (z ∷ e) q))
  unfolding worked_places
  worked-e h = (search (and_l, and_r), search (and_l, and_r), search (and_l, and_r), search (and_l, and_r))

  worked-i : T (mem q (leg_stops (z ∷ e))) → T (not (mem y X)) → T (not (mem y (z ∷ e))) → T (a.places y (origin a.route z (z ∷ e) q))
      → T (worked_places a (z ∷ e) X y q)
  unfolding worked_places
  worked-i h i j k = search (and_i)

-- the same end route, the same nodes excluded: the same places worked out
worked_same : (a : Plan) {e e' : List ℕ} (X X' : List ℕ) → e ≡ e' → ((y : ℕ) → mem y X ≡ mem y X') → worked_places a e X ≡ worked_places a e' X'
unfolding worked_places
worked_same a X X' e x = λ i y q. mem q (leg_stops (e i)) && not (x y i) && not (mem y (e i)) && a.places y (origin a.route (hd (e i)) (e i) q)

module _ (v : Van) (d : Day) (tri : Triangle d) (one : OneEnd d.jobs) (z : ℕ) (r₀ : List ℕ) (o₀ : Places) (m₀ : ℕ → Bool) (l₀ : LaidOut d z r₀ o₀)
    (e X : List ℕ) (o : Places) (c : Course v d z r₀ o₀ e o X) where
  abbrev outset : Plan
  outset = record { route = z ∷ r₀; places = o₀; marks = m₀ }

  abbrev W : Places
  W = worked_places outset (z ∷ e) X

  laid : LaidOut d z e o
  laid = course-laid l₀ c

  end-origin : {q k' : ℕ} {A' B' : List ℕ} → Cut (z ∷ []) e (q ∷ A') (k' ∷ B') → (i : Ancestor z e r₀ (q ∷ A') k' B') × (origin (z ∷ r₀) z (z ∷ e) q ≡ i.p)
  end-origin = origin-leg l₀.off laid.nodes (course-within l₀ c (within-self o z e))

  -- the end's places are worked out
  end-worked : o ⊆ W
  end-worked y q h =
      let n = leg-named q z [] e (laid.leg y q h) in
      let i = end-origin n.3 in
      worked-i outset z e X y q (laid.leg y q h) (course-shut l₀ c y q h) (laid.off y q h)
      (subst (λ (m : ℕ). T (o₀ y m)) (sym i.1) (course-from l₀ c q n.1 i.0.p i.0.k n.0 n.2 i.0.A i.0.B i.0.lies y h))

  worked-from : Comes z e r₀ W o₀
  worked-from q k' p k A' B' A B l y h =
      let i = end-origin l.long in
      subst (λ (m : ℕ). T (o₀ y m)) (i.1 ∙ ap hd (lies-one laid.nodes i.0.lies l).0) (worked-e outset z e X y q h).3

  worked-seen : Seen d (z ∷ e) W
  worked-seen y q h = let u = worked-e outset z e X y q h in (l₀.inside y (origin (z ∷ r₀) z (z ∷ e) q) u.3, leg-mem q z e u.0)

  abbrev W* : Places
  W* = settle v d (z ∷ e) W

  settled-worked : (y q : ℕ) → T (W* y q) → T (W y q)
  settled-worked = settle-less v d (z ∷ e) W

  worked-rests : W* ⊆ round v d (z ∷ e) W*
  worked-rests = settle-fixed v d one (z ∷ e) laid.nodes W worked-seen

  -- what settling leaves of the worked-out places is open at the end
  worked-end : W* ⊆ o
  worked-end y q h =
      let n = leg-named q z [] e (worked-e outset z e X y q (settled-worked y q h)).0 in
      course-kept l₀ e W* tri laid.nodes
      (λ y q t. (omega (arith, inner-low d (worked-seen y q (settled-worked y q t)).0), (worked-e outset z e X y q (settled-worked y q t)).2)) worked-rests
      (λ q k' p k A' B' A B l y t. worked-from q k' p k A' B' A B l y (settled-worked y q t)) c (within-self o z e)
      (λ y q t. (worked-e outset z e X y q (settled-worked y q t)).1) q n.1 q n.1 n.0 n.2 n.0 n.2 (lies_same n.3) y h

  course-alike : (y q : ℕ) → settle v d (z ∷ e) o y q ≡ W* y q
  course-alike y q = T-ext (settle v d (z ∷ e) o y q) (W* y q)
      (settle-wider v d one (z ∷ e) laid.nodes o (laid-seen laid) W end-worked y q)
      (settle-greatest v d (z ∷ e) W* o worked-end worked-rests y q)

-- ---- demand 3

-- the same open places and the same verdict
pub record EndAlike (v : Van) (d : Day) (a b : Plan) : Type 0 where
  pub places : (y q : ℕ) → a.places y q ≡ b.places y q
  pub verdict : alive v d a ≡ alive v d b

module _ (v : Van) (d : Day) (tri : Triangle d) (one : OneEnd d.jobs) (a : Plan) (f : Formed d a) where
  end-places : {b : Plan} {X : List ℕ} → PlanRun v d a b X → (y q : ℕ) → settle v d b.route b.places y q ≡ settle v d b.route (worked_places a b.route X) y q
  end-places {b} {X} run y q = let u = coursed f.starts (formed-laid f) run in
      subst (λ (rt : List ℕ). settle v d rt b.places y q ≡ settle v d rt (worked_places a rt X) y q) (sym u.is)
      (course-alike v d tri one 0 f.tail a.places a.marks (formed-laid f) u.rest X b.places u.course y q
      ∙ sym (ap (λ (s : Plan). settle v d (0 ∷ u.rest) (worked_places s (0 ∷ u.rest) X) y q) front))
    where
      front : a ≡ record { route = 0 ∷ f.tail; places = a.places; marks = a.marks }
      front = λ i. record { route = f.starts i; places = a.places; marks = a.marks }

  -- the end of a run, settled, and the plan worked out, settled
  pub run-alike : {b : Plan} {X : List ℕ} → PlanRun v d a b X → EndAlike v d (settled v d b) (settled v d (worked a b.route X b.marks))
  run-alike {b} {X} run = record {
    places = end-places run;
    verdict = alive-same v d (settled v d b) (settled v d (worked a b.route X b.marks)) refl (end-places run)
        (λ y n. sym (ap (λ (t : Bool). b.marks y && t) (T→true (not (mem y b.route)) n) ∙ and-true (b.marks y)));
  }

  -- two runs with the same end route, the same excluded nodes and the same marks on unplaced nodes
  pub runs-alike : {b b' : Plan} {X X' : List ℕ} → PlanRun v d a b X → PlanRun v d a b' X' → b.route ≡ b'.route → ((y : ℕ) → mem y X ≡ mem y X')
      → ((y : ℕ) → T (not (mem y b.route)) → b.marks y ≡ b'.marks y) → EndAlike v d (settled v d b) (settled v d b')
  runs-alike {b} {b'} {X} {X'} run run' e shut marks = record { places = same-places; verdict = alive-same v d (settled v d b) (settled v d b') e same-places marks }
    where
      same-places : (y q : ℕ) → settle v d b.route b.places y q ≡ settle v d b'.route b'.places y q
      same-places y q = end-places run y q ∙ (λ i. settle v d (e i) (worked_same a X X' e shut i) y q) ∙ sym (end-places run' y q)
