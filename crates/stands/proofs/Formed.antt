-- A board in form stands for a plan in form.
use Prim.Native.Nat.{ℕ, zero, suc, ◌-◌, ◌≤◌, ◌<◌}
use mathlib.Core.Path.{◌≡◌, sym, ap, subst, ◌∙◌}
use mathlib.Core.Bool.{true, false, not, ◌&&◌}
use mathlib.Core.List.{List, [], ◌∷◌}
use native.Mathlib.Omega.{arith}
use lib.Dec.{T, ltb}
use lib.ListN.{length, get_or, take, drop, length-take}
use lib.Seq.{get_or-take}
use borrow.Author.Tests.{eqb-true, ltb-true, ltb-false, not-true}
use Rattle.laws.proofs.Logic.{T→true, true→T, false→N, decided, and-true}
use Rattle.laws.specs.Basic.{mem}
use Rattle.bits.specs.Places.{has}
use Rattle.bits.proofs.Members.{has-none, has-low, within_has, false-true}
use Rattle.rules.specs.Day.{is_inner}
use Rattle.rules.proofs.Inner.{is-inner-in}
use Rattle.board.specs.Board.{Board, route_of, on_route, legs_of, set_of, open_at}
use Rattle.board.specs.Form.{set_ok}
use Rattle.board.proofs.RouteLaws.{entry-mem, mem-none}
use Rattle.board.specs.Held.{Words, FormedBoard, Wide}
use Rattle.board.proofs.FormLaws as board
use Rattle.board.proofs.Keep.{mark-inner}
use Rattle.board.proofs.PlaceLaws.{open-past}
use Rattle.rules.specs.Day.{Day}
use Rattle.rules.specs.Leg.{leg_stops}
use Rattle.rules.specs.Rounds.{Distinct, none, more}
use Rattle.rules.specs.Asked.{Formed, ends_with}
use Rattle.rules.proofs.AlongLaws.{leg-stops}
use Rattle.rules.proofs.Given.{ends_at}
use Rattle.stands.specs.Stands.{plan_of}

-- entries below n, each once, are distinct nodes
distinct : (n : ℕ) (l : List ℕ) → ((i : ℕ) → i < length l → get_or l i 0 < n) → ((i j : ℕ) → i < length l → j < i → get_or l j 0 ≡ get_or l i 0 → ⊥) → Distinct n l
distinct n [] low once = none
distinct n (x ∷ l) low once =
    more (low 0 (omega arith)) (false→N (mem x l) (mem-none x l (λ k h e. once (suc k) 0 (omega arith) (omega arith) (sym e))))
    (distinct n l (λ i h. low (suc i) (omega arith)) (λ i j h g. once (suc i) (suc j) (omega arith) (omega arith)))

-- the first of k entries, and the others
take-first : (k : ℕ) (l : List ℕ) → 1 ≤ k → 1 ≤ length l → take k l ≡ get_or l 0 0 ∷ take (k - 1) (drop 1 l)
take-first zero l h g = absurd (omega arith)
take-first (suc k) [] h g = absurd (omega arith)
take-first (suc k) (x ∷ l) h g = ap (λ (m : ℕ). x ∷ take m l) (let e : k ≡ suc k - 1 = omega arith in e)

module _ (d : Day) (b : Board) (small : d.n ≤ 64) (wide : Wide b) (words : Words b) (form : FormedBoard d.n b) where
  long : length (route_of b) ≡ b.stops
  long = board.route-long d.n b small wide form.route

  at : (i : ℕ) → i < b.stops → get_or (route_of b) i 0 ≡ get_or b.route i 0
  at i h = board.route-at d.n b small wide form.route i h

  -- ---- a node with an open place: it is inner and off the route, and its places are legs

  near : (y q : ℕ) → T (open_at b y q) → y < 64
  near y q t = decided (ltb y 64) (ltb-true y 64) (λ e. absurd (false-true (sym (open-past b y q (omega (arith, wide.sets, ltb-false y 64 e))) ∙ T→true (open_at b y q) t)))

  -- x is open in a leg that the route has
  pub open-leg : (y q : ℕ) → T (open_at b y q) → T (mem q (leg_stops (route_of b)))
  unfolding open_at
  open-leg y q t =
      let yes = T→true (has (set_of b y) q) t in
      let f = board.leg-at d.n b small wide form.route q (within_has (set_of b y) (legs_of b) (board.set-within d.n b small wide form y (near y q t)) q (has-low (set_of b y) q (words.fits y (near y q t)) yes) yes) in
      subst (λ (l : List ℕ). T (mem q l)) (sym (leg-stops (route_of b)))
      (true→T _ (entry-mem q f.0 (take (length (route_of b) - 1) (route_of b)) (omega (arith, length-take (length (route_of b) - 1) (route_of b), long, f.1))
      (get_or-take (length (route_of b) - 1) (route_of b) f.0 0 (omega (arith, long, f.1)) ∙ at f.0 (omega (arith, f.1)) ∙ f.2)))

  open-node : (y q : ℕ) → T (open_at b y q) → (is_inner d.n y ≡ true) × (on_route b y ≡ false)
  unfolding set_ok open_at
  open-node y q t =
      decided (is_inner d.n y && not (on_route b y))
      (λ e. let i = and-true (is_inner d.n y) (not (on_route b y)) e in (i.0, not-true (on_route b y) i.1))
      (λ e. let z = eqb-true (set_of b y) 0 (rw e at (form.sets y (near y q t))) in
      absurd (false-true (sym (has-none q) ∙ ap (λ (w : ℕ). has w q) (sym z) ∙ T→true (has (set_of b y) q) t)))

  first : route_of b ≡ 0 ∷ take (b.stops - 1) (drop 1 b.route)
  unfolding route_of
  first =
      take-first b.stops b.route (omega (arith, form.route.two)) (omega (arith, wide.route))
      ∙ ap (λ (z : ℕ). z ∷ take (b.stops - 1) (drop 1 b.route)) form.route.start

  last : T (ends_with (d.n - 1) (route_of b))
  last = ends_at (d.n - 1) (b.stops - 1) (route_of b) (omega (arith, long, form.route.two)) (at (b.stops - 1) (omega (arith, form.route.two)) ∙ form.route.end)

  pub stands-formed : Formed d (plan_of b)
  unfolding on_route
  stands-formed = record {
    tail = take (b.stops - 1) (drop 1 b.route);
    starts = first;
    ends = last;
    nodes = distinct d.n (route_of b)
        (λ i h. rw (at i (omega (arith, long))) (form.route.below i (omega (arith, long))))
        (λ i j h g e. form.route.once i j (omega (arith, long)) g (sym (at j (omega (arith, long))) ∙ e ∙ at i (omega (arith, long))));
    inside = λ y q t. is-inner-in d.n y (open-node y q t).0;
    off = λ y q t. false→N _ (open-node y q t).1;
    leg = open-leg;
    marked = λ y t. let yes = T→true (has b.marks y) t in is-inner-in d.n y (mark-inner d.n b form y (has-low b.marks y words.marks yes) yes);
  }
