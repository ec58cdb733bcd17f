-- The form of a fleet, fact by fact, and what makes it (02, No. 1).
use mathlib.Core.Path.{◌≡◌, refl, ap, sym, ◌∙◌}
use mathlib.Core.Bool.{Bool, true, false, cond, not, ◌&&◌, ◌||◌, and_assoc}
use mathlib.Core.List.{List}
use mathlib.Core.Logic.{◌≢◌}
use Prim.Native.Nat.{ℕ, ◌+◌, ◌≤◌, ◌<◌}
use native.Mathlib.Omega.{arith}
use lib.Dec.{eqb, leb, ltb}
use borrow.Author.Tests.{eqb-true, eqb-false, eq-eqb, ne_eqb, leb-true, le-leb, ltb-true, ltb-false, lt-ltb, le-ltb, not-true}
use Rattle.laws.specs.Basic.{all_below}
use Rattle.laws.proofs.Logic.{decided, and-true, or-false}
use Rattle.laws.proofs.Below.{below_at, below-make, flag-goes}
use Rattle.bits.proofs.Members.{false-true}
use Rattle.rules.specs.Numbers.{most_vans}
use Rattle.rules.specs.Day.{is_inner}
use Rattle.rules.proofs.Inner.{is-inner}
use Rattle.board.specs.Board.{Board, on_route, set_of}
use Rattle.board.specs.Form.{in_form, form_with}
use Rattle.board.specs.declared.State.{State}
use Rattle.records.specs.Trail.{room_of}
use Rattle.fleet.specs.Fleet.{fleet_of, state_in, board_in, trail_in}
use Rattle.fleet.specs.Form.{has_ward, clear_of, shares_none, van_fits, van_ok, idle, in_form_all, form_with_all}
use Rattle.fleet.specs.declared.Fleet.{Fleet}
use Rattle.fleet.proofs.FleetLaws.{state-of}
use Rattle.fleet.proofs.TestLaws.{together}

-- ---- the rule between vans

-- a ward that a van does not have is neither on its route nor open in it
pub ward-none : (b : Board) (y : ℕ) → has_ward b y ≡ false → (on_route b y ≡ false) × (set_of b y ≡ 0)
unfolding has_ward
ward-none b y e =
    let a = or-false (on_route b y) (not (eqb (set_of b y) 0)) e in
    (a.0, decided (eqb (set_of b y) 0) (λ z. eqb-true (set_of b y) 0 z) (λ z. absurd (false-true (sym a.1 ∙ ap not z))))

pub none-ward : (b : Board) (y : ℕ) → on_route b y ≡ false → set_of b y ≡ 0 → has_ward b y ≡ false
unfolding has_ward
none-ward b y o z = rw (o, eq-eqb (set_of b y) 0 z) refl

-- "no ward on a route is on or open in another van", as a fact
abbrev pub Apart : ℕ → ℕ → Fleet → Type 0
Apart n v f = (i j y : ℕ) → i < v → j < v → i ≢ j → is_inner n y ≡ true → on_route (board_in f i) y ≡ true → has_ward (board_in f j) y ≡ false

pub shares-apart : (n v : ℕ) (f : Fleet) → n ≤ 64 → shares_none n v f ≡ true → Apart n v f
unfolding shares_none clear_of
shares-apart n v f small e i j y l h d inner on =
    let a = below_at v i (λ i. all_below v (λ j. eqb i j || clear_of n (board_in f i) (board_in f j))) e l in
    let b = below_at v j (λ j. eqb i j || clear_of n (board_in f i) (board_in f j)) a h in
    let c : clear_of n (board_in f i) (board_in f j) ≡ true = rw (ne_eqb i j d) at b in
    let g = below_at 64 y (λ y. not (is_inner n y && (on_route (board_in f i) y && has_ward (board_in f j) y))) c (omega (arith, (is-inner n y inner).1, small)) in
    not-true (has_ward (board_in f j) y) (rw (inner, on) at g)

pub apart-shares : (n v : ℕ) (f : Fleet) → Apart n v f → shares_none n v f ≡ true
unfolding shares_none clear_of
apart-shares n v f a =
    below-make v _ (λ i l. below-make v _ (λ j h.
    decided (eqb i j) (λ e. rw e refl) (λ e. rw e (below-make 64 _ (λ y g. clear i j y l h (eqb-false i j e))))))
  where
    clear : (i j y : ℕ) → i < v → j < v → i ≢ j → not (is_inner n y && (on_route (board_in f i) y && has_ward (board_in f j) y)) ≡ true
    clear i j y l h d =
        decided (is_inner n y)
        (λ p. decided (on_route (board_in f i) y) (λ q. rw (p, q, a i j y l h d p q) refl) (λ q. rw (p, q) refl))
        (λ p. rw p refl)

-- ---- a van

module _ (n : ℕ) (s : State) (depth : ℕ) (first : Bool) (e : van_fits n s depth first ≡ true) where
  pub fits-form : in_form n s ≡ true
  unfolding van_fits
  fits-form = (and-true (in_form n s) (eqb s.depth depth && (first || eqb s.must 0)) e).0

  pub fits-depth : s.depth ≡ depth
  unfolding van_fits
  fits-depth = eqb-true s.depth depth (and-true (eqb s.depth depth) (first || eqb s.must 0) (and-true (in_form n s) _ e).1).0

  pub fits-must : first ≡ false → s.must ≡ 0
  unfolding van_fits
  fits-must h = eqb-true s.must 0 (rw h at (and-true (eqb s.depth depth) (first || eqb s.must 0) (and-true (in_form n s) _ e).1).1)

pub fits-make : (n : ℕ) (s : State) (depth : ℕ) (first : Bool) → in_form n s ≡ true → s.depth ≡ depth → (first ≡ false → s.must ≡ 0) → van_fits n s depth first ≡ true
unfolding van_fits
fits-make n s depth true f d m = rw (f, eq-eqb s.depth depth d) refl
fits-make n s depth false f d m = rw (f, eq-eqb s.depth depth d) (eq-eqb s.must 0 (m refl))

-- ---- the fleet

-- what a fleet in form is known by: v vans in form with equal numbers of levels, the marks "must go somewhere" in the first alone, what is no van
-- idle, and no ward on a route on or open in another van
pub record FleetForm (n v : ℕ) (f : Fleet) : Type 0 where
  pub each : (j : ℕ) → j < v → in_form n (state_in f j) ≡ true
  pub depth : (j : ℕ) → j < v → (state_in f j).depth ≡ (state_in f 0).depth
  pub must : (j : ℕ) → j < v → j ≢ 0 → (state_in f j).must ≡ 0
  pub rest : (j : ℕ) → v ≤ j → j < most_vans → idle (state_in f j) ≡ true
  pub apart : (i j y : ℕ) → i < v → j < v → i ≢ j → is_inner n y ≡ true → on_route (board_in f i) y ≡ true → (on_route (board_in f j) y ≡ false) × (set_of (board_in f j) y ≡ 0)

-- as the code asks it: what is no van, then the vans, then between them
pub in-form-split : (n v : ℕ) (f : Fleet) → v ≤ most_vans
    → in_form_all n v f ≡ all_below most_vans (λ j. ltb j v || idle (state_in f j)) && (all_below v (van_ok n f) && shares_none n v f)
unfolding in_form_all
in-form-split n v f l =
    ap (λ (t : Bool). t && shares_none n v f)
    (together (all_below most_vans (λ j. cond (ltb j v) (van_ok n f j) (idle (state_in f j)))) (all_below most_vans (λ j. ltb j v || idle (state_in f j)) && all_below v (van_ok n f))
    (λ e. rw (below-make most_vans (λ j. ltb j v || idle (state_in f j)) (λ j h. or-of (ltb j v) (van_ok n f j) (idle (state_in f j)) (below_at most_vans j (λ j. cond (ltb j v) (van_ok n f j) (idle (state_in f j))) e h)))
    (below-make v (van_ok n f) (λ j h. rw (lt-ltb j v h) at (below_at most_vans j (λ j. cond (ltb j v) (van_ok n f j) (idle (state_in f j))) e (omega arith)))))
    (λ e. let a = and-true (all_below most_vans (λ j. ltb j v || idle (state_in f j))) (all_below v (van_ok n f)) e in
    below-make most_vans (λ j. cond (ltb j v) (van_ok n f j) (idle (state_in f j))) (λ j h.
    decided (ltb j v)
    (λ q. rw q (below_at v j (van_ok n f) a.1 (ltb-true j v q)))
    (λ q. rw q (rw q at (below_at most_vans j (λ j. ltb j v || idle (state_in f j)) a.0 h))))))
    ∙ and_assoc (all_below most_vans (λ j. ltb j v || idle (state_in f j))) (all_below v (van_ok n f)) (shares_none n v f)
  where
    or-of : (c a b : Bool) → cond c a b ≡ true → c || b ≡ true
    or-of true a b e = refl
    or-of false a b e = e

pub in-form-all : (n v : ℕ) (f : Fleet) → n ≤ 64 → v ≤ most_vans → in_form_all n v f ≡ true → FleetForm n v f
in-form-all n v f small l e =
    let a = and-true (all_below most_vans (λ j. ltb j v || idle (state_in f j))) (all_below v (van_ok n f) && shares_none n v f) (sym (in-form-split n v f l) ∙ e) in
    let b = and-true (all_below v (van_ok n f)) (shares_none n v f) a.1 in
    let ok : (j : ℕ) → j < v → van_ok n f j ≡ true = λ j h. below_at v j (van_ok n f) b.0 h in
    record {
      each = λ j h. fits-form n (state_in f j) (state_in f 0).depth (eqb j 0) (ok j h);
      depth = λ j h. fits-depth n (state_in f j) (state_in f 0).depth (eqb j 0) (ok j h);
      must = λ j h d. fits-must n (state_in f j) (state_in f 0).depth (eqb j 0) (ok j h) (ne_eqb j 0 d);
      rest = λ j h k. rw (le-ltb j v h) at (below_at most_vans j (λ j. ltb j v || idle (state_in f j)) a.0 k);
      apart = λ i j y h k d p q. ward-none (board_in f j) y (shares-apart n v f small b.1 i j y h k d p q);
    }

pub in-form-all-make : (n v : ℕ) (f : Fleet) → v ≤ most_vans → FleetForm n v f → in_form_all n v f ≡ true
in-form-all-make n v f l g =
    in-form-split n v f l
    ∙ rw (
      below-make most_vans (λ j. ltb j v || idle (state_in f j)) (λ j h. decided (ltb j v) (λ q. rw q refl) (λ q. rw q (g.rest j (ltb-false j v q) h))),
      below-make v (van_ok n f) (λ j h. fits-make n (state_in f j) (state_in f 0).depth (eqb j 0) (g.each j h) (g.depth j h) (λ q. g.must j h (eqb-false j 0 q))),
    ) (apart-shares n v f (λ i j y h k d p q. let r = g.apart i j y h k d p q in none-ward (board_in f j) y r.0 r.1))

-- where a trail is lent: no van's records above the room of its part
pub form-with-all : (n v : ℕ) (f : Fleet) (t : List ℕ) → form_with_all n v f t ≡ true
    → (in_form_all n v f ≡ true) × ((j : ℕ) → j < v → (state_in f j).records ≤ room_of (trail_in v t j))
unfolding form_with_all
form-with-all n v f t e =
    let a = and-true (in_form_all n v f) (all_below v (λ j. leb (state_in f j).records (room_of (trail_in v t j)))) e in
    (a.0, λ j h. leb-true _ _ (below_at v j (λ j. leb (state_in f j).records (room_of (trail_in v t j))) a.1 h))

pub form-with-all-make : (n v : ℕ) (f : Fleet) (t : List ℕ) → in_form_all n v f ≡ true
    → ((j : ℕ) → j < v → (state_in f j).records ≤ room_of (trail_in v t j)) → form_with_all n v f t ≡ true
unfolding form_with_all
form-with-all-make n v f t e h = rw e (below-make v (λ j. leb (state_in f j).records (room_of (trail_in v t j))) (λ j l. le-leb _ _ (h j l)))

-- each van's own form with its part
pub form-with-van : (n v : ℕ) (f : Fleet) (t : List ℕ) → n ≤ 64 → v ≤ most_vans → form_with_all n v f t ≡ true
    → (j : ℕ) → j < v → form_with n (state_in f j) (room_of (trail_in v t j)) ≡ true
unfolding form_with
form-with-van n v f t small l e j h =
    let a = form-with-all n v f t e in
    rw ((in-form-all n v f small l a.0).each j h) (le-leb _ _ (a.1 j h))

-- its vans
pub van-alone : (v : ℕ) (g h : ℕ → State) (j : ℕ) → v ≤ most_vans → j < v → state_in (fleet_of (λ j. cond (ltb j v) (g j) (h j))) j ≡ g j
van-alone v g h j l b = state-of (λ j. cond (ltb j v) (g j) (h j)) j (omega arith) ∙ rw (lt-ltb j v b) refl

-- ---- the form as the code finds it

-- of the first j states of a fleet with v vans, what is no van is idle
abbrev pub Resting : Fleet → ℕ → ℕ → Bool → Type 0
Resting f v j b = all_below j (λ k. ltb k v || idle (state_in f k)) ≡ b

pub resting-none : (f : Fleet) (v : ℕ) → Resting f v v true
resting-none f v = below-make v _ (λ k l. rw (lt-ltb k v l) refl)

pub resting-more : (f : Fleet) (v j : ℕ) {b r : Bool} → v ≤ j → r ≡ idle (state_in f j) → Resting f v j b → Resting f v (j + 1) (b && r)
resting-more f v j l e p = flag-goes j (λ k. ltb k v || idle (state_in f k)) p (e ∙ sym (rw (le-ltb j v l) refl))
