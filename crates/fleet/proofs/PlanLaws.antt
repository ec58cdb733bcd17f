-- A fleet as the rules see it: a ward is served exactly if some van has it; the verdict, and the form of the plans.
use mathlib.Core.Path.{◌≡◌, refl, ap, sym, ◌∙◌}
use mathlib.Core.Bool.{Bool, true, false, not, ◌&&◌, ◌||◌}
use mathlib.Core.Logic.{◌≢◌}
use mathlib.Core.List.{List}
use Prim.Native.Nat.{ℕ, ◌+◌, ◌≤◌, ◌<◌}
use native.Mathlib.Omega.{arith}
use lib.ListN.{length, get_or-eq_default}
use lib.Dec.{T, eqb, ltb}
use borrow.Author.Tests.{eqb-true, eqb-false, ltb-true, ltb-false, le-leb, lt-ltb}
use Rattle.laws.specs.Basic.{mem, all, any, all_below, any_below}
use Rattle.laws.proofs.Logic.{decided, T→true, true→T, N→false, false→N, T-ext, or_mono}
use Rattle.laws.proofs.Lists.{mem-in, in_mem, all_in, all-i, all_same, any-i, any-e}
use Rattle.laws.proofs.Below.{below_at, below-make}
use Rattle.laws.proofs.AnyLaws.{any-below-same}
use Rattle.bits.specs.Places.{has, lowest}
use Rattle.bits.proofs.Members.{false-true, has-none, has-low, within_has}
use Rattle.bits.proofs.Masks.{lowest-has}
use Rattle.rules.specs.Day.{Day, inner, is_inner}
use Rattle.rules.specs.declared.Van.{Van}
use Rattle.rules.specs.Verdict.{alive}
use Rattle.rules.specs.Fleet.{served, alive_all, FormedAll}
use Rattle.rules.proofs.Inner.{is-inner-in, inner-low}
use Rattle.sheet.specs.Section.{n_of, vans_of}
use Rattle.day.specs.Tell.{day_of}
use Rattle.day.specs.Refuse.{call_refusal}
use Rattle.day.proofs.RefuseLaws.{call-fine}
use Rattle.board.specs.Board.{Board, board_of, route_of, on_route, set_of, open_at}
use Rattle.board.specs.Form.{in_form}
use Rattle.board.specs.Held.{Sound, Words, Held}
use Rattle.board.specs.declared.State.{State}
use Rattle.board.proofs.FormLaws.{set-within, leg-at, on-at, in-form}
use Rattle.board.proofs.Keep.{must-inner}
use Rattle.stands.specs.Stands.{plan_of}
use Rattle.van.specs.Act.{plan_in}
use Rattle.van.proofs.Plans.{state-formed}
use Rattle.fleet.specs.Fleet.{state_in, board_in, HeldAll}
use Rattle.fleet.specs.Form.{has_ward, shares_none, in_form_all}
use Rattle.fleet.specs.Sums.{plans_in, all_served}
use Rattle.fleet.specs.declared.Fleet.{Fleet}
use Rattle.fleet.proofs.FormLaws.{none-ward, apart-shares, in-form-all}

-- ---- one van

-- past the sets there is none
set_past : (b : Board) (y : ℕ) → length b.sets ≤ y → set_of b y ≡ 0
unfolding set_of
set_past b y h = get_or-eq_default b.sets 0 h

module _ (n : ℕ) (b : Board) (s : Sound n b) (w : Words b) where
  -- a set that is not empty opens a place in a leg of the route
  open-some : (y : ℕ) → set_of b y ≢ 0 → T (any (open_at b y) (route_of b))
  unfolding open_at on_route
  open-some y d =
      let l : y < 64 = decided (ltb y 64) (λ e. ltb-true y 64 e) (λ e. absurd (d (past (ltb-false y 64 e)))) in
      let q = lowest (set_of b y) in
      let h = lowest-has (set_of b y) (omega (arith, d)) (w.fits y l) in
      let g = leg-at n b s.small s.wide s.form.route q (within_has (set_of b y) _ (set-within n b s.small s.wide s.form y l) q (has-low (set_of b y) q (w.fits y l) h) h) in
      let on = on-at n b s.small s.wide s.form.route q g.0 (omega (arith, g.1)) g.2 in
      any-i (open_at b y) (mem-in q (route_of b) (true→T _ on)) (true→T _ h)
    where
      past : 64 ≤ y → set_of b y ≡ 0
      past h = set_past b y (omega (arith, h, s.wide.sets))

  -- as the rules see it: on the route or open
  pub served-ward : (y : ℕ) → served (plan_of b) y ≡ has_ward b y
  unfolding has_ward on_route open_at
  served-ward y =
      T-ext _ _
      (or_mono (mem y (route_of b)) (any (open_at b y) (route_of b)) (mem y (route_of b)) (not (eqb (set_of b y) 0)) (λ t. t)
      (any-e (open_at b y) (route_of b) (λ q i t. decided (eqb (set_of b y) 0)
      (λ z. absurd (false-true (sym (has-none q) ∙ ap (λ (x : ℕ). has x q) (sym (eqb-true (set_of b y) 0 z)) ∙ T→true _ t)))
      (λ z. false→N _ z))))
      (or_mono (mem y (route_of b)) (not (eqb (set_of b y) 0)) (mem y (route_of b)) (any (open_at b y) (route_of b)) (λ t. t)
      (λ t. open-some y (eqb-false (set_of b y) 0 (N→false _ t))))

-- on the route as the rules see it
route-on : (b : Board) (x : ℕ) → T (mem x (route_of b)) → on_route b x ≡ true
unfolding on_route
route-on b x t = T→true _ t

-- an inner node by the test
inner-is : (d : Day) (x : ℕ) → T (mem x (inner d)) → is_inner d.n x ≡ true
unfolding is_inner
inner-is d x t = let a = inner-low d (mem-in x (inner d) t) in rw (le-leb 1 x a.0, lt-ltb (x + 1) d.n (omega (arith, a.1))) refl

-- ---- all vans

-- a test that every number but the inner nodes passes is asked of the inner nodes
inner-all : (d : Day) (g : ℕ → Bool) → d.n ≤ 64 → ((y : ℕ) → y < 64 → is_inner d.n y ≡ false → g y ≡ true) → all g (inner d) ≡ all_below 64 g
inner-all d g small h =
    T-ext _ _
    (λ t. true→T _ (below-make 64 g (λ y l. decided (is_inner d.n y) (λ i. T→true _ (all_in g t (is-inner-in d.n y i))) (λ i. h y l i))))
    (λ t. all-i g (inner d) (λ y i. true→T _ (below_at 64 y g (T→true _ t) (omega (arith, (inner-low d i).1)))))

module _ (d : Day) (v : ℕ) (f : Fleet) (some : 1 ≤ v) (each : (j : ℕ) → j < v → Sound d.n (board_in f j)) (words : (j : ℕ) → j < v → Words (board_in f j)) where
  -- every ward that must go somewhere is placed or open in some van
  pub served-all : all (λ x. not (has (state_in f 0).must x) || any_below v (λ i. served (plan_in (state_in f i)) x)) (inner d) ≡ all_served v f
  unfolding all_served
  served-all =
      all_same _ _ (inner d) (λ x i. ap (λ (t : Bool). not (has (state_in f 0).must x) || t)
      (any-below-same v _ _ (λ j l. served-ward d.n (board_in f j) (each j l) (words j l) x)))
      ∙ inner-all d (λ y. not (has (state_in f 0).must y) || any_below v (λ j. has_ward (board_in f j) y)) (each 0 some).small (λ y l i.
      decided (has (state_in f 0).must y)
      (λ h. absurd (false-true (sym i ∙ must-inner d.n (board_in f 0) (each 0 some).form y l h)))
      (λ h. rw h refl))

  -- the verdict: every van's, and the wards that must go somewhere
  pub alive-all : (van : ℕ → Van) → alive_all van d (plans_in v f) ≡ all_below v (λ i. alive (van i) d (plan_in (state_in f i))) && all_served v f
  unfolding alive_all
  alive-all van = ap (λ (t : Bool). all_below v (λ i. alive (van i) d (plan_in (state_in f i))) && t) served-all

-- ---- the form of the plans

-- the board of a van in form
pub van-sound : (n : ℕ) (s : State) → n ≤ 64 → Held s → in_form n s ≡ true → Sound n (board_of s)
van-sound n s small h e = record { small = small; wide = h.wide; form = (in-form n s small h.wide e).board }

-- a fleet in form: its plans are, and share no ward
pub plans-formed : (sheet : List ℕ) (f : Fleet) → call_refusal sheet ≡ 0 → HeldAll f → in_form_all (n_of sheet) (vans_of sheet) f ≡ true
    → FormedAll (day_of sheet) (plans_in (vans_of sheet) f)
plans-formed sheet f z h e =
    let fine = call-fine sheet z in
    let g = in-form-all (n_of sheet) (vans_of sheet) f fine.n-high fine.vans-high e in
    let held : (j : ℕ) → j < vans_of sheet → Held (state_in f j) = λ j l. h.each j (omega (arith, fine.vans-high, l)) in
    record {
      each = λ i l. state-formed sheet (state_in f i) (held i l) z (g.each i l);
      apart = λ i j x l k d m on.
          let p = inner-is (day_of sheet) x m in
          let r = g.apart i j x l k d p (route-on (board_in f i) x on) in
          false→N _ (served-ward (n_of sheet) (board_in f j) (van-sound (n_of sheet) (state_in f j) fine.n-high (held j k) (g.each j k)) (held j k).words x
          ∙ none-ward (board_in f j) x r.0 r.1);
    }

-- vans in form whose plans share no ward
pub shares-none : (sheet : List ℕ) (f : Fleet) → call_refusal sheet ≡ 0 → ((j : ℕ) → j < vans_of sheet → Held (state_in f j))
    → ((j : ℕ) → j < vans_of sheet → in_form (n_of sheet) (state_in f j) ≡ true)
    → ((i j x : ℕ) → i < vans_of sheet → j < vans_of sheet → i ≢ j → T (mem x (inner (day_of sheet))) → T (mem x (plan_in (state_in f i)).route) → T (not (served (plan_in (state_in f j)) x)))
    → shares_none (n_of sheet) (vans_of sheet) f ≡ true
unfolding on_route
shares-none sheet f z held form apart =
    let small = (call-fine sheet z).n-high in
    apart-shares (n_of sheet) (vans_of sheet) f (λ i j y l k d p on.
    sym (served-ward (n_of sheet) (board_in f j) (van-sound (n_of sheet) (state_in f j) small (held j k) (form j k)) (held j k).words y)
    ∙ N→false _ (apart i j y l k d (in_mem (is-inner-in (n_of sheet) y p)) (true→T _ on)))
