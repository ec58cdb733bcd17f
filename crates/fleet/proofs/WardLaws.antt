-- What a pass over the vans finds of the wards: the words van by van, and the rule between vans by them.
use mathlib.Core.Path.{◌≡◌, refl, ap, sym, ◌∙◌}
use mathlib.Core.Bool.{Bool, true, false, not, ◌&&◌, ◌||◌, and-false, and_assoc}
use mathlib.Core.Logic.{◌≢◌}
use mathlib.Core.List.{List}
use Prim.Native.Nat.{ℕ, ◌+◌, ◌-◌, ◌≤◌, ◌<◌, ◌^◌}
use native.Mathlib.Numerals.{add-one}
use native.Mathlib.Omega.{arith}
use lib.ListN.{get_or}
use lib.Dec.{eqb, ltb}
use borrow.Author.Tests.{eqb-true, eqb-false, eq-eqb, ne_eqb, ltb-true, lt-ltb, le-ltb, le-leb, not-true}
use Rattle.laws.specs.Basic.{all_below, any_below}
use Rattle.laws.proofs.Logic.{decided, and-true, T→true, true→T}
use Rattle.laws.proofs.Below.{below-same, below-make, below_at}
use Rattle.laws.proofs.AnyLaws.{any-below-i, any-below-e}
use Rattle.bits.specs.Places.{has, with, without, minus, join, within}
use Rattle.bits.proofs.Members.{false-true, has-none, with-same, with-other, without-same, without_other}
use Rattle.bits.proofs.Masks.{has-minus, has_join}
use Rattle.rules.specs.Day.{is_inner}
use Rattle.rules.proofs.Inner.{is-inner}
use Rattle.board.specs.Route.{word_of}
use Rattle.board.specs.Board.{Board, board, board_of, route_of, on_route, set_of}
use Rattle.board.specs.Form.{in_form}
use Rattle.board.specs.declared.State.{State}
use Rattle.board.proofs.RouteLaws.{word-find}
use Rattle.board.proofs.FormLaws.{on_word, in-form}
use Rattle.board.specs.Held.{Sound, Wide}
use Rattle.board.proofs.TestLaws.{outer, outer-first}
use Rattle.fleet.specs.Fleet.{board_in}
use Rattle.fleet.specs.Form.{has_ward, shares_none}
use Rattle.fleet.specs.Wards.{Nodes, HasWards, AddsVan}
use Rattle.fleet.specs.declared.Fleet.{Fleet}
use Rattle.fleet.specs.declared.wards.Wards.{Wards}
use Rattle.laws.proofs.Turned.{ltb-more}
use Rattle.fleet.proofs.TestLaws.{together}
use Rattle.fleet.proofs.FormLaws.{Apart, ward-none, none-ward, shares-apart, apart-shares}

-- ---- the nodes below y that have a place open

abbrev pub Opens : List ℕ → ℕ → ℕ → Type 0
Opens sets y w = (q : ℕ) → has w q ≡ ltb q y && not (eqb (get_or sets q 0) 0)

pub opens-none : (sets : List ℕ) → Opens sets 0 0
opens-none sets q = rw (le-ltb q 0 (omega arith)) (has-none q)

pub opens-more : (sets : List ℕ) (y w : ℕ) → y < 64 → get_or sets y 0 ≢ 0 → Opens sets y w → Opens sets (y + 1) (with w y)
opens-more sets y w l d p q =
    decided (eqb q y)
    (λ e. rw (eqb-true q y e, with-same w y l, lt-ltb y (y + 1) (omega arith), ne_eqb (get_or sets y 0) 0 d) refl)
    (λ e. with-other w y q (eqb-false q y e) ∙ p q ∙ ap (λ (b : Bool). b && not (eqb (get_or sets q 0) 0)) (ltb-more q y (eqb-false q y e)))

pub opens_not : (sets : List ℕ) (y w : ℕ) → get_or sets y 0 ≡ 0 → Opens sets y w → Opens sets (y + 1) w
opens_not sets y w z p q =
    decided (eqb q y)
    (λ e. rw (eqb-true q y e) (p y ∙ rw (eq-eqb (get_or sets y 0) 0 z, and-false (ltb y y)) (sym (and-false (ltb y (y + 1))))))
    (λ e. p q ∙ ap (λ (b : Bool). b && not (eqb (get_or sets q 0) 0)) (ltb-more q y (eqb-false q y e)))

-- ---- one van's wards: the ends are left out

module _ (n : ℕ) (two : 2 ≤ n) (small : n ≤ 64) where
  inner-make : (y : ℕ) → y < n → y ≢ 0 → y ≢ n - 1 → is_inner n y ≡ true
  unfolding is_inner
  inner-make y l z e = rw (le-leb 1 y (omega (arith, z)), lt-ltb (y + 1) n (omega (arith, e, l, two))) refl

  pub ends-off : (w : ℕ) → ((y : ℕ) → has w y ≡ true → y < n) → (y : ℕ) → has (without (without w 0) (n - 1)) y ≡ is_inner n y && has w y
  ends-off w h y =
      decided (eqb y (n - 1))
      (λ e. rw (outer n y (omega (arith, eqb-true y (n - 1) e, two))) (ap (has (without (without w 0) (n - 1))) (eqb-true y (n - 1) e) ∙ without-same (without w 0) (n - 1)))
      (λ e. without_other (without w 0) (n - 1) y (eqb-false y (n - 1) e) ∙ decided (eqb y 0)
      (λ z. rw (eqb-true y 0 z, outer-first n) (without-same w 0))
      (λ z. without_other w 0 y (eqb-false y 0 z) ∙ decided (has w y)
      (λ k. rw (k, inner-make y (h y k) (eqb-false y 0 z) (eqb-false y (n - 1) e)) refl)
      (λ k. rw k (sym (and-false (is_inner n y))))))

  -- an equation that is asked of inner nodes only
  inner-only : (y : ℕ) (a b : Bool) → (y < 64 → y < n → a ≡ b) → is_inner n y && a ≡ is_inner n y && b
  inner-only y a b h = decided (is_inner n y) (λ i. rw i (h (omega (arith, (is-inner n y i).1)) (omega (arith, (is-inner n y i).1)))) (λ i. rw i refl)

  pub on-wards : (b : Board) → Nodes n b.stops b.route → (y : ℕ) → has (without (without (word_of b.stops b.route) 0) (n - 1)) y ≡ is_inner n y && on_route b y
  on-wards b m y =
      ends-off (word_of b.stops b.route) (λ y h. let r = word-find b.stops b.route y h in omega (arith, m.3 r.0 r.1, r.2)) y
      ∙ inner-only y (has (word_of b.stops b.route) y) (on_route b y) (λ l g. on_word b y l (omega (arith, m.1, m.2)))

  pub open-wards : (b : Board) (w : ℕ) → Opens b.sets n w → (y : ℕ) → has (without (without w 0) (n - 1)) y ≡ is_inner n y && not (eqb (set_of b y) 0)
  unfolding set_of
  open-wards b w o y =
      ends-off w (λ y h. decided (ltb y n) (λ l. ltb-true y n l) (λ l. absurd (false-true (sym (rw l at (o y)) ∙ h)))) y
      ∙ inner-only y (has w y) (not (eqb (set_of b y) 0)) (λ l g. o y ∙ rw (lt-ltb y n g) refl)

  -- two sets apart, where the first is told by a test of inner nodes
  pub apart-is : (a b : ℕ) (f : ℕ → Bool) → b < 2 ^ 64 → ((y : ℕ) → has a y ≡ is_inner n y && f y)
      → within a (minus a b) ≡ all_below 64 (λ y. not (is_inner n y && (f y && has b y)))
  unfolding within
  apart-is a b f fits h = below-same 64 _ _ (λ y l. rw (has-minus a b y fits l, h y) (go (is_inner n y) (f y) (has b y)))
    where
      go : (i f b : Bool) → not (i && f) || ((i && f) && not b) ≡ not (i && (f && b))
      go true true b = refl
      go true false b = refl
      go false f b = refl

  -- the words and the flag with one van more
  pub adds-van : (w : Wards) (b : Board) (on more : ℕ) → w.placed < 2 ^ 64 → w.reached < 2 ^ 64
      → ((y : ℕ) → has on y ≡ is_inner n y && on_route b y) → ((y : ℕ) → has more y ≡ is_inner n y && not (eqb (set_of b y) 0))
      → AddsVan n w b (record {
        placed = join w.placed on;
        reached = join w.reached (join on more);
        apart = (w.apart && within on (minus on w.reached)) && within more (minus more w.placed);
      })
  unfolding has_ward
  adds-van w b on more p r h k = record {
    placed = λ y. has_join w.placed on y ∙ ap (λ (t : Bool). has w.placed y || t) (h y);
    reached = λ y. has_join w.reached (join on more) y ∙ ap (λ (t : Bool). has w.reached y || t) (has_join on more y ∙ rw (h y, k y) (go (is_inner n y) (on_route b y) (not (eqb (set_of b y) 0))));
    apart =
        and_assoc w.apart (within on (minus on w.reached)) (within more (minus more w.placed))
        ∙ rw (apart-is on w.reached (on_route b) r h, apart-is more w.placed (λ y. not (eqb (set_of b y) 0)) p k) refl;
  }
    where
      go : (i a b : Bool) → (i && a) || (i && b) ≡ i && (a || b)
      go true a b = refl
      go false a b = refl

-- the marks of a board play no part
pub adds-any : (n : ℕ) (w : Wards) (route : List ℕ) (stops : ℕ) (sets : List ℕ) (marks must : ℕ) (r : Wards)
    → AddsVan n w (board route stops sets 0 0) r → AddsVan n w (board route stops sets marks must) r
unfolding has_ward on_route route_of set_of
adds-any n w route stops sets marks must r a = record { placed = a.placed; reached = a.reached; apart = a.apart }

-- ---- the wards of all vans so far

-- some number below i + 1 passes: one below i does, or i
pub any_next : (i : ℕ) (f : ℕ → Bool) → any_below (i + 1) f ≡ any_below i f || f i
unfolding any_below
any_next i f = rw add-one refl

pub wards-none : (n : ℕ) (f : Fleet) → HasWards n 0 f (record { placed = 0; reached = 0; apart = true })
unfolding shares_none all_below any_below
wards-none n f = record { placed = λ y. has-none y ∙ sym (and-false (is_inner n y)); reached = λ y. has-none y ∙ sym (and-false (is_inner n y)); apart = refl }

-- i passes: not none below j does
any_at : (j i : ℕ) (f : ℕ → Bool) → i < j → f i ≡ true → any_below j f ≡ true
any_at j i f l h = T→true (any_below j f) (any-below-i j i f l (true→T (f i) h))

-- what none of those below j passes
any-find : (j : ℕ) (f : ℕ → Bool) → ((i : ℕ) → i < j → f i ≡ true → ⊥) → any_below j f ≡ false
any-find j f h = decided (any_below j f) (λ e. absurd (any-below-e j f (λ i l t. h i l (T→true (f i) t)) (true→T (any_below j f) e))) (λ e. e)

module _ (n : ℕ) (small : n ≤ 64) (f : Fleet) (j : ℕ) (w r : Wards) (h : HasWards n j f w) (a : AddsVan n w (board_in f j) r) where
  abbrev on_clear : ℕ → Bool
  on_clear y = not (is_inner n y && (on_route (board_in f j) y && has w.reached y))

  abbrev open_clear : ℕ → Bool
  open_clear y = not (is_inner n y && (not (eqb (set_of (board_in f j) y) 0) && has w.placed y))

  -- the vans so far and this one, by the rule: the two tests pass
  tests-make : Apart n (j + 1) f → all_below 64 on_clear && all_below 64 open_clear ≡ true
  unfolding has_ward
  tests-make p =
      rw (below-make 64 on_clear (λ y l.
      decided (is_inner n y) (λ i. decided (on_route (board_in f j) y)
      (λ o. rw (i, o, h.reached y, i, any-find j (λ k. has_ward (board_in f k) y) (λ k b t. false-true (sym (p j k y (omega arith) (omega arith) (λ e. omega (arith, e, b)) i o) ∙ t))) refl)
      (λ o. rw (i, o) refl)) (λ i. rw i refl)))
      (below-make 64 open_clear (λ y l.
      decided (is_inner n y) (λ i. decided (eqb (set_of (board_in f j) y) 0)
      (λ o. rw (i, o) refl)
      (λ o. rw (
        i,
        o,
        h.placed y,
        i,
        any-find j (λ k. on_route (board_in f k) y) (λ k b t.
            eqb-false (set_of (board_in f j) y) 0 o (ward-none (board_in f j) y (p k j y (omega arith) (omega arith) (λ e. omega (arith, e, b)) i t)).1),
      ) refl))
      (λ i. rw i refl)))

  -- the two tests and the rule for the vans so far: the rule with this one
  apart-make : Apart n j f → all_below 64 on_clear && all_below 64 open_clear ≡ true → Apart n (j + 1) f
  unfolding has_ward
  apart-make p t i k y l g d inner on =
      let c = and-true (all_below 64 on_clear) (all_below 64 open_clear) t in
      let low : y < 64 = omega (arith, (is-inner n y inner).1) in
      let onc = below_at 64 y on_clear c.0 low in
      let opc = below_at 64 y open_clear c.1 low in
      decided (eqb i j)
      (λ e. let z = eqb-true i j e in
      let on' : on_route (board_in f j) y ≡ true = rw z at on in
      let none : any_below j (λ k. has_ward (board_in f k) y) ≡ false = not-true _ (rw (inner, on', h.reached y, inner) at onc) in
      decided (has_ward (board_in f k) y) (λ q. absurd (false-true (sym none ∙ any_at j k (λ k. has_ward (board_in f k) y) (omega (arith, d, z, g)) q))) (λ q. q))
      (λ e. let ne = eqb-false i j e in
      let below : i < j = omega (arith, ne, l) in
      decided (eqb k j)
      (λ z. rw (eqb-true k j z) (none-ward (board_in f j) y
      (decided (on_route (board_in f j) y)
      (λ q. let none : any_below j (λ k. has_ward (board_in f k) y) ≡ false = not-true _ (rw (inner, q, h.reached y, inner) at onc) in
      absurd (false-true (sym none ∙ any_at j i (λ k. has_ward (board_in f k) y) below (rw on refl))))
      (λ q. q))
      (decided (eqb (set_of (board_in f j) y) 0)
      (λ q. eqb-true (set_of (board_in f j) y) 0 q)
      (λ q. let none : any_below j (λ k. on_route (board_in f k) y) ≡ false = not-true _ (rw (inner, q, h.placed y, inner) at opc) in
      absurd (false-true (sym none ∙ any_at j i (λ k. on_route (board_in f k) y) below on))))))
      (λ z. let nz = eqb-false k j z in p i k y below (omega (arith, nz, g)) d inner on))

  shares-next : shares_none n j f && (all_below 64 on_clear && all_below 64 open_clear) ≡ shares_none n (j + 1) f
  shares-next =
      together (shares_none n j f && (all_below 64 on_clear && all_below 64 open_clear)) (shares_none n (j + 1) f)
      (λ e. let b = and-true (shares_none n j f) (all_below 64 on_clear && all_below 64 open_clear) e in
      apart-shares n (j + 1) f (apart-make (shares-apart n j f small b.0) b.1))
      (λ e. let p = shares-apart n (j + 1) f small e in
      rw (apart-shares n j f (λ i k y l g. p i k y (omega arith) (omega arith))) (tests-make p))

  pub wards-more : HasWards n (j + 1) f r
  wards-more = record {
    placed = λ y. a.placed y ∙ rw (h.placed y, any_next j (λ i. on_route (board_in f i) y)) (go (is_inner n y) (any_below j (λ i. on_route (board_in f i) y)) (on_route (board_in f j) y));
    reached = λ y. a.reached y ∙ rw (h.reached y, any_next j (λ i. has_ward (board_in f i) y)) (go (is_inner n y) (any_below j (λ i. has_ward (board_in f i) y)) (has_ward (board_in f j) y));
    apart = a.apart ∙ rw h.apart shares-next;
  }
    where
      go : (i a b : Bool) → (i && a) || i && b ≡ i && (a || b)
      go true a b = refl
      go false a b = refl

-- ---- what a board in form knows of its route

pub sound-nodes : (n : ℕ) (b : Board) → Sound n b → Nodes n b.stops b.route
sound-nodes n b s = (s.small, omega (arith, s.small, s.form.route.most), s.wide.route, s.form.route.below)

pub form-nodes : (n : ℕ) (s : State) → n ≤ 64 → Wide (board_of s) → in_form n s ≡ true → Nodes n s.stops s.route
form-nodes n s small wide e = sound-nodes n (board_of s) (record { small = small; wide = wide; form = (in-form n s small wide e).board })
