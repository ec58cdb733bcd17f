-- The wards that must go somewhere: those are left, van by van, that no van so far has on its route or open.
use mathlib.Core.Path.{◌≡◌, refl, sym, ap, ◌∙◌}
use mathlib.Core.Bool.{Bool, true, false, not, ◌&&◌, ◌||◌, and-true, and-false}
use mathlib.Core.List.{List, []}
use Prim.Native.Nat.{ℕ, ◌+◌, ◌^◌, ◌≤◌, ◌<◌}
use native.Mathlib.Omega.{arith}
use lib.ListN.{get_or}
use lib.Dec.{eqb}
use borrow.Author.Tests.{eqb-true, eqb-false, eq-eqb, ne_eqb}
use Rattle.laws.specs.Basic.{any_below}
use Rattle.laws.proofs.Logic.{decided, T→true, true→T}
use Rattle.laws.proofs.Below.{below-make, below_fails}
use Rattle.laws.proofs.AnyLaws.{any-below-i, any-below-e}
use Rattle.bits.specs.Places.{has, without, minus, lowest}
use Rattle.bits.proofs.Members.{false-true, has-none, has-low, without-same, without_other, without-fits}
use Rattle.bits.proofs.Masks.{has-minus, lowest-has}
use Rattle.rules.specs.Numbers.{most_vans}
use Rattle.sheet.specs.Section.{n_of}
use Rattle.sheet.specs.declared.Layout.{Layout}
use Rattle.board.specs.Route.{word_of}
use Rattle.board.specs.Board.{board, on_route, set_of}
use Rattle.board.proofs.FormLaws.{on_word}
use Rattle.fleet.specs.Fleet.{state_in, board_in}
use Rattle.fleet.specs.Form.{has_ward}
use Rattle.fleet.specs.Rows.{figures_in, row_board, Figured, ReadyAll}
use Rattle.fleet.specs.Sums.{all_served}
use Rattle.fleet.specs.Wards.{Nodes}
use Rattle.fleet.specs.declared.Fleet.{Fleet}
use Rattle.fleet.proofs.WardLaws.{sound-nodes, any_next}

-- ---- what one van misses of a set

-- of the members `off` of a set those are kept that are not looked at yet, or have no place
pub record Missing (sets : List ℕ) (off left kept : ℕ) : Type 0 where
  pub fits : left < 2 ^ 64
  pub still : (y : ℕ) → has kept y ≡ has off y && (has left y || eqb (get_or sets y 0) 0)

module _ {sets : List ℕ} {off : ℕ} where
  -- the least of those that are left is looked at
  module _ {left kept : ℕ} (some : 0 < left) (m : Missing sets off left kept) where
    abbrev x : ℕ
    x = lowest left

    pub least-low : x < 64
    least-low = has-low left x m.fits (lowest-has left some m.fits)

    -- the others are kept as before
    other : (y : ℕ) → eqb y x ≡ false → has kept y ≡ has off y && (has (without left x) y || eqb (get_or sets y 0) 0)
    other y e = m.still y ∙ ap (λ (b : Bool). has off y && (b || eqb (get_or sets y 0) 0)) (sym (without_other left x y (eqb-false y x e)))

    -- and so it is with k, which has of x what is told
    more : (k : ℕ) → ((y : ℕ) → eqb y x ≡ false → has k y ≡ has kept y) → has k x ≡ has off x && eqb (get_or sets x 0) 0 → Missing sets off (without left x) k
    more k same least = record {
      fits = without-fits left x m.fits;
      still = λ y. decided (eqb y x) (λ e. rw (eqb-true y x e, without-same left x) least) (λ e. same y e ∙ other y e);
    }

    -- open: the van has it
    pub missing-open : (get_or sets x 0 ≡ 0 → ⊥) → Missing sets off (without left x) (without kept x)
    missing-open n = more (without kept x) (λ y e. without_other kept x y (eqb-false y x e))
        (without-same kept x ∙ sym (rw (ne_eqb (get_or sets x 0) 0 n) (and-false (has off x))))

    pub missing-shut : get_or sets x 0 ≡ 0 → Missing sets off (without left x) kept
    missing-shut z = more kept (λ y e. refl) (m.still x ∙ rw (lowest-has left some m.fits, eq-eqb (get_or sets x 0) 0 z) refl)

-- all are looked at
pub missing-all : (members : ℕ) (route : List ℕ) (stops : ℕ) (sets : List ℕ) {word kept : ℕ} → word ≡ word_of stops route → word < 2 ^ 64 → Nodes 64 stops route
    → Missing sets (minus members word) 0 kept → (marks must y : ℕ) → y < 64 → has kept y ≡ has members y && not (has_ward (board route stops sets marks must) y)
unfolding has_ward set_of
missing-all members route stops sets {word} {kept} e fits n m marks must y l =
    m.still y ∙ ap (λ (b : Bool). has (minus members word) y && (b || eqb (get_or sets y 0) 0)) (has-none y)
    ∙ ap (λ (b : Bool). b && eqb (get_or sets y 0) 0) (has-minus members word y fits l ∙ ap (λ (b : Bool). has members y && not b) on)
    ∙ turn (has members y) (on_route (board route stops sets marks must) y) (eqb (get_or sets y 0) 0)
  where
    on : has word y ≡ on_route (board route stops sets marks must) y
    on = ap (λ (w : ℕ). has w y) e ∙ on_word (board route stops sets marks must) y l (omega (arith, n.1, n.2))

    turn : (a b c : Bool) → (a && not b) && c ≡ a && not (b || not c)
    turn true true c = refl
    turn true false true = refl
    turn true false false = refl
    turn false b c = refl

-- ---- what all vans so far miss

-- the marks "must go somewhere" of a fleet that none of the first j vans has
abbrev pub Unserved : Fleet → ℕ → ℕ → Type 0
Unserved f j left = (y : ℕ) → y < 64 → has left y ≡ has (state_in f 0).must y && not (any_below j (λ k. has_ward (board_in f k) y))

pub unserved-none : (f : Fleet) {left : ℕ} → left ≡ (state_in f 0).must → Unserved f 0 left
unfolding any_below
unserved-none f e y l = ap (λ (w : ℕ). has w y) e ∙ sym (and-true (has (state_in f 0).must y))

pub unserved-more : (f : Fleet) (j left less : ℕ) → Unserved f j left → ((y : ℕ) → y < 64 → has less y ≡ has left y && not (has_ward (board_in f j) y)) → Unserved f (j + 1) less
unserved-more f j left less u h y l =
    h y l ∙ rw (u y l, any_next j (λ k. has_ward (board_in f k) y)) (turn (has (state_in f 0).must y) (any_below j (λ k. has_ward (board_in f k) y)) (has_ward (board_in f j) y))
  where
    turn : (a b c : Bool) → (a && not b) && not c ≡ a && not (b || c)
    turn true true c = refl
    turn true false c = refl
    turn false b c = refl

-- none is left
pub served-all : (f : Fleet) (j v : ℕ) {left : ℕ} → Unserved f j left → j ≤ v → left ≡ 0 → true ≡ all_served v f
unfolding all_served
served-all f j v u h z = sym (below-make 64 _ (λ y l. decided (has (state_in f 0).must y)
    (λ m. rw m (decided (any_below j (λ k. has_ward (board_in f k) y))
    (λ a. T→true _ (any-below-e j (λ k. has_ward (board_in f k) y) (λ i g t. any-below-i v i (λ k. has_ward (board_in f k) y) (omega arith) t) (true→T _ a)))
    (λ a. absurd (false-true (sym (has-none y) ∙ ap (λ (w : ℕ). has w y) (sym z) ∙ u y l ∙ rw (m, a) refl)))))
    (λ m. rw m refl)))

-- one is left when every van was asked
served-not : (f : Fleet) (v : ℕ) {left : ℕ} → Unserved f v left → 0 < left → left < 2 ^ 64 → false ≡ all_served v f
unfolding all_served
served-not f v {left} u some fits =
    let y = lowest left in
    let h = lowest-has left some fits in
    let l = has-low left y fits h in
    sym (below_fails 64 y _ l (missed (has (state_in f 0).must y) (any_below v (λ k. has_ward (board_in f k) y)) (sym (u y l) ∙ h)))
  where
    missed : (a b : Bool) → a && not b ≡ true → not a || b ≡ false
    missed true true e = absurd (false-true e)
    missed true false e = refl
    missed false b e = absurd (false-true e)

-- whether one is left then
pub served-end : (f : Fleet) (v : ℕ) {left : ℕ} → Unserved f v left → left < 2 ^ 64 → eqb left 0 ≡ all_served v f
served-end f v {left} u fits =
    decided (eqb left 0)
    (λ e. e ∙ served-all f v v u (omega arith) (eqb-true left 0 e))
    (λ e. e ∙ served-not f v u (omega (arith, eqb-false left 0 e)) fits)

-- what is asked of the rows for it
pub serving : {sheet : List ℕ} {at : Layout} {routes sets figures : List (List ℕ)} → ReadyAll sheet at routes sets figures
    → ((at.vans ≤ most_vans) × Figured figures) × ((j : ℕ) → j < at.vans → Nodes 64 (figures_in (get_or figures j [])).stops (get_or routes j []))
serving {sheet} {routes = routes} {sets} {figures} r = (
  (omega (arith, r.laid.vans, r.laid.fine.vans-high), r.figured),
  λ j h.
      let s = sound-nodes (n_of sheet) (row_board routes sets figures j) (r.each j (omega (arith, h, r.laid.vans))) in
      (omega arith, s.1, s.2, λ i l. omega (arith, s.0, s.3 i l)),
)
