-- The tests of the form as the code makes them: the or of every number, and a van's three tests.
use mathlib.Core.Path.{◌≡◌, refl, sym, ◌∙◌}
use mathlib.Core.Bool.{Bool, true, false, ◌&&◌, ◌||◌, and-false, and-true}
use Prim.Native.Nat.{ℕ, ◌+◌}
use native.Mathlib.Numerals.{add-one}
use lib.Bits.{bit_or}
use lib.ListN.{get_or}
use lib.Dec.{eqb}
use Rattle.laws.specs.Basic.{all_below}
use Rattle.laws.proofs.Logic.{T-ext, T→true, true→T}
use Rattle.bits.proofs.Masks.{or-none}
use Rattle.board.specs.Form.{in_form}
use Rattle.board.specs.declared.State.{State}
use Rattle.fleet.specs.Form.{van_fits}

-- entry i of each array is 0
abbrev pub entry_none : State → ℕ → Bool
entry_none s i = eqb (get_or s.route i 0) 0 && (eqb (get_or s.sets i 0) 0 && eqb (get_or s.levels i 0) 0)

-- the numbers beside the arrays are 0
abbrev pub figures_none : State → Bool
figures_none s = eqb s.stops 0 && (eqb s.marks 0 && (eqb s.must 0 && (eqb s.depth 0 && eqb s.records 0)))

pub idle-starts : (s : State) → eqb (bit_or (bit_or (bit_or (bit_or s.stops s.depth) s.records) s.marks) s.must) 0 ≡ figures_none s
idle-starts s =
    rw (
      or-none (bit_or (bit_or (bit_or s.stops s.depth) s.records) s.marks) s.must,
      or-none (bit_or (bit_or s.stops s.depth) s.records) s.marks,
      or-none (bit_or s.stops s.depth) s.records,
      or-none s.stops s.depth,
    )
    (go (eqb s.stops 0) (eqb s.depth 0) (eqb s.records 0) (eqb s.marks 0) (eqb s.must 0))
  where
    go : (a d r m u : Bool) → (((a && d) && r) && m) && u ≡ a && (m && (u && (d && r)))
    go false d r m u = refl
    go true true true true u = sym (and-true u)
    go true true true false u = refl
    go true true false true u = sym (and-false u)
    go true true false false u = refl
    go true false r true u = sym (and-false u)
    go true false r false u = refl

pub idle-goes : (s : State) (i all : ℕ) (b : Bool) → eqb all 0 ≡ b && all_below i (entry_none s)
    → eqb (bit_or all (bit_or (bit_or (get_or s.route i 0) (get_or s.levels i 0)) (get_or s.sets i 0))) 0 ≡ b && all_below (i + 1) (entry_none s)
unfolding all_below
idle-goes s i all b e =
    let r = get_or s.route i 0 in
    let l = get_or s.levels i 0 in
    let w = get_or s.sets i 0 in
    rw (or-none all (bit_or (bit_or r l) w), or-none (bit_or r l) w, or-none r l, e, add-one)
    (go b (all_below i (entry_none s)) (eqb r 0) (eqb l 0) (eqb w 0))
  where
    go : (b a r l w : Bool) → (b && a) && ((r && l) && w) ≡ b && (a && (r && (w && l)))
    go false a r l w = refl
    go true false r l w = refl
    go true true false l w = refl
    go true true true true w = sym (and-true w)
    go true true true false w = sym (and-false w)

pub idle-done : (s : State) {b : Bool} → b ≡ figures_none s && all_below 64 (entry_none s) → b ≡ all_below 64 (entry_none s) && figures_none s
idle-done s {b} e = e ∙ turn (figures_none s) (all_below 64 (entry_none s))
  where
    turn : (a b : Bool) → a && b ≡ b && a
    turn true true = refl
    turn true false = refl
    turn false true = refl
    turn false false = refl

-- ---- a van's tests, of which the form is made last

module _ (n : ℕ) (s : State) (depth : ℕ) (first : Bool) where
  pub depth-fails : eqb s.depth depth ≡ false → van_fits n s depth first ≡ false
  unfolding van_fits
  depth-fails e = rw e (and-false (in_form n s))

  pub must-fails : first || eqb s.must 0 ≡ false → van_fits n s depth first ≡ false
  unfolding van_fits
  must-fails e = rw (e, and-false (eqb s.depth depth)) (and-false (in_form n s))

  pub form-decides : eqb s.depth depth ≡ true → first || eqb s.must 0 ≡ true → van_fits n s depth first ≡ in_form n s
  unfolding van_fits
  form-decides e h = rw (e, h) (and-true (in_form n s))

-- two tests that pass together are one
pub together : (a b : Bool) → (a ≡ true → b ≡ true) → (b ≡ true → a ≡ true) → a ≡ b
together a b f g = T-ext a b (λ t. true→T b (f (T→true a t))) (λ t. true→T a (g (T→true b t)))
