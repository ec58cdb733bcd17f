-- The fresh state is in form; code that makes it.
use mathlib.Core.Path.{◌≡◌, refl, ap, sym, ◌∙◌}
use mathlib.Core.Bool.{Bool, true, false, cond, ◌&&◌}
use mathlib.Core.List.{List}
use Prim.Native.Nat.{ℕ, ◌+◌, ◌-◌, ◌<◌, ◌≤◌, ◌^◌}
use native.Mathlib.Omega.{arith}
use lib.ListN.{replicate, set, get_or, length-set, get_or-replicate}
use lib.Seq.{get_or-set_same, get_or-set_other}
use lib.Dec.{ltb, eqb}
use borrow.Author.Tests.{ltb-false, eqb-true, eqb-false}
use Rattle.laws.proofs.Logic.{decided, by-test}
use Rattle.laws.proofs.Table.{length-tab, get_or-tab}
use Rattle.laws.proofs.Turned.{tab-same, Turned, turned_none, turned_more, turned-skip, turned-all}
use Rattle.bits.specs.Places.{within}
use Rattle.bits.proofs.Members.{has-none, has_first, within-make, within_none}
use Rattle.rules.specs.Day.{is_inner}
use Rattle.rules.proofs.Inner.{is-inner, inner-is, inner-not}
use Rattle.board.specs.Board.{state_of, Board, board, on_route, legs_of, set_of}
use Rattle.board.specs.Fresh.{fresh_sets, fresh_state, fresh_set}
use Rattle.board.specs.Form.{set_ok, only_inner, mark_ok, must_ok, in_form}
use Rattle.board.proofs.FormLaws.{off-make, leg-make, in-form-of}
use Rattle.board.specs.Held.{Held, Routed, FormedBoard, Wide, InForm}
use Rattle.board.specs.declared.State.{State}

abbrev pub fresh_board : ℕ → (ℕ → Bool) → Board
fresh_board n may = board (set (replicate 64 0) 1 (n - 1)) 2 (fresh_sets n may) 0 0

abbrev pub fresh_made : ℕ → (ℕ → Bool) → State
fresh_made n may = state_of (set (replicate 64 0) 1 (n - 1)) 2 (fresh_sets n may) 0 0 (replicate 64 0) 0 0

pub fresh-is : (n : ℕ) (may : ℕ → Bool) → fresh_state n may ≡ fresh_made n may
unfolding fresh_state
fresh-is n may = refl

module _ (n : ℕ) (may : ℕ → Bool) (two : 2 ≤ n) (small : n ≤ 64) where
  one : get_or (set (replicate 64 0) 1 (n - 1)) 1 0 ≡ n - 1
  one = get_or-set_same (replicate 64 0) 1 (n - 1) 0 (omega arith)

  rest : (i : ℕ) → i < 64 → (i ≡ 1 → ⊥) → get_or (set (replicate 64 0) 1 (n - 1)) i 0 ≡ 0
  rest i l d = get_or-set_other (replicate 64 0) 1 i (n - 1) 0 d ∙ get_or-replicate 64 i 0 0 l

  pub fresh-wide : Wide (fresh_board n may)
  unfolding fresh_sets
  fresh-wide = record { route = length-set (replicate 64 0) 1 (n - 1); sets = length-tab 64 (fresh_set n may) }

  pub fresh-routed : Routed n (fresh_board n may)
  fresh-routed = record {
    two = omega arith;
    most = two;
    start = rest 0 (omega arith) (λ e. omega arith);
    end = one;
    below = λ i h. decided (eqb i 1) (λ e. rw (eqb-true i 1 e, one) (omega arith)) (λ e. rw (rest i (omega arith) (eqb-false i 1 e)) (omega arith));
    once = λ i j h g q.
        let a : i ≡ 1 = omega arith in
        let z : j ≡ 0 = omega arith in
        omega (arith, sym (rest 0 (omega arith) (λ e. omega arith)) ∙ ap (λ (t : ℕ). get_or (set (replicate 64 0) 1 (n - 1)) t 0) (sym z) ∙ q ∙ ap (λ (t : ℕ). get_or (set (replicate 64 0) 1 (n - 1)) t 0) a ∙ one);
    past = λ i h l. rest i l (λ e. omega arith);
  }

  pub fresh_set_lem : (y : ℕ) → y < 64 → set_of (fresh_board n may) y ≡ fresh_set n may y
  unfolding set_of fresh_sets
  fresh_set_lem y l = get_or-tab 64 (fresh_set n may) 0 y l

  pub fresh-off : (y : ℕ) → is_inner n y ≡ true → on_route (fresh_board n may) y ≡ false
  fresh-off y e =
      let a = is-inner n y e in
      off-make n (fresh_board n may) small fresh-wide fresh-routed y (λ i h q.
      decided (eqb i 1) (λ z. omega (arith, sym one ∙ ap (λ (t : ℕ). get_or (set (replicate 64 0) 1 (n - 1)) t 0) (sym (eqb-true i 1 z)) ∙ q, a.1))
      (λ z. omega (arith, sym (rest i (omega arith) (eqb-false i 1 z)) ∙ q, a.0)))

  fresh-leg : within 1 (legs_of (fresh_board n may)) ≡ true
  fresh-leg = within-make 1 (legs_of (fresh_board n may)) (λ p l h.
      let z : p ≡ 0 = eqb-true p 0 (sym (has_first p) ∙ h) in
      leg-make n (fresh_board n may) small fresh-wide fresh-routed p 0 (omega arith) (rest 0 (omega arith) (λ e. omega arith) ∙ sym z))

  fresh-sets : (y : ℕ) → y < 64 → set_ok n (fresh_board n may) y ≡ true
  unfolding set_ok fresh_set
  fresh-sets y l =
      decided (is_inner n y)
      (λ e. rw (fresh_set_lem y l, e, fresh-off y e) (by-test (λ b. within (cond b 1 0) (legs_of (fresh_board n may)) ≡ true) (may y) (λ t. fresh-leg) (λ t. within_none _)))
      (λ e. rw (fresh_set_lem y l, e))

  pub fresh-formed : FormedBoard n (fresh_board n may)
  unfolding mark_ok must_ok only_inner
  fresh-formed = record { route = fresh-routed; sets = fresh-sets; marks = λ y l. rw (has-none y); must = λ y l. rw (has-none y) }

  pub fresh-inform : InForm n (fresh_made n may)
  fresh-inform = record {
    board = fresh-formed;
    levels = record { most = omega arith; held = λ i h. absurd (omega arith); rise = λ i h. absurd (omega arith); past = λ i h l. get_or-replicate 64 i 0 0 l };
  }

  fresh-word : (y : ℕ) → y < 64 → set_of (fresh_board n may) y < 2 ^ 64
  unfolding fresh_set
  fresh-word y l = rw (fresh_set_lem y l) (go (is_inner n y && may y))
    where
      go : (t : Bool) → cond t 1 0 < 2 ^ 64
      go true = omega arith
      go false = omega arith

  pub fresh-held : Held (fresh_made n may)
  fresh-held = record { wide = fresh-wide; levels = refl; words = record { fits = fresh-word; marks = omega arith; must = omega arith } }

-- the fresh state is in form
pub fresh-in-form : (n : ℕ) (may : ℕ → Bool) → 2 ≤ n → n ≤ 64 → in_form n (fresh_state n may) ≡ true
fresh-in-form n may two small = rw (fresh-is n may) (in-form-of n (fresh_made n may) small (fresh-wide n may two small) (fresh-inform n may two small))

-- ---- code that fills in the wards' sets, one after another, where all sets are empty

module _ (n : ℕ) (may : ℕ → Bool) where
  abbrev pub Filling : ℕ → List ℕ → Type 0
  Filling y sets = Turned 64 (fresh_set n may) (λ k. 0) 0 y sets

  pub filling-none : Filling 1 (replicate 64 0)
  unfolding fresh_set is_inner
  filling-none = turned-skip (turned_none 64 (fresh_set n may) (λ k. 0) 0 (replicate 64 0) refl (λ k h. get_or-replicate 64 k 0 0 h)) refl

  pub filling-more : {y w : ℕ} {sets : List ℕ} → Filling y sets → 1 ≤ y → y + 1 < n → n ≤ 64 → w ≡ cond (may y) 1 0 → Filling (y + 1) (set sets y w)
  unfolding fresh_set
  filling-more {y} {w} f h l small e = turned_more w f (omega arith) (rw (inner-is n y h l) e)

  pub filling-all : {y : ℕ} {sets : List ℕ} → Filling y sets → n - 1 ≤ y → sets ≡ fresh_sets n may
  unfolding fresh_sets fresh_set
  filling-all {y} f h = turned-all f ∙ tab-same 64 (λ k. cond (ltb k y) (fresh_set n may k) 0) (fresh_set n may)
      (λ k l. decided (ltb k y) (λ t. rw t) (λ t. rw (t, inner-not n k (omega (arith, h, ltb-false k y t)))))

-- a van that may serve the same wards has the same fresh state
pub fresh-alike : (n : ℕ) (may may' : ℕ → Bool) → ((y : ℕ) → is_inner n y ≡ true → may y ≡ may' y) → fresh_state n may ≡ fresh_state n may'
unfolding fresh_state fresh_sets fresh_set
fresh-alike n may may' same = rw (tab-same 64 (fresh_set n may) (fresh_set n may') (λ y l. ap (λ (b : Bool). cond b 1 0) (pair y))) refl
  where
    pair : (y : ℕ) → is_inner n y && may y ≡ is_inner n y && may' y
    pair y = decided (is_inner n y) (λ e. rw e (same y e)) (λ e. rw e)
