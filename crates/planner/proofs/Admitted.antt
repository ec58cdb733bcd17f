-- From the fresh fleet, whatever steps were accepted, a van has no ward that does not admit it: neither open nor on its route.
use Prim.Native.Nat.{ℕ, ◌^◌, ◌≤◌, ◌<◌}
use mathlib.Core.Path.{◌≡◌, sym, ap, ◌∙◌}
use mathlib.Core.Bool.{Bool, true, ◌&&◌}
use mathlib.Core.List.{List}
use mathlib.Core.Logic.{⊎_elim}
use native.Mathlib.Omega.{arith}
use lib.Dec.{eqb}
use borrow.Author.Tests.{eqb-true, eqb-false}
use Rattle.laws.specs.Basic.{mem}
use Rattle.laws.proofs.Logic.{decided, and-true, T→true, true→T, or-e}
use Rattle.laws.proofs.Lists.{any-e}
use Rattle.bits.specs.Places.{has, within}
use Rattle.bits.proofs.Members.{false-true, has-low, within_has}
use Rattle.sheet.specs.Section.{n_of}
use Rattle.day.specs.Tell.{day_of, admitted}
use Rattle.day.proofs.RefuseLaws.{call-fine}
use Rattle.rules.specs.Day.{Day, inner, is_inner}
use Rattle.rules.specs.Plan.{Plan}
use Rattle.rules.specs.Verdict.{has_place}
use Rattle.rules.proofs.Inner.{is-inner, inner-mem}
use Rattle.rules.proofs.Placing.{split-old}
use Rattle.board.specs.Board.{Board, route_of, on_route, set_of, open_at}
use Rattle.board.specs.Change.{put_set, placed_after, marked, obliged}
use Rattle.board.specs.Held.{Sound, Splits}
use Rattle.board.proofs.FreshForm.{fresh_board, fresh-off, fresh-wide, fresh-formed}
use Rattle.board.proofs.Keep.{put_same, put_other, placed-others}
use Rattle.board.proofs.PlaceLaws.{open-placed}
use Rattle.stands.proofs.Fresh.{fresh-stands}
use Rattle.records.specs.Undo.{strictly}
use Rattle.trail.proofs.Small.{Small, shrinks, places, marks, obliges}
use Rattle.trail.proofs.Spells.{Spells, none, more, spells-sound}
use Rattle.fleet.specs.Fleet.{board_in}
use Rattle.planner.specs.Promises.{plan_at, OnlyAdmitted}
use Rattle.planner.proofs.Courses.{reached-all}

-- a van has only wards that it may serve
record Serves (n : ℕ) (may : ℕ → Bool) (b : Board) : Type 0 where
  opened : (y q : ℕ) → open_at b y q ≡ true → may y ≡ true
  on : (y : ℕ) → is_inner n y ≡ true → on_route b y ≡ true → may y ≡ true

module _ (n : ℕ) (may : ℕ → Bool) where
  -- a set that shrinks opens nothing
  shrunk-serves : (b : Board) (x v : ℕ) → Sound n b → is_inner n x ≡ true → strictly v (set_of b x) ≡ true → v < 2 ^ 64 → Serves n may b → Serves n may (put_set b x v)
  unfolding open_at strictly put_set on_route route_of
  shrunk-serves b x v s i t fits h = record {
    opened = λ y q o. decided (eqb y x)
        (λ e. let z = eqb-true y x e in
        let low : x < 64 = omega (arith, (is-inner n x i).1, s.small) in
        let now : has v q ≡ true = ap (λ (w : ℕ). has w q) (sym (put_same b x v (omega (arith, low, s.wide.sets)))) ∙ (rw z at o) in
        rw z (h.opened x q (within_has v (set_of b x) (and-true (within v (set_of b x)) _ t).0 q (has-low v q fits now) now)))
        (λ e. h.opened y q (ap (λ (w : ℕ). has w q) (sym (put_other b x v y (eqb-false y x e))) ∙ o));
    on = h.on;
  }

  -- what is placed was open, and each half of the leg has what the leg had
  placed-serves : (b : Board) (p x : ℕ) → Sound n b → Splits n b p x → open_at b x p ≡ true → Serves n may b → Serves n may (placed_after b p x)
  placed-serves b p x s c o h = record {
    opened = λ y q t. let u = split-old p x (open_at b) y q (true→T _ (sym (open-placed n b p x s.small s.wide s.form c y q) ∙ t)) in h.opened y u.0 (T→true _ u.1);
    on = λ y i t. decided (eqb y x) (λ e. rw (eqb-true y x e) (h.opened x p o))
        (λ e. h.on y i (sym (placed-others n b p x s.small s.wide s.form c y (eqb-false y x e)) ∙ t));
  }

  small-serves : {b c : Board} {first second : ℕ} → Sound n b → Serves n may b → Small n b first second c → Serves n may c
  unfolding marked obliged open_at set_of on_route route_of
  small-serves {b} s h (shrinks x v f t fits _ _ e) = rw e (shrunk-serves b x v s f.node t fits h)
  small-serves {b} s h (places p x c o _ _ e) = rw e (placed-serves b p x s c o h)
  small-serves s h (marks x f m _ _ e) = rw e (record { opened = h.opened; on = h.on })
  small-serves s h (obliges x i m _ _ e) = rw e (record { opened = h.opened; on = h.on })

  spells-serves : {t : List ℕ} {b : Board} {k m : ℕ} {c : Board} → Sound n b → Serves n may b → Spells n t b k m c → Serves n may c
  spells-serves s h none = h
  spells-serves s h (more p q) = small-serves (spells-sound s p) (spells-serves s h p) q

-- the fresh board has no others
fresh-serves : (d : Day) (may : ℕ → Bool) → 2 ≤ d.n → d.n ≤ 64 → Serves d.n may (fresh_board d.n may)
fresh-serves d may two small = record {
  opened = λ y q o.
      let e = sym (ap (λ (a : Plan). a.places y q) (fresh-stands d may two small)) ∙ o in
      (and-true (mem y (inner d)) (may y) (and-true (mem y (inner d) && may y) (eqb q 0) e).0).1;
  on = λ y i o. absurd (false-true (sym (fresh-off d.n may two small y i) ∙ o));
}

pub only-admitted : OnlyAdmitted
unfolding on_route
only-admitted sheet f t t' z steps j x l i h =
    let fine = call-fine sheet z in
    let may = admitted sheet j in
    let sound : Sound (n_of sheet) (fresh_board (n_of sheet) may) = record { small = fine.n-high; wide = fresh-wide (n_of sheet) may fine.n-low fine.n-high; form = fresh-formed (n_of sheet) may fine.n-low fine.n-high } in
    let s : Serves (n_of sheet) may (board_in f j) =
    spells-serves (n_of sheet) may sound (fresh-serves (day_of sheet) may fine.n-low fine.n-high) ((reached-all sheet t z steps).each j l).spelled in
    true→T _ (⊎_elim
    (λ m. s.on x (inner-mem (n_of sheet) x ∙ T→true _ i) (T→true _ m))
    (any-e ((plan_at f j).places x) (plan_at f j).route (λ q k o. s.opened x q (T→true _ o)))
    (or-e (mem x (plan_at f j).route) (has_place (plan_at f j) x) h))
