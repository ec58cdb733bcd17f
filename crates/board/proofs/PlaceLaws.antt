-- What each change opens and closes, place by place (01, Steps; 02, No. 1).
use mathlib.Core.Path.{◌≡◌, refl, ap, sym, ◌∙◌}
use mathlib.Core.Bool.{Bool, true, false, cond, not, ◌&&◌, ◌||◌, and-false, and-true, or_comm}
use Prim.Native.Nat.{ℕ, ◌<◌, ◌≤◌}
use native.Mathlib.Omega.{arith}
use lib.ListN.{length, get_or-eq_default}
use lib.Dec.{eqb, ltb}
use borrow.Author.Tests.{eqb-true, eqb-false, eq-eqb, ltb-true, ltb-false}
use Rattle.laws.proofs.Logic.{decided, eqb-turn}
use Rattle.bits.specs.Places.{has, with, without}
use Rattle.bits.proofs.Members.{has-none, with-same, with-other, has-with, without-same, without_other}
use Rattle.rules.proofs.Inner.{is-inner}
use Rattle.board.specs.Board.{Board, set_of, open_at}
use Rattle.board.specs.Change.{heir, put_set, placed_after, marked, obliged}
use Rattle.board.proofs.FormLaws.{no-leg}
use Rattle.board.specs.Held.{FormedBoard, Wide, Splits}
use Rattle.board.proofs.Keep.{put_same, put_other, placed-set, placed-none, heir-yes, heir-no, placed-wide}

-- past the sets nothing is open
pub open-past : (b : Board) (y q : ℕ) → length b.sets ≤ y → open_at b y q ≡ false
unfolding open_at set_of
open-past b y q h = ap (λ (w : ℕ). has w q) (get_or-eq_default b.sets 0 h) ∙ has-none q

-- step 2 closes the one place
pub open-closed : (b : Board) (p x y q : ℕ) → x < length b.sets → open_at (put_set b x (without (set_of b x) p)) y q ≡ open_at b y q && not (eqb y x && eqb q p)
unfolding open_at
open-closed b p x y q l =
    decided (eqb y x)
    (λ e. let z = eqb-true y x e in
    rw (z, put_same b x (without (set_of b x) p) l, eq-eqb x x refl)
    (decided (eqb q p)
    (λ d. rw (eqb-true q p d, without-same (set_of b x) p, eq-eqb p p refl) (sym (and-false (has (set_of b x) p))))
    (λ d. rw (without_other (set_of b x) p q (eqb-false q p d), d) (sym (and-true (has (set_of b x) q))))))
    (λ e. rw (put_other b x (without (set_of b x) p) y (eqb-false y x e), e) (sym (and-true (has (set_of b y) q))))

-- step 3 closes all of x's
pub open-excluded : (b : Board) (x y q : ℕ) → x < length b.sets → open_at (put_set b x 0) y q ≡ open_at b y q && not (eqb y x)
unfolding open_at
open-excluded b x y q l =
    decided (eqb y x)
    (λ e. let z = eqb-true y x e in rw (z, put_same b x 0 l, has-none q, eq-eqb x x refl) (sym (and-false (has (set_of b x) q))))
    (λ e. rw (put_other b x 0 y (eqb-false y x e), e) (sym (and-true (has (set_of b y) q))))

-- x put into a set, and no other
with-adds : (w x y : ℕ) → x < 64 → has (with w x) y ≡ has w y || eqb y x
with-adds w x y l = has-with w x y l ∙ or_comm (eqb x y) (has w y) ∙ ap (λ (b : Bool). has w y || b) (eqb-turn x y)

-- step 4 marks x and no other
pub mark-marked : (b : Board) (x y : ℕ) → x < 64 → has (marked b x).marks y ≡ has b.marks y || eqb y x
unfolding marked
mark-marked b x y l = with-adds b.marks x y l

-- step 8 marks x and no other
pub must-obliged : (b : Board) (x y : ℕ) → x < 64 → has (obliged b x).must y ≡ has b.must y || eqb y x
unfolding obliged
must-obliged b x y l = with-adds b.must x y l

-- step 1: x has no place left; each other node has the old places, and leg x where it had leg p
pub open-placed : (n : ℕ) (b : Board) (p x : ℕ) → n ≤ 64 → Wide b → FormedBoard n b → Splits n b p x → (y q : ℕ)
    → open_at (placed_after b p x) y q ≡ not (eqb y x) && cond (eqb q x) (open_at b y p) (open_at b y q)
unfolding open_at
open-placed n b p x small wide f c y q =
    decided (eqb y x)
    (λ e. rw (eqb-true y x e, placed-none n b p x small wide f c, eq-eqb x x refl) (has-none q))
    (λ e. let d = eqb-false y x e in
    decided (ltb y 64)
    (λ l. rw (placed-set n b p x small wide f c y (ltb-true y 64 l) d, e) (heir-has (set_of b y) (no-leg n b small wide f x y (omega (arith, (is-inner n x c.node).1)) c.off (ltb-true y 64 l))))
    (λ l. rw (e, past y q (ltb-false y 64 l), past' y p (ltb-false y 64 l), past' y q (ltb-false y 64 l)) (sym (same (eqb q x)))))
  where
    same : (t : Bool) → cond t false false ≡ false
    same true = refl
    same false = refl

    past : (y q : ℕ) → 64 ≤ y → has (set_of (placed_after b p x) y) q ≡ false
    past y q h = open-past (placed_after b p x) y q (omega (arith, h, (placed-wide n b p x small wide f c).sets))

    past' : (y q : ℕ) → 64 ≤ y → has (set_of b y) q ≡ false
    past' y q h = open-past b y q (omega (arith, h, wide.sets))

    heir-has : (w : ℕ) → has w x ≡ false → has (heir p x w) q ≡ cond (eqb q x) (has w p) (has w q)
    heir-has w h =
        decided (has w p)
        (λ k. rw (heir-yes p x w k)
        (decided (eqb q x) (λ z. rw (eqb-true q x z, eq-eqb x x refl, k) (with-same w x (omega (arith, (is-inner n x c.node).1)))) (λ z. rw z (with-other w x q (eqb-false q x z)))))
        (λ k. rw (heir-no p x w k) (decided (eqb q x) (λ z. rw (eqb-true q x z, eq-eqb x x refl, k) h) (λ z. rw z refl)))
