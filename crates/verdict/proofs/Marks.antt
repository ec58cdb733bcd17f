-- The members of a set one after the other, the least first: each is open.
use mathlib.Core.Path.{◌≡◌, sym, ap, ◌∙◌}
use Prim.Native.Nat.{ℕ, ◌^◌, ◌<◌}
use mathlib.Core.Bool.{Bool, true, false}
use mathlib.Core.List.{List}
use lib.Dec.{eqb}
use borrow.Author.Tests.{eqb-true, eqb-false}
use Rattle.laws.proofs.Logic.{decided}
use Rattle.laws.proofs.Below.{below_fails, below-make}
use Rattle.laws.specs.Basic.{all_below}
use Rattle.bits.specs.Places.{has, without, lowest}
use Rattle.bits.proofs.Members.{has-none, has-low, without-fits, without-part, without_other}
use Rattle.bits.proofs.Masks.{lowest-has}
use Rattle.verdict.specs.Verdict.{opened, member_open}

-- of the members, those that are not left are open
pub record Asked (ws : List ℕ) (marks left : ℕ) : Type 0 where
  pub fits : left < 2 ^ 64
  pub part : (x : ℕ) → has left x ≡ true → has marks x ≡ true
  pub stand : (x : ℕ) → has marks x ≡ true → has left x ≡ false → opened ws x ≡ true

module _ {ws : List ℕ} {marks : ℕ} where
  -- the least of those that are left, x, is asked next, and b is the answer
  module _ {left x : ℕ} {b : Bool} (some : 0 < left) (a : Asked ws marks left) (least : x ≡ lowest left) (answer : b ≡ opened ws x) where
    is : opened ws (lowest left) ≡ b
    is = ap (opened ws) (sym least) ∙ sym answer

    pub asked-more : b ≡ true → Asked ws marks (without left (lowest left))
    asked-more t = record {
      fits = without-fits left (lowest left) a.fits;
      part = λ y h. a.part y (without-part left (lowest left) y h);
      stand = λ y h n. decided (eqb y (lowest left)) (λ e. rw (eqb-true y (lowest left) e) (is ∙ t))
          (λ e. a.stand y h (sym (without_other left (lowest left) y (eqb-false y (lowest left) e)) ∙ n));
    }

    pub asked-stops : b ≡ false → false ≡ all_below 64 (member_open ws marks)
    unfolding member_open
    asked-stops t =
        let h = lowest-has left some a.fits in
        sym (below_fails 64 (lowest left) (member_open ws marks) (has-low left (lowest left) a.fits h) (rw (a.part (lowest left) h, is) t))

  -- none is left
  pub asked-all : Asked ws marks 0 → true ≡ all_below 64 (member_open ws marks)
  unfolding member_open
  asked-all a =
      sym (below-make 64 (member_open ws marks) (λ x l. decided (has marks x) (λ h. rw (h, a.stand x h (has-none x))) (λ h. rw h)))
