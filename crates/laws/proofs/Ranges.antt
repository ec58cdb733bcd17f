-- What `all` and `any` answer over the numbers below one: the test of every number, and of some.
use Rattle.std.proofs.Common.{◌≡◌, ◌∙◌, ◌+◌, Bool, true, false, ◌&&◌, ◌||◌, ℕ, zero, suc, sym, add-one, arith}
use Rattle.std.specs.List.{list_all, list_any, range_with_len}
use mathlib.Core.Bool.{and_assoc, and-true, or-false, or_assoc}
use Rattle.std.specs.Prelude.{List, Option}
use Rattle.std.specs.Fn.{Called}
use Rattle.std.specs.List.{FoldsTo}
use Rattle.std.specs.Iterator.{YieldsThen}
use Rattle.std.specs.Option.{MatchOption}
use Rattle.std.specs.declared.ops.Range.{Range}
use Rattle.std.proofs.iter.Yields.{nat_range_steps}
use Rattle.std.proofs.lemmas.Iterator.{YieldsList-from_range}
use Rattle.std.proofs.lemmas.Iterator.Search.{all_from_yields_List, any_from_yields_List}
use denote.Param.Members.{Mut}
use Rattle.laws.specs.Basic.{all_below, any_below}

-- what is asked from a on, where the tests below a are known
all-from : (test : ℕ → Bool) (a b n : ℕ) → b ≡ a + n → (all_below a test && list_all test (range_with_len a n)) ≡ all_below b test
unfolding all_below
all-from test a b zero e =
    let same : b ≡ a = omega arith in
    rw same (and-true (all_below a test))
all-from test a b (suc n) e = rw add-one (sym (and_assoc (all_below a test) (test a) _) ∙ all-from test (suc a) b n (omega arith))

any-from : (test : ℕ → Bool) (a b n : ℕ) → b ≡ a + n → (any_below a test || list_any test (range_with_len a n)) ≡ any_below b test
unfolding any_below
any-from test a b zero e =
    let same : b ≡ a = omega arith in
    rw same (or-false (any_below a test))
any-from test a b (suc n) e = rw add-one (sym (or_assoc (any_below a test) (test a) _) ∙ any-from test (suc a) b n (omega arith))

pub all_of_range : (n : ℕ) (test : ℕ → Bool) → list_all test (range_with_len 0 n) ≡ all_below n test
unfolding all_below
all_of_range n test = all-from test 0 n n (omega arith)

pub any_of_range : (n : ℕ) (test : ℕ → Bool) → list_any test (range_with_len 0 n) ≡ any_below n test
unfolding any_below
any_of_range n test = any-from test 0 n n (omega arith)

-- ---- what the calls themselves answer; the closure is a test, and stays as it is
pub all_over_range : {F : Type 0} {g : Mut F (ℕ × Unit {0}) Bool} {s u : Range ℕ} {f : F} (n : ℕ) (test : ℕ → Bool) {r : Bool}
    → (xs : List ℕ) × (o : Option ℕ) × (j : F) × YieldsThen nat_range_steps s xs o u × FoldsTo (λ p x q. Called g p (x, tt) true q) f xs j
    × MatchOption o (r ≡ true) (λ x. (r ≡ false) × ((h : F) × Called g j (x, tt) false h))
    → s ≡ record { start = 0; end = n }
    → ((x : ℕ) (b : Bool) (q : F) → Called g f (x, tt) b q → (q ≡ f) × (b ≡ test x))
    → r ≡ all_below n test
all_over_range n test h e k = all_from_yields_List test _ _ _ h (YieldsList-from_range 0 n n e (omega arith)) k ∙ all_of_range n test

pub any_over_range : {F : Type 0} {g : Mut F (ℕ × Unit {0}) Bool} {s u : Range ℕ} {f : F} (n : ℕ) (test : ℕ → Bool) {r : Bool}
    → (xs : List ℕ) × (o : Option ℕ) × (j : F) × YieldsThen nat_range_steps s xs o u × FoldsTo (λ p x q. Called g p (x, tt) false q) f xs j
    × MatchOption o (r ≡ false) (λ x. (r ≡ true) × ((h : F) × Called g j (x, tt) true h))
    → s ≡ record { start = 0; end = n }
    → ((x : ℕ) (b : Bool) (q : F) → Called g f (x, tt) b q → (q ≡ f) × (b ≡ test x))
    → r ≡ any_below n test
any_over_range n test h e k = any_from_yields_List test _ _ _ h (YieldsList-from_range 0 n n e (omega arith)) k ∙ any_of_range n test
