use native.Mathlib.Omega.{arith}
use mathlib.Core.Path.{◌≡◌, refl, sym, ap, ◌∙◌}
use mathlib.Core.Bool.{not}
use mathlib.Core.List.{List, []}
use Prim.Native.Nat.{ℕ}
use lib.ListN.{get_or}
use lib.Dec.{eqb}
use Rattle.laws.specs.Basic.{sum_below, all_below}
use Rattle.laws.proofs.Sum.{sum-none, sum-next}
use Rattle.laws.proofs.Below.{below_none, flag-goes}
use Rattle.telling.specs.declared.Sums.{Sums}
use Rattle.telling.proofs.sum_up.Goals as goal

-- the sums of the first j vans
abbrev sums : List (List ℕ) → ℕ → Sums
sums told j = record {
  places = sum_below j (λ i. get_or (get_or told i []) 0 0);
  records = sum_below j (λ i. get_or (get_or told i []) 1 0);
  alive = all_below j (λ i. not (eqb (get_or (get_or told i []) 2 0) 0));
}

pub loop-j-init : goal.loop-j-init
loop-j-init c = record {
  few_places = omega arith;
  few_records = omega arith;
  places = sym (sum-none _);
  records = sym (sum-none _);
  alive = below_none _;
}

pub overflow_add-places : goal.overflow_add-places
overflow_add-places c = omega (arith, (c.requires.1 c.loop-j.j c.loop-j-test.true).0)

pub overflow_add-records : goal.overflow_add-records
overflow_add-records c = omega (arith, (c.requires.1 c.loop-j.j c.loop-j-test.true).1)

pub loop-j-preserved : goal.loop-j-preserved
loop-j-preserved c =
    let v = c.loop-j.invariant in
    let b = c.requires.1 c.loop-j.j c.loop-j-test.true in
    record {
      few_places = omega (arith, b.0);
      few_records = omega (arith, b.1);
      places = sum-next _ _ v.places refl;
      records = sum-next _ _ v.records refl;
      alive = flag-goes _ _ v.alive refl;
    }

pub returns : goal.returns
returns c =
    let v = c.loop-j.invariant in
    let e : c.loop-j.j ≡ c.args.v = omega arith in
    (λ u. record { places = v.places u; records = v.records u; alive = sym v.alive u }) ∙ ap (sums c.args.told.now) e
