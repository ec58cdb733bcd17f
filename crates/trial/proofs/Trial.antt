-- What a trial gives, by what its steps gave. That stepping back gives the caller's state is the planner's promise.
use Prim.Native.Nat.{ℕ, ◌<◌}
use mathlib.Core.Logic.{◌≢◌}
use mathlib.Core.Path.{◌≡◌, refl, sym, ap, ◌∙◌}
use mathlib.Core.Bool.{Bool, true, false, cond, not, ◌&&◌}
use mathlib.Core.List.{List}
use native.Mathlib.Omega.{arith}
use lib.Dec.{eqb}
use borrow.Author.Tests.{eqb-true, eqb-false, ne_eqb}
use Rattle.std.specs.Prelude.{Result, Ok, Err, is_ok}
use Rattle.std.specs.Result.{result_unwrap_or}
use Rattle.rules.specs.Numbers.{kinds, van_weight, step_said}
use Rattle.rules.specs.Refused.{number_in}
use Rattle.rules.specs.declared.Refusal.{Refusal}
use Rattle.rules.proofs.Refusals.{refuses}
use Rattle.sheet.specs.Section.{vans_of}
use Rattle.day.specs.Tell.{day_of, van_of}
use Rattle.day.proofs.RefuseLaws.{call-fine}
use Rattle.fleet.specs.Fleet.{HeldAll}
use Rattle.fleet.specs.declared.Fleet.{Fleet}
use Rattle.trail.specs.Steps.{rounds_of}
use Rattle.turns.specs.Together.{Turned, RanAll, acted_all}
use Rattle.acts.proofs.Moves.{act-all-moves}
use Rattle.planner.specs.Face.{Judged, step_of, judge_of, Judges}
use Rattle.planner.specs.Promises.{Took, Steps, none, then, depth_of, in_van_word}
use Rattle.planner.proofs.All.{promised}
use Rattle.planner.proofs.Answers.{acting, word-kind}
use Rattle.planner.proofs.Depths.{Shift, keeps, opens, drops, shift}
use Rattle.trial.specs.Tried.{good, tried_of}
use Rattle.laws.proofs.Logic.{decided}

-- a step of a kind that leaves the levels leaves their number
same-depth : (v kind : ℕ) {f f' : Fleet} → 0 < v → kind ≢ kinds.LEVEL → kind ≢ kinds.BACK → Shift v kind f f' → depth_of f' ≡ depth_of f
same-depth v kind some level back (keeps n e) = e 0 some
same-depth v kind some level back (opens q e) = absurd (level q)
same-depth v kind some level back (drops q e) = absurd (back q)

kept-depth : (sheet : List ℕ) (f : Fleet) (t : List ℕ) (i kind a b : ℕ) → kind < van_weight → kind ≢ kinds.LEVEL → kind ≢ kinds.BACK
    → {k : ℕ} {f' : Fleet} {t' : List ℕ} → Took sheet f t (in_van_word i kind) a b k f' t' → depth_of f' ≡ depth_of f
kept-depth sheet f t i kind a b low level back e =
    let u = acting sheet f t (in_van_word i kind) a b e in
    let fine = call-fine sheet u.0 in
    let m = (act-all-moves (van_of sheet) (day_of sheet) (vans_of sheet) f t (step_said (in_van_word i kind) a b) fine.vans-low fine.vans-high fine.n-high u.1 u.2).0 in
    let q = word-kind i kind low in
    same-depth (vans_of sheet) _ fine.vans-low (λ z. level (sym q ∙ z)) (λ z. back (sym q ∙ z)) (shift m)

-- what a step gives, refused or not
abbrev done : Result ℕ Refusal → Fleet → Turned
done o g = record { answer = number_in o; rounds = rounds_of o; fleet = g }

-- the tests of the code are those of the answers
ok-is : (o : Result ℕ Refusal) → is_ok o ≡ eqb (number_in o) 0
ok-is (Ok s) = refl
ok-is (Err e) = sym (ne_eqb _ _ (refuses e))

-- whether a step was refused, by that test
pub went : (o : Result ℕ Refusal) {x : Bool} → is_ok o ≡ not x → x ≡ false → number_in o ≡ 0
went o q e = eqb-true _ 0 (sym (ok-is o) ∙ q ∙ ap not e)

pub erred : (o : Result ℕ Refusal) {x : Bool} → is_ok o ≡ not x → x ≡ true → number_in o ≡ 0 → ⊥
erred o q e = eqb-false _ 0 (sym (ok-is o) ∙ q ∙ ap not e)

alive-is : (sheet : List ℕ) (f : Fleet) (j : Result Bool Refusal) → Judges sheet f j → result_unwrap_or j false ≡ (judge_of sheet f).alive
alive-is sheet f (Ok b) v = ap (λ (r : Judged). r.alive) v
alive-is sheet f (Err e) v = ap (λ (r : Judged). r.alive) v

-- and all of them together are `good`
pub good-is : (sheet : List ℕ) (g g' : Fleet) (o o' : Result ℕ Refusal) (j : Result Bool Refusal) {x y z b : Bool} → x ≡ is_ok o → y ≡ is_ok o' → z ≡ result_unwrap_or j false
    → Judges sheet g' j → (x && y) && z ≡ b → good sheet (done o g) (done o' g') ≡ b
good-is sheet g g' o o' j p q r v e = rw (sym (ok-is o), sym (ok-is o'), sym (alive-is sheet g' j v), sym p, sym q, sym r) e

module _ (sheet : List ℕ) (f : Fleet) (t : List ℕ) (word a b : ℕ) {r : Turned} {t' : List ℕ} (e : step_of sheet f t word a b ≡ (r, t')) where
  took : r.answer ≡ 0 → Took sheet f t word a b r.rounds r.fleet t'
  took z = e ∙ ap (λ (k : ℕ). acted_all k r.rounds r.fleet t') z

  refused : (r.answer ≡ 0 → ⊥) → (r.fleet ≡ f) × (t' ≡ t)
  refused n =
      let u = sym e ∙ promised.unchanged sheet f t word a b (λ z. n (sym (ap (λ (o : RanAll). o.0.answer) e) ∙ z)) in
      (ap (λ (o : RanAll). o.0.fleet) u, ap (λ (o : RanAll). o.1) u)

  -- since a level, one step more that leaves the levels, refused or not
  onward : {f₁ : Fleet} {t₁ : List ℕ} → ((k : ℕ) (f' : Fleet) (v : List ℕ) → Took sheet f t word a b k f' v → depth_of f' ≡ depth_of f)
      → Steps sheet (depth_of f₁) f₁ t₁ f t → depth_of f ≡ depth_of f₁ → Steps sheet (depth_of f₁) f₁ t₁ r.fleet t' × (depth_of r.fleet ≡ depth_of f₁)
  onward level h d =
      decided (eqb r.answer 0)
      (λ y. let w = took (eqb-true r.answer 0 y) in
      let deep = level r.rounds r.fleet t' w ∙ d in
      (then word a b r.rounds h w (omega (arith, deep)), deep))
      (λ y. let u = refused (eqb-false r.answer 0 y) in rw (u.0, u.1) (h, d))

module _ (sheet : List ℕ) (f : Fleet) (t : List ℕ) (i p x : ℕ) {level : Turned} {t₁ : List ℕ} (e₁ : step_of sheet f t kinds.LEVEL 0 0 ≡ (level, t₁)) where
  pub no-level : (level.answer ≡ 0 → ⊥) → tried_of sheet f t i p x ≡ (f, t₁)
  unfolding tried_of
  no-level n = rw (e₁, ne_eqb level.answer 0 n) (ap (λ (v : List ℕ). (f, v)) (sym (refused sheet f t kinds.LEVEL 0 0 e₁ n).1))

  module _ {placed settled : Turned} {t₂ t₃ : List ℕ} (z : level.answer ≡ 0) (e₂ : step_of sheet level.fleet t₁ (in_van_word i kinds.PLACE) p x ≡ (placed, t₂))
      (e₃ : step_of sheet placed.fleet t₂ (in_van_word i kinds.SETTLE) 0 0 ≡ (settled, t₃)) where
    tried : tried_of sheet f t i p x ≡ (cond (good sheet placed settled) settled.fleet f, t₃)
    unfolding tried_of
    tried = rw (e₁, e₂, e₃, z)

    pub kept : good sheet placed settled ≡ true → tried_of sheet f t i p x ≡ (settled.fleet, t₃)
    kept g = rw g at tried

    pub given_back : HeldAll f → good sheet placed settled ≡ false → {back : Turned} {t₄ : List ℕ} → step_of sheet settled.fleet t₃ kinds.BACK 0 0 ≡ (back, t₄)
        → tried_of sheet f t i p x ≡ (back.fleet, t₄)
    given_back held g e₄ =
        let one = onward sheet level.fleet t₁ (in_van_word i kinds.PLACE) p x e₂ (λ k f' v. kept-depth sheet level.fleet t₁ i kinds.PLACE p x (omega arith) (λ z. omega arith) (λ z. omega arith)) none refl in
        let two = onward sheet placed.fleet t₂ (in_van_word i kinds.SETTLE) 0 0 e₃ (λ k f' v. kept-depth sheet placed.fleet t₂ i kinds.SETTLE 0 0 (omega arith) (λ z. omega arith) (λ z. omega arith)) one.0 one.1 in
        let b = (promised.steps_back sheet f level.fleet settled.fleet t t₁ t₃ 0 0 0 level.rounds 0 0 0 held (took sheet f t kinds.LEVEL 0 0 e₁ z) two.0 two.1).0 in
        (rw g at tried) ∙ ap (λ (o : RanAll). (o.0.fleet, o.1)) (sym b ∙ e₄)
