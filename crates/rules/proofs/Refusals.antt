-- Code that hands a refusal on with `?`: the number of what it answers.
use Rattle.std.proofs.Common.{◌≡◌, ◌∙◌, ℕ, suc, Bool, true, false, refl, sym, ap}
use native.Mathlib.Nat.{suc-ne-zero}
use mathlib.Core.Bool.{cond}
use lib.Dec.{eqb}
use Rattle.laws.specs.Basic.{or_else, unless}
use Rattle.laws.proofs.Choice.{or-else-next, first_stops}
use Rattle.std.specs.Prelude.{Result, Ok, Err}
use Rattle.std.specs.Result.{IsErrAnd}
use Rattle.std.proofs.lemmas.Result.{err_from_is_err_and}
use Rattle.rules.specs.Refused.{number_of, number_in}
use Rattle.rules.specs.declared.Refusal.{Refusal}
use Rattle.rules.specs.declared.Refusal.TheVariants.{Short, Count, Value, Twice, Triangle, Heavy, Class, Kind, Node, Placed, Unplaced, Shut, Owed, Room, Depth, Form, Misfit, Van, Claimed}

-- no refusal has the number 0
pub refuses : (e : Refusal) → number_of e ≡ 0 → ⊥
refuses Short = suc-ne-zero _
refuses Count = suc-ne-zero _
refuses Value = suc-ne-zero _
refuses Twice = suc-ne-zero _
refuses Triangle = suc-ne-zero _
refuses Heavy = suc-ne-zero _
refuses Class = suc-ne-zero _
refuses Kind = suc-ne-zero _
refuses Node = suc-ne-zero _
refuses Placed = suc-ne-zero _
refuses Unplaced = suc-ne-zero _
refuses Shut = suc-ne-zero _
refuses Owed = suc-ne-zero _
refuses Room = suc-ne-zero _
refuses Depth = suc-ne-zero _
refuses Form = suc-ne-zero _
refuses Misfit = suc-ne-zero _
refuses Van = suc-ne-zero _
refuses Claimed = suc-ne-zero _

-- what `?` hands on
pub handed : {A : Type 0} (r : Result A Refusal) (e : Refusal) {a : ℕ} → IsErrAnd r (λ y. y ≡ e) → number_of e ≡ a → number_in r ≡ a
handed r e h q = let p = err_from_is_err_and r h in rw (p.1, p.2) q

-- refused by a, it stays refused by a, whatever is asked after
pub handed_on : (e : Refusal) {a : ℕ} (b : ℕ) → number_of e ≡ a → number_of e ≡ or_else a b
handed_on e b h = first_stops b h (refuses e)

-- not refused by a, it is answered as b says
pub gone_on : {k a : ℕ} (b : ℕ) → 0 ≡ a → k ≡ b → k ≡ or_else a b
gone_on {k} {a} b z h = h ∙ sym (or-else-next a b (sym z))

-- not refused by a, it is answered by one test more, which was ok
pub judged : (k : ℕ) (b : Bool) {a : ℕ} {ok t : Bool} → 0 ≡ a → ok ≡ t → ok ≡ b → unless b k ≡ or_else a (unless t k)
judged k b z q e = gone_on _ z (ap (λ (c : Bool). unless c k) (sym e ∙ q))

-- a test that is asked first, and failed; and one that passed
pub failed : (k : ℕ) {t : Bool} (b : ℕ) → t ≡ false → suc k ≡ or_else (unless t (suc k)) b
unfolding or_else
failed k b e = rw e refl

pub passed : (k : ℕ) {t : Bool} → t ≡ true → 0 ≡ unless t k
passed k e = rw e refl

-- ---- a number says one refusal

-- the refusal of a number
named : ℕ → Refusal
named k =
    cond (eqb k 1) Short
    (cond (eqb k 2) Count
    (cond (eqb k 3) Value
    (cond (eqb k 4) Twice
    (cond (eqb k 5) Triangle
    (cond (eqb k 6) Heavy
    (cond (eqb k 7) Class
    (cond (eqb k 11) Kind
    (cond (eqb k 12) Node
    (cond (eqb k 13) Placed
    (cond (eqb k 14) Unplaced
    (cond (eqb k 15) Shut
    (cond (eqb k 16) Owed
    (cond (eqb k 17) Room
    (cond (eqb k 18) Depth
    (cond (eqb k 19) Form
    (cond (eqb k 20) Misfit
    (cond (eqb k 21) Van
    Claimed)))))))))))))))))

named-again : (e : Refusal) → named (number_of e) ≡ e
unfolding named
named-again Short = refl
named-again Count = refl
named-again Value = refl
named-again Twice = refl
named-again Triangle = refl
named-again Heavy = refl
named-again Class = refl
named-again Kind = refl
named-again Node = refl
named-again Placed = refl
named-again Unplaced = refl
named-again Shut = refl
named-again Owed = refl
named-again Room = refl
named-again Depth = refl
named-again Form = refl
named-again Misfit = refl
named-again Van = refl
named-again Claimed = refl

pub same_refusal : (e e' : Refusal) → number_of e ≡ number_of e' → e ≡ e'
same_refusal e e' q = sym (named-again e) ∙ ap named q ∙ named-again e'

-- answers that give one number, and one value where they give 0, are one
pub same_answer : {A : Type 0} (r r' : Result A Refusal) → number_in r ≡ number_in r' → ((a a' : A) → r ≡ Ok a → r' ≡ Ok a' → a ≡ a') → r ≡ r'
same_answer (Ok a) (Ok a') q h = ap Ok (h a a' refl refl)
same_answer (Ok a) (Err e) q h = absurd (refuses e (sym q))
same_answer (Err e) (Ok a) q h = absurd (refuses e q)
same_answer (Err e) (Err e') q h = ap Err (same_refusal e e' q)
