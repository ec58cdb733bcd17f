-- Each change of the board is the rules' step of the plan that it stands for; the marks "must go somewhere" are none of its plan.
use Prim.Native.Nat.{ℕ, suc, ◌≤◌, ◌<◌}
use mathlib.Core.Path.{◌≡◌, refl, ap, ◌∙◌}
use mathlib.Core.Bool.{true}
use mathlib.Core.List.{List, [], ◌∷◌, ◌++◌}
use native.Mathlib.Numerals.{add-one}
use lib.Dec.{eqb}
use lib.ListN.{length, take, drop}
use Rattle.laws.proofs.Logic.{decided}
use Rattle.laws.specs.Basic.{mem}
use Rattle.bits.specs.Places.{without}
use Rattle.bits.proofs.Members.{false-true}
use Rattle.board.specs.Route.{index_of}
use Rattle.board.specs.Board.{Board, route_of, on_route, set_of, open_at}
use Rattle.board.specs.Change.{put_set, placed_after, marked, obliged}
use Rattle.board.specs.Held.{FormedBoard, Wide, Splits}
use Rattle.board.proofs.Inverse.{placed-route}
use Rattle.board.proofs.PlaceLaws.{open-closed, open-excluded, open-placed, mark-marked}
use Rattle.rules.specs.Plan.{Plan}
use Rattle.rules.specs.Steps.{put_after}
use Rattle.rules.specs.Steps as step
use Rattle.stands.specs.Stands.{plan_of}

-- two plans with the same route, places and marks are one
pub plan-ext : (a b : Plan) → a.route ≡ b.route → ((x p : ℕ) → a.places x p ≡ b.places x p) → ((x : ℕ) → a.marks x ≡ b.marks x) → a ≡ b
plan-ext a b r o m = λ i. record { route = r i; places = λ x p. o x p i; marks = λ x. m x i }

-- the route with x after p
put-after : (p x : ℕ) (l : List ℕ) → mem p l ≡ true → take (suc (index_of p l)) l ++ x ∷ drop (suc (index_of p l)) l ≡ put_after p x l
unfolding index_of
put-after p x [] h = absurd (false-true h)
put-after p x (c ∷ l) h = decided (eqb c p) (λ e. rw e refl) (λ e. rw e (ap (λ (t : List ℕ). c ∷ t) (put-after p x l (rw e at h))))

-- step 1: x placed after p
pub placed-stands : (n : ℕ) (b : Board) (p x : ℕ) → n ≤ 64 → Wide b → FormedBoard n b → Splits n b p x → plan_of (placed_after b p x) ≡ step.placed p x (plan_of b)
unfolding placed_after on_route
placed-stands n b p x small wide form c =
    plan-ext _ _ (placed-route n b p x small wide form c ∙ ap (λ (k : ℕ). take k (route_of b) ++ x ∷ drop k (route_of b)) (add-one (index_of p (route_of b))) ∙ put-after p x (route_of b) c.on)
    (open-placed n b p x small wide form c) (λ y. refl)

-- step 2: the place p of x closed
pub closed-stands : (b : Board) (p x : ℕ) → x < length b.sets → plan_of (put_set b x (without (set_of b x) p)) ≡ step.closed p x (plan_of b)
unfolding put_set route_of
closed-stands b p x h = plan-ext _ _ refl (λ y q. open-closed b p x y q h) (λ y. refl)

-- step 3: every place of x closed
pub excluded-stands : (b : Board) (x : ℕ) → x < length b.sets → plan_of (put_set b x 0) ≡ step.excluded x (plan_of b)
unfolding put_set route_of
excluded-stands b x h = plan-ext _ _ refl (λ y q. open-excluded b x y q h) (λ y. refl)

-- step 4: x marked
pub required-stands : (b : Board) (x : ℕ) → x < 64 → plan_of (marked b x) ≡ step.required x (plan_of b)
unfolding marked route_of open_at set_of
required-stands b x h = plan-ext _ _ refl (λ y q. refl) (λ y. mark-marked b x y h)

-- step 8: a mark "must go somewhere" says nothing of the van's own plan, nor does its undoing
pub obliged-stands : (b : Board) (x : ℕ) → plan_of (obliged b x) ≡ plan_of b
unfolding obliged route_of open_at set_of
obliged-stands b x = refl
