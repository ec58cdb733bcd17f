-- From a fresh state any accepted steps keep the record count at or below n(n − 2), and one for each mark "must go somewhere": (n + 1)(n − 2).
-- What a board is still worth: for each inner node off the route its open places, its mark, and one for each node not yet placed. Each record lowers
-- it but that of a mark "must go somewhere", which stands for itself.
use mathlib.Core.Path.{◌≡◌, refl, ap, sym, ◌∙◌}
use mathlib.Core.Bool.{Bool, true, false, cond, not, ◌&&◌, and-false}
use mathlib.Core.List.{List, []}
use Prim.Native.Nat.{ℕ, zero, suc, ◌+◌, ◌-◌, ◌*◌, ◌≤◌, ◌<◌, min}
use native.Mathlib.Nat.{mul-suc, suc-mul, mul-le-mul_left}
use native.Mathlib.Numerals.{add-one}
use native.Mathlib.Omega.{arith}
use lib.ListN.{get_or}
use lib.Dec.{eqb}
use borrow.Author.Tests.{eqb-true, eqb-false, not-true}
use Rattle.laws.proofs.Logic.{decided, and-true}
use Rattle.laws.proofs.Sum.{sum-le, sum_lt}
use Rattle.laws.specs.Basic.{sum_below}
use Rattle.bits.specs.Places.{digit, has, with, within}
use Rattle.bits.proofs.Digits.{digit_lt}
use Rattle.bits.proofs.Members.{digit_not, has-none, with-same, with-other}
use Rattle.bits.proofs.Number.{members, members-none, members-with, members-strict, members-most, members-first}
use Rattle.rules.specs.Day.{is_inner}
use Rattle.rules.proofs.Inner.{is-inner}
use Rattle.board.specs.Board.{Board, board, board_of, on_route, route_of, set_of}
use Rattle.board.specs.Fresh.{fresh_state, fresh_set}
use Rattle.board.proofs.FreshForm.{fresh-is, fresh_board, fresh-wide, fresh_set_lem, fresh-off, fresh-formed, fresh-inform, fresh-held}
use Rattle.board.specs.Change.{heir, put_set, placed_after, marked, obliged}
use Rattle.board.proofs.FormLaws.{room-left}
use Rattle.board.specs.Held.{Words, FormedBoard, Sound, Splits}
use Rattle.board.specs.declared.State.{State}
use Rattle.board.proofs.Keep.{must-inner, put_same, put_other, placed-set, placed_on, placed-others, heir-yes, heir-no}
use Rattle.records.specs.Trail.{shrunk}
use Rattle.records.specs.Undo.{strictly}
use Rattle.trail.proofs.StepLaws.{Free}
use Rattle.trail.proofs.Small.{Small, shrinks, places, marks, obliges, put-marks, placed-marks}
use Rattle.trail.proofs.Spells.{Spells, none, more, spells-sound}
use Rattle.trail.specs.Run.{Smaller, Runs}
use Rattle.trail.specs.Run as run
use Rattle.trail.proofs.Since.{Since, strict, changed-free, move-since}

-- what an inner node off the route is worth
abbrev pub price : ℕ → ℕ → ℕ → Bool → ℕ
price n stops w m = members 64 w + cond m 0 1 + (n - stops)

unfoldable pub weight : ℕ → Board → ℕ → ℕ
weight n b y = cond (is_inner n y && not (on_route b y)) (price n b.stops (set_of b y) (has b.marks y)) 0

unfoldable pub worth : ℕ → Board → ℕ
worth n b = sum_below 64 (weight n b)

weight-free : (n : ℕ) (b : Board) (x : ℕ) → is_inner n x ≡ true → on_route b x ≡ false → weight n b x ≡ price n b.stops (set_of b x) (has b.marks x)
unfolding weight
weight-free n b x i o = rw (i, o)

weight-on : (n : ℕ) (b : Board) (x : ℕ) → on_route b x ≡ true → weight n b x ≡ 0
unfolding weight
weight-on n b x o = rw (o, and-false (is_inner n x))

-- ---- a smaller set

put-road : (b : Board) (x v y : ℕ) → (on_route (put_set b x v) y ≡ on_route b y) × ((put_set b x v).stops ≡ b.stops) × ((put_set b x v).marks ≡ b.marks)
unfolding on_route route_of put_set
put-road b x v y = (refl, refl, refl)

put_rest : (n : ℕ) (b : Board) (x v y : ℕ) → (y ≡ x → ⊥) → weight n (put_set b x v) y ≡ weight n b y
unfolding weight
put_rest n b x v y d = let r = put-road b x v y in rw (put_other b x v y d, r.0, r.2, r.1)

put-less : (n : ℕ) (b : Board) (x v : ℕ) → is_inner n x ≡ true → on_route b x ≡ false → set_of (put_set b x v) x ≡ v → members 64 v < members 64 (set_of b x)
    → weight n (put_set b x v) x < weight n b x
put-less n b x v i o h q =
    let r = put-road b x v x in
    rw (weight-free n (put_set b x v) x i (r.0 ∙ o), weight-free n b x i o, h, r.2, r.1) (omega (arith, q))

shrinks-less : (n : ℕ) (b : Board) (x v : ℕ) → Sound n b → Free n b x → strictly v (set_of b x) ≡ true → worth n (put_set b x v) < worth n b
unfolding worth strictly
shrinks-less n b x v s f t =
    let l : x < 64 = omega (arith, (is-inner n x f.node).1, s.small) in
    let e = and-true (within v (set_of b x)) (not (within (set_of b x) v)) t in
    let q = members-strict v (set_of b x) e.0 (not-true (within (set_of b x) v) e.1) in
    let here = put_same b x v (omega (arith, s.wide.sets, l)) in
    let less : weight n (put_set b x v) x < weight n b x = put-less n b x v f.node f.off here q in
    sum_lt 64 x (weight n (put_set b x v)) (weight n b)
    (λ y m. decided (eqb y x) (λ z. rw (eqb-true y x z) (omega (arith, less))) (λ z. omega (arith, put_rest n b x v y (eqb-false y x z))))
    l less

-- ---- a mark

mark-road : (b : Board) (x y : ℕ) → (on_route (marked b x) y ≡ on_route b y) × ((marked b x).stops ≡ b.stops) × (set_of (marked b x) y ≡ set_of b y) × ((marked b x).marks ≡ with b.marks x)
unfolding on_route route_of marked set_of
mark-road b x y = (refl, refl, refl, refl)

mark-rest : (n : ℕ) (b : Board) (x y : ℕ) → (y ≡ x → ⊥) → weight n (marked b x) y ≡ weight n b y
unfolding weight
mark-rest n b x y d = let r = mark-road b x y in rw (r.2, r.0, r.3, r.1, with-other b.marks x y d)

mark-less : (n : ℕ) (b : Board) (x : ℕ) → x < 64 → is_inner n x ≡ true → on_route b x ≡ false → has b.marks x ≡ false → weight n (marked b x) x < weight n b x
mark-less n b x l i o m =
    let r = mark-road b x x in
    rw (weight-free n (marked b x) x i (r.0 ∙ o), weight-free n b x i o, r.2, r.3, r.1, with-same b.marks x l, m) (omega arith)

marks-less : (n : ℕ) (b : Board) (x : ℕ) → Sound n b → Free n b x → has b.marks x ≡ false → worth n (marked b x) < worth n b
unfolding worth
marks-less n b x s f o =
    let l : x < 64 = omega (arith, (is-inner n x f.node).1, s.small) in
    let less = mark-less n b x l f.node f.off o in
    sum_lt 64 x (weight n (marked b x)) (weight n b)
    (λ y m. decided (eqb y x) (λ z. rw (eqb-true y x z) (omega (arith, less))) (λ z. omega (arith, mark-rest n b x y (eqb-false y x z))))
    l less

-- ---- a placing

heir-most : (p x w : ℕ) → x < 64 → members 64 (heir p x w) ≤ members 64 w + 1
heir-most p x w l = decided (has w p) (λ h. rw (heir-yes p x w h) (members-most w x l)) (λ h. rw (heir-no p x w h) (omega arith))

place-road : (b : Board) (p x : ℕ) → ((placed_after b p x).stops ≡ b.stops + 1) × ((placed_after b p x).marks ≡ b.marks)
unfolding placed_after
place-road b p x = (refl, refl)

-- another node has at most one place more, and one node fewer is to be placed
other : (n : ℕ) (b : Board) (p x y : ℕ) → on_route (placed_after b p x) y ≡ on_route b y → set_of (placed_after b p x) y ≡ heir p x (set_of b y) → x < 64 → b.stops < n
    → weight n (placed_after b p x) y ≤ weight n b y
unfolding weight
other n b p x y o e l left =
    let r = place-road b p x in
    rw (o, e, r.0, r.1) (go (is_inner n y && not (on_route b y)) (has b.marks y) (heir-most p x (set_of b y) l))
  where
    go : (t m : Bool) → members 64 (heir p x (set_of b y)) ≤ members 64 (set_of b y) + 1
        → cond t (price n (b.stops + 1) (heir p x (set_of b y)) m) 0 ≤ cond t (price n b.stops (set_of b y) m) 0
    go true true h = omega (arith, left)
    go true false h = omega (arith, left)
    go false m h = omega arith

places-less : (n : ℕ) (b : Board) (p x : ℕ) → Sound n b → Splits n b p x → worth n (placed_after b p x) < worth n b
unfolding worth
places-less n b p x s f =
    let l : x < 64 = omega (arith, (is-inner n x f.node).1, s.small) in
    let left : b.stops < n = room-left n b s.small s.wide s.form.route x (omega (arith, (is-inner n x f.node).1)) f.off in
    let less : weight n (placed_after b p x) x < weight n b x =
    rw (weight-on n (placed_after b p x) x (placed_on n b p x s.small s.wide s.form f), weight-free n b x f.node f.off) (omega (arith, left)) in
    sum_lt 64 x (weight n (placed_after b p x)) (weight n b)
    (λ y m. decided (eqb y x) (λ z. rw (eqb-true y x z) (omega (arith, less)))
    (λ z. let d = eqb-false y x z in
    other n b p x y (placed-others n b p x s.small s.wide s.form f y d) (placed-set n b p x s.small s.wide s.form f y m d) l left))
    l less

-- ---- a mark "must go somewhere"

pub mark-must : (b : Board) (x : ℕ) → (marked b x).must ≡ b.must
unfolding marked
mark-must b x = refl

oblige-worth : (n : ℕ) (b : Board) (x : ℕ) → worth n (obliged b x) ≡ worth n b
unfolding worth weight on_route route_of set_of obliged
oblige-worth n b x = refl

oblige-more : (n : ℕ) (b : Board) (x : ℕ) → Sound n b → is_inner n x ≡ true → has b.must x ≡ false → members 64 (obliged b x).must ≡ members 64 b.must + 1
unfolding obliged
oblige-more n b x s i o = let l : x < 64 = omega (arith, (is-inner n x i).1, s.small) in members-with 64 b.must x l l o

-- ---- all four, and many

pub small-less : {n : ℕ} {b : Board} {a w : ℕ} {c : Board} → Sound n b → Small n b a w c → worth n c + 1 + members 64 b.must ≤ worth n b + members 64 c.must
small-less {n = n} {b = b} s (shrinks x v f t h i j k) = rw k (omega (arith, shrinks-less n b x v s f t, ap (members 64) (put-marks b x v).1))
small-less {n = n} {b = b} s (places p x f o i j k) = rw k (omega (arith, places-less n b p x s f, ap (members 64) (placed-marks b p x).1))
small-less {n = n} {b = b} s (marks x f o i j k) = rw k (omega (arith, marks-less n b x s f o, ap (members 64) (mark-must b x)))
small-less {n = n} {b = b} s (obliges x f o i j k) = rw k (omega (arith, oblige-worth n b x, oblige-more n b x s f o))

pub spells-worth : {n : ℕ} {t : List ℕ} {b : Board} {k m : ℕ} {c : Board} → Sound n b → Spells n t b k m c → worth n c + m + members 64 b.must ≤ worth n b + members 64 c.must
spells-worth s none = omega arith
spells-worth s (more p q) = omega (arith, spells-worth s p, small-less (spells-sound s p) q)

-- ---- settling: each set that shrank lowers it

new-road : (b : Board) (new : List ℕ) (y : ℕ) → (on_route (board b.route b.stops new b.marks b.must) y ≡ on_route b y) × (set_of (board b.route b.stops new b.marks b.must) y ≡ get_or new y 0)
unfolding on_route route_of set_of
new-road b new y = (refl, refl)

settle-same : (n : ℕ) (b : Board) (new : List ℕ) (y : ℕ) → set_of b y ≡ get_or new y 0 → weight n (board b.route b.stops new b.marks b.must) y ≡ weight n b y
unfolding weight
settle-same n b new y e = let r = new-road b new y in rw (r.1, r.0, e)

settle-one : (n : ℕ) (b : Board) (new : List ℕ) (y : ℕ) → is_inner n y ≡ true → on_route b y ≡ false → members 64 (get_or new y 0) < members 64 (set_of b y)
    → weight n (board b.route b.stops new b.marks b.must) y < weight n b y
settle-one n b new y i o q =
    let r = new-road b new y in
    rw (weight-free n (board b.route b.stops new b.marks b.must) y i (r.0 ∙ o), weight-free n b y i o, r.1) (omega (arith, q))

sets-at : (b : Board) (y : ℕ) → set_of b y ≡ get_or b.sets y 0
unfolding set_of
sets-at b y = refl

settle-less : (n : ℕ) (b : Board) (new : List ℕ) → Sound n b → Words b → Smaller b.sets new → (k : ℕ) → k ≤ 64
    → sum_below k (weight n (board b.route b.stops new b.marks b.must)) + shrunk b.sets new k ≤ sum_below k (weight n b)
unfolding sum_below shrunk strictly
settle-less n b new s h g zero l = omega arith
settle-less n b new s h g (suc k) l =
    let i = settle-less n b new s h g k (omega arith) in
    decided (eqb (get_or b.sets k 0) (get_or new k 0))
    (λ e. let z = settle-same n b new k (sets-at b k ∙ eqb-true _ _ e) in rw e (omega (arith, i, z)))
    (λ e. let d = eqb-false (get_or b.sets k 0) (get_or new k 0) e in
    let d' : set_of b k ≡ get_or new k 0 → ⊥ = λ q. d (sym (sets-at b k) ∙ q) in
    let p : within (get_or new k 0) (set_of b k) ≡ true = rw (sets-at b k) (g.part k l) in
    let f = changed-free n b k (get_or new k 0) s l (g.word k l) p d' in
    let t = and-true (within (get_or new k 0) (set_of b k)) _ (strict (get_or new k 0) (set_of b k) (g.word k l) (h.fits k l) p d') in
    let q = settle-one n b new k f.node f.off (members-strict (get_or new k 0) (set_of b k) t.0 (not-true _ t.1)) in
    rw e (omega (arith, i, q)))

-- ---- a fresh board is worth n(n - 2)

inner-sum : (n m k : ℕ) → sum_below k (λ y. cond (is_inner n y) m 0) ≤ m * (min k (n - 1) - 1)
unfolding sum_below
inner-sum n m zero = omega arith
inner-sum n m (suc k) =
    decided (is_inner n k)
    (λ e. let a = is-inner n k e in
    let y : min k (n - 1) - 1 ≡ k - 1 = omega (arith, a.0, a.1) in
    let z : min (suc k) (n - 1) - 1 ≡ suc (k - 1) = omega (arith, a.0, a.1) in
    let i : sum_below k (λ y. cond (is_inner n y) m 0) ≤ m * (k - 1) = rw y at (inner-sum n m k) in
    rw (e, z) (omega (arith, i, mul-suc m (k - 1))))
    (λ e. let z : min k (n - 1) - 1 ≤ min (suc k) (n - 1) - 1 = omega arith in
    rw e (omega (arith, inner-sum n m k, mul-le-mul_left m z)))

fresh-weight : (n : ℕ) (may : ℕ → Bool) → 2 ≤ n → n ≤ 64 → (y : ℕ) → y < 64 → weight n (fresh_board n may) y ≤ cond (is_inner n y) n 0
unfolding weight fresh_set
fresh-weight n may two small y l =
    decided (is_inner n y)
    (λ e. rw (fresh_set_lem n may two small y l, e, fresh-off n may two small y e, has-none y) (most (may y)))
    (λ e. rw e (omega arith))
  where
    most : (b : Bool) → price n 2 (cond b 1 0) false ≤ n
    most true = rw members-first (omega arith)
    most false = rw (members-none 64) (omega arith)

-- there are n - 2 inner nodes
inner-all : (n m : ℕ) → 2 ≤ n → n ≤ 64 → sum_below 64 (λ y. cond (is_inner n y) m 0) ≤ m * (n - 2)
inner-all n m two small = let z : min 64 (n - 1) - 1 ≡ n - 2 = omega arith in rw z at (inner-sum n m 64)

pub fresh-worth : (n : ℕ) (may : ℕ → Bool) → 2 ≤ n → n ≤ 64 → worth n (fresh_board n may) ≤ n * (n - 2)
unfolding worth
fresh-worth n may two small =
    omega (arith, inner-all n n two small, sum-le 64 (weight n (fresh_board n may)) (λ y. cond (is_inner n y) n 0) (fresh-weight n may two small))

-- ---- at most n - 2 marks "must go somewhere"

one-must : (n : ℕ) (b : Board) → FormedBoard n b → (y : ℕ) → y < 64 → digit b.must y ≤ cond (is_inner n y) 1 0
one-must n b f y l =
    decided (has b.must y)
    (λ h. rw (must-inner n b f y l h) (omega (arith, digit_lt b.must y)))
    (λ h. omega (arith, digit_not b.must y h))

pub must-most : (n : ℕ) (b : Board) → 2 ≤ n → n ≤ 64 → FormedBoard n b → members 64 b.must ≤ n - 2
unfolding members
must-most n b two small f = omega (arith, inner-all n 1 two small, sum-le 64 (digit b.must) (λ y. cond (is_inner n y) 1 0) (one-must n b f))

-- (n + 1) times a number
pub one_more : (n m : ℕ) → (n + 1) * m ≡ n * m + m
one_more n m = ap (λ (k : ℕ). k * m) (add-one n) ∙ suc-mul n m

-- ---- runs from a fresh state

runs-since : {n : ℕ} {b : Board} {t₀ : List ℕ} {s : State} {t : List ℕ} {r : State} {u : List ℕ} → Sound n b → Words b
    → Since n b 0 0 [] t₀ s t → Runs n s t r u → Since n b 0 0 [] t₀ r u
runs-since f w h run.none = h
runs-since {n = n} {b = b} {t₀ = t₀} f w h (run.more {r = q} {u = v} {q = r} {v = u} p m) =
    move-since n b 0 0 [] t₀ q v r u f w (runs-since f w h p) m (omega arith)

module _ (n : ℕ) (may : ℕ → Bool) (two : 2 ≤ n) (small : n ≤ 64) (t : List ℕ) (r : State) (u : List ℕ) (run : Runs n (fresh_state n may) t r u) where
  fresh-sound : Sound n (fresh_board n may)
  fresh-sound = record { small = small; wide = fresh-wide n may two small; form = fresh-formed n may two small }

  start : Since n (fresh_board n may) 0 0 [] t (fresh_state n may) t
  start = rw (fresh-is n may) (record {
    small = small;
    held = fresh-held n may two small;
    form = fresh-inform n may two small;
    room = omega arith;
    least = omega arith;
    spelled = none;
    deep = omega arith;
    under = λ i h. absurd (omega arith);
    floor = λ i h l. omega arith;
    below = λ i h. refl;
    long = refl;
  })

  -- what holds of every state reached: it is in form, and its trail spells the way from the fresh board
  pub reached : Since n (fresh_board n may) 0 0 [] t r u
  reached = runs-since fresh-sound (fresh-held n may two small).words start run

  all-records : worth n (board_of r) + r.records ≤ n * (n - 2) + members 64 r.must
  all-records =
      let z : r.records - 0 ≡ r.records = omega arith in
      let w : worth n (board_of r) + r.records + members 64 0 ≤ worth n (fresh_board n may) + members 64 r.must = rw z at (spells-worth fresh-sound reached.spelled) in
      omega (arith, w, fresh-worth n may two small)

  sound : Sound n (board_of r)
  sound = record { small = small; wide = reached.held.wide; form = reached.form.board }

  -- ---- how many marks "must go somewhere" there can be

  -- with room for (n + 1)(n − 2) there is room for any
  pub space-full : (k : ℕ) → (n + 1) * (n - 2) ≤ k → n * (n - 2) + members 64 r.must ≤ k
  space-full k h = omega (arith, must-most n (board_of r) two small reached.form.board, one_more n (n - 2))

  -- with none room for n(n − 2) is enough
  pub space-plain : (k : ℕ) → r.must ≡ 0 → n * (n - 2) ≤ k → n * (n - 2) + members 64 r.must ≤ k
  space-plain k z h = rw (z, members-none 64) (omega arith)

  -- FROM FRESH any accepted steps keep the record count at or below n(n − 2) and one for each mark "must go somewhere"
  pub records-must : r.records ≤ n * (n - 2) + members 64 r.must
  records-must = omega (arith, all-records)

  -- so at or below (n + 1)(n − 2)
  pub records-bound : r.records ≤ (n + 1) * (n - 2)
  records-bound = omega (arith, records-must, space-full ((n + 1) * (n - 2)) (omega arith))

  -- and with no such mark at or below n(n − 2)
  pub records-bound-plain : r.must ≡ 0 → r.records ≤ n * (n - 2)
  records-bound-plain z = omega (arith, records-must, space-plain (n * (n - 2)) z (omega arith))

  -- so with that room one record more never exceeds it, and neither does a settling
  pub record-room : (a w : ℕ) (c : Board) → Small n (board_of r) a w c → r.records < n * (n - 2) + members 64 c.must
  record-room a w c q = omega (arith, all-records, small-less sound q)

  pub settle-room : (new : List ℕ) → Smaller r.sets new → r.records + shrunk r.sets new 64 ≤ n * (n - 2) + members 64 r.must
  unfolding worth
  settle-room new g = omega (arith, all-records, settle-less n (board_of r) new sound reached.held.words g 64 (omega arith))
