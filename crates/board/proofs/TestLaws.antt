-- The tests of the form, as a loop makes them, are the form's.
use mathlib.Core.Path.{◌≡◌, refl, ap, sym, ◌∙◌}
use mathlib.Core.Bool.{Bool, true, false, cond, not, ◌&&◌, ◌||◌, and-false, and_comm, and_assoc, or-true, or-false}
use mathlib.Core.List.{List}
use Prim.Native.Nat.{ℕ, zero, suc, ◌+◌, ◌-◌, ◌/◌, ◌%◌, ◌^◌, ◌≤◌, ◌<◌}
use native.Mathlib.Omega.{arith}
use native.Mathlib.Numerals.{add-one}
use lib.ListN.{length, get_or}
use lib.Bits.{bit_or}
use lib.Dec.{eqb, leb, ltb}
use borrow.Author.Tests.{eqb-true, eqb-false, eq-eqb, leb-true, le-leb, lt-leb, ltb-true, ltb-false, lt-ltb, le-ltb, not-true}
use Rattle.laws.proofs.Logic.{decided, and-true, T-ext, true→T, T→true}
use Rattle.laws.proofs.Below.{below_at, below-make, below_both, flag-goes}
use Rattle.laws.specs.Basic.{all_below}
use Rattle.bits.specs.Places.{has, with, without, join, within}
use Rattle.bits.proofs.Digits.{digit-zero}
use Rattle.bits.proofs.Members.{digit_not, not_digit, has-none, false-true, without-with, within_none, shr-none, none_shr}
use Rattle.bits.proofs.Masks.{or-none, has_join}
use Rattle.rules.specs.Day.{is_inner}
use Rattle.board.specs.Route.{word_of}
use Rattle.board.proofs.RouteLaws.{word-mem, word-has, word-find, word_more}
use Rattle.board.specs.Board.{Board, route_of, on_route, legs_of, set_of}
use Rattle.board.specs.Form.{stop_ok, set_ok, only_inner, mark_ok, must_ok, board_ok, level_ok, levels_ok}
use Rattle.board.specs.Tests.{zero_from, seen_of, set_test, stop_shut}

-- the entry before i, 0 before the first
unfoldable pub entry_before : List ℕ → ℕ → ℕ
entry_before l zero = 0
entry_before l (suc i) = get_or l i 0

-- entry i is not below the one before it
unfoldable pub rises : List ℕ → ℕ → Bool
rises l i = leb (entry_before l i) (get_or l i 0)

-- two tests that pass together are one
together : (a b : Bool) → (a ≡ true → b ≡ true) → (b ≡ true → a ≡ true) → a ≡ b
together a b f g = T-ext a b (λ t. true→T b (f (T→true a t))) (λ t. true→T a (g (T→true b t)))

-- words or-ed are within another exactly if each is
or-within : (c a b : ℕ) → within (bit_or a b) c ≡ (within a c && within b c)
unfolding within join
or-within c a b =
    below_both 64 (λ p. not (has a p) || has c p) (λ p. not (has b p) || has c p) (λ p. not (has (bit_or a b) p) || has c p)
    (λ p. rw (has_join a b p) (go (has a p) (has b p) (has c p)))
  where
    go : (x y z : Bool) → (not (x || y) || z) ≡ ((not x || z) && (not y || z))
    go true true true = refl
    go true true false = refl
    go true false true = refl
    go true false false = refl
    go false y z = refl

-- a loop that or-s up words, where g passes the or of two words exactly if it passes both; z was asked before
gather-goes : (i : ℕ) (f g : ℕ → Bool) (z : Bool) (a b : ℕ) → ((v w : ℕ) → g (bit_or v w) ≡ (g v && g w)) → all_below i f ≡ (z && g a) → g b ≡ f i
    → all_below (i + 1) f ≡ (z && g (bit_or a b))
gather-goes i f g z a b e p q = flag-goes i f p q ∙ and_assoc z (g a) (g b) ∙ ap (λ (t : Bool). z && t) (sym (e a b))

-- the same, where the word is 0 as long as every number passes
pub over-goes : (i : ℕ) (f : ℕ → Bool) (z : Bool) (a b : ℕ) → all_below i f ≡ (z && eqb a 0) → eqb b 0 ≡ f i → all_below (i + 1) f ≡ (z && eqb (bit_or a b) 0)
over-goes i f z a b = gather-goes i f (λ (w : ℕ). eqb w 0) z a b or-none

-- the same, where the word is within the legs as long as every number passes
pub within-goes : (i : ℕ) (f : ℕ → Bool) (z : Bool) (legs a b : ℕ) → all_below i f ≡ (z && within a legs) → within b legs ≡ f i → all_below (i + 1) f ≡ (z && within (bit_or a b) legs)
within-goes i f z legs a b = gather-goes i f (λ (w : ℕ). within w legs) z a b (or-within legs)

-- ---- entries, of which those from k on are unused

pub zero-used : (k i : ℕ) (l : List ℕ) → i < k → zero_from k l i ≡ true
unfolding zero_from
zero-used k i l h = rw (lt-ltb i k h) refl

pub zero-past : (k i : ℕ) (l : List ℕ) → k ≤ i → eqb (get_or l i 0) 0 ≡ zero_from k l i
unfolding zero_from
zero-past k i l h = rw (le-ltb i k h) refl

-- a test that asks for 0 from k on
used-none : (k : ℕ) (l : List ℕ) (f : ℕ → Bool) → k ≤ 64 → ((i : ℕ) → k ≤ i → f i ≡ eqb (get_or l i 0) 0)
    → all_below 64 f ≡ (all_below k f && all_below 64 (zero_from k l))
used-none k l f s h =
    let past : (i : ℕ) → ltb i k ≡ false → f i ≡ zero_from k l i = λ i z. let g = ltb-false i k z in h i g ∙ zero-past k i l g in
    together (all_below 64 f) (all_below k f && all_below 64 (zero_from k l))
    (λ e. rw (below-make k f (λ i b. below_at 64 i f e (omega arith)))
    (below-make 64 (zero_from k l) (λ i b.
    decided (ltb i k) (λ z. zero-used k i l (ltb-true i k z)) (λ z. sym (past i z) ∙ below_at 64 i f e b))))
    (λ e. let a = and-true (all_below k f) (all_below 64 (zero_from k l)) e in
    below-make 64 f (λ i b.
    decided (ltb i k) (λ z. below_at k i f a.0 (ltb-true i k z)) (λ z. past i z ∙ below_at 64 i (zero_from k l) a.1 b)))

-- ---- the route

-- a board whose route has its two ends: the used entries, the unused ones, the nodes
pub board-test : (n : ℕ) (b : Board) → n ≤ 64 → 2 ≤ b.stops → b.stops ≤ n → get_or b.route 0 0 ≡ 0 → get_or b.route (b.stops - 1) 0 ≡ n - 1
    → board_ok n b ≡ ((all_below b.stops (stop_ok n b.stops b.route) && all_below 64 (zero_from b.stops b.route)) && all_below 64 (λ y. set_ok n b y && (mark_ok n b y && must_ok n b y)))
unfolding board_ok stop_ok
board-test n b s two most start end =
    rw (le-leb 2 b.stops two, le-leb b.stops n most, eq-eqb (get_or b.route 0 0) 0 start, eq-eqb (get_or b.route (b.stops - 1) 0) (n - 1) end)
    (ap (λ (t : Bool). t && all_below 64 (λ y. set_ok n b y && (mark_ok n b y && must_ok n b y)))
    (used-none b.stops b.route (stop_ok n b.stops b.route) (omega arith) (λ i h. rw (le-ltb i b.stops h) refl)))

module _ (n stops : ℕ) (l : List ℕ) (i : ℕ) (used : i < stops) where
  pub stop-far : n ≤ get_or l i 0 → stop_ok n stops l i ≡ false
  unfolding stop_ok
  stop-far h = rw (lt-ltb i stops used, le-ltb (get_or l i 0) n h) refl

  pub stop-test : n ≤ 64 → i ≤ length l → get_or l i 0 < n → stop_ok n stops l i ≡ not (has (word_of i l) (get_or l i 0))
  unfolding stop_ok
  stop-test s b h = rw (lt-ltb i stops used, lt-ltb (get_or l i 0) n h, word-mem i l (get_or l i 0) (omega arith) b) refl

  -- the same of the stops seen so far, and what asking them for this one answers
  pub stop-seen : n ≤ 64 → i ≤ length l → get_or l i 0 < n → {seen : ℕ} {held : Bool} → seen ≡ word_of i l → held ≡ has seen (get_or l i 0)
      → stop_ok n stops l i ≡ not held
  stop-seen s b h e q = stop-test s b h ∙ ap not (sym (q ∙ ap (λ (w : ℕ). has w (get_or l i 0)) e))

  pub stop-below : stop_ok n stops l i ≡ true → get_or l i 0 < n
  unfolding stop_ok
  stop-below e = ltb-true (get_or l i 0) n (and-true (ltb (get_or l i 0) n) _ (rw (lt-ltb i stops used) at e)).0

module _ (n stops : ℕ) (l : List ℕ) (small : n ≤ 64) (some : 0 < stops) where
  -- a set with the first stop in it is not 0
  pub seen_none : {r : ℕ} → r ≡ seen_of n stops l → r ≡ 0 → all_below stops (stop_ok n stops l) ≡ false
  unfolding seen_of
  seen_none q z =
      decided (all_below stops (stop_ok n stops l))
      (λ e. let z' : word_of stops l ≡ 0 = rw e at (sym q ∙ z) in
      let b = stop-below n stops l 0 some (below_at stops 0 (stop_ok n stops l) e some) in
      let h = word-has stops l 0 (get_or l 0 0) some refl (omega arith) in
      absurd (false-true (sym (has-none (get_or l 0 0)) ∙ rw z' at h)))
      (λ e. e)

  pub seen-some : {r : ℕ} → r ≡ seen_of n stops l → (r ≡ 0 → ⊥) → (all_below stops (stop_ok n stops l) ≡ true) × (r ≡ word_of stops l)
  unfolding seen_of
  seen-some q h = decided (all_below stops (stop_ok n stops l)) (λ e. (e, q ∙ rw e refl)) (λ e. absurd (h (q ∙ rw e refl)))

-- ---- nodes that are not inner

pub outer-first : (n : ℕ) → is_inner n 0 ≡ false
unfolding is_inner
outer-first n = refl

pub outer : (n y : ℕ) → n ≤ y + 1 → is_inner n y ≡ false
unfolding is_inner
outer n y h = rw (le-ltb (y + 1) n h) (and-false (leb 1 y))

outer-past : (n y : ℕ) → is_inner n y ≡ false → (y ≡ 0 → ⊥) → n ≤ y + 1
unfolding is_inner
outer-past n y e h = let p : 1 ≤ y = omega arith in ltb-false (y + 1) n (rw (le-leb 1 y p) at e)

-- ---- sets and marks

-- the legs are the nodes of the route without its last one
legs-test : (n : ℕ) (b : Board) → n ≤ 64 → 0 < b.stops → b.stops ≤ length b.route → get_or b.route (b.stops - 1) 0 ≡ n - 1
    → stop_ok n b.stops b.route (b.stops - 1) ≡ true → without (word_of b.stops b.route) (n - 1) ≡ legs_of b
unfolding legs_of
legs-test n b s h l e o =
    let k = b.stops - 1 in
    let d : k + 1 ≡ b.stops = omega arith in
    let u : k < b.stops = omega arith in
    let t = stop-test n b.stops b.route k u s (omega arith) (stop-below n b.stops b.route k u o) in
    ap (λ (j : ℕ). without (word_of j b.route) (n - 1)) (sym d)
    ∙ ap (λ (w : ℕ). without w (n - 1)) (word_more k b.route ∙ ap (with (word_of k b.route)) e)
    ∙ without-with (word_of k b.route) (n - 1) (ap (has (word_of k b.route)) (sym e) ∙ not-true _ (sym t ∙ o))

-- what the loop over the sets asks of an inner node, and of another
pub set-inner : (n : ℕ) (sets : List ℕ) (legs y : ℕ) → 1 ≤ y → y + 1 < n → within (get_or sets y 0) legs ≡ set_test n sets legs y
unfolding set_test is_inner
set-inner n sets legs y h l = rw (le-leb 1 y h, lt-ltb (y + 1) n l) refl

pub set-outer : (n : ℕ) (sets : List ℕ) (legs y : ℕ) → is_inner n y ≡ false → eqb (get_or sets y 0) 0 ≡ set_test n sets legs y
unfolding set_test
set-outer n sets legs y i = rw i refl

-- an empty set passes everywhere
set-none : (n : ℕ) (sets : List ℕ) (legs y : ℕ) → get_or sets y 0 ≡ 0 → set_test n sets legs y ≡ true
unfolding set_test
set-none n sets legs y z = rw (z, within_none legs) (go (is_inner n y))
  where
    go : (i : Bool) → cond i true true ≡ true
    go true = refl
    go false = refl

-- a set is asked by whether its node is on the route
module _ (n : ℕ) (b : Board) (l : b.stops ≤ length b.route) (y : ℕ) (s : y < 64) where
  set_on : has (word_of b.stops b.route) y ≡ true → set_ok n b y ≡ eqb (get_or b.sets y 0) 0
  unfolding set_ok set_of on_route route_of
  set_on m = rw (sym (word-mem b.stops b.route y s l) ∙ m, and-false (is_inner n y)) refl

  set-off : has (word_of b.stops b.route) y ≡ false → set_ok n b y ≡ set_test n b.sets (legs_of b) y
  unfolding set_test set_ok set_of on_route route_of
  set-off m = rw (sym (word-mem b.stops b.route y s l) ∙ m, and_comm (is_inner n y) true) refl

-- nothing open at the stops, and at every node no more than a node off the route may have: each set is as it must be
sets-test : (n : ℕ) (b : Board) → n ≤ 64 → b.stops ≤ length b.route → all_below b.stops (stop_ok n b.stops b.route) ≡ true
    → (all_below b.stops (stop_shut b.route b.sets) && all_below 64 (set_test n b.sets (legs_of b))) ≡ all_below 64 (set_ok n b)
unfolding stop_shut
sets-test n b s l a =
    let shut = stop_shut b.route b.sets in
    let test = set_test n b.sets (legs_of b) in
    let w = word_of b.stops b.route in
    together (all_below b.stops shut && all_below 64 test) (all_below 64 (set_ok n b))
    (λ e. let p = and-true (all_below b.stops shut) (all_below 64 test) e in
    below-make 64 (set_ok n b) (λ y h. decided (has w y)
    (λ m. let r = word-find b.stops b.route y m in
    set_on n b l y h m ∙ ap (λ (x : ℕ). eqb (get_or b.sets x 0) 0) (sym r.2) ∙ below_at b.stops r.0 shut p.0 r.1)
    (λ m. set-off n b l y h m ∙ below_at 64 y test p.1 h)))
    (λ e. let at : (y : ℕ) → y < 64 → set_ok n b y ≡ true = λ y h. below_at 64 y (set_ok n b) e h in
    rw (below-make b.stops shut (λ i h.
    let x = get_or b.route i 0 in
    let f : x < 64 = omega (arith, stop-below n b.stops b.route i h (below_at b.stops i (stop_ok n b.stops b.route) a h)) in
    sym (set_on n b l x f (word-has b.stops b.route i x h refl f)) ∙ at x f))
    (below-make 64 test (λ y h. decided (has w y)
    (λ m. set-none n b.sets (legs_of b) y (eqb-true (get_or b.sets y 0) 0 (sym (set_on n b l y h m) ∙ at y h)))
    (λ m. sym (set-off n b l y h m) ∙ at y h))))

pub nodes-test : (n : ℕ) (b : Board) → n ≤ 64 → 0 < b.stops → b.stops ≤ length b.route → get_or b.route (b.stops - 1) 0 ≡ n - 1
    → all_below b.stops (stop_ok n b.stops b.route) ≡ true
    → ((all_below b.stops (stop_shut b.route b.sets) && all_below 64 (set_test n b.sets (without (word_of b.stops b.route) (n - 1))))
    && (all_below 64 (only_inner n b.marks) && all_below 64 (only_inner n b.must))) ≡ all_below 64 (λ y. set_ok n b y && (mark_ok n b y && must_ok n b y))
unfolding mark_ok must_ok
nodes-test n b s h l e a =
    let o = below_at b.stops (b.stops - 1) (stop_ok n b.stops b.route) a (omega arith) in
    rw (legs-test n b s h l e o, sets-test n b s l a)
    (sym (below_both 64 (set_ok n b) (λ y. mark_ok n b y && must_ok n b y) (λ y. set_ok n b y && (mark_ok n b y && must_ok n b y)) (λ y. refl)
    ∙ ap (λ (t : Bool). all_below 64 (set_ok n b) && t) (below_both 64 (mark_ok n b) (must_ok n b) (λ y. mark_ok n b y && must_ok n b y) (λ y. refl))))

-- what a test of marks, of either sort, says of a node that is not inner
no-mark : (n marks y : ℕ) → only_inner n marks y ≡ true → is_inner n y ≡ false → has marks y ≡ false
unfolding only_inner
no-mark n marks y e i = not-true (has marks y) (sym (or-false (not (has marks y))) ∙ rw i at e)

-- no mark at node 0, and none from node n - 1 on
pub marks-test : (n marks : ℕ) → 2 ≤ n → n ≤ 64 → marks < 2 ^ 64
    → (eqb (marks / 2 ^ (n - 1)) 0 && eqb (marks % 2) 0) ≡ all_below 64 (only_inner n marks)
unfolding only_inner
marks-test n marks t s f =
    together (eqb (marks / 2 ^ (n - 1)) 0 && eqb (marks % 2) 0) (all_below 64 (only_inner n marks))
    (λ e. let a = and-true (eqb (marks / 2 ^ (n - 1)) 0) (eqb (marks % 2) 0) e in
    below-make 64 (only_inner n marks) (λ y l. decided (is_inner n y) (λ i. rw i (or-true (not (has marks y)))) (λ i. rw (clear a.0 a.1 y i) refl)))
    (λ e. let at : (y : ℕ) → y < 64 → is_inner n y ≡ false → has marks y ≡ false = λ y l i. no-mark n marks y (below_at 64 y (only_inner n marks) e l) i in
    rw (
      eq-eqb (marks / 2 ^ (n - 1)) 0 (none_shr marks (n - 1) f (λ y h l. at y l (outer n y (omega arith)))),
      eq-eqb (marks % 2) 0 (sym (digit-zero marks) ∙ digit_not marks 0 (at 0 (omega arith) (outer-first n))),
    ))
  where
    clear : eqb (marks / 2 ^ (n - 1)) 0 ≡ true → eqb (marks % 2) 0 ≡ true → (y : ℕ) → is_inner n y ≡ false → has marks y ≡ false
    clear p q y i =
        decided (eqb y 0)
        (λ z. rw (eqb-true y 0 z) (not_digit marks 0 (digit-zero marks ∙ eqb-true (marks % 2) 0 q)))
        (λ z. shr-none marks (n - 1) y (eqb-true (marks / 2 ^ (n - 1)) 0 p) (omega (arith, outer-past n y i (eqb-false y 0 z))))

-- ---- the levels

pub before-next : (l : List ℕ) (i : ℕ) → entry_before l (i + 1) ≡ get_or l i 0
unfolding entry_before
before-next l i = rw add-one refl

-- entries that do not fall are none of them above the last
risen : (k i : ℕ) (l : List ℕ) → all_below k (rises l) ≡ true → i < k → get_or l i 0 ≤ entry_before l k
unfolding entry_before rises
risen zero i l e h = absurd (omega arith)
risen (suc k) i l e h =
    decided (eqb i k) (λ z. rw (eqb-true i k z) (omega arith))
    (λ z. let n : i ≡ k → ⊥ = eqb-false i k z in
    let r = risen k i l (below-make k (rises l) (λ j g. below_at (suc k) j (rises l) e (omega arith))) (omega arith) in
    omega (arith, r, leb-true (entry_before l k) (get_or l k 0) (below_at (suc k) k (rises l) e (omega arith))))

-- an entry does not fall, from the one before it where there is one, and from itself where it is the first
level-rises : (l : List ℕ) (i : ℕ) → leb (get_or l (i - 1) 0) (get_or l i 0) ≡ rises l i
unfolding rises entry_before
level-rises l zero = le-leb (get_or l 0 0) (get_or l 0 0) (omega arith) ∙ sym (le-leb 0 (get_or l 0 0) (omega arith))
level-rises l (suc i) = let d : suc i - 1 ≡ i = omega arith in rw d refl

level-used : (depth records : ℕ) (l : List ℕ) → all_below depth (level_ok depth records l) ≡ (all_below depth (rises l) && leb (entry_before l depth) records)
unfolding level_ok entry_before
level-used depth records l =
    together (all_below depth (level_ok depth records l)) (all_below depth (rises l) && leb (entry_before l depth) records)
    (λ e. let at : (i : ℕ) → i < depth → (leb (get_or l i 0) records ≡ true) × (rises l i ≡ true) = λ i h.
    and-true (leb (get_or l i 0) records) (rises l i) (rw (lt-ltb i depth h, level-rises l i) at (below_at depth i (level_ok depth records l) e h)) in
    rw (below-make depth (rises l) (λ i h. (at i h).1)) (held depth (λ i h. (at i h).0)))
    (λ e. let a = and-true (all_below depth (rises l)) (leb (entry_before l depth) records) e in
    below-make depth (level_ok depth records l) (λ i h.
    let g : get_or l i 0 ≤ records = omega (arith, risen depth i l a.0 h, leb-true (entry_before l depth) records a.1) in
    rw (lt-ltb i depth h, le-leb (get_or l i 0) records g, level-rises l i) (below_at depth i (rises l) a.0 h)))
  where
    held : (k : ℕ) → ((i : ℕ) → i < k → leb (get_or l i 0) records ≡ true) → leb (entry_before l k) records ≡ true
    held zero h = le-leb 0 records (omega arith)
    held (suc k) h = h k (omega arith)

pub levels-test : (depth records : ℕ) (l : List ℕ) → depth ≤ 64
    → levels_ok depth records l ≡ ((all_below depth (rises l) && leb (entry_before l depth) records) && all_below 64 (zero_from depth l))
unfolding levels_ok level_ok
levels-test depth records l s =
    rw (le-leb depth 64 s)
    (used-none depth l (level_ok depth records l) s (λ i h. rw (le-ltb i depth h) refl)
    ∙ ap (λ (b : Bool). b && all_below 64 (zero_from depth l)) (level-used depth records l))

-- what is left to ask when the levels have been gone through
pub levels-asked : (depth records i u : ℕ) (l : List ℕ) → depth ≤ 64 → i ≡ depth → u ≡ entry_before l i → all_below i (rises l) ≡ true
    → levels_ok depth records l ≡ (leb u records && all_below 64 (zero_from depth l))
levels-asked depth records i u l s e p q = rw (levels-test depth records l s, ← e, q, ← p) refl

pub falls : (l : List ℕ) (i : ℕ) → get_or l i 0 < entry_before l i → rises l i ≡ false
unfolding rises
falls l i h = lt-leb (entry_before l i) (get_or l i 0) h
