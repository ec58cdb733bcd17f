-- What the code asks of the rows of a square, strip by strip, is the triangle rule of the table that it holds.
use Prim.Native.Nat.{ℕ, ◌+◌, ◌-◌, ◌*◌, ◌<◌, ◌≤◌}
use mathlib.Core.Path.{◌≡◌, refl, sym, ◌∙◌}
use mathlib.Core.Bool.{Bool, true, false, ◌&&◌}
use mathlib.Core.List.{List}
use native.Mathlib.Omega.{arith}
use native.Mathlib.Nat.{add_assoc, le_antisymm}
use lib.ListN.{get_or}
use lib.Dec.{T, leb, ltb, eqb}
use borrow.Author.Tests.{eqb-true, eqb-false, eq-eqb, ne_eqb, le-leb, lt-ltb, le-ltb, ltb-true, ltb-false}
use Rattle.laws.proofs.Logic.{decided, T-ext, true→T, T→true, and-true}
use Rattle.laws.proofs.Below.{below_none, below_at, below-make, below-same, below_both, below-ends, below-join}
use Rattle.laws.specs.Basic.{all_below}
use Rattle.rules.specs.Day.{shortest_at, shortest_line, shortest_row, triangle}
use Rattle.tables.specs.Square.{held, Squared, line_ok, entry_asked, strip_ok, row_ok}

-- what was asked of a strip of row i and of row j, which begins at b
pub strip-is : (l : List ℕ) (w i j k m : ℕ) {b : ℕ} {r : Bool} → b ≡ j * w
    → r ≡ all_below m (line_ok l (get_or l (i * w + j) 0) (get_or l (b + i) 0) (i * w + k) (b + k)) → r ≡ strip_ok l w i k m j
unfolding entry_asked
strip-is l w i j k m e q =
    q
    ∙ rw e
    (below-same m (line_ok l (get_or l (i * w + j) 0) (get_or l (j * w + i) 0) (i * w + k) (j * w + k)) (λ v. entry_asked l w i j (k + v))
    (λ v h. rw (add_assoc (i * w) k v, add_assoc (j * w) k v)))

-- ---- a loop that gathers the strips of row i: those before k in a, and the next one in b

pub strips-none : (l : List ℕ) (w i : ℕ) → all_below i (λ j. all_below 0 (entry_asked l w i j)) ≡ true
strips-none l w i = below-make i (λ j. all_below 0 (entry_asked l w i j)) (λ j h. below_none (entry_asked l w i j))

module _ (l : List ℕ) (w i k : ℕ) where
  pub strips-more : (m : ℕ) {a b : Bool} → all_below i (λ j. all_below k (entry_asked l w i j)) ≡ a → b ≡ all_below i (strip_ok l w i k m)
      → all_below i (λ j. all_below (k + m) (entry_asked l w i j)) ≡ (a && b)
  strips-more m p q =
      below_both i (λ j. all_below k (entry_asked l w i j)) (strip_ok l w i k m) (λ j. all_below (k + m) (entry_asked l w i j)) (λ j. below-join k m (entry_asked l w i j))
      ∙ (λ u. p u && sym q u)

  pub strips-done : k ≤ w → {a b : Bool} → all_below i (λ j. all_below k (entry_asked l w i j)) ≡ a → b ≡ all_below i (strip_ok l w i k (w - k)) → (a && b) ≡ row_ok l w i
  strips-done h p q = let e : k + (w - k) ≡ w = omega arith in sym (rw e at (strips-more (w - k) p q))

-- ---- two rows of a table that is held

-- the rule from i over j, and from j over i, for every k
unfoldable both_lines : ℕ → (ℕ → ℕ → ℕ) → ℕ → ℕ → Bool
both_lines n t i j = shortest_line n t i j && shortest_line n t j i

-- what is asked of rows i and j
abbrev asked : ℕ → (ℕ → ℕ → ℕ) → ℕ → ℕ → ℕ → Bool
asked n t i j k = leb (held n t i k) (held n t i j + held n t j k) && leb (held n t j k) (held n t j i + held n t i k)

module _ (n : ℕ) (t : ℕ → ℕ → ℕ) {i j : ℕ} (h : j < i) (b : i < n) where
  ij : eqb i j ≡ false
  ij = ne_eqb i j (λ z. absurd (omega arith))

  ji : eqb j i ≡ false
  ji = ne_eqb j i (λ z. absurd (omega arith))

  there-is : held n t i j ≡ t i j
  there-is = rw (ji, lt-ltb j n (omega arith))

  back_is : held n t j i ≡ t j i
  back_is = rw (ij, lt-ltb i n b)

  -- behind the rows' ends it passes
  asked-end : (k : ℕ) → n ≤ k → asked n t i j k ≡ true
  asked-end k m =
      rw (ne_eqb k i (λ z. absurd (omega arith)), ne_eqb k j (λ z. absurd (omega arith)), le-ltb k n m)
      (rw (le-leb 0 (held n t i j + 0) (omega arith), le-leb 0 (held n t j i + 0) (omega arith)))

  -- before that it is the rule, both ways round
  asked-rule : (k : ℕ) → k < n → asked n t i j k ≡ (shortest_at t i j k && shortest_at t j i k)
  asked-rule k l =
      rw (there-is, back_is)
      (decided (eqb k j)
      (λ e. rw (e, eqb-true k j e, eq-eqb j j refl, ij, ji, lt-ltb j n (omega arith), le-leb (t i j) (t i j + 0) (omega arith), le-leb 0 (t j i + t i j) (omega arith)))
      (λ e. decided (eqb k i)
      (λ f. rw (e, f, eqb-true k i f, eq-eqb i i refl, ij, ji, lt-ltb i n b, le-leb 0 (t i j + t j i) (omega arith), le-leb (t j i) (t j i + 0) (omega arith)))
      (λ f. let kj = eqb-false k j e in let ki = eqb-false k i f in rw (e, f, lt-ltb k n l, ij, ji, ne_eqb j k (λ z. kj (sym z)), ne_eqb i k (λ z. ki (sym z))))))

  asked-both : (w : ℕ) → n ≤ w → all_below w (asked n t i j) ≡ both_lines n t i j
  unfolding both_lines shortest_line
  asked-both w m =
      let e : w - n + n ≡ w = omega arith in
      (rw e at (below-ends (w - n) n (asked n t i j) asked-end))
      ∙ below-same n (asked n t i j) (λ k. shortest_at t i j k && shortest_at t j i k) asked-rule
      ∙ below_both n (shortest_at t i j) (shortest_at t j i) _ (λ k. refl)

-- ---- every two rows

-- from i over i there is nothing to ask
line-own : (n : ℕ) (t : ℕ → ℕ → ℕ) (i : ℕ) → shortest_line n t i i ≡ true
unfolding shortest_line
line-own n t i = below-make n (shortest_at t i i) (λ k l. rw (eq-eqb i i refl))

-- the pair of rows i and j, whichever comes first
pair-at : (n : ℕ) (t : ℕ → ℕ → ℕ) → all_below n (λ i. all_below i (both_lines n t i)) ≡ true → (i j : ℕ) → i < n → j < i
    → (shortest_line n t i j ≡ true) × (shortest_line n t j i ≡ true)
unfolding both_lines
pair-at n t h i j a b = and-true _ _ (below_at i j (both_lines n t i) (below_at n i (λ q. all_below q (both_lines n t q)) h a) b)

line_at : (n : ℕ) (t : ℕ → ℕ → ℕ) → all_below n (λ i. all_below i (both_lines n t i)) ≡ true → (i j : ℕ) → i < n → j < n → shortest_line n t i j ≡ true
line_at n t h i j a b =
    decided (ltb j i)
    (λ e. (pair-at n t h i j a (ltb-true j i e)).0)
    (λ e. decided (ltb i j)
    (λ f. (pair-at n t h j i b (ltb-true i j f)).1)
    (λ f. let q : i ≡ j = le_antisymm (ltb-false j i e) (ltb-false i j f) in rw q (line-own n t j)))

-- each pair of rows once is every row against every other
pairs-all : (n : ℕ) (t : ℕ → ℕ → ℕ) → all_below n (λ i. all_below i (both_lines n t i)) ≡ triangle n t
unfolding triangle shortest_row both_lines
pairs-all n t =
    T-ext _ _
    (λ h. true→T _ (below-make n (shortest_row n t) (λ i a. below-make n (shortest_line n t i) (λ j b. line_at n t (T→true _ h) i j a b))))
    (λ h. true→T _ (below-make n (λ i. all_below i (both_lines n t i)) (λ i a. below-make i (both_lines n t i) (λ j b. both i j a b h))))
  where
    line : T (triangle n t) → (i j : ℕ) → i < n → j < n → shortest_line n t i j ≡ true
    line h i j a b = below_at n j (shortest_line n t i) (below_at n i (shortest_row n t) (T→true _ h) a) b

    both : (i j : ℕ) → i < n → j < i → T (triangle n t) → both_lines n t i j ≡ true
    both i j a b h = rw (line h i j a (omega arith), line h j i (omega arith) a)

-- of every row that is held, it is the triangle rule
pub rows-rule : {n w : ℕ} {t : ℕ → ℕ → ℕ} {l : List ℕ} → Squared n w t n l → n ≤ w → all_below n (row_ok l w) ≡ triangle n t
unfolding entry_asked
rows-rule {n} {w} {t} {l} g m =
    below-same n (row_ok l w) (λ i. all_below i (both_lines n t i))
    (λ i a. below-same i (λ j. all_below w (entry_asked l w i j)) (both_lines n t i) (λ j b. line i j a b))
    ∙ pairs-all n t
  where
    line : (i j : ℕ) → i < n → j < i → all_below w (entry_asked l w i j) ≡ both_lines n t i j
    line i j a b =
        below-same w (entry_asked l w i j) (asked n t i j)
        (λ k c. rw (g.at i a k c, g.at j (omega arith) k c, g.at i a j (omega arith), g.at j (omega arith) i (omega arith)))
        ∙ asked-both n t b a w m
