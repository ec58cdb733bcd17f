-- The place of a node, nodes put in and taken out, and the entries as a set.
use mathlib.Core.Path.{◌≡◌, refl, ap, sym, ◌∙◌}
use mathlib.Core.Bool.{true, false, not}
use mathlib.Core.List.{List, [], ◌∷◌, ◌++◌}
use Prim.Native.Nat.{suc-le-suc, ℕ, zero, suc, ◌+◌, ◌-◌, ◌≤◌, ◌<◌, min}
use native.Mathlib.Omega.{arith}
use native.Mathlib.Numerals.{add-one}
use Rattle.std.specs.List.{copy_within}
use Rattle.std.specs.Prelude.{Some, None, cond, unwrap_or}
use Rattle.std.specs.List.{position_or_len}
use Rattle.std.proofs.lemmas.List.{append-nil}
use Rattle.std.proofs.lemmas.List.Recursion.{is_position_or_len}
use Rattle.std.proofs.lemmas.List.Sums.{prefix_len-le-length}
use Rattle.std.proofs.Math.ListN.{drop_of_length-le}
use lib.ListN.{length, get_or, set, take, drop, length-take, length-drop, length-append, get_or-append}
use lib.Seq.{get_or-take, get_or_at, take-take, take_at}
use lib.Dec.{eqb, ltb}
use borrow.Author.Tests.{eq-eqb, ne_eqb, eqb-true, eqb-false, ltb-true, ltb-false}
use Rattle.laws.proofs.Logic.{decided, T→true}
use Rattle.laws.specs.Basic.{mem}
use Rattle.bits.specs.Places.{has, with}
use Rattle.bits.proofs.Members.{false-true, has-none, with-same, with-other}
use Rattle.bits.proofs.Number.{members, members-none, members-with}
use Rattle.rules.proofs.AlongLaws.{mem-at}
use Rattle.board.specs.Route.{index_of, insert_in, remove_in, word_of}

-- ---- the place of a node

-- a search for p, and where it says that p stands
pub index-found : (p n : ℕ) (l : List ℕ) → n ≡ length l → let k = position_or_len (λ y. eqb y p) l in
    unwrap_or (cond (ltb k (length l)) (Some k) None) n ≡ index_of p l
unfolding index_of
index-found p n l long =
    let k = position_or_len (λ y. eqb y p) l in
    let same : index_of p l ≡ k =
    is_position_or_len (index_of p) (λ y. eqb y p) refl (λ y ys. let one : 1 + index_of p ys ≡ suc (index_of p ys) = omega arith in rw one refl) l in
    decided (ltb k (length l))
    (λ e. rw e (sym same))
    (λ e. rw e (omega (arith, same, ltb-false k (length l) e, prefix_len-le-length (λ y. not (eqb y p)) l)))

pub index-hit : (p : ℕ) (l : List ℕ) → index_of p l < length l → get_or l (index_of p l) 0 ≡ p
unfolding index_of
index-hit p [] h = absurd (omega arith)
index-hit p (y ∷ ys) h =
    decided (eqb y p) (λ e. rw e (eqb-true y p e))
    (λ e. let h' : suc (index_of p ys) < suc (length ys) = rw e at h in rw e (index-hit p ys (omega arith)))

pub index-first : (p k : ℕ) (l : List ℕ) → k < length l → get_or l k 0 ≡ p → index_of p l ≤ k
unfolding index_of
index-first p k [] h e = absurd (omega arith)
index-first p zero (y ∷ ys) h e = rw (eq-eqb y p e) (omega arith)
index-first p (suc k) (y ∷ ys) h e =
    decided (eqb y p) (λ q. rw q (omega arith)) (λ q. rw q (suc-le-suc (index-first p k ys (omega arith) e)))

-- ---- membership by places

pub entry-mem : (x k : ℕ) (l : List ℕ) → k < length l → get_or l k 0 ≡ x → mem x l ≡ true
entry-mem x k l h e = rw (← e) (T→true (mem (get_or l k 0) l) (mem-at l k h))

pub mem-none : (x : ℕ) (l : List ℕ) → ((k : ℕ) → k < length l → get_or l k 0 ≡ x → ⊥) → mem x l ≡ false
mem-none x [] h = refl
mem-none x (y ∷ ys) h = rw (ne_eqb y x (h 0 (omega arith))) (mem-none x ys (λ k l. h (suc k) (omega arith)))

pub mem-absent : (x k : ℕ) (l : List ℕ) → mem x l ≡ false → k < length l → get_or l k 0 ≡ x → ⊥
mem-absent x k l m h e = false-true (sym m ∙ entry-mem x k l h e)

-- a node stands in a list exactly if its place is one of the list's
pub index-mem : (x : ℕ) (l : List ℕ) → ltb (index_of x l) (length l) ≡ mem x l
index-mem x l =
    decided (ltb (index_of x l) (length l))
    (λ e. e ∙ sym (entry-mem x (index_of x l) l (ltb-true (index_of x l) (length l) e) (index-hit x l (ltb-true (index_of x l) (length l) e))))
    (λ e. e ∙ sym (mem-none x l (λ k h q. omega (arith, ltb-false (index_of x l) (length l) e, index-first x k l h q))))

pub mem_index : (x : ℕ) (l : List ℕ) → mem x l ≡ true → index_of x l < length l
mem_index x l m = ltb-true (index_of x l) (length l) (index-mem x l ∙ m)

-- ---- put in

pub length-insert : (k at x : ℕ) (l : List ℕ) → length l ≡ suc k → at ≤ k → length (insert_in k at x l) ≡ suc k
unfolding insert_in
length-insert k at x l e h = simp (length-append, length-take, length-drop) (omega arith)

pub insert-at : (k at x : ℕ) (l : List ℕ) → at ≤ length l → get_or (insert_in k at x l) at 0 ≡ x
unfolding insert_in
insert-at k at x l h = get_or_at (take at l) x (drop at (take k l)) 0 at (length-take at l ∙ (let e : min at (length l) ≡ at = omega arith in e))

pub insert-below : (k at x : ℕ) (l : List ℕ) → at ≤ length l → take at (insert_in k at x l) ≡ take at l
unfolding insert_in
insert-below k at x l h = take_at (take at l) (x ∷ drop at (take k l)) at (length-take at l ∙ (let e : min at (length l) ≡ at = omega arith in e))

pub insert-under : (k at x j : ℕ) (l : List ℕ) → at ≤ length l → j < at → get_or (insert_in k at x l) j 0 ≡ get_or l j 0
insert-under k at x j l b h =
    sym (get_or-take at (insert_in k at x l) j 0 h) ∙ ap (λ (t : List ℕ). get_or t j 0) (insert-below k at x l b) ∙ get_or-take at l j 0 h

pub insert-above : (k at x j : ℕ) (l : List ℕ) → length l ≡ suc k → at ≤ j → j < k → get_or (insert_in k at x l) (suc j) 0 ≡ get_or l j 0
unfolding insert_in
insert-above k zero x j l e h b = get_or-take k l j 0 b
insert-above k (suc at) x j [] e h b = absurd (omega arith)
insert-above zero (suc at) x j (y ∷ l) e h b = absurd (omega arith)
insert-above (suc k) (suc at) x zero (y ∷ l) e h b = absurd (omega arith)
insert-above (suc k) (suc at) x (suc j) (y ∷ l) e h b = insert-above k at x j l (omega arith) (omega arith) (omega arith)

-- on the route: before, x, after
pub insert-route : (k at x n : ℕ) (l : List ℕ) → at ≤ n → n ≤ k → n ≤ length l → take (suc n) (insert_in k at x l) ≡ take at (take n l) ++ x ∷ drop at (take n l)
unfolding insert_in
insert-route k zero x n l h b c = ap (λ (t : List ℕ). x ∷ t) (take-take n k l b)
insert-route k (suc at) x zero l h b c = absurd (omega arith)
insert-route zero (suc at) x (suc n) l h b c = absurd (omega arith)
insert-route (suc k) (suc at) x (suc n) [] h b c = absurd (omega arith)
insert-route (suc k) (suc at) x (suc n) (y ∷ l) h b c = ap (λ (t : List ℕ). y ∷ t) (insert-route k at x n l (omega arith) (omega arith) (omega arith))

-- ---- taken out

pub length-remove : (at : ℕ) (l : List ℕ) → at < length l → length (remove_in at l) ≡ length l
unfolding remove_in
length-remove at l h = simp (length-append, length-take, length-drop) (omega arith)

pub remove-below : (at : ℕ) (l : List ℕ) → at < length l → take at (remove_in at l) ≡ take at l
unfolding remove_in
remove-below at l h = take_at (take at l) (drop (suc at) l ++ 0 ∷ []) at (length-take at l ∙ (let e : min at (length l) ≡ at = omega arith in e))

pub remove-under : (at j : ℕ) (l : List ℕ) → at < length l → j < at → get_or (remove_in at l) j 0 ≡ get_or l j 0
remove-under at j l b h =
    sym (get_or-take at (remove_in at l) j 0 h) ∙ ap (λ (t : List ℕ). get_or t j 0) (remove-below at l b) ∙ get_or-take at l j 0 h

pub remove-above : (at j : ℕ) (l : List ℕ) → at ≤ j → suc j < length l → get_or (remove_in at l) j 0 ≡ get_or l (suc j) 0
unfolding remove_in
remove-above at j [] h b = absurd (omega arith)
remove-above zero j (y ∷ l) h b = get_or-append l (0 ∷ []) 0 j (omega arith)
remove-above (suc at) zero (y ∷ l) h b = absurd (omega arith)
remove-above (suc at) (suc j) (y ∷ l) h b = remove-above at j l (omega arith) (omega arith)

pub remove-last : (at k : ℕ) (l : List ℕ) → at ≤ k → length l ≡ suc k → get_or (remove_in at l) k 0 ≡ 0
unfolding remove_in
remove-last at k [] h e = absurd (omega arith)
remove-last zero k (y ∷ l) h e = get_or_at l 0 [] 0 k (omega arith)
remove-last (suc at) zero (y ∷ l) h e = absurd (omega arith)
remove-last (suc at) (suc k) (y ∷ l) h e = remove-last at k l (omega arith) (omega arith)

-- the entries from `at` on copied one place up, and x put in their way
pub insert-copy : (k at x : ℕ) (l : List ℕ) → length l ≡ suc k → at ≤ k → set (copy_within l at k (suc at)) at x ≡ insert_in k at x l
unfolding insert_in
insert-copy k at x [] e h = absurd (omega arith)
insert-copy k zero x (y ∷ l) e h =
    let long : length l ≤ k = omega arith in
    let whole : k - 0 ≡ k = omega arith in
    let past : 1 + k ≡ suc k = omega arith in
    ap (λ (t : List ℕ). x ∷ t) (rw (whole, past, drop_of_length-le l long) (append-nil (take k (y ∷ l))))
insert-copy zero (suc at) x (y ∷ l) e h = absurd (omega arith)
insert-copy (suc k) (suc at) x (y ∷ l) e h =
    let same : suc k - suc at ≡ k - at = omega arith in
    let past : suc (suc at) + (k - at) ≡ suc (suc at + (k - at)) = omega arith in
    rw (same, past) (ap (λ (t : List ℕ). y ∷ t) (insert-copy k at x l (omega arith) (omega arith)))

-- taking out what was put in gives the array back, where its last entry was 0
pub remove-insert : (k at x : ℕ) (l : List ℕ) → length l ≡ suc k → at ≤ k → get_or l k 0 ≡ 0 → remove_in at (insert_in k at x l) ≡ l
unfolding remove_in insert_in
remove-insert k at x [] e h z = absurd (omega arith)
remove-insert zero zero x (y ∷ []) e h z = ap (λ (t : ℕ). t ∷ []) (sym z)
remove-insert zero zero x (y ∷ w ∷ l) e h z = absurd (omega arith)
remove-insert (suc k) zero x (y ∷ l) e h z = ap (λ (t : List ℕ). y ∷ t) (remove-insert k zero x l (omega arith) (omega arith) z)
remove-insert zero (suc at) x (y ∷ l) e h z = absurd (omega arith)
remove-insert (suc k) (suc at) x (y ∷ l) e h z = ap (λ (t : List ℕ). y ∷ t) (remove-insert k at x l (omega arith) (omega arith) z)

-- ---- the entries as a set

pub word_none : (l : List ℕ) → word_of 0 l ≡ 0
unfolding word_of
word_none l = refl

pub word_more : (k : ℕ) (l : List ℕ) → word_of (k + 1) l ≡ with (word_of k l) (get_or l k 0)
unfolding word_of
word_more k l = rw add-one

pub word-has : (k : ℕ) (l : List ℕ) (i q : ℕ) → i < k → get_or l i 0 ≡ q → q < 64 → has (word_of k l) q ≡ true
unfolding word_of
word-has zero l i q h e s = absurd (omega arith)
word-has (suc k) l i q h e s =
    decided (eqb q (get_or l k 0))
    (λ z. let y = eqb-true q (get_or l k 0) z in rw (← y) (with-same (word_of k l) q s))
    (λ z. let y : q ≡ get_or l k 0 → ⊥ = eqb-false q (get_or l k 0) z in
    with-other (word_of k l) (get_or l k 0) q y
    ∙ word-has k l i q (decided (eqb i k) (λ w. absurd (y (sym e ∙ ap (λ (j : ℕ). get_or l j 0) (eqb-true i k w)))) (λ w. let v : i ≡ k → ⊥ = eqb-false i k w in omega arith)) e s)

pub word-find : (k : ℕ) (l : List ℕ) (q : ℕ) → has (word_of k l) q ≡ true → (i : ℕ) × (i < k) × (get_or l i 0 ≡ q)
unfolding word_of
word-find zero l q h = absurd (false-true (sym (has-none q) ∙ h))
word-find (suc k) l q h =
    decided (eqb q (get_or l k 0)) (λ z. (k, omega arith, sym (eqb-true q (get_or l k 0) z)))
    (λ z. let r = word-find k l q (sym (with-other (word_of k l) (get_or l k 0) q (eqb-false q (get_or l k 0) z)) ∙ h) in (r.0, omega (arith, r.1), r.2))

pub word-not : (k : ℕ) (l : List ℕ) (q : ℕ) → ((i : ℕ) → i < k → get_or l i 0 ≡ q → ⊥) → has (word_of k l) q ≡ false
word-not k l q h = decided (has (word_of k l) q) (λ e. let f = word-find k l q e in absurd (h f.0 f.1 f.2)) (λ e. e)

-- one bit tells whether a node stands among the first entries
pub word-mem : (k : ℕ) (l : List ℕ) (q : ℕ) → q < 64 → k ≤ length l → has (word_of k l) q ≡ mem q (take k l)
word-mem k l q s b =
    decided (mem q (take k l))
    (λ m. let i = index_of q (take k l) in
    let d = mem_index q (take k l) m in
    let d' : i < k = omega (arith, d, length-take k l) in
    word-has k l i q d' (sym (get_or-take k l i 0 d') ∙ index-hit q (take k l) d) s ∙ sym m)
    (λ m. word-not k l q (λ i h e. mem-absent q i (take k l) m (omega (arith, length-take k l)) (get_or-take k l i 0 h ∙ e)) ∙ sym m)

-- distinct entries below n are counted once each
pub word-members : (n k : ℕ) (l : List ℕ) → n ≤ 64 → ((i : ℕ) → i < k → get_or l i 0 < n) → ((i j : ℕ) → i < k → j < i → get_or l j 0 ≡ get_or l i 0 → ⊥)
    → members n (word_of k l) ≡ k
unfolding word_of
word-members n zero l s b d = members-none n
word-members n (suc k) l s b d =
    let e = get_or l k 0 in
    let c = members-with n (word_of k l) e (b k (omega arith)) (omega (arith, b k (omega arith))) (word-not k l e (λ i h. d k i (omega arith) h)) in
    omega (arith, c, word-members n k l s (λ i h. b i (omega arith)) (λ i j h g. d i j (omega arith) g))
