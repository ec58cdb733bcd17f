-- What was pushed is read back; the loops that count and write a settling's records.
use mathlib.Core.Path.{◌≡◌, refl, ap, sym, ◌∙◌}
use mathlib.Core.List.{List}
use Prim.Native.Nat.{ℕ, zero, suc, ◌+◌, ◌-◌, ◌*◌, ◌/◌, ◌≤◌, ◌<◌}
use native.Mathlib.Numerals.{add-one}
use native.Mathlib.Omega.{arith}
use lib.ListN.{length, get_or, set, length-set}
use lib.Seq.{get_or-set_same, get_or-set_other}
use lib.Dec.{eqb}
use borrow.Author.Tests.{eq-eqb, ne_eqb, eqb-true, eqb-false}
use Rattle.laws.proofs.Logic.{decided}
use Rattle.records.specs.Trail.{room_of, pushed, first_of, second_of, change, first_word, Alike, shrunk, note_one, note_below, record_kind, record_node}

-- the record count and the trail
abbrev pub Noted : Type 0
Noted = ℕ × List ℕ

-- ---- the kind and the node of a first word

pub kind-of : (k x : ℕ) → x < 64 → record_kind (first_word k x) ≡ k
kind-of k x h = omega arith

pub node_of : (k x : ℕ) → x < 64 → record_node (first_word k x) ≡ x
node_of k x h = omega arith

-- ---- a record written

pub pushed-first : (t : List ℕ) (i a w : ℕ) → i < room_of t → first_of (pushed t i a w) i ≡ a
unfolding pushed room_of first_of
pushed-first t i a w h =
    get_or-set_other (set t (2 * i) a) (2 * i + 1) (2 * i) w 0 (λ e. omega arith) ∙ get_or-set_same t (2 * i) a 0 (omega arith)

pub pushed-second : (t : List ℕ) (i a w : ℕ) → i < room_of t → second_of (pushed t i a w) i ≡ w
unfolding pushed room_of second_of
pushed-second t i a w h = get_or-set_same (set t (2 * i) a) (2 * i + 1) w 0 (simp length-set (omega arith))

pub pushed_long : (t : List ℕ) (i a w : ℕ) → length (pushed t i a w) ≡ length t
unfolding pushed
pushed_long t i a w = simp length-set

pub pushed_room : (t : List ℕ) (i a w : ℕ) → room_of (pushed t i a w) ≡ room_of t
unfolding room_of
pushed_room t i a w = ap (λ (k : ℕ). k / 2) (pushed_long t i a w)

-- every other word stays
pub pushed-other : (t : List ℕ) (i a w k : ℕ) → (k ≡ 2 * i → ⊥) → (k ≡ 2 * i + 1 → ⊥) → get_or (pushed t i a w) k 0 ≡ get_or t k 0
unfolding pushed
pushed-other t i a w k d e = get_or-set_other (set t (2 * i) a) (2 * i + 1) k w 0 e ∙ get_or-set_other t (2 * i) k a 0 d

-- ---- how many sets shrank

pub shrunk-none : (old new : List ℕ) → 0 ≡ shrunk old new 0
unfolding shrunk
shrunk-none old new = refl

shrunk-more : (old new : List ℕ) (j k : ℕ) → shrunk old new k ≤ shrunk old new (j + k)
unfolding shrunk
shrunk-more old new zero k = let e : 0 + k ≡ k = omega arith in rw e (omega arith)
shrunk-more old new (suc j) k = let e : suc j + k ≡ suc (j + k) = omega arith in rw e (omega (arith, shrunk-more old new j k))

pub shrunk-upto : (old new : List ℕ) (k n : ℕ) → k ≤ n → shrunk old new k ≤ shrunk old new n
shrunk-upto old new k n h = let e : (n - k) + k ≡ n = omega arith in rw e at (shrunk-more old new (n - k) k)

pub shrunk-differ : (old new : List ℕ) (k : ℕ) → (get_or old k 0 ≡ get_or new k 0 → ⊥) → shrunk old new (k + 1) ≡ shrunk old new k + 1
unfolding shrunk
shrunk-differ old new k d = rw (add-one k, ne_eqb (get_or old k 0) (get_or new k 0) d)

pub shrunk-same : (old new : List ℕ) (k : ℕ) → get_or old k 0 ≡ get_or new k 0 → shrunk old new (k + 1) ≡ shrunk old new k
unfolding shrunk
shrunk-same old new k d = rw (add-one k, eq-eqb (get_or old k 0) (get_or new k 0) d) (let e : shrunk old new k + 0 ≡ shrunk old new k = omega arith in e)

-- ---- their records

pub note-none : (old new : List ℕ) (b : Noted) → note_below old new 0 b ≡ b
unfolding note_below
note-none old new b = refl

pub note-next : (old new : List ℕ) (k : ℕ) (b : Noted) {c e : Noted} → note_below old new k b ≡ c → note_one (get_or old k 0) (get_or new k 0) k c ≡ e → note_below old new (k + 1) b ≡ e
unfolding note_below
note-next old new k b p q = rw (add-one k) (ap (note_one (get_or old k 0) (get_or new k 0) k) p ∙ q)

pub note-same : (w v y : ℕ) (b : Noted) → w ≡ v → note_one w v y b ≡ b
unfolding note_one
note-same w v y b e = rw (eq-eqb w v e)

pub note-differ : (w v y : ℕ) (b : Noted) → (w ≡ v → ⊥) → note_one w v y b ≡ (b.0 + 1, pushed b.1 b.0 (first_word change.SHRINKING y) w)
unfolding note_one
note-differ w v y b d = rw (ne_eqb w v d)

-- one record more where the set differs, and the trail as long
pub note-grows : (old new : List ℕ) (y r i : ℕ) (t : List ℕ) (c : Noted) → note_one (get_or old y 0) (get_or new y 0) y (i, t) ≡ c → i ≡ r + shrunk old new y
    → (c.0 ≡ r + shrunk old new (y + 1)) × (length c.1 ≡ length t)
note-grows old new y r i t c h e =
    decided (eqb (get_or old y 0) (get_or new y 0))
    (λ p. let q = eqb-true (get_or old y 0) (get_or new y 0) p in
    let z : c ≡ (i, t) = sym h ∙ note-same (get_or old y 0) (get_or new y 0) y (i, t) q in
    rw z (omega (arith, e, shrunk-same old new y q), refl))
    (λ p. let q = eqb-false (get_or old y 0) (get_or new y 0) p in
    let z : c ≡ (i + 1, pushed t i (first_word change.SHRINKING y) (get_or old y 0)) = sym h ∙ note-differ (get_or old y 0) (get_or new y 0) y (i, t) q in
    rw z (omega (arith, e, shrunk-differ old new y q), pushed_long t i (first_word change.SHRINKING y) (get_or old y 0)))

-- all of them: the count, and a trail as long
pub note-all : (old new : List ℕ) (k r : ℕ) (t : List ℕ) → ((note_below old new k (r, t)).0 ≡ r + shrunk old new k) × (length (note_below old new k (r, t)).1 ≡ length t)
unfolding note_below shrunk
note-all old new zero r t = (omega arith, refl)
note-all old new (suc k) r t =
    let h = note-all old new k r t in
    let b = note_below old new k (r, t) in
    let g = note-grows old new k r b.0 b.1 (note_one (get_or old k 0) (get_or new k 0) k b) refl h.0 in
    (g.0 ∙ ap (λ (j : ℕ). r + shrunk old new j) (add-one k), g.1 ∙ h.1)

-- ---- sets that stay need no record

pub shrunk-still : (ws : List ℕ) (k : ℕ) → shrunk ws ws k ≡ 0
unfolding shrunk
shrunk-still ws zero = refl
shrunk-still ws (suc k) = rw (shrunk-still ws k, eq-eqb (get_or ws k 0) (get_or ws k 0) refl) refl

pub note-still : (ws : List ℕ) (k : ℕ) (b : Noted) → note_below ws ws k b ≡ b
unfolding note_below
note-still ws zero b = refl
note-still ws (suc k) b = note-same (get_or ws k 0) (get_or ws k 0) k _ refl ∙ note-still ws k b

-- ---- past the nodes where the sets differ none is counted and none written

shrunk-past : (old new : List ℕ) (n j : ℕ) → Alike n old new → shrunk old new n ≡ shrunk old new (j + n)
shrunk-past old new n zero h = let e : 0 + n ≡ n = omega arith in rw e refl
shrunk-past old new n (suc j) h =
    let e : suc j + n ≡ j + n + 1 = omega arith in
    rw e (shrunk-past old new n j h ∙ sym (shrunk-same old new (j + n) (h (j + n) (omega arith))))

pub shrunk-end : (old new : List ℕ) (n k : ℕ) → n ≤ k → Alike n old new → shrunk old new n ≡ shrunk old new k
shrunk-end old new n k l h = let e : (k - n) + n ≡ k = omega arith in rw e at (shrunk-past old new n (k - n) h)

note-past : (old new : List ℕ) (n j : ℕ) (b : Noted) → Alike n old new → note_below old new (j + n) b ≡ note_below old new n b
note-past old new n zero b h = let e : 0 + n ≡ n = omega arith in rw e refl
note-past old new n (suc j) b h =
    let e : suc j + n ≡ j + n + 1 = omega arith in
    rw e (note-next old new (j + n) b (note-past old new n j b h) (note-same _ _ (j + n) _ (h (j + n) (omega arith))))

pub note-end : (old new : List ℕ) (n k : ℕ) (b : Noted) → n ≤ k → Alike n old new → note_below old new k b ≡ note_below old new n b
note-end old new n k b l h = let e : (k - n) + n ≡ k = omega arith in rw e at (note-past old new n (k - n) b h)
