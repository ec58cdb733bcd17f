-- The jobs one after the other over the words: loads that all fit strike nothing; each transfer finds its words as they were at the beginning, and
-- the flag tells whether any was struck.
use mathlib.Core.Path.{◌≡◌, refl, sym, ap, ◌∙◌, subst}
use Prim.Native.Nat.{ℕ, ◌+◌, ◌-◌, ◌<◌, ◌≤◌}
use mathlib.Core.Bool.{Bool, true, false, not, ◌&&◌, ◌||◌, or-true, or_assoc}
use mathlib.Core.List.{List}
use mathlib.Core.Logic.{◌≢◌}
use native.Mathlib.Omega.{arith}
use lib.Dec.{T, eqb}
use lib.ListN.{get_or, set, length, length-set}
use lib.Seq.{ext_get_or, get_or-set_same, get_or-set_other}
use borrow.Author.Tests.{eqb-true, eqb-false, eq-eqb}
use Rattle.laws.proofs.Logic.{decided, T-ext, T→true, true→T, and_i, and_l, and_r, or-false}
use Rattle.laws.proofs.Below.{below-make}
use Rattle.laws.specs.Basic.{peak}
use Rattle.laws.proofs.Peak.{peak-most}
use Rattle.rules.specs.Load.{load_of}
use Rattle.rules.specs.declared.Job.{Job}
use Rattle.rules.specs.declared.Job.TheVariants.{Clean, Soiled, Transfer}
use Rattle.day.specs.Refuse.{end_at}
use Rattle.walks.specs.Walks.{Kept, Legs, rides_up, rides_down}
use Rattle.walks.proofs.WalkLaws.{kept-all, kept-once, kept-zero}
use Rattle.walks.proofs.Riding.{start-roomy, end-roomy}
use Rattle.along.specs.Sets.{places_in}
use Rattle.bits.proofs.Members.{word-ext}
use Rattle.settle.specs.declared.strike.Pass.{Pass}
use Rattle.settle.specs.Round.{Kepts, at_node, ride_of, load_rides, load_leaves, pair_leaves, jobs_leave, same_sets}
use Rattle.settle.proofs.RoundLaws.{kepts-all, kepts-one, kepts-both}
use Rattle.settle.proofs.Facts.{kepts-less}
use Rattle.settle.proofs.Struck.{same-sets, sets_same}

-- ---- where the heaviest load fits on the fullest leg, no clean or soiled load strikes

module _ {l h : List ℕ} (p : Pass) where
  load-spared : (q : Job) → Legs l h (ride_of p (load_of q)) → p.peaks.highest + load_of q ≤ p.van.capacity → (y i : ℕ) → i < p.stops - 1
      → load_leaves h p q y i ≡ true
  unfolding load_rides
  load-spared (Clean a w) g e y i b = ap (λ (t : Bool). not (eqb a y) || t) (start-roomy g e i b) ∙ or-true (not (eqb a y))
  load-spared (Soiled a w) g e y i b = ap (λ (t : Bool). not (eqb a y) || t) (end-roomy g e i b) ∙ or-true (not (eqb a y))
  load-spared (Transfer a c w) g e y i b = or-true (not (eqb a y))

  pub loads-spared : {ws : List ℕ} → length ws ≡ 64 → (g : ℕ → Job) (m : ℕ) → ((k : ℕ) → k < m → Legs l h (ride_of p (load_of (g k))))
      → p.peaks.heaviest ≡ peak (λ k. load_of (g k)) m → p.peaks.highest + p.peaks.heaviest ≤ p.van.capacity
      → Kepts l (p.stops - 1) (jobs_leave (load_leaves h p) g m) ws ws
  unfolding jobs_leave
  loads-spared n g m legs e a = kepts-all n (λ y i b. below-make m _
      (λ k c. load-spared (g k) (legs k c) (omega (arith, peak-most (λ k. load_of (g k)) m k c)) y i b))

-- ---- a transfer finds its words as they were

-- a job with no end at y leaves its places
pub away : (ws l h : List ℕ) (p : Pass) (q : Job) (y i : ℕ) → end_at y q ≡ false → pair_leaves ws l h p q y i ≡ true
unfolding pair_leaves
away ws l h p (Clean a w) y i e = refl
away ws l h p (Soiled a w) y i e = refl
away ws l h p (Transfer a b w) y i e = let n = or-false (eqb a y) (eqb b y) e in rw (n.0, n.1) refl

-- the jobs before the j-th of g have struck nothing of the nodes of that one
module _ (g : ℕ → Job) {ws us l : List ℕ} (h : List ℕ) (p : Pass) (j : ℕ)
    (apart : (a b w : ℕ) → g j ≡ Transfer a b w → (i : ℕ) → i < j → (end_at a (g i) || end_at b (g i)) ≡ false)
    (k : Kepts l (p.stops - 1) (jobs_leave (pair_leaves ws l h p) g j) ws us) where
  still : {a b w : ℕ} → g j ≡ Transfer a b w → (get_or us a 0 ≡ get_or ws a 0) × (get_or us b 0 ≡ get_or ws b 0)
  unfolding jobs_leave
  still {a} {b} {w} e = (
    go a (λ i m. (or-false (end_at a (g i)) (end_at b (g i)) (apart a b w e i m)).0),
    go b (λ i m. (or-false (end_at a (g i)) (end_at b (g i)) (apart a b w e i m)).1),
  )
    where
      go : (y : ℕ) → ((i : ℕ) → i < j → end_at y (g i) ≡ false) → get_or us y 0 ≡ get_or ws y 0
      go y n = kept-once (k.at y) (kept-all (λ i. below-make j _ (λ q m. away ws l h p (g q) y i (n q m))))

  pub pair_turn : (q : Job) → q ≡ g j → (y i : ℕ) → pair_leaves us l h p q y i ≡ pair_leaves ws l h p q y i
  unfolding pair_leaves
  pair_turn (Clean a w) e y i = refl
  pair_turn (Soiled a w) e y i = refl
  pair_turn (Transfer a b w) e y i = let z = still (sym e) in
      λ u. at_node a (rides_down l h (ride_of p w) (record { node = b; places = z.1 u })) y i
      && at_node b (rides_up l h (ride_of p w) (record { node = a; places = z.0 u })) y i

-- both ends of one, each against its own word
pub kepts-two : {l : List ℕ} {legs : ℕ} {f g : ℕ → Bool} {ws : List ℕ} {x y c d : ℕ} → length ws ≡ 64 → x < 64 → y < 64 → x ≢ y
    → Kept l 0 legs f (get_or ws x 0) c → Kept l 0 legs g (get_or ws y 0) d
    → Kepts l legs (λ z i. at_node x f z i && at_node y g z i) ws (set (set ws x c) y d)
kepts-two {l} {legs} {f} {g} {ws} {x} {y} {c} {d} n a b ne k m =
    let o = kepts-one x n a k in
    let e : get_or (set ws x c) y 0 ≡ get_or ws y 0 = get_or-set_other ws x y c 0 (λ z. ne (sym z)) in
    kepts-both o (kepts-one y o.long b (subst (λ (w : ℕ). Kept l 0 legs g w d) (sym e) m))

-- two ends with no place have none to lose
pub kepts-empty : {l : List ℕ} {legs : ℕ} (f g : ℕ → Bool) {ws : List ℕ} (x y : ℕ) → length ws ≡ 64 → get_or ws x 0 ≡ 0 → get_or ws y 0 ≡ 0
    → Kepts l legs (λ z i. at_node x f z i && at_node y g z i) ws ws
kepts-empty {l} {legs} f g {ws} x y n a b = record { long = n; at = go }
  where
    none : (z : ℕ) → get_or ws z 0 ≡ 0 → Kept l 0 legs (λ i. at_node x f z i && at_node y g z i) (get_or ws z 0) (get_or ws z 0)
    none z e = subst (λ (w : ℕ). Kept l 0 legs (λ i. at_node x f z i && at_node y g z i) (get_or ws z 0) w) (sym e) (kept-zero e)

    go : (z : ℕ) → Kept l 0 legs (λ i. at_node x f z i && at_node y g z i) (get_or ws z 0) (get_or ws z 0)
    go z = decided (eqb x z) (λ e. none z (ap (λ (k : ℕ). get_or ws k 0) (sym (eqb-true x z e)) ∙ a))
        (λ e. decided (eqb y z) (λ q. none z (ap (λ (k : ℕ). get_or ws k 0) (sym (eqb-true y z q)) ∙ b)) (λ q. kept-all (λ i. rw (e, q) refl)))

-- ---- the flag

-- two words that are set are as they were: nothing is struck
pub same-two : (ws : List ℕ) (x y c d : ℕ) → length ws ≡ 64 → x < 64 → y < 64 → x ≢ y
    → same_sets ws (set (set ws x c) y d) ≡ (eqb (get_or ws x 0) c && eqb (get_or ws y 0) d)
same-two ws x y c d n a b ne = T-ext (same_sets ws (set (set ws x c) y d)) (eqb (get_or ws x 0) c && eqb (get_or ws y 0) d) there back
  where
    us : List ℕ
    us = set ws x c

    long : length (set us y d) ≡ 64
    long = length-set us y d ∙ length-set ws x c ∙ n

    at_x : get_or (set us y d) x 0 ≡ c
    at_x = get_or-set_other us y x d 0 ne ∙ get_or-set_same ws x c 0 (omega arith)

    at_y : get_or (set us y d) y 0 ≡ d
    at_y = get_or-set_same us y d 0 (omega (arith, length-set ws x c))

    there : T (same_sets ws (set us y d)) → T (eqb (get_or ws x 0) c && eqb (get_or ws y 0) d)
    there t = let e = same-sets ws (set us y d) n long (T→true (same_sets ws (set us y d)) t) in
        and_i (eqb (get_or ws x 0) c) (eqb (get_or ws y 0) d) (true→T (eqb (get_or ws x 0) c) (eq-eqb (get_or ws x 0) c (ap (λ (k : List ℕ). get_or k x 0) e ∙ at_x)))
        (true→T (eqb (get_or ws y 0) d) (eq-eqb (get_or ws y 0) d (ap (λ (k : List ℕ). get_or k y 0) e ∙ at_y)))

    back : T (eqb (get_or ws x 0) c && eqb (get_or ws y 0) d) → T (same_sets ws (set us y d))
    back t = true→T (same_sets ws (set us y d)) (below-make 64 (λ k. eqb (get_or ws k 0) (get_or (set us y d) k 0))
        (λ k h. eq-eqb (get_or ws k 0) (get_or (set us y d) k 0) (decided (eqb k y) (here k) (other k))))
      where
        first : get_or ws x 0 ≡ c
        first = eqb-true (get_or ws x 0) c (T→true (eqb (get_or ws x 0) c) (and_l (eqb (get_or ws x 0) c) (eqb (get_or ws y 0) d) t))

        second : get_or ws y 0 ≡ d
        second = eqb-true (get_or ws y 0) d (T→true (eqb (get_or ws y 0) d) (and_r (eqb (get_or ws x 0) c) (eqb (get_or ws y 0) d) t))

        here : (k : ℕ) → eqb k y ≡ true → get_or ws k 0 ≡ get_or (set us y d) k 0
        here k e = rw (eqb-true k y e) (second ∙ sym at_y)

        other : (k : ℕ) → eqb k y ≡ false → get_or ws k 0 ≡ get_or (set us y d) k 0
        other k e = decided (eqb k x) (λ z. rw (eqb-true k x z) (first ∙ sym at_x))
            (λ z. sym (get_or-set_other us y k d 0 (eqb-false k y e) ∙ get_or-set_other ws x k c 0 (eqb-false k x z)))

or-none : (b : Bool) → (b || false) ≡ b
or-none true = refl
or-none false = refl

nots : (a b : Bool) → (not a || not b) ≡ not (a && b)
nots true b = refl
nots false b = refl

-- nothing is written
pub flag-none : (struck : Bool) (ws : List ℕ) → struck ≡ (struck || not (same_sets ws ws))
flag-none struck ws = sym (or-none struck) ∙ ap (λ (t : Bool). struck || not t) (sym (sets_same ws ws refl))

-- the flag of one transfer: either word is another
pub pair-flag : (struck : Bool) (ws : List ℕ) (x y c d : ℕ) → length ws ≡ 64 → x < 64 → y < 64 → x ≢ y
    → ((struck || not (eqb (get_or ws x 0) c)) || not (eqb (get_or ws y 0) d)) ≡ (struck || not (same_sets ws (set (set ws x c) y d)))
pair-flag struck ws x y c d n a b ne =
    or_assoc struck (not (eqb (get_or ws x 0) c)) (not (eqb (get_or ws y 0) d))
    ∙ ap (λ (t : Bool). struck || t) (nots (eqb (get_or ws x 0) c) (eqb (get_or ws y 0) d) ∙ ap not (sym (same-two ws x y c d n a b ne)))

-- one more: words that only lose places are as at the beginning exactly if they were so before, and are so still
pub flag-more : {l : List ℕ} {legs : ℕ} {f g : ℕ → ℕ → Bool} {ws us vs : List ℕ} → length ws ≡ 64 → Kepts l legs f ws us → Kepts l legs g us vs
    → {struck r : Bool} → struck ≡ not (same_sets ws us) → r ≡ (struck || not (same_sets us vs)) → r ≡ not (same_sets ws vs)
flag-more {ws = ws} {us} {vs} n a b e q = q ∙ ap (λ (t : Bool). t || not (same_sets us vs)) e ∙ nots (same_sets ws us) (same_sets us vs)
    ∙ ap not (T-ext (same_sets ws us && same_sets us vs) (same_sets ws vs) back there)
  where
    there : T (same_sets ws vs) → T (same_sets ws us && same_sets us vs)
    there t =
        let z = same-sets ws vs n b.long (T→true (same_sets ws vs) t) in
        let m : us ≡ ws = ext_get_or 0 us ws (a.long ∙ sym n) (λ y h. word-ext (get_or us y 0) (get_or ws y 0) (λ p. T-ext (places_in us y p) (places_in ws y p) (kepts-less a y p)
        (λ u. kepts-less b y p (subst (λ (k : List ℕ). T (places_in k y p)) z u)))) in
        and_i (same_sets ws us) (same_sets us vs) (true→T (same_sets ws us) (sets_same ws us (sym m))) (true→T (same_sets us vs) (sets_same us vs (m ∙ z)))

    back : T (same_sets ws us && same_sets us vs) → T (same_sets ws vs)
    back t = true→T (same_sets ws vs) (sets_same ws vs (same-sets ws us n a.long (T→true (same_sets ws us) (and_l (same_sets ws us) (same_sets us vs) t))
        ∙ same-sets us vs a.long b.long (T→true (same_sets us vs) (and_r (same_sets ws us) (same_sets us vs) t))))
