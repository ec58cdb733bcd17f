-- A loop over the places of a word; and what window and metres leave of it, leg by leg.
use mathlib.Core.Path.{◌≡◌, refl, sym, ap, ◌∙◌, subst}
use mathlib.Core.Bool.{Bool, false, ◌&&◌}
use mathlib.Core.List.{List}
use mathlib.Core.Logic.{◌↔◌}
use Prim.Native.Nat.{ℕ, ◌+◌, ◌^◌, ◌<◌, max}
use native.Mathlib.Numerals.{add-one}
use native.Mathlib.Omega.{arith}
use lib.Dec.{T, leb, eqb}
use lib.ListN.{get_or}
use lib.IntN.{ℤ, pos, negsuc}
use lib.Signed.{le_z}
use borrow.Author.Tests.{eqb-true, eqb-false, leb-true, leb-false, le-leb, lt-leb}
use Rattle.laws.proofs.Logic.{decided, T→true, true→T}
use Rattle.bits.specs.Places.{has, without, lowest}
use Rattle.bits.proofs.Members.{has-none, without-same, without_other, without-fits, without-part, members-once}
use Rattle.bits.proofs.Masks.{lowest-has}
use Rattle.rules.specs.Day.{Day}
use Rattle.rules.specs.Along.{start_at}
use Rattle.along.specs.Times.{reached}
use Rattle.along.proofs.TimeLaws.{Low, start-low}
use Rattle.along.specs.Route.{Route}
use Rattle.along.proofs.RouteLaws.{node_at_lem}
use Rattle.walks.specs.Walks.{struck, Kept}
use Rattle.walks.proofs.WalkLaws.{struck-has}
use Rattle.gaps.specs.declared.Trial.{Trial}
use Rattle.gaps.specs.Gaps.{Sifted, fits_in, left_at, stands_at, Tables, gap_at, PlaceAt, PlacesAt}

-- one word: what the contract of `stand` allows
pub sifted-once : {f : ℕ → Bool} {w r v : ℕ} → Sifted f w r → Sifted f w v → r ≡ v
sifted-once a b = members-once a.at b.at

-- those that are left are not looked at yet
pub record Sifting (f : ℕ → Bool) (w left r : ℕ) : Type 0 where
  pub fits : left < 2 ^ 64
  pub part : (q : ℕ) → T (has left q) → T (has w q)
  pub at : (q : ℕ) → T (has r q) ↔ (T (has w q) × (has left q ≡ false → T (f q)))

pub sift-all : (f : ℕ → Bool) (w : ℕ) → w < 2 ^ 64 → Sifting f w w w
sift-all f w h = record { fits = h; part = λ q t. t; at = λ q. (λ t. (t, λ e. absurd (subst (λ (b : Bool). T b) e t)), λ t. t.0) }

pub sift-next : {f : ℕ → Bool} {w left r : ℕ} (p : ℕ) {rest v : ℕ} → rest ≡ without left p → v ≡ struck r p (f p) → Sifting f w left r
    → Sifting f w rest v
sift-next {f} {w} {left} {r} p o e a = rw (o, e) (record { fits = without-fits left p a.fits; part = λ q t. a.part q (was q t); at = λ q. (to q, from q) })
  where
    was : (q : ℕ) → T (has (without left p) q) → T (has left q)
    was q t = true→T _ (without-part left p q (T→true _ t))

    to : (q : ℕ) → T (has (struck r p (f p)) q) → T (has w q) × (has (without left p) q ≡ false → T (f q))
    to q t = let s = (struck-has r p q (f p)).0 t in let o = (a.at q).0 s.0 in (
      o.0,
      λ n. decided (eqb p q) (λ z. subst (λ (k : ℕ). T (f k)) (eqb-true p q z) (s.1 (eqb-true p q z)))
          (λ z. o.1 (sym (without_other left p q (λ y. eqb-false p q z (sym y))) ∙ n)),
    )

    from : (q : ℕ) → T (has w q) × (has (without left p) q ≡ false → T (f q)) → T (has (struck r p (f p)) q)
    from q t = (struck-has r p q (f p)).1 (
      (a.at q).1 (t.0, λ n. t.1 (decided (has (without left p) q) (λ z. absurd (subst (λ (b : Bool). T b) n (was q (true→T _ z)))) (λ z. z))),
      λ y. subst (λ (k : ℕ). T (f k)) (sym y) (t.1 (ap (λ (k : ℕ). has (without left p) k) (sym y) ∙ without-same left p)),
    )

pub sift-done : {f : ℕ → Bool} {w left r : ℕ} → left ≡ 0 → Sifting f w left r → Sifted f w r
sift-done {left = left} e a = record {
  at = λ q. let o = a.at q in (λ t. ((o.0 t).0, (o.0 t).1 (ap (λ (k : ℕ). has k q) e ∙ has-none q)), λ t. o.1 (t.0, λ n. t.1));
}

-- at has the leg of each of the first `legs` stops
pub record Spotted (l at : List ℕ) (legs : ℕ) : Type 0 where
  pub is : (i : ℕ) → i < legs → get_or at (get_or l i 0) 0 ≡ i

-- each place of the word is a leg, and at has it
pub record Named (l at : List ℕ) (legs w : ℕ) : Type 0 where
  pub leg : (q : ℕ) → T (has w q) → (get_or at q 0 < legs) × (get_or l (get_or at q 0) 0 ≡ q)

-- a test of each place on its leg is a test of each leg
pub sifted-kept : {l at : List ℕ} {legs : ℕ} {f : ℕ → Bool} {w r : ℕ} → Spotted l at legs → Named l at legs w → Sifted (λ q. f (get_or at q 0)) w r → Kept l 0 legs f w r
sifted-kept {l} {at} {legs} {f} s n a = record {
  at = λ q. (
    λ t. let o = (a.at q).0 t in (o.0, λ i g h e. subst (λ (k : ℕ). T (f k)) (ap (λ (k : ℕ). get_or at k 0) (sym e) ∙ s.is i h) o.1),
    λ t. let m = n.leg q t.0 in (a.at q).1 (t.0, t.1 (get_or at q 0) (omega arith) m.0 m.1),
  );
}

-- ---- a walk from leg to leg: when the i-th is left, and the start at its other end
-- the later of two is not after a moment: neither is
pub both_later : (a b : ℕ) (z : ℤ) → le_z (pos a) z && le_z (pos b) z ≡ le_z (pos (max a b)) z
both_later a b (pos k) = decided (leb a k)
    (λ e. decided (leb b k)
    (λ f. rw (e, f) (sym (le-leb (max a b) k (omega (arith, leb-true a k e, leb-true b k f)))))
    (λ f. rw (e, f) (sym (lt-leb (max a b) k (omega (arith, leb-false b k f))))))
    (λ e. rw e (sym (lt-leb (max a b) k (omega (arith, leb-false a k e)))))
both_later a b (negsuc k) = refl

pub left-told : (d : Day) (l : List ℕ) (i : ℕ) {p t b : ℕ} → p ≡ get_or l i 0 → t ≡ start_at d l i → b ≡ d.service p → t + b ≡ left_at d l i
left-told d l i e f g = λ u. f u + (g ∙ ap d.service e) u

pub reach-turn : (d : Day) (l : List ℕ) (i : ℕ) {p t r : ℕ} → p ≡ get_or l i 0 → t ≡ left_at d l i → r ≡ reached d t p (get_or l (i + 1) 0) → r ≡ start_at d l (i + 1)
reach-turn d l i e f g = g ∙ (λ u. reached d (f u) (e u) (get_or l (i + 1) 0)) ∙ rw (add-one i) refl

-- the least that is left
pub least-place : {k : ℕ} {l leave at : List ℕ} {t : Trial} {left r : ℕ} {f : ℕ → Bool} → PlacesAt k l leave at t → Sifting f t.places left r
    → 0 < left → {p : ℕ} → p ≡ lowest left → PlaceAt k l leave p (get_or at p 0)
least-place {left = left} a s n {p} e = a.place p (s.part p (rw e (true→T _ (lowest-has left n s.fits))))

-- the tables of a route are those of each word whose places are its legs, and what they leave of it stands
module _ (d : Day) (l : List ℕ) {limit legs : ℕ} {leave most : List ℕ} (tables : Tables d limit l legs leave most) where
  pub gap-stands : (z : List ℤ) (total x i : ℕ) → i < legs → fits_in d x (gap_at l leave z most total (get_or l i 0) i) ≡ stands_at d limit l z total x i
  gap-stands z total x i h = rw (tables.lefts.at i h, tables.mosts.at i h)

  module _ {at : List ℕ} {w : ℕ} (named : Named l at legs w) where
    pub places-at : {k : ℕ} → Low d → Route k l (legs + 1) → {x total : ℕ} → x < k → total < 1099511627776
        → PlacesAt k l leave at (record { node = x; places = w; total = total })
    places-at a r h t = record {
      node = h;
      total = t;
      place = λ p h. let n = named.leg p h in let i = get_or at p 0 in record {
        node = omega (arith, node_at_lem r i (omega (arith, n.0)), n.1);
        few = omega (arith, r.most, n.0);
        next = node_at_lem r (i + 1) (omega (arith, n.0));
        time = omega (arith, tables.lefts.at i n.0, start-low d a l i (omega (arith, r.most, n.0)), a.service (get_or l i 0));
      };
    }

    pub stand-kept : (z : List ℤ) (total x : ℕ) {r : ℕ} → Spotted l at legs → Sifted (λ p. fits_in d x (gap_at l leave z most total p (get_or at p 0))) w r
        → Kept l 0 legs (λ i. fits_in d x (gap_at l leave z most total (get_or l i 0) i)) w r
    stand-kept z total x s a = sifted-kept s named (record {
      at = λ q. (
        λ u. let o = (a.at q).0 u in (o.0, subst (test q) (sym (named.leg q o.0).1) o.1),
        λ u. (a.at q).1 (u.0, subst (test q) (named.leg q u.0).1 u.1),
      );
    })
      where
        test : ℕ → ℕ → Type 0
        test q p = T (fits_in d x (gap_at l leave z most total p (get_or at q 0)))
