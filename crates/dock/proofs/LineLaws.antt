-- The lines of a listing, step by step, and the whole of it.
use Prim.Native.Nat.{ℕ, zero, suc, ◌+◌}
use mathlib.Core.List.{List}
use mathlib.Core.Path.{◌≡◌, refl, sym, ap, subst, ◌∙◌}
use native.Mathlib.Numerals.{add-one}
use borrow.Author.Tests.{ne_eqb}
use Rattle.sheet.specs.Section.{k_of, vans_of}
use Rattle.day.specs.Refuse.{call_refusal, open_refusal}
use Rattle.listing.specs.Put.{Put}
use Rattle.listing.proofs.PutLaws.{put_then}
use Rattle.listing.specs.Text.{refused_line}
use Rattle.fleet.specs.declared.Fleet.{Fleet}
use Rattle.turns.specs.Together.{RanAll, acted_all}
use Rattle.planner.specs.Face.{fresh_of}
use Rattle.dock.specs.Listing.{step_at, come_to, lines_of, routes_of, whole_of, listing_of, line_of, Reached}
use Rattle.dock.proofs.Reach.{begun, goes_on}

-- before the first step: the fresh fleet, no line
pub come-none : (sheet t : List ℕ) {f : Fleet} → f ≡ fresh_of sheet → come_to sheet t 0 ≡ (f, t)
unfolding come_to
come-none sheet t e = ap (λ (f : Fleet). (f, t)) (sym e)

pub lines_none : (sheet t b : List ℕ) → Put b 0 (lines_of sheet t 0) 0 b
unfolding lines_of
lines_none sheet t b = record { bytes = refl; next-is = refl }

-- one step more, and its line
module _ (sheet t : List ℕ) (i : ℕ) {f f' : Fleet} {u u' : List ℕ} {k r : ℕ} (e : come_to sheet t i ≡ (f, u)) (q : step_at sheet i (f, u) ≡ acted_all k r f' u') where
  at : step_at sheet i (come_to sheet t i) ≡ acted_all k r f' u'
  at = ap (step_at sheet i) e ∙ q

  pub come-next : come_to sheet t (i + 1) ≡ (f', u')
  unfolding come_to
  come-next = rw (add-one i) (ap (λ (o : RanAll). (o.0.fleet, o.1)) at)

  pub lines_next : {b m c : List ℕ} {used next : ℕ} {line : List ℕ} → line ≡ line_of sheet i (record { answer = k; rounds = r; fleet = f' }) → Put b 0 (lines_of sheet t i) used m
      → Put m used line next c → Put b 0 (lines_of sheet t (i + 1)) next c
  unfolding lines_of
  lines_next w p l = rw (add-one i, at) (put_then p (rw w at l))

-- every fleet on the way was reached
come-reached : (sheet t : List ℕ) (i : ℕ) → call_refusal sheet ≡ 0 → Reached sheet (come_to sheet t i).0 (come_to sheet t i).1
unfolding come_to
come-reached sheet t zero z = begun t refl
come-reached sheet t (suc i) z = goes_on z (come-reached sheet t i z) _ _ _ refl

pub reached-at : (sheet t : List ℕ) (i : ℕ) {f : Fleet} {u : List ℕ} → call_refusal sheet ≡ 0 → come_to sheet t i ≡ (f, u) → Reached sheet f u
reached-at sheet t i z e = subst (λ (b : Fleet × List ℕ). Reached sheet b.0 b.1) e (come-reached sheet t i z)

-- the whole: the lines, then the routes
pub whole-made : (sheet t : List ℕ) {f : Fleet} {u b m c : List ℕ} {k v used next : ℕ} → k ≡ k_of sheet → v ≡ vans_of sheet → come_to sheet t k ≡ (f, u) → Put b 0 (lines_of sheet t k) used m
    → Put m used (routes_of v f) next c → Put b 0 (whole_of sheet t) next c
unfolding whole_of
whole-made sheet t z y e p l = rw (sym z, sym y, e) (put_then p l)

-- the listing of a sheet that opens, and of one that does not
pub listing-open : (sheet t : List ℕ) {b c : List ℕ} {next : ℕ} → open_refusal sheet ≡ 0 → Put b 0 (whole_of sheet t) next c → Put b 0 (listing_of sheet t) next c
unfolding listing_of
listing-open sheet t z p = rw z p

pub listing-refused : (sheet t : List ℕ) {b c : List ℕ} {k next : ℕ} → k ≡ open_refusal sheet → (k ≡ 0 → ⊥) → Put b 0 (refused_line k) next c → Put b 0 (listing_of sheet t) next c
unfolding listing_of
listing-refused sheet t z n p = rw (sym z, ne_eqb _ _ n) p
