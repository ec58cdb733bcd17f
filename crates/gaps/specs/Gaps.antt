-- The places of a node that window and metres leave: the tests of a place that read the route only.
use Rattle.std.specs.Prelude.{ℕ, ◌+◌, ◌<◌, Bool, ◌&&◌, List, ◌↔◌, T, leb, get_or, ℤ, pos}
use Rattle.std.specs.Int.Signed.{le_z}
use Rattle.laws.specs.Basic.{Filled}
use Rattle.rules.specs.Day.{Day}
use Rattle.rules.specs.Time.{in_time}
use Rattle.rules.specs.Along.{start_at}
use Rattle.bits.specs.Places.{has}
use Rattle.along.specs.Times.{reached}
use Rattle.gaps.specs.declared.Gap.{Gap}
use Rattle.gaps.specs.declared.Trial.{Trial}

-- ---- a loop over the places of a word, least first

-- of w, r has the places that pass f
pub record Sifted (f : ℕ → Bool) (w r : ℕ) : Type 0 where
  pub at : (q : ℕ) → T (has r q) ↔ (T (has w q) × T (f q))

-- ---- window and metres of a node x that is put into a gap of the route

-- x can be started in time, and what follows it by its last start
abbrev pub in_window : Day → ℕ → Gap → Bool
in_window d x g =
    in_time d x (reached d g.leave g.from x) && le_z (pos (reached d g.leave g.from x + d.service x + d.seconds x g.to)) g.last

-- and the route is not too long with it; the leg that it splits is still counted, so nothing is taken away
unfoldable pub fits_in : Day → ℕ → Gap → Bool
fits_in d x g = in_window d x g && leb (g.total + d.metres g.from x + d.metres x g.to) g.most

-- when the i-th leg is left, and how long the route may be with it still counted
abbrev pub left_at : Day → List ℕ → ℕ → ℕ
left_at d l i = start_at d l i + d.service (get_or l i 0)

abbrev pub most_at : Day → ℕ → List ℕ → ℕ → ℕ
most_at d limit l i = limit + d.metres (get_or l i 0) (get_or l (i + 1) 0)

-- the i-th leg as a gap, with L in an array, and the place of x in it
abbrev pub gap_on : Day → ℕ → List ℕ → List ℤ → ℕ → ℕ → Gap
gap_on d limit l z total i =
    record { from = get_or l i 0; to = get_or l (i + 1) 0; leave = left_at d l i; last = get_or z (i + 1) (pos 0); most = most_at d limit l i; total = total }

abbrev pub stands_at : Day → ℕ → List ℕ → List ℤ → ℕ → ℕ → ℕ → Bool
stands_at d limit l z total x i = fits_in d x (gap_on d limit l z total i)

-- ---- the same from tables of what no node changes

pub record Tables (d : Day) (limit : ℕ) (l : List ℕ) (legs : ℕ) (leave most : List ℕ) : Type 0 where
  pub lefts : Filled 64 (left_at d l) 0 legs leave
  pub mosts : Filled 64 (most_at d limit l) 0 legs most

-- the gap behind p, in the i-th leg
abbrev pub gap_at : List ℕ → List ℕ → List ℤ → List ℕ → ℕ → ℕ → ℕ → Gap
gap_at l leave z most total p i =
    record { from = p; to = get_or l (i + 1) 0; leave = get_or leave i 0; last = get_or z (i + 1) (pos 0); most = get_or most i 0; total = total }

-- the place p of the node that is tried, on the leg that at has for it
abbrev pub fits_place : Day → List ℕ → List ℕ → List ℕ → List ℤ → List ℕ → Trial → ℕ → Bool
fits_place d l at leave z most t p = fits_in d t.node (gap_at l leave z most t.total p (get_or at p 0))

-- a gap between nodes of a day of k, with numbers far from the end of 64 bits
pub record GapIn (k : ℕ) (g : Gap) : Type 0 where
  pub from : g.from < k
  pub to : g.to < k
  pub leave : g.leave < 2199023255552
  pub total : g.total < 1099511627776

-- the place p of a node on its leg i
pub record PlaceAt (k : ℕ) (l leave : List ℕ) (p i : ℕ) : Type 0 where
  pub node : p < k
  pub few : i < 63
  pub next : get_or l (i + 1) 0 < k
  pub time : get_or leave i 0 < 2199023255552

-- a node of a day of k that is tried, each of its places on the leg that at has for it
pub record PlacesAt (k : ℕ) (l leave at : List ℕ) (t : Trial) : Type 0 where
  pub node : t.node < k
  pub total : t.total < 1099511627776
  pub place : (p : ℕ) → T (has t.places p) → PlaceAt k l leave p (get_or at p 0)
