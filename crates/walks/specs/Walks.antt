-- A word of places against a test of each leg of a route in an array, and the walks that make such tests.
use Rattle.std.specs.Prelude.{◌≡◌, ℕ, zero, suc, ◌+◌, ◌-◌, ◌<◌, ◌≤◌, Bool, true, false, cond, ◌&&◌, ◌||◌, List, ◌↔◌, T, leb, eqb, get_or, length}
use Rattle.laws.specs.Basic.{any_below}
use Rattle.bits.specs.Places.{has, without}
use Rattle.walks.specs.declared.Ride.{Ride}
use Rattle.walks.specs.declared.Partner.{Partner}

-- ---- what a test of each leg leaves of a word

-- of w, r keeps the places that pass f on each leg from lo up to hi of the route l that they name
pub record Kept (l : List ℕ) (lo hi : ℕ) (f : ℕ → Bool) (w r : ℕ) : Type 0 where
  pub at : (q : ℕ) → T (has r q) ↔ (T (has w q) × ((i : ℕ) → lo ≤ i → i < hi → get_or l i 0 ≡ q → T (f i)))

-- the word, without the place p unless it stays
abbrev pub struck : ℕ → ℕ → Bool → ℕ
struck w p stays = cond stays w (without w p)

-- ---- walks along the legs

-- the flag behind the first i legs: on each leg f has to hold, and g there or the flag before; b is the flag before the first
unfoldable pub walk_up : (ℕ → Bool) → (ℕ → Bool) → Bool → ℕ → Bool
walk_up f g b zero = b
walk_up f g b (suc i) = f i && (g i || walk_up f g b i)

-- the same from the end: the flag before k legs from the i-th on, with b behind the last of them
unfoldable pub walk_down : (ℕ → Bool) → (ℕ → Bool) → Bool → ℕ → ℕ → Bool
walk_down f g b i zero = b
walk_down f g b i (suc k) = f i && (g i || walk_down f g b (suc i) k)

-- ---- what a load asks of a leg, from arrays

-- H + load is within the capacity on the i-th leg
abbrev pub fits_at : List ℕ → Ride → ℕ → Bool
fits_at h r i = leb (get_or h i 0 + r.load) r.capacity

-- on the i-th leg the partner stands at the stop that the leg leaves, or is open in it
abbrev pub met_behind : List ℕ → Partner → ℕ → Bool
met_behind l y i = eqb (get_or l i 0) y.node || has y.places (get_or l i 0)

-- it stands at the stop that the leg enters, or is open in it
abbrev pub met_ahead : List ℕ → Partner → ℕ → Bool
met_ahead l y i = eqb (get_or l (i + 1) 0) y.node || has y.places (get_or l i 0)

-- a ride that meets nobody
abbrev pub nobody : ℕ → Bool
nobody i = false

-- the ride can be on the i-th leg: leg by leg back to a leg where the partner is met; on to one
unfoldable pub rides_up : List ℕ → List ℕ → Ride → Partner → ℕ → Bool
rides_up l h r y i = walk_up (fits_at h r) (met_behind l y) false (i + 1)

unfoldable pub rides_down : List ℕ → List ℕ → Ride → Partner → ℕ → Bool
rides_down l h r y i = walk_down (fits_at h r) (met_ahead l y) false i (r.legs - i)

-- leg by leg back to the first; on to the last
unfoldable pub from_start : List ℕ → Ride → ℕ → Bool
from_start h r i = walk_up (fits_at h r) nobody true (i + 1)

unfoldable pub to_end : List ℕ → Ride → ℕ → Bool
to_end h r i = walk_down (fits_at h r) nobody true i (r.legs - i)

-- what a walk asks: a route and its loads in arrays, none above the highest, and numbers far from the end of 64 bits
pub record Legs (l h : List ℕ) (r : Ride) : Type 0 where
  pub long : length l ≡ 64
  pub wide : length h ≡ 64
  pub few : r.legs < 64
  pub low : r.load < 4294967296
  pub high : r.highest < 1099511627776
  pub loads : (i : ℕ) → i < r.legs → get_or h i 0 ≤ r.highest
  pub nodes : (i : ℕ) → i < r.legs → get_or l i 0 < 64

-- b has the nodes before each stop of n legs, as a set
pub record Before (l : List ℕ) (n : ℕ) (b : List ℕ) : Type 0 where
  pub long : length b ≡ 64
  pub at : (i : ℕ) → i ≤ n → (x : ℕ) → has (get_or b i 0) x ≡ any_below i (λ k. eqb (get_or l k 0) x)

-- what a walk that takes all legs at once asks: these sets, and in a the one stop of each node
pub record Marked (l : List ℕ) (n : ℕ) (a b : List ℕ) : Type 0 where
  pub before : Before l n b
  pub long : length a ≡ 64
  pub stop : (i x : ℕ) → i ≤ n → (get_or l i 0 ≡ x) ↔ (get_or a x 64 ≡ i)
