-- What the layout says of the day.
use mathlib.Core.Path.{◌≡◌, ap}
use mathlib.Core.List.{List}
use Prim.Native.Nat.{ℕ, ◌≤◌}
use native.Mathlib.Omega.{arith}
use Rattle.sheet.specs.Section.{m_of}
use Rattle.sheet.specs.Place.{Laid}
use Rattle.sheet.specs.declared.Layout.{Layout}
use Rattle.day.specs.Tell.{day_of}

-- ---- what the layout says of the day

pub nodes-are : {s : List ℕ} {at : Layout} → Laid s at → at.nodes ≡ (day_of s).n
nodes-are p = ap (λ (l : Layout). l.nodes) p.is

pub jobs-are : {s : List ℕ} {at : Layout} → Laid s at → at.jobs ≡ m_of s
jobs-are p = ap (λ (l : Layout). l.jobs) p.is

pub nodes-most : {s : List ℕ} {at : Layout} → Laid s at → at.nodes ≤ 64
nodes-most p = omega (arith, nodes-are p, p.fine.n-high)
