-- Every number of an accepted sheet is in its range.
use Prim.Native.Nat.{ℕ, ◌+◌, ◌*◌, ◌≤◌, ◌<◌}
use mathlib.Core.Path.{◌≡◌}
use mathlib.Core.Bool.{true, ◌&&◌}
use mathlib.Core.List.{List}
use native.Mathlib.Omega.{arith}
use lib.ListN.{length}
use lib.Dec.{leb}
use borrow.Author.Tests.{leb-true}
use Rattle.laws.proofs.Logic.{and-true}
use Rattle.laws.proofs.Below.{below_at}
use Rattle.laws.specs.Basic.{all_below}
use Rattle.laws.proofs.Table.{length-tab}
use Rattle.words.specs.Word.{word_at, limits_at_ok, node_at_ok, entry_ok}
use Rattle.sheet.specs.Section.{vans_at, vans_of, n_of, m_of, nodes_at}
use Rattle.sheet.specs.Place.{Fine, Laid}
use Rattle.sheet.specs.declared.Layout.{Layout}
use Rattle.rules.specs.Class.{one_bit, class_set}
use Rattle.rules.specs.Day.{Day}
use Rattle.rules.specs.declared.Van.{Van}
use Rattle.tables.specs.Cell.{Table, cell}
use Rattle.tables.proofs.TableLaws.{row_low, entry-low}
use Rattle.day.specs.Tell.{van_of, bit_of, node_at, class_of, day_of, Told, job_in}

pub record Limits (v : Van) : Type 0 where
  pub capacity : v.capacity ≤ 1000
  pub limit : v.limit ≤ 1000000

pub record Ranges (d : Day) : Type 0 where
  pub n-low : 2 ≤ d.n
  pub n-high : d.n ≤ 64
  pub jobs : length d.jobs ≤ 155
  pub earliest : (x : ℕ) → x < d.n → d.earliest x ≤ d.latest x
  pub latest : (x : ℕ) → x < d.n → d.latest x ≤ 1000000
  pub service : (x : ℕ) → x < d.n → d.service x ≤ 1000000
  pub seconds : (i j : ℕ) → i < d.n → j < d.n → d.seconds i j ≤ 1000000
  pub metres : (i j : ℕ) → i < d.n → j < d.n → d.metres i j ≤ 1000000

module _ (s : List ℕ) (f : Fine s) where
  pub van-limits : (i : ℕ) → i < vans_of s → Limits (van_of s i)
  van-limits i h =
      let v = van_of s i in
      let o = below_at (vans_of s) i (limits_at_ok s (vans_at + 1)) f.limits h in
      let l = and-true (leb v.capacity 1000) (leb v.limit 1000000) (and-true _ (one_bit (bit_of s i)) o).0 in
      record { capacity = leb-true _ _ l.0; limit = leb-true _ _ l.1 }

  -- what the rules read of a node
  record NodeFine (x : ℕ) : Type 0 where
    pub earliest : word_at s (node_at s x) ≤ word_at s (node_at s x + 1)
    pub latest : word_at s (node_at s x + 1) ≤ 1000000
    pub service : word_at s (node_at s x + 2) ≤ 1000000

  node-fine : (x : ℕ) → x < n_of s → NodeFine x
  node-fine x h =
      let p = node_at s x in
      let o = and-true _ (class_set (class_of s x)) (below_at (n_of s) x (node_at_ok s (nodes_at s + 1)) f.nodes h) in
      let e = and-true (leb (word_at s p) (word_at s (p + 1)) && leb (word_at s (p + 1)) 1000000) (leb (word_at s (p + 2)) 1000000) o.0 in
      let d = and-true (leb (word_at s p) (word_at s (p + 1))) (leb (word_at s (p + 1)) 1000000) e.0 in
      record { earliest = leb-true _ _ d.0; latest = leb-true _ _ d.1; service = leb-true _ _ e.1 }

  table-fine : (from i j : ℕ) → all_below (n_of s * n_of s) (entry_ok s from) ≡ true → i < n_of s → j < n_of s → cell s from (n_of s) i j ≤ 1000000
  unfolding cell
  table-fine from i j e h k = entry-low s (from + i * n_of s) (n_of s) j (row_low s from (n_of s) i e h) k

  pub ranges : Ranges (day_of s)
  ranges = record {
    n-low = f.n-low;
    n-high = f.n-high;
    jobs = rw (length-tab (m_of s) (job_in s)) f.m-high;
    earliest = λ x h. (node-fine x h).earliest;
    latest = λ x h. (node-fine x h).latest;
    service = λ x h. (node-fine x h).service;
    seconds = λ i j h k. table-fine _ i j f.seconds h k;
    metres = λ i j h k. table-fine _ i j f.metres h k;
  }

-- both tables lie in the sheet, and each entry is in range
pub seconds-table : {s : List ℕ} {l : Layout} → Laid s l → Table s l.seconds l.nodes
seconds-table h =
    let f = h.fine in record { rows = omega arith; room = rw (h.nodes, h.seconds) (omega arith); low = rw (h.nodes, h.seconds) f.seconds }

pub metres-table : {s : List ℕ} {l : Layout} → Laid s l → Table s l.metres l.nodes
metres-table h =
    let f = h.fine in record { rows = omega arith; room = rw (h.nodes, h.metres) (omega arith); low = rw (h.nodes, h.metres) f.metres }

-- a reading that is the value has the value's bound
pub told : {v hi r : ℕ} → r ≡ v → v ≤ hi → Told v hi r
told e h = record { is = e; low = omega arith }
