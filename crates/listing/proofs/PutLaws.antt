-- A text put into a buffer, one after another, and the room it takes.
use Prim.Native.Nat.{ℕ, suc, ◌+◌, ◌≤◌}
use mathlib.Core.Path.{◌≡◌, refl, sym, ap, ◌∙◌}
use mathlib.Core.List.{List, [], ◌∷◌, ◌++◌}
use native.Mathlib.Omega.{arith}
use native.Mathlib.Nat.{add-zero}
use lib.ListN.{length, set, take, length-append}
use lib.Seq.{sets, sets-eq, length-sets, take_all, take_at}
use Rattle.std.proofs.lemmas.Slice.{put_mid-paste}
use borrow.Rule.Slice.PartMut.{put_mid}
use Rattle.std.proofs.Common.{le_refl}
use Rattle.listing.specs.Put.{Put}

sets-append : (t u b : List ℕ) (at : ℕ) → sets (sets b at t) (at + length t) u ≡ sets b at (t ++ u)
sets-append [] u b at = ap (λ (k : ℕ). sets b k u) (add-zero at)
sets-append (x ∷ t) u b at = ap (λ (k : ℕ). sets (sets (set b at x) (suc at) t) k u) (let e : at + suc (length t) ≡ suc at + length t = omega arith in e) ∙ sets-append t u (set b at x) (suc at)

-- one text after another
pub put_then : {b m c : List ℕ} {at i j : ℕ} {t u : List ℕ} → Put b at t i m → Put m i u j c → Put b at (t ++ u) j c
put_then {b} {m} {c} {at} {i} {j} {t} {u} p q = record {
  bytes = q.bytes ∙ ap (λ (k : ℕ). sets m k u) p.next-is ∙ ap (λ (l : List ℕ). sets l (at + length t) u) p.bytes ∙ sets-append t u b at;
  next-is = omega (arith, p.next-is, q.next-is, length-append t u);
}

-- a text copied over the bytes of its place
pub put_copied : (b text part : List ℕ) (at k : ℕ) → part ≡ text → k ≡ length text → at + length text ≤ length b
    → Put b at text (at + length text) (put_mid at k b part)
put_copied b text part at k p e h = record {
  bytes = put_mid-paste at k b part text (length text) p (sym e) refl
      ∙ rw (take_all (length text) text (le_refl _)) (sym (sets-eq text b at h));
  next-is = refl;
}

pub put-length : {b c : List ℕ} {at i : ℕ} {t : List ℕ} → Put b at t i c → length c ≡ length b
put-length {b} {c} {at} {i} {t} p = ap length p.bytes ∙ length-sets b at t

-- what was put takes at most k bytes of the buffer
pub record Takes (before : List ℕ) (at : ℕ) (k : ℕ) (next : ℕ) (after : List ℕ) : Type 0 where
  pub ends : next ≤ at + k
  pub same : length after ≡ length before

pub takes-text : {b c : List ℕ} {at next : ℕ} {t : List ℕ} → Put b at t next c → Takes b at (length t) next c
takes-text {t = t} p = record { ends = omega (arith, p.next-is); same = put-length p }

-- a text put at the beginning is what the buffer then begins with
pub put_first : {b c : List ℕ} {next : ℕ} {t : List ℕ} → Put b 0 t next c → next ≤ length b → take next c ≡ t
put_first {b} {c} {next} {t} p h = rw (p.next-is, p.bytes ∙ sets-eq t b 0 (omega (arith, p.next-is))) (take_at t _ (0 + length t) (omega arith))
