-- The verdict, from what the code finds in its arrays.
use mathlib.Core.Path.{◌≡◌, refl, sym, ap, ◌∙◌}
use Prim.Native.Nat.{ℕ, ◌+◌, ◌-◌, ◌<◌, ◌≤◌}
use mathlib.Core.Bool.{Bool, true, false, not, ◌&&◌, ◌||◌, and-true, and-false, and_comm}
use mathlib.Core.List.{List, []}
use native.Mathlib.Omega.{arith}
use lib.Dec.{leb}
use lib.ListN.{get_or, take, drop, length, length-take, length-drop}
use lib.Seq.{get_or-take}
use Rattle.std.proofs.lemmas.Grind.{get_or_after_one}
use Rattle.laws.specs.Basic.{all, all_below}
use Rattle.laws.proofs.Below.{below_none, below_next, below_fails}
use Rattle.rules.specs.Day.{Day, inner}
use Rattle.rules.specs.declared.Van.{Van}
use Rattle.rules.specs.Leg.{every_leg}
use Rattle.rules.specs.Time.{in_time, on_time, driven}
use Rattle.rules.specs.Load.{carries}
use Rattle.rules.specs.Plan.{Plan}
use Rattle.rules.specs.Rounds.{profile_rule}
use Rattle.rules.specs.Verdict.{owed, has_place, wrong_way, alive}
use Rattle.rules.specs.Along.{start_at}
use Rattle.rules.proofs.AlongLaws.{arrives, on-time-all}
use Rattle.along.proofs.TimeLaws.{start_first, start-turn, length-first, length-turn}
use Rattle.verdict.specs.Verdict.{road_kept, load_kept, profile_kept}

-- ---- the stops after the first, of the first n

pub rest-size : (l : List ℕ) (n : ℕ) → n ≤ length l → length (take (n - 1) (drop 1 l)) ≡ n - 1
rest-size l n h = simp length-take (omega (arith, length-drop 1 l))

pub next-stop : (l : List ℕ) (n i : ℕ) → i < length (take (n - 1) (drop 1 l))
    → (i + 1 < n) × (get_or (take (n - 1) (drop 1 l)) i 0 ≡ get_or l (i + 1) 0)
next-stop l n i h =
    let k : i < n - 1 = omega (arith, length-take {A = ℕ}) in
    let e : 1 + i ≡ i + 1 = omega arith in
    (omega arith, get_or-take (n - 1) (drop 1 l) i 0 k ∙ get_or_after_one l i 0 ∙ ap (λ (j : ℕ). get_or l j 0) e)

-- ---- windows and metres, stop by stop

-- the k-th start of m is not too late
abbrev start_ok : Day → List ℕ → ℕ → Bool
start_ok d m k = in_time d (get_or m k 0) (start_at d m k)

-- the van stands at the i-th of the first n stops of l, which is p, at the time t and after so many metres; no start so far is too late
pub record Rode (d : Day) (l : List ℕ) (n i p t total : ℕ) : Type 0 where
  pub at : p ≡ get_or l i 0
  pub start : t ≡ start_at d (take n l) i
  pub ok : all_below (i + 1) (start_ok d (take n l)) ≡ true
  pub metres : total ≡ driven d (take (i + 1) l)

module _ (d : Day) (l : List ℕ) (n : ℕ) (most : n ≤ length l) where
  start-told : (i : ℕ) {t : ℕ} → i < n → t ≡ start_at d (take n l) i → start_ok d (take n l) i ≡ in_time d (get_or l i 0) t
  start-told i h e = λ u. in_time d (get_or-take n l i 0 h u) (sym e u)

  windows-told : on_time d [] (take n l) ≡ all_below n (start_ok d (take n l))
  windows-told =
      let e : length (take n l) ≡ n = simp length-take (omega arith) in
      on-time-all d (take n l) ∙ ap (λ (q : ℕ). all_below q (start_ok d (take n l))) e

  -- where b tells whether the i-th start is in time, and it is not
  late : (i : ℕ) {t : ℕ} {b : Bool} → i < n → t ≡ start_at d (take n l) i → b ≡ in_time d (get_or l i 0) t → (limit : ℕ) → b ≡ false
      → false ≡ road_kept limit d (take n l)
  unfolding road_kept
  late i {b = b} h e f limit g = rw (windows-told, below_fails n i (start_ok d (take n l)) h (start-told i h e ∙ sym f ∙ g))

  -- at the first stop, where b tells whether its earliest is in time
  module _ {t : ℕ} {b : Bool} (h : 0 < n) (e : t ≡ d.earliest (get_or l 0 0)) (f : b ≡ in_time d (get_or l 0 0) t) where
    pub first-late : (limit : ℕ) → b ≡ false → false ≡ road_kept limit d (take n l)
    first-late = late 0 h (e ∙ start_first d l n h) f

    pub rode-first : b ≡ true → Rode d l n 0 (get_or l 0 0) t 0
    rode-first g =
        let s = e ∙ start_first d l n h in record {
          at = refl;
          start = s;
          ok = below_next 0 (start_ok d (take n l)) (below_none _) (start-told 0 h s ∙ sym f ∙ g);
          metres = length-first d l;
        }

  -- the next stop, x, where it is t, and b tells whether that is in time
  module _ {i p s total x t : ℕ} {b : Bool} (r : Rode d l n i p s total) (h : i + 1 < n) (is : x ≡ get_or l (i + 1) 0) (e : t ≡ arrives d s p x)
      (f : b ≡ in_time d x t) where
    start : t ≡ start_at d (take n l) (i + 1)
    start = e ∙ (λ u. arrives d s (r.at u) (is u)) ∙ start-turn d l n i h r.start

    told : b ≡ in_time d (get_or l (i + 1) 0) t
    told = f ∙ ap (λ (y : ℕ). in_time d y t) is

    pub rode-late : (limit : ℕ) → b ≡ false → false ≡ road_kept limit d (take n l)
    rode-late = late (i + 1) h start told

    pub rode-next : {m : ℕ} → b ≡ true → m ≡ d.metres p x → Rode d l n (i + 1) x t (total + m)
    rode-next {m} g k = record {
      at = is;
      start = start;
      ok = below_next (i + 1) (start_ok d (take n l)) r.ok (start-told (i + 1) h start ∙ sym told ∙ g);
      metres = ap (λ (q : ℕ). total + q) (k ∙ (λ u. d.metres (r.at u) (is u))) ∙ length-turn d l i (omega arith) r.metres;
    }

  pub rode-all : {i p t total : ℕ} → Rode d l n i p t total → i + 1 ≡ n → (limit : ℕ) → leb total limit ≡ road_kept limit d (take n l)
  unfolding road_kept
  rode-all r e limit = let a = rw e at r.ok in let b = rw e at r.metres in rw (windows-told, a, b)

-- ---- the whole

-- the verdict from its parts, in the order in which the code asks
pub alive-told : (v : Van) (d : Day) (a : Plan) {q r : Bool} → q ≡ (road_kept v.limit d a.route && load_kept v d a.route && profile_kept d a.route)
    → r ≡ all (λ x. not (owed d a.route a.marks x) || has_place a x) (inner d) → (q && r) ≡ alive v d a
unfolding road_kept load_kept profile_kept alive
alive-told v d a q r =
    (λ u. q u && r u)
    ∙ turn (all (λ x. not (owed d a.route a.marks x) || has_place a x) (inner d)) (on_time d [] a.route) (leb (driven d a.route) v.limit)
    (every_leg (carries v d) a.route) (all (λ j. not (wrong_way a.route j)) d.jobs) (profile_rule v d a.route)
  where
    turn : (o t q b c e : Bool) → (((t && q) && (b && c) && e) && o) ≡ (o && (t && (q && (b && (c && (e && true))))))
    turn o true true true true e = and_comm e o ∙ ap (λ (f : Bool). o && f) (sym (and-true e))
    turn o true true true false e = sym (and-false o)
    turn o true true false c e = sym (and-false o)
    turn o true false b c e = sym (and-false o)
    turn o false q b c e = sym (and-false o)
