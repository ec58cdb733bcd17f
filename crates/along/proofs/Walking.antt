-- A walk along a route with the jobs by node: what is aboard before each stop, what comes and goes there, and the transfer that begins at a node.
use mathlib.Core.Path.{◌≡◌, refl, sym, ap, ◌∙◌, subst}
use Prim.Native.Nat.{ℕ, zero, suc, max, ◌+◌, ◌-◌, ◌*◌, ◌<◌, ◌≤◌}
use mathlib.Core.Bool.{Bool, false, cond, ◌&&◌}
use mathlib.Core.List.{List, [], ◌∷◌}
use mathlib.Core.Logic.{⊎_elim, ◌⊎◌, inl, inr, ◌≢◌}
use native.Mathlib.Numerals.{add-one}
use native.Mathlib.Nat.{eq-or-lt_of_le, le_of_suc-le-suc}
use native.Mathlib.Omega.{arith}
use lib.Dec.{ltb, eqb}
use lib.ListN.{get_or, set, take, drop, length, length-take, drop_of_length-le}
use lib.Seq.{get_or-take, drop-cons}
use borrow.Author.Tests.{eq-eqb, eqb-true, eqb-false}
use Rattle.laws.proofs.Logic.{decided, true→T}
use Rattle.laws.specs.Basic.{mem, In, sum_below, tab, peak, Filled}
use Rattle.laws.proofs.Peak.{peak-next}
use Rattle.laws.proofs.Table.{filled_none, filled_more}
use Rattle.rules.specs.Day.{Day}
use Rattle.rules.specs.Load.{load_of, aboard, sum, load}
use Rattle.rules.specs.Along.{behind, load_at}
use Rattle.rules.specs.declared.Job.{Job}
use Rattle.rules.specs.declared.Job.TheVariants.{Clean, Soiled, Transfer}
use Rattle.rules.proofs.AlongLaws.{stops-apart}
use Rattle.sheet.specs.declared.Layout.{Layout}
use Rattle.day.specs.Tell.{day_of, job_in}
use Rattle.day.proofs.Asked.{proper, one_end}
use Rattle.along.specs.Nodes.{first_load, mate_in, Routed}
use Rattle.along.specs.Spots.{spot, Spots}
use Rattle.along.proofs.ReadyLaws.{jobs-are, nodes-most}
use Rattle.along.proofs.RouteLaws.{node_at_lem, job-load}
use Rattle.along.proofs.SpotLaws.{behind-found, drop-found, spot-node, spot-ahead, spot-before}
use Rattle.along.proofs.LoadLaws.{cond-low}
use Rattle.along.proofs.Mating.{in-at, first-mate, second-mate, load-front, load_past}

-- a sum that is not 0 has a part that is not
sum-some : (n : ℕ) (f : ℕ → ℕ) → sum_below n f ≢ 0 → (k : ℕ) × (k < n) × (f k ≢ 0)
unfolding sum_below
sum-some zero f h = absurd (h refl)
sum-some (suc n) f h =
    decided (eqb (f n) 0) (λ e. let r = sum-some n f (λ z. h (omega (arith, z, eqb-true (f n) 0 e))) in (r.0, omega (arith, r.1), r.2))
    (λ e. (n, omega arith, eqb-false (f n) 0 e))

-- a part of a sum is at most the sum
sum-part : (n k : ℕ) (f : ℕ → ℕ) → k < n → f k ≤ sum_below n f
unfolding sum_below
sum-part zero k f h = absurd (omega arith)
sum-part (suc n) k f h =
    ⊎_elim (λ e. let z : f k ≡ f n = ap f e in omega arith) (λ b. omega (arith, sum-part n k f b)) (eq-or-lt_of_le (le_of_suc-le-suc h))

-- a job that begins at x
begins-at : (x : ℕ) (j : Job) → first_load x j ≢ 0 → (b : ℕ) × (w : ℕ) × (j ≡ Transfer x b w)
begins-at x (Clean a w) h = absurd (h refl)
begins-at x (Soiled a w) h = absurd (h refl)
begins-at x (Transfer a b w) h =
    decided (eqb x a) (λ e. (b, w, ap (λ (n : ℕ). Transfer n b w) (sym (eqb-true x a e)))) (λ e. absurd (h (rw e refl)))

-- the van is before the i-th stop of the route m with so much aboard; h has what was aboard on the legs behind, and `top` is the most of it
pub record Riding (d : Day) (m : List ℕ) (i aboard top : ℕ) (h : List ℕ) : Type 0 where
  pub is : aboard ≡ load d (behind m i) (drop i m)
  pub few : aboard ≤ 281474976710656 + 8796093022208 * i
  pub legs : Filled 64 (load_at d m) 0 i h
  pub peak : top ≡ peak (load_at d m) i

module _ {s : List ℕ} {at : Layout} {l : List ℕ} {n : ℕ} {t : List ℕ} (r : Routed s at l n t) where
  abbrev m : List ℕ
  m = take n l

  abbrev d : Day
  d = day_of s

  pub size : length m ≡ n
  size = let a = r.route.long in let b = r.route.most in simp length-take (omega arith)

  pub told : d.jobs ≡ tab at.jobs (job_in s)
  told = ap (λ (k : ℕ). tab k (job_in s)) (sym (jobs-are r.laid))

  pub is-job : (k : ℕ) → k < at.jobs → In (job_in s k) d.jobs
  is-job k h = subst (λ (js : List Job). In (job_in s k) js) (sym told) (in-at at.jobs k (job_in s) h)

  pub two_ends_lem : (a b w : ℕ) → In (Transfer a b w) d.jobs → a ≢ b
  two_ends_lem a b w i = ((proper s r.clear).ends a b w i).2

  pub near : (i : ℕ) → i < n → get_or l i 0 < 64
  near i h = omega (arith, node_at_lem r.route i h, nodes-most r.laid)

  pub low : (i : ℕ) → get_or t i 0 < 4398046511104
  low i = omega (arith, r.jobs.low i, jobs-are r.laid, r.laid.fine.m-high)

  abbrev mate : ℕ → ℕ
  mate x = get_or t (256 + x) 0

  -- the partners of a transfer's ends
  pub mates : (k a b w : ℕ) → k < at.jobs → job_in s k ≡ Transfer a b w → (x : ℕ) → x < 64 → (a ≢ b) × (x ≡ a → mate x ≡ b) × (x ≡ b → mate x ≡ a)
  mates k a b w h e x near =
      let i = subst (λ (j : Job). In j d.jobs) e (is-job k h) in (
        two_ends_lem a b w i,
        λ z. r.jobs.partner x near ∙ ap (mate_in (job_in s) at.jobs) z
            ∙ first-mate (job_in s) at.jobs d.jobs is-job (one_end s r.clear) two_ends_lem at.jobs k a b w h (omega arith) e,
        λ z. r.jobs.partner x near ∙ ap (mate_in (job_in s) at.jobs) z
            ∙ second-mate (job_in s) at.jobs d.jobs is-job (one_end s r.clear) two_ends_lem at.jobs k a b w h (omega arith) e,
      )

  -- a transfer that begins at x
  pub begins : (x : ℕ) → x < 64 → get_or t (128 + x) 0 ≢ 0 → (k : ℕ) × (b : ℕ) × (w : ℕ) × (k < at.jobs) × (job_in s k ≡ Transfer x b w)
  begins x h z =
      let p = sum-some at.jobs (λ k. first_load x (job_in s k)) (λ e. z (r.jobs.first x h ∙ e)) in
      let q = begins-at x (job_in s p.0) p.2 in (p.0, q.0, q.1, p.1, q.2)

  -- nothing is aboard where no stop is left
  pub empty-load : (i : ℕ) → i ≡ n → load d [] (drop i m) ≡ 0
  empty-load i e = ap (load d []) (drop_of_length-le m {i = i} (omega (arith, size, e))) ∙ none_left d.jobs
    where
      none_left : (js : List Job) → sum (aboard [] []) js ≡ 0
      none_left [] = refl
      none_left (Clean a w ∷ js) = omega (arith, none_left js)
      none_left (Soiled a w ∷ js) = omega (arith, none_left js)
      none_left (Transfer a b w ∷ js) = omega (arith, none_left js)

  -- ---- the stops behind the i-th and ahead of it

  module _ (i : ℕ) (h : i < n) where
    abbrev x : ℕ
    x = get_or l i 0

    here : get_or m i 0 ≡ x
    here = get_or-take n l i 0 h

    small : x < 64
    small = near i h

    other-stop : (k : ℕ) → k < n → (k < i) ⊎ (i < k) → get_or m k 0 ≡ x → ⊥
    other-stop k b (inl c) e = eqb-false _ _ (stops-apart r.route.nodes k i c (omega (arith, size))) (e ∙ sym here)
    other-stop k b (inr c) e = eqb-false _ _ (stops-apart r.route.nodes i k c (omega (arith, size))) (here ∙ sym e)

    none-behind : mem x (behind m i) ≡ false
    none-behind = decided (mem x (behind m i)) (λ e. let f = behind-found x m i (true→T _ e) in absurd (other-stop f.i (omega (arith, f.high)) (inl f.high) f.is)) (λ e. e)

    none_ahead : mem x (drop (suc i) m) ≡ false
    none_ahead = decided (mem x (drop (suc i) m)) (λ e. let f = drop-found x m (suc i) (true→T _ e) in absurd (other-stop f.i (omega (arith, f.high, size)) (inr (omega (arith, f.low))) f.is)) (λ e. e)

    cut : drop i m ≡ x ∷ drop (suc i) m
    cut = drop-cons m i 0 (omega (arith, size)) ∙ ap (λ (k : ℕ). k ∷ drop (suc i) m) here

    -- one stop of the start's load
    pub start-next : load d [] (drop i m) ≡ get_or t x 0 + load d [] (drop (i + 1) m)
    start-next =
        ap (load d []) cut ∙ load-front d (job_in s) at.jobs told x (drop (suc i) m) none_ahead
        ∙ (λ u. sym (r.jobs.clean x small) u + load d [] (drop (sym (add-one i) u) m))

    -- past the stop
    pub past_next : load d (behind m (i + 1)) (drop (i + 1) m) + (get_or t x 0 + cond (mem (mate x) (behind m i)) (get_or t (192 + x) 0) 0)
        ≡ load d (behind m i) (drop i m) + (get_or t (64 + x) 0 + cond (mem (mate x) (drop (suc i) m)) (get_or t (128 + x) 0) 0)
    past_next =
        (λ u. load d (behind m (add-one i u)) (drop (add-one i u) m) + (get_or t x 0 + cond (mem (mate x) (behind m i)) (get_or t (192 + x) 0) 0))
        ∙ (λ u. load d (here u ∷ behind m i) (drop (suc i) m) + (r.jobs.clean x small u + cond (mem (mate x) (behind m i)) (r.jobs.second x small u) 0))
        ∙ load_past d (job_in s) at.jobs told x (behind m i) (drop (suc i) m) (mate x) none-behind none_ahead (λ k a b w h e. mates k a b w h e x small)
        ∙ (λ u. load d (behind m i) (sym cut u) + (sym (r.jobs.soiled x small) u + cond (mem (mate x) (drop (suc i) m)) (sym (r.jobs.first x small) u) 0))

  -- a transfer's load is part of what begins at its first node
  pub first_some : (k a b w : ℕ) → k < at.jobs → job_in s k ≡ Transfer a b w → a < 64 → get_or t (128 + a) 0 ≢ 0
  first_some k a b w h e c z =
      let p : 1 ≤ w = omega (arith, (job-load r.laid k h).0, ap load_of e) in
      let q : first_load a (job_in s k) ≡ w = ap (first_load a) e ∙ rw (eq-eqb a a refl) refl in
      omega (arith, p, q, sum-part at.jobs k (λ j. first_load a (job_in s j)) h, r.jobs.first a c, z)

  -- ---- H, leg by leg

  pub riding-none : {aboard : ℕ} {h : List ℕ} → aboard ≡ load d [] m → aboard ≤ 281474976710656 → length h ≡ 64 → Riding d m 0 aboard 0 h
  unfolding peak
  riding-none e few long = record { is = e; few = omega arith; legs = filled_none 64 (load_at d m) 0 _ long; peak = refl }

  -- past the i-th stop, where the array a has each node's stop
  module _ {a : List ℕ} (sp : Spots l n a) {i aboard top : ℕ} {h : List ℕ} (p : Riding d m i aboard top h) (b : i < n) {up down : ℕ}
      (eu : up ≡ get_or t (64 + get_or l i 0) 0 + cond (ltb i (get_or a (mate (get_or l i 0)) 0) && ltb (get_or a (mate (get_or l i 0)) 0) 64) (get_or t (128 + get_or l i 0) 0) 0)
      (ed : down ≡ get_or t (get_or l i 0) 0 + cond (ltb (get_or a (mate (get_or l i 0)) 0) i) (get_or t (192 + get_or l i 0) 0) 0) where
    abbrev y : ℕ
    y = mate (get_or l i 0)

    stop : get_or a y 0 ≡ spot l n y
    stop = spot-node a y sp.long (r.jobs.near (get_or l i 0) (near i b)) ∙ sp.at y

    ahead : (ltb i (get_or a y 0) && ltb (get_or a y 0) 64) ≡ mem y (drop (suc i) m)
    ahead = ap (λ (k : ℕ). ltb i k && ltb k 64) stop ∙ spot-ahead l n r.route.most (omega (arith, r.route.long, r.route.most)) r.route.nodes y i

    behind-it : ltb (get_or a y 0) i ≡ mem y (behind m i)
    behind-it = ap (λ (k : ℕ). ltb k i) stop ∙ spot-before l n r.route.most (omega (arith, r.route.long, r.route.most)) r.route.nodes y i (omega arith)

    moved : load d (behind m (i + 1)) (drop (i + 1) m) + down ≡ aboard + up
    moved =
        (λ u. load d (behind m (i + 1)) (drop (i + 1) m) + (ed ∙ ap (λ (q : Bool). get_or t (get_or l i 0) 0 + cond q (get_or t (192 + get_or l i 0) 0) 0) behind-it) u)
        ∙ past_next i b ∙ (λ u. sym p.is u + sym (eu ∙ ap (λ (q : Bool). get_or t (64 + get_or l i 0) 0 + cond q (get_or t (128 + get_or l i 0) 0) 0) ahead) u)

    pub up-few : up ≤ 8796093022208
    up-few = omega (arith, eu, low (64 + get_or l i 0), low (128 + get_or l i 0), cond-low (ltb i (get_or a y 0) && ltb (get_or a y 0) 64) (get_or t (128 + get_or l i 0) 0))

    pub down-few : down ≤ aboard + up
    down-few = omega (arith, moved)

    pub riding-next : {now high : ℕ} → now ≡ aboard + up - down → high ≡ max top now → Riding d m (i + 1) now high (set h i now)
    riding-next {now} e t =
        let z : now ≡ load d (behind m (i + 1)) (drop (i + 1) m) = omega (arith, moved) in
        let q : now ≡ load_at d m i = z ∙ ap (λ (k : ℕ). load d (behind m k) (drop k m)) (add-one i) in record {
          is = z;
          few = omega (arith, p.few, up-few);
          legs = filled_more _ p.legs (omega (arith, r.route.most)) q;
          peak = t ∙ (λ u. max (p.peak u) (q u)) ∙ sym (peak-next (load_at d m) i);
        }
