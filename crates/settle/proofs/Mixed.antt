-- Clean before soiled: the legs that a look along the route shuts to a node are those in which it would mix something.
use mathlib.Core.Path.{◌≡◌, refl, sym, ap, ◌∙◌, subst}
use Prim.Native.Nat.{ℕ, suc, ◌-◌, ◌<◌, ◌≤◌}
use mathlib.Core.Bool.{Bool, true, not, ◌&&◌}
use mathlib.Core.List.{List}
use mathlib.Core.Logic.{⊎_elim}
use native.Mathlib.Omega.{arith}
use lib.Dec.{T, T_not, not_T}
use lib.ListN.{get_or, take, drop}
use lib.Seq.{get_or-take}
use Rattle.laws.proofs.Logic.{true→T, T→true, and_i, and_l, and_r, and_mono, or_r, or-e, not-or-l, not-or-r, contra, imp-e}
use Rattle.laws.proofs.Lists.{any-i, any-e, mem-in, in_mem}
use Rattle.laws.specs.Basic.{mem, any, tab}
use Rattle.bits.specs.Places.{has}
use Rattle.rules.specs.Day.{Day}
use Rattle.rules.specs.Profile.{clean_at, soiled_at, is_clean, is_soiled}
use Rattle.rules.specs.Along.{behind}
use Rattle.sheet.specs.declared.Layout.{Layout}
use Rattle.day.specs.Seen.{LookedOver}
use Rattle.day.specs.declared.jobs.Looked.{Looked}
use Rattle.day.specs.Tell.{day_of, job_in}
use Rattle.walks.specs.Walks.{Kept}
use Rattle.along.specs.Ready.{Ready}
use Rattle.along.proofs.ReadyLaws.{jobs-are}
use Rattle.along.proofs.SpotLaws.{Found, behind-found, found-behind, drop-found, found_drop}
use Rattle.along.proofs.Facts.{size, near-nodes}
use Rattle.profile.specs.Shut.{Shuts, shut_to}
use Rattle.profile.specs.declared.Shut.{Shut}
use Rattle.settle.specs.Round.{mixed_leaves}

module _ {s : List ℕ} {at : Layout} {l : List ℕ} {n : ℕ} {ws : List ℕ} {marks : ℕ} (r : Ready s at l n ws marks) {j : Looked}
    (k : LookedOver (job_in s) at.jobs j) {sh : Shut} (z : Shuts l (n - 1) j.clean j.soiled sh) where
  abbrev d : Day
  d = day_of s

  abbrev m : List ℕ
  m = take n l

  -- the words tell which nodes are clean, and which are soiled
  clean_is : (x : ℕ) → x < 64 → has j.clean x ≡ is_clean d x
  unfolding is_clean
  clean_is x h = k.clean x h ∙ ap (λ (e : ℕ). any (clean_at x) (tab e (job_in s))) (jobs-are r.laid)

  soiled-is : (x : ℕ) → x < 64 → has j.soiled x ≡ is_soiled d x
  unfolding is_soiled
  soiled-is x h = k.soiled x h ∙ ap (λ (e : ℕ). any (soiled_at x) (tab e (job_in s))) (jobs-are r.laid)

  -- a word that tells f of every node tells it of the stops
  module _ (w : ℕ) (f : ℕ → Bool) (is : (x : ℕ) → x < 64 → has w x ≡ f x) where
    stop-has : {a lo hi : ℕ} (p : Found m lo hi a) → hi ≤ n → T (f a) → T (has w (get_or l p.i 0))
    stop-has p h t =
        let g : p.i < n = omega (arith, p.high) in
        true→T _ (is (get_or l p.i 0) (near-nodes r p.i g) ∙ ap f (sym (get_or-take n l p.i 0 g) ∙ p.is) ∙ T→true _ t)

    has-stop : (L : List ℕ) (i : ℕ) → i < n → T (mem (get_or l i 0) L) → T (has w (get_or l i 0)) → T (any f L)
    has-stop L i h u t = any-i f (mem-in (get_or l i 0) L u) (true→T _ (sym (is (get_or l i 0) (near-nodes r i h)) ∙ T→true _ t))

  -- a soiled stop at the i-th leg's beginning or before it: the leg is late
  to-late : (i : ℕ) → i < n - 1 → T (any (is_soiled d) (behind m (suc i))) → T (has sh.late (get_or l i 0))
  to-late i h = any-e (is_soiled d) (behind m (suc i)) (λ a u t. let f = behind-found a m (suc i) (in_mem u) in
      (z.late (get_or l i 0)).1 (record { leg = i; stop = f.i; named = refl; low = h; order = omega (arith, f.high); is = stop-has j.soiled (is_soiled d) soiled-is f (omega arith) t }))

  from-late : (q : ℕ) → T (has sh.late q) → (i : ℕ) × (i < n - 1) × (get_or l i 0 ≡ q) × T (any (is_soiled d) (behind m (suc i)))
  from-late q t =
      let f = (z.late q).0 t in
      let g : f.stop < n = omega (arith, f.order, f.low) in
      let p = found-behind (get_or l f.stop 0) m (suc f.leg) (record { i = f.stop; low = omega arith; high = omega (arith, f.order); is = get_or-take n l f.stop 0 g }) in
      (f.leg, f.low, f.named, has-stop j.soiled (is_soiled d) soiled-is (behind m (suc f.leg)) f.stop g p f.is)

  -- a clean stop after it: the leg is early
  to-early : (i : ℕ) → i < n - 1 → T (any (is_clean d) (drop (suc i) m)) → T (has sh.early (get_or l i 0))
  to-early i h = any-e (is_clean d) (drop (suc i) m) (λ a u t. let f = drop-found a m (suc i) (in_mem u) in
      (z.early (get_or l i 0)).1 (record { leg = i; stop = f.i; named = refl; low = omega (arith, f.high, size r); order = f.low; is = stop-has j.clean (is_clean d) clean_is f (omega (arith, size r)) t }))

  from-early : (q : ℕ) → T (has sh.early q) → (i : ℕ) × (i < n - 1) × (get_or l i 0 ≡ q) × T (any (is_clean d) (drop (suc i) m))
  from-early q t =
      let f = (z.early q).0 t in
      let g : f.stop < n = omega (arith, f.order, f.low) in
      let p = found_drop (get_or l f.stop 0) m (suc f.leg) (record { i = f.stop; low = f.order; high = omega (arith, g, size r); is = get_or-take n l f.stop 0 g }) in
      (f.leg, omega (arith, f.order, f.low), f.named, has-stop j.clean (is_clean d) clean_is (drop (suc f.leg) m) f.stop g p f.is)

  module _ (y : ℕ) (low : y < 64) where
    abbrev late : ℕ → Bool
    late q = has sh.clean y && has sh.late q

    abbrev early : ℕ → Bool
    early q = has sh.soiled y && has sh.early q

    clean-y : is_clean d y ≡ has sh.clean y
    clean-y = sym (ap (λ (w : ℕ). has w y) z.clean ∙ clean_is y low)

    soiled-y : is_soiled d y ≡ has sh.soiled y
    soiled-y = sym (ap (λ (w : ℕ). has w y) z.soiled ∙ soiled-is y low)

    -- y would be too soon in the i-th leg, or too late
    abbrev too_soon : ℕ → Bool
    too_soon i = is_soiled d y && any (is_clean d) (drop (suc i) m)

    abbrev too_late : ℕ → Bool
    too_late i = is_clean d y && any (is_soiled d) (behind m (suc i))

    -- a leg that is not shut to y
    pass : (i : ℕ) → i < n - 1 → T (not (shut_to sh y (get_or l i 0))) → T (not (too_soon i) && not (too_late i))
    pass i h t =
        let q = get_or l i 0 in
        and_i (not (too_soon i)) (not (too_late i))
        (contra (too_soon i) (early q) (and_mono (is_soiled d y) (any (is_clean d) (drop (suc i) m)) (has sh.soiled y) (has sh.early q) (subst (λ (b : Bool). T b) soiled-y) (to-early i h))
        (not-or-r (late q) (early q) t))
        (contra (too_late i) (late q) (and_mono (is_clean d y) (any (is_soiled d) (behind m (suc i))) (has sh.clean y) (has sh.late q) (subst (λ (b : Bool). T b) clean-y) (to-late i h))
        (not-or-l (late q) (early q) t))

    -- one that is shut to it
    shut : (q : ℕ) → T (shut_to sh y q) → ((i : ℕ) → i < n - 1 → get_or l i 0 ≡ q → T (not (too_soon i) && not (too_late i))) → ⊥
    shut q t f = ⊎_elim
        (λ u. let g = from-late q (and_r (has sh.clean y) (has sh.late q) u) in
        T_not (too_late g.0) (and_r (not (too_soon g.0)) (not (too_late g.0)) (f g.0 g.1 g.2))
        (and_i (is_clean d y) (any (is_soiled d) (behind m (suc g.0))) (subst (λ (b : Bool). T b) (sym clean-y) (and_l (has sh.clean y) (has sh.late q) u)) g.3))
        (λ u. let g = from-early q (and_r (has sh.soiled y) (has sh.early q) u) in
        T_not (too_soon g.0) (and_l (not (too_soon g.0)) (not (too_late g.0)) (f g.0 g.1 g.2))
        (and_i (is_soiled d y) (any (is_clean d) (drop (suc g.0) m)) (subst (λ (b : Bool). T b) (sym soiled-y) (and_l (has sh.soiled y) (has sh.early q) u)) g.3))
        (or-e (late q) (early q) t)

    -- the places of y that are left are those in which it mixes nothing
    pub mixed-kept : d.profile ≡ true → {w v : ℕ} → ((q : ℕ) → has v q ≡ (has w q && not (shut_to sh y q))) → Kept l 0 (n - 1) (mixed_leaves d m y) w v
    mixed-kept p {w} {v} e = record {
      at = λ q. (
        λ t. let u = subst (λ (b : Bool). T b) (e q) t in (
          and_l (has w q) (not (shut_to sh y q)) u,
          λ i a h f. or_r (not d.profile) (not (too_soon i) && not (too_late i)) (pass i h (subst (λ (o : ℕ). T (not (shut_to sh y o))) (sym f) (and_r (has w q) (not (shut_to sh y q)) u))),
        ),
        λ t. subst (λ (b : Bool). T b) (sym (e q)) (and_i (has w q) (not (shut_to sh y q)) t.0
            (not_T (shut_to sh y q) (λ u. shut q u (λ i h f. imp-e d.profile (not (too_soon i) && not (too_late i)) (t.1 i (omega arith) h f) (true→T _ p))))),
      );
    }
