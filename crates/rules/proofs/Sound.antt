-- Sound: no test strikes a place that a rule-keeping round of the plan uses. The tests have this law one by one; the theorems read
-- `each-sound` only.
use mathlib.Core.Path.{◌≡◌, refl, subst}
use Prim.Native.Nat.{ℕ}
use native.Mathlib.Omega.{arith}
use mathlib.Core.Bool.{not, ◌&&◌, ◌||◌}
use mathlib.Core.List.{List, [], ◌∷◌}
use mathlib.Core.Logic.{◌⊎◌, inl, inr, ⊎_elim}
use lib.Dec.{T, T_not, eqb, eqb→eq}
use Rattle.laws.proofs.Logic.{and_i, and_l, and_r, or_l, or_r, or_mono, tf, not-or-i, not-or-l, not-or-r, contra, imp-i, cond-new}
use Rattle.laws.proofs.Lists.{Each, end, also, Sub, nil, keep, skip, mem-sub, all-i, mem-hd, mem-tl, mem-rest}
use Rattle.laws.specs.Basic.{mem, hd, In}
use Rattle.rules.specs.Day.{Day}
use Rattle.rules.specs.declared.Van.{Van}
use Rattle.rules.specs.Leg.{legs_ahead, legs_behind}
use Rattle.rules.specs.Time.{start}
use Rattle.rules.specs.Load.{carries, room, reach_ahead, reach_back}
use Rattle.rules.specs.Profile.{clean_first, unmixed}
use Rattle.rules.specs.Plan.{Places}
use Rattle.rules.specs.Rounds.{Distinct, Within, done, stop, extra, keeps}
use Rattle.rules.specs.Tests.{Test, window, short, clean_fits, clean, soiled_fits, soiled, partner_placed, neither_placed, clean_before, tests}
use Rattle.rules.specs.Asked.{Triangle}
use Rattle.rules.specs.declared.Job.{Job}
use Rattle.rules.specs.declared.Job.TheVariants.{Clean, Soiled, Transfer}
use Rattle.rules.proofs.Cuts.{Cut, move, cut-next, cut-ahead, cut-behind, cut-mem, legs-ahead, legs-behind}
use Rattle.rules.proofs.Grows.{start-grows, fits-grows, around-grows, cut-driven, short-around, room-new}
use Rattle.rules.proofs.Longer.{Past, begun, halt, between, past-sub}
use Rattle.rules.proofs.Transfers.{meets-i, supports-i}
use Rattle.rules.proofs.Keeps.{keeps-time, keeps-metres, keeps-order, keeps-loads, keeps-profile, second-ahead, first-behind}
use Rattle.rules.proofs.CleanFirst.{unmixed-cut, unmixed-sub}
use Rattle.rules.proofs.Nodes.{distinct_tail, distinct-off, off-sub, within-sub, distinct-behind, distinct-ahead}
use Rattle.rules.proofs.Windows.{window-fits, fits-sooner, time-fits, time-cut}

-- a rule-keeping round z ∷ R of the plan with route z ∷ r and places o uses a place of x: x stands in the leg (p ∷ A, k ∷ B)
pub record Uses (v : Van) (d : Day) (o : Places) (z : ℕ) (r R : List ℕ) (x p : ℕ) (A : List ℕ) (k : ℕ) (B : List ℕ) : Type 0 where
  pub nodes : Distinct d.n (z ∷ R)
  pub rules : T (keeps v d (z ∷ R))
  pub leg : Cut (z ∷ []) r (p ∷ A) (k ∷ B)
  pub q : ℕ
  pub A' : List ℕ
  pub B' : List ℕ
  pub at : Cut (z ∷ []) R (q ∷ A') (x ∷ B')
  pub behind : Past o z (p ∷ A) (q ∷ A')
  pub ahead : Within o p (k ∷ B) B'

-- on a triangle day the test passes wherever a rule-keeping round of the plan uses a place
abbrev pub SoundTest : Test → Type 0
SoundTest t = (v : Van) (d : Day) → Triangle d → (o : Places) (z x p k : ℕ) (r R A B : List ℕ) → Uses v d o z r R x p A k B → T (t v d (z ∷ r) o x (p ∷ A) (k ∷ B))

-- ---- the load that a job of x needs fits along the route where it fits along the round

module _ (v : Van) (d : Day) where
  transfer-room : {a b w : ℕ} {A A' B B' : List ℕ} → In (Transfer a b w) d.jobs → Sub A A' → Sub B B' → T (mem a A') → T (mem b B')
      → T (not (mem a A && mem b B)) → T (carries v d A' B') → T (room v d w A B)
  transfer-room {a} {b} {w} {A} {A'} {B} {B'} i s t ma mb n =
      room-new v d w i s t (cond-new (mem a A && mem b B) (mem a A' && mem b B') w n (and_i (mem a A') (mem b B') ma mb))

  soiled-ahead : {x w : ℕ} {A A' B B' : List ℕ} → In (Soiled x w) d.jobs → Sub A A' → Sub B B' → T (mem x A') → T (not (mem x A)) → T (not (mem x B'))
      → T (legs_ahead (carries v d) A' B') → T (legs_ahead (room v d w) A B)
  soiled-ahead i s nil m a b h = tt
  soiled-ahead {x} {w} {A} {A'} i s (keep {x = k} {l = B} {m = B'} t) m a b h =
      and_i (room v d w A (k ∷ B)) (legs_ahead (room v d w) (k ∷ A) B)
      (room-new v d w i s (keep t) (cond-new (mem x A) (mem x A') w a m) (and_l (carries v d A' (k ∷ B')) (legs_ahead (carries v d) (k ∷ A') B') h))
      (soiled-ahead i (keep s) t (mem-tl x k A' m) (not-or-i (eqb k x) (mem x A) (not-or-l (eqb k x) (mem x B') b) a) (not-or-r (eqb k x) (mem x B') b)
      (and_r (carries v d A' (k ∷ B')) (legs_ahead (carries v d) (k ∷ A') B') h))
  soiled-ahead {x} {A' = A'} i s (skip {x = y} {m = B'} t) m a b h =
      soiled-ahead i (skip s) t (mem-tl x y A' m) a (not-or-r (eqb y x) (mem x B') b) (and_r (carries v d A' (y ∷ B')) (legs_ahead (carries v d) (y ∷ A') B') h)

  clean_back : {x w : ℕ} {A A' B B' : List ℕ} → In (Clean x w) d.jobs → Sub A A' → Sub B B' → T (mem x B') → T (not (mem x B)) → T (not (mem x A'))
      → T (legs_behind (carries v d) A' B') → T (legs_behind (room v d w) A B)
  clean_back i nil t m b a h = tt
  clean_back {x} {w} {B = B} {B' = B'} i (keep {x = p} {l = A} {m = A'} s) t m b a h =
      and_i (room v d w (p ∷ A) B) (legs_behind (room v d w) A (p ∷ B))
      (room-new v d w i (keep s) t (cond-new (mem x B) (mem x B') w b m) (and_l (carries v d (p ∷ A') B') (legs_behind (carries v d) A' (p ∷ B')) h))
      (clean_back i s (keep t) (mem-tl x p B' m) (not-or-i (eqb p x) (mem x B) (not-or-l (eqb p x) (mem x A') a) b) (not-or-r (eqb p x) (mem x A') a)
      (and_r (carries v d (p ∷ A') B') (legs_behind (carries v d) A' (p ∷ B')) h))
  clean_back {x} {B' = B'} i (skip {x = y} {m = A'} s) t m b a h =
      clean_back i s (skip t) (mem-tl x y B' m) b (not-or-r (eqb y x) (mem x A') a) (and_r (carries v d (y ∷ A') B') (legs_behind (carries v d) A' (y ∷ B')) h)

  -- the first node at x, the second on the route ahead
  placed-ahead : {x b w : ℕ} {A A' B B' : List ℕ} → In (Transfer x b w) d.jobs → Sub A A' → Sub B B' → T (mem x A') → T (not (mem x A)) → T (not (mem x B'))
      → T (mem b B)
      → T (legs_ahead (carries v d) A' B') → T (reach_ahead v d (λ p k. eqb k b) w A B)
  placed-ahead i s nil m a n mb h = absurd mb
  placed-ahead {x} {b} {w} {A} {A'} i s (keep {x = k} {l = B} {m = B'} t) m a n mb h =
      and_i (room v d w A (k ∷ B)) (eqb k b || reach_ahead v d (λ p k. eqb k b) w (k ∷ A) B)
      (transfer-room i s (keep t) m (mem-sub b (keep t) mb) (contra (mem x A && mem b (k ∷ B)) (mem x A) (and_l (mem x A) (mem b (k ∷ B))) a)
      (and_l (carries v d A' (k ∷ B')) (legs_ahead (carries v d) (k ∷ A') B') h))
      (or_mono (eqb k b) (mem b B) (eqb k b) (reach_ahead v d (λ p k. eqb k b) w (k ∷ A) B) (λ e. e)
      (λ mb'. placed-ahead i (keep s) t (mem-tl x k A' m) (not-or-i (eqb k x) (mem x A) (not-or-l (eqb k x) (mem x B') n) a) (not-or-r (eqb k x) (mem x B') n) mb'
      (and_r (carries v d A' (k ∷ B')) (legs_ahead (carries v d) (k ∷ A') B') h)) mb)
  placed-ahead {x} {A' = A'} i s (skip {x = y} {m = B'} t) m a n mb h =
      placed-ahead i (skip s) t (mem-tl x y A' m) a (not-or-r (eqb y x) (mem x B') n) mb (and_r (carries v d A' (y ∷ B')) (legs_ahead (carries v d) (y ∷ A') B') h)

  -- the first node at x, the second open in a leg ahead
  open-ahead : {x b w : ℕ} {o : Places} {q : ℕ} {A A' B B' : List ℕ} → In (Transfer x b w) d.jobs → Sub A A' → Within o q B B' → q ≡ hd A → T (mem x A')
      → T (not (mem x A)) → T (not (mem x B'))
      → T (not (mem b B)) → T (mem b B') → T (legs_ahead (carries v d) A' B') → T (reach_ahead v d (λ p k. o b p) w A B)
  open-ahead i s done z m a n nb mb h = absurd mb
  open-ahead {x} {b} {w} {o} {A = A} {A'} i s (stop {k = k} {r = B} {R = B'} u) z m a n nb mb h =
      and_i (room v d w A (k ∷ B)) (o b (hd A) || reach_ahead v d (λ p k. o b p) w (k ∷ A) B)
      (transfer-room i s (keep (within-sub u)) m mb (contra (mem x A && mem b (k ∷ B)) (mem x A) (and_l (mem x A) (mem b (k ∷ B))) a)
      (and_l (carries v d A' (k ∷ B')) (legs_ahead (carries v d) (k ∷ A') B') h))
      (or_r (o b (hd A)) (reach_ahead v d (λ p k. o b p) w (k ∷ A) B)
      (open-ahead i (keep s) u refl (mem-tl x k A' m) (not-or-i (eqb k x) (mem x A) (not-or-l (eqb k x) (mem x B') n) a) (not-or-r (eqb k x) (mem x B') n)
      (not-or-r (eqb k b) (mem b B) nb) (mem-rest b k B' (not-or-l (eqb k b) (mem b B) nb) mb) (and_r (carries v d A' (k ∷ B')) (legs_ahead (carries v d) (k ∷ A') B') h)))
  open-ahead {x} {b} {w} {o} {A = A} {A'} i s (extra {x = y} {k = k} {r = B} {R = B'} t u) z m a n nb mb h = go (tf (eqb y b))
      (λ mb'. open-ahead i (skip s) u z (mem-tl x y A' m) a (not-or-r (eqb y x) (mem x B') n) nb mb' (and_r (carries v d A' (y ∷ B')) (legs_ahead (carries v d) (y ∷ A') B') h))
    where
      go : T (eqb y b) ⊎ T (not (eqb y b)) → (T (mem b B') → T (reach_ahead v d (λ p k. o b p) w A (k ∷ B))) → T (reach_ahead v d (λ p k. o b p) w A (k ∷ B))
      go (inr e) f = f (mem-rest b y B' e mb)
      go (inl e) f = and_i (room v d w A (k ∷ B)) (o b (hd A) || reach_ahead v d (λ p k. o b p) w (k ∷ A) B)
          (transfer-room i s (skip (within-sub u)) m mb (contra (mem x A && mem b (k ∷ B)) (mem x A) (and_l (mem x A) (mem b (k ∷ B))) a)
          (and_l (carries v d A' (y ∷ B')) (legs_ahead (carries v d) (y ∷ A') B') h))
          (or_l (o b (hd A)) (reach_ahead v d (λ p k. o b p) w (k ∷ A) B) (subst (λ (c : ℕ). T (o c (hd A))) (eqb→eq y b e) (subst (λ (c : ℕ). T (o y c)) z t)))

  -- the second node at x, the first on the route behind
  placed-back : {a x w : ℕ} {A A' B B' : List ℕ} → In (Transfer a x w) d.jobs → Sub A A' → Sub B B' → T (mem x B') → T (not (mem x B)) → T (not (mem x A'))
      → T (mem a A)
      → T (legs_behind (carries v d) A' B') → T (reach_back v d (λ p k. eqb p a) w A B)
  placed-back i nil t m b n ma h = absurd ma
  placed-back {a} {x} {w} {B = B} {B' = B'} i (keep {x = p} {l = A} {m = A'} s) t m b n ma h =
      and_i (room v d w (p ∷ A) B) (eqb p a || reach_back v d (λ p k. eqb p a) w A (p ∷ B))
      (transfer-room i (keep s) t (mem-sub a (keep s) ma) m (contra (mem a (p ∷ A) && mem x B) (mem x B) (and_r (mem a (p ∷ A)) (mem x B)) b)
      (and_l (carries v d (p ∷ A') B') (legs_behind (carries v d) A' (p ∷ B')) h))
      (or_mono (eqb p a) (mem a A) (eqb p a) (reach_back v d (λ p k. eqb p a) w A (p ∷ B)) (λ e. e)
      (λ ma'. placed-back i s (keep t) (mem-tl x p B' m) (not-or-i (eqb p x) (mem x B) (not-or-l (eqb p x) (mem x A') n) b) (not-or-r (eqb p x) (mem x A') n) ma'
      (and_r (carries v d (p ∷ A') B') (legs_behind (carries v d) A' (p ∷ B')) h)) ma)
  placed-back {x = x} {B' = B'} i (skip {x = y} {m = A'} s) t m b n ma h =
      placed-back i s (skip t) (mem-tl x y B' m) b (not-or-r (eqb y x) (mem x A') n) ma (and_r (carries v d (y ∷ A') B') (legs_behind (carries v d) A' (y ∷ B')) h)

  -- the second node at x, the first open in a leg behind
  open-back : {a x w z : ℕ} {o : Places} {A A' B B' : List ℕ} → In (Transfer a x w) d.jobs → Past o z A A' → Sub B B' → T (mem x B') → T (not (mem x B))
      → T (not (mem x A'))
      → T (not (mem a A)) → T (mem a A') → T (legs_behind (carries v d) A' B') → T (reach_back v d (λ p k. o a p) w A B)
  open-back {a} {z = z} i begun t m b n na ma h = absurd (T_not (mem a (z ∷ [])) na ma)
  open-back {a} {x} {w} {o = o} {B = B} {B' = B'} i (halt {k = k} {p = p} {q = q} {A = A} {A' = A'} u) t m b n na ma h =
      and_i (room v d w (k ∷ p ∷ A) B) (o a k || reach_back v d (λ p k. o a p) w (p ∷ A) (k ∷ B))
      (transfer-room i (keep (past-sub u)) t ma m (contra (mem a (k ∷ p ∷ A) && mem x B) (mem x B) (and_r (mem a (k ∷ p ∷ A)) (mem x B)) b)
      (and_l (carries v d (k ∷ q ∷ A') B') (legs_behind (carries v d) (q ∷ A') (k ∷ B')) h))
      (or_r (o a k) (reach_back v d (λ p k. o a p) w (p ∷ A) (k ∷ B))
      (open-back i u (keep t) (mem-tl x k B' m) (not-or-i (eqb k x) (mem x B) (not-or-l (eqb k x) (mem x (q ∷ A')) n) b) (not-or-r (eqb k x) (mem x (q ∷ A')) n)
      (not-or-r (eqb k a) (mem a (p ∷ A)) na) (mem-rest a k (q ∷ A') (not-or-l (eqb k a) (mem a (p ∷ A)) na) ma)
      (and_r (carries v d (k ∷ q ∷ A') B') (legs_behind (carries v d) (q ∷ A') (k ∷ B')) h)))
  open-back {a} {x} {w} {o = o} {B = B} {B' = B'} i (between {y = y} {p = p} {q = q} {A = A} {A' = A'} e u) t m b n na ma h =
      ⊎_elim
      (λ s. and_i (room v d w (p ∷ A) B) (o a p || reach_back v d (λ p k. o a p) w A (p ∷ B))
      (transfer-room i (skip (past-sub u)) t ma m (contra (mem a (p ∷ A) && mem x B) (mem x B) (and_r (mem a (p ∷ A)) (mem x B)) b)
      (and_l (carries v d (y ∷ q ∷ A') B') (legs_behind (carries v d) (q ∷ A') (y ∷ B')) h))
      (or_l (o a p) (reach_back v d (λ p k. o a p) w A (p ∷ B)) (rw (eqb→eq y a s) at e)))
      (λ s. open-back i u (skip t) (mem-tl x y B' m) b (not-or-r (eqb y x) (mem x (q ∷ A')) n) na (mem-rest a y (q ∷ A') s ma)
      (and_r (carries v d (y ∷ q ∷ A') B') (legs_behind (carries v d) (q ∷ A') (y ∷ B')) h)) (tf (eqb y a))

-- ---- the tests, one by one

-- what a round that uses the place says at the cut where x stands
module _ {v : Van} {d : Day} {o : Places} {z x p k : ℕ} {r R A B : List ℕ} (u : Uses v d o z r R x p A k B) where
  sub_behind : Sub (p ∷ A) (u.q ∷ u.A')
  sub_behind = past-sub u.behind

  sub_ahead : Sub (k ∷ B) u.B'
  sub_ahead = within-sub u.ahead

  fresh_behind : Distinct d.n (x ∷ u.q ∷ u.A')
  fresh_behind = (distinct-behind u.nodes (cut-next u.at)).0

  fresh_ahead : Distinct d.n (x ∷ u.B')
  fresh_ahead = distinct-ahead (distinct_tail u.nodes) u.at

  off_behind : T (not (mem x (p ∷ A)))
  off_behind = off-sub x sub_behind (distinct-off fresh_behind)

  off_ahead : T (not (mem x (k ∷ B)))
  off_ahead = off-sub x sub_ahead (distinct-off fresh_ahead)

  loads_ahead : T (legs_ahead (carries v d) (x ∷ u.q ∷ u.A') u.B')
  loads_ahead = legs-ahead (carries v d) (cut-next u.at) (keeps-loads v d (z ∷ R) u.rules)

  loads_behind : T (legs_behind (carries v d) (u.q ∷ u.A') (x ∷ u.B'))
  loads_behind = legs-behind (carries v d) u.at (keeps-loads v d (z ∷ R) u.rules)

  -- on the route, and ahead or behind of x in the round: so on the route
  on_ahead : (b : ℕ) → T (mem b (z ∷ r)) → T (mem b u.B') → T (mem b (k ∷ B))
  on_ahead b m t = ⊎_elim (λ h. absurd (T_not (mem b (x ∷ u.q ∷ u.A')) ((distinct-behind u.nodes (cut-next u.at)).1 b t) (mem-tl b x (u.q ∷ u.A') (mem-sub b sub_behind h)))) (λ h. h)
      (cut-mem b (move u.leg) (inr m))

  on_behind : (a : ℕ) → T (mem a (z ∷ r)) → T (mem a (u.q ∷ u.A')) → T (mem a (p ∷ A))
  on_behind a m t = ⊎_elim (λ h. h) (λ h. absurd (T_not (mem a (u.q ∷ u.A')) ((distinct-behind u.nodes u.at).1 a (mem-tl a x u.B' (mem-sub a sub_ahead h))) t))
      (cut-mem a (move u.leg) (inr m))

  -- the partner of x in the round
  second : (b w : ℕ) → In (Transfer x b w) d.jobs → T (mem b u.B')
  second b w i = second-ahead x (move u.at) (distinct-off fresh_behind) (distinct-off fresh_ahead) b (keeps-order v d (z ∷ R) u.rules x b w i)

  first : (a w : ℕ) → In (Transfer a x w) d.jobs → T (mem a (u.q ∷ u.A'))
  first a w i = first-behind x (move u.at) (distinct-off fresh_behind) (distinct-off fresh_ahead) a (keeps-order v d (z ∷ R) u.rules a x w i)

pub window-sound : SoundTest window
window-sound v d tri o z x p k r R A B u =
    (window-fits v d (z ∷ r) o x (p ∷ A) (k ∷ B)).1
    (fits-sooner d x (k ∷ B) (start-grows d tri (sub_behind u) (fresh_behind u))
    (fits-grows d tri (start d (u.q ∷ u.A') x) (sub_ahead u) (fresh_ahead u) (time-fits d (u.q ∷ u.A') x u.B' (time-cut d (move u.at) (keeps-time v d (z ∷ R) u.rules)))))

pub short-sound : SoundTest short
short-sound v d tri o z x p k r R A B u =
    (short-around v d o x u.leg).1
    (omega (arith, keeps-metres v d (z ∷ R) u.rules, cut-driven d u.at, around-grows d tri (sub_behind u) (sub_ahead u) (fresh_behind u) (fresh_ahead u)))

pub clean-sound : SoundTest clean
clean-sound v d tri o z x p k r R A B u = all-i (clean_fits v d x (p ∷ A) (k ∷ B)) d.jobs job
  where
    job : (j : Job) → In j d.jobs → T (clean_fits v d x (p ∷ A) (k ∷ B) j)
    job (Clean a w) i = imp-i (eqb a x) (legs_behind (room v d w) (p ∷ A) (k ∷ B))
        (λ e. clean_back v d (subst (λ (c : ℕ). In (Clean c w) d.jobs) (eqb→eq a x e) i) (sub_behind u) (skip (sub_ahead u)) (mem-hd x u.B') (off_ahead u) (distinct-off (fresh_behind u)) (loads_behind u))
    job (Soiled a w) i = tt
    job (Transfer a b w) i = tt

pub soiled-sound : SoundTest soiled
soiled-sound v d tri o z x p k r R A B u = all-i (soiled_fits v d x (p ∷ A) (k ∷ B)) d.jobs job
  where
    job : (j : Job) → In j d.jobs → T (soiled_fits v d x (p ∷ A) (k ∷ B) j)
    job (Clean a w) i = tt
    job (Soiled a w) i = imp-i (eqb a x) (legs_ahead (room v d w) (p ∷ A) (k ∷ B))
        (λ e. soiled-ahead v d (subst (λ (c : ℕ). In (Soiled c w) d.jobs) (eqb→eq a x e) i) (skip (sub_behind u)) (sub_ahead u) (mem-hd x (u.q ∷ u.A')) (off_behind u) (distinct-off (fresh_ahead u)) (loads_ahead u))
    job (Transfer a b w) i = tt

pub partner_placed-sound : SoundTest partner_placed
partner_placed-sound v d tri o z x p k r R A B u = meets-i v d (z ∷ r) o x (p ∷ A) (k ∷ B) (record {
  first = λ b w i m. placed-ahead v d i (skip (sub_behind u)) (sub_ahead u) (mem-hd x (u.q ∷ u.A')) (off_behind u) (distinct-off (fresh_ahead u)) (on_ahead u b m (second u b w i)) (loads_ahead u);
  second = λ a w i m. placed-back v d i (sub_behind u) (skip (sub_ahead u)) (mem-hd x u.B') (off_ahead u) (distinct-off (fresh_behind u)) (on_behind u a m (first u a w i)) (loads_behind u);
})

pub neither_placed-sound : SoundTest neither_placed
neither_placed-sound v d tri o z x p k r R A B u = supports-i v d (z ∷ r) o x (p ∷ A) (k ∷ B) (record {
  first = λ b w i n. open-ahead v d i (skip (sub_behind u)) u.ahead refl (mem-hd x (u.q ∷ u.A')) (off_behind u) (distinct-off (fresh_ahead u))
      (contra (mem b (k ∷ B)) (mem b (z ∷ r)) (cut-ahead b (move u.leg)) n) (second u b w i) (loads_ahead u);
  second = λ a w i n. open-back v d i u.behind (skip (sub_ahead u)) (mem-hd x u.B') (off_ahead u) (distinct-off (fresh_behind u))
      (contra (mem a (p ∷ A)) (mem a (z ∷ r)) (λ m. ⊎_elim (λ f. absurd f) (λ h. h) (cut-behind a (move u.leg) m)) n) (first u a w i) (loads_behind u);
})

pub clean_before-sound : SoundTest clean_before
clean_before-sound v d tri o z x p k r R A B u = or_mono (not d.profile) (clean_first d (z ∷ R)) (not d.profile) (unmixed d x (p ∷ A) (k ∷ B)) (λ t. t)
    (λ h. unmixed-sub d x (sub_behind u) (sub_ahead u) (unmixed-cut d x (move u.at) h)) (keeps-profile v d (z ∷ R) u.rules)

-- ---- the law, of every test

pub each-sound : Each SoundTest tests
each-sound =
    also window-sound
    (also short-sound
    (also clean-sound
    (also soiled-sound
    (also partner_placed-sound
    (also neither_placed-sound
    (also clean_before-sound end))))))
