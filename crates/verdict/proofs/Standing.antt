-- Who is owed, by the partners of the marked nodes and of the nodes on the route.
use mathlib.Core.Path.{◌≡◌, refl, sym, ap, ◌∙◌, subst}
use Prim.Native.Nat.{ℕ, ◌+◌, ◌^◌, ◌<◌}
use mathlib.Core.Bool.{Bool, true, false, not, ◌&&◌, ◌||◌}
use mathlib.Core.List.{List}
use mathlib.Core.Logic.{⊎_elim}
use native.Mathlib.Omega.{arith}
use lib.Dec.{T, T_not, eqb, eqb→eq}
use lib.ListN.{get_or, take}
use Rattle.laws.specs.Basic.{mem, any, In, all_below}
use Rattle.laws.proofs.Logic.{T-ext, tf, true→T, T→true, and_i, and_l, and_r, or_l, or_r, or-e}
use Rattle.laws.proofs.Lists.{any-i, any-e, mem-hd}
use Rattle.laws.proofs.Table.{in-tab}
use Rattle.bits.specs.Places.{has, join, minus}
use Rattle.bits.proofs.Members.{has-low}
use Rattle.bits.proofs.Masks.{has_join, has-minus}
use Rattle.rules.specs.Day.{Day}
use Rattle.rules.specs.declared.Van.{Van}
use Rattle.rules.specs.Verdict.{partnered, alive}
use Rattle.rules.specs.declared.Job.{Job}
use Rattle.rules.specs.declared.Job.TheVariants.{Clean, Soiled, Transfer}
use Rattle.sheet.specs.Section.{m_of}
use Rattle.sheet.specs.declared.Layout.{Layout}
use Rattle.day.specs.Tell.{day_of, job_in}
use Rattle.day.proofs.Asked.{proper}
use Rattle.along.specs.Sets.{plan_from}
use Rattle.along.specs.Ready.{Ready}
use Rattle.along.specs.Nodes.{ByNode, Mates, Routed}
use Rattle.along.proofs.Facts.{routed}
use Rattle.along.proofs.ReadyLaws.{jobs-are}
use Rattle.verdict.specs.declared.Course.{Course}
use Rattle.verdict.specs.Verdict.{joins, member_open, Coursed}
use Rattle.verdict.proofs.Pairing.{other, joined-on}
use Rattle.along.proofs.Mating.{in-at}
use Rattle.verdict.proofs.Mating.{mate-found}
use Rattle.along.proofs.Walking.{mates, told}
use Rattle.verdict.proofs.Owing.{owed-is}
use Rattle.verdict.proofs.Road.{alive-told}

-- who is joined to x is joined to it from the other side
turned : (x y : ℕ) (j : Job) → T (joins y x j) → T (joins x y j)
turned x y (Clean a w) t = absurd t
turned x y (Soiled a w) t = absurd t
turned x y (Transfer a b w) t =
    ⊎_elim (λ u. or_r (eqb a x && eqb b y) (eqb b x && eqb a y) (and_i (eqb b x) (eqb a y) (and_r (eqb a y) (eqb b x) u) (and_l (eqb a y) (eqb b x) u)))
    (λ u. or_l (eqb a x && eqb b y) (eqb b x && eqb a y) (and_i (eqb a x) (eqb b y) (and_r (eqb b y) (eqb a x) u) (and_l (eqb b y) (eqb a x) u)))
    (or-e (eqb a y && eqb b x) (eqb b y && eqb a x) t)

module _ {s : List ℕ} {at : Layout} {l : List ℕ} {n : ℕ} {ws : List ℕ} {marks : ℕ} (r : Ready s at l n ws marks) {t : List ℕ} (b : ByNode (job_in s) at.jobs t) where
  abbrev m : List ℕ
  m = take n l

  abbrev d : Day
  d = day_of s

  road : Routed s at l n t
  road = routed r b

  module _ {v : Van} {c : Course} (k : Coursed v d t m c) (on-low : c.on < 2 ^ 64) (marks-low : marks < 2 ^ 64) {paired : ℕ} (p : Mates t marks paired) where
    abbrev call : ℕ → Bool
    call y = has marks y || mem y m

    abbrev owing : ℕ
    owing = join marks (join c.called paired)

    -- a partner's partner
    mate-is : (x y : ℕ) (j : Job) → In j d.jobs → T (joins x y j) → y < 64 → get_or t (256 + y) 0 ≡ x
    mate-is x y j i u h = go j (in-tab (m_of s) (job_in s) i).k (omega (arith, (in-tab (m_of s) (job_in s) i).low, jobs-are r.laid)) (in-tab (m_of s) (job_in s) i).is u
      where
        go : (j : Job) (q : ℕ) → q < at.jobs → job_in s q ≡ j → T (joins x y j) → get_or t (256 + y) 0 ≡ x
        go (Clean a w) q l e u = absurd u
        go (Soiled a w) q l e u = absurd u
        go (Transfer a b w) q l e u =
            let z = mates road q a b w l e y h in
            ⊎_elim (λ f. z.2 (sym (eqb→eq b y (and_r (eqb a x) (eqb b y) f))) ∙ eqb→eq a x (and_l (eqb a x) (eqb b y) f))
            (λ f. z.1 (sym (eqb→eq a y (and_r (eqb b x) (eqb a y) f))) ∙ eqb→eq b x (and_l (eqb b x) (eqb a y) f))
            (or-e (eqb a x && eqb b y) (eqb b x && eqb a y) u)

    start-on : T (mem 0 m)
    start-on = subst (λ (q : List ℕ). T (mem 0 q)) (sym r.form.starts) (mem-hd 0 r.form.tail)

    -- who is the partner of a node that is called for
    by-mate : (x y : ℕ) → T (not (mem x m)) → T (call y) → y < 64 → get_or t (256 + y) 0 ≡ x → T (any (partnered call x) d.jobs)
    by-mate x y o u h e =
        let is = sym (b.partner y h) ∙ e in
        ⊎_elim (λ z. absurd (T_not (mem x m) o (subst (λ (q : ℕ). T (mem q m)) (sym z ∙ is) start-on)))
        (λ q. any-i (partnered call x) (subst (λ (js : List Job). In (job_in s q.0) js) (sym (told road)) (in-at at.jobs q.0 (job_in s) q.1))
        (joined-on call x y (job_in s q.0) (turned x y (job_in s q.0) (subst (λ (z : ℕ). T (joins y z (job_in s q.0))) is q.2)) u))
        (mate-found (job_in s) at.jobs y)

    call-low : (y : ℕ) → T (call y) → y < 64
    call-low y u = ⊎_elim (λ q. has-low marks y marks-low (T→true _ q)) (λ q. has-low c.on y on-low (k.on y ∙ T→true _ q)) (or-e (has marks y) (mem y m) u)

    abbrev pairs : ℕ → Bool
    pairs x = has c.called x || has paired x

    why : (x : ℕ) → T (not (mem x m)) → pairs x ≡ any (partnered call x) d.jobs
    why x o = T-ext (pairs x) (any (partnered call x) d.jobs)
        (λ u. ⊎_elim
        (λ q. let z = k.called.sound x (T→true _ q) in let f = or_r (has marks z.0) (mem z.0 m) (true→T _ (sym (k.on z.0) ∙ z.1)) in
        by-mate x z.0 o f (call-low z.0 f) z.2)
        (λ q. let z = p.sound x (T→true _ q) in let f = or_l (has marks z.0) (mem z.0 m) (true→T _ z.1) in
        by-mate x z.0 o f (call-low z.0 f) z.2)
        (or-e (has c.called x) (has paired x) u))
        (any-e (partnered call x) d.jobs (λ j i u. let z = other call x j u in
        let e = mate-is x z.y j i z.joined (call-low z.y z.holds) in
        ⊎_elim (λ q. or_r (has c.called x) (has paired x) (true→T _ (sym (ap (has paired) e) ∙ p.full z.y (T→true _ q))))
        (λ q. or_l (has c.called x) (has paired x) (true→T _ (sym (ap (has c.called) e) ∙ k.called.full z.y (k.on z.y ∙ T→true _ q))))
        (or-e (has marks z.y) (mem z.y m) z.holds)))

    owing-is : (x : ℕ) → x < 64 → has (minus owing c.on) x ≡ ((has marks x || any (partnered call x) d.jobs) && not (mem x m))
    owing-is x h =
        has-minus owing c.on x on-low h ∙ (λ u. has_join marks (join c.called paired) x u && not (k.on x u))
        ∙ (λ u. (has marks x || has_join c.called paired x u) && not (mem x m)) ∙ ⊎_elim
        (λ e. rw (T→true (mem x m) e) (none (has marks x || pairs x) ∙ sym (none (has marks x || any (partnered call x) d.jobs))))
        (λ e. ap (λ (q : Bool). (has marks x || q) && not (mem x m)) (why x e)) (tf (mem x m))
      where
        none : (q : Bool) → (q && false) ≡ false
        none true = refl
        none false = refl

    pub stands-told : {o : Bool} → o ≡ all_below 64 (member_open ws (minus owing c.on)) → (c.keeps && o) ≡ alive v d (plan_from l n ws marks)
    stands-told e = alive-told v d (plan_from l n ws marks) k.keeps (e ∙ owed-is d m ws marks (proper s r.clear) r.laid.fine.n-high r.form.leg r.form.marked (minus owing c.on) owing-is)

  -- where the route does not keep what it has to, the state is dead
  pub kept-not : {v : Van} {c : Course} → Coursed v d t m c → c.keeps ≡ false → false ≡ alive v d (plan_from l n ws marks)
  kept-not {v} k e = alive-told v d (plan_from l n ws marks) (sym e ∙ k.keeps) refl
