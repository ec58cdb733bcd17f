-- The one pass over the jobs finds two that clash exactly if the test for all pairs does.
use Prim.Native.Nat.{ℕ, ◌+◌, ◌^◌, ◌<◌, ◌≤◌}
use mathlib.Core.Path.{◌≡◌, refl, sym, ap, ap₂, ◌∙◌}
use mathlib.Core.Bool.{Bool, true, false, not, ◌&&◌, ◌||◌, and-true, or_comm}
use lib.Dec.{eqb}
use Rattle.laws.proofs.Below.{below_none, below_both, flag-goes, flag-done, below-tab}
use Rattle.laws.proofs.Lists.{none_any}
use Rattle.laws.specs.Basic.{all_below, any, tab}
use Rattle.bits.specs.Places.{has, with}
use Rattle.bits.proofs.Members.{has-none, has-with, has-ext}
use Rattle.rules.specs.declared.Job.{Job}
use Rattle.rules.specs.declared.Job.TheVariants.{Clean, Soiled, Transfer}
use Rattle.rules.specs.Profile.{clean_at, soiled_at}
use Rattle.day.specs.Refuse.{end_at, clash, apart_at, apart}
use Rattle.day.specs.declared.jobs.Seen.{Seen}
use Rattle.day.specs.declared.jobs.Looked.{Looked}
use Rattle.day.specs.Seen.{seeing, LookedOver, Placed}

-- w has just the nodes at which f holds of one of the first i jobs
abbrev pub Met : (ℕ → Job → Bool) → (ℕ → Job) → ℕ → ℕ → Type 0
Met f g i w = (x : ℕ) → x < 64 → not (has w x) ≡ all_below i (λ j. not (f x (g j)))

pub record SeenBelow (g : ℕ → Job) (i : ℕ) (s : Seen) : Type 0 where
  pub clean : Met clean_at g i s.clean
  pub soiled : Met soiled_at g i s.soiled
  pub ends : Met end_at g i s.ends

none : (f : ℕ → Job → Bool) (g : ℕ → Job) → Met f g 0 0
none f g x l = ap not (has-none x) ∙ sym (below_none (λ j. not (f x (g j))))

pub seen_none : (g : ℕ → Job) {s : Seen} → s.clean ≡ 0 → s.soiled ≡ 0 → s.ends ≡ 0 → SeenBelow g 0 s
seen_none g p q r = record { clean = rw p (none clean_at g); soiled = rw q (none soiled_at g); ends = rw r (none end_at g) }

-- ---- one job more

not-or : (a b : Bool) → not (a || b) ≡ (not a && not b)
not-or true b = refl
not-or false b = refl

not-or-is : (a b : Bool) {c : Bool} → not b ≡ c → not (a || b) ≡ (not a && c)
not-or-is true b e = refl
not-or-is false b e = e

in-with : (w p x : ℕ) → p < 64 → has (with w p) x ≡ (has w x || eqb p x)
in-with w p x h = has-with w p x h ∙ or_comm (eqb p x) (has w x)

more : (f : ℕ → Job → Bool) (g : ℕ → Job) (i w v : ℕ) → Met f g i w → ((x : ℕ) → x < 64 → not (has v x) ≡ (not (has w x) && not (f x (g i)))) → Met f g (i + 1) v
more f g i w v m e x l = e x l ∙ ap (λ (b : Bool). b && not (f x (g i))) (m x l) ∙ sym (flag-goes i (λ j. not (f x (g j))) refl refl)

same : (f : ℕ → Job → Bool) (g : ℕ → Job) (i w : ℕ) → Met f g i w → ((x : ℕ) → f x (g i) ≡ false) → Met f g (i + 1) w
same f g i w m e = more f g i w w m (λ x l. rw (e x) (sym (and-true (not (has w x)))))

one : (f : ℕ → Job → Bool) (g : ℕ → Job) (i w a : ℕ) → a < 64 → Met f g i w → ((x : ℕ) → f x (g i) ≡ eqb a x) → Met f g (i + 1) (with w a)
one f g i w a h m e = more f g i w (with w a) m (λ x l. rw (in-with w a x h, e x) (not-or (has w x) (eqb a x)))

two : (f : ℕ → Job → Bool) (g : ℕ → Job) (i w a b : ℕ) → a < 64 → b < 64 → Met f g i w → ((x : ℕ) → f x (g i) ≡ (eqb a x || eqb b x)) → Met f g (i + 1) (with (with w a) b)
two f g i w a b h k m e =
    more f g i w (with (with w a) b) m (λ x l. rw (in-with (with w a) b x k, in-with w a x h, e x) (three (has w x) (eqb a x) (eqb b x)))
  where
    three : (p q r : Bool) → not (p || q || r) ≡ (not p && not (q || r))
    three true q r = refl
    three false q r = refl

pub seen_next : (g : ℕ → Job) (i : ℕ) (s : Seen) (q : Job) → g i ≡ q → Placed q → SeenBelow g i s → SeenBelow g (i + 1) (seeing s q)
seen_next g i s (Clean a w) e h m = record {
  clean = one clean_at g i s.clean a h m.clean (λ x. ap (clean_at x) e);
  soiled = same soiled_at g i s.soiled m.soiled (λ x. ap (soiled_at x) e);
  ends = same end_at g i s.ends m.ends (λ x. ap (end_at x) e);
}
seen_next g i s (Soiled a w) e h m = record {
  clean = same clean_at g i s.clean m.clean (λ x. ap (clean_at x) e);
  soiled = one soiled_at g i s.soiled a h m.soiled (λ x. ap (soiled_at x) e);
  ends = same end_at g i s.ends m.ends (λ x. ap (end_at x) e);
}
seen_next g i s (Transfer a b w) e h m = record {
  clean = same clean_at g i s.clean m.clean (λ x. ap (clean_at x) e);
  soiled = same soiled_at g i s.soiled m.soiled (λ x. ap (soiled_at x) e);
  ends = two end_at g i s.ends a b h.0 h.1 m.ends (λ x. ap (end_at x) e);
}

-- the words tell whether one of the jobs, up to this one, clashes with one before it
pub seen_apart : (g : ℕ → Job) (i : ℕ) (s : Seen) (q : Job) → g i ≡ q → Placed q → SeenBelow g i s → not (seeing s q).twice ≡ (not s.twice && apart_at g i)
unfolding clash
seen_apart g i s (Clean a w) e h m = not-or-is s.twice (has s.clean a) (rw e (m.clean a h))
seen_apart g i s (Soiled a w) e h m = not-or-is s.twice (has s.soiled a) (rw e (m.soiled a h))
seen_apart g i s (Transfer a b w) e h m =
    not-or-is s.twice (has s.ends a || has s.ends b)
    (rw e (not-or (has s.ends a) (has s.ends b) ∙ ap₂ (λ (x y : Bool). x && y) (m.ends a h.0) (m.ends b h.1)
    ∙ sym (below_both i (λ j. not (end_at a (g j))) (λ j. not (end_at b (g j))) (λ j. not (end_at a (g j) || end_at b (g j))) (λ j. not-or (end_at a (g j)) (end_at b (g j))))))

-- ---- the pass: whether the first i jobs are apart, and the words hold their nodes
pub record Passed (g : ℕ → Job) (i : ℕ) (s : Seen) : Type 0 where
  pub apart : all_below i (apart_at g) ≡ not s.twice
  pub seen : SeenBelow g i s

pub pass-none : (g : ℕ → Job) {s : Seen} → s.clean ≡ 0 → s.soiled ≡ 0 → s.ends ≡ 0 → s.twice ≡ false → Passed g 0 s
pass-none g p q r t = record { apart = below_none _ ∙ sym (ap not t); seen = seen_none g p q r }

pub pass-goes : (g : ℕ → Job) (i : ℕ) {s : Seen} → Passed g i s → {q : Job} → q ≡ g i → Placed q → {r : Seen} → r ≡ seeing s q → Passed g (i + 1) r
pass-goes g i {s} p {q} e h t = record {
  apart = flag-goes i (apart_at g) p.apart refl ∙ sym (ap (λ (r : Seen). not r.twice) t ∙ seen_apart g i s q (sym e) h p.seen);
  seen = rw t (seen_next g i s q (sym e) h p.seen);
}

pub pass-done : (g : ℕ → Job) (m i : ℕ) {s : Seen} → i ≤ m → m ≤ i → Passed g i s → not s.twice ≡ apart g m
unfolding apart
pass-done g m i a b p = flag-done m i (apart_at g) a b p.apart

-- a word of what was met has the nodes at which f holds of one of the jobs
pub met-any : (f : ℕ → Job → Bool) (g : ℕ → Job) (m i w : ℕ) → i ≡ m → Met f g i w → (x : ℕ) → x < 64 → has w x ≡ any (f x) (tab m g)
met-any f g m i w e met x l =
    not-not (has w x) (any (f x) (tab m g))
    (met x l ∙ ap (λ (k : ℕ). all_below k (λ j. not (f x (g j)))) e ∙ below-tab (λ q. not (f x q)) m g ∙ none_any (f x) (tab m g))
  where
    not-not : (a b : Bool) → not a ≡ not b → a ≡ b
    not-not true true q = refl
    not-not true false q = sym q
    not-not false true q = sym q
    not-not false false q = refl

-- what the pass finds is one: its words are below 2 ^ 64
pub looked-once : {g : ℕ → Job} {m : ℕ} {r q : Looked} → LookedOver g m r → LookedOver g m q → r.clean < 2 ^ 64 → q.clean < 2 ^ 64 → r.soiled < 2 ^ 64
    → q.soiled < 2 ^ 64 → r ≡ q
looked-once {r = r} {q = q} a b k l m n = λ i. record {
  apart = (a.apart ∙ sym b.apart) i;
  heaviest = (a.heaviest ∙ sym b.heaviest) i;
  clean = has-ext r.clean q.clean k l (λ x h. a.clean x h ∙ sym (b.clean x h)) i;
  soiled = has-ext r.soiled q.soiled m n (λ x h. a.soiled x h ∙ sym (b.soiled x h)) i;
}
