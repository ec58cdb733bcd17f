-- The promises, as statements about the answers of the real entry points (Face), each a type. They stand together in the record `Promised` at
-- the end, and `proofs/All.antt` has its one value: a proof of each.
-- `HeldAll f` and `Wordy t` are what the types of a fleet and a trail say and lists of numbers do not: eight states, arrays of 64, words of 64 bits.
use Rattle.std.specs.Prelude.{ℕ, suc, ◌+◌, ◌-◌, ◌*◌, ◌/◌, ◌≤◌, ◌<◌, ◌≡◌, true, false, cond, not, List, [], ◌∷◌, map, ◌↔◌, ◌≢◌, T, eqb, length, take}
use Rattle.words.specs.Word.{size, word_at}
use Rattle.sheet.specs.Section.{n_of, m_of, vans_of, jobs_at}
use Rattle.day.specs.Refuse.{call_refusal, open_refusal}
use Rattle.day.specs.Tell.{day_of, van_of, admitted, kind_of, words_of}
use Rattle.rules.specs.Steps.{uses}
use Rattle.rules.specs.Leg.{on_leg}
use Rattle.rules.specs.Plan.{Plan, Places}
use Rattle.rules.specs.Tests.{stays}
use Rattle.rules.specs.Settle.{strikes, settled, rounds}
use Rattle.rules.specs.Day.{inner}
use Rattle.rules.specs.Every.{RoundOf}
use Rattle.rules.specs.Fleet.{Plans, ShareNone, MayAll, served, BelongAll, KeepAll, alive_all, settled_all, worked_all}
use Rattle.bits.specs.Places.{has}
use Rattle.records.specs.Trail.{Wordy}
use Rattle.rules.specs.Numbers.{refusal, kinds, van_weight}
use Rattle.fleet.specs.Fleet.{state_in, trail_in, HeldAll}
use Rattle.fleet.specs.Form.{in_form_all, form_with_all}
use Rattle.fleet.specs.declared.Fleet.{Fleet}
use Rattle.turns.specs.Together.{acted_all}
use Rattle.planner.specs.Face.{fresh_of, plans_of, step_of, count_of, judge_of, Opens, Sections, Stepping, Counts, Judges}
use Rattle.van.specs.Act.{plan_in}
use Rattle.laws.specs.Basic.{mem, hd, tab, any_below}

-- the first word of a step of so many kinds in van i: "256 times the van (from 0) plus the kind"
abbrev pub in_van_word : ℕ → ℕ → ℕ
in_van_word i kind = van_weight * i + kind

-- the plan of van i
abbrev pub plan_at : Fleet → ℕ → Plan
plan_at f i = plan_in (state_in f i)

-- the levels that are open, as many in every van
abbrev pub depth_of : Fleet → ℕ
depth_of f = (state_in f 0).depth

-- a step, accepted: it took the fleet f and the trail t to f' and t', and k rounds of settling struck something
abbrev pub Took : List ℕ → Fleet → List ℕ → ℕ → ℕ → ℕ → ℕ → Fleet → List ℕ → Type 0
Took sheet f t word a b k f' t' = step_of sheet f t word a b ≡ acted_all 0 k f' t'

-- accepted steps one after another; every fleet between and at the end has at least m levels
pub data Steps (sheet : List ℕ) (m : ℕ) (f : Fleet) (t : List ℕ) : Fleet → List ℕ → Type 0 where
  none : Steps sheet m f t f t
  then : {f' f'' : Fleet} {t' t'' : List ℕ} (word a b k : ℕ) → Steps sheet m f t f' t' → Took sheet f' t' word a b k f'' t'' → m ≤ depth_of f'' → Steps sheet m f t f'' t''

-- excluded wards, by van: x more in van i
abbrev pub shut_in : ℕ → ℕ → (ℕ → List ℕ) → ℕ → List ℕ
shut_in i x X j = cond (eqb j i) (x ∷ X j) (X j)

-- x more in every other van: "a ward placed in one van counts as excluded in the run of the others"
abbrev pub shut_elsewhere : ℕ → ℕ → (ℕ → List ℕ) → ℕ → List ℕ
shut_elsewhere i x X j = cond (eqb j i) (X j) (x ∷ X j)

-- a run of placing, excluding, requiring, settling and marking, none refused; X j are the wards excluded from van j on the way
pub data Run (sheet : List ℕ) (f : Fleet) (t : List ℕ) : Fleet → List ℕ → (ℕ → List ℕ) → Type 0 where
  begin : Run sheet f t f t (λ j. [])
  place : {f' f'' : Fleet} {t' t'' : List ℕ} {X : ℕ → List ℕ} (i p x : ℕ) → Run sheet f t f' t' X → Took sheet f' t' (in_van_word i kinds.PLACE) p x 0 f'' t'' → Run sheet f t f'' t'' (shut_elsewhere i x X)
  exclude : {f' f'' : Fleet} {t' t'' : List ℕ} {X : ℕ → List ℕ} (i x b : ℕ) → Run sheet f t f' t' X → Took sheet f' t' (in_van_word i kinds.EXCLUDE) x b 0 f'' t'' → Run sheet f t f'' t'' (shut_in i x X)
  require : {f' f'' : Fleet} {t' t'' : List ℕ} {X : ℕ → List ℕ} (i x b : ℕ) → Run sheet f t f' t' X → Took sheet f' t' (in_van_word i kinds.REQUIRE) x b 0 f'' t'' → Run sheet f t f'' t'' X
  settling : {f' f'' : Fleet} {t' t'' : List ℕ} {X : ℕ → List ℕ} (i a b k : ℕ) → Run sheet f t f' t' X → Took sheet f' t' (in_van_word i kinds.SETTLE) a b k f'' t'' → Run sheet f t f'' t'' X
  oblige : {f' f'' : Fleet} {t' t'' : List ℕ} {X : ℕ → List ℕ} (i x b : ℕ) → Run sheet f t f' t' X → Took sheet f' t' (in_van_word i kinds.OBLIGE) x b 0 f'' t'' → Run sheet f t f'' t'' X

-- the first i vans settled, one after another
pub data Settles (sheet : List ℕ) (f : Fleet) (t : List ℕ) : ℕ → Fleet → List ℕ → Type 0 where
  none : Settles sheet f t 0 f t
  then : {f' f'' : Fleet} {t' t'' : List ℕ} {i : ℕ} (a b k : ℕ) → Settles sheet f t i f' t' → Took sheet f' t' (in_van_word i kinds.SETTLE) a b k f'' t'' → Settles sheet f t (suc i) f'' t''

-- "settled once more": every van of the sheet
abbrev pub SettlesAll : List ℕ → Fleet → List ℕ → Fleet → List ℕ → Type 0
SettlesAll sheet f t f' t' = Settles sheet f t (vans_of sheet) f' t'

-- any two outcomes that a contract allows are equal; what those of the face allow are the relations at the end of Face
abbrev pub OneOutcome : {A : Type 0} → (A → Type 0) → Type 0
OneOutcome {A} Allowed = (r r' : A) → Allowed r → Allowed r' → r ≡ r'

-- the words of the i-th entry of section 3: "kind, a, b, load"
abbrev pub job_entry : List ℕ → ℕ → List ℕ
job_entry sheet i = let p = jobs_at sheet + 1 + size.job * i in word_at sheet p ∷ word_at sheet (p + 1) ∷ word_at sheet (p + 2) ∷ word_at sheet (p + 3) ∷ []

-- the day's jobs, of a sheet that every call takes: by 01's numbers of their cases they are the entries of section 3, kind by kind and word by word
abbrev pub JobsRead : Type 0
JobsRead = (sheet : List ℕ) → call_refusal sheet ≡ 0
    → (map kind_of (day_of sheet).jobs ≡ tab (m_of sheet) (λ i. hd (job_entry sheet i))) × (map words_of (day_of sheet).jobs ≡ tab (m_of sheet) (job_entry sheet))

-- ---- demand 1

-- refused: fleet and trail as before, rounds 0
abbrev pub Unchanged : Type 0
Unchanged = (sheet : List ℕ) (f : Fleet) (t : List ℕ) (word a b : ℕ) → ((step_of sheet f t word a b).0.answer ≡ 0 → ⊥)
    → step_of sheet f t word a b ≡ acted_all (step_of sheet f t word a b).0.answer 0 f t

-- a fresh fleet is in form
abbrev pub FreshInForm : Type 0
FreshInForm = (sheet : List ℕ) → call_refusal sheet ≡ 0 → (in_form_all (n_of sheet) (vans_of sheet) (fresh_of sheet) ≡ true) × HeldAll (fresh_of sheet)

-- every accepted step keeps the form, and the trail's length
abbrev pub FormKept : Type 0
FormKept = (sheet : List ℕ) (f f' : Fleet) (t t' : List ℕ) (word a b k : ℕ) → HeldAll f → Wordy t → Took sheet f t word a b k f' t'
    → (form_with_all (n_of sheet) (vans_of sheet) f' t' ≡ true) × HeldAll f' × (length t' ≡ length t)

-- ---- demand 2, over "sets of one round per van that share no ward and hold each newly marked one": R j is the round of van j

-- "Demand 2's fresh set of rounds reads the classes": to the fresh fleet belong exactly the sets of rounds of the day that share no ward and in which
-- every ward in a van's round admits that van
abbrev pub FreshSets : Type 0
FreshSets = (sheet : List ℕ) → call_refusal sheet ≡ 0 → (R : ℕ → List ℕ) → BelongAll (day_of sheet) (plans_of sheet (fresh_of sheet)) R
    ↔ (((j : ℕ) → j < vans_of sheet → RoundOf (day_of sheet) (R j)) × ShareNone (day_of sheet) (vans_of sheet) R × MayAll (day_of sheet) (vans_of sheet) (admitted sheet) R)

-- from there on, whatever steps were accepted: a ward that does not admit a van is never open in it, nor on its route
abbrev pub OnlyAdmitted : Type 0
OnlyAdmitted = (sheet : List ℕ) (f : Fleet) (t t' : List ℕ) → call_refusal sheet ≡ 0 → Steps sheet 0 (fresh_of sheet) t f t'
    → (j x : ℕ) → j < vans_of sheet → T (mem x (inner (day_of sheet))) → T (served (plan_at f j) x) → T (admitted sheet j x)

-- placing keeps the sets whose round of the van uses the place
abbrev pub PlacingKeeps : Type 0
PlacingKeeps = (sheet : List ℕ) (f f' : Fleet) (t t' : List ℕ) (i p x k : ℕ) → HeldAll f → Took sheet f t (in_van_word i kinds.PLACE) p x k f' t' → (R : ℕ → List ℕ)
    → BelongAll (day_of sheet) (plans_of sheet f') R ↔ (BelongAll (day_of sheet) (plans_of sheet f) R × T (uses p x (plan_at f i).route (R i)))

-- closing those whose round does not
abbrev pub ClosingKeeps : Type 0
ClosingKeeps = (sheet : List ℕ) (f f' : Fleet) (t t' : List ℕ) (i p x k : ℕ) → HeldAll f → Took sheet f t (in_van_word i kinds.CLOSE) p x k f' t' → (R : ℕ → List ℕ)
    → BelongAll (day_of sheet) (plans_of sheet f') R ↔ (BelongAll (day_of sheet) (plans_of sheet f) R × T (not (uses p x (plan_at f i).route (R i))))

-- excluding those whose round is without the node
abbrev pub ExcludingKeeps : Type 0
ExcludingKeeps = (sheet : List ℕ) (f f' : Fleet) (t t' : List ℕ) (i x b k : ℕ) → HeldAll f → Took sheet f t (in_van_word i kinds.EXCLUDE) x b k f' t' → (R : ℕ → List ℕ)
    → BelongAll (day_of sheet) (plans_of sheet f') R ↔ (BelongAll (day_of sheet) (plans_of sheet f) R × T (not (mem x (R i))))

-- requiring those whose round has it
abbrev pub RequiringKeeps : Type 0
RequiringKeeps = (sheet : List ℕ) (f f' : Fleet) (t t' : List ℕ) (i x b k : ℕ) → HeldAll f → Took sheet f t (in_van_word i kinds.REQUIRE) x b k f' t' → (R : ℕ → List ℕ)
    → BelongAll (day_of sheet) (plans_of sheet f') R ↔ (BelongAll (day_of sheet) (plans_of sheet f) R × T (mem x (R i)))

-- marking "must go somewhere" those in which some van's round has it
abbrev pub ObligingKeeps : Type 0
ObligingKeeps = (sheet : List ℕ) (f f' : Fleet) (t t' : List ℕ) (i x b k : ℕ) → HeldAll f → Took sheet f t (in_van_word i kinds.OBLIGE) x b k f' t' → (R : ℕ → List ℕ)
    → BelongAll (day_of sheet) (plans_of sheet f') R ↔ (BelongAll (day_of sheet) (plans_of sheet f) R × T (any_below (vans_of sheet) (λ j. mem x (R j))))

-- settling is the rules' settling of the van named: it strikes what 01's tests strike, round by round, and nothing elsewhere; it tells the rounds that
-- struck, and they are at most 2
abbrev pub SettlingStrikes : Type 0
SettlingStrikes = (sheet : List ℕ) (f f' : Fleet) (t t' : List ℕ) (i a b k : ℕ) → HeldAll f → Took sheet f t (in_van_word i kinds.SETTLE) a b k f' t'
    → (plan_at f' i ≡ settled (van_of sheet i) (day_of sheet) (plan_at f i)) × (k ≡ rounds (van_of sheet i) (day_of sheet) (plan_at f i).route (plan_at f i).places) × (k ≤ 2)
    × ((j : ℕ) → j < vans_of sheet → j ≢ i → state_in f' j ≡ state_in f j)

-- to the last gap: "rounds go on until one strikes nothing", so a further round would strike nothing
abbrev pub SettlingRests : Type 0
SettlingRests = (sheet : List ℕ) (f f' : Fleet) (t t' : List ℕ) (i a b k : ℕ) → HeldAll f → Took sheet f t (in_van_word i kinds.SETTLE) a b k f' t'
    → strikes (van_of sheet i) (day_of sheet) (plan_at f' i).route (plan_at f' i).places ≡ false

-- the place p of x passes every test of van i on a route, against the places o
abbrev pub Passes : List ℕ → ℕ → List ℕ → Places → ℕ → ℕ → Type 0
Passes sheet i route o x p = T (on_leg (stays (van_of sheet i) (day_of sheet) route o x) p route)

-- and nothing else: open afterwards is exactly what was open and passes every test against what is open afterwards
abbrev pub SettlingExact : Type 0
SettlingExact = (sheet : List ℕ) (f f' : Fleet) (t t' : List ℕ) (i a b k : ℕ) → HeldAll f → Took sheet f t (in_van_word i kinds.SETTLE) a b k f' t'
    → (x p : ℕ) → T ((plan_at f' i).places x p) ↔ (T ((plan_at f i).places x p) × Passes sheet i (plan_at f i).route (plan_at f' i).places x p)

-- of all sets like that it is the largest: open places that all pass the tests against each other are open afterwards
abbrev pub SettlingLargest : Type 0
SettlingLargest = (sheet : List ℕ) (f f' : Fleet) (t t' : List ℕ) (i a b k : ℕ) → HeldAll f → Took sheet f t (in_van_word i kinds.SETTLE) a b k f' t'
    → (o : Places) → ((x p : ℕ) → T (o x p) → T ((plan_at f i).places x p) × Passes sheet i (plan_at f i).route o x p)
    → (x p : ℕ) → T (o x p) → T ((plan_at f' i).places x p)

-- on an opened sheet no set of rule-keeping rounds is lost by settling
abbrev pub SettlingLosesNone : Type 0
SettlingLosesNone = (sheet : List ℕ) (f f' : Fleet) (t t' : List ℕ) (i a b k : ℕ) → open_refusal sheet ≡ 0 → HeldAll f → Took sheet f t (in_van_word i kinds.SETTLE) a b k f' t'
    → (R : ℕ → List ℕ) → KeepAll (van_of sheet) (day_of sheet) (vans_of sheet) R → BelongAll (day_of sheet) (plans_of sheet f) R → BelongAll (day_of sheet) (plans_of sheet f') R

-- no gap left in any van and alive: the routes themselves keep the rules, and are such a set
abbrev pub NoGapAlive : Type 0
NoGapAlive = (sheet : List ℕ) (f : Fleet) → HeldAll f → count_of sheet f ≡ record { answer = 0; places = 0 } → judge_of sheet f ≡ record { answer = 0; alive = true }
    → KeepAll (van_of sheet) (day_of sheet) (vans_of sheet) (λ j. (plan_at f j).route) × BelongAll (day_of sheet) (plans_of sheet f) (λ j. (plan_at f j).route)

-- beyond 02: on an opened sheet a dead fleet has no set of rule-keeping rounds
abbrev pub DeadNone : Type 0
DeadNone = (sheet : List ℕ) (f : Fleet) → open_refusal sheet ≡ 0 → HeldAll f → judge_of sheet f ≡ record { answer = 0; alive = false }
    → (R : ℕ → List ℕ) → BelongAll (day_of sheet) (plans_of sheet f) R → KeepAll (van_of sheet) (day_of sheet) (vans_of sheet) R → ⊥

-- stepping back restores the whole fleet from before the matching level, and in each van the records below it stand as they stood
abbrev pub StepsBack : Type 0
StepsBack = (sheet : List ℕ) (f f₁ f₂ : Fleet) (t t₁ t₂ : List ℕ) (i a b k j c d : ℕ) → HeldAll f → Took sheet f t (in_van_word i kinds.LEVEL) a b k f₁ t₁
    → Steps sheet (depth_of f₁) f₁ t₁ f₂ t₂ → depth_of f₂ ≡ depth_of f₁
    → Took sheet f₂ t₂ (in_van_word j kinds.BACK) c d 0 f t₂
    × ((v : ℕ) → v < vans_of sheet → take (2 * (state_in f v).records) (trail_in (vans_of sheet) t₂ v) ≡ take (2 * (state_in f v).records) (trail_in (vans_of sheet) t v))

-- "The first van's trail bound rises by n − 2": from a fresh fleet any accepted steps keep the record counts at or below these
abbrev pub RecordsBounded : Type 0
RecordsBounded = (sheet : List ℕ) (f : Fleet) (t t' : List ℕ) → call_refusal sheet ≡ 0 → Steps sheet 0 (fresh_of sheet) t f t'
    → ((state_in f 0).records ≤ n_of sheet * (n_of sheet - 2) + (n_of sheet - 2)) × ((j : ℕ) → j < vans_of sheet → j ≢ 0 → (state_in f j).records ≤ n_of sheet * (n_of sheet - 2))

-- with room for so many in each part of the trail 17, 19 and 20 are never met
abbrev pub NeverShort : Type 0
NeverShort = (sheet : List ℕ) (f : Fleet) (t t' : List ℕ) (word a b : ℕ) → call_refusal sheet ≡ 0 → n_of sheet * (n_of sheet - 2) + (n_of sheet - 2) ≤ length t / vans_of sheet / 2
    → Steps sheet 0 (fresh_of sheet) t f t'
    → ((step_of sheet f t' word a b).0.answer ≡ refusal.ROOM → ⊥) × ((step_of sheet f t' word a b).0.answer ≡ refusal.FORM → ⊥) × ((step_of sheet f t' word a b).0.answer ≡ refusal.MISFIT → ⊥)

-- ---- demand 3

-- what 01 works out per van from the start f of a run that ends in e, with the wards X j excluded from van j, every van settled
abbrev pub worked_out : List ℕ → Fleet → Fleet → (ℕ → List ℕ) → Plans
worked_out sheet f e X =
    settled_all (van_of sheet) (day_of sheet) (worked_all (plans_of sheet f) (λ j. (plan_at e j).route) X (λ j. (plan_at e j).marks) (has (state_in e 0).must))

-- a run's end, every van settled once more, has the gaps and the verdict that 01 works out from the start
abbrev pub WorkedOut : Type 0
WorkedOut = (sheet : List ℕ) (f f₁ f₂ : Fleet) (t t₁ t₂ : List ℕ) (X : ℕ → List ℕ) → open_refusal sheet ≡ 0 → HeldAll f → in_form_all (n_of sheet) (vans_of sheet) f ≡ true
    → Run sheet f t f₁ t₁ X → SettlesAll sheet f₁ t₁ f₂ t₂
    → ((j : ℕ) → j < vans_of sheet → (x p : ℕ) → (plan_at f₂ j).places x p ≡ ((worked_out sheet f f₁ X).plan j).places x p)
    × ((judge_of sheet f₂).alive ≡ alive_all (van_of sheet) (day_of sheet) (worked_out sheet f f₁ X))

-- so two such runs have the same that end alike in every van and in the marks "must go somewhere"
abbrev pub RunsAlike : Type 0
RunsAlike = (sheet : List ℕ) (f f₁ f₂ f₃ f₄ : Fleet) (t t' t₁ t₂ t₃ t₄ : List ℕ) (X Y : ℕ → List ℕ) → open_refusal sheet ≡ 0 → HeldAll f → in_form_all (n_of sheet) (vans_of sheet) f ≡ true
    → Run sheet f t f₁ t₁ X → SettlesAll sheet f₁ t₁ f₂ t₂
    → Run sheet f t' f₃ t₃ Y → SettlesAll sheet f₃ t₃ f₄ t₄
    → ((j : ℕ) → j < vans_of sheet → (plan_at f₁ j).route ≡ (plan_at f₃ j).route) → ((j : ℕ) → j < vans_of sheet → (y : ℕ) → mem y (X j) ≡ mem y (Y j))
    → ((j : ℕ) → j < vans_of sheet → (y : ℕ) → T (not (mem y (plan_at f₁ j).route)) → (plan_at f₁ j).marks y ≡ (plan_at f₃ j).marks y)
    → ((y : ℕ) → has (state_in f₁ 0).must y ≡ has (state_in f₃ 0).must y)
    → ((j : ℕ) → j < vans_of sheet → (x p : ℕ) → (plan_at f₂ j).places x p ≡ (plan_at f₄ j).places x p) × ((judge_of sheet f₂).alive ≡ (judge_of sheet f₄).alive)

-- ---- all of them

-- every promise
pub record Promised : Type 0 where
  pub one-opening : (sheet : List ℕ) → OneOutcome (Opens sheet)
  pub one-section : (at : ℕ × ℕ) (sheet : List ℕ) (number : ℕ) → OneOutcome (Sections at sheet number)
  pub one-step : (sheet : List ℕ) (f : Fleet) (t : List ℕ) (word a b : ℕ) → OneOutcome (Stepping sheet f t word a b)
  pub one-count : (sheet : List ℕ) (f : Fleet) → OneOutcome (Counts sheet f)
  pub one-verdict : (sheet : List ℕ) (f : Fleet) → OneOutcome (Judges sheet f)
  pub jobs-read : JobsRead
  pub unchanged : Unchanged
  pub fresh-in-form : FreshInForm
  pub form-kept : FormKept
  pub fresh-sets : FreshSets
  pub only-admitted : OnlyAdmitted
  pub placing-keeps : PlacingKeeps
  pub closing-keeps : ClosingKeeps
  pub excluding-keeps : ExcludingKeeps
  pub requiring-keeps : RequiringKeeps
  pub obliging-keeps : ObligingKeeps
  pub settling-strikes : SettlingStrikes
  pub settling-rests : SettlingRests
  pub settling-exact : SettlingExact
  pub settling-largest : SettlingLargest
  pub settling-loses-none : SettlingLosesNone
  pub no-gap-alive : NoGapAlive
  pub dead-none : DeadNone
  pub steps_back : StepsBack
  pub records-bounded : RecordsBounded
  pub never-short : NeverShort
  pub worked-out : WorkedOut
  pub runs-alike : RunsAlike
