-- A sheet that no call refuses and a state in form are what the steps, settling and the verdict ask.
use Prim.Native.Nat.{ℕ}
use mathlib.Core.Path.{◌≡◌, refl, sym, ap, ap₂, subst, ◌∙◌}
use mathlib.Core.Bool.{true}
use mathlib.Core.List.{List}
use native.Mathlib.Omega.{arith}
use lib.Dec.{T, eqb}
use lib.ListN.{get_or, length, take}
use Rattle.laws.specs.Basic.{all_below}
use Rattle.rules.specs.Numbers.{kinds}
use Rattle.rules.specs.declared.Van.{Van}
use Rattle.rules.specs.Plan.{Places}
use Rattle.rules.proofs.Fixpoint.{settle-less}
use Rattle.rules.proofs.Forms.{fewer-formed}
use Rattle.sheet.specs.Section.{n_of}
use Rattle.sheet.specs.Place.{Laid}
use Rattle.sheet.specs.declared.Layout.{Layout}
use Rattle.day.specs.Refuse.{call_refusal}
use Rattle.day.specs.Tell.{day_of}
use Rattle.board.specs.Board.{board_of, route_of, set_of, open_at}
use Rattle.board.specs.Form.{in_form, form_with}
use Rattle.board.proofs.FormLaws.{in-form, form-with}
use Rattle.board.specs.Held.{Held, FormedBoard, Sound}
use Rattle.board.specs.declared.State.{State}
use Rattle.along.specs.Sets.{places_in}
use Rattle.along.proofs.SetLaws.{length-sets}
use Rattle.along.specs.Ready.{Ready}
use Rattle.along.proofs.ReadyLaws.{nodes-most}
use Rattle.along.proofs.Facts.{ready-unmarked}
use Rattle.rules.specs.Day.{Day}
use Rattle.records.specs.Trail.{room_of}
use Rattle.trail.specs.Steps.{settle_step, answered}
use Rattle.trail.proofs.StepLaws.{settle-still}
use Rattle.van.specs.Act.{settled_sets, settling_rounds, act_of}
use Rattle.van.specs.Known.{Known}
use Rattle.settle.specs.Settles.{Settles}
use Rattle.settle.proofs.Again.{none_open}
use Rattle.settle.proofs.Facts.{settled-open}
use Rattle.van.proofs.Plans.{state-formed}

-- a sheet that no call refuses and a state in form; the plan of its arrays is the plan that its board stands for
pub ready : {sheet : List ℕ} {at : Layout} (s : State) → call_refusal sheet ≡ 0 → Laid sheet at → Held s → in_form (n_of sheet) s ≡ true
    → Ready sheet at s.route s.stops s.sets s.marks
unfolding route_of open_at set_of
ready {sheet} {at} s z l h e =
    let f = in-form (n_of sheet) s l.fine.n-high h.wide e in
    record {
      laid = l;
      clear = z;
      long = h.wide.route;
      sized = h.wide.sets;
      most = omega (arith, f.board.route.most, l.fine.n-high);
      form = state-formed sheet s h z e;
    }

-- the words after settling are as ready as those before
pub ready-settled : {s : List ℕ} {at : Layout} {l : List ℕ} {n : ℕ} {ws : List ℕ} {marks : ℕ} (v : Van) → Ready s at l n ws marks → {k : ℕ} {vs : List ℕ}
    → Settles v (day_of s) (take n l) ws k vs → Ready s at l n vs marks
ready-settled v r p = record {
  laid = r.laid;
  clear = r.clear;
  long = r.long;
  sized = ap length p.sets ∙ length-sets _;
  most = r.most;
  form = fewer-formed (λ x q t. settle-less v _ _ _ x q (subst (λ (o : Places). T (o x q)) (ap places_in p.sets ∙ settled-open v r) t)) r.form;
}

-- what the steps ask of the board
pub sound : {sheet : List ℕ} {at : Layout} (s : State) → Laid sheet at → Held s → in_form (n_of sheet) s ≡ true → Sound at.nodes (board_of s)
sound {sheet} s l h e = record {
  small = nodes-most l;
  wide = h.wide;
  form = subst (λ (n : ℕ). FormedBoard n (board_of s)) (sym l.nodes) (in-form (n_of sheet) s l.fine.n-high h.wide e).board;
}

pub known_sound : {sheet : List ℕ} {at : Layout} {s : State} {t : List ℕ} → Known sheet at s t → Sound at.nodes (board_of s)
known_sound {sheet} {at} {s} {t} k = sound s k.laid k.held (form-with (n_of sheet) s (room_of t) k.form).0

-- stepping back asks for the levels and the records too
pub with-trail : {sheet : List ℕ} {at : Layout} (s : State) (room : ℕ) → Laid sheet at → form_with (n_of sheet) s room ≡ true → form_with at.nodes s room ≡ true
with-trail s room l e = ap (λ (n : ℕ). form_with n s room) l.nodes ∙ e

-- settling: the sets and the rounds that the code finds are those of the rules
pub settled_is : (v : Van) (d : Day) (s : State) (t : List ℕ) {k : ℕ} {new : List ℕ} → Settles v d (take s.stops s.route) s.sets k new
    → settle_step s t (settling_rounds v d s) (settled_sets v d s) ≡ settle_step s t k new
unfolding route_of open_at set_of
settled_is v d s t p = ap₂ (settle_step s t) (sym p.rounds) (sym p.sets)

-- where no node has a place, settling changes nothing
pub settle-rests : {sheet : List ℕ} {at : Layout} (v : Van) (s : State) (t : List ℕ) (kind a b : ℕ) → kind ≡ kinds.SETTLE → Known sheet at s t
    → all_below at.nodes (λ i. eqb (get_or s.sets i 0) 0) ≡ true → act_of v (day_of sheet) s t kind a b ≡ answered 0 s t
unfolding act_of
settle-rests {sheet} v s t kind a b k p none =
    let f = form-with (n_of sheet) s (room_of t) p.form in
    rw k (settled_is v (day_of sheet) s t (none_open v (ready-unmarked (ready s p.clear p.laid p.held f.0)) none refl) ∙ settle-still s t f.1)
