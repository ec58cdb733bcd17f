-- A board while it is undone: what a record of each kind leaves of it, and the arrays put right at the end.
use mathlib.Core.Path.{◌≡◌, refl, ap, sym, ◌∙◌, subst}
use mathlib.Core.Bool.{Bool, true, false, not, ◌&&◌, and-false}
use mathlib.Core.List.{List, map}
use Prim.Native.Nat.{ℕ, zero, suc, ◌+◌, ◌-◌, ◌≤◌, ◌<◌, ◌^◌}
use native.Mathlib.Omega.{arith}
use lib.Bits.{bit_and, and_le_r}
use lib.Dec.{eqb, ltb}
use lib.ListN.{length, get_or, set, length-set, length-map, length-append, length-take, length-drop}
use lib.Seq.{ext_get_or, get_or-set_same, get_or-set_other}
use borrow.Author.Tests.{eqb-true, eqb-false, ltb-true, ltb-false, le-leb}
use Rattle.laws.proofs.Logic.{decided, and-true}
use Rattle.laws.proofs.Sweep.{swept, swept-ahead, swept-behind, get_d_map}
use Rattle.bits.specs.Places.{has, without, within}
use Rattle.bits.proofs.Members.{has-none, has-high, has-ext, with-fits, without-same, without_other, without-fits}
use Rattle.bits.proofs.Masks.{has-and, within-mask}
use Rattle.rules.specs.Day.{is_inner}
use Rattle.rules.proofs.Inner.{is-inner}
use Rattle.board.specs.Route.{index_of, remove_in, word_of}
use Rattle.board.specs.Board.{Board, route_of, on_route, legs_of, set_of}
use Rattle.board.specs.Change.{strike, put_set, unplaced, unmarked, unobliged}
use Rattle.board.specs.Held.{Sound}
use Rattle.board.proofs.EndLaws.{sets_end}
use Rattle.board.proofs.FormLaws.{on-leg, place_in, place_at, inner-inside, leg-at, leg-make, set-within}
use Rattle.board.proofs.RouteLaws.{remove-under, remove-above}
use Rattle.board.proofs.Keep.{put_same, put_other, mark-inner, unplaced-off, unplaced-others, unplaced-set, unplaced-here}
use Rattle.records.specs.declared.undo.Undone as code
use Rattle.records.specs.Undo.{strictly, stop_before, fits_shrunk, fits_placed, fits_marked, fits_obliged, Undone, undid}
use Rattle.records.specs.Undoing.{cut, Beside, Undoing, Follows}
use Rattle.records.proofs.UndoLaws.{unplaced-marks, shrunk-test, placed-test, shrunk-sound, placed-sound, marked-sound, obliged-sound}

-- ---- sets cut to the legs that are there

word_fits : (k : ℕ) (l : List ℕ) → word_of k l < 2 ^ 64
unfolding word_of
word_fits zero l = omega arith
word_fits (suc k) l = with-fits (word_of k l) (get_or l k 0) (word_fits k l)

legs-fit : (b : Board) → legs_of b < 2 ^ 64
unfolding legs_of
legs-fit b = word_fits (b.stops - 1) b.route

cut_fits : (legs w : ℕ) → legs < 2 ^ 64 → cut legs w < 2 ^ 64
unfolding cut
cut_fits legs w f = omega (arith, and_le_r w legs)

has-cut : (legs w p : ℕ) → has (cut legs w) p ≡ has w p && has legs p
unfolding cut
has-cut legs w p = has-and w legs p

pub cut-none : (legs : ℕ) → legs < 2 ^ 64 → cut legs 0 ≡ 0
cut-none legs f = has-ext (cut legs 0) 0 (cut_fits legs 0 f) (omega arith) (λ p l. has-cut legs 0 p ∙ rw (has-none p) refl)

-- a set of legs that are there stays
cut-within : (legs w : ℕ) → legs < 2 ^ 64 → w < 2 ^ 64 → within w legs ≡ true → cut legs w ≡ w
unfolding cut
cut-within legs w f g e = eqb-true (bit_and w legs) w (within-mask w legs g f ∙ e)

-- a leg taken out of the legs is taken out of every set
cut-strike : (legs w x : ℕ) → legs < 2 ^ 64 → strike x (cut legs w) ≡ cut (without legs x) w
unfolding strike
cut-strike legs w x f =
    has-ext (without (cut legs w) x) (cut (without legs x) w) (without-fits (cut legs w) x (cut_fits legs w f)) (cut_fits (without legs x) w (without-fits legs x f)) (λ p l.
    decided (eqb p x)
    (λ e. rw (eqb-true p x e, without-same (cut legs w) x, has-cut (without legs x) w x, without-same legs x, and-false (has w x)) refl)
    (λ e. let d = eqb-false p x e in rw (without_other (cut legs w) x p d, has-cut legs w p, has-cut (without legs x) w p, without_other legs x p d) refl))

-- ---- the legs once a stop is taken out

-- of the nodes that are not inner only 0 leaves by a leg
leg-outer : (n : ℕ) (b : Board) (p : ℕ) → Sound n b → is_inner n p ≡ false → has (legs_of b) p ≡ eqb p 0
unfolding is_inner
leg-outer n b p s o =
    decided (eqb p 0)
    (λ e. leg-make n b s.small s.wide s.form.route p 0 (omega (arith, s.form.route.two)) (s.form.route.start ∙ sym (eqb-true p 0 e)) ∙ sym e)
    (λ e. decided (has (legs_of b) p)
    (λ h. absurd (let z : p ≡ 0 → ⊥ = eqb-false p 0 e in
    let r = leg-at n b s.small s.wide s.form.route p h in
    let past : n ≤ p + 1 = ltb-false (p + 1) n (rw (le-leb 1 p (omega arith)) at o) in
    let end : n - 1 ≡ p = omega (arith, r.2, s.form.route.below r.0 (omega (arith, r.1))) in
    s.form.route.once (b.stops - 1) r.0 (omega (arith, r.1)) (omega (arith, r.1)) (r.2 ∙ sym end ∙ sym s.form.route.end)))
    (λ h. h ∙ sym e))

legs-unplaced : (n : ℕ) (b : Board) (x w : ℕ) → Sound n b → Sound n (unplaced b x w) → is_inner n x ≡ true → on_route b x ≡ true
    → legs_of (unplaced b x w) ≡ without (legs_of b) x
legs-unplaced n b x w s t i o =
    has-ext (legs_of (unplaced b x w)) (without (legs_of b) x) (legs-fit (unplaced b x w)) (without-fits (legs_of b) x (legs-fit b)) (λ p l.
    decided (eqb p x)
    (λ e. rw (eqb-true p x e, without-same (legs_of b) x) (on-leg n (unplaced b x w) t.small t.wide t.form x i ∙ unplaced-off n b x w s.small s.wide s.form i o))
    (λ e. let d = eqb-false p x e in
    decided (is_inner n p)
    (λ j. on-leg n (unplaced b x w) t.small t.wide t.form p j ∙ unplaced-others n b x w s.small s.wide s.form i o p d
    ∙ sym (on-leg n b s.small s.wide s.form p j) ∙ sym (without_other (legs_of b) x p d))
    (λ j. leg-outer n (unplaced b x w) p t j ∙ sym (leg-outer n b p s j) ∙ sym (without_other (legs_of b) x p d))))

-- ---- neighbours

module _ (stops : ℕ) (route next last : List ℕ) (h : Beside stops route next last)
    (once : (i j : ℕ) → i < stops → j < i → get_or route j 0 ≡ get_or route i 0 → ⊥) (low : (i : ℕ) → i < stops → get_or route i 0 < 64) where
  abbrev at : ℕ → ℕ
  at i = get_or route i 0

  same : (i j : ℕ) → i ≡ j → get_or route i 0 ≡ get_or route j 0
  same i j e = ap (λ (k : ℕ). get_or route k 0) e

  -- the stop after stop j taken out: the two beside it become neighbours
  module _ (j : ℕ) (l : j + 2 < stops) (long : length route ≡ 64) (most : stops ≤ 64) where
    abbrev left : List ℕ
    left = remove_in (j + 1) route

    under : (m : ℕ) → m ≤ j → get_or (remove_in (j + 1) route) m 0 ≡ get_or route m 0
    under m g = remove-under (j + 1) m route (omega (arith, l, long, most)) (omega arith)

    over : (m : ℕ) → j < m → m + 1 < stops → get_or (remove_in (j + 1) route) m 0 ≡ get_or route (m + 1) 0
    over m g k = remove-above (j + 1) m route (omega arith) (omega (arith, long, most)) ∙ same (suc m) (m + 1) (omega arith)

    on : (m : ℕ) → m + 1 < stops - 1 → get_or (set next (get_or route j 0) (get_or route (j + 2) 0)) (get_or left m 0) 0 ≡ get_or left (m + 1) 0
    on m g =
        decided (ltb m j)
        (λ e. let q = ltb-true m j e in
        rw (under m (omega (arith, q)), under (m + 1) (omega (arith, q)))
        (get_or-set_other next (at j) (at m) (at (j + 2)) 0 (λ z. once j m (omega (arith, l)) q z) ∙ h.ahead m (omega arith)))
        (λ e. let q = ltb-false m j e in
        rw (over (m + 1) (omega (arith, q)) (omega arith))
        (decided (eqb m j)
        (λ z. let z' = eqb-true m j z in
        ap (λ (k : ℕ). get_or (set next (at j) (at (j + 2))) k 0) (under m (omega (arith, z')) ∙ same m j z')
        ∙ get_or-set_same next (at j) (at (j + 2)) 0 (omega (arith, h.long.0, low j (omega (arith, l)))) ∙ same (j + 2) (m + 1 + 1) (omega (arith, z')))
        (λ z. let z' : m ≡ j → ⊥ = eqb-false m j z in
        rw (over m (omega (arith, q)) (omega arith))
        (get_or-set_other next (at j) (at (m + 1)) (at (j + 2)) 0 (λ v. once (m + 1) j (omega arith) (omega (arith, q)) (sym v)) ∙ h.ahead (m + 1) (omega arith)))))

    back : (m : ℕ) → m + 1 < stops - 1 → get_or (set last (get_or route (j + 2) 0) (get_or route j 0)) (get_or left (m + 1) 0) 0 ≡ get_or left m 0
    back m g =
        decided (ltb m j)
        (λ e. let q = ltb-true m j e in
        rw (under m (omega (arith, q)), under (m + 1) (omega (arith, q)))
        (get_or-set_other last (at (j + 2)) (at (m + 1)) (at j) 0 (λ z. once (j + 2) (m + 1) l (omega (arith, q)) z) ∙ h.behind m (omega arith)))
        (λ e. let q = ltb-false m j e in
        rw (over (m + 1) (omega (arith, q)) (omega arith))
        (decided (eqb m j)
        (λ z. let z' = eqb-true m j z in
        ap (λ (k : ℕ). get_or (set last (at (j + 2)) (at j)) k 0) (same (m + 1 + 1) (j + 2) (omega (arith, z')))
        ∙ get_or-set_same last (at (j + 2)) (at j) 0 (omega (arith, h.long.1, low (j + 2) l)) ∙ sym (under m (omega (arith, z')) ∙ same m j z'))
        (λ z. let z' : m ≡ j → ⊥ = eqb-false m j z in
        rw (over m (omega (arith, q)) (omega arith))
        (get_or-set_other last (at (j + 2)) (at (m + 1 + 1)) (at j) 0 (λ v. once (m + 1 + 1) (j + 2) (omega arith) (omega (arith, q)) (sym v)) ∙ h.behind (m + 1) (omega arith)))))

    beside-left : Beside (stops - 1) (remove_in (j + 1) route) (set next (get_or route j 0) (get_or route (j + 2) 0)) (set last (get_or route (j + 2) 0) (get_or route j 0))
    beside-left = record {
      long = (length-set next (at j) (at (j + 2)) ∙ h.long.0, length-set last (at (j + 2)) (at j) ∙ h.long.1);
      ahead = on;
      behind = back;
    }

-- what undoing answers, by its parts
abbrev pub told : Bool → ℕ → ℕ → ℕ → ℕ → code.Undone
told fits stops marks must legs = record { fits = fits; stops = stops; marks = marks; must = must; legs = legs }

-- ---- the beginning: nothing is gone

pub undoing-none : (n : ℕ) (b : Board) (u : code.Undone) (next last : List ℕ) → Sound n b → Beside b.stops b.route next last
    → b.stops ≡ u.stops → b.marks ≡ u.marks → b.must ≡ u.must → u.legs ≡ word_of (b.stops - 1) b.route → Undoing n b u next last b.sets
unfolding set_of legs_of
undoing-none n b u next last s h e m g l = record {
  sound = s;
  stops = e;
  marks = m;
  must = g;
  legs = sym l;
  beside = h;
  long = s.wide.sets;
  past = sets_end n b s;
  held = λ y k f. rw l (sym (cut-within (legs_of b) (get_or b.sets y 0) (legs-fit b) f (set-within n b s.small s.wide s.form y k)));
}

-- ---- a record of each kind

unplaced-stops : (b : Board) (x w : ℕ) → (unplaced b x w).stops ≡ b.stops - 1
unfolding unplaced
unplaced-stops b x w = refl

module _ (n : ℕ) (b : Board) (u : code.Undone) (next last sets : List ℕ) (h : Undoing n b u next last sets) where
  legs-low : u.legs < 2 ^ 64
  legs-low = subst (λ (w : ℕ). w < 2 ^ 64) h.legs (legs-fit b)

  -- an array of sets with one put for an inner node
  put-past : (x w : ℕ) → is_inner n x ≡ true → (y : ℕ) → n ≤ y → get_or (set sets x w) y 0 ≡ 0
  put-past x w i y l = get_or-set_other sets x y w 0 (λ e. omega (arith, e, (is-inner n x i).1)) ∙ h.past y l

  pub inner-low : (x : ℕ) → is_inner n x ≡ true → x < 64
  inner-low x i = omega (arith, (is-inner n x i).1, h.sound.small)

  put-held : (x w : ℕ) → is_inner n x ≡ true → get_or (set sets x w) x 0 ≡ w
  put-held x w i = get_or-set_same sets x w 0 (omega (arith, h.long, inner-low x i))

  pub undoing-shrunk : (x w : ℕ) → w < 2 ^ 64 → fits_shrunk n b x w ≡ true
      → Undoing n (put_set b x w) (told true u.stops u.marks u.must u.legs) next last (set sets x w)
  unfolding fits_shrunk put_set legs_of
  undoing-shrunk x w f e =
      let a = and-true (is_inner n x && not (on_route b x)) _ e in
      let i = (and-true (is_inner n x) _ a.0).0 in
      let l : within w u.legs ≡ true = rw h.legs at (and-true (strictly (set_of b x) w) (within w (legs_of b)) a.1).1 in
      record {
        sound = shrunk-sound n b x w h.sound e;
        stops = h.stops;
        marks = h.marks;
        must = h.must;
        legs = h.legs;
        beside = h.beside;
        long = length-set sets x w ∙ h.long;
        past = put-past x w i;
        held = λ y g z. decided (eqb y x)
            (λ q. rw (eqb-true y x q) (put_same b x w (omega (arith, h.sound.wide.sets, inner-low x i)) ∙ sym (cut-within u.legs w legs-low f l) ∙ ap (cut u.legs) (sym (put-held x w i))))
            (λ q. let d = eqb-false y x q in let o = get_or-set_other sets x y w 0 d in put_other b x w y d ∙ h.held y g (rw o at z) ∙ ap (cut u.legs) (sym o));
      }

  -- a node on the route stands between its neighbours
  module _ (x : ℕ) (i : is_inner n x ≡ true) (o : on_route b x ≡ true) where
    abbrev was : ℕ
    was = index_of x (route_of b)

    inside : (0 < index_of x (route_of b)) × (index_of x (route_of b) + 1 < b.stops)
    inside = inner-inside n b h.sound.small h.sound.wide h.sound.form.route x i o

    here : (k : ℕ) → k ≡ index_of x (route_of b) → get_or b.route k 0 ≡ x
    here k e = ap (λ (t : ℕ). get_or b.route t 0) e ∙ place_at n b h.sound.small h.sound.wide h.sound.form.route x o

    last-stop : get_or last x 0 ≡ get_or b.route (index_of x (route_of b) - 1) 0
    last-stop = ap (λ (t : ℕ). get_or last t 0) (sym (here (was - 1 + 1) (omega (arith, inside.0)))) ∙ h.beside.behind (was - 1) (omega (arith, inside))

    next-stop : get_or next x 0 ≡ get_or b.route (index_of x (route_of b) + 1) 0
    next-stop = ap (λ (t : ℕ). get_or next t 0) (sym (here was refl)) ∙ h.beside.ahead was inside.1

    stop-low : (k : ℕ) → k < b.stops → get_or b.route k 0 < 64
    stop-low k l = omega (arith, h.sound.small, h.sound.form.route.below k l)

    last-low : get_or last x 0 < 64
    last-low = rw last-stop (stop-low (was - 1) (omega (arith, inside.1)))

    next_low : get_or next x 0 < 64
    next_low = rw next-stop (stop-low (was + 1) inside.1)

    left-beside : (j at p k : ℕ) → j + 2 < b.stops → at ≡ j + 1 → p ≡ get_or b.route j 0 → k ≡ get_or b.route (j + 2) 0
        → Beside (b.stops - 1) (remove_in at b.route) (set next p k) (set last k p)
    left-beside j at p k l e f g =
        rw (e, f, g)
        (beside-left b.stops b.route next last h.beside h.sound.form.route.once stop-low j l h.sound.wide.route (omega (arith, h.sound.small, h.sound.form.route.most)))

    beside-unplaced : (w : ℕ) → Beside (unplaced b x w).stops (unplaced b x w).route (set next (get_or last x 0) (get_or next x 0)) (set last (get_or next x 0) (get_or last x 0))
    unfolding unplaced
    beside-unplaced w =
        left-beside (was - 1) was (get_or last x 0) (get_or next x 0) (omega (arith, inside)) (omega (arith, inside.0)) last-stop
        (next-stop ∙ ap (λ (t : ℕ). get_or b.route t 0) (let e : was + 1 ≡ was - 1 + 2 = omega (arith, inside.0) in e))

  pub undoing-placed : (x w : ℕ) → w < 2 ^ 64 → fits_placed n b x w ≡ true
      → Undoing n (unplaced b x w) (told true (u.stops - 1) u.marks u.must (without u.legs x))
      (set next (get_or last x 0) (get_or next x 0)) (set last (get_or next x 0) (get_or last x 0)) (set sets x w)
  unfolding fits_placed
  undoing-placed x w f e =
      let a = and-true (is_inner n x && on_route b x) _ e in
      let q = and-true (is_inner n x) (on_route b x) a.0 in
      let l : within w (without u.legs x) ≡ true = rw h.legs at (and-true (within w (without (legs_of b) x)) _ a.1).0 in
      let s = h.sound in
      let t = placed-sound n b x w s e in
      record {
        sound = t;
        stops = unplaced-stops b x w ∙ ap (λ (k : ℕ). k - 1) h.stops;
        marks = (unplaced-marks b x w).0 ∙ h.marks;
        must = (unplaced-marks b x w).1 ∙ h.must;
        legs = legs-unplaced n b x w s t q.0 q.1 ∙ ap (λ (v : ℕ). without v x) h.legs;
        beside = beside-unplaced x q.0 q.1 w;
        long = length-set sets x w ∙ h.long;
        past = put-past x w q.0;
        held = λ y g v. decided (eqb y x)
            (λ z. rw (eqb-true y x z) (unplaced-here n b x w s.small s.wide s.form q.0 q.1
            ∙ sym (cut-within (without u.legs x) w (without-fits u.legs x legs-low) f l) ∙ ap (cut (without u.legs x)) (sym (put-held x w q.0))))
            (λ z. let d = eqb-false y x z in
            let r = get_or-set_other sets x y w 0 d in
            unplaced-set n b x w s.small s.wide s.form q.0 q.1 y g d ∙ ap (strike x) (h.held y g (rw r at v)) ∙ cut-strike u.legs (get_or sets y 0) x legs-low
            ∙ ap (cut (without u.legs x)) (sym r));
      }

  pub undoing-marked : (x : ℕ) → Undoing n (unmarked b x) (told true u.stops (without u.marks x) u.must u.legs) next last sets
  unfolding unmarked legs_of set_of
  undoing-marked x = record {
    sound = marked-sound n b x h.sound;
    stops = h.stops;
    marks = ap (λ (m : ℕ). without m x) h.marks;
    must = h.must;
    legs = h.legs;
    beside = h.beside;
    long = h.long;
    past = h.past;
    held = h.held;
  }

  pub undoing-obliged : (x : ℕ) → Undoing n (unobliged b x) (told true u.stops u.marks (without u.must x) u.legs) next last sets
  unfolding unobliged legs_of set_of
  undoing-obliged x = record {
    sound = obliged-sound n b x h.sound;
    stops = h.stops;
    marks = h.marks;
    must = ap (λ (m : ℕ). without m x) h.must;
    legs = h.legs;
    beside = h.beside;
    long = h.long;
    past = h.past;
    held = h.held;
  }

  -- ---- the tests as the code makes them

  pub test-shrunk : (x w : ℕ) {v : ℕ} {leg larger : Bool} → is_inner n x ≡ true → (v ≡ cut u.legs (get_or sets x 0)) × (get_or sets x 0 < 2 ^ 64)
      → leg ≡ has u.legs x → larger ≡ strictly v w && within w u.legs → fits_shrunk n b x w ≡ not leg && larger
  test-shrunk x w i f p q = shrunk-test n b x w h.sound i ∙ rw (q, p, f.0, h.held x (inner-low x i) f.1, h.legs) refl

  test_on : (x : ℕ) → is_inner n x ≡ true → on_route b x ≡ has u.legs x
  test_on x i = sym (on-leg n b h.sound.small h.sound.wide h.sound.form x i) ∙ ap (λ (v : ℕ). has v x) h.legs

  module _ (x w : ℕ) {node leg : Bool} (p : node ≡ is_inner n x) (q : leg ≡ has u.legs x) where
    pub test-off : node && leg ≡ false → fits_placed n b x w ≡ false
    unfolding fits_placed
    test-off e =
        decided (is_inner n x)
        (λ i. let o : has u.legs x ≡ false = rw (p ∙ i, q) at e in rw (i, test_on x i, o))
        (λ i. rw i)

    on-both : node && leg ≡ true → (is_inner n x ≡ true) × (on_route b x ≡ true)
    on-both e =
        let a = and-true node leg e in
        let i = sym p ∙ a.0 in
        (i, test_on x i ∙ sym q ∙ a.1)

    -- what taking x from between its neighbours reads and writes is there
    pub placed-low : node && leg ≡ true → (x < 64) × (get_or last x 0 < 64) × (get_or next x 0 < 64)
    placed-low e = let o = on-both e in (inner-low x o.0, last-low x o.0 o.1, next_low x o.0 o.1)

    pub test-placed : node && leg ≡ true → {rest : Bool} → rest ≡ within w (without u.legs x) && has w (get_or last x 0) → fits_placed n b x w ≡ rest
    unfolding stop_before
    test-placed e r = let o = on-both e in placed-test n b x w o.0 o.1 ∙ rw (r, last-stop x o.0 o.1, h.legs) refl

  -- a node that is no place of a word is neither a leg nor on the route
  far : (x : ℕ) → 64 ≤ x → on_route b x ≡ has (legs_of b) x
  far x l =
      decided (on_route b x)
      (λ o. let i = place_in n b h.sound.small h.sound.wide h.sound.form.route x o in
      absurd (omega (arith, h.sound.small, h.sound.form.route.below (index_of x (route_of b)) i, place_at n b h.sound.small h.sound.wide h.sound.form.route x o)))
      (λ o. o ∙ sym (has-high (legs_of b) x (legs-fit b) l))

  pub test-marked : (x w : ℕ) {leg marked : Bool} → leg ≡ has u.legs x → marked ≡ has u.marks x → fits_marked b x w ≡ not leg && (marked && eqb w 0)
  unfolding fits_marked
  test-marked x w p q =
      rw (p, q, ← h.legs, ← h.marks)
      (decided (has b.marks x)
      (λ m. ap (λ (t : Bool). not t && (has b.marks x && eqb w 0)) (decided (ltb x 64)
      (λ l. sym (on-leg n b h.sound.small h.sound.wide h.sound.form x (mark-inner n b h.sound.form x (ltb-true x 64 l) m)))
      (λ l. far x (ltb-false x 64 l))))
      (λ m. rw (m, and-false (not (on_route b x)), and-false (not (has (legs_of b) x))) refl))

  pub test-obliged : (x w : ℕ) {due : Bool} → due ≡ has u.must x → fits_obliged b x w ≡ due && eqb w 0
  unfolding fits_obliged
  test-obliged x w p = rw (p, h.must) refl

-- ---- the arrays put right

pub follows_by : (n : ℕ) (r : code.Undone) (next last sets : List ℕ) {d e : Undone} → d ≡ e → Follows n e r next last sets → Follows n d r next last sets
follows_by n r next last sets p h = subst (λ (a : Undone). Follows n a r next last sets) (sym p) h

pub ended : (n : ℕ) (d : Undone) (u : code.Undone) (next last sets : List ℕ) {route after : List ℕ} → Follows n d u next last sets
    → ((y : ℕ) → y < 64 → get_or sets y 0 < 2 ^ 64) → route ≡ d.1.route → after ≡ map (cut u.legs) sets → d ≡ undid u route after
unfolding set_of
ended n d u next last sets {after = after} f v e q =
    let h = f.1 in
    let s : d.1.sets ≡ after =
    ext_get_or 0 d.1.sets (map (cut u.legs) sets) (h.sound.wide.sets ∙ sym (length-map sets (cut u.legs) ∙ h.long)) (λ y l.
    let g : y < 64 = omega (arith, h.sound.wide.sets) in h.held y g (v y g) ∙ sym (get_d_map (cut u.legs) sets y (omega (arith, h.long)))) ∙ sym q in
    rw (e, ← s, ← h.stops, ← h.marks, ← h.must, ← f.0) refl

swept-long : (l m : List ℕ) (j : ℕ) → length m ≡ length l → length (swept l m j) ≡ length m
unfolding swept
swept-long l m j e = simp (length-append, length-take, length-drop) (omega (arith, e))

-- and is done where both lists agree from there on
pub swept-past : (l m : List ℕ) (j : ℕ) → length m ≡ length l → ((k : ℕ) → j ≤ k → k < length l → get_or l k 0 ≡ get_or m k 0) → swept l m j ≡ m
swept-past l m j e h =
    ext_get_or 0 (swept l m j) m (swept-long l m j e) (λ k b.
    decided (ltb k j) (λ q. swept-behind l m j k e (ltb-true k j q))
    (λ q. swept-ahead l m j k e (ltb-false k j q) ∙ h k (ltb-false k j q) (omega (arith, e, swept-long l m j e))))
