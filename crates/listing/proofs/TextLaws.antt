-- The laws of the digits: one number's digits from those of a tenth or a hundredth of it, and how many there are; fields and lines.
use Prim.Native.Nat.{ℕ, zero, suc, ◌+◌, ◌*◌, ◌/◌, ◌%◌, ◌^◌, ◌≤◌, ◌<◌}
use Prim.Native.Char.{code}
use mathlib.Core.Path.{◌≡◌, refl, sym, ap, ◌∙◌}
use mathlib.Core.Bool.{Bool, true, false, cond}
use mathlib.Core.List.{List, [], ◌∷◌, ◌++◌, append_assoc, append-nil}
use native.Mathlib.Omega.{arith}
use native.Mathlib.Nat.{pow-succ'}
use lib.Dec.{ltb}
use native.Mathlib.Numerals.{add-one}
use lib.ListN.{length, get_or, take, length-append, length-take}
use lib.Seq.{take-suc}
use borrow.Author.Tests.{lt-ltb, le-ltb}
use Rattle.listing.specs.Text.{digits, decimal, field, three_fields, step_line, stop_text, stops_text, route_line, bytes}
use Rattle.listing.specs.Put.{Put}
use Rattle.listing.proofs.PutLaws.{put_then, put-length, Takes}

-- room for one digit more changes nothing where the number has no more digits
pub digits-room : (f v : ℕ) → v < 10 ^ suc f → digits (suc (suc f)) v ≡ digits (suc f) v
unfolding digits
digits-room zero v h = rw (lt-ltb v 10 h)
digits-room (suc f) v h =
    let t : v / 10 < 10 ^ suc f = omega (arith, pow-succ' 10 (suc f)) in
    ap (λ (l : List ℕ). cond (ltb v 10) [] l ++ ((48 + v % 10) ∷ [])) (digits-room f (v / 10) t)

pub digits-few : (f v : ℕ) → length (digits f v) ≤ f
unfolding digits
digits-few zero v = omega arith
digits-few (suc f) v = go (ltb v 10) (digits-few f (v / 10))
  where
    go : (b : Bool) → length (digits f (v / 10)) ≤ f → length (cond b [] (digits f (v / 10)) ++ ((48 + v % 10) ∷ [])) ≤ suc f
    go true h = omega arith
    go false h = omega (arith, length-append (digits f (v / 10)) ((48 + v % 10) ∷ []))

-- a number below ten
pub decimal-one : (v : ℕ) → v < 10 → decimal v ≡ (48 + v) ∷ []
unfolding digits
decimal-one v h = let e : v % 10 ≡ v = omega arith in rw (lt-ltb v 10 h, e) refl

decimal-next : (v : ℕ) → 10 ≤ v → decimal v ≡ digits 19 (v / 10) ++ ((48 + v % 10) ∷ [])
unfolding digits
decimal-next v l = rw (le-ltb v 10 l)

-- a larger one: the digits of a tenth, then the last
pub decimal-more : (v : ℕ) → v < 2 ^ 64 → 10 ≤ v → decimal v ≡ decimal (v / 10) ++ ((48 + v % 10) ∷ [])
decimal-more v h l = decimal-next v l ∙ ap (λ (t : List ℕ). t ++ ((48 + v % 10) ∷ [])) (sym (digits-room 18 (v / 10) (omega arith)))

-- the two digits of a number below 100, the first of them 0 for a number below ten
abbrev pair : ℕ → List ℕ
pair v = (48 + v / 10) ∷ (48 + v % 10) ∷ []

decimal-two : (v : ℕ) → v < 100 → 10 ≤ v → decimal v ≡ pair v
decimal-two v h l = decimal-more v (omega arith) l ∙ ap (λ (t : List ℕ). t ++ ((48 + v % 10) ∷ [])) (decimal-one (v / 10) (omega arith))

-- from 100 on: the digits of a hundredth, then the last two
decimal-hundred : (v : ℕ) → v < 2 ^ 64 → 100 ≤ v → decimal v ≡ decimal (v / 100) ++ pair (v % 100)
decimal-hundred v h l =
    let tens : v / 10 / 10 ≡ v / 100 = omega arith in
    let last : v % 100 % 10 ≡ v % 10 = omega arith in
    let one : v % 100 / 10 ≡ v / 10 % 10 = omega arith in
    decimal-more v h (omega arith)
    ∙ ap (λ (t : List ℕ). t ++ ((48 + v % 10) ∷ [])) (decimal-more (v / 10) (omega arith) (omega arith))
    ∙ append_assoc (decimal (v / 10 / 10)) ((48 + v / 10 % 10) ∷ []) ((48 + v % 10) ∷ [])
    ∙ rw (tens, last, one) refl

-- a hundredth of a 64-bit number has at most 18 digits
pub hundredth-short : (v : ℕ) → v < 2 ^ 64 → length (decimal (v / 100)) ≤ 18
hundredth-short v h =
    omega (arith, ap length (digits-room 18 (v / 100) (omega arith)), ap length (digits-room 17 (v / 100) (omega arith)), digits-few 18 (v / 100))

-- a number put into a buffer: one digit, two, or a hundredth of it and then the last two
pub put_one : {b c : List ℕ} {at next : ℕ} (v : ℕ) → v < 10 → Put b at ((48 + v) ∷ []) next c → Put b at (decimal v) next c
put_one v h p = rw (decimal-one v h) p

pub put_two : {b c : List ℕ} {at next : ℕ} (v : ℕ) → v < 100 → 10 ≤ v → Put b at (pair v) next c → Put b at (decimal v) next c
put_two v h l p = rw (decimal-two v h l) p

pub put-hundred : {b m c : List ℕ} {at i next : ℕ} (v : ℕ) → v < 2 ^ 64 → 100 ≤ v
    → Put b at (decimal (v / 100)) i m → Put m i (pair (v % 100)) next c → Put b at (decimal v) next c
put-hundred v h l p q = rw (decimal-hundred v h l) (put_then p q)

-- a number takes at most 20 bytes
pub takes-number : {b c : List ℕ} {at next : ℕ} (v : ℕ) → Put b at (decimal v) next c → Takes b at 20 next c
takes-number v p = record { ends = omega (arith, p.next-is, digits-few 20 v); same = put-length p }

field-few : (name : List ℕ) (v after : ℕ) → length (field name v after) ≤ length name + 22
unfolding field
field-few name v after =
    omega (arith, length-append (name ++ bytes " " ++ decimal v) (after ∷ []), length-append (name ++ bytes " ") (decimal v), length-append name (bytes " "), digits-few 20 v)

-- what a field takes of the buffer: at most 22 bytes more than its name
pub field-takes : {b c : List ℕ} {at next : ℕ} (name : List ℕ) (v after : ℕ) → Put b at (field name v after) next c → (next ≤ at + length name + 22) × (length c ≡ length b)
field-takes name v after p = (omega (arith, p.next-is, field-few name v after), put-length p)

-- the space before a field's name goes to the text between two numbers
label-join : (x name d e : List ℕ) → (x ++ bytes " ") ++ (name ++ bytes " " ++ d ++ e) ≡ x ++ (bytes " " ++ name ++ bytes " ") ++ d ++ e
label-join x name d e =
    sym (append_assoc (x ++ bytes " ") (name ++ bytes " " ++ d) e)
    ∙ ap (λ (t : List ℕ). t ++ e) (sym (append_assoc (x ++ bytes " ") (name ++ bytes " ") d) ∙ ap (λ (t : List ℕ). t ++ d) (append_assoc x (bytes " ") (name ++ bytes " ")))

-- three fields as numbers and the texts between them
pub put-fields : {b c : List ℕ} {at next : ℕ} (a₁ : List ℕ) (v : ℕ) (a₂ : List ℕ) (w : ℕ) (a₃ : List ℕ) (u after : ℕ)
    → Put b at (a₁ ++ bytes " " ++ decimal v ++ (bytes " " ++ a₂ ++ bytes " ") ++ decimal w ++ (bytes " " ++ a₃ ++ bytes " ") ++ decimal u ++ (after ∷ [])) next c
    → Put b at (three_fields a₁ v a₂ w a₃ u after) next c
unfolding field three_fields
put-fields {b} {c} {at} {next} a₁ v a₂ w a₃ u after p =
    let first = a₁ ++ bytes " " ++ decimal v in
    let second = first ++ (bytes " " ++ a₂ ++ bytes " ") ++ decimal w in
    let e = ap (λ (t : List ℕ). t ++ (a₃ ++ bytes " " ++ decimal u ++ (after ∷ []))) (label-join first a₂ (decimal w) (bytes " ")) ∙ label-join second a₃ (decimal u) (after ∷ []) in
    rw e p

-- what three fields take of the buffer
three-few : (a₁ : List ℕ) (v : ℕ) (a₂ : List ℕ) (w : ℕ) (a₃ : List ℕ) (u after : ℕ)
    → length (three_fields a₁ v a₂ w a₃ u after) ≤ length a₁ + length a₂ + length a₃ + 66
unfolding three_fields
three-few a₁ v a₂ w a₃ u after =
    omega (arith, length-append (field a₁ v (code " ") ++ field a₂ w (code " ")) (field a₃ u after), length-append (field a₁ v (code " ")) (field a₂ w (code " ")), field-few a₁ v (code " "), field-few a₂ w (code " "), field-few a₃ u after)

pub three-takes : {d c : List ℕ} {at next : ℕ} (a₁ : List ℕ) (v : ℕ) (a₂ : List ℕ) (w : ℕ) (a₃ : List ℕ) (u after : ℕ) → Put d at (three_fields a₁ v a₂ w a₃ u after) next c
    → (next ≤ at + length a₁ + length a₂ + length a₃ + 66) × (length c ≡ length d)
three-takes a₁ v a₂ w a₃ u after p = (omega (arith, p.next-is, three-few a₁ v a₂ w a₃ u after), put-length p)

-- the line of a step
pub step-takes : {d c : List ℕ} {at next : ℕ} (i answer places records rounds alive : ℕ) → Put d at (step_line i answer places records rounds alive) next c
    → (next ≤ at + 200) × (length c ≡ length d)
unfolding step_line
step-takes i answer places records rounds alive p =
    let l = three-few (bytes "step") i (bytes "answer") answer (bytes "open") places (code " ") in
    let r = three-few (bytes "records") records (bytes "rounds") rounds (bytes "alive") alive (code "\n") in
    (omega (arith, p.next-is, l, r, length-append (three_fields (bytes "step") i (bytes "answer") answer (bytes "open") places (code " ")) (three_fields (bytes "records") records (bytes "rounds") rounds (bytes "alive") alive (code "\n"))), put-length p)

-- the route line grows stop by stop, at most 21 bytes each
stops-append : (l : List ℕ) (x : ℕ) → stops_text (l ++ (x ∷ [])) ≡ stops_text l ++ stop_text x
unfolding stops_text
stops-append [] x = append-nil (stop_text x)
stops-append (y ∷ l) x = ap (λ (t : List ℕ). stop_text y ++ t) (stops-append l x) ∙ sym (append_assoc (stop_text y) (stops_text l) (stop_text x))

pub stops-none : (b : List ℕ) (at : ℕ) → Put b at (stops_text []) at b
unfolding stops_text
stops-none b at = record { bytes = refl; next-is = omega arith }

pub stops-turn : {b m c : List ℕ} {at i next : ℕ} (l : List ℕ) (k : ℕ) → k < length l → Put b at (stops_text (take k l)) i m → Put m i (stop_text (get_or l k 0)) next c
    → Put b at (stops_text (take (k + 1) l)) next c
stops-turn l k h p q = rw (add-one, take-suc l k 0 h, stops-append) (put_then p q)

stop-few : (x : ℕ) → length (stop_text x) ≤ 21
unfolding stop_text
stop-few x = omega (arith, length-append (bytes " ") (decimal x), digits-few 20 x)

pub stop-takes : {b c : List ℕ} {at next : ℕ} (x : ℕ) → Put b at (stop_text x) next c → (next ≤ at + 21) × (length c ≡ length b)
stop-takes x p = (omega (arith, p.next-is, stop-few x), put-length p)

stops-few : (l : List ℕ) → length (stops_text l) ≤ 21 * length l
unfolding stops_text
stops-few [] = omega arith
stops-few (x ∷ l) = omega (arith, length-append (stop_text x) (stops_text l), stop-few x, stops-few l)

pub stops-take : {b c : List ℕ} {at next : ℕ} (l : List ℕ) (k : ℕ) → Put b at (stops_text (take k l)) next c → (next ≤ at + 21 * k) × (length c ≡ length b)
stops-take l k p = (omega (arith, p.next-is, stops-few (take k l), length-take k l), put-length p)

-- the whole line of a route of at most 64 stops
pub route-takes : {b c : List ℕ} {at next : ℕ} (l : List ℕ) (k : ℕ) → k ≤ 64 → Put b at (route_line (take k l)) next c → (next ≤ at + 1350) × (length c ≡ length b)
unfolding route_line
route-takes l k h p =
    (omega (arith, p.next-is, length-append (bytes "route" ++ stops_text (take k l)) (bytes "\n"), length-append (bytes "route") (stops_text (take k l)), stops-few (take k l), length-take k l), put-length p)
