-- 01's listing as bytes.
use Rattle.std.specs.Prelude.{ℕ, zero, suc, ◌+◌, ◌/◌, ◌%◌, cond, List, [], ◌∷◌, ◌++◌, ltb}
use Prim.Native.Char.{code}
use Prim.Native.String.{String, [] as none, ◌∷◌ as ◌then◌}

-- the decimal digits of v, at most f of them, the highest first
unfoldable pub digits : ℕ → ℕ → List ℕ
digits zero v = []
digits (suc f) v = cond (ltb v 10) [] (digits f (v / 10)) ++ ((48 + v % 10) ∷ [])

-- v in decimal; 20 digits hold every 64-bit number
abbrev pub decimal : ℕ → List ℕ
decimal v = digits 20 v

-- a text as bytes
abbrev pub bytes : String → List ℕ
bytes none = []
bytes (c then t) = code c ∷ bytes t

-- a name, a space, a number, and what follows it
unfoldable pub field : List ℕ → ℕ → ℕ → List ℕ
field name v after = name ++ bytes " " ++ decimal v ++ (after ∷ [])

-- three fields
unfoldable pub three_fields : List ℕ → ℕ → List ℕ → ℕ → List ℕ → ℕ → ℕ → List ℕ
three_fields a v b w c u after = field a v (code " ") ++ field b w (code " ") ++ field c u after

-- the line of a step: step from 1, refusal or 0, open places in all, records, striking rounds, verdict
unfoldable pub step_line : ℕ → ℕ → ℕ → ℕ → ℕ → ℕ → List ℕ
step_line i answer places records rounds alive =
    three_fields (bytes "step") i (bytes "answer") answer (bytes "open") places (code " ")
    ++ three_fields (bytes "records") records (bytes "rounds") rounds (bytes "alive") alive (code "\n")

-- a stop of the route, after a space
unfoldable pub stop_text : ℕ → List ℕ
stop_text x = bytes " " ++ decimal x

-- the stops one after another
unfoldable pub stops_text : List ℕ → List ℕ
stops_text [] = []
stops_text (x ∷ r) = stop_text x ++ stops_text r

-- the line of the route
unfoldable pub route_line : List ℕ → List ℕ
route_line r = bytes "route" ++ stops_text r ++ bytes "\n"

-- the one line of a refused sheet
unfoldable pub refused_line : ℕ → List ℕ
refused_line k = field (bytes "refused") k (code "\n")
