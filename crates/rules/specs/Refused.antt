-- Why a sheet or a step is refused, and the number that 01's table, or 02, gives it.
use Rattle.std.specs.Prelude.{ℕ, Result, Ok, Err}
use Rattle.rules.specs.Numbers.{refusal}
use Rattle.rules.specs.declared.Refusal.{Refusal}
use Rattle.rules.specs.declared.Refusal.TheVariants.{Short, Count, Value, Twice, Triangle, Heavy, Class, Kind, Node, Placed, Unplaced, Shut, Owed, Room, Depth, Form, Misfit, Van, Claimed}

-- the number of a refusal
abbrev pub number_of : Refusal → ℕ
number_of Short = refusal.SHORT
number_of Count = refusal.COUNT
number_of Value = refusal.VALUE
number_of Twice = refusal.TWICE
number_of Triangle = refusal.TRIANGLE
number_of Heavy = refusal.HEAVY
number_of Class = refusal.CLASS
number_of Kind = refusal.KIND
number_of Node = refusal.NODE
number_of Placed = refusal.PLACED
number_of Unplaced = refusal.UNPLACED
number_of Shut = refusal.SHUT
number_of Owed = refusal.OWED
number_of Room = refusal.ROOM
number_of Depth = refusal.DEPTH
number_of Form = refusal.FORM
number_of Misfit = refusal.MISFIT
number_of Van = refusal.VAN
number_of Claimed = refusal.CLAIMED

-- the number that an answer gives: 0 where nothing is refused
abbrev pub number_in : {A : Type 0} → Result A Refusal → ℕ
number_in (Ok a) = 0
number_in (Err e) = number_of e
