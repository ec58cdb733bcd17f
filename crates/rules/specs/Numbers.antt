-- The numbers of 01 and 02, named once: why a sheet or a step is refused, the kinds of steps, and what the words of a step say.
use Rattle.std.specs.Prelude.{ℕ, ◌/◌, ◌%◌}
use Rattle.rules.specs.declared.Step.{Step}

-- why a sheet or a step is refused: the numbers of 01's table, and of 02
abbrev pub refusal : record { SHORT : ℕ; COUNT : ℕ; VALUE : ℕ; TWICE : ℕ; TRIANGLE : ℕ; HEAVY : ℕ; CLASS : ℕ; KIND : ℕ; NODE : ℕ; PLACED : ℕ; UNPLACED : ℕ; SHUT : ℕ; OWED : ℕ; ROOM : ℕ; DEPTH : ℕ; FORM : ℕ; MISFIT : ℕ; VAN : ℕ; CLAIMED : ℕ }
refusal = record {
  SHORT = 1;  -- "byte length not a multiple of 4, a count missing, a section short, words left over"
  COUNT = 2;  -- "a count out of its range"
  VALUE = 3;  -- "a word in sections 1 to 3, or a table entry, against its rule; job node or kind wrong"
  TWICE = 4;  -- "a node with two jobs of one kind, or two transfer ends"
  TRIANGLE = 5;  -- "for some three different i, j, k: seconds or metres (i, k) above (i, j) + (j, k)"
  HEAVY = 6;  -- "a job load above the capacity", and "for a fleet the largest capacity counts"
  CLASS = 7;  -- "a start or end that does not admit a van"
  KIND = 11;  -- "unknown step kind"
  NODE = 12;  -- "x not in 1 to n−2, or p not in 0 to n−2"
  PLACED = 13;  -- "x on the route (steps 1 to 4)"
  UNPLACED = 14;  -- "p not on the route"
  SHUT = 15;  -- "the place is not open"
  OWED = 16;  -- "excluding an owed node"
  ROOM = 17;  -- "records needed exceed the room left"
  DEPTH = 18;  -- "a 65th level, or stepping back with none"
  FORM = 19;  -- "state out of form"
  MISFIT = 20;  -- "a record to be undone does not fit"
  VAN = 21;  -- "van number out of range"
  CLAIMED = 22;  -- "another van owes the ward"
}

-- the kinds of steps
abbrev pub kinds : record { PLACE : ℕ; CLOSE : ℕ; EXCLUDE : ℕ; REQUIRE : ℕ; SETTLE : ℕ; LEVEL : ℕ; BACK : ℕ; OBLIGE : ℕ }
kinds = record {
  PLACE = 1;  -- "1 p x, place x after p"
  CLOSE = 2;  -- "2 p x, close the place"
  EXCLUDE = 3;  -- "3 x, exclude: close all its places"
  REQUIRE = 4;  -- "4 x, require"
  SETTLE = 5;  -- "5, settle"
  LEVEL = 6;  -- "6, open a level"
  BACK = 7;  -- "7, step back: undo to the last level and drop it"
  OBLIGE = 8;  -- "Step 8 x sets that mark": x must go somewhere
}

-- "Up to eight vans over the same wards"
abbrev pub most_vans : ℕ
most_vans = 8

-- what the first word of a step counts: "256 times the van (from 0) plus the kind"
abbrev pub van_weight : ℕ
van_weight = 256

-- the step that three words say
abbrev pub step_said : ℕ → ℕ → ℕ → Step
step_said word first second = record { van = word / van_weight; kind = word % van_weight; first = first; second = second }
