-- The sheet of document 01 as bytes, in the layout that 02, No. 7 and 11, give it, with the numbers that its examples alter.
use Rattle.std.specs.Prelude.{ℕ, ◌/◌, ◌%◌, List, [], ◌∷◌}

-- a word before the rest, the lowest byte first
infixr 40 ◌▸◌
abbrev pub ◌▸◌ : ℕ → List ℕ → List ℕ
w ▸ r = w % 256 ∷ w / 256 % 256 ∷ w / 65536 % 256 ∷ w / 16777216 % 256 ∷ r

-- section 3 of the paper: one transfer, from 1 to 2, of load 2
abbrev pub paper_jobs : List ℕ → List ℕ
paper_jobs r = 1 ▸ 3 ▸ 1 ▸ 2 ▸ 2 ▸ r

-- section 4 or 5: the 16 numbers, with the one from node 3 to node 0
abbrev pub table_with : ℕ → List ℕ → List ℕ
table_with back r = 16 ▸ 0 ▸ 10 ▸ 20 ▸ 30 ▸ 10 ▸ 0 ▸ 10 ▸ 20 ▸ 20 ▸ 10 ▸ 0 ▸ 10 ▸ back ▸ 20 ▸ 10 ▸ 0 ▸ r

-- section 6: the eight steps of the paper, behind their count
abbrev pub steps_with : ℕ → List ℕ
steps_with count = count ▸ 5 ▸ 0 ▸ 0 ▸ 6 ▸ 0 ▸ 0 ▸ 1 ▸ 0 ▸ 2 ▸ 5 ▸ 0 ▸ 0 ▸ 1 ▸ 2 ▸ 1 ▸ 1 ▸ 0 ▸ 1 ▸ 5 ▸ 0 ▸ 0 ▸ 7 ▸ 0 ▸ 0 ▸ []

-- section 2: the four nodes, with the class set of node 1, and the latest of nodes 2 and 3; the other class sets are 1
abbrev pub nodes_of : ℕ → ℕ → ℕ → List ℕ → List ℕ
nodes_of set1 latest2 latest3 r = 4 ▸ 0 ▸ 0 ▸ 0 ▸ 1 ▸ 0 ▸ 100 ▸ 5 ▸ set1 ▸ 0 ▸ latest2 ▸ 5 ▸ 1 ▸ 0 ▸ latest3 ▸ 0 ▸ 1 ▸ r

-- the same with class set 1 at every node
abbrev pub nodes_with : ℕ → ℕ → List ℕ → List ℕ
nodes_with = nodes_of 1

-- the sheet with its van's limits, the latest of nodes 2 and 3, and what stands behind the nodes; the van's bit is 1, the profile 0
abbrev pub sheet_of : ℕ → ℕ → ℕ → ℕ → List ℕ → List ℕ
sheet_of capacity limit latest2 latest3 r = 4 ▸ capacity ▸ limit ▸ 1 ▸ 0 ▸ nodes_with latest2 latest3 r

-- the jobs of P9, each within capacity 2, and together too much: soiled at 1 of load 2, soiled at 2 of load 1
abbrev pub tight_jobs : List ℕ → List ℕ
tight_jobs r = 2 ▸ 2 ▸ 1 ▸ 0 ▸ 2 ▸ 2 ▸ 2 ▸ 0 ▸ 1 ▸ r

-- the sheet of P9: those jobs, and the latest of node 2 is 100
abbrev pub tight_sheet : List ℕ
tight_sheet = sheet_of 2 60 100 100 (tight_jobs (table_with 30 (table_with 30 (steps_with 8))))

-- the paper's sheet, where node 1 does not admit the van
abbrev pub shut_sheet : List ℕ
shut_sheet = 4 ▸ 2 ▸ 60 ▸ 1 ▸ 0 ▸ nodes_of 2 25 100 (paper_jobs (table_with 30 (table_with 30 (steps_with 8))))

-- the numbers that the others of P1 to P12 alter: capacity, metre limit, latest of node 2, latest of node 3. The paper's are 2, 60, 25, 100
abbrev pub sheet_with : ℕ → ℕ → ℕ → ℕ → List ℕ
sheet_with capacity limit latest2 latest3 = sheet_of capacity limit latest2 latest3 (paper_jobs (table_with 30 (table_with 30 (steps_with 8))))

-- clean at 1 and soiled at 2, of load 1 each
abbrev pub mixed_jobs : List ℕ → List ℕ
mixed_jobs r = 2 ▸ 1 ▸ 1 ▸ 0 ▸ 1 ▸ 2 ▸ 2 ▸ 0 ▸ 1 ▸ r

-- the same, and clean at 2 too
abbrev pub both_jobs : List ℕ → List ℕ
both_jobs r = 3 ▸ 1 ▸ 1 ▸ 0 ▸ 1 ▸ 2 ▸ 2 ▸ 0 ▸ 1 ▸ 1 ▸ 2 ▸ 0 ▸ 1 ▸ r

-- the paper's sheet with this capacity, this number behind its van and these jobs; the latest of node 2 is 100
abbrev pub profile_sheet : ℕ → ℕ → (List ℕ → List ℕ) → List ℕ
profile_sheet capacity profile jobs = 4 ▸ capacity ▸ 60 ▸ 1 ▸ profile ▸ nodes_with 100 100 (jobs (table_with 30 (table_with 30 (steps_with 8))))
