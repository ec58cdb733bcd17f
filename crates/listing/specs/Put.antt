-- Bytes put into a buffer from a place on.
use Rattle.std.specs.Prelude.{ℕ, ◌+◌, ◌≡◌, List, length}
use Rattle.std.proofs.lemmas.List.Edits.{sets}

-- the buffer after `text` was put at `at`, and the place after it
pub record Put (before : List ℕ) (at : ℕ) (text : List ℕ) (next : ℕ) (after : List ℕ) : Type 0 where
  pub bytes : after ≡ sets before at text
  pub next-is : next ≡ at + length text
