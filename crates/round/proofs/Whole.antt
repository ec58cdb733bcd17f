-- What is printed for a sheet does not hang on what stands behind the byte by which it is too long.
use Rattle.std.proofs.Common.{ℕ, ◌<◌, ◌≤◌, ◌≡◌, arith, List, [], ◌++◌, length, take, Some, None, IfSome, Result, Ok, Err, ◌⊎◌, inl, inr, refl, sym, ap, ◌∙◌, subst, append-nil}
use Rattle.std.proofs.Math.Nat.{eq-or-lt_of_le}
use Rattle.std.proofs.lemmas.List.{length-append}
use Rattle.std.specs.declared.option.Option.{Option}
use Rattle.std.specs.Prelude.{OnOk}
use lib.ListN.{length-take}
use borrow.Author.Tests.{lt-ltb}
use Rattle.std.specs.Io.KnownBytes.{Consumes, IsAtEnd}
use Rattle.dock.specs.Listing.{printed}

printed-long : (xs ys : List ℕ) → 60396 < length xs → printed (xs ++ ys) ≡ printed xs
unfolding printed
printed-long xs ys long =
    rw (lt-ltb 60396 (length (xs ++ ys)) (omega (arith, length-append xs ys, long))) (rw (lt-ltb 60396 (length xs) long) refl)

-- the buffer is full, or all of the sheet is in it
printed-front : (xs ys buf : List ℕ) (n : ℕ) → xs ≡ take n buf ++ ys → (n < length buf → ys ≡ []) → length buf ≡ 60397 → (n ≡ length buf) ⊎ (n < length buf)
    → printed (take n buf) ≡ printed xs
printed-front xs ys buf n split end size (inl full) =
    sym (printed-long (take n buf) ys (omega (arith, length-take n buf, full, size))) ∙ ap printed (sym split)
printed-front xs ys buf n split end size (inr short) =
    ap printed (sym (append-nil (take n buf)) ∙ ap (λ l. take n buf ++ l) (sym (end short)) ∙ sym split)

-- the first bytes of an input were read, as many as fit: what is printed for those is what is printed for all of it
pub printed-whole : (old new : Option (List ℕ)) (n : ℕ) (buf : List ℕ) (P : List ℕ → Type 0)
    → Consumes old new (take n buf) → (n < length buf → IsAtEnd new) → length buf ≡ 60397 → n ≤ length buf
    → P (printed (take n buf)) → IfSome old (λ sheet. P (printed sheet))
printed-whole None new n buf P took end size fits p = tt
printed-whole (Some xs) None n buf P took end size fits p = absurd took
printed-whole (Some xs) (Some ys) n buf P took end size fits p = subst P (printed-front xs ys buf n took end size (eq-or-lt_of_le fits)) p

pub OnOk-map : {T E P Q : Type 0} (r : Result T E) → (P → Q) → OnOk r P → OnOk r Q
OnOk-map (Ok x) f p = f p
OnOk-map (Err e) f p = p
