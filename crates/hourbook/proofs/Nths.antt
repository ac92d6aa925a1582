-- What is at a place of a table. Assumes nothing.
use Rattle.std.proofs.Common.{◌≡◌, ℕ, zero, suc, List, [], ◌∷◌, length, Some, None, Ok, Err, Option, Result, Bor, sym, refl}
use Rattle.std.specs.List.{slice_get, zip}
use Rattle.std.specs.Option.{option_map, option_and_then, option_copied}
use Rattle.std.specs.Result.{result_ok}
use Rattle.std.specs.Slice.{IsItemAt}
use Rattle.std.proofs.lemmas.Option.{slice_get_read, slice_get_past}
use Rattle.hourbook.specs.declared.region.fault.Flaw.{Flaw}

pub copied_from_item : {X : Type 0} (xs : List X) (k : ℕ) (r : Option (Bor X)) → IsItemAt xs k r → option_copied r ≡ slice_get xs k
copied_from_item xs k None h = sym (slice_get_past xs k h.3)
copied_from_item xs k (Some x) h = sym (slice_get_read xs (length xs) k x.now refl h.3.0 h.1)

none_from_none : {A B : Type 0} (o : Option A) → ◌≡◌ {A = Option B} None (option_and_then (λ _. None) o)
none_from_none None = refl
none_from_none (Some x) = refl

pub slice_get-zip : {A B : Type 0} (xs : List A) (ys : List B) (k : ℕ) → slice_get (zip xs ys) k ≡ option_and_then (λ x. option_map (λ y. (x, y)) (slice_get ys k)) (slice_get xs k)
slice_get-zip [] ys k = refl
slice_get-zip (x ∷ xs) [] zero = refl
slice_get-zip (x ∷ xs) [] (suc k) = none_from_none (slice_get xs k)
slice_get-zip (x ∷ xs) (y ∷ ys) zero = refl
slice_get-zip (x ∷ xs) (y ∷ ys) (suc k) = slice_get-zip xs ys k

pub sound : (verdict : Result (Unit {0}) Flaw) → result_ok verdict ≡ Some tt → verdict ≡ Ok tt
sound (Ok _) e = refl
sound (Err f) e = cc
