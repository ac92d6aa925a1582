-- What a fault or a missing value becomes. Assumes nothing.
use Rattle.std.proofs.Common.{◌≡◌, is_ok, Ok, Err, Result, Some, None, Option, sym, subst}
use Rattle.std.specs.Option.{MatchOption, ok_or}
use Rattle.std.specs.Result.{IsErrAnd, MatchResult}

-- an error that `?` hands on as it is
pub handed_on : {T E : Type 0} (r : Result T E) (P : T → Type 0) (Q : E → Type 0) (d : E) → IsErrAnd r (λ y. y ≡ d) → Q d → MatchResult r P Q
handed_on (Ok x) P Q d h q = absurd h
handed_on (Err y) P Q d h q = subst Q (sym h) q

-- what is told of an option, of the result that `ok_or` makes of it
pub ok_or_told : {T E N : Type 0} {S : T → Type 0} (o : Option T) (e : E) (P : T → Type 0) (Q : E → Type 0) → MatchOption o N S → (N → Q e) → ((x : T) → S x → P x) → MatchResult (ok_or o e) P Q
ok_or_told None e P Q h none some = none h
ok_or_told (Some x) e P Q h none some = some x h

-- a value that `map_err` leaves was there before
pub ok_from_mapped : {T D E : Type 0} (Q : E → Type 0) (o : Result T E) (r : Result T D) (x : T) → MatchResult o (λ v. r ≡ Ok v) Q → is_ok r ≡ is_ok o → r ≡ Ok x → o ≡ Ok x
ok_from_mapped Q (Ok v) r x cases same is = cc
ok_from_mapped Q (Err e) r x cases same is = cc
