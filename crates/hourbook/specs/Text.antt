-- Lines of text: a letter, then numbers in decimal.
use Rattle.std.specs.Prelude.{ℕ, List, [], ◌∷◌, ◌++◌, ℤ}
use Rattle.std.specs.Fmt.{signed_decimal}

-- a space and a number for each field, and the line's end
abbrev pub fields_of : List ℤ → List ℕ
fields_of [] = 10 ∷ []
fields_of (z ∷ zs) = 32 ∷ (signed_decimal z ++ fields_of zs)

-- a letter, then the fields
unfoldable pub line_of : ℕ → List ℤ → List ℕ
line_of letter zs = letter ∷ fields_of zs
